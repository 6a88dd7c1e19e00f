use Rattle.folded_runs.proofs.Runs.{is_nested, lines_add_up}
use Rattle.folded_runs.proofs.laws.worker_lines_add_up.Goals as goal

pub returns : goal.returns
returns c = record { nested = is_nested; adds_up = lines_add_up }
