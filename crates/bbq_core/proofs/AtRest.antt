-- At the start all seats are at rest, and nothing is accepted.
use Rattle.std.proofs.Common.{sym, ap, arith}
use Rattle.std.proofs.lemmas.List.Folds.{sum_by-replicate}
use Rattle.cursor_word.specs.Shape.{Grid, IsWithinLimits}
use Rattle.machine.specs.Steps.{resting, start_state}
use Rattle.machine.proofs.Lists.{get_replicate}
use Rattle.machine.proofs.Turns.{start_total}
use Rattle.bbq_core.specs.declared.phase.Phase.{Phase}
use Rattle.bbq_core.specs.Types.{View}
use Rattle.put_side.specs.Counts.{taken_count}
use Rattle.bbq_core.specs.Alone.{IsStill}
use Rattle.bbq_core.proofs.Starts.{starts}

pub start_still : (g : Grid) → IsWithinLimits g → IsStill g 0 0 (start_state Phase g).words (start_state Phase g).views
start_still g limits =
    let s = starts g limits in
    record {
      front = s.front;
      back = s.back;
      sound = s.sound;
      manned = s.manned;
      rest = λ j u at. sym (ap (λ (v : View). v.phase) (get_replicate g.seats (resting Phase g) j u at));
      made = start_total Phase g;
      taken = let e = sum_by-replicate taken_count g.seats (resting Phase g) in omega (arith, e);
    }
