use Rattle.trace_read.proofs.ReadBack.{trace_text_reads_back}
use Rattle.trace_read.proofs.laws.trace_text_reads_back.Goals as goal

pub returns : goal.returns
returns c = trace_text_reads_back
