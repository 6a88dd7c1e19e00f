use Rattle.std.proofs.Common.{◌-◌, ◌≤◌, length}
use Rattle.word_text.specs.Pieces.{pieces_of}
use Rattle.word_text.proofs.Cuts.{left_pieces, Gains}
use Rattle.word_text.proofs.plan.pieces.Given as goal

abbrev pub invariant-loop-start : goal.invariant-loop-start
invariant-loop-start l = record {
  within : l.start ≤ length l.text;
  gains : Gains l.initial.plan l.plan (left_pieces l.text l.file l.k l.start) (pieces_of l.text l.file l.k);
}

abbrev pub decreases-loop-start : goal.decreases-loop-start
decreases-loop-start l = length l.initial.text - l.start
