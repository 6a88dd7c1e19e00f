-- How many entries a call adds to its seat's lists.
use Rattle.std.proofs.Common.{◌≡◌, ℕ, ◌+◌, List, [], ◌∷◌, length, length-append, ap, ◌∙◌, arith}
use Rattle.rail.specs.Items.{placed}
use Rattle.rail.specs.declared.entry.Placed.{Placed}
use Rattle.rail.specs.declared.answer.Put.{Put}
use Rattle.rail.specs.declared.answer.Put.TheVariants as put
use Rattle.rail.specs.declared.answer.Take.{Take}
use Rattle.rail.specs.declared.answer.Take.TheVariants as take
use Rattle.call_steps.specs.Call.{PutLeaves, TakeLeaves}
use Rattle.call_steps.specs.Queue.{puts_by, takes_by}

pub put_counts : (old new : List Placed) (entry : List ℕ) (a : Put) → PutLeaves old new entry a → length new ≡ length old + puts_by a
put_counts old new entry (put.Ok place) e = ap length e ∙ length-append old (placed place entry ∷ [])
put_counts old new entry (put.Full head consumed) e = ap length e ∙ omega arith
put_counts old new entry (put.Busy reason) e = ap length e ∙ omega arith

pub take_counts : (old new : List Placed) (out_old out : List ℕ) (a : Take) → TakeLeaves old new out_old out a → length new ≡ length old + takes_by a
take_counts old new out_old out (take.Ok place) e = ap length e ∙ length-append old (placed place out ∷ [])
take_counts old new out_old out (take.Empty place) e = ap length e.0 ∙ omega arith
take_counts old new out_old out (take.Busy reason) e = ap length e.0 ∙ omega arith
take_counts old new out_old out (take.Overrun place now) e = ap length e ∙ omega arith
