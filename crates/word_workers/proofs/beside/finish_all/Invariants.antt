use Rattle.std.proofs.Common.{◌≡◌, ℕ, List, length}
use Rattle.std.specs.Prelude.{Option}
use Rattle.std.specs.Vec.Iter.{into_iter_items, into_iter_len}
use Rattle.claim_table.specs.Claimed.{Claimant}
use Rattle.flow_io.specs.Clock.{Ticks}
use Rattle.word_text.specs.declared.plan.Piece.{Piece}
use Rattle.word_workers.specs.Spans.{AllLieIn}
use Rattle.word_workers.specs.Child.{AreChildren}
use Rattle.word_workers.proofs.Finishing.{Finishing}
use Rattle.word_workers.proofs.beside.finish_all.Given as goal

abbrev pub invariant-loop-child : goal.invariant-loop-child
invariant-loop-child g l = record {
  len : into_iter_len l.child-iterator ≡ length (into_iter_items l.child-iterator);
  finishing : (plan : List Piece) (texts : List (List ℕ)) (clock : ℕ → Option Ticks) (claim : Claimant) → AllLieIn texts plan
      → AreChildren g.R.Rail.made g.R.Rail.taken g.R.Rail.number_of g.R.Rail.PutsInto g.R.Rail.TakesFrom g.R.Rail.DROPS g.H.Hand.ticks plan texts clock claim 0 l.fn.children.items
      → Finishing g.R.Rail.made g.R.Rail.taken g.R.Rail.number_of g.R.Rail.PutsInto g.R.Rail.TakesFrom g.R.Rail.DROPS plan texts clock claim g.H.Hand.ticks l.fn.children.items l.parts.counts.items l.parts.batches.items l.parts.drawn.items l.parts.claim_seats.items l.seats.items (into_iter_items l.child-iterator);
}
