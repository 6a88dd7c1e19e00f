use Rattle.std.proofs.Common.{◌≡◌, ◌+◌, ◌-◌, [], false, All, length}
use Rattle.claim_table.specs.Claimed.{share, IsFresh}
use Rattle.claim_table.proofs.claim.deal.Given as goal

abbrev pub invariant-loop-left : goal.invariant-loop-left
invariant-loop-left l = record {
  same : l.first.id ≡ l.words.id;
  count : length l.made.items + 1 ≡ l.left;
  view : l.first.view ≡ share (l.fn.shape.seats + 1 - l.left) l.fn.shape [] false 0;
  fresh : All (IsFresh (record { id = l.words.id; shape = l.fn.shape })) l.made.items;
}
