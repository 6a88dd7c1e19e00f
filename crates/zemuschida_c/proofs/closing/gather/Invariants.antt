use Rattle.std.proofs.Common.{◌≡◌, ℕ, ◌+◌, ◌-◌, ◌≤◌, ◌<◌, ◌++◌, List, IfSome, IsSome, None, Option, Some, get_or, length, map, take, vec_capacity}
use Rattle.std.specs.Arc.{arc_value}
use Rattle.zemuschida_c.specs.declared.held.Held.{Held}
use Rattle.zemuschida_c.proofs.closing.gather.Given as goal

-- the handles so far are empty, and their seats gathered; the others have what they had
abbrev pub invariant-loop-index : goal.invariant-loop-index
invariant-loop-index g l = record {
  others : (k : ℕ) (d : Option Held) → l.index ≤ k → get_or (map g.H.SeatHandle.value l.handles) k d ≡ get_or (map g.H.SeatHandle.value l.fn.handles) k d;
  empty : (k : ℕ) (d : Option Held) → k < l.index → get_or (map g.H.SeatHandle.value l.handles) k d ≡ None;
  room : length l.all.items + (length l.fn.handles - l.index) ≤ vec_capacity l.all;
  some_rail : 0 < l.index → IsSome l.last;
  seats : (rail : g.row.H-Queue.Denot) (seats : List g.row.H-Queue-Seat.Denot) → map g.H.SeatHandle.value l.fn.handles ≡ map (λ (s : g.row.H-Queue-Seat.Denot). Some (g.H.Seating.own rail s)) seats → l.all.items ≡ l.fn.all.items ++ take l.index seats;
  rail : (rail : g.row.H-Queue.Denot) (seats : List g.row.H-Queue-Seat.Denot) → map g.H.SeatHandle.value l.fn.handles ≡ map (λ (s : g.row.H-Queue-Seat.Denot). Some (g.H.Seating.own rail s)) seats → IfSome l.last (λ own. arc_value own ≡ rail);
}
