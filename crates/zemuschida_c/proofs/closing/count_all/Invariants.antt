use Rattle.std.proofs.Common.{◌≡◌, ◌≢◌, ℕ, ◌+◌, ◌-◌, ◌^◌, ◌<◌, List, None, Option, Some, flat_map, get_or, length, map, min, take}
use Rattle.zemuschida_c.specs.declared.held.Held.{Held}
use Rattle.zemuschida_c.proofs.closing.count_all.Given as goal

-- the handles have what they had; those so far aren't empty, and their seats are counted in
abbrev pub invariant-loop-index : goal.invariant-loop-index
invariant-loop-index g l = record {
  same : map g.H.SeatHandle.value l.handles ≡ map g.H.SeatHandle.value l.fn.handles;
  full : (k : ℕ) (d : Option Held) → k < l.index → get_or (map g.H.SeatHandle.value l.fn.handles) k d ≢ None;
  shape : 0 < l.index → (rail : g.row.H-Queue.Denot) (seats : List g.row.H-Queue-Seat.Denot) → map g.H.SeatHandle.value l.fn.handles ≡ map (λ (s : g.row.H-Queue-Seat.Denot). Some (g.H.Seating.own rail s)) seats → l.totals.shape ≡ Some (g.H.Queue.Rail.shape_of rail);
  puts : (rail : g.row.H-Queue.Denot) (seats : List g.row.H-Queue-Seat.Denot) → map g.H.SeatHandle.value l.fn.handles ≡ map (λ (s : g.row.H-Queue-Seat.Denot). Some (g.H.Seating.own rail s)) seats → l.totals.puts ≡ min (l.fn.totals.puts + length (flat_map g.H.Queue.Rail.made (take l.index seats))) (2 ^ 64 - 1);
  takes : (rail : g.row.H-Queue.Denot) (seats : List g.row.H-Queue-Seat.Denot) → map g.H.SeatHandle.value l.fn.handles ≡ map (λ (s : g.row.H-Queue-Seat.Denot). Some (g.H.Seating.own rail s)) seats → l.totals.takes ≡ min (l.fn.totals.takes + length (flat_map g.H.Queue.Rail.taken (take l.index seats))) (2 ^ 64 - 1);
}
