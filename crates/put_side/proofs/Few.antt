-- Block numbers are small while few entries are made.
use Rattle.std.proofs.Common.{◌≡◌, ◌+◌, ◌-◌, ◌*◌, ◌<◌, ◌≤◌, List, length, ⊎_elim, lt_of_not-le, arith}
use Rattle.std.proofs.lemmas.List.{length-append, length-map}
use Rattle.std.proofs.Math.Nat.{mul-le-mul_right, mul-le-mul_left}
use Rattle.cursor_word.specs.Shape.{Grid, IsWithinLimits}
use Rattle.cursor_word.specs.Cursor.{block_room, most_block, place_span}
use Rattle.rail.specs.declared.entry.Placed.{Placed}
use Rattle.rail.specs.Items.{places}
use Rattle.machine.specs.declared.view.View.{View}
use Rattle.machine.specs.Invariant.{made_count, made_total}
use Rattle.put_side.specs.Cursors.{Front, PutCursors, place}
use Rattle.put_side.specs.Stages.{PutStage, held}
use Rattle.put_side.specs.declared.put_phase.PutPhase.TheVariants.{Write, Commit}
use Rattle.put_side.specs.Stages.{At}
use Rattle.put_side.specs.Counts.{claim_count}
use Rattle.put_side.specs.Places.{PutPlaces}
use Rattle.put_side.proofs.Sums.{sum_more}

held_short : (g : Grid) (s : PutStage) → length (held g s) ≤ 1
held_short g (At (Write at next)) = omega arith
held_short g (At (Commit at)) = omega arith
held_short g s = omega arith

module _ {P : Type 0} (stage : View P → PutStage) (g : Grid) where
  -- a seat holds at most one place besides what it made
  claims_few : (v : View P) → claim_count stage g v ≤ made_count v + 1
  claims_few v =
      let n : claim_count stage g v ≡ length (places v.made) + length (held g (stage v)) = length-append (places v.made) (held g (stage v)) in
      let e : length (places v.made) ≡ length v.made = length-map v.made (λ (i : Placed). i.place) in
      let o = held_short g (stage v) in omega arith

  module _ (front : Front) (cs : PutCursors) (vs : List (View P)) (p : PutPlaces stage g front cs vs) where
    -- the places that are allocated are at most the made ones, and one for each seat
    pub allocated_few : front.next ≤ made_total vs + g.seats
    allocated_few = let m = sum_more (claim_count stage g) made_count claims_few vs in omega (arith, p.counts.number, p.few)

    pub last_small : IsWithinLimits g → made_total vs ≤ place_span g → front.last < most_block
    last_small limits room =
        let few = allocated_few in
        let z : place g front.last 0 ≤ front.next = ⊎_elim (λ q. omega (arith, q.at)) (λ q. omega (arith, q.at)) p.words.newest in
        let rows : front.last - g.blocks < block_room + g.seats + 1 = lt_of_not-le (λ h.
        let w : (block_room + g.seats + 1) * g.size ≤ (front.last - g.blocks) * g.size = mul-le-mul_right g.size h in
        let u : (g.seats + 1) * 1 ≤ (g.seats + 1) * g.size = mul-le-mul_left (g.seats + 1) limits.size_from in
        let t : (block_room + g.seats + 1) * g.size ≡ block_room * g.size + (g.seats + 1) * g.size = omega arith in omega arith) in
        omega (arith, p.words.from, limits.blocks_to, limits.seats_to)
