-- What a shared step of a put tells of the answer that it gives.
use Rattle.std.proofs.Common.{◌≡◌, ◌≢◌, ℕ, ◌+◌, ◌/◌, ◌%◌, ◌<◌, ◌≤◌, List, [], ◌∷◌, ◌++◌, ap, subst, inl, inr, ⊎_elim, arith}
use Rattle.std.specs.Prelude.{Some, false, slice_get, slice_index}
use Rattle.std.proofs.lemmas.Bool.{and_from, both_ways, cases_lt, eq-eqb}
use Rattle.cursor_word.specs.Shape.{Grid, IsWithinLimits}
use Rattle.cursor_word.specs.Cursor.{IsBefore, offset_span, packed, place_at, unpacked}
use Rattle.cursor_word.specs.declared.cursor.Cursor.{Cursor}
use Rattle.rail.specs.Items.{IsRising, placed, places}
use Rattle.rail.specs.Rail.{Gains}
use Rattle.rail.specs.declared.answer.Answer.TheVariants as answer
use Rattle.rail.specs.declared.answer.Put.TheVariants as put
use Rattle.rail.specs.declared.answer.Why.TheVariants as why
use Rattle.machine.specs.declared.op.After.{After}
use Rattle.machine.specs.declared.op.After.TheVariants.{Next, Done}
use Rattle.machine.specs.declared.view.View.{View}
use Rattle.machine.specs.Ops.{index}
use Rattle.put_side.specs.declared.put_phase.PutPhase.{PutPhase}
use Rattle.put_side.specs.declared.put_phase.PutPhase.TheVariants.{HeadP, SeeA, AddA, Write, Commit, OpenM, OpenA, RaiseP}
use Rattle.put_side.specs.Cursors.{Front, allocated_word, put_cursors}
use Rattle.put_side.specs.Places.{IsTurn, PutPlaces}
use Rattle.put_side.specs.PutSteps as puts
use Rattle.put_side.specs.PutSteps.{is_same}
use Rattle.put_side.specs.Stages.{PutStage, At, held}
use Rattle.put_side.proofs.Choices.{pick_equal, pick_less}
use Rattle.put_side.proofs.Facts.{found, physical}
use Rattle.put_side.proofs.Loads.{knows_at}
use Rattle.put_side.proofs.SeatItems.{gains}

-- cursors whose words are in order are in order
pub before_from : (c d : Cursor) → d.offset < offset_span → packed c < packed d → IsBefore c d
before_from c d fits l = ⊎_elim (λ q. inl q) (λ q. inr (omega arith, omega arith)) (cases_lt c.block d.block)

-- cursors that the test finds apart are
pub tested_other : (x y : Cursor) → is_same x y ≡ false → x ≢ y
tested_other x y apart e = both_ways _ apart (and_from _ _ (eq-eqb x.block y.block (ap (λ (c : Cursor). c.block) e)) (eq-eqb x.offset y.offset (ap (λ (c : Cursor). c.offset) e)))

-- what is so of each thing that may follow, by what the step tells
pub record ToldOfEach {P : Type 0} (to_phase : PutPhase → P) (to_fill : Cursor → P) (v : View P) (K : After P → Type 0) : Type 0 where
  pub next : (q : PutPhase) → K (Next (to_phase q))
  pub fills : (full : Cursor) → K (Next (to_fill full))
  pub ok : (place : ℕ) → Gains v.made (v.made ++ placed place v.entry ∷ []) (placed place v.entry) → K (Done (answer.Put (put.Ok place)))
  pub moved : (earlier later : Cursor) → earlier.block < later.block → K (Done (answer.Put (put.Busy (why.Moved earlier later))))

module _ {P : Type 0} (stage : View P → PutStage) (to_phase : PutPhase → P) (to_fill : Cursor → P) (g : Grid) (limits : IsWithinLimits g) (front : Front) (ws : List ℕ) (vs : List (View P)) (id : ℕ) (v : View P)
    (p : PutPlaces stage g front (put_cursors g ws) vs) (here : slice_get vs id ≡ Some v) (K : After P → Type 0) (each : ToldOfEach to_phase to_fill v K) where
  filled_tells : (turn : ℕ) (first : Cursor) (head word : ℕ) → IsTurn g turn first head → head ≤ word / offset_span → K (puts.filled to_phase to_fill turn first (unpacked word))
  filled_tells turn first head word f from = pick_equal K turn 1 _ _ (λ e. each.fills (unpacked word)) (λ n. ⊎_elim (λ e. absurd (n e)) (λ t. each.moved first (unpacked word) (omega (arith, t.below))) f)

  pub put_tells : (q : PutPhase) → stage v ≡ At q → K (puts.after to_phase to_fill g q (slice_index ws (index (puts.want g q v.entry))))
  put_tells (HeadP turn first) e = each.next (SeeA turn first (slice_index ws 0))
  put_tells (SeeA turn first head) e =
      let f = knows_at stage g front ws vs id v v p here (At (SeeA turn first head)) e in
      let is = found p.words limits.blocks_from (physical g ws 2) head f.1.to in
      pick_less K (allocated_word g ws head % offset_span) g.size _ _ (λ l. each.next (AddA turn first head)) (λ l. filled_tells turn first head (allocated_word g ws head) f.0 is.from)
  put_tells (AddA turn first head) e =
      let f = knows_at stage g front ws vs id v v p here (At (AddA turn first head)) e in
      let is = found p.words limits.blocks_from (physical g ws 2) head f.1.to in
      pick_less K (allocated_word g ws head % offset_span) g.size _ _ (λ l. each.next (Write (unpacked (allocated_word g ws head)) 0)) (λ l. filled_tells turn first head (allocated_word g ws head) f.0 is.from)
  put_tells (Write at next) e = pick_less K (next + 1) g.width _ _ (λ l. each.next (Write at (next + 1))) (λ l. each.next (Commit at))
  put_tells (Commit at) e = each.ok (place_at g at) (gains v.made (placed (place_at g at) v.entry) (subst IsRising (ap (λ (s : PutStage). places v.made ++ held g s) e) (p.each id v here).rising))
  put_tells (OpenM full) e = each.next (OpenA full)
  put_tells (OpenA full) e = each.next (RaiseP full)
  put_tells (RaiseP full) e = each.next (HeadP 2 full)
