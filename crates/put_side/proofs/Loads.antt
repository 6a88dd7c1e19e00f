-- The loads of a put: the producer head, and the allocated cursor of its block.
use Rattle.std.proofs.Common.{◌≡◌, ℕ, ◌+◌, ◌*◌, ◌%◌, ◌⊎◌, List, [], refl, sym, subst, inl, inr, ⊎_elim, arith}
use Rattle.std.specs.Prelude.{Bool, true, false, Some, slice_get, slice_set, slice_index, if◌then◌else◌, ◌==◌}
use Rattle.std.proofs.lemmas.List.{set-get_or}
use Rattle.std.proofs.lemmas.Bool.Decides.{nat_tests}
use Rattle.cursor_word.specs.Shape.{Grid, IsWithinLimits}
use Rattle.cursor_word.specs.Cursor.{offset_span, unpacked}
use Rattle.cursor_word.specs.declared.cursor.Cursor.{Cursor}
use Rattle.machine.specs.declared.view.View.{View}
use Rattle.put_side.specs.Cursors.{Front, PutCursors, allocated_word, put_cursors}
use Rattle.put_side.specs.Stages.{PutStage, by_room, fills, held}
use Rattle.put_side.specs.declared.put_phase.PutPhase.TheVariants.{HeadP, SeeA, AddA}
use Rattle.put_side.specs.Stages.{Away, At, Fills}
use Rattle.put_side.specs.Counts.{one_at}
use Rattle.put_side.specs.Places.{IsFilled, PutKnows, PutPlaces}
use Rattle.put_side.proofs.Sums.{by_test}
use Rattle.put_side.proofs.Facts.{IsPhysical, found, found_filled, physical}
use Rattle.put_side.proofs.Frames.{IsNext, Leaves, stays}

-- what follows a block that was found filled
pub fills_next : (g : Grid) (last : ℕ) (cs : PutCursors) (c : Bool) (full : Cursor) → IsFilled g cs full → IsNext g last cs [] (if c then Fills full else Away)
fills_next g last cs true full f = record { holds = refl; knows = f; adds = λ k. inl refl }
fills_next g last cs false full f = record { holds = refl; knows = tt; adds = λ k. inl refl }

one_or_same : (q p : ℕ) → (one_at q p ≡ 0) ⊎ (q ≡ p)
one_or_same q p = grind (arith, nat_tests)

module _ {P : Type 0} (stage : View P → PutStage) (g : Grid) (front : Front) (ws : List ℕ) (vs : List (View P)) (id : ℕ) (v v' : View P) (p : PutPlaces stage g front (put_cursors g ws) vs) (at : slice_get vs id ≡ Some v) where
  pub knows_at : (s : PutStage) → stage v ≡ s → PutKnows g front.last (put_cursors g ws) s
  knows_at s e = subst (PutKnows g front.last (put_cursors g ws)) e (p.each id v at).knows

  -- a step that changes no word
  pub loads : (i : ℕ) (s s' : PutStage) → stage v ≡ s → Leaves stage v v' s' → IsNext g front.last (put_cursors g ws) (held g s) s' → PutPlaces stage g front (put_cursors g (slice_set ws i (slice_index ws i))) (slice_set vs id v')
  loads i s s' e to next =
      subst (λ (l : List ℕ). PutPlaces stage g front (put_cursors g l) (slice_set vs id v')) (sym (set-get_or ws i 0)) (stays stage g front (put_cursors g ws) vs id v v' s s' p at e to.made to.stands next)

  pub places_HeadP : (turn : ℕ) (first : Cursor) → stage v ≡ At (HeadP turn first) → Leaves stage v v' (At (SeeA turn first (slice_index ws 0))) → PutPlaces stage g front (put_cursors g (slice_set ws 0 (slice_index ws 0))) (slice_set vs id v')
  places_HeadP turn first e to =
      loads 0 (At (HeadP turn first)) _ e to record { holds = refl; knows = (knows_at (At (HeadP turn first)) e, record { from = p.words.head_from; to = omega arith }); adds = λ k. inl refl }

  pub places_SeeA : IsWithinLimits g → (turn : ℕ) (first : Cursor) (head : ℕ) → stage v ≡ At (SeeA turn first head) → (let i = 2 + 4 * (head % g.blocks) in
      Leaves stage v v' (by_room g (slice_index ws i) turn (At (AddA turn first head))) → PutPlaces stage g front (put_cursors g (slice_set ws i (slice_index ws i))) (slice_set vs id v'))
  places_SeeA limits turn first head e to =
      let i : ℕ = 2 + 4 * (head % g.blocks) in
      let f = knows_at (At (SeeA turn first head)) e in
      let same : IsPhysical g (allocated_word g ws) = physical g ws 2 in
      let is = found p.words limits.blocks_from same head f.1.to in
      let w : ℕ = slice_index ws i in
      let next : IsNext g front.last (put_cursors g ws) [] (by_room g w turn (At (AddA turn first head))) =
      by_test (w % offset_span) g.size (λ b. IsNext g front.last (put_cursors g ws) [] (if b then At (AddA turn first head) else fills turn (unpacked w)))
      (λ l. record { holds = refl; knows = f; adds = λ k. ⊎_elim (λ z. inl z) (λ z. inr (let x = same head k z in omega arith)) (one_or_same (head % g.blocks) (k % g.blocks)) })
      (λ l. fills_next g front.last (put_cursors g ws) (turn == 1) (unpacked w) (found_filled (put_cursors g ws) head same f.1.from is l)) in
      loads i (At (SeeA turn first head)) _ e to next
