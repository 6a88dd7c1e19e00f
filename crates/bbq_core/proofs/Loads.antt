-- Steps that change no word: of a put that looks at the older block, and of a take.
use Rattle.std.proofs.Common.{◌≡◌, ℕ, ◌+◌, ◌*◌, ◌%◌, List, [], ◌++◌, refl, sym, ap, ◌∙◌, subst, inl, ⊎_elim, arith}
use Rattle.std.specs.Prelude.{Some, slice_get, slice_set, slice_index, if◌then◌else◌}
use Rattle.std.proofs.lemmas.Bool.{cases_lt}
use Rattle.std.proofs.lemmas.List.{set-get_or}
use Rattle.cursor_word.specs.Shape.{Grid, IsWithinLimits}
use Rattle.cursor_word.specs.Cursor.{unpacked}
use Rattle.cursor_word.specs.declared.cursor.Cursor.{Cursor}
use Rattle.rail.specs.declared.entry.Placed.{Placed}
use Rattle.rail.specs.declared.answer.Answer.TheVariants as answer
use Rattle.rail.specs.declared.answer.Put.TheVariants as put
use Rattle.rail.specs.declared.answer.Answer.{Answer}
use Rattle.rail.specs.Items.{places}
use Rattle.machine.specs.declared.op.After.TheVariants.{Next, Done}
use Rattle.machine.specs.Steps.{made_after, phase_after, taken_after, view_after, words_after}
use Rattle.put_side.specs.Cursors.{Front, place, put_cursors}
use Rattle.put_side.specs.Stages as stages
use Rattle.put_side.specs.Stages.{Fills}
use Rattle.put_side.specs.PutSteps.{is_same, older_full}
use Rattle.put_side.specs.declared.put_phase.PutPhase.TheVariants.{OpenM}
use Rattle.put_side.proofs.Choices.{pick_any}
use Rattle.put_side.proofs.Keeps.{stage_next}
use Rattle.put_side.proofs.TakeWords.{made_none, same_words, seen_by}
use Rattle.put_side.specs.Places.{IsFilled}
use Rattle.put_side.specs.PutTable.{stage_after, stage_in}
use Rattle.put_side.proofs.Sums.{by_test_le}
use Rattle.put_side.proofs.Facts.{all_below, allocated_to, filled_opened, physical, repacked}
use Rattle.put_side.proofs.Frames.{IsNext, Leaves}
use Rattle.put_side.proofs.Loads as put_loads
use Rattle.put_side.proofs.Made.{made_same}
use Rattle.put_side.proofs.Owns.{keeps_own}
use Rattle.bbq_core.specs.declared.phase.Phase.{Phase}
use Rattle.bbq_core.specs.declared.phase.Phase.TheVariants.{Put, SeeX, SeeR, Take}
use Rattle.bbq_core.specs.declared.take_phase.TakePhase.{TakePhase}
use Rattle.bbq_core.specs.Types.{After, View}
use Rattle.bbq_core.specs.PutSteps.{consumed_or_not, full_or_busy}
use Rattle.bbq_core.specs.Table.{table}
use Rattle.bbq_core.specs.Stage.{stage, stage_of}
use Rattle.bbq_core.specs.Counts.{reading, reading_in}
use Rattle.bbq_core.specs.Sound.{IsSoundAt, Knows, TakeKnows, scene}
use Rattle.bbq_core.proofs.Frames.{IsLater, knows_later, quiet}
use Rattle.bbq_core.proofs.TakeFacts.{opened_spent}

-- what may follow a step that makes and takes nothing, and reads the same place as before
pub record IsNextOwn (g : Grid) (front back : Front) (ws : List ℕ) (vs : List View) (v : View) (read : List ℕ) (b : After) : Type 0 where
  pub made : made_after v.made v.entry b ≡ v.made
  pub taken : taken_after v.taken v.read b ≡ v.taken
  pub reads : reading g (phase_after b) ≡ reading g v.phase
  pub knows : Knows g (scene g back ws vs) v.made read (phase_after b)
  pub side : IsNext g front.last (put_cursors g ws) [] (stage_after stage b)
  pub unread : (q : TakePhase) → phase_after b ≡ Some (Take q) → reading_in g q ≡ [] → read ≡ []

module _ (g : Grid) (limits : IsWithinLimits g) (front back : Front) (ws : List ℕ) (vs : List View) (s : IsSoundAt g front back ws vs) (id : ℕ) (v : View) (at : slice_get vs id ≡ Some v) where
  abbrev After' : ℕ → After → List ℕ → ℕ → Type 0
  After' i b read x = IsSoundAt g front back (slice_set ws i (slice_index ws i)) (slice_set vs id (seen_by v b read x))

  abbrev Next' : List ℕ → After → Type 0
  Next' read b = IsNextOwn g front back ws vs v read b

  pub loads : (i x : ℕ) (p : Phase) (b : After) (read : List ℕ) → v.phase ≡ Some p → stages.held g (stage p) ≡ [] → Next' read b → After' i b read x
  loads i x p b read e none next =
      let v' : View = seen_by v b read x in
      let vs' : List View = slice_set vs id v' in
      let to : Leaves stage_of v v' (stage_after stage b) = record { made = next.made; entry = refl; stands = stage_next stage b } in
      let later : IsLater (scene g back ws vs) (scene g back ws vs') = record { passed = refl; consumer = omega arith; reserved = λ k. omega arith; consumed = λ k. omega arith; committed = λ k. omega arith; made = made_same vs id v v' at next.made } in
      subst (λ (w : List ℕ). IsSoundAt g front back w vs') (sym (set-get_or ws i 0))
      (quiet g front front back ws ws vs id v v' s at later (λ k. refl)
      (ap (λ (l : List Placed). places l ++ reading g (phase_after b)) next.taken ∙ ap (λ (l : List ℕ). places v.taken ++ l) next.reads) next.taken
      (keeps_own stage_of g front ws ws vs id v v' (stage p) (stage_after stage b) at (ap (stage_in stage) e) (same_words g ws) none to next.side s.puts)
      s.takes
      (subst (λ (l : List Placed). Knows g (scene g back ws vs') l read (phase_after b)) (sym next.made) (knows_later g (scene g back ws vs) (scene g back ws vs') later v.made read (phase_after b) next.knows))
      next.unread)

  -- an answer that hands no entry in or out
  pub answers : (a : Answer) → made_after {P = Phase} v.made v.entry (Done a) ≡ v.made → taken_after {P = Phase} v.taken v.read (Done a) ≡ v.taken → reading g v.phase ≡ [] → Next' v.read (Done a)
  answers a made taken none = record { made = made; taken = taken; reads = sym none; knows = tt; side = record { holds = refl; knows = tt; adds = λ k. inl refl }; unread = λ q h n. cc }

  -- load of the consumed cursor of the next block
  pub keeps_SeeX : (full : Cursor) → v.phase ≡ Some (SeeX full) → IsSoundAt g front back (words_after table g ws v (SeeX full)) (slice_set vs id (view_after table g ws v (SeeX full)))
  keeps_SeeX full e =
      let i : ℕ = 5 + 4 * ((full.block + 1) % g.blocks) in
      let w : ℕ = slice_index ws i in
      let p = s.puts.places in
      let f : IsFilled g (put_cursors g ws) full = put_loads.knows_at stage_of g front ws vs id v v p at (Fills full) (ap (stage_in stage) e) in
      let to = filled_opened p.words limits.blocks_from (physical g ws 2) full f in
      let none : reading g v.phase ≡ [] = ap (reading g) e in
      let next : Next' v.read (consumed_or_not g full w) =
      by_test_le (older_full g full.block) w (λ b. Next' v.read (if b then Next (Put (OpenM full)) else Next (SeeR full (unpacked w))))
      (λ l. record { made = refl; taken = refl; reads = sym none; knows = l; side = record { holds = refl; knows = f; adds = λ k. inl refl }; unread = λ q h n. cc })
      (λ l. let k : front.last ≡ full.block = ⊎_elim (λ n. absurd (let o = opened_spent s.takes limits.blocks_from (physical g ws 5) (full.block + 1) limits (omega (arith, f.from)) (omega arith) in omega arith)) (λ n. omega arith) (cases_lt full.block front.last) in
      let below = allocated_to p.words in
      let c = all_below (place g (full.block + 1) 0) (places v.made) (λ q h. made_none stage_of g front (put_cursors g ws) vs p id v at q (let z = ap (λ (b : ℕ). place g (b + 1) 0) k in omega arith)) in
      record { made = refl; taken = refl; reads = sym none; knows = (let r = repacked w in omega arith, c); side = record { holds = refl; knows = f; adds = λ k. inl refl }; unread = λ q h n. cc }) in
      loads i w (SeeX full) (consumed_or_not g full w) v.read e refl next

  -- load of the reserved cursor of the next block
  pub keeps_SeeR : (full x : Cursor) → v.phase ≡ Some (SeeR full x) → IsSoundAt g front back (words_after table g ws v (SeeR full x)) (slice_set vs id (view_after table g ws v (SeeR full x)))
  keeps_SeeR full x e =
      let i : ℕ = 4 + 4 * ((full.block + 1) % g.blocks) in
      let w : ℕ = slice_index ws i in
      let none : reading g v.phase ≡ [] = ap (reading g) e in
      loads i w (SeeR full x) (full_or_busy g full x (unpacked w)) v.read e refl
      (pick_any (Next' v.read) (is_same x (unpacked w)) _ _ (answers (answer.Put (put.Full full.block x)) refl refl none) (answers (answer.Put (put.Busy _)) refl refl none))

  -- a take that has reserved nothing yet goes on so
  pub go_on : (q r : TakePhase) → v.phase ≡ Some (Take q) → reading_in g q ≡ [] → reading_in g r ≡ [] → TakeKnows g (scene g back ws vs) v.read r → Next' v.read (Next (Take r))
  go_on q r e none none' knows = record {
    made = refl;
    taken = refl;
    reads = none' ∙ sym (ap (reading g) e ∙ none);
    knows = knows;
    side = record { holds = refl; knows = tt; adds = λ k. inl refl };
    unread = λ z h n. (s.each id v at).unread q e none;
  }
