-- Loads of a take.
use Rattle.std.proofs.Common.{◌≡◌, ℕ, ◌+◌, ◌-◌, ◌*◌, ◌/◌, ◌%◌, ◌<◌, ◌≤◌, ◌≢◌, List, [], ◌∷◌, ◌++◌, length, refl, sym, ap, ◌∙◌, subst, ⊎_elim, arith}
use Rattle.std.specs.Prelude.{Some, slice_get, slice_set, slice_index, take}
use Rattle.std.specs.List.{sum_by}
use Rattle.std.proofs.lemmas.List.{take_all, take_more}
use Rattle.std.proofs.lemmas.Bool.{cases_lt}
use Rattle.cursor_word.specs.Shape.{Grid, IsWithinLimits}
use Rattle.cursor_word.specs.Cursor.{cursor_of, offset_span, packed, unpacked}
use Rattle.cursor_word.specs.Layout.{entry_index}
use Rattle.cursor_word.specs.declared.cursor.Cursor.{Cursor}
use Rattle.cursor_word.proofs.Blocks.{shifted}
use Rattle.cursor_word.proofs.Places.{block_of_place_from, offset_of_place, place_of_cursor}
use Rattle.rail.specs.Items.{placed}
use Rattle.rail.specs.declared.answer.Answer.TheVariants as answer
use Rattle.rail.specs.declared.answer.Take.TheVariants as taking
use Rattle.machine.specs.Steps.{view_after, words_after}
use Rattle.put_side.specs.Cursors.{Front, committed_word, place, put_cursors}
use Rattle.put_side.specs.Counts.{makes, sum_below}
use Rattle.put_side.specs.Entries.{HasWords, IsMade}
use Rattle.put_side.proofs.Items.{made_there}
use Rattle.put_side.proofs.Sums.{none_from, upto_all, upto_cut, upto_from, upto_le}
use Rattle.put_side.proofs.Facts.{found_open, physical, repacked}
use Rattle.put_side.proofs.Commits.{made_once}
use Rattle.put_side.proofs.Stores.{made_block}
use Rattle.put_side.proofs.Moments.{made_within, still_present}
use Rattle.sole_core.specs.declared.phase.SolePhase.TheVariants.{Take}
use Rattle.sole_core.specs.declared.take_phase.SoleTake.{SoleTake}
use Rattle.sole_core.specs.declared.take_phase.SoleTake.TheVariants.{Com, All, Word, Consume}
use Rattle.sole_core.specs.Types.{After, View}
use Rattle.sole_core.specs.TakeSteps.{after_take}
use Rattle.sole_core.specs.Table.{table}
use Rattle.sole_core.specs.Stage.{stage, stage_of}
use Rattle.sole_core.specs.Sound.{IsSoundAt, Knows, TakeKnows, cursor_in, scene}
use Rattle.put_side.proofs.Choices.{pick_equal, pick_less, pick_same}
use Rattle.sole_core.proofs.Loads.{IsNextOwn, answers, go_on, loads}
use Rattle.sole_core.proofs.Facts.{opened_or_next}

module _ (g : Grid) (limits : IsWithinLimits g) (front : Front) (next : ℕ) (ws : List ℕ) (vs : List View) (s : IsSoundAt g front next ws vs) where
  -- an entry that was made at the next place stands there
  pub record IsThere (words : List ℕ) : Type 0 where
    pub opened : (cursor_of g next).block ≤ front.last
    pub stands : HasWords g ws (cursor_of g next) words g.width
    pub wide : length words ≡ g.width

  pub made_next : (words : List ℕ) → IsMade vs (placed next words) → IsThere words
  made_next words m =
      let f = s.puts.entries m.seat m.view m.at in
      let block = made_block stage_of g limits front ws vs s.puts.places m.seat m.view m.number _ m.at m.there in
      record { opened = block; stands = f.made_words m.number _ m.there (still_present stage g front ws vs s.puts limits (cursor_of g next).block block s.near); wide = f.made_wide m.number _ m.there }

  abbrev block : ℕ
  block = (cursor_of g next).block

  -- where the committed cursor there is of no earlier block, it is the block's own, and the block is opened
  pub committed_is : block ≤ committed_word g ws block / offset_span → (block ≤ front.last) × (committed_word g ws block / offset_span ≡ block)
  committed_is le =
      let to = opened_or_next g limits front next ws vs s in
      let w = s.puts.places.words in
      ⊎_elim (λ l. (omega arith, w.committed block (omega arith) s.near))
      (λ l. let j : ℕ = block - g.blocks in
      let is : j + g.blocks ≡ block = omega (arith, w.from) in
      let c = w.committed j (omega (arith, limits.blocks_from)) (omega arith) in
      let z = physical g ws 3 j block (shifted g.blocks j block is) in
      let y = ap (λ (x : ℕ). x / offset_span) z in
      absurd (omega (arith, limits.blocks_from)))
      (cases_lt block (front.last + 1))

  module _ (id : ℕ) (v : View) (at : slice_get vs id ≡ Some v) where
    abbrev Keeps : SoleTake → Type 0
    Keeps q = IsSoundAt g front next (words_after table g ws v (Take q)) (slice_set vs id (view_after table g ws v (Take q)))

    abbrev Leads : List ℕ → After → Type 0
    Leads read b = IsNextOwn g front next ws vs id v read b

    pub knows_at : (q : SoleTake) → v.phase ≡ Some (Take q) → (cursor_in q ≡ cursor_of g next) × TakeKnows g (scene g next ws vs) v.read q
    knows_at q e = subst (Knows g (scene g next ws vs) v.read) e (s.each id v at).knows

    -- load of the committed cursor
    com_next : v.phase ≡ Some (Take (Com (cursor_of g next))) → Keeps (Com (cursor_of g next))
    com_next e =
        let c : Cursor = cursor_of g next in
        let q : SoleTake = Com c in
        let i : ℕ = 3 + 4 * (c.block % g.blocks) in
        let f = (knows_at q e).1 in
        let w : ℕ = slice_index ws i in
        let k : ℕ = c.block in
        let F : ℕ → ℕ = λ o. sum_by (makes (place g k o)) vs in
        let from = block_of_place_from g next in
        let within = offset_of_place g next limits in
        let here : place g k c.offset ≡ next = place_of_cursor g next in
        let once = λ (o : ℕ). made_once stage_of g front (put_cursors g ws) vs s.puts.places (place g k o) in
        loads g front next ws vs s id v at i w (Take q) (after_take g q w) v.read e refl
        (pick_equal (Leads v.read) w (packed c) _ _
        (λ z. answers g front next ws vs s id v at (answer.Take (taking.Empty _)) refl refl)
        (λ ne. pick_less (Leads v.read) (w / offset_span) k _ _
        (λ l. answers g front next ws vs s id v at (answer.Take (taking.Empty _)) refl refl)
        (λ l. let is = committed_is l in
        let n = s.puts.places.counts.made k is.0 s.near from in
        pick_equal (Leads v.read) (w % offset_span) g.size _ _
        (λ z. let y = upto_all g.size c.offset F once (sym n ∙ z) within in
        let m = made_there vs (place g k c.offset) (omega arith) in
        go_on g front next ws vs s id v at q (Word c 0) v.read e refl (limits.width_from, record { words = m.0; made = subst (λ (p : ℕ). IsMade vs (placed p m.0)) here m.1; front = f }))
        (λ z. let least = upto_from g.size c.offset F (omega arith) (λ o less. s.made (place g k o) (omega arith)) in
        let to = upto_le g.size F once in
        let p = repacked w in
        let b = is.1 in
        let apart : w % offset_span ≢ c.offset = λ y. ne (omega arith) in
        go_on g front next ws vs s id v at q (All c (unpacked w)) v.read e refl (record { same = b; above = omega arith; within = omega arith; known = omega arith }, f)))))

    pub keeps_Com : (r : Cursor) → v.phase ≡ Some (Take (Com r)) → Keeps (Com r)
    keeps_Com r h = subst (λ (c : Cursor). v.phase ≡ Some (Take (Com c)) → Keeps (Com c)) (sym (knows_at (Com r) h).0) com_next h

    -- load of the allocated cursor
    all_next : (m : Cursor) → v.phase ≡ Some (Take (All (cursor_of g next) m)) → Keeps (All (cursor_of g next) m)
    all_next m e =
        let c : Cursor = cursor_of g next in
        let q : SoleTake = All c m in
        let i : ℕ = 2 + 4 * (c.block % g.blocks) in
        let f = (knows_at q e).1 in
        let a = f.0 in
        let w : ℕ = slice_index ws i in
        let k : ℕ = c.block in
        let F : ℕ → ℕ = λ o. sum_by (makes (place g k o)) vs in
        let from = block_of_place_from g next in
        let here : place g k c.offset ≡ next = place_of_cursor g next in
        let once = λ (o : ℕ). made_once stage_of g front (put_cursors g ws) vs s.puts.places (place g k o) in
        let is = committed_is (omega (arith, a.same, a.known)) in
        let words = s.puts.places.words in
        loads g front next ws vs s id v at i w (Take q) (after_take g q w) v.read e refl
        (pick_same (Leads v.read) w m _ _
        (λ z. let b : w / offset_span ≡ k = omega (arith, a.same, a.within, limits.size_to) in
        let o : w % offset_span ≡ m.offset = omega (arith, a.same, a.within, limits.size_to) in
        let d = found_open words limits.blocks_from (physical g ws 2) k is.0 (omega (arith, a.within)) in
        let top : k ≡ front.last = sym b ∙ d.0 in
        let bm = is.1 in
        let n = s.puts.places.counts.made k is.0 s.near from in
        let much : m.offset ≤ committed_word g ws k % offset_span = omega (arith, a.same, a.known) in
        let edge : front.next ≡ place g k m.offset = d.1 ∙ ap (place g front.last) o ∙ ap (λ (b : ℕ). place g b m.offset) (sym top) in
        let zero_from : (o : ℕ) → m.offset ≤ o → F o ≡ 0 = λ o h. let y = made_within stage g front ws vs s.puts (place g k o) in let z = none_from (place g k o) front.next (omega arith) in omega arith in
        let cut = upto_cut g.size m.offset F (omega (arith, a.within)) zero_from in
        let most = upto_le m.offset F once in
        let full : sum_below m.offset F ≡ m.offset = omega arith in
        let y = upto_all m.offset c.offset F once full a.above in
        let made = made_there vs (place g k c.offset) (omega arith) in
        go_on g front next ws vs s id v at q (Word c 0) v.read e refl (limits.width_from, record { words = made.0; made = subst (λ (p : ℕ). IsMade vs (placed p made.0)) here made.1; front = f.1 }))
        (λ z. answers g front next ws vs s id v at (answer.Take (taking.Busy _)) refl refl))

    pub keeps_All : (r m : Cursor) → v.phase ≡ Some (Take (All r m)) → Keeps (All r m)
    keeps_All r m h = subst (λ (c : Cursor). v.phase ≡ Some (Take (All c m)) → Keeps (All c m)) (sym (knows_at (All r m) h).0) (all_next m) h

    -- load of an entry word
    word_next : (count : ℕ) → v.phase ≡ Some (Take (Word (cursor_of g next) count)) → Keeps (Word (cursor_of g next) count)
    word_next count e =
        let c : Cursor = cursor_of g next in
        let q : SoleTake = Word c count in
        let i : ℕ = entry_index g (c.block % g.blocks) c.offset count in
        let w : ℕ = slice_index ws i in
        let f = (knows_at q e).1 in
        let of = f.1 in
        let has = made_next of.words of.made in
        let short : count < length of.words = omega (arith, f.0, has.wide) in
        let more : v.read ++ w ∷ [] ≡ take (count + 1) of.words =
        ap (λ (l : List ℕ). l ++ w ∷ []) of.front ∙ ap (λ (z : ℕ). take count of.words ++ z ∷ []) (has.stands count f.0) ∙ sym (take_more of.words count 0 short) in
        loads g front next ws vs s id v at i w (Take q) (after_take g q w) (v.read ++ w ∷ []) e refl
        (pick_less (Leads (v.read ++ w ∷ [])) (count + 1) g.width _ _
        (λ l. go_on g front next ws vs s id v at q (Word c (count + 1)) (v.read ++ w ∷ []) e refl (l, record { words = of.words; made = of.made; front = more }))
        (λ l. let all : v.read ++ w ∷ [] ≡ of.words = more ∙ take_all (count + 1) of.words (omega (arith, has.wide)) in
        go_on g front next ws vs s id v at q (Consume c) (v.read ++ w ∷ []) e refl (subst (λ (z : List ℕ). IsMade vs (placed next z)) (sym all) of.made)))

    pub keeps_Word : (r : Cursor) (count : ℕ) → v.phase ≡ Some (Take (Word r count)) → Keeps (Word r count)
    keeps_Word r count h = subst (λ (c : Cursor). v.phase ≡ Some (Take (Word c count)) → Keeps (Word c count)) (sym (knows_at (Word r count) h).0) (word_next count) h
