-- A take that is done alone: each of its steps, and what it answers.
use Rattle.std.proofs.Common.{◌≡◌, ℕ, ◌+◌, ◌*◌, ◌/◌, ◌%◌, ◌<◌, ◌≤◌, min, List, [], ◌∷◌, ◌++◌, refl, sym, ap, ◌∙◌, subst, ⊎_elim, arith}
use Rattle.std.specs.Prelude.{slice_index, slice_set, if◌then◌else◌}
use Rattle.std.specs.List.{sum_by}
use Rattle.std.proofs.lemmas.Bool.{cases_lt}
use Rattle.std.proofs.lemmas.List.{length-append}
use Rattle.cursor_word.specs.Shape.{Grid}
use Rattle.cursor_word.specs.Cursor.{cursor_of, offset_span, packed, place_at, unpacked}
use Rattle.cursor_word.specs.Layout.{entry_index}
use Rattle.cursor_word.specs.declared.cursor.Cursor.{Cursor}
use Rattle.cursor_word.proofs.Places.{block_of_place_from, place_of_cursor}
use Rattle.cursor_word.proofs.Words.{unpacked_packed}
use Rattle.rail.specs.Items.{placed}
use Rattle.rail.specs.Sequential.{retry_take}
use Rattle.rail.specs.declared.answer.Answer.TheVariants as answer
use Rattle.rail.specs.declared.answer.Take.TheVariants as take
use Rattle.rail.specs.declared.answer.Why.TheVariants as why
use Rattle.machine.specs.declared.op.After.TheVariants.{Next, Done}
use Rattle.put_side.specs.Cursors.{Front, allocated_word, committed_word}
use Rattle.put_side.specs.Counts.{makes}
use Rattle.put_side.proofs.Facts.{repacked}
use Rattle.put_side.proofs.AlonePuts.{accepted_of, made_of, open_of}
use Rattle.put_side.proofs.Lone as lone
use Rattle.put_side.proofs.Items.{made_counts}
use Rattle.put_side.proofs.Sums.{none_from, one_in}
use Rattle.put_side.proofs.Moments.{made_within}
use Rattle.sole_core.specs.declared.phase.SolePhase.TheVariants.{Take}
use Rattle.sole_core.specs.declared.take_phase.SoleTake.{SoleTake}
use Rattle.sole_core.specs.declared.take_phase.SoleTake.TheVariants.{Com, All, Word, Consume}
use Rattle.sole_core.specs.Types.{After, View}
use Rattle.sole_core.specs.TakeSteps.{empty}
use Rattle.sole_core.specs.Sound.{cursor_in}
use Rattle.sole_core.specs.Stage.{stage}
use Rattle.sole_core.proofs.Facts.{taken_within}
use Rattle.put_side.proofs.Choices.{by_equal, pick_equal, pick_less, pick_same}
use Rattle.sole_core.proofs.LoneSteps.{Follows, Goes, IsHere, come_to_rest, given_is, load_on, next_of, put_here}
use Rattle.sole_core.proofs.Outcomes.{none_opened, none_there}
use Rattle.sole_core.proofs.TakeLoads.{committed_is, knows_at}

-- what one thread is answered, where nothing is left and where something is
empty_alone : (n t p : ℕ) → t ≡ n → p ≡ n → take.Empty p ≡ retry_take n t
empty_alone n t p e is = by_equal t n (λ b. take.Empty p ≡ (if b then take.Empty n else take.Ok t)) (λ q. ap take.Empty is) (λ q. absurd (q e))

ok_alone : (n t p : ℕ) → t < n → p ≡ t → take.Ok p ≡ retry_take n t
ok_alone n t p less is = by_equal t n (λ b. take.Ok p ≡ (if b then take.Empty n else take.Ok t)) (λ q. absurd (omega arith)) (λ q. ap take.Ok is)

module _ (g : Grid) (n t : ℕ) (front : Front) (next : ℕ) (ws : List ℕ) (vs : List View) (id : ℕ) (v : View) where
  abbrev Here : SoleTake → Type 0
  Here q = IsHere g n t front next ws vs id v (Take q)

  abbrev Leads : SoleTake → Type 0
  Leads q = Goes g n t ws vs id v (Take q)

  abbrev c : Cursor
  c = cursor_of g next

  at_next : (q : SoleTake) → Here q → cursor_in q ≡ c
  at_next q h = (knows_at g h.limits front next ws vs h.sound id v h.at q h.phase).0

  -- nothing is left
  ends_empty : (i x : ℕ) → (h : Here (Com c)) → sum_by (makes next) vs ≡ 0 → Follows h (slice_set ws i (slice_index ws i)) x v.read (empty g c)
  ends_empty i x h none q =
      let number = accepted_of (put_here h) refl in
      let given = given_is h in
      let all = made_of (put_here h) refl next in
      let within = taken_within g h.limits front next ws vs h.sound in
      let last : front.next ≡ next = ⊎_elim (λ l. let o = one_in next front.next l in absurd (omega arith)) (λ l. omega arith) (cases_lt next front.next) in
      let at = place_of_cursor g next in
      (empty_alone n t (place_at g c) (omega arith) (omega arith), come_to_rest h 0 0 _ q refl (omega arith) (omega arith))

  com_alone : Here (Com c) → Leads (Com c)
  com_alone h =
      let i : ℕ = 3 + 4 * (c.block % g.blocks) in
      let w : ℕ = slice_index ws i in
      let F : After → Type 0 = Follows h (slice_set ws i w) w v.read in
      pick_equal F w (packed c) (empty g c) _
      (λ e. ends_empty i w h (none_there g front next ws vs id v h.limits h.sound h.at e))
      (λ ne. pick_less F (w / offset_span) c.block (empty g c) _
      (λ l. ends_empty i w h (none_opened g front next ws vs id v h.limits h.sound h.at l))
      (λ l. pick_equal F (w % offset_span) g.size (Next (Take (Word c 0))) (Next (Take (All c (unpacked w))))
      (λ e q. load_on h _ _ q refl refl tt)
      (λ e q. load_on h _ _ q refl refl (repacked w))))
      (next_of h)

  all_alone : (m : Cursor) → Here (All c m) → Leads (All c m)
  all_alone m h =
      let i : ℕ = 2 + 4 * (c.block % g.blocks) in
      let w : ℕ = slice_index ws i in
      let f = (knows_at g h.limits front next ws vs h.sound id v h.at (All c m) h.phase).1.0 in
      let small = h.limits.size_to in
      let k : ℕ = c.block in
      let knows = h.knows in
      let block : k ≤ committed_word g ws k / offset_span = omega (arith, f.same) in
      let is = committed_is g h.limits front next ws vs h.sound block in
      let top = open_of (put_here h) refl in
      let from = block_of_place_from g next in
      let off : committed_word g ws k % offset_span ≡ min (allocated_word g ws k % offset_span) g.size = lone.committed_is stage g front ws vs h.limits h.sound.puts top (made_of (put_here h) refl) k is.0 h.sound.near from in
      let offset : committed_word g ws k % offset_span ≡ m.offset = omega (arith, f.same, f.within) in
      let alike : w % offset_span ≡ m.offset = omega (arith, f.within) in
      let own : w / offset_span ≡ k = ⊎_elim (λ l. let p = h.sound.puts.places.words.full k l h.sound.near in p.0) (λ l. let e : k ≡ front.last = omega (arith, is.0) in ap (λ (b : ℕ). allocated_word g ws b / offset_span) e ∙ top ∙ sym e) (cases_lt k front.last) in
      let same : w ≡ packed m = omega (arith, f.same, f.within) in
      let found : m ≡ unpacked w = sym (unpacked_packed m (omega (arith, f.within))) ∙ ap unpacked (sym same) in
      pick_same (Follows h (slice_set ws i w) w v.read) w m (Next (Take (Word c 0))) (Done (answer.Take (take.Busy (why.Unfinished k m (unpacked w)))))
      (λ e q. load_on h _ _ q refl refl tt)
      (λ ne q. absurd (ne found))
      (next_of h)

  word_alone : (count : ℕ) → Here (Word c count) → Leads (Word c count)
  word_alone count h =
      let i : ℕ = entry_index g (c.block % g.blocks) c.offset count in
      let w : ℕ = slice_index ws i in
      pick_less (Follows h (slice_set ws i w) w (v.read ++ w ∷ [])) (count + 1) g.width (Next (Take (Word c (count + 1)))) (Next (Take (Consume c)))
      (λ l q. load_on h _ _ q refl refl tt)
      (λ l q. load_on h _ _ q refl refl tt)
      (next_of h)

  consume_alone : Here (Consume c) → Leads (Consume c)
  consume_alone h =
      let f = (knows_at g h.limits front next ws vs h.sound id v h.at (Consume c) h.phase).1 in
      let number = accepted_of (put_here h) refl in
      let given = given_is h in
      let made = made_counts vs (placed next v.read) f in
      let once = made_within stage g front ws vs h.sound.puts next in
      let less : next < front.next = ⊎_elim (λ l. l) (λ l. let z = none_from next front.next l in absurd (omega arith)) (cases_lt next front.next) in
      let at = place_of_cursor g next in
      (ok_alone n t (place_at g c) (omega arith) (omega arith), come_to_rest h 0 1 _ (next_of h) refl (omega arith) (length-append v.taken _))

  pub take_goes : (q : SoleTake) → Here q → Leads q
  take_goes (Com r) h = subst (λ (d : Cursor). Here (Com d) → Leads (Com d)) (sym (at_next (Com r) h)) com_alone h
  take_goes (All r m) h = subst (λ (d : Cursor). Here (All d m) → Leads (All d m)) (sym (at_next (All r m) h)) (all_alone m) h
  take_goes (Word r count) h = subst (λ (d : Cursor). Here (Word d count) → Leads (Word d count)) (sym (at_next (Word r count) h)) (word_alone count) h
  take_goes (Consume r) h = subst (λ (d : Cursor). Here (Consume d) → Leads (Consume d)) (sym (at_next (Consume r) h)) consume_alone h
