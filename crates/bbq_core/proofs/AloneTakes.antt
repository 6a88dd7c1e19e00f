-- A take that is done alone: each of its steps, and what it answers.
use Rattle.std.proofs.Common.{◌≡◌, ℕ, ◌+◌, ◌*◌, ◌/◌, ◌%◌, ◌<◌, ◌≤◌, ◌≢◌, max, List, [], ◌∷◌, ◌++◌, length, refl, sym, ap, ◌∙◌, inr, ⊎_elim, arith}
use Rattle.std.specs.Prelude.{slice_set, slice_index, if◌then◌else◌}
use Rattle.std.specs.List.{sum_by}
use Rattle.std.proofs.lemmas.List.{get_or-set_same, get_or-set_other, length-append}
use Rattle.std.proofs.lemmas.Bool.{cases_lt}
use Rattle.std.proofs.lemmas.Nat.{mod_below}
use Rattle.cursor_word.specs.Shape.{Grid}
use Rattle.cursor_word.specs.Cursor.{offset_span, packed, place_at, unpacked}
use Rattle.cursor_word.specs.declared.cursor.Cursor.{Cursor}
use Rattle.rail.specs.Sequential.{retry_take}
use Rattle.rail.specs.declared.answer.Take.TheVariants as take
use Rattle.machine.specs.declared.op.After.TheVariants.{Next}
use Rattle.machine.specs.Steps.{view_after, words_after}
use Rattle.put_side.specs.Cursors.{Front, allocated_word, committed_word, consumed_word, place, reserved_word}
use Rattle.put_side.specs.Counts.{makes, one_below}
use Rattle.put_side.proofs.Sums.{none_from, one_in}
use Rattle.put_side.proofs.Facts.{physical, repacked, unpacked_is}
use Rattle.put_side.proofs.Items.{made_counts}
use Rattle.bbq_core.specs.declared.phase.Phase.{Phase}
use Rattle.bbq_core.specs.declared.phase.Phase.TheVariants.{Take}
use Rattle.bbq_core.specs.declared.take_phase.TakePhase.TheVariants.{HeadC, SeeRes, SeeCom, SeeAll, Reserve, Read, Consume, NextCom, OpenX, OpenR, RaiseC}
use Rattle.bbq_core.specs.Types.{After, View}
use Rattle.bbq_core.specs.TakeSteps.{passed}
use Rattle.bbq_core.specs.Table.{table}
use Rattle.bbq_core.specs.Sound.{IsSoundAt}
use Rattle.bbq_core.proofs.AtAnswers.{empty_at, empty_past}
use Rattle.bbq_core.proofs.Lone.{consumed_is}
use Rattle.put_side.specs.Stages.{Away}
use Rattle.put_side.proofs.AlonePuts.{IsPutHere, accepted_of, made_of, open_of}
use Rattle.put_side.proofs.Lone.{committed_is}
use Rattle.bbq_core.specs.Stage.{stage}
use Rattle.bbq_core.specs.declared.take_phase.TakePhase.{TakePhase}
use Rattle.bbq_core.proofs.LoneSteps.{Follows, Goes, IsHere, back_is, come_to_rest, given_is, go_further, go_on, load_on, next_of, put_here, tail_is, taken_once}
use Rattle.put_side.proofs.Choices.{by_equal, pick_equal, pick_less, pick_same}
use Rattle.bbq_core.proofs.TakeFacts.{consumed_below, reserved_below, reserved_within}
use Rattle.bbq_core.proofs.TakeLoads.{committed_found, knows_at}

-- the answers of one thread
empty_is : (n t p : ℕ) → p ≡ n → t ≡ n → take.Empty p ≡ retry_take n t
empty_is n t p here all = by_equal t n (λ b. take.Empty p ≡ (if b then take.Empty n else take.Ok t)) (λ e. ap take.Empty here) (λ ne. absurd (ne all))

ok_is : (n t p : ℕ) → p ≡ t → t ≢ n → take.Ok p ≡ retry_take n t
ok_is n t p here some = by_equal t n (λ b. take.Ok p ≡ (if b then take.Empty n else take.Ok t)) (λ e. absurd (some e)) (λ ne. ap take.Ok here)

-- where nothing is held and all that is made is reserved, all that is accepted is taken
all_taken : (g : Grid) (front back : Front) (n t : ℕ) (ws : List ℕ) (vs : List View) → IsSoundAt g front back ws vs → ((p : ℕ) → sum_by (makes p) vs ≡ one_below p front.next) → front.next ≡ n → back.next ≡ t → front.next ≤ back.next → t ≡ n
all_taken g front back n t ws vs s made an ut le = let r = reserved_within g front back ws vs s in omega arith

module _ (g : Grid) (n t : ℕ) (front back : Front) (ws : List ℕ) (vs : List View) (id : ℕ) (v : View) where
  abbrev Here : Phase → Type 0
  Here p = IsHere g n t front back ws vs id v p

  abbrev Leads : Phase → Type 0
  Leads p = Goes g n t ws vs id v p

  -- a seat in a take stands in no put
  side : {q : TakePhase} → Here (Take q) → IsPutHere stage g n front ws vs id v Away
  side h = put_here h Away refl tt

  pub lone_HeadC : (turn : ℕ) (first : Cursor) → Here (Take (HeadC turn first)) → Leads (Take (HeadC turn first))
  lone_HeadC turn first h =
      load_on h _ _ tt (next_of h) refl refl (tail_is h refl, h.knows)

  pub lone_SeeRes : (turn : ℕ) (first : Cursor) (head : ℕ) → Here (Take (SeeRes turn first head)) → Leads (Take (SeeRes turn first head))
  lone_SeeRes turn first head h =
      let i : ℕ = 4 + 4 * (head % g.blocks) in
      let w : ℕ = slice_index ws i in
      let k = h.knows in
      let is : w ≡ reserved_word g ws back.last = ap (reserved_word g ws) k.0 in
      let block = back_is h refl in
      let b : w / offset_span ≡ back.last = omega arith in
      let F : After → Type 0 = Follows h (slice_set ws i w) w v.read in
      pick_less F (w % offset_span) g.size (Next (Take (SeeCom (unpacked w)))) (passed turn first (unpacked w))
      (λ l q. load_on h _ _ tt q refl refl (b, repacked w ∙ is))
      (λ l. pick_equal F turn 1 (Next (Take (NextCom (unpacked w)))) _
      (λ one q. load_on h _ _ tt q refl refl b)
      (λ two q. absurd (⊎_elim (λ y. two y) (λ y. omega (arith, h.limits.size_from)) k.1)))
      (next_of h)

  pub lone_SeeCom : (r : Cursor) → Here (Take (SeeCom r)) → Leads (Take (SeeCom r))
  lone_SeeCom r h =
      let i : ℕ = 3 + 4 * (r.block % g.blocks) in
      let w : ℕ = slice_index ws i in
      let k = h.knows in
      let s = h.sound in
      let f = knows_at g h.limits front back ws vs h.sound id v h.at (SeeCom r) h.phase in
      let is : w ≡ committed_word g ws back.last = ap (committed_word g ws) k.0 in
      let number = accepted_of (side h) refl in
      let number' = given_is h in
      let made = made_of (side h) refl in
      let taken = taken_once h refl in
      let top = back_is h refl in
      let near : front.last < back.last + g.blocks = ⊎_elim (λ l. l)
      (λ l. absurd (let x = s.takes.reused back.last (omega arith) (omega (arith, h.limits.blocks_from)) l in let y = consumed_is g front back ws vs h.limits s h.manned top taken back.last in omega (arith, k.1, f.within, h.limits.size_to)))
      (cases_lt front.last (back.last + g.blocks)) in
      let block = s.puts.places.words.committed back.last s.takes.behind near in
      let F : After → Type 0 = Follows h (slice_set ws i w) w v.read in
      pick_equal F w (packed r) _ _
      (λ e q. let z = empty_at g h.limits front back ws vs s r f e in
      let none : front.next ≤ back.next = ⊎_elim (λ l. absurd (let o = made (place_at g r) in let x = one_in (place_at g r) front.next (omega (arith, z.0)) in omega (arith, z.1))) (λ l. omega arith) (cases_lt back.next front.next) in
      let both = all_taken g front back n t ws vs s made (omega arith) (omega arith) none in
      (empty_is n t _ (sym z.0 ∙ omega arith) both, come_to_rest h 0 0 _ q refl (omega arith) (omega arith)))
      (λ ne. pick_less F r.block (w / offset_span) _ _
      (λ l. absurd (omega (arith, k.0)))
      (λ l. pick_equal F (w % offset_span) g.size _ _
      (λ e q. load_on h _ _ tt q refl refl (k.0, k.1))
      (λ e q. load_on h _ _ tt q refl refl (k.0, k.1, repacked w ∙ is))))
      (next_of h)

  pub lone_SeeAll : (r m : Cursor) → Here (Take (SeeAll r m)) → Leads (Take (SeeAll r m))
  lone_SeeAll r m h =
      let i : ℕ = 2 + 4 * (r.block % g.blocks) in
      let w : ℕ = slice_index ws i in
      let k = h.knows in
      let s = h.sound in
      let f = knows_at g h.limits front back ws vs h.sound id v h.at (SeeAll r m) h.phase in
      let ahead = f.1 in
      let is : w ≡ allocated_word g ws back.last = ap (allocated_word g ws) k.0 in
      let made = made_of (side h) refl in
      let top = open_of (side h) refl in
      let found = committed_found g h.limits front back ws vs s r f.0 in
      let there : committed_word g ws r.block ≡ committed_word g ws back.last = ap (committed_word g ws) k.0 in
      let near' = found.current (omega (arith, ahead.same, ahead.within, k.2, h.limits.size_to)) in
      let near : front.last < back.last + g.blocks = omega (arith, k.0) in
      let count = committed_is stage g front ws vs h.limits s.puts top made back.last s.takes.behind near s.takes.from in
      let offset : committed_word g ws back.last % offset_span ≡ m.offset = omega (arith, ahead.within, k.2, h.limits.size_to) in
      let newest : back.last ≡ front.last = ⊎_elim (λ l. absurd (let y = s.puts.places.words.full back.last l near in omega (arith, y.1, ahead.within))) (λ l. omega (arith, s.takes.behind)) (cases_lt back.last front.last) in
      let block : allocated_word g ws back.last / offset_span ≡ back.last = ap (λ (b : ℕ). allocated_word g ws b / offset_span) newest ∙ top ∙ sym newest in
      let e : w ≡ packed m = omega (arith, ahead.same, ahead.within, k.0) in
      let F : After → Type 0 = Follows h (slice_set ws i w) w v.read in
      pick_same F w m _ _
      (λ q x. load_on h _ _ tt x refl refl (k.0, k.1))
      (λ ne. absurd (ne (unpacked_is m w (omega (arith, ahead.within, h.limits.size_to)) e)))
      (next_of h)

  pub lone_Reserve : (r : Cursor) → Here (Take (Reserve r)) → Leads (Take (Reserve r))
  lone_Reserve r h =
      let i : ℕ = 4 + 4 * (r.block % g.blocks) in
      let w : ℕ = slice_index ws i in
      let ws' : List ℕ = slice_set ws i (max w (packed r + 1)) in
      let k = h.knows in
      let s = h.sound in
      let f = knows_at g h.limits front back ws vs h.sound id v h.at (Reserve r) h.phase in
      let is : w ≡ reserved_word g ws back.last = ap (reserved_word g ws) k.0 in
      let top = back_is h refl in
      let number' = given_is h in
      let base : back.next ≡ place g back.last (reserved_word g ws back.last % offset_span) = ⊎_elim (λ q. q.at) (λ q. absurd (omega (arith, q.older, h.limits.blocks_from))) s.takes.newest in
      let offset : reserved_word g ws back.last % offset_span ≡ r.offset = omega (arith, k.1, f.0.within, h.limits.size_to) in
      let here : place_at g r ≡ t = ap (λ (b : ℕ). place g b r.offset) k.0 ∙ sym (base ∙ ap (place g back.last) offset) ∙ omega arith in
      let e : w ≡ packed r = omega (arith, k.1) in
      pick_equal (Follows h ws' w v.read) w (packed r) _ _
      (λ q y. go_on h _ tt y refl refl here)
      (λ ne. absurd (ne e))
      (next_of h)

  pub lone_Read : (at : Cursor) (next : ℕ) → Here (Take (Read at next)) → Leads (Take (Read at next))
  lone_Read at next h =
      let ws' : List ℕ = words_after table g ws v (Take (Read at next)) in
      let v' : View = view_after table g ws v (Take (Read at next)) in
      let old : ℕ = slice_index ws (2 + 4 * g.blocks + ((at.block % g.blocks) * g.size + at.offset) * g.width + next) in
      pick_less (Follows h ws' old (v.read ++ old ∷ [])) (next + 1) g.width (Next (Take (Read at (next + 1)))) (Next (Take (Consume at)))
      (λ l q. go_on h _ tt q refl refl h.knows)
      (λ l q. go_on h _ tt q refl refl h.knows)
      (next_of h)

  pub lone_Consume : (at : Cursor) → Here (Take (Consume at)) → Leads (Take (Consume at))
  lone_Consume at h =
      let s = h.sound in
      let f = knows_at g h.limits front back ws vs h.sound id v h.at (Consume at) h.phase in
      let k = h.knows in
      let number = accepted_of (side h) refl in
      let made = made_of (side h) refl in
      let there = made_counts vs _ f.1 in
      let one = made (place_at g at) in (
        ok_is n t _ k (λ e. let z = none_from (place_at g at) front.next (omega arith) in omega arith),
        come_to_rest h 0 1 _ (next_of h) refl (omega arith) (length-append v.taken _),
      )

  pub lone_NextCom : (sp : Cursor) → Here (Take (NextCom sp)) → Leads (Take (NextCom sp))
  lone_NextCom sp h =
      let i : ℕ = 3 + 4 * ((sp.block + 1) % g.blocks) in
      let w : ℕ = slice_index ws i in
      let k = h.knows in
      let s = h.sound in
      let f = knows_at g h.limits front back ws vs h.sound id v h.at (NextCom sp) h.phase in
      let number = accepted_of (side h) refl in
      let number' = given_is h in
      let made = made_of (side h) refl in
      pick_less (Follows h (slice_set ws i w) w v.read) (w / offset_span) (sp.block + 1) _ _
      (λ l q. let z = empty_past g h.limits front back ws vs s sp f l in
      let both = all_taken g front back n t ws vs s made (omega arith) (omega arith) z.1 in
      (empty_is n t _ (omega (arith, z.0)) both, come_to_rest h 0 0 _ q refl (omega arith) (omega arith)))
      (λ l q. load_on h _ _ tt q refl refl k)
      (next_of h)

  pub lone_OpenX : (sp : Cursor) → Here (Take (OpenX sp)) → Leads (Take (OpenX sp))
  lone_OpenX sp h =
      let i : ℕ = 5 + 4 * ((sp.block + 1) % g.blocks) in
      let x : ℕ = max (slice_index ws i) ((sp.block + 1) * offset_span) in
      let ws' : List ℕ = slice_set ws i x in
      let k = h.knows in
      let q = next_of h in
      let m = mod_below (sp.block + 1) g.blocks (omega (arith, h.limits.blocks_from)) in
      let long : i < length ws = omega (arith, h.sound.puts.all) in
      let there : consumed_word g ws' (sp.block + 1) ≡ x = get_or-set_same ws i x 0 long in
      let to : q.back'.last ≡ back.last + 1 = ⊎_elim (λ e. absurd (let b = consumed_below q.sound.takes h.limits.blocks_from (physical g ws' 5) (sp.block + 1) in omega arith)) (λ o. o.next) q.passed in
      let low = reserved_below h.sound.takes h.limits.blocks_from (physical g ws 4) (back.last + 1) in
      let same : reserved_word g ws' (back.last + 1) ≡ reserved_word g ws (back.last + 1) = get_or-set_other ws i _ x 0 (λ q. omega arith) in
      let here = ap (reserved_word g ws') to in
      go_further h _ q refl refl (omega arith, omega arith)

  pub lone_OpenR : (sp : Cursor) → Here (Take (OpenR sp)) → Leads (Take (OpenR sp))
  lone_OpenR sp h =
      let i : ℕ = 4 + 4 * ((sp.block + 1) % g.blocks) in
      let old : ℕ = slice_index ws i in
      let x : ℕ = max old ((sp.block + 1) * offset_span) in
      let ws' : List ℕ = slice_set ws i x in
      let k = h.knows in
      let m = mod_below (sp.block + 1) g.blocks (omega (arith, h.limits.blocks_from)) in
      let long : i < length ws = omega (arith, h.sound.puts.all) in
      let was : old ≡ reserved_word g ws back.last = ap (reserved_word g ws) k.0 in
      let there : reserved_word g ws' back.last ≡ x = sym (ap (reserved_word g ws') k.0) ∙ get_or-set_same ws i x 0 long in
      let less = k.1 in
      go_on h _ tt (next_of h) refl refl (k.0, omega (arith, k.0))

  pub lone_RaiseC : (sp : Cursor) → Here (Take (RaiseC sp)) → Leads (Take (RaiseC sp))
  lone_RaiseC sp h =
      let x : ℕ = max (slice_index ws 1) (sp.block + 1) in
      let ws' : List ℕ = slice_set ws 1 x in
      let k = h.knows in
      let same : reserved_word g ws' back.last ≡ reserved_word g ws back.last = get_or-set_other ws 1 _ x 0 (λ q. omega arith) in
      go_on h _ tt (next_of h) refl refl (inr (same ∙ k.1))
