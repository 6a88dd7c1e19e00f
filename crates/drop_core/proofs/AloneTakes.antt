-- A take that is done alone: each of its steps, and what it answers.
use Rattle.std.proofs.Common.{◌≡◌, ℕ, ◌+◌, ◌-◌, ◌*◌, ◌/◌, ◌%◌, ◌<◌, ◌≤◌, max, List, refl, sym, ap, ◌∙◌, subst, inl, inr, ⊎_elim, arith}
use Rattle.std.specs.Prelude.{slice_set, slice_index}
use Rattle.std.proofs.lemmas.Bool.{cases_lt}
use Rattle.std.proofs.lemmas.List.{get_or-set_same, get_or-set_other}
use Rattle.std.proofs.lemmas.Nat.{mod_below}
use Rattle.cursor_word.specs.Shape.{Grid}
use Rattle.cursor_word.specs.Cursor.{offset_span, packed, place_at}
use Rattle.cursor_word.specs.declared.cursor.Cursor.{Cursor}
use Rattle.rail.specs.Sequential.{drop_next}
use Rattle.machine.specs.declared.op.After.TheVariants.{Next}
use Rattle.put_side.specs.Cursors.{Front, allocated_word, committed_word, place, reserved_word}
use Rattle.put_side.proofs.Facts.{allocated_to, place_next, repacked, unpacked_is}
use Rattle.put_side.proofs.Sums.{none_from}
use Rattle.drop_core.specs.declared.phase.DropPhase.TheVariants.{Take}
use Rattle.drop_core.specs.declared.take_phase.DropTake.{DropTake}
use Rattle.drop_core.specs.declared.take_phase.DropTake.TheVariants.{HeadC, SeeRes, SeeCom, SeeAll, Reserve, Read, Verify, NextCom, Jump, OpenR, RaiseC}
use Rattle.drop_core.specs.Types.{View}
use Rattle.drop_core.specs.TakeSteps.{live_block}
use Rattle.put_side.proofs.AlonePuts.{accepted_of, head_of, made_of, open_of}
use Rattle.put_side.proofs.Choices.{pick_equal, pick_less, pick_same}
use Rattle.put_side.proofs.Lone.{next_at}
use Rattle.drop_core.specs.Stage.{stage}
use Rattle.drop_core.proofs.Loads.{committed_from, knows_take}
use Rattle.drop_core.proofs.Lone.{IsHere, Leads, StepLeads, calm_of, empty_is, full_is, last_is, live_is, loaded, ok_is, put_here}
use Rattle.drop_core.proofs.Frames.{raised}
use Rattle.put_side.proofs.Items.{made_counts}
use Rattle.drop_core.proofs.Reserves.{head_opened}

module _ (g : Grid) (n next : ℕ) (f : Front) (ws : List ℕ) (vs : List View) (id : ℕ) (v : View) where
  abbrev Here : DropTake → Type 0
  Here q = IsHere g n next f ws vs id v (Take q)

  abbrev Goes : DropTake → Type 0
  Goes q = StepLeads g n next ws v (Take q)

  abbrev head : ℕ
  head = slice_index ws 1

  lone_HeadC : (turn : ℕ) (first : Cursor) → Here (HeadC turn first) → Goes (HeadC turn first)
  lone_HeadC turn first h = loaded g n next ws 1 (Next (Take (SeeRes turn first head))) (refl, h.knows)

  lone_SeeRes : (turn : ℕ) (first : Cursor) (seen : ℕ) → Here (SeeRes turn first seen) → Goes (SeeRes turn first seen)
  lone_SeeRes turn first seen h =
      let i : ℕ = 4 + 4 * (seen % g.blocks) in
      let w : ℕ = slice_index ws i in
      let k = h.knows in
      let calm = calm_of h refl (λ b. refl) in
      let is : w ≡ reserved_word g ws head = ap (reserved_word g ws) k.0 in
      let block = calm.consumer in
      let size = h.limits.size_from in
      loaded g n next ws i _
      (pick_equal (Leads g n next ws) (w / offset_span) seen _ _
      (λ b. pick_less (Leads g n next ws) (w % offset_span) g.size _ _
      (λ l. (b ∙ k.0, repacked w ∙ is, ⊎_elim (λ one. inl one) (λ two. inr two.1) k.1))
      (λ l. pick_equal (Leads g n next ws) turn 1 _ _ (λ one. b ∙ k.0) (λ two. absurd (⊎_elim (λ one. two one) (λ z. let y = z.0 in omega arith) k.1))))
      (λ apart. absurd (apart (omega (arith, k.0)))))

  lone_SeeCom : (turn : ℕ) (r : Cursor) → Here (SeeCom turn r) → Goes (SeeCom turn r)
  lone_SeeCom turn r h =
      let i : ℕ = 3 + 4 * (r.block % g.blocks) in
      let w : ℕ = slice_index ws i in
      let k = h.knows in
      let s = h.sound in
      let calm = calm_of h refl (λ b. refl) in
      let found = (knows_take g f ws vs h.limits s id v h.at (SeeCom turn r) h.phase).1 in
      let opened : head ≤ f.last = head_opened g f ws vs h.limits s in
      let mark = committed_from g f ws vs h.limits s id v h.at r.block (omega (arith, k.0)) in
      let block = calm.consumer in
      let producer = calm.producer in
      let all = accepted_of (put_here h) refl in
      let within = found.within in
      let small = h.limits.size_to in
      let two = h.limits.blocks_from in
      loaded g n next ws i _
      (pick_equal (Leads g n next ws) w (packed r) _ _
      (λ e. let same : w / offset_span ≡ r.block = omega arith in
      let near = mark.3 same in
      let offset : w % offset_span ≡ r.offset = omega arith in
      let live = live_is g f ws vs h.limits s calm next h.answered r.offset (omega arith) (let z = k.1 in let y = k.0 in omega arith) (omega (arith, k.0)) in
      let here : place_at g r ≡ place g head r.offset = ap (λ (b : ℕ). place g b r.offset) k.0 in
      let last : r.block ≡ f.last = ⊎_elim (λ less. absurd (let z = full_is g f ws vs h.limits s calm.opened calm.made r.block less near in omega arith)) (λ ge. omega (arith, k.0)) (cases_lt r.block f.last) in
      let there : w ≡ committed_word g ws f.last = ap (committed_word g ws) last in
      let top = last_is g f ws vs h.limits s calm.opened calm.made in
      let base = next_at stage g f ws vs h.limits s.puts calm.opened in
      let end : f.next ≡ place g f.last r.offset = base ∙ ap (place g f.last) (omega arith) in
      let mine : place_at g r ≡ f.next = ap (λ (b : ℕ). place g b r.offset) last ∙ sym end in
      empty_is g n next (place_at g r) (mine ∙ all) (subst (λ (m : ℕ). drop_next g m next ≡ m) all (live ∙ sym here ∙ mine)))
      (λ ne. pick_less (Leads g n next ws) r.block (w / offset_span) _ _
      (λ l. pick_equal (Leads g n next ws) turn 1 _ _ (λ one. k.0)
      (λ later. absurd (⊎_elim (λ one. later one) (λ near. let c = s.puts.places.words.committed r.block (omega (arith, k.0)) (omega (arith, k.0)) in omega arith) k.2)))
      (λ l. let same : w / offset_span ≡ r.block = omega (arith, mark.0) in
      let near = mark.3 same in
      pick_equal (Leads g n next ws) (w % offset_span) g.size _ _
      (λ e. (k.0, k.1, omega (arith, k.0)))
      (λ e. (k.0, k.1, repacked w ∙ ap (committed_word g ws) k.0)))))

  lone_SeeAll : (r m : Cursor) → Here (SeeAll r m) → Goes (SeeAll r m)
  lone_SeeAll r m h =
      let i : ℕ = 2 + 4 * (r.block % g.blocks) in
      let w : ℕ = slice_index ws i in
      let k = h.knows in
      let s = h.sound in
      let calm = calm_of h refl (λ b. refl) in
      let ahead = (knows_take g f ws vs h.limits s id v h.at (SeeAll r m) h.phase).1 in
      let opened : head ≤ f.last = head_opened g f ws vs h.limits s in
      let small = h.limits.size_to in
      let within = ahead.within in
      let same = ahead.same in
      let there : committed_word g ws r.block ≡ committed_word g ws head = ap (committed_word g ws) k.0 in
      let mark = committed_from g f ws vs h.limits s id v h.at r.block (omega (arith, k.0)) in
      let producer = calm.producer in
      let block : committed_word g ws r.block / offset_span ≡ r.block = let z = k.2 in omega arith in
      let near = mark.3 block in
      let offset : committed_word g ws r.block % offset_span ≡ m.offset = let z = k.2 in omega arith in
      let last : r.block ≡ f.last = ⊎_elim (λ less. absurd (let z = full_is g f ws vs h.limits s calm.opened calm.made r.block less near in omega arith)) (λ ge. omega (arith, k.0)) (cases_lt r.block f.last) in
      let top = last_is g f ws vs h.limits s calm.opened calm.made in
      let is : w ≡ allocated_word g ws f.last = ap (allocated_word g ws) last in
      let mark_at : committed_word g ws r.block ≡ committed_word g ws f.last = ap (committed_word g ws) last in
      let front = calm.opened in
      let e : w ≡ packed m = omega arith in
      loaded g n next ws i _
      (pick_same (Leads g n next ws) w m _ _
      (λ q. (k.0, k.1, omega (arith, k.0)))
      (λ ne. absurd (ne (unpacked_is m w (omega arith) e))))

  lone_Reserve : (r : Cursor) → Here (Reserve r) → Goes (Reserve r)
  lone_Reserve r h =
      let i : ℕ = 4 + 4 * (r.block % g.blocks) in
      let w : ℕ = slice_index ws i in
      let ws' : List ℕ = slice_set ws i (max w (packed r + 1)) in
      let k = h.knows in
      let s = h.sound in
      let calm = calm_of h refl (λ b. refl) in
      let found = (knows_take g f ws vs h.limits s id v h.at (Reserve r) h.phase).0 in
      let within = found.within in
      let is : w ≡ reserved_word g ws head = ap (reserved_word g ws) k.0 in
      let e : w ≡ packed r = let z = k.1 in omega arith in
      let all = accepted_of (put_here h) refl in
      let producer = calm.producer in
      let live = live_is g f ws vs h.limits s calm next h.answered r.offset (omega arith) (let z = k.1 in let y = k.0 in omega arith) (let z = k.2 in omega arith) in
      let here : place_at g r ≡ drop_next g n next = ap (λ (b : ℕ). place g b r.offset) k.0 ∙ sym live ∙ ap (λ (m : ℕ). drop_next g m next) all in
      let same : slice_index ws' 0 ≡ slice_index ws 0 = get_or-set_other ws i 0 _ 0 (λ z. omega arith) in
      pick_equal (Leads g n next ws') w (packed r) _ _
      (λ q. (here, let z = k.2 in let y = k.0 in omega arith))
      (λ ne. absurd (ne e))

  lone_Read : (at : Cursor) (o : ℕ) → Here (Read at o) → Goes (Read at o)
  lone_Read at o h =
      loaded g n next ws _ _ (pick_less (Leads g n next ws) (o + 1) g.width _ _ (λ l. h.knows) (λ l. h.knows))

  lone_Verify : (at : Cursor) → Here (Verify at) → Goes (Verify at)
  lone_Verify at h =
      let i : ℕ = 2 + 4 * (at.block % g.blocks) in
      let w : ℕ = slice_index ws i in
      let k = h.knows in
      let s = h.sound in
      let of = knows_take g f ws vs h.limits s id v h.at (Verify at) h.phase in
      let opened : head ≤ f.last = head_opened g f ws vs h.limits s in
      let producer = head_of (put_here h) refl in
      let front = open_of (put_here h) refl in
      let all = accepted_of (put_here h) refl in
      let to = of.to in
      let block : w / offset_span ≡ at.block = ⊎_elim (λ less. (s.puts.places.words.full at.block less (omega (arith, k.1))).0)
      (λ ge. let z : at.block ≡ f.last = omega arith in ap (λ (b : ℕ). allocated_word g ws b / offset_span) z ∙ front ∙ sym z) (cases_lt at.block f.last) in
      let count = made_counts vs _ of.made in
      let one = made_of (put_here h) refl (place_at g at) in
      loaded g n next ws i _
      (pick_equal (Leads g n next ws) (w / offset_span) at.block _ _
      (λ q. ok_is g n next (place_at g at) k.0 (λ e. let z = none_from (place_at g at) f.next (omega arith) in omega arith))
      (λ ne. absurd (ne block)))

  lone_NextCom : (sp : Cursor) → Here (NextCom sp) → Goes (NextCom sp)
  lone_NextCom sp h =
      let i : ℕ = 3 + 4 * ((sp.block + 1) % g.blocks) in
      let w : ℕ = slice_index ws i in
      let k : sp.block ≡ head = h.knows in
      let s = h.sound in
      let calm = calm_of h refl (λ b. refl) in
      let spent = knows_take g f ws vs h.limits s id v h.at (NextCom sp) h.phase in
      let opened : head ≤ f.last = head_opened g f ws vs h.limits s in
      let all = accepted_of (put_here h) refl in
      let known = spent.known in
      let full = spent.full in
      let block = calm.consumer in
      let most = s.takes.most head in
      let there : reserved_word g ws sp.block ≡ reserved_word g ws head = ap (reserved_word g ws) k in
      let res : reserved_word g ws head ≡ head * offset_span + g.size = omega arith in
      loaded g n next ws i _
      (pick_less (Leads g n next ws) (w / offset_span) (sp.block + 1) _ _
      (λ l. let last : f.last ≡ head = ⊎_elim (λ z. omega arith) (λ z. absurd (let c = committed_from g f ws vs h.limits s id v h.at (sp.block + 1) z in omega (arith, c.0))) (cases_lt f.last (sp.block + 1)) in
      let live = live_is g f ws vs h.limits s calm next h.answered g.size (omega arith) res (omega (arith, h.limits.blocks_from)) in
      let size = h.limits.size_from in
      let gone = s.takes.made head (g.size - 1) s.takes.head_from (omega arith) (omega arith) block in
      let one = calm.made (place g head (g.size - 1)) in
      let least : place g head (g.size - 1) < f.next = ⊎_elim (λ z. z) (λ z. absurd (let y = none_from (place g head (g.size - 1)) f.next z in omega arith)) (cases_lt (place g head (g.size - 1)) f.next) in
      let edge = allocated_to s.puts.places.words in
      let same = ap (λ (b : ℕ). place g (b + 1) 0) last in
      let step = place_next g head s.takes.head_from in
      let end : f.next ≡ place g head g.size = omega arith in
      let mine : (sp.block + 1 - g.blocks) * g.size ≡ place g head g.size = (let z = ap (λ (b : ℕ). (b + 1 - g.blocks) * g.size) k in omega arith) in
      empty_is g n next _ (mine ∙ sym end ∙ all) (subst (λ (m : ℕ). drop_next g m next ≡ m) all (live ∙ sym end)))
      (λ l. k))

  lone_Jump : (from : Cursor) → Here (Jump from) → Goes (Jump from)
  lone_Jump from h = loaded g n next ws 0 (Next (Take (OpenR from (live_block g from (slice_index ws 0))))) (h.knows, omega arith)

  lone_OpenR : (from : Cursor) (to : ℕ) → Here (OpenR from to) → Goes (OpenR from to)
  lone_OpenR from to h =
      let i : ℕ = 4 + 4 * (to % g.blocks) in
      let x : ℕ = max (slice_index ws i) (to * offset_span) in
      let ws' : List ℕ = slice_set ws i x in
      let k = h.knows in
      let s = h.sound in
      let calm = calm_of h refl (λ b. refl) in
      let live = knows_take g f ws vs h.limits s id v h.at (OpenR from to) h.phase in
      let m = mod_below to g.blocks (omega (arith, h.limits.blocks_from)) in
      let up = raised g ws to x (omega (arith, s.puts.all)) in
      let same : slice_index ws' 0 ≡ slice_index ws 0 = get_or-set_other ws i 0 x 0 (λ z. omega arith) in
      let below = calm.below to in
      let later = live.later in
      (k.0 ∙ sym up.consumer, omega (arith, k.1), up.there to refl ∙ (let z = k.0 in omega arith))

  lone_RaiseC : (from : Cursor) (to : ℕ) → Here (RaiseC from to) → Goes (RaiseC from to)
  lone_RaiseC from to h =
      let x : ℕ = max (slice_index ws 1) to in
      let ws' : List ℕ = slice_set ws 1 x in
      let k = h.knows in
      let s = h.sound in
      let know = knows_take g f ws vs h.limits s id v h.at (RaiseC from to) h.phase in
      let less = know.1 in
      let c : slice_index ws' 1 ≡ to = get_or-set_same ws 1 x 0 (omega (arith, s.puts.all)) ∙ (let z = k.0 in omega arith) in
      let same : slice_index ws' 0 ≡ slice_index ws 0 = get_or-set_other ws 1 0 x 0 (λ z. omega arith) in
      let stays : reserved_word g ws' to ≡ reserved_word g ws to = get_or-set_other ws 1 _ x 0 (λ z. omega arith) in
      inr (ap (reserved_word g ws') c ∙ stays ∙ k.2 ∙ ap (λ (b : ℕ). b * offset_span) (sym c), omega (arith, k.1))

  -- each step of a take alone
  pub take_leads : (q : DropTake) → Here q → Goes q
  take_leads (HeadC turn first) h = lone_HeadC turn first h
  take_leads (SeeRes turn first seen) h = lone_SeeRes turn first seen h
  take_leads (SeeCom turn r) h = lone_SeeCom turn r h
  take_leads (SeeAll r m) h = lone_SeeAll r m h
  take_leads (Reserve r) h = lone_Reserve r h
  take_leads (Read at o) h = lone_Read at o h
  take_leads (Verify at) h = lone_Verify at h
  take_leads (NextCom sp) h = lone_NextCom sp h
  take_leads (Jump from) h = lone_Jump from h
  take_leads (OpenR from to) h = lone_OpenR from to h
  take_leads (RaiseC from to) h = lone_RaiseC from to h
