-- A block is opened to takes, in the place of one that is consumed.
use Rattle.std.proofs.Common.{◌≡◌, ℕ, ◌+◌, ◌-◌, ◌*◌, ◌/◌, ◌%◌, ◌<◌, ◌≤◌, ◌≢◌, ◌⊎◌, max, List, [], ◌∷◌, ◌++◌, length, refl, sym, ap, ◌∙◌, subst, inl, inr, ⊎_elim, arith}
use Rattle.std.specs.Prelude.{Option, Some, slice_get, slice_set, slice_index}
use Rattle.std.specs.List.{sum_by}
use Rattle.std.proofs.lemmas.List.{get_or-set_same, get_or-set_other}
use Rattle.std.proofs.lemmas.List.Sums.{sum_by-le-sum_by}
use Rattle.std.proofs.lemmas.Bool.{cases_lt}
use Rattle.std.proofs.lemmas.Nat.{mod_below}
use Rattle.cursor_word.specs.Shape.{Grid, IsWithinLimits}
use Rattle.cursor_word.specs.Cursor.{offset_span, packed, place_at}
use Rattle.cursor_word.specs.declared.cursor.Cursor.{Cursor}
use Rattle.cursor_word.proofs.Blocks.{latest_is, same_near, shifted}
use Rattle.rail.specs.declared.entry.Placed.{Placed}
use Rattle.rail.specs.Items.{IsRising, places}
use Rattle.machine.specs.declared.op.After.TheVariants.{Next}
use Rattle.machine.specs.Steps.{view_after}
use Rattle.put_side.specs.Cursors.{Front, consumed_word, place, reserved_word}
use Rattle.put_side.specs.Counts.{sum_below, takes, times}
use Rattle.put_side.specs.Places.{IsCurrent}
use Rattle.put_side.proofs.Sums.{none_from, sum_same, upto_none, upto_same}
use Rattle.put_side.proofs.Facts.{committed_below, physical, place_next}
use Rattle.bbq_core.specs.declared.phase.Phase.{Phase}
use Rattle.bbq_core.specs.declared.phase.Phase.TheVariants.{Put, SeeR, Take}
use Rattle.put_side.specs.declared.put_phase.PutPhase.TheVariants.{OpenM}
use Rattle.bbq_core.specs.declared.take_phase.TakePhase.{TakePhase}
use Rattle.bbq_core.specs.declared.take_phase.TakePhase.TheVariants.{Read, Consume, OpenX, OpenR}
use Rattle.put_side.specs.PutTable.{stage_in}
use Rattle.bbq_core.specs.Stage.{stage, stage_of}
use Rattle.bbq_core.specs.Types.{View}
use Rattle.bbq_core.specs.Table.{table}
use Rattle.bbq_core.specs.Cursors.{TakeCursors, TakeWords, take_cursors}
use Rattle.bbq_core.specs.Counts.{fetch_count, fetched, fetches, reading, reading_in}
use Rattle.bbq_core.specs.Sound.{IsSoundAt, Knows, Scene, TakeFits, TakeKnows, scene}
use Rattle.bbq_core.proofs.Frames.{after_step, fits_later, take_cursors_are, raised_later}
use Rattle.bbq_core.proofs.Loads.{go_on, loads}
use Rattle.bbq_core.proofs.TakeFacts.{reserved_below, takes_le, unread}
use Rattle.bbq_core.proofs.TakeLoads.{knows_at}
use Rattle.put_side.proofs.TakeWords.{consumed_at, long_enough, puts_stay}

-- the scene where takes have opened one block more
abbrev one_further : Scene → Scene
one_further s = record { passed = s.passed + 1; cursors = s.cursors; committed = s.committed; views = s.views }

current_opens : (g : Grid) (last : ℕ) (at : Cursor) → IsCurrent g last at → at.block + g.blocks ≢ last + 1 → IsCurrent g (last + 1) at
current_opens g last at c n = record { from = c.from; to = omega (arith, c.to); near = ⊎_elim (λ l. l) (λ l. absurd (n (omega (arith, c.near)))) (cases_lt (last + 1) (at.block + g.blocks)); within = c.within }

-- what a seat remembers stays where a block is opened, since it reads no place of the older block
abbrev ReadsElsewhere : Grid → ℕ → List ℕ → Type 0
ReadsElsewhere g last places = (at : Cursor) → places ≡ place_at g at ∷ [] → IsCurrent g last at → at.block + g.blocks ≢ last + 1

take_knows_opens : (g : Grid) (s : Scene) (read : List ℕ) (q : TakePhase) → ReadsElsewhere g s.passed (reading_in g q) → TakeKnows g s read q → TakeKnows g (one_further s) read q
take_knows_opens g s read (Read at next) n f = (current_opens g s.passed at f.0 (n at refl f.0), f.1, f.2)
take_knows_opens g s read (Consume at) n f = (current_opens g s.passed at f.0 (n at refl f.0), f.1)
take_knows_opens g s read q n f = f

knows_opens : (g : Grid) (s : Scene) (made : List Placed) (read : List ℕ) (ph : Option Phase) → ReadsElsewhere g s.passed (reading g ph) → Knows g s made read ph → Knows g (one_further s) made read ph
knows_opens g s made read (Some (SeeR full x)) n f = f
knows_opens g s made read (Some (Put (OpenM full))) n f = f
knows_opens g s made read (Some (Take q)) n f = take_knows_opens g s read q n f
knows_opens g s made read ph n f = tt

-- the step opened the next block to takes
pub record PassesNext (p : Phase) (back to : Front) : Type 0 where
  pub next : to.last ≡ back.last + 1
  pub spent : Cursor
  pub opens : p ≡ Take (OpenX spent)
  pub newest : spent.block ≡ back.last

module _ (g : Grid) (limits : IsWithinLimits g) (front back : Front) (ws : List ℕ) (vs : List View) (s : IsSoundAt g front back ws vs) (id : ℕ) (v : View) (at : slice_get vs id ≡ Some v) (spent : Cursor) (e : v.phase ≡ Some (Take (OpenX spent))) where
  abbrev old : ℕ
  old = slice_index ws (5 + 4 * ((spent.block + 1) % g.blocks))

  abbrev words' : List ℕ
  words' = slice_set ws (5 + 4 * ((spent.block + 1) % g.blocks)) (max old ((spent.block + 1) * offset_span))

  abbrev view' : View
  view' = view_after table g ws v (Take (OpenX spent))

  abbrev further : Front
  further = record { last = back.last + 1; next = back.next }

  -- the consumed cursor of the next block is opened, where the block is the next
  opens : spent.block ≡ back.last → IsSoundAt g front further words' (slice_set vs id view')
  opens newest =
      let last : ℕ = back.last in
      let t : ℕ = back.next in
      let own = s.each id v at in
      let f = knows_at g limits front back ws vs s id v at (OpenX spent) e in
      let h : ℕ = spent.block + 1 in
      let i : ℕ = 5 + 4 * (h % g.blocks) in
      let x : ℕ = max old (h * offset_span) in
      let ws' : List ℕ = words' in
      let v' : View = view' in
      let j : ℕ = last + 1 - g.blocks in
      let two = limits.blocks_from in
      let w = s.takes in
      let n = s.counts in
      let c : TakeCursors = take_cursors g ws in
      let before : j + g.blocks ≡ last + 1 = omega (arith, w.from) in
      let turn : j % g.blocks ≡ (last + 1) % g.blocks = shifted g.blocks j (last + 1) before in
      let here : h % g.blocks ≡ (last + 1) % g.blocks = ap (λ (b : ℕ). (b + 1) % g.blocks) newest in
      let low = committed_below s.puts.places.words two (physical g ws 3) h in
      let opened : last + 1 ≤ front.last = omega (arith, f.1) in
      let was = w.consumed j (omega arith) (omega arith) in
      let spent_j : consumed_word g ws j % offset_span ≡ g.size = w.reused j (omega arith) (omega arith) (omega arith) in
      let same_old : consumed_word g ws j ≡ old = physical g ws 5 j h (turn ∙ sym here) in
      let new : x ≡ (last + 1) * offset_span = omega (arith, was.0, limits.size_to) in
      let m = mod_below h g.blocks (omega arith) in
      let word = consumed_at g h limits in
      let long = long_enough g ws i x word stage_of front vs id v v' at (ap (stage_in stage) e) s.puts in
      let known : packed spent ≤ reserved_word g ws last = subst (λ (b : ℕ). packed spent ≤ reserved_word g ws b) newest f.0.known in
      let z = place_next g last w.from in
      let full = f.0.full in
      let top : (reserved_word g ws last / offset_span ≡ last) × (reserved_word g ws last % offset_span ≡ g.size) × (t ≡ place g (last + 1) 0) =
      ⊎_elim (λ q. let o : reserved_word g ws last % offset_span ≡ g.size = omega (arith, q.block, q.within, limits.size_to) in (q.block, o, omega (arith, q.at))) (λ q. absurd (omega (arith, q.older))) w.newest in
      let there : consumed_word g ws' (last + 1) ≡ x = ap (λ (r : ℕ). slice_index ws' (5 + 4 * r)) (sym here) ∙ get_or-set_same ws i x 0 long in
      let other : (k : ℕ) → k ≤ last → last + 1 < k + g.blocks → consumed_word g ws' k ≡ consumed_word g ws k = λ k l n. get_or-set_other ws i _ x 0
      (λ r. let q : k % g.blocks ≡ h % g.blocks = omega arith in let z = same_near g.blocks k (last + 1) (last + 1) (q ∙ here) (omega arith) n (omega arith) (omega arith) in omega arith) in
      let later = raised_later g back ws vs id v v' at refl i x long (omega arith) in
      let made = later.made in
      let old_R = w.passed j (omega arith) (omega arith) in
      let at_R : reserved_word g ws j ≡ reserved_word g ws (last + 1) = physical g ws 4 j (last + 1) turn in
      let c' : TakeCursors = record { consumer = c.consumer; reserved = c.reserved; consumed = consumed_word g ws' } in
      let takes' : TakeWords g front.last further c' = record {
        from = omega (arith, w.from);
        behind = opened;
        near = omega (arith, w.near);
        head_from = w.head_from;
        head_to = omega (arith, w.head_to);
        consumed = λ k l n. ⊎_elim (λ q. let y = other k (omega arith) n in let p = w.consumed k (omega arith) (omega arith) in (ap (λ (w : ℕ). w / offset_span) y ∙ p.0, omega (arith, p.1)))
            (λ q. let y : k ≡ last + 1 = omega arith in subst (λ (b : ℕ). (consumed_word g ws' b / offset_span ≡ b) × (consumed_word g ws' b % offset_span ≤ g.size)) (sym y) (omega (arith, there, new), omega (arith, there, new))) (cases_lt k (last + 1));
        reused = λ k l n r. ⊎_elim (λ q. let y = other k (omega arith) n in ap (λ (w : ℕ). w % offset_span) y ∙ w.reused k (omega arith) (omega arith) r) (λ q. absurd (omega (arith, w.near))) (cases_lt k (last + 1));
        passed = λ k l n. ⊎_elim (λ q. w.passed k q (omega arith)) (λ q. let y : k ≡ last = omega arith in subst (λ (b : ℕ). (reserved_word g ws b / offset_span ≡ b) × (reserved_word g ws b % offset_span ≡ g.size)) (sym y) (top.0, top.1)) (cases_lt k last);
        newest = inr record { older = omega (arith, old_R.0); spent = omega (arith, old_R.1); behind = omega (arith, w.head_to); at = top.2 };
      } in
      let fetch : fetched g v' ≡ fetched g v = ap (λ (l : List ℕ). places v.taken ++ l) (sym (ap (reading g) e)) in
      let taken_same : (p : ℕ) → sum_by (takes p) (slice_set vs id v') ≡ sum_by (takes p) vs = λ p. sum_same (takes p) vs id v v' at refl in
      let none : (o : ℕ) → sum_by (takes (place g (last + 1) o)) vs ≡ 0 = λ o. let y = sum_by-le-sum_by (takes (place g (last + 1) o)) (fetches g (place g (last + 1) o)) vs (takes_le g _) in
      let q = n.read_once (place g (last + 1) o) in let z = none_from (place g (last + 1) o) t (omega (arith, top.2)) in omega arith in
      let all : (k : ℕ) (u : View) → slice_get vs k ≡ Some u → TakeFits g (scene g further ws' (slice_set vs id v')) u =
      λ k u there. let y = fits_later g _ _ later u (s.each k u there) in
      record {
        knows = knows_opens g (scene g back ws' (slice_set vs id v')) u.made u.read u.phase
            (λ z reads cur q. let b : z.block ≡ j = omega arith in let un = unread g front back ws vs s k u z there reads cur in let r = un.room in let w = ap (consumed_word g ws) b in omega arith) y.knows;
        rising = y.rising;
        items = y.items;
        unread = y.unread;
      } in
      after_step g front front back ws ws' vs id v v' s at further
      (puts_stay g ws i x word stage_of front vs id v v' at (ap (stage_in stage) e) s.puts record { made = refl; entry = refl; stands = refl })
      (subst (TakeWords g front.last further) (take_cursors_are g ws' c' (get_or-set_other ws i 1 x 0 (λ r. omega arith)) (λ k. get_or-set_other ws i _ x 0 (λ r. omega arith)) (λ k. refl)) takes')
      record {
        read_once = λ p. sum_same (fetches g p) vs id v v' at (ap (times p) fetch) ∙ n.read_once p;
        read_number = sum_same (fetch_count g) vs id v v' at (ap (λ (l : List ℕ). length l) fetch) ∙ n.read_number;
        taken = λ k l near old. ⊎_elim
            (λ q. let y = other k (omega arith) near in ap (λ (w : ℕ). w % offset_span) y ∙ n.taken k (omega arith) (omega arith) old ∙ upto_same g.size _ _ (λ o b. sym (taken_same (place g k o))))
            (λ q. let z : k ≡ last + 1 = omega arith in subst (λ (b : ℕ). consumed_word g ws' b % offset_span ≡ sum_below g.size (λ o. sum_by (takes (place g b o)) (slice_set vs id v'))) (sym z)
            (let y = upto_none g.size (λ o. sum_by (takes (place g (last + 1) o)) (slice_set vs id v')) (λ o. taken_same _ ∙ none o) in omega (arith, there, new)))
            (cases_lt k (last + 1));
        taken_made = λ p. let y = made.counts p in let q = taken_same p in omega (arith, n.taken_made p);
      }
      all
      record {
        knows = (record { from = f.0.from; full = f.0.full; known = let z = later.reserved spent.block in omega (arith, f.0.known) }, let z = get_or-set_same ws i x 0 long in omega arith);
        rising = subst IsRising (sym fetch) own.rising;
        items = λ k item q. made.items item (own.items k item q);
        unread = λ q h n. own.unread (OpenX spent) e refl;
      }

  -- the consumed cursor of the next block is opened, or was
  pub keeps_OpenX : (last : ℕ) × ((last ≡ back.last) ⊎ PassesNext (Take (OpenX spent)) back (record { last = last; next = back.next })) × IsSoundAt g front (record { last = last; next = back.next }) words' (slice_set vs id view')
  keeps_OpenX =
      let f = knows_at g limits front back ws vs s id v at (OpenX spent) e in
      let w = s.takes in
      let b = reserved_below w limits.blocks_from (physical g ws 4) spent.block in
      let to : spent.block ≤ back.last = omega (arith, f.0.known) in
      let h : ℕ = spent.block + 1 in
      let i : ℕ = 5 + 4 * (h % g.blocks) in
      let x : ℕ = max old (h * offset_span) in
      ⊎_elim
      (λ n. let z : spent.block ≡ back.last = omega arith in (back.last + 1, inr record { next = refl; spent = spent; opens = refl; newest = z }, opens z))
      (λ n. let l = latest_is g.blocks h back.last (omega (arith, limits.blocks_from)) n in
      let c = w.consumed _ l.to l.near in
      let q = physical g ws 5 _ h l.same in
      let le : h * offset_span ≤ old = let c0 = c.0 in omega (arith, l.from) in (
        back.last,
        inl refl,
        subst (λ (z : ℕ). IsSoundAt g front back (slice_set ws i z) (slice_set vs id view')) (let z : old ≡ x = omega arith in z)
            (loads g limits front back ws vs s id v at i old (Take (OpenX spent)) (Next (Take (OpenR spent))) v.read e refl (go_on g limits front back ws vs s id v at (OpenX spent) (OpenR spent) e refl refl (f.0, le))),
      ))
      (cases_lt back.last h)
