-- The consumer moves on: the consumed cursor is raised past the entry.
use Rattle.std.proofs.Common.{◌≡◌, ℕ, suc, ◌⊎◌, inr, ◌+◌, ◌*◌, ◌%◌, ◌<◌, ◌≤◌, max, List, [], ◌∷◌, ◌++◌, length, refl, sym, ap, ◌∙◌, subst, inl, ⊎_elim, arith}
use Rattle.std.specs.Prelude.{Some, slice_get, slice_set, slice_index}
use Rattle.std.specs.List.{sum_by}
use Rattle.put_side.specs.Counts.{makes}
use Rattle.std.proofs.lemmas.List.{get_or-set_other, map-append}
use Rattle.std.proofs.lemmas.Bool.{cases_eq, cases_lt}
use Rattle.std.proofs.lemmas.Nat.{mod_below}
use Rattle.cursor_word.specs.Shape.{Grid, IsWithinLimits}
use Rattle.cursor_word.specs.Cursor.{cursor_of, offset_span, packed, place_at, place_span}
use Rattle.machine.specs.Invariant.{made_total}
use Rattle.cursor_word.specs.declared.cursor.Cursor.{Cursor}
use Rattle.cursor_word.proofs.Places.{offset_of_place, place_of_cursor}
use Rattle.rail.specs.declared.entry.Placed.{Placed}
use Rattle.rail.specs.Items.{placed, places}
use Rattle.rail.specs.Outcome.{numbers_below}
use Rattle.machine.specs.Steps.{view_after, words_after}
use Rattle.machine.proofs.Lists.{get_set}
use Rattle.put_side.specs.Cursors.{Front, consumed_word, put_cursors}
use Rattle.put_side.specs.Entries.{IsMade}
use Rattle.put_side.specs.Manned as put_work
use Rattle.put_side.specs.PutTable.{stage_in}
use Rattle.put_side.proofs.Sums.{get_push}
use Rattle.put_side.proofs.Orders.{range_more}
use Rattle.put_side.proofs.Items.{made_counts}
use Rattle.put_side.proofs.Made.{made_same}
use Rattle.put_side.proofs.TakeWords.{consumed_at, keeps_put_words, manned_stays, puts_stay, set_at}
use Rattle.sole_core.specs.declared.phase.SolePhase.TheVariants.{Take}
use Rattle.sole_core.specs.declared.take_phase.SoleTake.TheVariants.{Consume}
use Rattle.sole_core.specs.Types.{View}
use Rattle.sole_core.specs.Table.{consumer, table}
use Rattle.sole_core.specs.Stage.{stage, stage_of}
use Rattle.sole_core.specs.Cursors.{TakeWords}
use Rattle.sole_core.specs.Sound.{IsSoundAt, TakeFits, scene}
use Rattle.sole_core.proofs.Facts.{few_made, one_on}
use Rattle.sole_core.proofs.Frames.{IsLater, fits_later, is_consumer}
use Rattle.sole_core.proofs.TakeLoads.{knows_at}

numbers_more : (n p : ℕ) → p ≡ n → numbers_below n ++ p ∷ [] ≡ numbers_below (n + 1)
numbers_more n p e = let z : p ≡ 0 + n = omega arith in let f : suc n ≡ n + 1 = omega arith in ap (λ (k : ℕ). numbers_below n ++ k ∷ []) z ∙ sym (range_more 0 n) ∙ ap numbers_below f

module _ (g : Grid) (limits : IsWithinLimits g) (front : Front) (next : ℕ) (ws : List ℕ) (vs : List View) (s : IsSoundAt g front next ws vs) (few : made_total vs ≤ place_span g) (id : ℕ) (v : View) (at : slice_get vs id ≡ Some v) where
  abbrev c : Cursor
  c = cursor_of g next

  abbrev i : ℕ
  i = 5 + 4 * (c.block % g.blocks)

  abbrev x : ℕ
  x = max (slice_index ws i) (packed c + 1)

  abbrev ws' : List ℕ
  ws' = slice_set ws i x

  abbrev v' : View
  v' = view_after table g ws v (Take (Consume c))

  abbrev vs' : List View
  vs' = slice_set vs id v'

  long : i < length ws
  long = let m = mod_below c.block g.blocks (omega (arith, limits.blocks_from)) in omega (arith, s.puts.all)

  -- a block is shown wholly consumed exactly where it is behind the new cursor
  consumed_on : TakeWords g (next + 1) (consumed_word g ws')
  consumed_on =
      let w = s.takes in
      let on = one_on g limits next in
      let within = offset_of_place g next limits in
      let u = set_at g 5 ws c.block x long in
      let c' : Cursor = cursor_of g (next + 1) in
      let size = limits.size_to in
      let further : ((c'.block ≡ c.block) × (c'.offset ≡ c.offset + 1)) ⊎ ((c'.block ≡ c.block + 1) × (c'.offset ≡ 0) × (c.offset + 1 ≡ g.size)) =
      ⊎_elim (λ l. inl (on.within l)) (λ l. inr (on.last l)) (cases_lt (c.offset + 1) g.size) in
      let up : packed c + 1 ≤ packed c' = ⊎_elim (λ n. let a = n.0 in let b = n.1 in omega arith) (λ n. let a = n.0 in let b = n.2 in omega arith) further in
      let step : c.block ≤ c'.block = ⊎_elim (λ n. let a = n.0 in omega arith) (λ n. let a = n.0 in omega arith) further in
      let here : consumed_word g ws c.block ≡ slice_index ws i = refl in
      record {
        passed = λ k le. ⊎_elim
            (λ q. let t = u.there k q in
            ⊎_elim (λ new. ⊎_elim (λ n. let a = n.0 in let b = n.1 in omega arith) (λ n. let a = n.0 in omega arith) further)
            (λ old. let z : consumed_word g ws k ≡ slice_index ws i = ap (λ (j : ℕ). slice_index ws (5 + 4 * j)) q in let h = w.passed k (omega arith) in omega arith)
            (cases_lt (slice_index ws i) (k * offset_span + g.size)))
            (λ q. let t = u.elsewhere k q in let h = w.passed k (omega arith) in omega arith) (cases_eq (k % g.blocks) (c.block % g.blocks));
        shown = λ k less. ⊎_elim
            (λ l. let h = w.shown k l in ⊎_elim (λ q. let t = u.there k q in let z : consumed_word g ws k ≡ slice_index ws i = ap (λ (j : ℕ). slice_index ws (5 + 4 * j)) q in omega arith) (λ q. let t = u.elsewhere k q in omega arith) (cases_eq (k % g.blocks) (c.block % g.blocks)))
            (λ l. ⊎_elim (λ n. let a = n.0 in absurd (omega arith))
            (λ n. let a = n.0 in let b = n.2 in let e : k ≡ c.block = omega arith in let t = u.there k (ap (λ (b : ℕ). b % g.blocks) e) in let m = ap (λ (b : ℕ). b * offset_span) e in omega arith) further)
            (cases_lt k c.block);
        most = λ k. let h = w.most k in ⊎_elim (λ q. let t = u.there k q in let z = w.most c.block in omega arith) (λ q. let t = u.elsewhere k q in omega arith) (cases_eq (k % g.blocks) (c.block % g.blocks));
      }

  consumes : v.phase ≡ Some (Take (Consume c)) → IsSoundAt g front (next + 1) ws' vs'
  consumes e =
      let own = s.each id v at in
      let first : id ≡ consumer = is_consumer g front next ws vs s id v (Consume c) at e in
      let f = (knows_at g limits front next ws vs s id v at (Consume c) e).1 in
      let here : place_at g c ≡ next = place_of_cursor g next in
      let u = set_at g 5 ws c.block x long in
      let m = mod_below c.block g.blocks (omega (arith, limits.blocks_from)) in
      let keeps = keeps_put_words g ws i x (consumed_at g c.block limits) in
      let made = made_same vs id v v' at refl in
      let later : IsLater g ws ws' vs vs' = record {
        consumed = λ k. ⊎_elim (λ q. let t = u.there k q in let z : consumed_word g ws k ≡ slice_index ws i = ap (λ (j : ℕ). slice_index ws (5 + 4 * j)) q in omega arith) (λ q. let t = u.elsewhere k q in omega arith) (cases_eq (k % g.blocks) (c.block % g.blocks));
        committed = λ k. let y = keeps.committed k in omega arith;
        made = made;
      } in
      let on = one_on g limits next in
      record {
        puts = puts_stay g ws i x (consumed_at g c.block limits) stage_of front vs id v v' at (ap (stage_in stage) e) s.puts record { made = refl; entry = refl; stands = refl };
        takes = consumed_on;
        unmoved = let y = s.unmoved in record { head = get_or-set_other ws i 1 x 0 (λ q. omega arith) ∙ y.head; reserved = λ k. get_or-set_other ws i (4 + 4 * (k % g.blocks)) x 0 (λ q. omega arith) ∙ y.reserved k };
        near = let n = s.near in ⊎_elim (λ l. let a = (on.within l).0 in omega arith) (λ l. let a = (on.last l).0 in omega arith) (cases_lt (c.offset + 1) g.size);
        room = let n = few_made vs (next + 1) (λ p l. ⊎_elim (λ less. s.made p less) (λ from. let z : next ≡ p = omega arith in subst (λ (q : ℕ). 1 ≤ sum_by (makes q) vs) z (made_counts vs (placed next v.read) f)) (cases_lt p next)) in omega (arith, few);
        made = λ p l. let y = made.counts p in ⊎_elim (λ less. let h = s.made p less in omega arith) (λ from. let z : next ≡ p = omega arith in subst (λ (q : ℕ). 1 ≤ sum_by (makes q) vs') z (made_counts vs' (placed next v.read) (made.items _ f))) (cases_lt p next);
        each = λ j z q. ⊎_elim
            (λ r. subst (TakeFits g (scene g (next + 1) ws' vs')) r.1 record {
              knows = tt;
              items = λ k item h. ⊎_elim (λ old. made.items item (own.items k item old)) (λ new. subst (IsMade vs') (ap (λ (p : ℕ). placed p v.read) (sym here) ∙ new) (made.items _ f)) (get_push v.taken (placed (place_at g c) v.read) k item h);
            })
            (λ r. fits_later g ws ws' vs vs' later next (next + 1) z (λ t h. absurd (r.0 (is_consumer g front next ws vs s j z t r.1 h ∙ sym first))) (s.each j z r.1)) (get_set vs id j v' z q);
        taken = λ z q. ⊎_elim
            (λ r. subst (λ (y : View). places y.taken ≡ numbers_below (next + 1)) r.1
            (map-append (λ (y : Placed). y.place) v.taken _ ∙ ap (λ (l : List ℕ). l ++ place_at g c ∷ []) (s.taken v (ap (λ (j : ℕ). slice_get vs j) r.0 ∙ at)) ∙ numbers_more next (place_at g c) here))
            (λ r. absurd (r.0 (sym first))) (get_set vs id consumer v' z q);
        others = λ j z n q. ⊎_elim (λ r. absurd (n (r.0 ∙ first))) (λ r. s.others j z n r.1) (get_set vs id j v' z q);
      }

  -- who is at work for puts stays
  consumes_manned : v.phase ≡ Some (Take (Consume c)) → put_work.IsManned stage_of g front (put_cursors g ws) vs → put_work.IsManned stage_of g front (put_cursors g ws') vs'
  consumes_manned e m = manned_stays g ws i x (consumed_at g c.block limits) stage_of front vs id v v' at (ap (stage_in stage) e) m

  -- what the last step of a take leaves
  pub record IsConsumed (r : Cursor) : Type 0 where
    pub sound : IsSoundAt g front (next + 1) (words_after table g ws v (Take (Consume r))) (slice_set vs id (view_after table g ws v (Take (Consume r))))
    pub manned : put_work.IsManned stage_of g front (put_cursors g ws) vs → put_work.IsManned stage_of g front (put_cursors g (words_after table g ws v (Take (Consume r)))) (slice_set vs id (view_after table g ws v (Take (Consume r))))

  pub keeps_Consume : (r : Cursor) → v.phase ≡ Some (Take (Consume r)) → IsConsumed r
  keeps_Consume r e =
      let at_next : v.phase ≡ Some (Take (Consume c)) → IsConsumed c = λ h. record { sound = consumes h; manned = consumes_manned h } in
      subst (λ (d : Cursor). v.phase ≡ Some (Take (Consume d)) → IsConsumed d) (sym (knows_at g limits front next ws vs s id v at (Consume r) e).0) at_next e
