-- What the cursors that puts move tell of each other.
use Rattle.std.proofs.Common.{◌≡◌, ℕ, ◌+◌, ◌-◌, ◌*◌, ◌/◌, ◌%◌, ◌<◌, ◌≤◌, ◌⊎◌, min, List, [], ◌∷◌, cond, sym, ap, ◌∙◌, subst, inl, inr, ⊎_elim, lt_of_not-le, arith}
use Rattle.std.specs.Prelude.{◌==◌, slice_index}
use Rattle.std.specs.List.{AllByRecursion}
use Rattle.std.proofs.lemmas.Bool.{cases_lt}
use Rattle.std.proofs.lemmas.Nat.{div-add-mod', mod_below}
use Rattle.std.proofs.Math.Nat.{mod-mod}
use Rattle.cursor_word.specs.Shape.{Grid}
use Rattle.cursor_word.specs.Cursor.{offset_span, packed, unpacked}
use Rattle.cursor_word.specs.declared.cursor.Cursor.{Cursor}
use Rattle.cursor_word.proofs.Blocks.{IsLatest, latest, latest_is, same_block, shifted}
use Rattle.put_side.specs.Cursors.{Front, PutCursors, PutWords, allocated_word, committed_word, place, put_cursors}
use Rattle.put_side.specs.Counts.{times}
use Rattle.put_side.specs.Places.{IsFilled}
use Rattle.put_side.proofs.Sums.{not_there, times-cons}

-- one word for each physical block
abbrev pub IsPhysical : Grid → (ℕ → ℕ) → Type 0
IsPhysical g word = (k h : ℕ) → k % g.blocks ≡ h % g.blocks → word k ≡ word h

pub physical : (g : Grid) (ws : List ℕ) (c : ℕ) → IsPhysical g (λ k. slice_index ws (c + 4 * (k % g.blocks)))
physical g ws c k h e = ap (λ (r : ℕ). slice_index ws (c + 4 * r)) e

pub place_next : (g : Grid) (k : ℕ) → g.blocks ≤ k → place g (k + 1) 0 ≡ place g k g.size
place_next g k le = let d : k + 1 - g.blocks ≡ (k - g.blocks) + 1 = omega arith in let e = ap (λ (n : ℕ). n * g.size) d in omega arith

-- the cursors of these words, from each of them
pub cursors_are : (g : Grid) (ws : List ℕ) (cs : PutCursors) → slice_index ws 0 ≡ cs.producer → ((k : ℕ) → allocated_word g ws k ≡ cs.allocated k) → ((k : ℕ) → committed_word g ws k ≡ cs.committed k) → cs ≡ put_cursors g ws
cursors_are g ws cs p a m = λ i. record { producer = sym p i; allocated = λ k. sym (a k) i; committed = λ k. sym (m k) i }

-- the cursors with one of them changed
abbrev pub with_producer : PutCursors → ℕ → PutCursors
with_producer cs p = record { producer = p; allocated = cs.allocated; committed = cs.committed }

abbrev pub with_allocated : PutCursors → (ℕ → ℕ) → PutCursors
with_allocated cs a = record { producer = cs.producer; allocated = a; committed = cs.committed }

abbrev pub with_committed : PutCursors → (ℕ → ℕ) → PutCursors
with_committed cs m = record { producer = cs.producer; allocated = cs.allocated; committed = m }

-- the front with another next place, or another last block
abbrev pub with_next : Front → ℕ → Front
with_next front n = record { last = front.last; next = n }

abbrev pub with_last : Front → ℕ → Front
with_last front k = record { last = k; next = front.next }

-- what stands at the allocated cursor of a physical block
pub record IsFound (g : Grid) (front : Front) (h word : ℕ) : Type 0 where
  pub from : h ≤ word / offset_span
  pub to : word / offset_span ≤ front.last
  pub same : (word / offset_span) % g.blocks ≡ h % g.blocks
  pub draws : word % offset_span < g.size → (word / offset_span ≡ front.last) × (front.next ≡ place g front.last (word % offset_span))

module _ {g : Grid} {front : Front} {cs : PutCursors} (w : PutWords g front cs) where
  -- the places that are allocated lie in blocks that are opened
  pub allocated_to : front.next ≤ place g (front.last + 1) 0
  allocated_to = let e = place_next g front.last w.from in ⊎_elim (λ t. omega (arith, t.at)) (λ t. omega (arith, t.at)) w.newest

  newest_found : (h : ℕ) → front.last % g.blocks ≡ h % g.blocks → h ≤ front.last → (h ≤ cs.producer ⊎ h < g.blocks) → IsFound g front h (cs.allocated front.last)
  newest_found h e le known =
      let far : (front.last < h + g.blocks) → h ≡ front.last = λ n. same_block g.blocks h front.last (sym e) le n in
      ⊎_elim
      (λ t. record { from = omega (arith, t.block); to = omega (arith, t.block); same = ap (λ (n : ℕ). n % g.blocks) t.block ∙ e; draws = λ l. (t.block, omega (arith, t.at)) })
      (λ t. record {
        from = ⊎_elim (λ k. ⊎_elim (λ n. let s = far n in omega (arith, t.behind)) (λ n. omega (arith, t.older)) (cases_lt front.last (h + g.blocks)))
            (λ k. ⊎_elim (λ n. let s = far n in omega (arith, w.from)) (λ n. omega (arith, t.older)) (cases_lt front.last (h + g.blocks))) known;
        to = omega (arith, t.older);
        same = shifted g.blocks (cs.allocated front.last / offset_span) front.last t.older ∙ e;
        draws = λ l. absurd (omega (arith, t.filled));
      })
      w.newest

  found_by : (h k : ℕ) → (h ≤ cs.producer ⊎ h < g.blocks) → IsLatest g.blocks h front.last k → IsFound g front h (cs.allocated k)
  found_by h k known l =
      ⊎_elim
      (λ n. let f = w.full k n l.near in record {
        from = omega (arith, f.0, l.from);
        to = omega (arith, f.0, l.to);
        same = ap (λ (b : ℕ). b % g.blocks) f.0 ∙ l.same;
        draws = λ o. absurd (omega (arith, f.1));
      })
      (λ n. let e : front.last ≡ k = omega (arith, l.to) in
      subst (λ (b : ℕ). IsFound g front h (cs.allocated b)) e (newest_found h (ap (λ (b : ℕ). b % g.blocks) e ∙ l.same) (omega (arith, l.from)) known))
      (cases_lt k front.last)

  module _ (two : 2 ≤ g.blocks) where
    module _ (same : IsPhysical g cs.allocated) where
      -- a head that was read finds a cursor no older than itself
      pub found : (h : ℕ) → h ≤ cs.producer → IsFound g front h (cs.allocated h)
      found h le =
          let l = latest_is g.blocks h front.last (omega arith) (omega (arith, w.head_to)) in
          subst (IsFound g front h) (same _ _ l.same) (found_by h _ (inl le) l)

      -- an offset below the size is of the newest block
      pub found_open : (h : ℕ) → h ≤ front.last → cs.allocated h % offset_span < g.size → (cs.allocated h / offset_span ≡ front.last) × (front.next ≡ place g front.last (cs.allocated h % offset_span))
      found_open h le less =
          let l = latest_is g.blocks h front.last (omega arith) le in
          let k : ℕ = latest g.blocks h front.last in
          let e : cs.allocated k ≡ cs.allocated h = same _ _ l.same in
          ⊎_elim (λ n. let f = w.full k n l.near in absurd (omega (arith, f.1)))
          (λ n. let j : k ≡ front.last = omega (arith, l.to) in let z = ap cs.allocated j in
          ⊎_elim (λ q. (omega (arith, q.block), let y : min (cs.allocated front.last % offset_span) g.size ≡ cs.allocated h % offset_span = omega arith in q.at ∙ ap (place g front.last) y)) (λ q. absurd (omega (arith, q.filled))) w.newest)
          (cases_lt k front.last)

      -- no cursor is of a block that is not opened
      pub allocated_below : (h : ℕ) → cs.allocated h / offset_span ≤ front.last
      allocated_below h =
          let r : h % g.blocks < g.blocks = mod_below h g.blocks (omega arith) in
          let e : h % g.blocks % g.blocks ≡ h % g.blocks = mod-mod h g.blocks in
          let l = latest_is g.blocks (h % g.blocks) front.last (omega arith) (omega (arith, w.from)) in
          let f = found_by (h % g.blocks) _ (inr r) l in
          let s = same _ _ (l.same ∙ e) in omega (arith, f.to)

      -- each cursor is of a block of its physical block
      pub allocated_same : (h : ℕ) → (cs.allocated h / offset_span) % g.blocks ≡ h % g.blocks
      allocated_same h =
          let r : h % g.blocks < g.blocks = mod_below h g.blocks (omega arith) in
          let e : h % g.blocks % g.blocks ≡ h % g.blocks = mod-mod h g.blocks in
          let l = latest_is g.blocks (h % g.blocks) front.last (omega arith) (omega (arith, w.from)) in
          let f = found_by (h % g.blocks) _ (inr r) l in
          ap (λ (word : ℕ). (word / offset_span) % g.blocks) (sym (same _ _ (l.same ∙ e))) ∙ f.same ∙ e

      -- the block of a filled cursor was opened
      pub filled_opened : (full : Cursor) → IsFilled g cs full → full.block ≤ front.last
      filled_opened full f = let b = allocated_below full.block in omega (arith, f.known)

    pub committed_below : IsPhysical g cs.committed → (h : ℕ) → cs.committed h / offset_span ≤ front.last
    committed_below same h =
        let r : h % g.blocks < g.blocks = mod_below h g.blocks (omega arith) in
        let e : h % g.blocks % g.blocks ≡ h % g.blocks = mod-mod h g.blocks in
        let l = latest_is g.blocks (h % g.blocks) front.last (omega arith) (omega (arith, w.from)) in
        let f = w.committed _ l.to l.near in
        let s = same _ _ (l.same ∙ e) in omega (arith, l.to)

pub repacked : (word : ℕ) → packed (unpacked word) ≡ word
repacked word = div-add-mod' word offset_span

-- the cursor of its word
pub unpacked_is : (c : Cursor) (word : ℕ) → c.offset < offset_span → word ≡ packed c → c ≡ unpacked word
unpacked_is c word low e =
    let b : c.block ≡ word / offset_span = omega arith in
    let o : c.offset ≡ word % offset_span = omega arith in
    λ i. record { block = b i; offset = o i }

-- a cursor that was found filled
pub found_filled : {g : Grid} {front : Front} (cs : PutCursors) (h : ℕ) → IsPhysical g cs.allocated → g.blocks ≤ h → IsFound g front h (cs.allocated h) → g.size ≤ cs.allocated h % offset_span
    → IsFilled g cs (unpacked (cs.allocated h))
found_filled cs h same from f le = record {
  from = omega (arith, f.from);
  filled = le;
  fits = mod_below (cs.allocated h) offset_span (omega arith);
  known = let e = same _ _ f.same in let r = repacked (cs.allocated h) in omega arith;
}

-- all of a list is below a number from which on none stands in it
pub all_below : (m : ℕ) (xs : List ℕ) → ((q : ℕ) → m ≤ q → times q xs ≡ 0) → AllByRecursion (λ q. q < m) xs
all_below m [] none = tt
all_below m (y ∷ ys) none =
    let first : (q : ℕ) → m ≤ q → cond (y == q) 1 0 + times q ys ≡ 0 = λ q h. sym (times-cons q y ys) ∙ none q h in
    (lt_of_not-le (λ h. not_there y ys (first y h)), all_below m ys (λ q h. let e = first q h in omega arith))
