-- What the words and counts tell a take.
use Rattle.std.proofs.Common.{◌≡◌, ℕ, ◌+◌, ◌-◌, ◌*◌, ◌/◌, ◌%◌, ◌<◌, ◌≤◌, List, [], ◌∷◌, ◌++◌, sym, ap, ◌∙◌, subst, ⊎_elim, arith}
use Rattle.std.specs.Prelude.{Option, Some, slice_get}
use Rattle.std.specs.List.{sum_by}
use Rattle.std.proofs.lemmas.Bool.{cases_lt}
use Rattle.std.proofs.lemmas.List.Sums.{sum_by-append, sum_by-le-sum_by}
use Rattle.std.proofs.lemmas.Nat.{mod_below}
use Rattle.std.proofs.Math.Nat.{mod-mod, mul-le-mul_right}
use Rattle.cursor_word.specs.Shape.{Grid, IsWithinLimits}
use Rattle.cursor_word.specs.Cursor.{offset_span, packed, place_at, unpacked}
use Rattle.cursor_word.specs.declared.cursor.Cursor.{Cursor}
use Rattle.cursor_word.proofs.Blocks.{latest, latest_is, same_block, shifted}
use Rattle.rail.specs.declared.entry.Placed.{Placed}
use Rattle.rail.specs.Items.{places}
use Rattle.machine.proofs.Lists.{one_le_sum}
use Rattle.put_side.specs.Cursors.{Front, consumed_word, place}
use Rattle.put_side.specs.Counts.{makes, one_at, sum_below, takes, times}
use Rattle.put_side.specs.Places.{IsCurrent}
use Rattle.put_side.proofs.Sums.{none_from, one_in, one_to, some_counts, sum_gap, times-cons, times_push, upto_misses}
use Rattle.put_side.proofs.Facts.{IsPhysical, place_next, repacked}
use Rattle.put_side.proofs.Items.{made_counts, one_there}
use Rattle.put_side.proofs.Draws.{one_is}
use Rattle.bbq_core.specs.declared.phase.Phase.{Phase}
use Rattle.bbq_core.specs.declared.phase.Phase.TheVariants.{Take}
use Rattle.bbq_core.specs.declared.take_phase.TakePhase.TheVariants.{Read, Consume}
use Rattle.put_side.proofs.Moments.{made_within}
use Rattle.bbq_core.specs.Types.{View}
use Rattle.bbq_core.specs.Stage.{stage}
use Rattle.bbq_core.specs.Cursors.{IsHalfOpen, TakeCursors, TakeWords}
use Rattle.bbq_core.specs.Counts.{fetches, reading}
use Rattle.bbq_core.specs.Sound.{IsSoundAt, Knows, Scene, scene}

-- what stands at the reserved cursor of a physical block
pub record IsFoundR (g : Grid) (back : Front) (h word : ℕ) : Type 0 where
  pub from : h ≤ word / offset_span
  pub to : word / offset_span ≤ back.last
  pub same : (word / offset_span) % g.blocks ≡ h % g.blocks
  pub most : word % offset_span ≤ g.size
  pub draws : word % offset_span < g.size → (word / offset_span ≡ back.last) × (back.next ≡ place g back.last (word % offset_span))

module _ {g : Grid} {opened : ℕ} {back : Front} {c : TakeCursors} (w : TakeWords g opened back c) (two : 2 ≤ g.blocks) where
  module _ (same : IsPhysical g c.reserved) where
    newest_found : (h : ℕ) → back.last % g.blocks ≡ h % g.blocks → h ≤ back.last → h ≤ c.consumer → IsFoundR g back h (c.reserved back.last)
    newest_found h e le known =
        ⊎_elim
        (λ q. record { from = omega (arith, q.block); to = omega (arith, q.block); same = ap (λ (n : ℕ). n % g.blocks) q.block ∙ e; most = q.within; draws = λ l. (q.block, q.at) })
        (λ q. record {
          from = ⊎_elim (λ n. let z = same_block g.blocks h back.last (sym e) le n in omega (arith, q.behind)) (λ n. omega (arith, q.older)) (cases_lt back.last (h + g.blocks));
          to = omega (arith, q.older);
          same = shifted g.blocks (c.reserved back.last / offset_span) back.last q.older ∙ e;
          most = omega (arith, q.spent);
          draws = λ l. absurd (omega (arith, q.spent));
        })
        w.newest

    pub found_R : (h : ℕ) → h ≤ c.consumer → IsFoundR g back h (c.reserved h)
    found_R h le =
        let l = latest_is g.blocks h back.last (omega arith) (omega (arith, w.head_to)) in
        let k : ℕ = latest g.blocks h back.last in
        let f : IsFoundR g back h (c.reserved k) = ⊎_elim
        (λ n. let p = w.passed k n l.near in record {
          from = omega (arith, p.0, l.from);
          to = omega (arith, p.0, l.to);
          same = ap (λ (b : ℕ). b % g.blocks) p.0 ∙ l.same;
          most = omega (arith, p.1);
          draws = λ o. absurd (omega (arith, p.1));
        })
        (λ n. let e : back.last ≡ k = omega (arith, l.to) in subst (λ (b : ℕ). IsFoundR g back h (c.reserved b)) e (newest_found h (ap (λ (b : ℕ). b % g.blocks) e ∙ l.same) (omega (arith, l.from)) le))
        (cases_lt k back.last) in
        subst (IsFoundR g back h) (same _ _ l.same) f

    -- no reserved cursor is of a block that is not opened to takes
    pub reserved_below : (h : ℕ) → c.reserved h / offset_span ≤ back.last
    reserved_below h =
        let r : h % g.blocks < g.blocks = mod_below h g.blocks (omega arith) in
        let e : h % g.blocks % g.blocks ≡ h % g.blocks = mod-mod h g.blocks in
        let f = found_R (h % g.blocks) (omega (arith, w.head_from)) in
        let z = same _ _ e in omega (arith, f.to)

    -- a reserved cursor of an opened block and what is below it
    pub reserved_to : (k o : ℕ) → IsWithinLimits g → g.blocks ≤ k → o ≤ g.size → packed (unpacked (k * offset_span + o)) ≤ c.reserved k → (k ≤ back.last) × (place g k o ≤ back.next)
    reserved_to k o limits from le known =
        let small = limits.size_to in
        let p = repacked (k * offset_span + o) in
        let b = reserved_below k in
        let to : k ≤ back.last = omega arith in (
          to,
          ⊎_elim
              (λ n. let z = place_next g k from in let m : place g (k + 1) 0 ≤ place g back.last 0 = let q : k + 1 - g.blocks ≤ back.last - g.blocks = omega arith in let y = mul-le-mul_right g.size q in omega arith in
              ⊎_elim (λ q. omega (arith, q.at)) (λ q. omega (arith, q.at)) w.newest)
              (λ n. let e : k ≡ back.last = omega arith in let y = ap c.reserved e in
              subst (λ (b : ℕ). place g b o ≤ back.next) (sym e) (⊎_elim (λ q. let x : o ≤ c.reserved back.last % offset_span = omega (arith, q.block) in omega (arith, q.at)) (λ q. absurd (omega (arith, q.older))) w.newest))
              (cases_lt k back.last),
        )

    -- the reserved cursor of a block that was opened to consuming is its own, or that of the block before it in its physical block
    pub lags_R : (h : ℕ) → h ≤ back.last → c.reserved h / offset_span < h → (h ≡ back.last) × IsHalfOpen g back c.consumer (c.reserved back.last)
    lags_R h le old =
        let l = latest_is g.blocks h back.last (omega arith) le in
        let k : ℕ = latest g.blocks h back.last in
        let e : c.reserved k ≡ c.reserved h = same k h l.same in
        ⊎_elim (λ n. let f = w.passed k n l.near in absurd (omega (arith, f.0, l.from)))
        (λ n. let j : k ≡ back.last = omega (arith, l.to) in let r = ap c.reserved j in
        let is : back.last % g.blocks ≡ h % g.blocks = ap (λ (b : ℕ). b % g.blocks) (sym j) ∙ l.same in
        ⊎_elim (λ q. absurd (omega (arith, q.block))) (λ q. (same_block g.blocks h back.last (sym is) le (omega (arith, q.older)), q)) w.newest)
        (cases_lt k back.last)

  module _ (same : IsPhysical g c.consumed) where
    pub consumed_below : (h : ℕ) → c.consumed h / offset_span ≤ back.last
    consumed_below h =
        let r : h % g.blocks < g.blocks = mod_below h g.blocks (omega arith) in
        let e : h % g.blocks % g.blocks ≡ h % g.blocks = mod-mod h g.blocks in
        let l = latest_is g.blocks (h % g.blocks) back.last (omega arith) (omega (arith, w.from)) in
        let f = w.consumed _ l.to l.near in
        let z = same _ _ (l.same ∙ e) in let q = f.0 in omega (arith, l.to)

    -- where a block is opened to puts, the block before it in its physical block is wholly consumed
    pub opened_spent : (h : ℕ) → IsWithinLimits g → g.blocks ≤ h → h ≤ opened → (h - g.blocks) * offset_span + g.size ≤ c.consumed h
    opened_spent h limits from le =
        let z = limits.size_to in
        let l = latest_is g.blocks h opened (omega arith) le in
        let k : ℕ = latest g.blocks h opened in
        let e : c.consumed k ≡ c.consumed h = same _ _ l.same in
        ⊎_elim (λ n. let j : ℕ = k - g.blocks in let i : j + g.blocks ≡ k = omega (arith, l.from) in
        let x : c.consumed j ≡ c.consumed k = same _ _ (shifted g.blocks j k i) in
        let d = w.consumed j (omega (arith, w.near, l.to)) (omega arith) in
        let r = w.reused j (omega (arith, w.near, l.to)) (omega arith) (omega (arith, l.to)) in
        omega (arith, d.0, l.from))
        (λ n. let d = w.consumed k n (omega (arith, w.behind, l.near)) in omega (arith, d.0, l.from))
        (cases_lt back.last k)

pub takes_le : (g : Grid) (p : ℕ) (v : View) → takes p v ≤ fetches g p v
takes_le g p v = let s = sum_by-append (λ (q : ℕ). one_at q p) (places v.taken) (reading g v.phase) in omega arith

-- what a seat reads is made
read_made : (g : Grid) (s : Scene) (made : List Placed) (read : List ℕ) (p : ℕ) (ph : Option Phase) → Knows g s made read ph → 1 ≤ times p (reading g ph) → 1 ≤ sum_by (makes p) s.views
read_made g s made read p (Some (Take (Read at next))) f h = let i = f.2 in let e : place_at g at ≡ p = one_there (place_at g at) p (omega (arith, times-cons p (place_at g at) [])) in subst (λ (q : ℕ). 1 ≤ sum_by (makes q) s.views) e (made_counts s.views _ i.made)
read_made g s made read p (Some (Take (Consume at))) f h = let e : place_at g at ≡ p = one_there (place_at g at) p (omega (arith, times-cons p (place_at g at) [])) in subst (λ (q : ℕ). 1 ≤ sum_by (makes q) s.views) e (made_counts s.views _ f.1)
read_made g s made read p ph f h = absurd (omega arith)

-- a place that a seat reads is not taken, and its block is not reused
pub record IsUnread (g : Grid) (opened : ℕ) (ws : List ℕ) (vs : List View) (at : Cursor) : Type 0 where
  pub once : (q : ℕ) → sum_by (takes q) vs ≤ 1
  pub none : sum_by (takes (place_at g at)) vs ≡ 0
  pub count : consumed_word g ws at.block % offset_span ≡ sum_below g.size (λ o. sum_by (takes (place g at.block o)) vs)
  pub room : consumed_word g ws at.block % offset_span + 1 ≤ g.size
  pub near : opened < at.block + g.blocks

module _ (g : Grid) (front back : Front) (ws : List ℕ) (vs : List View) (s : IsSoundAt g front back ws vs) where
  -- each place that is reserved is made
  pub reserved_made : (p : ℕ) → p < back.next → 1 ≤ sum_by (makes p) vs
  reserved_made p l =
      let c = s.counts.read_once p in let z = one_in p back.next l in
      let r = some_counts (fetches g p) vs (omega arith) in
      let f = s.each r.0 r.1 r.2 in
      let n : fetches g p r.1 ≡ takes p r.1 + times p (reading g r.1.phase) = sum_by-append (λ (q : ℕ). one_at q p) (places r.1.taken) (reading g r.1.phase) in
      let h = r.3 in
      ⊎_elim (λ z. read_made g (scene g back ws vs) r.1.made r.1.read p r.1.phase f.knows (omega arith))
      (λ z. let m = s.counts.taken_made p in let o = one_le_sum (takes p) vs r.0 r.1 r.2 in omega arith) (cases_lt (takes p r.1) 1)

  pub reserved_within : back.next ≤ front.next
  reserved_within = ⊎_elim (λ l. let m = made_within stage g front ws vs s.puts front.next in let r = reserved_made front.next l in let z = none_from front.next front.next (omega arith) in absurd (omega arith)) (λ l. l) (cases_lt front.next back.next)

  pub unread : (id : ℕ) (v : View) (at : Cursor) → slice_get vs id ≡ Some v → reading g v.phase ≡ place_at g at ∷ [] → IsCurrent g back.last at → IsUnread g front.last ws vs at
  unread id v at here reads f =
      let p : ℕ = place_at g at in
      let once : (q : ℕ) → sum_by (takes q) vs ≤ 1 = λ q. let m = sum_by-le-sum_by (takes q) (fetches g q) vs (takes_le g q) in let o = s.counts.read_once q in let z = one_to q back.next in omega arith in
      let none : sum_by (takes p) vs ≡ 0 = let m = sum_gap (takes p) (fetches g p) (takes_le g p) vs id v here in let o = s.counts.read_once p in let z = one_to p back.next in
      let n : fetches g p v ≡ takes p v + one_at p p = ap (λ (l : List ℕ). times p (places v.taken ++ l)) reads ∙ times_push p p (places v.taken) in let y = one_is p in omega arith in
      let count = s.counts.taken at.block f.to f.near f.from in
      let room = upto_misses g.size at.offset (λ o. sum_by (takes (place g at.block o)) vs) (λ o. once _) f.within none in
      record {
        once = once;
        none = none;
        count = count;
        room = omega arith;
        near = ⊎_elim (λ n. n) (λ n. absurd (let r = s.takes.reused at.block f.to f.near n in omega arith)) (cases_lt front.last (at.block + g.blocks));
      }
