-- What the words and the counts tell where all seats but one are at rest.
use Rattle.std.proofs.Common.{◌≡◌, ℕ, zero, suc, ◌+◌, ◌-◌, ◌*◌, ◌/◌, ◌%◌, ◌<◌, ◌≤◌, ◌⊎◌, min, List, [], ◌∷◌, length, refl, sym, ap, ◌∙◌, subst, ⊎_elim, arith}
use Rattle.std.specs.Prelude.{Option, Some, None, slice_get, slice_set, slice_index}
use Rattle.std.specs.List.{sum_by}
use Rattle.std.proofs.lemmas.List.{length-append, length-map}
use Rattle.std.proofs.lemmas.List.Sums.{sum_by-append, sum_by-cons}
use Rattle.std.proofs.lemmas.Bool.{cases_lt}
use Rattle.std.proofs.Math.Nat.{mul-le-mul_right}
use Rattle.cursor_word.specs.Shape.{Grid, IsWithinLimits}
use Rattle.cursor_word.specs.Cursor.{offset_span}
use Rattle.rail.specs.declared.entry.Placed.{Placed}
use Rattle.rail.specs.Items.{places}
use Rattle.machine.specs.declared.view.View.{View}
use Rattle.machine.specs.Invariant.{made_count, made_total}
use Rattle.machine.specs.Steps.{AllRest}
use Rattle.machine.proofs.Lists.{get_set, get_set_other, sum_set}
use Rattle.put_side.specs.Alone.{OthersRest}
use Rattle.put_side.specs.Counts.{claim_count, claims, makes, one_at, one_below, sum_below, times}
use Rattle.put_side.specs.Cursors.{Front, allocated_word, committed_word, place, put_cursors}
use Rattle.put_side.specs.Manned.{IsManned, enters, opens_allocated, raises_producer}
use Rattle.put_side.specs.PutSide.{PutSide}
use Rattle.put_side.specs.PutTable.{stage_in, stage_of}
use Rattle.put_side.specs.Stages.{PutStage, Away, held}
use Rattle.put_side.proofs.Facts.{place_next}
use Rattle.put_side.proofs.Sums.{none_from, one_in, sum_none, upto_cut}

module _ {P : Type 0} where
  pub sum_plus : (f h k : View P → ℕ) → ((v : View P) → f v ≡ h v + k v) → (vs : List (View P)) → sum_by f vs ≡ sum_by h vs + sum_by k vs
  sum_plus f h k e [] = refl
  sum_plus f h k e (v ∷ vs) = omega (arith, e v, sum_by-cons f v vs, sum_by-cons h v vs, sum_by-cons k v vs, sum_plus f h k e vs)

  -- where only one seat counts
  in_one : (f : Option P → ℕ) → f None ≡ 0 → (vs : List (View P)) (id : ℕ) (v : View P) → OthersRest vs id → slice_get vs id ≡ Some v → sum_by (λ (u : View P). f u.phase) vs ≡ f v.phase
  in_one f z [] id v rest at = cc
  in_one f z (x ∷ xs) zero v rest at =
      let is : x ≡ v = cc in
      let same = ap (λ (u : View P). f u.phase) is in
      let others = sum_none (λ (u : View P). f u.phase) xs (λ j u e. ap f (rest (suc j) u (λ q. omega arith) e) ∙ z) in omega (arith, sum_by-cons (λ (u : View P). f u.phase) x xs)
  in_one f z (x ∷ xs) (suc id) v rest at =
      let here = ap f (rest 0 x (λ q. omega arith) refl) ∙ z in
      let others = in_one f z xs id v (λ j u d e. rest (suc j) u (λ q. d (omega arith)) e) at in omega (arith, sum_by-cons (λ (u : View P). f u.phase) x xs)

  -- only one seat counts, and it stands in this phase
  pub record IsOnly (vs : List (View P)) (ph : Option P) : Type 0 where
    pub sum : (f : Option P → ℕ) → f None ≡ 0 → sum_by (λ (u : View P). f u.phase) vs ≡ f ph

  pub only_one : (vs : List (View P)) (id : ℕ) (v : View P) (ph : Option P) → OthersRest vs id → slice_get vs id ≡ Some v → v.phase ≡ ph → IsOnly vs ph
  only_one vs id v ph rest at e = record { sum = λ f z. in_one f z vs id v rest at ∙ ap f e }

  -- a step of the one seat leaves the others at rest, and adds what it makes
  pub others_still : (vs : List (View P)) (id : ℕ) (v' : View P) → OthersRest vs id → OthersRest (slice_set vs id v') id
  others_still vs id v' rest j u d e = rest j u d (sym (get_set_other vs id j v' d) ∙ e)

  -- and where it ends its call all are at rest
  pub all_still : (vs : List (View P)) (id : ℕ) (v' : View P) → OthersRest vs id → v'.phase ≡ None → AllRest (slice_set vs id v')
  all_still vs id v' others rest j u at = ⊎_elim (λ q. let z = ap (λ (x : View P). x.phase) q.1 in sym z ∙ rest) (λ q. others j u q.0 q.1) (get_set vs id j v' u at)

  pub total_grows : (f : View P → ℕ) (vs : List (View P)) (id d n : ℕ) (v v' : View P) → slice_get vs id ≡ Some v → f v' ≡ f v + d → sum_by f vs ≡ n → sum_by f (slice_set vs id v') ≡ n + d
  total_grows f vs id d n v v' at e total = let z = sum_set f vs id v v' at in omega arith

-- counting where all below n count once
pub all_once : (n : ℕ) (f : ℕ → ℕ) → ((o : ℕ) → o < n → f o ≡ 1) → sum_below n f ≡ n
all_once zero f h = refl
all_once (suc n) f h = let r = all_once n f (λ o l. h o (omega arith)) in let z = h n (omega arith) in omega arith

-- how many places of a block are below a place of it
pub block_count : (g : Grid) (k n p : ℕ) (f : ℕ → ℕ) → n ≤ g.size → p ≡ place g k n → ((q : ℕ) → f q ≡ one_below q p) → sum_below g.size (λ o. f (place g k o)) ≡ n
block_count g k n p f le is one =
    upto_cut g.size n (λ o. f (place g k o)) le (λ o l. one (place g k o) ∙ none_from (place g k o) p (omega arith))
    ∙ all_once n (λ o. f (place g k o)) (λ o l. one (place g k o) ∙ one_in (place g k o) p (omega arith))

-- all places of a block that lies before one are below its first
pub block_all : (g : Grid) (k h p : ℕ) (f : ℕ → ℕ) → g.blocks ≤ k → k < h → place g h 0 ≤ p → ((q : ℕ) → f q ≡ one_below q p) → sum_below g.size (λ o. f (place g k o)) ≡ g.size
block_all g k h p f from less le one =
    let z = place_next g k from in
    let m : (k + 1 - g.blocks) * g.size ≤ (h - g.blocks) * g.size = mul-le-mul_right g.size (omega arith) in
    all_once g.size (λ o. f (place g k o)) (λ o l. one (place g k o) ∙ one_in (place g k o) p (omega arith))

module _ {P : Type 0} (stage : P → PutStage) (g : Grid) (front : Front) (ws : List ℕ) (vs : List (View P)) (limits : IsWithinLimits g) (s : PutSide (stage_of stage) g front ws vs) where
  -- the last block is open to puts, and only allocated places are made
  module _ (opened : allocated_word g ws front.last / offset_span ≡ front.last) where
    pub next_at : front.next ≡ place g front.last (min (allocated_word g ws front.last % offset_span) g.size)
    next_at = ⊎_elim (λ q. q.at) (λ q. absurd (omega (arith, q.older, limits.blocks_from))) s.places.words.newest

    -- each committed cursor is at what is allocated of its block
    pub committed_is : ((p : ℕ) → sum_by (makes p) vs ≡ one_below p front.next) → (k : ℕ) → k ≤ front.last → front.last < k + g.blocks → g.blocks ≤ k → committed_word g ws k % offset_span ≡ min (allocated_word g ws k % offset_span) g.size
    committed_is one k to near from =
        let p = s.places.words in
        let end = next_at in
        let n = s.places.counts.made k to near from in
        ⊎_elim
        (λ l. let f = p.full k l near in let z = block_all g k front.last front.next (λ q. sum_by (makes q) vs) from l (omega arith) one in omega (arith, f.1))
        (λ l. let e : k ≡ front.last = omega arith in
        subst (λ (b : ℕ). committed_word g ws b % offset_span ≡ min (allocated_word g ws b % offset_span) g.size) (sym e)
        (let n' = s.places.counts.made front.last (omega arith) (omega (arith, limits.blocks_from)) p.from in n' ∙ block_count g front.last (min (allocated_word g ws front.last % offset_span) g.size) front.next (λ q. sum_by (makes q) vs) (omega arith) end one))
        (cases_lt k front.last)

  module _ (ph : Option P) (only : IsOnly vs ph) where
    in_put : (h : PutStage → ℕ) → h Away ≡ 0 → sum_by (λ (u : View P). h (stage_of stage u)) vs ≡ h (stage_in stage ph)
    in_put h z = only.sum (λ (o : Option P). h (stage_in stage o)) z

    -- nothing lags that the seat does not stand for
    module _ (m : IsManned (stage_of stage) g front (put_cursors g ws) vs) where
      pub producer_is : raises_producer front.last (stage_in stage ph) ≡ 0 → slice_index ws 0 ≡ front.last
      producer_is z = ⊎_elim (λ q. q) (λ q. absurd (let n = in_put (raises_producer front.last) refl in omega arith)) m.producer

      pub opened_is : opens_allocated front.last (stage_in stage ph) ≡ 0 → allocated_word g ws front.last / offset_span ≡ front.last
      opened_is z = ⊎_elim (λ q. q) (λ q. absurd (let n = in_put (opens_allocated front.last) refl in omega arith)) m.allocated

      pub entered_is : enters front.last (stage_in stage ph) ≡ 0 → (front.last ≡ g.blocks) ⊎ (place g front.last 0 < front.next)
      entered_is z = ⊎_elim (λ q. q) (λ q. absurd (let n = in_put (enters front.last) refl in omega arith)) m.entered

    -- the places are those of the items, and the one in hand
    pub next_is : front.next ≡ made_total vs + length (held g (stage_in stage ph))
    next_is =
        let n = sum_plus (claim_count (stage_of stage) g) made_count (λ (u : View P). length (held g (stage_of stage u)))
        (λ u. let x : claim_count (stage_of stage) g u ≡ length (places u.made) + length (held g (stage_of stage u)) = length-append (places u.made) (held g (stage_of stage u)) in let y : length (places u.made) ≡ length u.made = length-map u.made (λ (i : Placed). i.place) in omega arith) vs in
        let o = in_put (λ (t : PutStage). length (held g t)) refl in omega (arith, s.places.counts.number)

    pub made_is : held g (stage_in stage ph) ≡ [] → (q : ℕ) → sum_by (makes q) vs ≡ one_below q front.next
    made_is none q =
        let n = sum_plus (claims (stage_of stage) g q) (makes q) (λ (u : View P). times q (held g (stage_of stage u))) (λ u. sum_by-append (λ (z : ℕ). one_at z q) (places u.made) (held g (stage_of stage u))) vs in
        let o = in_put (λ (t : PutStage). times q (held g t)) refl in
        let z : times q (held g (stage_in stage ph)) ≡ 0 = ap (times q) none in omega (arith, s.places.counts.once q)
