-- Dealing and gathering seats keep the rule, and what one seat that stands for all knows at the end.
use Rattle.std.proofs.Common.{◌≡◌, ℕ, zero, suc, ◌+◌, ◌<◌, ◌≤◌, Bool, true, false, ◌||◌, List, [], ◌∷◌, ◌++◌, set, min, sum_by, IsPermutation, append-nil, sym, refl, ap, ◌∙◌, subst, arith, ⊎_elim}
use Rattle.std.specs.List.{range_with_len}
use Rattle.std.specs.List.Sorted.{IsStrictlyIncreasing}
use Rattle.std.proofs.lemmas.Bool.{false≢true}
use Rattle.std.proofs.lemmas.List.Sums.{sum_by-cons, sum_by_push}
use mathlib.Core.Option.{some, some-injective, some-ne-none}
use lib.ListN.{get_elem?}
use Rattle.step_log.proofs.Lists.{at_set, at_snoc, set_else}
use Rattle.step_log.specs.Log.{Parts, Merges, Ends}
use Rattle.claim_table.specs.declared.share.Share.{Share}
use Rattle.claim_table.specs.declared.share.ClaimShape.{ClaimShape}
use Rattle.claim_table.specs.Claimed.{stopped_parts, IsShare, Claimed, kept_share, given_share, joint_share, spent_share}
use Rattle.claim_table.proofs.Totals.{times, drawn_times, sum_by-put, sum_by-part, times-append, times-drawn, draws-all, increasing-none, shuffled}

module _ (shape : ClaimShape) (v : Share) where
  pub cuts : 1 < v.parts → v.drawn ≡ [] → v.stopped ≡ false → v.ended ≡ 0 → Parts (Claimed shape) v (kept_share v) (given_share v)
  cuts more none going on words views at c get =
      let l = kept_share v in let r = given_share v in
      let t : (f : Share → ℕ) → sum_by f (set views at l ++ r ∷ []) + f v ≡ sum_by f views + f l + f r = λ f. omega (arith, sum_by_push f (set views at l) r, sum_by-put f views at v l get) in
      let mine = c.shares at v get in
      record {
        next = c.next;
        ended = c.ended;
        are = c.are;
        drawn = let numbers = range_with_len 0 (min c.next shape.pieces) in draws-all (set views at l ++ r ∷ []) numbers (λ n. let a = t (drawn_times n) in let d = times-drawn n views numbers c.drawn in omega arith);
        shares = λ j u e. ⊎_elim
            (λ old. ⊎_elim (λ h. subst (IsShare shape c.next) h.1 (record { knows = λ some. mine.knows (omega arith); rising = λ single. subst IsStrictlyIncreasing (sym none) increasing-none; stopped = mine.stopped; spent = λ none. absurd (omega arith); ended = omega arith }))
            (λ h. c.shares j u h.1) (at_set views at j l u old))
            (λ new. subst (IsShare shape c.next) new (record { knows = λ some. mine.knows (omega arith); rising = λ single. increasing-none; stopped = λ is. absurd (false≢true is); spent = λ none. refl; ended = omega arith })) (at_snoc (set views at l) r u j e);
        parts = let a = t (λ (u : Share). u.parts) in let p = c.parts in omega arith;
        marks = let a = t (λ (u : Share). u.ended) in let m = c.marks in omega arith;
        bound = let a = t stopped_parts in let b = c.bound in let g : stopped_parts v ≡ 0 = rw going refl in omega arith;
        small = c.small;
      }

-- one of two is stopped
stops : (P : Type 0) (a b : Bool) → (a ≡ true → P) → (b ≡ true → P) → (a || b) ≡ true → P
stops P true b f g is = f refl
stops P false b f g is = g is

-- the parts of stopped seats are no fewer where they are joined
joins_more : (v w : Share) (a b : Bool) → v.stopped ≡ a → w.stopped ≡ b → stopped_parts v + stopped_parts w ≤ stopped_parts (joint_share v w)
joins_more v w true true e f = rw (e, f) (omega arith)
joins_more v w true false e f = rw (e, f) (omega arith)
joins_more v w false true e f = rw (e, f) (omega arith)
joins_more v w false false e f = rw (e, f) (omega arith)

module _ (shape : ClaimShape) (v w : Share) (some_parts : 0 < v.parts) where
  pub merges : Merges (Claimed shape) v w (joint_share v w) spent_share
  merges words views at other c get get' ne =
      let b = joint_share v w in let V = set views at b in
      let here : get_elem? V other ≡ some w = set_else views at other b ne ∙ get' in
      let t : (f : Share → ℕ) → sum_by f (set V other spent_share) + f w + f v ≡ sum_by f views + f b + f spent_share = λ f. omega (arith, sum_by-put f views at v b get, sum_by-put f V other w spent_share here) in
      let mine = c.shares at v get in let its = c.shares other w get' in
      let n_times : (n : ℕ) → sum_by (drawn_times n) (set V other spent_share) ≡ sum_by (drawn_times n) views = λ n. omega (arith, t (drawn_times n), times-append n v.drawn w.drawn) in
      record {
        next = c.next;
        ended = c.ended;
        are = c.are;
        drawn = let numbers = range_with_len 0 (min c.next shape.pieces) in draws-all (set V other spent_share) numbers (λ n. n_times n ∙ times-drawn n views numbers c.drawn);
        shares = λ j u e. ⊎_elim
            (λ h. subst (IsShare shape c.next) h.1 (record { knows = λ some. absurd (omega arith); rising = λ single. increasing-none; stopped = λ is. absurd (false≢true is); spent = λ none. refl; ended = omega arith }))
            (λ h. ⊎_elim
            (λ k. subst (IsShare shape c.next) k.1 (record {
              knows = λ some. mine.knows some_parts;
              rising = λ single. let none : w.parts ≡ 0 = omega arith in subst IsStrictlyIncreasing (sym (ap (λ (ds : List ℕ). v.drawn ++ ds) (its.spent none) ∙ append-nil v.drawn)) (mine.rising (omega arith));
              stopped = stops (shape.pieces ≤ c.next) v.stopped w.stopped mine.stopped its.stopped;
              spent = λ none. absurd (omega arith);
              ended = (let a = mine.ended in let b' = its.ended in omega arith);
            }))
            (λ k. c.shares j u k.1) (at_set views at j b u h.1)) (at_set V other j spent_share u e);
        parts = let a = t (λ (u : Share). u.parts) in let p = c.parts in omega arith;
        marks = let a = t (λ (u : Share). u.ended) in let m = c.marks in omega arith;
        bound = let a = t stopped_parts in let b' = c.bound in let m = joins_more v w v.stopped w.stopped refl refl in omega arith;
        small = c.small;
      }

module _ {X : Type 0} (f g : X → ℕ) where
  none_at : (xs : List X) → ((j : ℕ) (x : X) → get_elem? xs j ≡ some x → g x ≡ 0 → f x ≡ 0) → sum_by g xs ≡ 0 → sum_by f xs ≡ 0
  none_at [] idle z = refl
  none_at (x ∷ xs) idle z = let a = sum_by-cons g x xs in omega (arith, sum_by-cons f x xs, idle 0 x refl (omega arith), none_at xs (λ j y e. idle (suc j) y e) (omega arith))

  only : (xs : List X) (i : ℕ) (v : X) → ((j : ℕ) (x : X) → get_elem? xs j ≡ some x → g x ≡ 0 → f x ≡ 0) → get_elem? xs i ≡ some v → sum_by g xs ≡ g v → sum_by f xs ≡ f v
  only [] i v idle e z = absurd (some-ne-none v (sym e))
  only (x ∷ xs) zero v idle e z = let a : f x ≡ f v = ap f (some-injective x v e) in let b : g x ≡ g v = ap g (some-injective x v e) in
      let c = sum_by-cons g x xs in omega (arith, sum_by-cons f x xs, none_at xs (λ j y h. idle (suc j) y h) (omega arith))
  only (x ∷ xs) (suc i) v idle e z = let p = sum_by-part g xs i v e in let c = sum_by-cons g x xs in
      omega (arith, sum_by-cons f x xs, idle 0 x refl (omega arith), only xs i v (λ j y h. idle (suc j) y h) e (omega arith))

module _ (shape : ClaimShape) (v : Share) (words : List ℕ) (end : Ends (Claimed shape) v words) where
  pub drawn_once : v.parts ≡ shape.seats → v.stopped ≡ true → IsPermutation v.drawn (range_with_len 0 shape.pieces)
  drawn_once all stopped = let c = end.2 in let ended = (c.shares end.1 v end.3).stopped stopped in
      let its : (n : ℕ) → sum_by (drawn_times n) end.0 ≡ times n v.drawn = λ n. only (drawn_times n) (λ (u : Share). u.parts) end.0 end.1 v (λ j u e z. ap (times n) ((c.shares j u e).spent z)) end.3 (c.parts ∙ sym all) in
      let whole : min c.next shape.pieces ≡ shape.pieces = omega arith in
      shuffled v.drawn (range_with_len 0 shape.pieces) (λ n. sym (its n) ∙ (times-drawn n end.0 (range_with_len 0 (min c.next shape.pieces)) c.drawn ∙ ap (λ k. times n (range_with_len 0 k)) whole))
