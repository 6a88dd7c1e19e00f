-- A claim, an end and a look keep the rule.
use Rattle.std.proofs.Common.{◌≡◌, ℕ, suc, ◌+◌, ◌%◌, ◌^◌, ◌<◌, ◌≤◌, eqb, Bool, true, false, List, [], ◌∷◌, ◌++◌, set, get_or, min, sum_by, All, sym, refl, ap, ◌∙◌, subst, arith, ⊎_elim}
use Rattle.std.specs.List.{range_with_len}
use Rattle.std.proofs.Math.Nat.{mod-eq_of_lt}
use mathlib.Core.Logic.{dite}
use mathlib.Core.Option.{some}
use native.Mathlib.Decide.{dec_lt}
use lib.ListN.{get_elem?}
use Rattle.step_log.proofs.Lists.{at_set, set_again}
use Rattle.step_log.specs.Log.{Keeps, added, loaded}
use Rattle.claim_table.specs.declared.share.Share.{Share}
use Rattle.claim_table.specs.declared.share.ClaimShape.{ClaimShape}
use Rattle.claim_table.specs.Claimed.{stopped_parts, one_if, IsShare, Claimed, share, Draws, Marks, Looks}
use Rattle.claim_table.proofs.Totals.{times, drawn_times, sum_by-put, sum_by-part, sum_by-le-at, times-snoc, times-range, times-drawn, draws-all, beyond, all_below, increasing-snoc}

stopped_le : (v : Share) (b : Bool) → v.stopped ≡ b → stopped_parts v ≤ v.parts
stopped_le v true e = rw e (omega arith)
stopped_le v false e = rw e (omega arith)

module _ (shape : ClaimShape) (v : Share) (views : List Share) (at : ℕ) (get : get_elem? views at ≡ some v) (words : List ℕ) (c : Claimed shape words views) where
  abbrev numbers : List ℕ
  numbers = range_with_len 0 (min c.next shape.pieces)

  mine : IsShare shape c.next v
  mine = c.shares at v get

  shares_kept : (next : ℕ) (w : Share) → c.next ≤ next → IsShare shape next w → (j : ℕ) (u : Share) → get_elem? (set views at w) j ≡ some u → IsShare shape next u
  shares_kept next w le new j u e = ⊎_elim (λ h. subst (IsShare shape next) h.1 new)
      (λ h. let s = c.shares j u h.1 in record { knows = s.knows; rising = s.rising; stopped = λ is. let l = s.stopped is in omega arith; spent = s.spent; ended = s.ended }) (at_set views at j w u e)

  module _ (one : 0 < v.parts) where
    pub looks_on : (w : Share) × Claimed shape (c.next ∷ c.ended ∷ []) (set views at w) × Looks v (loaded 1 c.ended) w
    looks_on = let part = sum_by-part (λ (u : Share). u.ended) views at v get in let m = c.marks in
        let most = sum_by-le-at (λ (u : Share). u.ended) (λ (u : Share). u.parts) views (λ j u e. (c.shares j u e).ended) in
        let p = c.parts in let is : v.shape.seats ≡ shape.seats = ap (λ (q : ClaimShape). q.seats) (mine.knows one) in
        (v, subst (Claimed shape (c.next ∷ c.ended ∷ [])) (sym (set_again views at v get)) (subst (λ (ws : List ℕ). Claimed shape ws views) c.are c), (refl, omega arith, omega arith))

  module _ (alone : v.parts ≡ 1) (stays : v.ended ≡ 0) where
    abbrev w : Share
    w = share v.parts v.shape v.drawn v.stopped (v.ended + 1)

    ended_on : Claimed shape (c.next ∷ (c.ended + 1) ∷ []) (set views at w)
    ended_on = let t : (n : ℕ) → sum_by (drawn_times n) (set views at w) ≡ sum_by (drawn_times n) views = λ n. let a = sum_by-put (drawn_times n) views at v w get in omega arith in
        record {
          next = c.next;
          ended = c.ended + 1;
          are = refl;
          drawn = draws-all (set views at w) numbers (λ n. t n ∙ times-drawn n views numbers c.drawn);
          shares = shares_kept c.next w (omega arith) (record { knows = mine.knows; rising = mine.rising; stopped = mine.stopped; spent = mine.spent; ended = omega arith });
          parts = let a = sum_by-put (λ (u : Share). u.parts) views at v w get in let p = c.parts in omega arith;
          marks = let a = sum_by-put (λ (u : Share). u.ended) views at v w get in let m = c.marks in omega arith;
          bound = let a = sum_by-put stopped_parts views at v w get in let b = c.bound in omega arith;
          small = c.small;
        }

    -- as many seats are marked ended as there are, at most
    few_ended : c.ended + 1 < 2 ^ 64
    unfolding ended_on
    few_ended = let m : c.ended + 1 ≡ sum_by (λ (u : Share). u.ended) (set views at w) = ended_on.marks in let p = ended_on.parts in let s = c.small in
        let le = sum_by-le-at (λ (u : Share). u.ended) (λ (u : Share). u.parts) (set views at w) (λ j u e. (ended_on.shares j u e).ended) in
        omega arith

    pub marks_on : (w : Share) × Claimed shape (c.next ∷ ((c.ended + 1) % 2 ^ 64) ∷ []) (set views at w) × Marks v (added 1 c.ended) w
    marks_on = (w, rw (mod-eq_of_lt few_ended) ended_on, refl)

  none_from : (n : ℕ) → c.next ≤ n → sum_by (drawn_times n) views ≡ 0
  none_from n h = times-drawn n views numbers c.drawn ∙ beyond n 0 (min c.next shape.pieces) (omega arith)

  below : All (λ d. d < c.next) v.drawn
  below = all_below c.next v.drawn (λ n h. let a = sum_by-part (drawn_times n) views at v get in let z = none_from n h in omega arith)

  module _ (one : 0 < v.parts) (going : v.stopped ≡ false) where
    small : c.next + 1 < 2 ^ 64
    small = let b = c.bound in let s = c.small in let p = c.parts in let w = share v.parts v.shape v.drawn true v.ended in
        let le : sum_by stopped_parts (set views at w) ≤ sum_by (λ (u : Share). u.parts) (set views at w) = sum_by-le-at stopped_parts (λ (u : Share). u.parts) (set views at w) (λ _ u _. stopped_le u u.stopped refl) in
        let a = sum_by-put stopped_parts views at v w get in let b' = sum_by-put (λ (u : Share). u.parts) views at v w get in
        let g : stopped_parts v ≡ 0 = rw going refl in omega arith

    draw : c.next < shape.pieces → Claimed shape ((c.next + 1) ∷ c.ended ∷ []) (set views at (share v.parts v.shape (v.drawn ++ c.next ∷ []) v.stopped v.ended))
    draw lt = let w = share v.parts v.shape (v.drawn ++ c.next ∷ []) v.stopped v.ended in
        let here : min c.next shape.pieces ≡ c.next = omega arith in let there : min (c.next + 1) shape.pieces ≡ suc c.next = omega arith in
        let t : (n : ℕ) → sum_by (drawn_times n) (set views at w) ≡ sum_by (drawn_times n) views + one_if (eqb c.next n) =
        λ n. let a = sum_by-put (drawn_times n) views at v w get in let s = times-snoc n c.next v.drawn in omega arith in
        record {
          next = c.next + 1;
          ended = c.ended;
          are = refl;
          drawn = draws-all (set views at w) (range_with_len 0 (min (c.next + 1) shape.pieces)) (λ n. t n
              ∙ (ap (λ k. k + one_if (eqb c.next n)) (times-drawn n views numbers c.drawn ∙ ap (λ k. times n (range_with_len 0 k)) here)
              ∙ (sym (times-range n c.next) ∙ ap (λ k. times n (range_with_len 0 k)) (sym there))));
          shares = shares_kept (c.next + 1) w (omega arith) (record { knows = mine.knows; rising = λ single. increasing-snoc c.next v.drawn below (mine.rising single); stopped = λ is. let l = mine.stopped is in omega arith; spent = λ none. absurd (omega arith); ended = mine.ended });
          parts = let a = sum_by-put (λ (u : Share). u.parts) views at v w get in let p = c.parts in omega arith;
          marks = let a = sum_by-put (λ (u : Share). u.ended) views at v w get in let m = c.marks in omega arith;
          bound = let a = sum_by-put stopped_parts views at v w get in let b = c.bound in omega arith;
          small = c.small;
        }

    stop : shape.pieces ≤ c.next → Claimed shape ((c.next + 1) ∷ c.ended ∷ []) (set views at (share v.parts v.shape v.drawn true v.ended))
    stop le = let w = share v.parts v.shape v.drawn true v.ended in
        let same : min c.next shape.pieces ≡ min (c.next + 1) shape.pieces = omega arith in
        let t : (n : ℕ) → sum_by (drawn_times n) (set views at w) ≡ sum_by (drawn_times n) views = λ n. let a = sum_by-put (drawn_times n) views at v w get in omega arith in
        record {
          next = c.next + 1;
          ended = c.ended;
          are = refl;
          drawn = draws-all (set views at w) (range_with_len 0 (min (c.next + 1) shape.pieces)) (λ n. t n ∙ (times-drawn n views numbers c.drawn ∙ ap (λ k. times n (range_with_len 0 k)) same));
          shares = shares_kept (c.next + 1) w (omega arith) (record { knows = mine.knows; rising = mine.rising; stopped = λ is. omega arith; spent = λ none. absurd (omega arith); ended = mine.ended });
          parts = let a = sum_by-put (λ (u : Share). u.parts) views at v w get in let p = c.parts in omega arith;
          marks = let a = sum_by-put (λ (u : Share). u.ended) views at v w get in let m = c.marks in omega arith;
          bound = let a = sum_by-put stopped_parts views at v w get in let b = c.bound in let g : stopped_parts v ≡ 0 = rw going refl in omega arith;
          small = c.small;
        }

    pub draws_on : (w : Share) × Claimed shape (((c.next + 1) % 2 ^ 64) ∷ c.ended ∷ []) (set views at w) × Draws v (added 0 c.next) w
    draws_on = let wrap = mod-eq_of_lt small in let t : v.shape.pieces ≡ shape.pieces = ap (λ (q : ClaimShape). q.pieces) (mine.knows one) in dite (dec_lt c.next shape.pieces)
        (λ lt. (share v.parts v.shape (v.drawn ++ c.next ∷ []) v.stopped v.ended, rw wrap (draw lt), ((λ _. (refl, below)), λ h. absurd (omega arith))))
        (λ ge. (share v.parts v.shape v.drawn true v.ended, rw wrap (stop (omega arith)), ((λ h. absurd (omega arith)), λ _. refl)))

module _ (shape : ClaimShape) (v : Share) where
  pub draws : 0 < v.parts → v.stopped ≡ false → Keeps (Claimed shape) v 0 (λ n. (n + 1) % 2 ^ 64) (λ n. Draws v (added 0 n))
  draws one going words views at c get fits =
      let P : List ℕ → Type 0 = λ ws. (w : Share) × Claimed shape (set ws 0 ((get_or ws 0 0 + 1) % 2 ^ 64)) (set views at w) × Draws v (added 0 (get_or ws 0 0)) w in
      subst P (sym c.are) (draws_on shape v views at get words c one going)

  pub marks : v.parts ≡ 1 → v.ended ≡ 0 → Keeps (Claimed shape) v 1 (λ n. (n + 1) % 2 ^ 64) (λ n. Marks v (added 1 n))
  marks alone going words views at c get fits =
      let P : List ℕ → Type 0 = λ ws. (w : Share) × Claimed shape (set ws 1 ((get_or ws 1 0 + 1) % 2 ^ 64)) (set views at w) × Marks v (added 1 (get_or ws 1 0)) w in
      subst P (sym c.are) (marks_on shape v views at get words c alone going)

  pub looks : 0 < v.parts → Keeps (Claimed shape) v 1 (λ n. n) (λ n. Looks v (loaded 1 n))
  looks one words views at c get fits =
      let P : List ℕ → Type 0 = λ ws. (w : Share) × Claimed shape (set ws 1 (get_or ws 1 0)) (set views at w) × Looks v (loaded 1 (get_or ws 1 0)) w in
      subst P (sym c.are) (looks_on shape v views at get words c one)
