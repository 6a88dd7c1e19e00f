-- Lists of items by number, filtered.
use Rattle.std.proofs.Common.{◌≡◌, ℕ, zero, suc, ◌+◌, ◌<◌, ◌≤◌, List, [], ◌∷◌, ◌++◌, Bool, true, false, cond, sym, refl, ap, ◌∙◌, ⊎_elim, arith}
use Rattle.std.specs.Prelude.{filter, map, ◌==◌, ◌||◌}
use Rattle.std.specs.List.{list_any, range_with_len}
use Rattle.std.proofs.lemmas.Bool.{cases_lt}
use Rattle.std.proofs.lemmas.Bool.Decides.{nat_tests}
use Rattle.std.proofs.lemmas.List.FromFn.{filter_of_map_range_with_len_more}
use Rattle.rail.specs.declared.entry.Placed.{Placed}
use Rattle.rail.specs.Items.{placed, places}
use Rattle.put_side.specs.Counts.{one_at, times}
use Rattle.put_side.proofs.Sums.{times-cons}

module _ (f : ℕ → Placed) where
  -- two tests that agree from a number on leave the same
  pub filter_same : (p q : Placed → Bool) (n a : ℕ) → ((k : ℕ) → a ≤ k → k < a + n → p (f k) ≡ q (f k)) → filter p (map f (range_with_len a n)) ≡ filter q (map f (range_with_len a n))
  filter_same p q zero a same = refl
  filter_same p q (suc n) a same =
      let rest = filter_same p q n (a + 1) (λ k le less. same k (omega arith) (omega arith)) in
      ap (λ (b : Bool). cond b (f a ∷ filter p (map f (range_with_len (a + 1) n))) (filter p (map f (range_with_len (a + 1) n)))) (same a (omega arith) (omega arith))
      ∙ ap (λ (l : List Placed). cond (q (f a)) (f a ∷ l) l) rest

  -- a test that fails at first leaves what it leaves of the rest
  pub filter_skips : (p : Placed → Bool) (m n a : ℕ) → ((k : ℕ) → a ≤ k → k < a + m → p (f k) ≡ false) → filter p (map f (range_with_len a (m + n))) ≡ filter p (map f (range_with_len (a + m) n))
  filter_skips p zero n a none =
      ap (λ (b : ℕ). filter p (map f (range_with_len a b))) (let z : zero + n ≡ n = omega arith in z)
      ∙ ap (λ (b : ℕ). filter p (map f (range_with_len b n))) (let z : a ≡ a + zero = omega arith in z)
  filter_skips p (suc m) n a none =
      ap (λ (b : ℕ). filter p (map f (range_with_len a b))) (let z : suc m + n ≡ suc (m + n) = omega arith in z)
      ∙ ap (λ (b : Bool). cond b (f a ∷ filter p (map f (range_with_len (a + 1) (m + n)))) (filter p (map f (range_with_len (a + 1) (m + n))))) (none a (omega arith) (omega arith))
      ∙ filter_skips p m n (a + 1) (λ k le less. none k (omega arith) (omega arith))
      ∙ ap (λ (b : ℕ). filter p (map f (range_with_len b n))) (let z : a + 1 + m ≡ a + suc m = omega arith in z)

-- two lists of the first n items, alike where they are left
pub filter_like : (p : Placed → Bool) (f h : ℕ → List ℕ) (n : ℕ) → ((q : ℕ) (x y : List ℕ) → p (placed q x) ≡ p (placed q y)) → ((q : ℕ) → q < n → p (placed q (f q)) ≡ true → f q ≡ h q)
    → filter p (map (λ (q : ℕ). placed q (f q)) (range_with_len 0 n)) ≡ filter p (map (λ (q : ℕ). placed q (h q)) (range_with_len 0 n))
filter_like p f h zero same e = refl
filter_like p f h (suc n) same e =
    let r = filter_like p f h n same (λ q l t. e q (omega arith) t) in
    let s : suc n ≡ n + 1 = omega arith in
    let at : (b : Bool) → p (placed n (f n)) ≡ b → cond b (placed n (f n) ∷ []) [] ≡ cond b (placed n (h n) ∷ []) [] =
    λ b. elim b as (λ b. p (placed n (f n)) ≡ b → cond b (placed n (f n) ∷ []) [] ≡ cond b (placed n (h n) ∷ []) []) [ true ↦ λ t. ap (λ (l : List ℕ). placed n l ∷ []) (e n (omega arith) t) | false ↦ λ t. refl ] in
    ap (λ (k : ℕ). filter p (map (λ (q : ℕ). placed q (f q)) (range_with_len 0 k))) s ∙ filter_of_map_range_with_len_more p (λ (q : ℕ). placed q (f q)) 0 n n (omega arith)
    ∙ ap (λ (l : List Placed). l ++ cond (p (placed n (f n))) (placed n (f n) ∷ []) []) r
    ∙ ap (λ (l : List Placed). filter p (map (λ (q : ℕ). placed q (h q)) (range_with_len 0 n)) ++ l) (at (p (placed n (f n))) refl ∙ ap (λ (b : Bool). cond b (placed n (h n) ∷ []) []) (same n (f n) (h n)))
    ∙ sym (filter_of_map_range_with_len_more p (λ (q : ℕ). placed q (h q)) 0 n n (omega arith)) ∙ ap (λ (k : ℕ). filter p (map (λ (q : ℕ). placed q (h q)) (range_with_len 0 k))) (sym s)

or_true : (b : Bool) → (b || true) ≡ true
or_true true = refl
or_true false = refl

-- whether an item of a place stands in a list, by how often the place does
pub any_there : (items : List Placed) (p : ℕ) → 1 ≤ times p (places items) → list_any (λ (t : Placed). t.place == p) items ≡ true
any_there [] p some = absurd (omega arith)
any_there (x ∷ xs) p some =
    let t : times p (places (x ∷ xs)) ≡ one_at x.place p + times p (places xs) = times-cons p x.place (places xs) in
    ⊎_elim (λ none. let here : (x.place == p) ≡ true = grind (arith, nat_tests) in ap (λ (b : Bool). b || list_any (λ (t : Placed). t.place == p) xs) here)
    (λ more. ap (λ (b : Bool). (x.place == p) || b) (any_there xs p more) ∙ or_true (x.place == p))
    (cases_lt (times p (places xs)) 1)

pub none_there : (items : List Placed) (p : ℕ) → times p (places items) ≡ 0 → list_any (λ (t : Placed). t.place == p) items ≡ false
none_there [] p none = refl
none_there (x ∷ xs) p none =
    let t : times p (places (x ∷ xs)) ≡ one_at x.place p + times p (places xs) = times-cons p x.place (places xs) in
    let here : (x.place == p) ≡ false = let z : one_at x.place p ≡ 0 = omega arith in grind (arith, nat_tests) in
    ap (λ (b : Bool). b || list_any (λ (t : Placed). t.place == p) xs) here ∙ none_there xs p (omega arith)
