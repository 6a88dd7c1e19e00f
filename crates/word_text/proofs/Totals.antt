-- All numbers together, when one word is counted once more.
use Rattle.std.proofs.Common.{◌≡◌, ℕ, ◌+◌, ◌<◌, Bool, true, false, cond, Some, List, [], ◌∷◌, ◌++◌, length, sym, refl, ap, ◌∙◌, subst, unwrap_or, arith}
use Rattle.std.specs.Prelude.{T, sum, ◌&&◌, ◌≤◌, ◌^◌, Result, Ok, Err, OnOk, OnErr}
use Rattle.std.specs.Option.{option_map}
use Rattle.std.specs.declared.cmp.Ordering.{Ordering}
use Rattle.std.specs.declared.cmp.Ordering.TheVariants.{Less, Equal, Greater}
use Rattle.std.specs.Ordering.{nat_cmp, eq_by_cmp, is_lt, match_ordering}
use Rattle.std.specs.Cmp.Lexicographic.{slice_cmp, nat_list_cmp_total}
use Rattle.std.specs.List.{AllByRecursion}
use Rattle.std.specs.List.Sorted.{IsStrictlySortedBy}
use Rattle.std.specs.BTreeMap.{insert_entry, is_at}
use Rattle.std.specs.Map.{lookup, keys_of, values_of}
use Rattle.std.specs.FinMap.{insert, get, find, put, is_sorted, entries, entries-insert, entries_sorted, get-entries, get-insert, get-empty, len-entries, len-empty, empty}
use Rattle.std.specs.FinMap.Entries.{by_order, below_all}
use Rattle.std.proofs.lemmas.Map.Entries.{sum_by-insert_entry}
use Rattle.std.proofs.lemmas.Map.Steps.{lookup-le-sum}
use Rattle.std.proofs.lemmas.Iterator.Adapters.{option_map_id}
use Rattle.word_text.specs.Counts.{Numbers, count_in, add_number, add_one, add_all, total, IsCounted}

first : (a b : Bool) → T (a && b) → T a
first true b p = tt
first false b p = p

second : (a b : Bool) → T (a && b) → T b
second true b p = p
second false b p = absurd p

less : (o : Ordering) → T (is_lt o) → o ≡ Less
less Less p = refl
less Equal p = absurd p
less Greater p = absurd p

module _ {K X : Type 0} (R : K → K → Ordering) where
  put_is : (k : K) (v : X) (es : List (K × X)) → put R k v es ≡ insert_entry R es k v
  put_is k v [] = refl
  put_is k v (e ∷ es) = elim (R k e.0) as (λ o. by_order o ((k, v) ∷ e ∷ es) ((e.0, v) ∷ es) (e ∷ put R k v es) ≡ match_ordering o ((k, v) ∷ e ∷ es) ((e.0, v) ∷ es) (e ∷ insert_entry R es k v)) [
    | Less ↦ refl
    | Equal ↦ refl
    | Greater ↦ ap (λ l. e ∷ l) (put_is k v es)
  ]

  pub find_is : (q : K) (es : List (K × X)) → find R q es ≡ lookup (is_at (R q)) es
  find_is q [] = refl
  find_is q (e ∷ es) = ap (cond (eq_by_cmp R q e.0) (Some e.1)) (find_is q es)

  above : (x : K) (es : List (K × X)) → T (below_all R x es) → AllByRecursion (λ y. R x y ≡ Less) (keys_of es)
  above x [] h = tt
  above x (e ∷ es) h = (less _ (first _ _ h), above x es (second _ _ h))

  pub strictly_sorted : (es : List (K × X)) → T (is_sorted R es) → IsStrictlySortedBy R (keys_of es)
  unfolding IsStrictlySortedBy
  strictly_sorted [] h = tt
  strictly_sorted (e ∷ es) h = (above e.0 es (first _ _ h), strictly_sorted es (second _ _ h))

no_length : {A : Type 0} (es : List A) → length es ≡ 0 → es ≡ []
no_length [] e = refl
no_length (x ∷ es) e = absurd (omega arith)

abbrev R : List ℕ → List ℕ → Ordering
R = slice_cmp nat_cmp

total_insert : (m : Numbers) (k : List ℕ) (v : ℕ) → total (insert m k v) + count_in m k ≡ total m + v
total_insert m k v =
    let placed : entries (insert m k v) ≡ insert_entry R (entries m) k v = entries-insert nat_list_cmp_total m k v ∙ put_is R k v (entries m) in
    let had : count_in m k ≡ unwrap_or (option_map (λ (x : ℕ). x) (lookup (is_at (R k)) (entries m))) 0 =
    ap (λ o. unwrap_or o 0) (get-entries m k ∙ find_is R k (entries m) ∙ sym (option_map_id (lookup (is_at (R k)) (entries m)))) in
    ap (λ es. sum (values_of es) + count_in m k) placed ∙ ap (λ n. sum (values_of (insert_entry R (entries m) k v)) + n) had
    ∙ sum_by-insert_entry (λ x. x) nat_list_cmp_total (entries m) k v (strictly_sorted R (entries m) (entries_sorted m))

pub total-add_number : (m : Numbers) (w : List ℕ) (n : ℕ) → total (add_number m w n) ≡ total m + n
total-add_number m w n = omega (arith, total_insert m w (count_in m w + n))

pub count_in-le-total : (m : Numbers) (w : List ℕ) → count_in m w ≤ total m
count_in-le-total m w = rw (get-entries m w ∙ find_is R w (entries m)) (lookup-le-sum (is_at (R w)) (entries m))

pub positive-add_number : (m : Numbers) (w : List ℕ) (n : ℕ) → 0 < n → ((q : List ℕ) → 0 < unwrap_or (get m q) 1) → (q : List ℕ) → 0 < unwrap_or (get (add_number m w n) q) 1
positive-add_number m w n some h q = subst (λ o. 0 < unwrap_or o 1) (sym (get-insert nat_list_cmp_total m w (count_in m w + n) q))
    (elim (eq_by_cmp R q w) as (λ b. 0 < unwrap_or (cond b (Some (count_in m w + n)) (get m q)) 1) [ true ↦ omega arith | false ↦ h q ])

IsCounted-add_number : (m : Numbers) (w : List ℕ) (n : ℕ) → 0 < n → IsCounted m → total m + n < 2 ^ 63 → IsCounted (add_number m w n)
IsCounted-add_number m w n some h room = record { positive = positive-add_number m w n some h.positive; small = omega (arith, total-add_number m w n) }

-- after a call that added a number for a word, or failed
pub IsCounted-after : {A E : Type 0} (r : Result A E) (m m' : Numbers) (w : List ℕ) (n : ℕ) → OnOk r (m' ≡ add_number m w n) → OnErr r (m' ≡ m) → IsCounted m → 0 < n → total m + n < 2 ^ 63 → IsCounted m'
IsCounted-after (Ok x) m m' w n ok err h some room = subst IsCounted (sym ok) (IsCounted-add_number m w n some h room)
IsCounted-after (Err e) m m' w n ok err h some room = subst IsCounted (sym err) h

pub total-empty : total empty ≡ 0
total-empty = let none : entries (empty {X = ℕ} {R = R}) ≡ [] = no_length _ (sym (len-entries empty) ∙ len-empty R ℕ) in rw none refl

pub IsCounted-empty : IsCounted empty
IsCounted-empty = record {
  positive = λ q. rw (get-empty R q) (omega arith);
  small = let none : entries (empty {X = ℕ} {R = R}) ≡ [] = no_length _ (sym (len-entries empty) ∙ len-empty R ℕ) in rw none (omega arith);
}

pub add_all-push : (m : Numbers) (ws : List (List ℕ)) (w : List ℕ) → add_all m (ws ++ w ∷ []) ≡ add_one (add_all m ws) w
add_all-push m [] w = refl
add_all-push m (x ∷ ws) w = add_all-push (add_one m x) ws w

pub total-add_all : (m : Numbers) (ws : List (List ℕ)) → total (add_all m ws) ≡ total m + length ws
total-add_all m [] = omega arith
total-add_all m (w ∷ ws) = omega (arith, total-add_all (add_one m w) ws, total-add_number m w 1)
