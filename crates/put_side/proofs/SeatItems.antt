-- What a seat's own lists show where its call answers.
use Rattle.std.proofs.Common.{◌≡◌, ◌≢◌, ℕ, zero, suc, ◌+◌, ◌<◌, ◌≤◌, ◌⊎◌, List, [], ◌∷◌, ◌++◌, cond, length, refl, sym, ap, ◌∙◌, subst, inl, inr, ⊎_elim, arith}
use Rattle.std.specs.Prelude.{Some, slice_get, ◌==◌}
use Rattle.std.specs.List.{AllByRecursion, Contains}
use Rattle.std.proofs.lemmas.Bool.{cases_eq}
use Rattle.std.proofs.lemmas.Bool.Decides.{nat_tests}
use Rattle.std.proofs.lemmas.List.{length-append}
use Rattle.std.proofs.lemmas.List.Elements.{All-contains, All-from_recursion}
use Rattle.std.proofs.lemmas.Option.{slice_get-get_or}
use Rattle.cursor_word.specs.Shape.{Grid}
use Rattle.cursor_word.specs.Cursor.{place_at}
use Rattle.cursor_word.specs.declared.cursor.Cursor.{Cursor}
use Rattle.rail.specs.Items.{IsRising, placed, places}
use Rattle.rail.specs.Rail.{Gains}
use Rattle.rail.specs.declared.entry.Placed.{Placed}
use Rattle.rail.specs.declared.answer.Answer.TheVariants as answer
use Rattle.rail.specs.declared.answer.Put.TheVariants as put
use Rattle.machine.specs.declared.op.After.TheVariants.{Done}
use Rattle.machine.specs.declared.view.View.{View}
use Rattle.machine.specs.Table.{Table}
use Rattle.machine.specs.Steps.{made_after}
use Rattle.machine.proofs.Lists.{one_le_sum}
use Rattle.put_side.specs.Cursors.{Front, PutCursors}
use Rattle.put_side.specs.Stages.{PutStage, held}
use Rattle.put_side.specs.declared.put_phase.PutPhase.TheVariants.{Commit}
use Rattle.put_side.specs.Stages.{At}
use Rattle.put_side.specs.Counts.{makes, one_at, times}
use Rattle.put_side.specs.Entries.{IsMade}
use Rattle.put_side.specs.Places.{PutPlaces}
use Rattle.put_side.specs.PutTable.{IsNoCommit, IsPutTable, stage_in, stage_of}
use Rattle.put_side.proofs.Commits.{made_once}
use Rattle.put_side.proofs.Sums.{not_there, times-cons, two_le_sum}
use Rattle.put_side.proofs.Stores.{counted}

-- the last of a rising list is beyond the others
below_last : (y x : ℕ) (xs : List ℕ) → AllByRecursion (λ z. y < z) (xs ++ x ∷ []) → y < x
below_last y x [] a = a.0
below_last y x (z ∷ zs) a = below_last y x zs a.1

rising_below : (x : ℕ) (xs : List ℕ) → IsRising (xs ++ x ∷ []) → AllByRecursion (λ q. q < x) xs
rising_below x [] r = tt
rising_below x (y ∷ ys) r = (below_last y x ys r.0, rising_below x ys r.1)

pub gains : (items : List Placed) (item : Placed) → IsRising (places items ++ item.place ∷ []) → Gains items (items ++ item ∷ []) item
gains items item rising = record { at_end = refl; beyond = All-from_recursion (λ (q : ℕ). q < item.place) (places items) (rising_below item.place (places items) rising) }

-- a number that does not stand in a list is none of it
none_is : (p : ℕ) (xs : List ℕ) → times p xs ≡ 0 → AllByRecursion (λ q. q ≢ p) xs
none_is p [] e = tt
none_is p (x ∷ xs) e =
    let t = times-cons p x xs in
    ((λ (h : x ≡ p). not_there p xs (subst (λ (y : ℕ). cond (y == p) 1 0 + times p xs ≡ 0) h (sym t ∙ e))), none_is p xs (omega arith))

pub not_among : (p : ℕ) (xs : List ℕ) → times p xs ≡ 0 → (q : ℕ) → Contains xs q → q ≢ p
not_among p xs none q h = All-contains (λ (r : ℕ). r ≢ p) xs q (All-from_recursion _ xs (none_is p xs none)) h

one_self : (p : ℕ) → one_at p p ≡ 1
one_self p = grind (arith, nat_tests)

-- a place that stands once in a list of items is that of one item
one_item : (items : List Placed) (i k : ℕ) (x y : Placed) → slice_get items i ≡ Some x → slice_get items k ≡ Some y → x.place ≡ y.place → times y.place (places items) ≤ 1 → x ≡ y
one_item [] i k x y at there e few = cc
one_item (z ∷ zs) zero zero x y at there e few = cc
one_item (z ∷ zs) zero (suc k) x y at there e few =
    let h : z ≡ x = cc in
    let one : one_at z.place y.place ≡ 1 = ap (λ (p : ℕ). one_at p y.place) (ap (λ (q : Placed). q.place) h ∙ e) ∙ one_self y.place in
    let t : times y.place (places (z ∷ zs)) ≡ one_at z.place y.place + times y.place (places zs) = times-cons y.place z.place (places zs) in
    let c = counted zs k y there in absurd (omega arith)
one_item (z ∷ zs) (suc i) zero x y at there e few =
    let h : z ≡ y = cc in
    let one : one_at z.place y.place ≡ 1 = ap (λ (q : Placed). one_at q.place y.place) h ∙ one_self y.place in
    let t : times y.place (places (z ∷ zs)) ≡ one_at z.place y.place + times y.place (places zs) = times-cons y.place z.place (places zs) in
    let c : 1 ≤ times y.place (places zs) = subst (λ (p : ℕ). 1 ≤ times p (places zs)) e (counted zs i x at) in absurd (omega arith)
one_item (z ∷ zs) (suc i) (suc k) x y at there e few =
    let t : times y.place (places (z ∷ zs)) ≡ one_at z.place y.place + times y.place (places zs) = times-cons y.place z.place (places zs) in
    one_item zs i k x y at there e (omega arith)

module _ {P : Type 0} (stage : View P → PutStage) (g : Grid) (front : Front) (cursors : PutCursors) (vs : List (View P)) (side : PutPlaces stage g front cursors vs) (id : ℕ) (v : View P) (here : slice_get vs id ≡ Some v) where
  -- an item of the seat at a made place is the one that was made there
  pub own_item : (p : ℕ) (words read : List ℕ) → IsMade vs (placed p read) → Contains v.made (placed p words) → words ≡ read
  own_item p words read made own =
      let at : slice_get v.made own.0 ≡ Some (placed p words) = slice_get-get_or v.made own.0 (placed p words) own.1 ∙ ap Some own.2 in
      let once = made_once stage g front cursors vs side p in
      let mine = counted v.made own.0 (placed p words) at in
      let theirs = counted made.view.made made.number (placed p read) made.there in
      let same : placed p words ≡ placed p read = ⊎_elim
      (λ e. let u : made.view ≡ v = let q : slice_get vs id ≡ Some made.view = subst (λ (k : ℕ). slice_get vs k ≡ Some made.view) e made.at in cc in
      one_item v.made own.0 made.number (placed p words) (placed p read) at (subst (λ (x : View P). slice_get x.made made.number ≡ Some (placed p read)) u made.there) refl (let o = one_le_sum (makes p) vs id v here in omega arith))
      (λ n. absurd (let two = two_le_sum (makes p) vs id made.seat v made.view here made.at n in omega arith))
      (cases_eq made.seat id) in
      ap (λ (x : Placed). x.words) same

commits_or : (s : PutStage) → IsNoCommit s ⊎ ((at : Cursor) × (s ≡ At (Commit at)))
commits_or (At (Commit at)) = inr (at, refl)
commits_or s = inl tt

-- an item more makes a list longer
longer : (items : List Placed) (item : Placed) → items ++ item ∷ [] ≡ items → ⊥
longer items item e = let n = length-append items (item ∷ []) in let m = ap length e in omega arith

module _ {P : Type 0} (stage : P → PutStage) (table : Table P) (puts : IsPutTable stage table) (g : Grid) (front : Front) (cursors : PutCursors) (vs : List (View P)) (side : PutPlaces (stage_of stage) g front cursors vs) (id : ℕ) (v : View P) (here : slice_get vs id ≡ Some v) where
  -- a put that answers Ok makes the entry in hand, at a place beyond all that the seat has made
  pub put_gains : (p : P) (found place : ℕ) → v.phase ≡ Some p → table.after g p found ≡ Done (answer.Put (put.Ok place)) → Gains v.made (v.made ++ placed place v.entry ∷ []) (placed place v.entry)
  put_gains p found place e is =
      ⊎_elim
      (λ none. absurd (longer v.made (placed place v.entry) (sym (ap (made_after v.made v.entry) is) ∙ puts.makes_none g p found v.made v.entry none)))
      (λ some. let at : place_at g some.0 ≡ place = let q = sym (puts.commits g p some.0 found some.1) ∙ is in cc in
      let stands : stage_in stage v.phase ≡ At (Commit some.0) = ap (stage_in stage) e ∙ some.1 in
      let claim : places v.made ++ held g (stage_in stage v.phase) ≡ places v.made ++ place ∷ [] = ap (λ (s : PutStage). places v.made ++ held g s) stands ∙ ap (λ (q : ℕ). places v.made ++ q ∷ []) at in
      gains v.made (placed place v.entry) (subst IsRising claim (side.each id v here).rising))
      (commits_or (stage p))
