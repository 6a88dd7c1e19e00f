-- What is made stays made, whatever step is taken.
use Rattle.std.proofs.Common.{◌≡◌, ℕ, ◌+◌, ◌≤◌, List, [], ◌∷◌, ◌++◌, ap, ◌∙◌, sym, ⊎_elim, arith}
use Rattle.std.specs.Prelude.{Some, slice_get, slice_set}
use Rattle.std.specs.List.{sum_by}
use Rattle.std.proofs.lemmas.Bool.Decides.{eqb_tells}
use Rattle.std.proofs.lemmas.List.{map-append}
use Rattle.rail.specs.declared.answer.Answer.TheVariants as answer
use Rattle.rail.specs.declared.answer.Put.TheVariants as put
use Rattle.rail.specs.declared.entry.Placed.{Placed}
use Rattle.rail.specs.Items.{placed, places}
use Rattle.cursor_word.specs.Shape.{Grid}
use Rattle.machine.specs.declared.op.After.{After}
use Rattle.machine.specs.declared.op.After.TheVariants.{Done}
use Rattle.machine.specs.declared.view.View.{View}
use Rattle.machine.specs.Table.{Table}
use Rattle.machine.specs.Steps.{made_after, seen}
use Rattle.machine.proofs.Lists.{get_set_other, get_set_same, sum_set}
use Rattle.put_side.specs.Counts.{makes, one_at, times}
use Rattle.put_side.specs.Entries.{IsMade}
use Rattle.put_side.proofs.Sums.{get_front, times_push}

-- each made item stays, and no place counts less
pub record KeepsMade {P : Type 0} (vs vs' : List (View P)) : Type 0 where
  pub counts : (p : ℕ) → sum_by (makes p) vs ≤ sum_by (makes p) vs'
  pub items : (item : Placed) → IsMade vs item → IsMade vs' item

module _ {P : Type 0} (vs : List (View P)) (id : ℕ) (v v' : View P) (at : slice_get vs id ≡ Some v) where
  made_stays : ((i : ℕ) (item : Placed) → slice_get v.made i ≡ Some item → slice_get v'.made i ≡ Some item) → (item : Placed) → IsMade vs item → IsMade (slice_set vs id v') item
  made_stays keeps item m =
      ⊎_elim
      (λ t. let e : m.seat ≡ id = t.1 in
      let h : slice_get vs id ≡ Some m.view = ap (slice_get vs) (sym e) ∙ m.at in
      let w : v ≡ m.view = cc in
      record { seat = id; view = v'; at = get_set_same vs id v v' at; number = m.number; there = keeps m.number item (ap (λ (u : View P). slice_get u.made m.number) w ∙ m.there) })
      (λ t. record { seat = m.seat; view = m.view; at = get_set_other vs id m.seat v' t.1 ∙ m.at; number = m.number; there = m.there })
      (eqb_tells m.seat id)

  -- a step that keeps the made list of its seat, or adds to it
  pub made_grows : ((p : ℕ) → makes p v ≤ makes p v') → ((i : ℕ) (item : Placed) → slice_get v.made i ≡ Some item → slice_get v'.made i ≡ Some item) → KeepsMade vs (slice_set vs id v')
  made_grows more keeps = record { counts = λ p. let n = sum_set (makes p) vs id v v' at in let m = more p in omega arith; items = made_stays keeps }

  pub made_same : v'.made ≡ v.made → KeepsMade vs (slice_set vs id v')
  made_same same = made_grows (λ p. let e = ap (λ (l : List Placed). times p (places l)) same in omega arith) (λ i item e. ap (λ (l : List Placed). slice_get l i) same ∙ e)

module _ {P : Type 0} where
  pub makes_more : (made : List Placed) (entry : List ℕ) (p : ℕ) (b : After P) → times p (places made) ≤ times p (places (made_after made entry b))
  makes_more made entry p (Done (answer.Put (put.Ok place))) =
      let e : times p (places (made ++ placed place entry ∷ [])) ≡ times p (places made) + one_at place p = ap (times p) (map-append (λ (z : Placed). z.place) made _) ∙ times_push p place (places made) in omega arith
  makes_more made entry p b = omega arith

  keeps_items : (made : List Placed) (entry : List ℕ) (b : After P) (i : ℕ) (item : Placed) → slice_get made i ≡ Some item → slice_get (made_after made entry b) i ≡ Some item
  keeps_items made entry (Done (answer.Put (put.Ok place))) i item e = get_front made _ i item e
  keeps_items made entry b i item e = e

  pub step_keeps_made : (table : Table P) (g : Grid) (vs : List (View P)) (id : ℕ) (v : View P) (p : P) (found : ℕ) → slice_get vs id ≡ Some v → KeepsMade vs (slice_set vs id (seen table g v p found))
  step_keeps_made table g vs id v p found at =
      made_grows vs id v (seen table g v p found) at (λ n. makes_more v.made v.entry n (table.after g p found)) (λ i item e. keeps_items v.made v.entry (table.after g p found) i item e)
