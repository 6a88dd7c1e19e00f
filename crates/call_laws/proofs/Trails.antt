-- What the trail of one seat shows, where no schedule is at hand.
use Rattle.std.proofs.Common.{◌≡◌, ℕ, zero, suc, ◌<◌, List, [], ◌∷◌, ◌++◌, Bool, true, false, map, append_assoc, append-nil, sym, ap, subst}
use Rattle.std.specs.Prelude.{Some, slice_get, if◌then◌else◌}
use Rattle.cursor_word.specs.Shape.{Grid}
use Rattle.cursor_word.specs.declared.cursor.Cursor.{Cursor}
use Rattle.rail.specs.Told.{FoundInOrder, Spells}
use Rattle.rail.specs.declared.entry.Placed.{Placed}
use Rattle.machine.specs.declared.op.After.{After}
use Rattle.machine.specs.declared.op.After.TheVariants.{Next, Done}
use Rattle.machine.specs.declared.view.View.{View}
use Rattle.machine.specs.Moments.{CallStep, found_by}
use Rattle.machine.specs.Ops.{noted}
use Rattle.machine.specs.Table.{Table}
use Rattle.call_laws.specs.Answers.{HasTrail, ValuesLead, first_phase}

-- a call begins with nothing to show, and each step adds what it noted to what the trail shows
pub record ShowsTrail {P : Type 0} (t : Table P) (Shows : List ℕ → After P → Type 0) : Type 0 where
  pub put : Shows [] (Next t.first_put)
  pub take : (g : Grid) (taken : List Placed) → Shows [] (Next (t.first_take g taken))
  pub step : (g : Grid) (entry trail : List ℕ) (p : P) (old : ℕ) → Shows trail (Next p) → Shows (trail ++ noted (t.want g p entry) old ∷ []) (t.after g p old)

module _ {P : Type 0} (t : Table P) (Shows : List ℕ → After P → Type 0) (shows : ShowsTrail t Shows) (g : Grid) where
  led : (entry : List ℕ) (from : After P) (xs trail : List ℕ) (p : P) → Shows trail from → ValuesLead t g entry from xs (Next p) → Shows (trail ++ xs) (Next p)
  led entry from [] trail p h l = subst (λ (zs : List ℕ). Shows zs (Next p)) (sym (append-nil trail)) (subst (Shows trail) l h)
  led entry (Done a) (x ∷ xs) trail p h l = absurd l
  led entry (Next q) (x ∷ xs) trail p h l =
      let on : Shows (trail ++ x ∷ []) (t.after g q x) = subst (λ (y : ℕ). Shows (trail ++ y ∷ []) (t.after g q x)) l.0 (shows.step g entry trail q x h) in
      subst (λ (zs : List ℕ). Shows zs (Next p)) (append_assoc trail (x ∷ []) xs) (led entry (t.after g q x) xs (trail ++ x ∷ []) p on l.1)

  begins : (taken : List Placed) (b : Bool) → Shows [] (Next (if b then t.first_put else t.first_take g taken))
  begins taken true = shows.put
  begins taken false = shows.take g taken

  -- the trail of a call shows what its steps so far do
  pub trail_shows : (v : View P) (p : P) → HasTrail t g v p → Shows v.trail (Next p)
  trail_shows v p (entry, l) = led entry (Next (first_phase t g v p)) v.trail [] p (begins v.taken (t.is_put p)) l

get_map : {A B : Type 0} (f : A → B) (xs : List A) (i : ℕ) (a : A) → slice_get xs i ≡ Some a → slice_get (map f xs) i ≡ Some (f a)
get_map f [] i a e = cc
get_map f (x ∷ xs) zero a e = let h : x ≡ a = cc in ap (λ y. Some (f y)) h
get_map f (x ∷ xs) (suc i) a e = get_map f xs i a e

-- two cursors that steps found stand in the trail, in their order
pub in_order : {P : Type 0} (steps : List (CallStep P)) (i k : ℕ) (x y : CallStep P) (first second : Cursor) → i < k → slice_get steps i ≡ Some x → slice_get steps k ≡ Some y → Spells x.found first → Spells y.found second → FoundInOrder (found_by steps) first second
in_order {P} steps i k x y first second less at_x at_y spells_x spells_y = record {
  at_first = i;
  at_second = k;
  in_order = less;
  word = x.found;
  later_word = y.found;
  found_first = get_map (λ (t : CallStep P). t.found) steps i x at_x;
  found_second = get_map (λ (t : CallStep P). t.found) steps k y at_y;
  spells_first = spells_x;
  spells_second = spells_y;
}
