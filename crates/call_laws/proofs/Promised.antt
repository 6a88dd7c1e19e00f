-- Each answer of a step is as a queue promises, where that holds of the lists that the answer leaves.
use Rattle.std.proofs.Common.{◌≡◌, ℕ, Bool, false, List, [], ◌∷◌, ◌++◌, refl, sym, ap, subst}
use Rattle.std.specs.Prelude.{Some, slice_get, if◌then◌else◌}
use Rattle.cursor_word.specs.Shape.{Grid, IsWithinLimits}
use Rattle.rail.specs.Rail.{Puts, Takes}
use Rattle.rail.specs.declared.entry.Placed.{Placed}
use Rattle.rail.specs.declared.answer.Answer.{Answer}
use Rattle.rail.specs.declared.answer.Answer.TheVariants as answer
use Rattle.rail.specs.declared.answer.Take.{Take}
use Rattle.rail.specs.declared.answer.Take.TheVariants as take
use Rattle.machine.specs.declared.op.After.{After}
use Rattle.machine.specs.declared.op.After.TheVariants.{Done}
use Rattle.machine.specs.declared.view.View.{View}
use Rattle.machine.specs.Invariant.{Fact}
use Rattle.machine.specs.Steps.{finds, made_after, seen, taken_after}
use Rattle.machine.specs.Table.{Reading, Table, Word, reads_word}
use Rattle.call_laws.specs.Calls.{IsCallTable, IsOfKind, ReadsInOrder, ReadsOn}
use Rattle.call_laws.specs.Answers.{KeepsPromises, Promises}
use Rattle.call_laws.proofs.Trails.{ShowsTrail, trail_shows}

-- what a queue promises of an answer, where the seat's lists are those before the step and what the answer adds to them
abbrev pub Adds : {P : Type 0} → Grid → Bool → View P → List ℕ → Answer → Type 0
Adds {P} g drops v trail (answer.Put a) = Puts g drops v.entry v.made (made_after {P = P} v.made v.entry (Done (answer.Put a))) trail a
Adds {P} g drops v trail (answer.Take a) = Takes g drops v.made v.read v.read v.taken (taken_after {P = P} v.taken v.read (Done (answer.Take a))) trail a

module _ {P : Type 0} (t : Table P) (calls : IsCallTable t) (reads : ReadsInOrder t) (g : Grid) where
  unread : (s : Reading) (a : Take) → ReadsOn t g.width s (Done (answer.Take a)) → reads_word s ≡ false
  unread (Word next) a on = absurd on
  unread s a on = refl

  promised : (drops : Bool) (v : View P) (p : P) (old : ℕ) (a : Answer) → t.after g p old ≡ Done a → Adds g drops v (seen t g v p old).trail a → Promises g drops v (seen t g v p old) a
  promised drops v p old (answer.Put a) is adds =
      let new : View P = seen t g v p old in
      subst (λ (made : List Placed). Puts g drops v.entry v.made made new.trail a) (sym (ap (made_after v.made v.entry) is)) adds
  promised drops v p old (answer.Take a) is adds =
      let new : View P = seen t g v p old in
      let made : v.made ≡ new.made = sym (ap (made_after v.made v.entry) is) in
      let kind : t.is_put p ≡ false = subst (IsOfKind t (t.is_put p)) is (calls.stays g p old) in
      let on = subst (ReadsOn t g.width (t.reading p)) is (reads.goes_on g p old kind) in
      let read : v.read ≡ new.read = sym (ap (λ (b : Bool). if b then v.read ++ old ∷ [] else v.read) (unread (t.reading p) a on)) in
      subst (λ (items : List Placed). Takes g drops items new.read new.read v.taken new.taken new.trail a) made
      (subst (λ (words : List ℕ). Takes g drops v.made words words v.taken new.taken new.trail a) read
      (subst (λ (taken : List Placed). Takes g drops v.made v.read v.read v.taken taken new.trail a) (sym (ap (taken_after v.taken v.read) is)) adds))

module _ {P : Type 0} (t : Table P) (Holds : Fact P) (drops : Bool) (Shows : List ℕ → After P → Type 0) where
  -- what the invariant and the trail tell of each answer
  abbrev pub TellsAdded : Type 0
  TellsAdded = (g : Grid) (ws : List ℕ) (vs : List (View P)) (id : ℕ) (v : View P) (p : P) (a : Answer)
      → IsWithinLimits g → Holds g ws vs → slice_get vs id ≡ Some v → v.phase ≡ Some p
      → t.after g p (finds t g ws v p) ≡ Done a
      → (trail : List ℕ) → Shows trail (Done a) → Adds g drops v trail a

  pub keeps_promises : IsCallTable t → ReadsInOrder t → ShowsTrail t Shows → TellsAdded → KeepsPromises t Holds drops
  keeps_promises calls reads shows tells g ws vs id v p a limits holds few at here trail is =
      let old : ℕ = finds t g ws v p in
      let new : View P = seen t g v p old in
      let shown : Shows new.trail (Done a) = subst (Shows new.trail) is (shows.step g v.entry v.trail p old (trail_shows t Shows shows g v p trail)) in
      promised t calls reads g drops v p old a is (tells g ws vs id v p a limits holds at here is new.trail shown)
