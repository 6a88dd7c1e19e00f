-- What looks do, one after another.
use Rattle.std.proofs.Common.{◌≡◌, ℕ, ◌-◌, List, [], ◌∷◌, ◌++◌, append_assoc, length, length-append, take, refl, sym, ap, ◌∙◌, arith}
use Rattle.std.specs.Prelude.{flat_map}
use Rattle.std.proofs.lemmas.List.{append-nil}
use Rattle.std.proofs.lemmas.List.Concat.{flat_map-append}
use Rattle.std.proofs.Math.Seq.{take-append_seam}
use Rattle.cursor_word.specs.Shape.{Grid}
use Rattle.rail.specs.declared.entry.Placed.{Placed}
use Rattle.step_log.specs.declared.log.Step.{Step}
use Rattle.block_looks.specs.declared.look.LookAfter.{LookAfter}
use Rattle.block_looks.specs.declared.look.LookAfter.TheVariants as after
use Rattle.block_looks.specs.declared.look.LookPhase.{LookPhase}
use Rattle.block_looks.specs.Shown.{look_loads}
use Rattle.drop_rail.specs.Looking.{HasLooked, Looker}
use Rattle.flight_view.specs.declared.gaps.Gap.{Gap}
use Rattle.flight_view.specs.Walks.{but_last}
use Rattle.flight_view.specs.Views.{HasSeen}
use Rattle.flight_view.specs.Parts.{Gathers, Midway}

pub seen_none : (a : Looker) → HasSeen a a [] []
seen_none a = record { of = refl; number = refl; view = refl; looked = sym (append-nil a.memory.looked); log = sym (append-nil a.log) }

pub seen_on : (a b c : Looker) (l m : List Step) (i j : List Placed) → HasSeen a b l i → HasSeen b c m j → HasSeen a c (l ++ m) (i ++ j)
seen_on a b c l m i j h k = record {
  of = k.of ∙ h.of;
  number = k.number ∙ h.number;
  view = k.view ∙ h.view;
  looked = k.looked ∙ ap (λ (xs : List Placed). xs ++ j) h.looked ∙ append_assoc a.memory.looked i j;
  log = k.log ∙ ap (λ (xs : List Step). xs ++ m) h.log ∙ append_assoc a.log l m;
}

-- a look that showed these items
pub seen_look : (g : Grid) (a b : Looker) (p : LookPhase) (answer : LookAfter) (items : List Placed) → HasLooked g a b p answer → b.memory.looked ≡ a.memory.looked ++ items → HasSeen a b (look_loads g (after.Next p) b.memory.look_trail) items
seen_look g a b p answer items h e = record { of = h.of; number = h.number; view = h.view; looked = e; log = h.steps.log }

pub gathers_none : (a : Midway) → Gathers a a [] [] []
gathers_none a = record { seen = seen_none a.seat; items_on = sym (append-nil a.items); gaps_on = sym (append-nil a.gaps) }

pub gathers_on : (a b c : Midway) (l m : List Step) (i j : List Placed) (p q : List Gap) → Gathers a b l i p → Gathers b c m j q → Gathers a c (l ++ m) (i ++ j) (p ++ q)
gathers_on a b c l m i j p q h k = record {
  seen = seen_on a.seat b.seat c.seat l m i j h.seen k.seen;
  items_on = k.items_on ∙ ap (λ (xs : List Placed). xs ++ j) h.items_on ∙ append_assoc a.items i j;
  gaps_on = k.gaps_on ∙ ap (λ (xs : List Gap). xs ++ q) h.gaps_on ∙ append_assoc a.gaps p q;
}

pub flat_map_push : {X A : Type 0} (f : X → List A) (xs : List X) (x : X) → flat_map f (xs ++ x ∷ []) ≡ flat_map f xs ++ f x
flat_map_push f xs x = flat_map-append f xs (x ∷ []) ∙ ap (λ l. flat_map f xs ++ l) (append-nil (f x))

pub but_last_push : {X : Type 0} (xs : List X) (x : X) → but_last (xs ++ x ∷ []) ≡ xs
but_last_push {X} xs x =
    let n : length (xs ++ x ∷ []) - 1 ≡ length xs = omega (arith, length-append xs (x ∷ [])) in
    ap (λ (k : ℕ). take k (xs ++ x ∷ [])) n ∙ take-append_seam xs (x ∷ [])
