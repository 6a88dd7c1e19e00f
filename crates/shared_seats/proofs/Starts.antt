-- The rule holds at the start.
use Rattle.std.proofs.Common.{◌≡◌, ℕ, zero, suc, List, [], ◌∷◌, replicate, append-nil, sym, ap, ◌∙◌, subst, arith}
use Rattle.std.specs.Prelude.{Some, slice_get}
use Rattle.std.proofs.lemmas.List.{length-replicate}
use Rattle.std.proofs.lemmas.List.Sorted.{IsPermutation-refl}
use mathlib.Core.Option.{some, some-injective, some-ne-none}
use lib.ListN.{get_elem?}
use Rattle.cursor_word.specs.Shape.{Grid, IsWithinLimits}
use Rattle.machine.specs.declared.view.View.{View}
use Rattle.machine.specs.Table.{Table}
use Rattle.machine.specs.Invariant.{Fact, IsInvariant}
use Rattle.machine.specs.Steps.{resting, start_words}
use Rattle.machine.proofs.Lists.{get_replicate}
use Rattle.call_steps.specs.Rule.{HasRoom}
use Rattle.shared_seats.specs.declared.holding.Holding.{Holding}
use Rattle.shared_seats.specs.Memory.{IsLasting, Knowledge}
use Rattle.shared_seats.specs.declared.holding.Numbered.{Numbered}
use Rattle.shared_seats.specs.Holding.{AreInOrder, IsHeld, all_seats, numbered_from}

only_first : {A : Type 0} (x : A) (at : ℕ) (y : A) → get_elem? (x ∷ []) at ≡ some y → y ≡ x
only_first x zero y e = sym (some-injective x y e)
only_first x (suc at) y e = absurd (some-ne-none y (sym e))

module _ {P M : Type 0} (t : Table P) (Holds : Fact P) (Knows : Knowledge P M) (none : M) (lasting : IsLasting t Holds Knows none) (law : IsInvariant t Holds) (g : Grid) (limits : IsWithinLimits g) where
  abbrev first : Holding P M
  first = all_seats P none g

  pub starts_held : IsHeld t Holds Knows g (start_words g) (first ∷ [])
  starts_held =
      let views : List (View P) = replicate g.seats (resting P g) in
      record {
        limits = limits;
        shapes = λ at h get some. ap (λ (x : Holding P M). x.shape) (only_first first at h get);
        views = views;
        in_order = subst (λ (xs : List (Numbered P)). AreInOrder xs views) (sym (append-nil (numbered_from 0 views))) (IsPermutation-refl (numbered_from 0 views));
        holds = law.starts g limits;
        all = length-replicate g.seats (resting P g);
        few = λ j v get. let r : resting P g ≡ v = get_replicate g.seats (resting P g) j v get in subst (HasRoom t g) r (omega arith);
        memories = λ m is.
            let own : slice_get (replicate g.seats none) is.number ≡ Some m = ap (λ (x : Holding P M). slice_get x.memories is.number) (sym (only_first first is.at is.seat is.stands)) ∙ is.there in
            subst (Knows g (start_words g) views) (get_replicate g.seats none is.number m own) (lasting.starts g (start_words g) views);
      }
