-- Loads that a seat did one after another, while the queue went on.
use Rattle.std.proofs.Common.{◌≡◌, ℕ, List, [], ◌∷◌, ◌++◌, refl, sym, ap, subst}
use Rattle.std.specs.Prelude.{Option, Some, slice_index}
use Rattle.cursor_word.specs.Shape.{Grid}
use Rattle.step_log.specs.declared.log.Step.{Step}
use Rattle.step_log.specs.Log.{loaded}
use Rattle.drop_core.specs.Types.{MachineState}
use Rattle.flight_view.specs.Schedules.{then_after}
use Rattle.flight_view.specs.Viewers.{IsGood}
use Rattle.flight_view.proofs.Later.{IsLater, later_on, same_later}

module _ (g : Grid) where
  -- a load of the queue as it was
  pub record IsLoad (w : MachineState) (step : Step) : Type 0 where
    pub good : IsGood g w
    pub index : ℕ
    pub is : step ≡ loaded index (slice_index w.words index)

  pub found_is : (w : MachineState) (i x : ℕ) → IsLoad w (loaded i x) → x ≡ slice_index w.words i
  found_is w i x l =
      let index : i ≡ l.index = ap (λ (s : Step). s.index) l.is in
      let found : Some x ≡ Some (slice_index w.words l.index) = ap (λ (s : Step). s.found) l.is in
      let value : x ≡ slice_index w.words l.index = cc in
      subst (λ (j : ℕ). x ≡ slice_index w.words j) (sym index) value

  -- these loads, between two moments
  abbrev pub Did : MachineState → List Step → MachineState → Type 0
  Did from [] to = IsLater g from to
  Did from (step ∷ steps) to = (w : MachineState) × IsLater g from w × IsLoad w step × Did w steps to

  pub did_later : (from to : MachineState) (steps : List Step) → Did from steps to → IsLater g from to
  did_later from to [] d = d
  did_later from to (x ∷ xs) d = later_on g from d.0 to d.1 (did_later d.0 to xs d.3)

  pub did_until : (from to end : MachineState) (steps : List Step) → Did from steps to → IsLater g to end → Did from steps end
  did_until from to end [] d l = later_on g from to end d l
  did_until from to end (x ∷ xs) d l = (d.0, d.1, d.2, did_until d.0 to end xs d.3 l)

  pub did_one_more : (from to : MachineState) (steps : List Step) (step : Step) → Did from steps to → IsLoad to step → Did from (steps ++ step ∷ []) to
  did_one_more from to [] step d l = (to, d, l, same_later g to)
  did_one_more from to (x ∷ xs) step d l = (d.0, d.1, d.2, did_one_more d.0 to xs step d.3 l)

  -- and of those of two lists first the one, then the other
  pub record DidBoth (from to : MachineState) (first rest : List Step) : Type 0 where
    pub between : MachineState
    pub before : Did from first between
    pub after : Did between rest to

  pub did_both : (from to : MachineState) (first rest : List Step) → Did from (first ++ rest) to → DidBoth from to first rest
  did_both from to [] rest d = record { between = from; before = same_later g from; after = d }
  did_both from to (x ∷ xs) rest d =
      let b = did_both d.0 to xs rest d.3 in
      record { between = b.between; before = (d.0, d.1, d.2, b.before); after = b.after }

  -- the loads of a view so far, where the queue was so just before the second
  abbrev pub DidSince : Option MachineState → List Step → MachineState → Type 0
  DidSince then [] to = Unit {0}
  DidSince then (head ∷ []) to = (w : MachineState) × IsLoad w head × IsLater g w to
  DidSince then (head ∷ second ∷ steps) to =
      (w : MachineState) × IsLoad w head
      × (at : MachineState) × IsLater g w at × IsLoad at second × (then ≡ Some at) × Did at steps to

  pub since_until : (then : Option MachineState) (steps : List Step) (to end : MachineState) → DidSince then steps to → IsLater g to end → DidSince then steps end
  since_until then [] to end d l = tt
  since_until then (x ∷ []) to end d l = (d.0, d.1, later_on g d.0 to end d.2 l)
  since_until then (x ∷ y ∷ steps) to end d l = (d.0, d.1, d.2, d.3, d.4, d.5, did_until d.2 to end steps d.6 l)

  pub since_more : (then : Option MachineState) (steps : List Step) (to : MachineState) (step : Step) → DidSince then steps to → IsLoad to step → DidSince (then_after steps to then) (steps ++ step ∷ []) to
  since_more then [] to step d l = (to, l, same_later g to)
  since_more then (x ∷ []) to step d l = (d.0, d.1, to, d.2, l, refl, same_later g to)
  since_more then (x ∷ y ∷ steps) to step d l = (d.0, d.1, d.2, d.3, d.4, d.5, did_one_more d.2 to steps step d.6 l)
