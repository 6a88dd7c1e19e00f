-- The steps of a call leave its seat's number, and what it remembers.
use Rattle.std.proofs.Common.{◌≡◌, ℕ, List, [], ◌∷◌, Bool, get_or, refl, sym, ap, ◌∙◌}
use Rattle.cursor_word.specs.Shape.{Grid}
use Rattle.step_log.specs.declared.log.Step.{Step}
use Rattle.machine.specs.declared.op.After.{After}
use Rattle.machine.specs.declared.op.After.TheVariants.{Next, Done}
use Rattle.machine.specs.declared.view.View.{View}
use Rattle.machine.specs.Steps.{seen}
use Rattle.machine.specs.Table.{Table}
use Rattle.call_steps.specs.Call.{Walks}
use Rattle.call_steps.specs.Rule.{value_of}
use Rattle.shared_seats.specs.declared.holding.Holding.{Holding}
use Rattle.shared_seats.specs.Holding.{held_rule, holding, memory_in, numbered, seat_in, view_in, with_view}

module _ {P M : Type 0} (t : Table P) (drops : Bool) (g : Grid) where
  walked : {A : Type 0} (part : Holding P M → A) → ((h : Holding P M) (v : View P) → part (with_view h v) ≡ part h) → (s : After P) (h : Holding P M) (steps : List Step) (w : Holding P M) → Walks t (held_rule t drops) g s h steps w → part w ≡ part h
  walked part same s h [] w e = ap part (sym e)
  walked part same (Next p) h (k ∷ ks) w walk = walked part same (t.after g p (value_of k)) ((held_rule t drops).moves_to h p (value_of k)) ks w walk.1 ∙ same h (seen t h.shape (view_in h) p (value_of k))
  walked part same (Done a) h (k ∷ ks) w walk = absurd walk

  pub unmoved : (s : After P) (h : Holding P M) (steps : List Step) (w : Holding P M) → Walks t (held_rule t drops) g s h steps w → (w.memories ≡ h.memories) × ((seat_in w).number ≡ (seat_in h).number)
  unmoved s h steps w walk = (walked (λ x. x.memories) (λ x v. refl) s h steps w walk, walked (λ x. (seat_in x).number) (λ x v. refl) s h steps w walk)

-- a seat that still stands for one view, has its number and remembers what it did, is one of a caller still
module _ {P M : Type 0} (none : M) (number : ℕ) (old now : Holding P M) (held : old ≡ holding old.shape (numbered number (view_in old) ∷ []) (memory_in none old ∷ [])) (sits : now.seats ≡ seat_in now ∷ []) (kept : (now.memories ≡ old.memories) × ((seat_in now).number ≡ (seat_in old).number)) where
  pub same_memory : memory_in none now ≡ memory_in none old
  same_memory = ap (λ (l : List M). get_or l 0 none) kept.0

  pub still_held : now ≡ holding now.shape (numbered number (view_in now) ∷ []) (memory_in none now ∷ [])
  still_held =
      let e : now.memories ≡ memory_in none now ∷ [] = kept.0 ∙ (ap (λ (h : Holding P M). h.memories) held ∙ ap (λ (m : M). m ∷ []) (sym same_memory)) in
      let same : (seat_in now).number ≡ number = kept.1 ∙ ap (λ (h : Holding P M). (seat_in h).number) held in
      let seats : now.seats ≡ numbered number (view_in now) ∷ [] = sits ∙ ap (λ (n : ℕ). numbered n (view_in now) ∷ []) same in
      λ k. record { shape = now.shape; seats = seats k; memories = e k }
