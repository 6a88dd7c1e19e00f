-- What a seat's turn leaves, and that it makes at most one entry.
use Rattle.std.proofs.Common.{◌≡◌, ℕ, ◌+◌, ◌≤◌, List, [], ◌∷◌, length, refl, ap, arith}
use Rattle.std.specs.Prelude.{Option, Some, None, slice_get, slice_set}
use Rattle.std.proofs.lemmas.List.{length-append}
use Rattle.std.proofs.lemmas.List.Folds.{sum_by-replicate}
use Rattle.cursor_word.specs.Shape.{Grid}
use Rattle.rail.specs.declared.entry.Placed.{Placed}
use Rattle.rail.specs.Items.{placed}
use Rattle.rail.specs.declared.answer.Answer.TheVariants as answer
use Rattle.rail.specs.declared.answer.Put.TheVariants as put
use Rattle.machine.specs.declared.op.After.{After}
use Rattle.machine.specs.declared.op.After.TheVariants.{Done}
use Rattle.machine.specs.declared.view.View.{View}
use Rattle.machine.specs.declared.event.Start.{Start}
use Rattle.machine.specs.declared.event.Start.TheVariants as start
use Rattle.machine.specs.declared.event.Event.{Event}
use Rattle.machine.specs.Table.{Table}
use Rattle.machine.specs.Steps.{MachineState, begun, made_after, moves, resting, run, start_state, step, turn, turned}
use Rattle.machine.specs.Invariant.{made_count, made_total}
use Rattle.machine.proofs.Lists.{sum_set}

pub start_total : (P : Type 0) (g : Grid) → made_total (start_state P g).views ≡ 0
start_total P g = let e = sum_by-replicate made_count g.seats (resting P g) in omega (arith, e)

-- a view that made as much in the place of another
pub total_same : {P : Type 0} (vs : List (View P)) (id : ℕ) (v v' : View P) → slice_get vs id ≡ Some v → v'.made ≡ v.made → made_total (slice_set vs id v') ≡ made_total vs
total_same vs id v v' at e = let q = sum_set made_count vs id v v' at in let n = ap (λ (l : List Placed). length l) e in omega arith

made_more : {P : Type 0} (made : List Placed) (entry : List ℕ) (b : After P) → length (made_after made entry b) ≤ length made + 1
made_more made entry (Done (answer.Put (put.Ok place))) = omega (arith, length-append made (placed place entry ∷ []))
made_more made entry b = omega arith

module _ {P : Type 0} (t : Table P) (g : Grid) where
  -- what a call that begins leaves as it was
  pub begun_made : (v : View P) (ph : Option P) (s : Start) → (begun t g v ph s).made ≡ v.made
  begun_made v (Some p) s = refl
  begun_made v None (start.Put entry) = refl
  begun_made v None start.Take = refl
  begun_made v None start.Go = refl

  pub begun_taken : (v : View P) (ph : Option P) (s : Start) → (begun t g v ph s).taken ≡ v.taken
  begun_taken v (Some p) s = refl
  begun_taken v None (start.Put entry) = refl
  begun_taken v None start.Take = refl
  begun_taken v None start.Go = refl

  pub begun_answer : (v : View P) (ph : Option P) (s : Start) → (begun t g v ph s).answer ≡ v.answer
  begun_answer v (Some p) s = refl
  begun_answer v None (start.Put entry) = refl
  begun_answer v None start.Take = refl
  begun_answer v None start.Go = refl

  moves_more : (ws : List ℕ) (v : View P) (ph : Option P) → made_count (moves t g ws v ph).view ≤ made_count v + 1
  moves_more ws v None = omega arith
  moves_more ws v (Some p) = made_more v.made v.entry (t.after g p _)

  -- a seat's turn makes at most one entry
  pub turned_more : (ws : List ℕ) (v : View P) (s : Start) → made_count (turned t g ws v s).view ≤ made_count v + 1
  turned_more ws v s = let m = moves_more ws (begun t g v v.phase s) (begun t g v v.phase s).phase in let b = ap (λ (l : List Placed). length l) (begun_made v v.phase s) in omega arith

  turn_more : (w : MachineState P) (id : ℕ) (s : Start) (o : Option (View P)) → slice_get w.views id ≡ o → made_total (turn t g w id s o).views ≤ made_total w.views + 1
  turn_more w id s None at = omega arith
  turn_more w id s (Some v) at = let q = sum_set made_count w.views id v (turned t g w.words v s).view at in let m = turned_more w.words v s in omega arith

  pub step_more : (w : MachineState P) (x : Event) → made_total (step t g w x).views ≤ made_total w.views + 1
  step_more w x = turn_more w x.seat x.start (slice_get w.views x.seat) refl

  pub run_more : (w : MachineState P) (es : List Event) → made_total (run t g w es).views ≤ made_total w.views + length es
  run_more w [] = omega arith
  run_more w (x ∷ es) = omega (arith, step_more w x, run_more (step t g w x) es)
