use Rattle.std.proofs.Common.{◌≡◌, ℕ, ◌∙◌, ◌++◌, ◌∷◌, [], ap, refl, subst, sym}
use Rattle.std.specs.Prelude.{slice_index}
use Rattle.step_log.specs.Log.{loaded}
use Rattle.drop_core.specs.Sound.{IsSound}
use Rattle.shared_seats.specs.Memory.{KeepsMemory}
use Rattle.block_looks.specs.declared.looks.Looks.{Looks}
use Rattle.block_looks.specs.Table.{look_want}
use Rattle.block_looks.specs.Looks.{LooksHold, looked_on}
use Rattle.drop_rail.specs.Looking.{IsStepTold, Looker}
use Rattle.drop_rail.proofs.drop.DropRail.look_load.Goals as goal

pub load-requires-clause-keeps : goal.load-requires-clause-keeps
load-requires-clause-keeps g c =
    let shape = c.args.shape.now in let old = c.args.seat.now in let step = c.args.step.now in
    let keeps : KeepsMemory IsSound LooksHold shape old.view old.memory (look_want shape step) (IsStepTold step shape old.view old.memory) = λ words views id limits sound room at holds.
    let done = c.look_law.ensures shape words views id old.view old.memory step limits sound room at holds c.requires.may in
    (looked_on shape old.memory step (slice_index words (look_want shape step)), done.holds, (refl, done.shows)) in
    subst (λ p. KeepsMemory IsSound LooksHold c.self.inside.queue.shape old.view old.memory c.look_want-index.result (IsStepTold p c.self.inside.queue.shape old.view old.memory)) c.requires.step
    (subst (λ k. KeepsMemory IsSound LooksHold k old.view old.memory c.look_want-index.result (IsStepTold step k old.view old.memory)) (c.requires.shape ∙ ap (λ q. q.shape) (sym c.self.view_is))
    (subst (λ (i : ℕ). KeepsMemory IsSound LooksHold shape old.view old.memory i (IsStepTold step shape old.view old.memory)) (sym c.look_want-index.ensures.index) keeps))

pub returns-clause-seat : goal.returns-clause-seat
returns-clause-seat g c =
    let shape = c.args.shape.now in let old = c.args.seat.now in let n = c.load.result in
    let told = (subst (λ p. IsStepTold p c.args.shape.now c.args.seat.now.view c.args.seat.now.memory c.load.result c.load.new.seat.memory) (sym c.requires.step) (subst (λ k. IsStepTold g.E.LookStep.phase k c.args.seat.now.view c.args.seat.now.memory c.load.result c.load.new.seat.memory) (sym (c.requires.shape ∙ ap (λ q. q.shape) (sym c.self.view_is))) c.load.ensures.told)) in
    c.load.ensures.seat
    ∙ (ap (λ (m : Looks). let s : Looker = record { of = old.of; number = old.number; view = old.view; memory = m; log = old.log ++ loaded c.look_want-index.result n ∷ [] } in s) told.0
    ∙ ap (λ (i : ℕ). let s : Looker = record { of = old.of; number = old.number; view = old.view; memory = looked_on shape old.memory c.args.step.now n; log = old.log ++ loaded i n ∷ [] } in s) c.look_want-index.ensures.index)

pub returns-clause-shows : goal.returns-clause-shows
returns-clause-shows g c = (subst (λ p. IsStepTold p c.args.shape.now c.args.seat.now.view c.args.seat.now.memory c.load.result c.load.new.seat.memory) (sym c.requires.step) (subst (λ k. IsStepTold g.E.LookStep.phase k c.args.seat.now.view c.args.seat.now.memory c.load.result c.load.new.seat.memory) (sym (c.requires.shape ∙ ap (λ q. q.shape) (sym c.self.view_is))) c.load.ensures.told)).1
