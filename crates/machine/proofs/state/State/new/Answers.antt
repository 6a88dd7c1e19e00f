use Rattle.std.proofs.Common.{ℕ, List, sym, subst}
use Rattle.machine.specs.Steps.{start_state}
use Rattle.machine.specs.Invariant.{IsKept}
use Rattle.machine.proofs.Kept.{start_kept, state_of}
use Rattle.machine.proofs.state.State.new.Goals as goal

pub invariant_of-result : goal.invariant_of-result
invariant_of-result g c =
    subst (λ (ws : List ℕ). IsKept g.P.Phase.Holds (state_of c.args.shape ws c.in_ok-seats.seats.items)) (sym c.in_ok-words.ensures)
    (subst (λ vs. IsKept g.P.Phase.Holds (state_of c.args.shape (start_state g.row.P.Denot c.args.shape).words vs)) (sym c.in_ok-seats.ensures) (start_kept g.P.Phase.table g.P.Phase.Holds c.keeps.ensures c.args.shape c.blocks-blocks.ensures.limits))
