use Rattle.std.proofs.Common.{refl, sym, subst}
use Rattle.call_steps.specs.Midway.{IsTakeAt, take_call}
use Rattle.call_steps.proofs.Loop.{take_at, take_begins}
use Rattle.call_steps.proofs.calls.run_take.Goals as goal

pub take_while-state-requires-clause-on : goal.take_while-state-requires-clause-on
take_while-state-requires-clause-on g c = let t = g.P.Phase.table in let k = g.P.CallPhase.drops in let u = g.U.MachineRule.rule in let r = c.requires in
    let call = take_call t u c.args.shape.now c.args.out.now c.args.seat.now in
    let begun = subst (IsTakeAt t k u call c.args.seat.now c.args.out.now) (sym r.first) (take_begins t k u c.calls.ensures.table c.calls.ensures.reads _ c.runs.ensures c.args.shape.now c.args.out.now c.args.seat.now r.free.shape r.free.sits r.free.rest r.width) in
    (call, refl, sym r.call, begun)

pub take_while-state-requires-2-clause-on : goal.take_while-state-requires-2-clause-on
take_while-state-requires-2-clause-on g c = let t = g.P.Phase.table in let k = g.P.CallPhase.drops in let u = g.U.MachineRule.rule in let r = c.requires in
    let call = take_call t u c.args.shape.now c.args.out.now c.args.seat.now in
    let begun = subst (IsTakeAt t k u call c.args.seat.now c.args.out.now) (sym r.first) (take_begins t k u c.calls.ensures.table c.calls.ensures.reads _ c.runs.ensures c.args.shape.now c.args.out.now c.args.seat.now r.free.shape r.free.sits r.free.rest r.width) in
    (call, refl, sym r.call, c.take_while-state.ensures.on call refl (sym r.call) begun)

pub take_while-state-requires-3-clause-on : goal.take_while-state-requires-3-clause-on
take_while-state-requires-3-clause-on g c = let t = g.P.Phase.table in let k = g.P.CallPhase.drops in let u = g.U.MachineRule.rule in let r = c.requires in
    let call = take_call t u c.args.shape.now c.args.out.now c.args.seat.now in
    let begun = subst (IsTakeAt t k u call c.args.seat.now c.args.out.now) (sym r.first) (take_begins t k u c.calls.ensures.table c.calls.ensures.reads _ c.runs.ensures c.args.shape.now c.args.out.now c.args.seat.now r.free.shape r.free.sits r.free.rest r.width) in
    (call, refl, sym r.call, c.take_while-state-2.ensures.on call refl (sym r.call) (c.take_while-state.ensures.on call refl (sym r.call) begun))

pub take_while-state-requires-4-clause-on : goal.take_while-state-requires-4-clause-on
take_while-state-requires-4-clause-on g c = let t = g.P.Phase.table in let k = g.P.CallPhase.drops in let u = g.U.MachineRule.rule in let r = c.requires in
    let call = take_call t u c.args.shape.now c.args.out.now c.args.seat.now in
    let begun = subst (IsTakeAt t k u call c.args.seat.now c.args.out.now) (sym r.first) (take_begins t k u c.calls.ensures.table c.calls.ensures.reads _ c.runs.ensures c.args.shape.now c.args.out.now c.args.seat.now r.free.shape r.free.sits r.free.rest r.width) in
    (call, refl, sym r.call, c.take_while-state-3.ensures.on call refl (sym r.call) (c.take_while-state-2.ensures.on call refl (sym r.call) (c.take_while-state.ensures.on call refl (sym r.call) begun)))

pub take_while-state-requires-5-clause-on : goal.take_while-state-requires-5-clause-on
take_while-state-requires-5-clause-on g c = let t = g.P.Phase.table in let k = g.P.CallPhase.drops in let u = g.U.MachineRule.rule in let r = c.requires in
    let call = take_call t u c.args.shape.now c.args.out.now c.args.seat.now in
    let begun = subst (IsTakeAt t k u call c.args.seat.now c.args.out.now) (sym r.first) (take_begins t k u c.calls.ensures.table c.calls.ensures.reads _ c.runs.ensures c.args.shape.now c.args.out.now c.args.seat.now r.free.shape r.free.sits r.free.rest r.width) in
    (call, refl, sym r.call, c.take_while-state-4.ensures.on call refl (sym r.call) (c.take_while-state-3.ensures.on call refl (sym r.call) (c.take_while-state-2.ensures.on call refl (sym r.call) (c.take_while-state.ensures.on call refl (sym r.call) begun))))

pub take_while-state-requires-6-clause-on : goal.take_while-state-requires-6-clause-on
take_while-state-requires-6-clause-on g c = let t = g.P.Phase.table in let k = g.P.CallPhase.drops in let u = g.U.MachineRule.rule in let r = c.requires in
    let call = take_call t u c.args.shape.now c.args.out.now c.args.seat.now in
    let begun = subst (IsTakeAt t k u call c.args.seat.now c.args.out.now) (sym r.first) (take_begins t k u c.calls.ensures.table c.calls.ensures.reads _ c.runs.ensures c.args.shape.now c.args.out.now c.args.seat.now r.free.shape r.free.sits r.free.rest r.width) in
    (call, refl, sym r.call, c.take_while-state-5.ensures.on call refl (sym r.call) (c.take_while-state-4.ensures.on call refl (sym r.call) (c.take_while-state-3.ensures.on call refl (sym r.call) (c.take_while-state-2.ensures.on call refl (sym r.call) (c.take_while-state.ensures.on call refl (sym r.call) begun)))))

pub loop-state-init : goal.loop-state-init
loop-state-init g c = let t = g.P.Phase.table in let k = g.P.CallPhase.drops in let u = g.U.MachineRule.rule in let r = c.requires in
    let call = take_call t u c.args.shape.now c.args.out.now c.args.seat.now in
    let begun = subst (IsTakeAt t k u call c.args.seat.now c.args.out.now) (sym r.first) (take_begins t k u c.calls.ensures.table c.calls.ensures.reads _ c.runs.ensures c.args.shape.now c.args.out.now c.args.seat.now r.free.shape r.free.sits r.free.rest r.width) in
    c.take_while-state-6.ensures.on call refl (sym r.call) (c.take_while-state-5.ensures.on call refl (sym r.call) (c.take_while-state-4.ensures.on call refl (sym r.call) (c.take_while-state-3.ensures.on call refl (sym r.call) (c.take_while-state-2.ensures.on call refl (sym r.call) (c.take_while-state.ensures.on call refl (sym r.call) begun)))))

pub take_step-state-requires-clause-at : goal.take_step-state-requires-clause-at
take_step-state-requires-clause-at g c = (take_call g.P.Phase.table g.U.MachineRule.rule c.args.shape.now c.args.out.now c.args.seat.now, refl, sym c.requires.call, take_at g.P.Phase.table g.P.CallPhase.drops g.U.MachineRule.rule _ _ _ _ _ c.in-Next.is c.loop-state.invariant)
