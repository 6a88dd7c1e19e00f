use Rattle.std.proofs.Common.{refl, sym, subst}
use Rattle.call_steps.specs.Midway.{IsPutAt, put_call}
use Rattle.call_steps.proofs.Loop.{put_at, put_begins}
use Rattle.call_steps.proofs.calls.run_put.Goals as goal

pub put_while-state-requires-clause-on : goal.put_while-state-requires-clause-on
put_while-state-requires-clause-on g c = let t = g.P.Phase.table in let k = g.P.CallPhase.drops in let u = g.U.MachineRule.rule in let r = c.requires in
    let call = put_call t c.args.shape.now c.args.entry.now c.args.seat.now in
    let begun = subst (IsPutAt t k u call c.args.seat.now) (sym c.first_put.ensures) (put_begins t k u c.calls.ensures.table c.calls.ensures.reads _ c.runs.ensures c.args.shape.now c.args.entry.now c.args.seat.now r.free.shape r.free.sits r.free.rest r.width r.room) in
    (call, refl, refl, sym r.call, begun)

pub put_while-state-requires-2-clause-on : goal.put_while-state-requires-2-clause-on
put_while-state-requires-2-clause-on g c = let t = g.P.Phase.table in let k = g.P.CallPhase.drops in let u = g.U.MachineRule.rule in let r = c.requires in
    let call = put_call t c.args.shape.now c.args.entry.now c.args.seat.now in
    let begun = subst (IsPutAt t k u call c.args.seat.now) (sym c.first_put.ensures) (put_begins t k u c.calls.ensures.table c.calls.ensures.reads _ c.runs.ensures c.args.shape.now c.args.entry.now c.args.seat.now r.free.shape r.free.sits r.free.rest r.width r.room) in
    (call, refl, refl, sym r.call, c.put_while-state.ensures.on call refl refl (sym r.call) begun)

pub put_while-state-requires-3-clause-on : goal.put_while-state-requires-3-clause-on
put_while-state-requires-3-clause-on g c = let t = g.P.Phase.table in let k = g.P.CallPhase.drops in let u = g.U.MachineRule.rule in let r = c.requires in
    let call = put_call t c.args.shape.now c.args.entry.now c.args.seat.now in
    let begun = subst (IsPutAt t k u call c.args.seat.now) (sym c.first_put.ensures) (put_begins t k u c.calls.ensures.table c.calls.ensures.reads _ c.runs.ensures c.args.shape.now c.args.entry.now c.args.seat.now r.free.shape r.free.sits r.free.rest r.width r.room) in
    (call, refl, refl, sym r.call, c.put_while-state-2.ensures.on call refl refl (sym r.call) (c.put_while-state.ensures.on call refl refl (sym r.call) begun))

pub put_while-state-requires-4-clause-on : goal.put_while-state-requires-4-clause-on
put_while-state-requires-4-clause-on g c = let t = g.P.Phase.table in let k = g.P.CallPhase.drops in let u = g.U.MachineRule.rule in let r = c.requires in
    let call = put_call t c.args.shape.now c.args.entry.now c.args.seat.now in
    let begun = subst (IsPutAt t k u call c.args.seat.now) (sym c.first_put.ensures) (put_begins t k u c.calls.ensures.table c.calls.ensures.reads _ c.runs.ensures c.args.shape.now c.args.entry.now c.args.seat.now r.free.shape r.free.sits r.free.rest r.width r.room) in
    (call, refl, refl, sym r.call, c.put_while-state-3.ensures.on call refl refl (sym r.call) (c.put_while-state-2.ensures.on call refl refl (sym r.call) (c.put_while-state.ensures.on call refl refl (sym r.call) begun)))

pub put_while-state-requires-5-clause-on : goal.put_while-state-requires-5-clause-on
put_while-state-requires-5-clause-on g c = let t = g.P.Phase.table in let k = g.P.CallPhase.drops in let u = g.U.MachineRule.rule in let r = c.requires in
    let call = put_call t c.args.shape.now c.args.entry.now c.args.seat.now in
    let begun = subst (IsPutAt t k u call c.args.seat.now) (sym c.first_put.ensures) (put_begins t k u c.calls.ensures.table c.calls.ensures.reads _ c.runs.ensures c.args.shape.now c.args.entry.now c.args.seat.now r.free.shape r.free.sits r.free.rest r.width r.room) in
    (call, refl, refl, sym r.call, c.put_while-state-4.ensures.on call refl refl (sym r.call) (c.put_while-state-3.ensures.on call refl refl (sym r.call) (c.put_while-state-2.ensures.on call refl refl (sym r.call) (c.put_while-state.ensures.on call refl refl (sym r.call) begun))))

pub loop-state-init : goal.loop-state-init
loop-state-init g c = let t = g.P.Phase.table in let k = g.P.CallPhase.drops in let u = g.U.MachineRule.rule in let r = c.requires in
    let call = put_call t c.args.shape.now c.args.entry.now c.args.seat.now in
    let begun = subst (IsPutAt t k u call c.args.seat.now) (sym c.first_put.ensures) (put_begins t k u c.calls.ensures.table c.calls.ensures.reads _ c.runs.ensures c.args.shape.now c.args.entry.now c.args.seat.now r.free.shape r.free.sits r.free.rest r.width r.room) in
    c.put_while-state-5.ensures.on call refl refl (sym r.call) (c.put_while-state-4.ensures.on call refl refl (sym r.call) (c.put_while-state-3.ensures.on call refl refl (sym r.call) (c.put_while-state-2.ensures.on call refl refl (sym r.call) (c.put_while-state.ensures.on call refl refl (sym r.call) begun))))

pub put_step-state-requires-clause-at : goal.put_step-state-requires-clause-at
put_step-state-requires-clause-at g c = (put_call g.P.Phase.table c.args.shape.now c.args.entry.now c.args.seat.now, refl, refl, sym c.requires.call, put_at g.P.Phase.table g.P.CallPhase.drops g.U.MachineRule.rule _ _ _ _ c.in-Next.is c.loop-state.invariant)
