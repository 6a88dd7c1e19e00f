use Rattle.std.proofs.Common.{◌≡◌, ◌<◌, sym, subst}
use Rattle.std.specs.Prelude.{OnErr, OnOk, slice_set}
use Rattle.cursor_word.specs.Cursor.{most_puts}
use Rattle.machine.specs.declared.event.Event.{Event}
use Rattle.machine.specs.Steps.{MachineState, Suits, step, view_of}
use Rattle.machine.specs.Invariant.{made_count}
use Rattle.machine.proofs.Kept.{kept_after, ready_at_turn, refused_same, seat_is, state_of, turn_is_step, view_is}
use Rattle.machine.proofs.state.State.step.Goals as goal

pub turn-requires-clause-ready : goal.turn-requires-clause-ready
turn-requires-clause-ready g c =
    let i = c.self.inside in
    let e : Event = c.args.event.now in
    let suits : Suits g.P.Phase.table i.shape e = subst (λ s. Suits g.P.Phase.table s.shape e) (sym c.self.view_is) c.requires.suits in
    ready_at_turn g.P.Phase.table g.P.Phase.Holds c.keeps.ensures i.shape i.words.items i.seats.items e.seat c.index_mut-seat.result.now e.start c.self.invariant
    (seat_is g.P.Phase.Holds i.shape i.words.items i.seats.items e.seat c.index_mut-seat.result.now c.self.invariant suits.seat c.index_mut-seat.ensures.value) suits.wide suits.may_begin

pub turn-requires-clause-all : goal.turn-requires-clause-all
turn-requires-clause-all g c = c.self.invariant.long

pub invariant_of-self : goal.invariant_of-self
invariant_of-self g c =
    let i = c.self.inside in
    let e : Event = c.args.event.now in
    let suits : Suits g.P.Phase.table i.shape e = subst (λ s. Suits g.P.Phase.table s.shape e) (sym c.self.view_is) c.requires.suits in
    let at = seat_is g.P.Phase.Holds i.shape i.words.items i.seats.items e.seat c.index_mut-seat.result.now c.self.invariant suits.seat c.index_mut-seat.ensures.value in
    let room = subst (λ s. made_count (view_of s e.seat) < most_puts s.shape) (sym c.self.view_is) c.requires.room in
    kept_after g.P.Phase.table g.P.Phase.Holds c.keeps.ensures i.shape i.words.items c.turn.new.words.items i.seats.items e.seat c.index_mut-seat.result.now c.turn.new.seat e.start c.turn.result c.self.invariant at suits.wide suits.may_begin
    (subst (λ u. made_count u < most_puts i.shape) (view_is (state_of i.shape i.words.items i.seats.items) e.seat c.index_mut-seat.result.now at) room) c.turn.ensures.ok c.turn.ensures.err

pub returns-clause-step : goal.returns-clause-step
returns-clause-step g c =
    let i = c.self.inside in
    let e : Event = c.args.event.now in
    let suits : Suits g.P.Phase.table i.shape e = subst (λ s. Suits g.P.Phase.table s.shape e) (sym c.self.view_is) c.requires.suits in
    let at = seat_is g.P.Phase.Holds i.shape i.words.items i.seats.items e.seat c.index_mut-seat.result.now c.self.invariant suits.seat c.index_mut-seat.ensures.value in
    subst (λ s. OnOk c.turn.result (◌≡◌ {A = MachineState _} record { words = c.turn.new.words.items; views = slice_set i.seats.items e.seat c.turn.new.seat } (step g.P.Phase.table s.shape s.state e))) c.self.view_is
    (turn_is_step g.P.Phase.table i.shape i.words.items c.turn.new.words.items i.seats.items e c.index_mut-seat.result.now c.turn.new.seat c.turn.result at c.turn.ensures.ok)

pub returns-clause-refused : goal.returns-clause-refused
returns-clause-refused g c =
    let i = c.self.inside in
    let e : Event = c.args.event.now in
    let suits : Suits g.P.Phase.table i.shape e = subst (λ s. Suits g.P.Phase.table s.shape e) (sym c.self.view_is) c.requires.suits in
    let at = seat_is g.P.Phase.Holds i.shape i.words.items i.seats.items e.seat c.index_mut-seat.result.now c.self.invariant suits.seat c.index_mut-seat.ensures.value in
    subst (λ s. OnErr c.turn.result (state_of i.shape c.turn.new.words.items (slice_set i.seats.items e.seat c.turn.new.seat) ≡ s)) c.self.view_is
    (refused_same i.shape i.words.items c.turn.new.words.items i.seats.items e.seat c.index_mut-seat.result.now c.turn.new.seat c.turn.result at c.turn.ensures.err)
