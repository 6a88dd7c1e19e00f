use Rattle.std.specs.Prelude.{Option, None}
use Rattle.flow_io.specs.Clock.{Ticks}
use Rattle.flow_io.specs.Flow.{documents}
use Rattle.std.proofs.Common.{◌∙◌, List, [], ℕ, ap, refl, subst, sym}
use Rattle.command_words.specs.Texts.{bytes_of}
use Rattle.command_words.specs.Usage.{usage}
use Rattle.profile_cli.specs.Messages.{Messages, Says}
use Rattle.profile_cli.specs.Queue.{queue_of, seen}
use Rattle.profile_cli.specs.Run.{Leaves, Run, names_by}
use Rattle.profile_cli.specs.Written.{Outputs}
use Rattle.profile_cli.specs.declared.ending.Ending.{Ending}
use Rattle.profile_cli.proofs.Left.{left_without, reported, says_without}
use Rattle.profile_cli.proofs.profiling.profile.Goals as goal

pub returns-in-Ok-clause-leaves : goal.returns-in-Ok-clause-leaves
returns-in-Ok-clause-leaves g c =
    let r = g.R.Retry.Rail in
    let d = g.R.DropOld.Rail in
    let m = g.M.Sink in
    let before : Messages = record { told = m.told c.args.messages.now; faults = m.faults c.args.messages.now } in
    let after : Messages = record { told = m.told c.say_ending.new.messages; faults = m.faults c.say_ending.new.messages } in
    reported _ _ _ _ _ _ _ _ _ _ _ _ c.carry_out-ending.result.ending c.in-Ok.ensures.usage
    (ap (queue_of (seen r.MOST_SEATS r.done_shape r.done_accepted r.done_taken r.done_left) (seen d.MOST_SEATS d.done_shape d.done_accepted d.done_taken d.done_left)) c.report.ensures.closed) c.report.ensures.status c.report.ensures.detail
    (subst (λ (names : List (List ℕ)). Says names c.carry_out-ending.result.ending before after) (ap bytes_of c.as_slice.ensures.value ∙ c.in-Ok.ensures.names) c.say_ending.ensures.says)
    c.carry_out-ending.ensures.leaves

pub returns-in-Err-clause-leaves : goal.returns-in-Err-clause-leaves
returns-in-Err-clause-leaves g c =
    let r = g.R.Retry.Rail in
    let d = g.R.DropOld.Rail in
    let m = g.M.Sink in
    let asked = usage (bytes_of c.args.words.now) in
    let error = c.in-Err.error in
    let same = c.without_options-ending.ensures in
    let clock : ℕ → Option Ticks = g.C.Clock.ticks c.args.clock.now in
    let faults : ℕ = g.F.Source.faults c.args.files.now in
    let outputs : Outputs = record { out = g.O.Sink.told c.args.out.now; out_faults = g.O.Sink.faults c.args.out.now; documents = documents (g.T.Sink.told c.args.trace.now) (g.T.Sink.beside c.args.trace.now); store_faults = g.T.Sink.faults c.args.trace.now } in
    let run : Run = record { queue = None; clock = clock; faults_before = faults; faults_after = faults; before = outputs; after = outputs } in
    let before : Messages = record { told = m.told c.args.messages.now; faults = m.faults c.args.messages.now } in
    let after : Messages = record { told = m.told c.say_ending-in-Err.new.messages; faults = m.faults c.say_ending-in-Err.new.messages } in
    reported asked asked _ _ _ _ _ _ _ _ _ _ c.without_options-ending.result refl
    (ap (queue_of (seen r.MOST_SEATS r.done_shape r.done_accepted r.done_taken r.done_left) (seen d.MOST_SEATS d.done_shape d.done_accepted d.done_taken d.done_left)) c.report-in-Err.ensures.closed) c.report-in-Err.ensures.status c.report-in-Err.ensures.detail
    (subst (λ (e : Ending). Says (names_by asked) e before after) (sym same) (says_without error asked before after (subst (λ (e : Ending). Says [] e before after) same c.say_ending-in-Err.ensures.says)))
    (subst (λ (e : Ending). Leaves asked (g.F.Source.files c.args.files.now) run e) (sym same) (left_without error asked (g.F.Source.files c.args.files.now) clock faults outputs c.in-Err.ensures.usage))
