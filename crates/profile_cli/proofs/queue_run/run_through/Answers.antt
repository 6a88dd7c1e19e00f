use Rattle.std.proofs.Common.{◌≡◌, List, [], true, map, length, ◌<◌, ◌^◌, sym, subst, ap, ◌∙◌, arith}
use Rattle.std.specs.Prelude.{flat_map, IsPermutation}
use Rattle.std.specs.List.{All}
use Rattle.cursor_word.specs.Shape.{Grid, IsWithinLimits}
use Rattle.rail.specs.declared.entry.Placed.{Placed}
use Rattle.span_recorder.specs.Events.{events_of}
use Rattle.std.proofs.lemmas.List.Sorted.{IsPermutation-refl}
use Rattle.rail.specs.Batch.{Gathered}
use Rattle.word_text.specs.declared.plan.Piece.{Piece}
use Rattle.word_workers.specs.Spans.{AllLieIn, plan_words}
use Rattle.word_workers.specs.Trace.{IsSpanOfSome, NamesText, RunTrace}
use Rattle.word_text.proofs.Cuts.{plan_inside}
use Rattle.word_workers.proofs.Plans.{plan_words-le}
use Rattle.word_workers.proofs.Traces.{trace_of_run}
use Rattle.profile_cli.proofs.Listed.{all_listed, enough, files_there, gathered_apart, gathered_listed, none_taken, outcome, seats_asked, shape_within, spans_below, spelled}
use Rattle.profile_cli.proofs.Planned.{counts_of_plan}
use Rattle.profile_cli.proofs.queue_run.run_through.Goals as goal

pub run_all-requires-clause-inside : goal.run_all-requires-clause-inside
run_all-requires-clause-inside g c κs within =
    subst (AllLieIn c.args.texts.now) (sym c.requires.plan) (plan_inside c.args.texts.now c.args.options.now.piece c.requires.limits.some_piece)

pub run_all-requires-clause-words : goal.run_all-requires-clause-words
run_all-requires-clause-words g c κs within =
    let few = plan_words-le c.args.texts.now c.args.options.now.piece c.requires.limits.some_piece in
    subst (λ (plan : List Piece). length (plan_words plan c.args.texts.now) < 2 ^ 63) (sym c.requires.plan) (omega (arith, few, c.requires.size))

pub run_all-requires-clause-seats : goal.run_all-requires-clause-seats
run_all-requires-clause-seats g c κs within =
    seats_asked g.Q.Rail.number_of c.args.seats.items g.Q.Rail.MOST_SEATS c.args.options.now.workers _ c.requires.numbers (ap (λ (s : Grid). s.seats) c.requires.shape)

pub close-requires-clause-all : goal.close-requires-clause-all
close-requires-clause-all g c =
    let same = c.in_ok-work.ensures.numbers ∙ c.requires.numbers in
    subst (IsPermutation (map g.Q.Rail.number_of c.in_ok-work.work.seats.items)) same (IsPermutation-refl _)

pub gather-requires : goal.gather-requires
gather-requires g c =
    let done = c.in-Ok.ensures in
    let batches = subst (λ (bs : List Gathered). IsPermutation (flat_map (λ (b : Gathered). b.items) bs) (flat_map g.Q.Rail.taken c.in_ok-work.work.seats.items)) (sym c.as_slice.ensures.value) c.in_ok-work.ensures.batches in
    let none : g.Q.Rail.DROPS ≡ true → flat_map g.Q.Rail.taken c.in_ok-work.work.seats.items ≡ [] = λ drops. none_taken g.Q.Rail.taken _ (c.in_ok-work.ensures.drops drops) in
    record { apart = gathered_apart _ _ _ _ _ _ _ _ done.accepted batches done.taken c.left.ensures g.Q.Rail.DROPS done.retry done.drop none }

pub decoded-requires : goal.decoded-requires
decoded-requires g c =
    let done = c.in-Ok.ensures in
    let batches = subst (λ (bs : List Gathered). IsPermutation (flat_map (λ (b : Gathered). b.items) bs) (flat_map g.Q.Rail.taken c.in_ok-work.work.seats.items)) (sym c.as_slice.ensures.value) c.in_ok-work.ensures.batches in
    let none : g.Q.Rail.DROPS ≡ true → flat_map g.Q.Rail.taken c.in_ok-work.work.seats.items ≡ [] = λ drops. none_taken g.Q.Rail.taken _ (c.in_ok-work.ensures.drops drops) in
    let same = gathered_listed _ _ _ _ _ _ _ _ done.accepted batches done.taken c.left.ensures g.Q.Rail.DROPS done.retry done.drop none _ c.in_ok-list.ensures.order c.in_ok-list.ensures.all in
    let spans : Placed → Type 0 = λ i. IsSpanOfSome c.args.options.now.workers i.words in
    spans_below c.args.options.now.workers _ c.requires.limits.most_workers
    (subst (All spans) (sym same) (all_listed _ _ _ _ _ _ _ _ done.accepted batches done.taken c.left.ensures g.Q.Rail.DROPS done.retry done.drop none spans c.in_ok-work.ensures.makes.all_spans))

pub returns-clause-counts : goal.returns-clause-counts
returns-clause-counts g c =
    counts_of_plan c.args.plan.now c.args.texts.now c.args.options.now.piece _ c.requires.limits.some_piece c.requires.plan c.in_ok-work.ensures.counts

pub returns-clause-queue : goal.returns-clause-queue
returns-clause-queue g c =
    let done = c.in-Ok.ensures in
    let batches = subst (λ (bs : List Gathered). IsPermutation (flat_map (λ (b : Gathered). b.items) bs) (flat_map g.Q.Rail.taken c.in_ok-work.work.seats.items)) (sym c.as_slice.ensures.value) c.in_ok-work.ensures.batches in
    let none : g.Q.Rail.DROPS ≡ true → flat_map g.Q.Rail.taken c.in_ok-work.work.seats.items ≡ [] = λ drops. none_taken g.Q.Rail.taken _ (c.in_ok-work.ensures.drops drops) in
    let run = trace_of_run _ _ _ _ _ _ _ c.in_ok-work.ensures.makes done.accepted in
    let shape = done.shape ∙ c.requires.shape in
    record {
      mode = sym c.requires.mode;
      shape = shape;
      order = done.accepted.no_gap;
      outcome = outcome _ _ _ _ _ _ _ _ done.accepted batches done.taken c.left.ensures g.Q.Rail.DROPS done.retry done.drop none;
      enough = enough _ _ _ _ _ _ _ _ done.accepted batches done.taken c.left.ensures g.Q.Rail.DROPS done.retry done.drop none (subst IsWithinLimits (sym shape) (shape_within c.args.options.now g.Q.Rail.MOST_SEATS c.requires.limits));
      run = subst (λ (plan : List Piece). RunTrace (g.Q.Rail.done_accepted c.in-Ok.done) c.args.options.now.workers plan c.args.texts.now (g.C.Clock.ticks c.args.clock.now)) c.requires.plan run;
    }

pub returns-clause-events : goal.returns-clause-events
returns-clause-events g c =
    let done = c.in-Ok.ensures in
    let batches = subst (λ (bs : List Gathered). IsPermutation (flat_map (λ (b : Gathered). b.items) bs) (flat_map g.Q.Rail.taken c.in_ok-work.work.seats.items)) (sym c.as_slice.ensures.value) c.in_ok-work.ensures.batches in
    let none : g.Q.Rail.DROPS ≡ true → flat_map g.Q.Rail.taken c.in_ok-work.work.seats.items ≡ [] = λ drops. none_taken g.Q.Rail.taken _ (c.in_ok-work.ensures.drops drops) in
    let same = gathered_listed _ _ _ _ _ _ _ _ done.accepted batches done.taken c.left.ensures g.Q.Rail.DROPS done.retry done.drop none _ c.in_ok-list.ensures.order c.in_ok-list.ensures.all in
    spelled _ _ c.in_ok-events.ensures ∙ ap events_of same

pub returns-clause-files : goal.returns-clause-files
returns-clause-files g c =
    let done = c.in-Ok.ensures in
    let batches = subst (λ (bs : List Gathered). IsPermutation (flat_map (λ (b : Gathered). b.items) bs) (flat_map g.Q.Rail.taken c.in_ok-work.work.seats.items)) (sym c.as_slice.ensures.value) c.in_ok-work.ensures.batches in
    let none : g.Q.Rail.DROPS ≡ true → flat_map g.Q.Rail.taken c.in_ok-work.work.seats.items ≡ [] = λ drops. none_taken g.Q.Rail.taken _ (c.in_ok-work.ensures.drops drops) in
    let same = gathered_listed _ _ _ _ _ _ _ _ done.accepted batches done.taken c.left.ensures g.Q.Rail.DROPS done.retry done.drop none _ c.in_ok-list.ensures.order c.in_ok-list.ensures.all in
    let named : Placed → Type 0 = λ i. NamesText (length c.args.texts.now) i.words in
    files_there _ _ _ (subst (All named) (sym same) (all_listed _ _ _ _ _ _ _ _ done.accepted batches done.taken c.left.ensures g.Q.Rail.DROPS done.retry done.drop none named c.in_ok-work.ensures.files)) c.in_ok-events.ensures
