-- What a run leaves, by where it ended.
use Rattle.std.proofs.Common.{◌≡◌, ℕ, refl, sym, subst, inl, inr}
use Rattle.std.specs.Prelude.{List, [], Option, Some, None, ◌⊎◌, Ok, Err, Result}
use Rattle.flow_io.specs.Clock.{Ticks}
use Rattle.flow_io.specs.Flow.{Files, Rose}
use Rattle.word_text.specs.Counts.{counts_of_all, counts_text_of}
use Rattle.profile_cli.specs.declared.ending.Ending.{Ending}
use Rattle.profile_cli.specs.declared.ending.Ending.TheVariants.{Done, Refused, OutOfMemory, Unread, CountsUnwritten, TooLarge, TooMuch, TooManyPieces, TraceUnwritten}
use Rattle.command_words.specs.declared.refusal.Refusal.{Refusal}
use Rattle.profile_cli.specs.Endings.{detail_of, ending_without, status_of}
use Rattle.command_words.specs.Refusals.{IfRefused}
use Rattle.command_words.specs.declared.refusal.ReadError.{ReadError}
use Rattle.command_words.specs.declared.refusal.ReadError.TheVariants as error
use Rattle.profile_cli.specs.Messages.{Messages, Says}
use Rattle.profile_cli.specs.Input.{CanRun, Input, IsDue, IsInput, StopsReading, input_of, names_of, origins_of}
use Rattle.profile_cli.specs.Input.IsDue.{done}
use Rattle.profile_cli.specs.Queue.{ClosedQueue, IsQueueOf}
use Rattle.profile_cli.specs.Run.{Closes, Ends, IsStopped, Leaves, Reported, SourceFaults, names_by}
use Rattle.command_words.specs.Usage.{Asked}
use Rattle.profile_cli.specs.Written.{OutFaults, Outputs, StoreFaults, Writes, documents_of}
use Rattle.profile_cli.proofs.Due.{due_once}
use Rattle.profile_cli.proofs.Held.{some_input}

module _ (piece : ℕ) (input : Input) (rose : Type 0) where
  also_stopped : (ending : Ending) → StopsReading input rose ending → IsStopped piece input rose ending
  also_stopped CountsUnwritten s = absurd s
  also_stopped TraceUnwritten s = absurd s
  also_stopped ending s = s

  -- what the input asks for comes about, or the run was stopped
  due_or_stopped : (ending due : Ending) → IsDue piece input ending ⊎ IsStopped piece input rose ending → IsDue piece input due → (ending ≡ due) ⊎ IsStopped piece input rose ending
  due_or_stopped ending due (inl is) asks = inl (due_once input is asks)
  due_or_stopped ending due (inr stopped) asks = inr stopped

out_same : (ending : Ending) (n : ℕ) → Closes ending None → OutFaults ending n n
out_same CountsUnwritten n c = cc
out_same ending n c = refl

store_same : (ending : Ending) (n : ℕ) → Closes ending None → StoreFaults ending n n
store_same TraceUnwritten n c = cc
store_same ending n c = refl

-- a run that ended before it closed a queue
pub left_before : (asked : Asked) (files : Option Files) (clock : ℕ → Option Ticks) (before after : ℕ) (outputs : Outputs) (ending : Ending)
    → Closes ending None → SourceFaults ending before after
    → (texts : List (List ℕ)) × (IsInput (input_of (origins_of asked) files texts) × (IsDue asked.piece (input_of (origins_of asked) files texts) ending ⊎ StopsReading (input_of (origins_of asked) files texts) (Rose before after) ending))
    → Leaves (Ok asked) files (record { queue = None; clock = clock; faults_before = before; faults_after = after; before = outputs; after = outputs }) ending
left_before asked files clock before after outputs ending closes faults left =
    let input = input_of (origins_of asked) files left.0 in
    let cause : IsDue asked.piece input ending ⊎ IsStopped asked.piece input (Rose before after) ending =
    elim left.1.1 [ inl due ↦ inl due | inr stopped ↦ inr (also_stopped asked.piece input (Rose before after) ending stopped) ] in (
      left.0,
      left.1.0,
      record {
        cause = cause;
        complete = λ due asks. due_or_stopped asked.piece input (Rose before after) ending due cause asks;
        source = faults;
        out = out_same ending outputs.out_faults closes;
        store = store_same ending outputs.store_faults closes;
        closes = closes;
        queue = tt;
        written = record { out = refl; documents = refl };
      },
    )

-- words that gave no options: nothing was read and nothing written
pub left_without : (error : ReadError) (usage : Result Asked Refusal) (files : Option Files) (clock : ℕ → Option Ticks) (faults : ℕ) (outputs : Outputs)
    → IfRefused error (λ refusal. usage ≡ Err refusal)
    → Leaves usage files (record { queue = None; clock = clock; faults_before = faults; faults_after = faults; before = outputs; after = outputs }) (ending_without error)
left_without (error.Refused refusal) usage files clock faults outputs refused =
    subst (λ (u : Result Asked Refusal). Leaves u files (record { queue = None; clock = clock; faults_before = faults; faults_after = faults; before = outputs; after = outputs }) (Refused refusal)) (sym refused)
    (record { cause = inl refl; source = refl; closes = refl; outputs = refl })
left_without error.Memory (Err refusal) files clock faults outputs none = record { cause = inr refl; source = refl; closes = refl; outputs = refl }
left_without error.Memory (Ok asked) files clock faults outputs none =
    let some = some_input (origins_of asked) files in
    left_before asked files clock faults faults outputs OutOfMemory tt refl (some.0, (some.1, inr tt))

-- their message names no text
pub says_without : (error : ReadError) (usage : Result Asked Refusal) (before after : Messages) → Says [] (ending_without error) before after → Says (names_by usage) (ending_without error) before after
says_without (error.Refused refusal) usage before after says = says
says_without error.Memory usage before after says = says

module _ (piece : ℕ) (input : Input) (rose : Type 0) (counts : List ℕ) (asks : Files) (before after : Outputs) where
  cause_behind : (ending : Ending) → CanRun input piece → Writes counts asks before after ending → IsDue piece input ending ⊎ IsStopped piece input rose ending
  cause_behind Done can w = inl (done can)
  cause_behind OutOfMemory can w = inr tt
  cause_behind CountsUnwritten can w = inr can
  cause_behind TraceUnwritten can w = inr can
  cause_behind (Refused refusal) can w = absurd w
  cause_behind (Unread n) can w = absurd w
  cause_behind (TooLarge n) can w = absurd w
  cause_behind TooMuch can w = absurd w
  cause_behind TooManyPieces can w = absurd w

  closes_behind : (ending : Ending) (queue : ClosedQueue) → Writes counts asks before after ending → Closes ending (Some queue)
  closes_behind Done queue w = refl
  closes_behind OutOfMemory queue w = tt
  closes_behind CountsUnwritten queue w = refl
  closes_behind TraceUnwritten queue w = refl
  closes_behind (Refused refusal) queue w = absurd w
  closes_behind (Unread n) queue w = absurd w
  closes_behind (TooLarge n) queue w = absurd w
  closes_behind TooMuch queue w = absurd w
  closes_behind TooManyPieces queue w = absurd w

  source_behind : (ending : Ending) (old new : ℕ) → new ≡ old → Writes counts asks before after ending → SourceFaults ending old new
  source_behind (Unread n) old new e w = absurd w
  source_behind ending old new e w = e

-- a run that closed its queue, and then wrote what it could
pub left_behind : (asked : Asked) (files : Option Files) (clock : ℕ → Option Ticks) (texts : List (List ℕ)) (old new : ℕ) (before after : Outputs) (ending : Ending) (queue : ClosedQueue)
    → new ≡ old → IsInput (input_of (origins_of asked) files texts) × CanRun (input_of (origins_of asked) files texts) asked.piece
    → IsQueueOf asked texts clock queue
    → OutFaults ending before.out_faults after.out_faults → StoreFaults ending before.store_faults after.store_faults
    → Writes (counts_text_of (counts_of_all texts)) (documents_of asked (names_of asked) queue) before after ending
    → Leaves (Ok asked) files (record { queue = Some queue; clock = clock; faults_before = old; faults_after = new; before = before; after = after }) ending
left_behind asked files clock texts old new before after ending queue same input is_queue out store w =
    let text = counts_text_of (counts_of_all texts) in
    let asks = documents_of asked (names_of asked) queue in
    let whole = input_of (origins_of asked) files texts in
    let cause = cause_behind asked.piece whole (Rose old new) text asks before after ending input.1 w in (
      texts,
      input.0,
      record {
        cause = cause;
        complete = λ due asks. due_or_stopped asked.piece whole (Rose old new) ending due cause asks;
        source = source_behind asked.piece whole (Rose old new) text asks before after ending old new same w;
        out = out;
        store = store;
        closes = closes_behind asked.piece whole (Rose old new) text asks before after ending queue w;
        queue = is_queue;
        written = w;
      },
    )

-- what the command leaves, by its report
pub reported : (usage is : Result Asked Refusal) (files : Option Files) (report : Reported) (said : Messages × Messages) (queue was : Option ClosedQueue) (clock : ℕ → Option Ticks) (old new : ℕ) (before after : Outputs) (ending : Ending)
    → usage ≡ is → queue ≡ was → report.status ≡ status_of ending → report.detail ≡ detail_of ending → Says (names_by is) ending said.0 said.1
    → Leaves is files (record { queue = was; clock = clock; faults_before = old; faults_after = new; before = before; after = after }) ending
    → Ends usage files report said (record { queue = queue; clock = clock; faults_before = old; faults_after = new; before = before; after = after })
reported usage is files report said queue was clock old new before after ending asks closed status detail message left =
    subst (λ (u : Result Asked Refusal). Ends u files report said (record { queue = queue; clock = clock; faults_before = old; faults_after = new; before = before; after = after })) (sym asks)
    (record {
      ending = ending;
      status = status;
      detail = detail;
      message = message;
      left = subst (λ (q : Option ClosedQueue). Leaves is files (record { queue = q; clock = clock; faults_before = old; faults_after = new; before = before; after = after }) ending) (sym closed) left;
    })
