-- What a run of the command leaves.
use Rattle.std.specs.Prelude.{◌≡◌, ℕ, ◌≤◌, ◌⊎◌, List, [], Option, None, Some, IsSome, IfSome, Result, Ok, Err}
use Rattle.flow_io.specs.Clock.{Ticks}
use Rattle.flow_io.specs.Flow.{Files, Rose}
use Rattle.word_text.specs.Counts.{counts_of_all, counts_text_of}
use Rattle.profile_cli.specs.declared.ending.Ending.{Ending}
use Rattle.profile_cli.specs.declared.ending.Ending.TheVariants.{Done, Refused, OutOfMemory, Unread, CountsUnwritten, TraceUnwritten}
use Rattle.command_words.specs.declared.refusal.Refusal.{Refusal}
use Rattle.profile_cli.specs.Endings.{detail_of, status_of}
use Rattle.profile_cli.specs.Input.{CanRun, Input, IsDue, IsInput, StopsReading, input_of, names_of, origins_of}
use Rattle.profile_cli.specs.Messages.{Messages, Says}
use Rattle.profile_cli.specs.Queue.{ClosedQueue, IsQueueOf}
use Rattle.command_words.specs.Usage.{Asked}
use Rattle.profile_cli.specs.Written.{IsKept, OutFaults, Outputs, StoreFaults, Writes, documents_of}

-- the queue that was closed, if any, what the clock tells, and the source's count of faults, the
-- output and the trace store before and after
pub record Run : Type 0 where
  pub queue : Option ClosedQueue
  pub clock : ℕ → Option Ticks
  pub faults_before : ℕ
  pub faults_after : ℕ
  pub before : Outputs
  pub after : Outputs

-- the source's count of faults rises only where a text can't be read
abbrev pub SourceFaults : Ending → ℕ → ℕ → Type 0
SourceFaults (Unread n) before now = before ≤ now
SourceFaults other before now = now ≡ before

-- what stops a run before the ending that its input asks for: want of memory, or a count of faults
-- that rose
abbrev pub IsStopped : ℕ → Input → Type 0 → Ending → Type 0
IsStopped piece input rose CountsUnwritten = CanRun input piece
IsStopped piece input rose TraceUnwritten = CanRun input piece
IsStopped piece input rose ending = StopsReading input rose ending

-- where the run was done, its queue was closed, and where there was none, no queue was
abbrev pub Closes : Ending → Option ClosedQueue → Type 0
Closes Done queue = IsSome queue
Closes CountsUnwritten queue = IsSome queue
Closes TraceUnwritten queue = IsSome queue
Closes OutOfMemory queue = Unit {0}
Closes other queue = queue ≡ None

-- what is written behind the run of a queue: nothing where none was closed
abbrev pub RunWrites : Asked → Input → Outputs → Outputs → Ending → Option ClosedQueue → Type 0
RunWrites asked input before after ending None = IsKept before after
RunWrites asked input before after ending (Some queue) =
    Writes (counts_text_of (counts_of_all input.texts)) (documents_of asked (names_of asked) queue)
    before after ending

-- what a run of this input leaves that ended so
pub record RunLeaves (asked : Asked) (input : Input) (run : Run) (ending : Ending) : Type 0 where
  -- it ended as the input asks, or was stopped before; and whatever the input asks for came about,
  -- or the run was stopped before
  pub cause : IsDue asked.piece input ending
      ⊎ IsStopped asked.piece input (Rose run.faults_before run.faults_after) ending
  pub complete : (due : Ending) → IsDue asked.piece input due → (ending ≡ due)
      ⊎ IsStopped asked.piece input (Rose run.faults_before run.faults_after) ending
  -- no fault is passed over
  pub source : SourceFaults ending run.faults_before run.faults_after
  pub out : OutFaults ending run.before.out_faults run.after.out_faults
  pub store : StoreFaults ending run.before.store_faults run.after.store_faults
  -- the queue, and what is written
  pub closes : Closes ending run.queue
  pub queue : IfSome run.queue (IsQueueOf asked input.texts run.clock)
  pub written : RunWrites asked input run.before run.after ending run.queue

-- what the words' refusal leaves
pub record RefusalLeaves (refusal : Refusal) (run : Run) (ending : Ending) : Type 0 where
  pub cause : (ending ≡ Refused refusal) ⊎ (ending ≡ OutOfMemory)
  pub source : run.faults_after ≡ run.faults_before
  pub closes : run.queue ≡ None
  pub outputs : run.after ≡ run.before

-- what the command leaves, by what its words ask: of some texts, one of each origin that is asked
abbrev pub Leaves : Result Asked Refusal → Option Files → Run → Ending → Type 0
Leaves (Ok asked) files run ending =
    (texts : List (List ℕ)) × IsInput (input_of (origins_of asked) files texts)
    × RunLeaves asked (input_of (origins_of asked) files texts) run ending
Leaves (Err refusal) files run ending = RefusalLeaves refusal run ending

-- the names of the texts, where the words aren't refused
abbrev pub names_by : Result Asked Refusal → List (List ℕ)
names_by (Ok asked) = names_of asked
names_by (Err refusal) = []

-- what the command reports
pub record Reported : Type 0 where
  pub status : ℕ
  pub detail : ℕ

-- it ended so that this is its report, this was said, and this is left
pub record Ends (usage : Result Asked Refusal) (files : Option Files) (report : Reported)
    (said : Messages × Messages) (run : Run) : Type 0 where
  pub ending : Ending
  pub status : report.status ≡ status_of ending
  pub detail : report.detail ≡ detail_of ending
  pub message : Says (names_by usage) ending said.0 said.1
  pub left : Leaves usage files run ending
