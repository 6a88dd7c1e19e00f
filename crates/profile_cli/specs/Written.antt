-- What a run writes: the counts, and behind them the documents of the trace store.
use Rattle.std.specs.Prelude.{◌≡◌, ℕ, ◌<◌, ◌⊎◌, Bool, true, false, List, [], ◌∷◌, ◌++◌, length, map, take, codes, Option, Some, IfSome}
use Rattle.flow_io.specs.Flow.{Files, Rose, gained, GainedPart}
use Rattle.rail.specs.declared.entry.Placed.{Placed}
use Rattle.span_words.specs.declared.span.SpanEvent.{SpanEvent}
use Rattle.span_words.specs.Span.{spelling}
use Rattle.span_recorder.specs.Events.{events_of}
use Rattle.span_fold.specs.Folded.{folded, folded_text}
use Rattle.trace_json.specs.Trace.{trace_text}
use Rattle.profile_cli.specs.declared.ending.Ending.{Ending}
use Rattle.profile_cli.specs.declared.ending.Ending.TheVariants.{Done, OutOfMemory, CountsUnwritten, TraceUnwritten}
use Rattle.profile_cli.specs.declared.writing.Results.{Results}
use Rattle.profile_cli.specs.Queue.{ClosedQueue, listed}
use Rattle.command_words.specs.Texts.{bytes_of}
use Rattle.command_words.specs.Usage.{Asked}

-- the output and the trace store at one moment: what they tell, and how often they have failed
pub record Outputs : Type 0 where
  pub out : Option (List ℕ)
  pub out_faults : ℕ
  pub documents : Option Files
  pub store_faults : ℕ

-- these events are what these entries spell, in order
abbrev pub Spell : List SpanEvent → List Placed → Type 0
Spell events entries = map spelling events ≡ map (λ (i : Placed). i.words) entries

-- the trace of these spans, by name, with how many were accepted and the names of the texts
abbrev pub trace_of : List ℕ → List (List ℕ) → ℕ → List SpanEvent → List ℕ × List ℕ
trace_of name names accepted events = (name, trace_text names accepted events)

-- the text of the folded times of these spans, by the trace's name
abbrev pub folded_of : List ℕ → List SpanEvent → List ℕ × List ℕ
folded_of name events = (name ++ codes ".folded", folded_text (folded events))

-- the documents of a run, in order: the trace, and where they are asked for the folded times
abbrev pub documents_by : Bool → List ℕ × List ℕ → List ℕ × List ℕ → Files
documents_by false trace folded_times = trace ∷ []
documents_by true trace folded_times = trace ∷ folded_times ∷ []

-- the documents that these results make
abbrev pub asks_of : Results → Files
asks_of results =
    let name = results.trace.now in let events = results.events.now in
    documents_by results.fold
    (trace_of name (bytes_of results.names.now) results.accepted events) (folded_of name events)

-- the documents that are asked of a closed queue, where the texts have these names: those of what
-- it lists
abbrev pub documents_of : Asked → List (List ℕ) → ClosedQueue → Files
documents_of asked names queue =
    let events = events_of (listed queue) in
    documents_by asked.fold
    (trace_of asked.trace names (length queue.accepted) events) (folded_of asked.trace events)

-- the store has its earlier documents, and these behind them
abbrev pub GainsDocuments : Option Files → Option Files → Files → Type 0
GainsDocuments old new [] = new ≡ old
GainsDocuments old new (document ∷ more) =
    IfSome old (λ earlier. new ≡ Some (earlier ++ document ∷ more))

-- a document of this name, with a shorter prefix of these bytes
abbrev pub IsCutShort : List ℕ × List ℕ → Files → Type 0
IsCutShort document part =
    (n : ℕ) × (n < length document.1) × (part ≡ (document.0, take n document.1) ∷ [])

-- not all of these documents: none, the first cut short, or the first and not all of the others
abbrev pub IsPartOf : Files → Files → Type 0
IsPartOf [] part = ⊥
IsPartOf (document ∷ others) part = (part ≡ []) ⊎ (IsCutShort document part
    ⊎ ((more : Files) × (part ≡ document ∷ more) × IsPartOf others more))

-- the store gained some of these documents in order, and not all
abbrev pub GainsPart : Option Files → Option Files → Files → Type 0
GainsPart old new asks = (part : Files) × IsPartOf asks part × GainsDocuments old new part

-- the output and the store tell what they told
pub record IsKept (before after : Outputs) : Type 0 where
  pub out : after.out ≡ before.out
  pub documents : after.documents ≡ before.documents

-- the output gained these counts, and the store not all of these documents
pub record IsHalted (counts : List ℕ) (asks : Files) (before after : Outputs) : Type 0 where
  pub counted : after.out ≡ gained before.out counts
  pub part : GainsPart before.documents after.documents asks

-- the output gained these counts, and the store these documents
pub record IsWhole (counts : List ℕ) (asks : Files) (before after : Outputs) : Type 0 where
  pub counted : after.out ≡ gained before.out counts
  pub traced : GainsDocuments before.documents after.documents asks

-- the output gained a shorter part of these counts, and the store nothing
pub record IsUncounted (counts : List ℕ) (before after : Outputs) : Type 0 where
  pub part : GainedPart before.out after.out counts
  pub documents : after.documents ≡ before.documents

-- what has been written where writing these counts and documents ended so
abbrev pub Writes : List ℕ → Files → Outputs → Outputs → Ending → Type 0
Writes counts asks before after Done = IsWhole counts asks before after
Writes counts asks before after CountsUnwritten = IsUncounted counts before after
Writes counts asks before after TraceUnwritten = IsHalted counts asks before after
Writes counts asks before after OutOfMemory = IsKept before after
    ⊎ IsHalted counts asks before after
Writes counts asks before after other = ⊥

-- the output's count of faults rises where the counts can't be written, and nowhere else
abbrev pub OutFaults : Ending → ℕ → ℕ → Type 0
OutFaults CountsUnwritten before now = Rose before now
OutFaults other before now = now ≡ before

-- the trace store's count of faults rises where a document can't be written, and nowhere else
abbrev pub StoreFaults : Ending → ℕ → ℕ → Type 0
StoreFaults TraceUnwritten before now = Rose before now
StoreFaults other before now = now ≡ before
