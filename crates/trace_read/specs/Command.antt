-- How the command that checks a trace ends, and what it leaves.
use Rattle.std.specs.Prelude.{◌≡◌, ℕ, ◌<◌, ◌≤◌, ◌⊎◌, ◌==◌, Bool, false, if◌then◌else◌, List, [], ◌∷◌, ◌++◌, length, flat_map, codes, decimal, Option, Some, None, IfSome, Result, Ok, Err}
use Rattle.flow_io.specs.Flow.{Files, Rose, file_named, HoldsNone, gained, GainedPart}
use Rattle.flow_io.specs.Saying.{Said}
use Rattle.flow_io.specs.declared.reading.TheConstants.{MOST_INPUT}
use Rattle.trace_read.specs.declared.command.Checked.{Checked}
use Rattle.trace_read.specs.declared.ending.Ending.{Ending}
use Rattle.trace_read.specs.declared.ending.Ending.TheVariants.{Done, Usage, Unread, TooLarge, NotATrace, Differ, Unwritten, OutOfMemory}
use Rattle.trace_read.specs.declared.reading.ReadError.{ReadError}
use Rattle.trace_read.specs.declared.reading.ReadError.TheVariants.{Json, Top, Events, Numbers, Event, Span, Kept, Memory}
use Rattle.trace_read.specs.declared.checking.CheckError.{CheckError}
use Rattle.trace_read.specs.declared.checking.CheckError.TheVariants.{Workers, Pieces, Words}
use Rattle.trace_read.specs.declared.total.Total.{Total}
use Rattle.trace_read.specs.declared.reading.ReadTrace.{ReadTrace}
use Rattle.trace_read.specs.Reading.{reading}
use Rattle.trace_read.specs.Totals.{totals_by_worker}

abbrev pub read_number : ReadError → ℕ
read_number Json = 1
read_number Top = 2
read_number Events = 3
read_number Numbers = 4
read_number (Event index) = 5
read_number (Span index) = 6
read_number (Kept said found) = 7
read_number Memory = 8

abbrev pub check_number : CheckError → ℕ
check_number (Workers tid found) = 1
check_number (Pieces tid said found) = 2
check_number (Words tid said found) = 3
check_number CheckError.Memory = 4

abbrev pub status_of : Ending → ℕ
status_of Done = 0
status_of Usage = 2
status_of OutOfMemory = 3
status_of Unread = 4
status_of Unwritten = 5
status_of TooLarge = 6
status_of (NotATrace refusal) = 10
status_of (Differ refusal) = 11

-- the number of the refusal of the text or of its totals
abbrev pub detail_of : Ending → ℕ
detail_of (NotATrace refusal) = read_number refusal
detail_of (Differ refusal) = check_number refusal
detail_of other = 0

-- what is said of it, up to the newline
abbrev pub message_of : Ending → List ℕ
message_of Done = []
message_of Usage = codes "bbq-trace: usage"
message_of OutOfMemory = codes "bbq-trace: out of memory"
message_of Unread = codes "bbq-trace: cannot read"
message_of Unwritten = codes "bbq-trace: cannot write"
message_of TooLarge = codes "bbq-trace: file too large"
message_of (NotATrace refusal) = codes "bbq-trace: not a trace"
message_of (Differ refusal) = codes "bbq-trace: totals differ"

-- the line of a total, and the lines of all
abbrev pub line_of : Total → List ℕ
line_of total =
    codes "tid " ++ decimal total.tid ++ codes " pieces " ++ decimal total.pieces
    ++ codes " words " ++ decimal total.words ++ codes " dur " ++ decimal total.dur ++ 10 ∷ []

abbrev pub lines_of : List Total → List ℕ
lines_of totals = flat_map line_of totals

-- the totals that a text gives, or the ending that it asks for
abbrev pub totals_or_ending : Result (List Total) CheckError → Result (List Total) Ending
totals_or_ending (Ok totals) = Ok totals
totals_or_ending (Err refusal) = Err (Differ refusal)

abbrev pub trace_or_ending : Result ReadTrace ReadError → Result (List Total) Ending
trace_or_ending (Ok trace) = totals_or_ending (totals_by_worker trace.spans)
trace_or_ending (Err refusal) = Err (NotATrace refusal)

unfoldable pub check_of : List ℕ → Result (List Total) Ending
check_of text = trace_or_ending (reading text)

-- a sink before and after: what it tells, and how often it has failed
pub record Written : Type 0 where
  pub told : Option (List ℕ)
  pub new_told : Option (List ℕ)
  pub faults : ℕ
  pub new_faults : ℕ

-- what an ending says of a text that was read whole, and of the output
abbrev pub EndsText : List ℕ → Written → Ending → Type 0
EndsText text out Done = (totals : List Total) × (check_of text ≡ Ok totals)
    × (out.new_told ≡ gained out.told (lines_of totals))
EndsText text out Unwritten = (totals : List Total) × (check_of text ≡ Ok totals)
    × GainedPart out.told out.new_told (lines_of totals) × Rose out.faults out.new_faults
EndsText text out OutOfMemory = out.new_told ≡ out.told
EndsText text out (NotATrace refusal) =
    (check_of text ≡ Err (NotATrace refusal)) × (out.new_told ≡ out.told)
EndsText text out (Differ refusal) =
    (check_of text ≡ Err (Differ refusal)) × (out.new_told ≡ out.told)
EndsText text out other = ⊥

-- the NAME that the words give: one word, which doesn't begin with a dash
abbrev pub begins_with_dash : List ℕ → Bool
begins_with_dash [] = false
begins_with_dash (b ∷ bs) = b == 45

abbrev pub name_of : List (List ℕ) → Option (List ℕ)
name_of (name ∷ []) = if begins_with_dash name then None else Some name
name_of words = None

-- a source before and after: the files that it tells, and how often it has failed
pub record Source : Type 0 where
  pub files : Option Files
  pub faults : ℕ
  pub new_faults : ℕ

-- the text of a file, of at most so many bytes as are read: where the source tells its files, that
-- file has these bytes
abbrev pub IsTextOf : Option Files → List ℕ → List ℕ → Type 0
IsTextOf files name text = (length text ≤ MOST_INPUT)
    × IfSome files (λ held. file_named held name ≡ Some text)

-- where the source tells its files, that file has more bytes
abbrev pub IsTooLarge : Option Files → List ℕ → Type 0
IsTooLarge files name = IfSome files (λ held.
    (bytes : List ℕ) × (file_named held name ≡ Some bytes) × (MOST_INPUT < length bytes))

-- what an ending says of the file of a name, and of the output
abbrev pub EndsFile : List ℕ → Source → Written → Ending → Type 0
EndsFile name source out Usage = ⊥
EndsFile name source out OutOfMemory = out.new_told ≡ out.told
EndsFile name source out Unread =
    (Rose source.faults source.new_faults ⊎ HoldsNone source.files name)
    × (out.new_told ≡ out.told)
EndsFile name source out TooLarge = IsTooLarge source.files name × (out.new_told ≡ out.told)
EndsFile name source out ending = (text : List ℕ) × IsTextOf source.files name text
    × EndsText text out ending

-- what an ending says of a command with these words
abbrev pub EndsAsked : Option (List ℕ) → Source → Written → Ending → Type 0
EndsAsked None source out ending = (ending ≡ Usage) × (out.new_told ≡ out.told)
EndsAsked (Some name) source out ending = EndsFile name source out ending

-- no fault is passed over: the source's count rises only where a file can't be read, and the
-- output's only where it can't be written
abbrev pub SourceFaults : Ending → Source → Type 0
SourceFaults Unread source = source.faults ≤ source.new_faults
SourceFaults other source = source.new_faults ≡ source.faults

abbrev pub OutFaults : Ending → Written → Type 0
OutFaults Unwritten out = out.faults ≤ out.new_faults
OutFaults other out = out.new_faults ≡ out.faults

-- nothing is said where all was done, else the message of the ending
abbrev pub Says : Ending → Written → Type 0
Says Done messages = messages.new_told ≡ messages.told
Says ending messages = Said messages.told messages.new_told messages.faults messages.new_faults
    (message_of ending ++ 10 ∷ [])

-- the command ended so that this is its report, this was said, and this is left
pub record Ends (name : Option (List ℕ)) (source : Source) (out messages : Written)
    (checked : Checked) : Type 0 where
  pub ending : Ending
  pub status : checked.status ≡ status_of ending
  pub detail : checked.detail ≡ detail_of ending
  pub said : Says ending messages
  pub left : EndsAsked name source out ending
  pub source_faults : SourceFaults ending source
  pub out_faults : OutFaults ending out
