-- The statuses with which the command ends, and what it says of each.
use Rattle.std.specs.Prelude.{ℕ, List, [], ◌∷◌, ◌++◌, codes}
use Rattle.profile_cli.specs.declared.ending.Ending.{Ending}
use Rattle.profile_cli.specs.declared.ending.Ending.TheVariants.{Done, Refused, OutOfMemory, Unread, CountsUnwritten, TooLarge, TooMuch, TooManyPieces, TraceUnwritten}
use Rattle.command_words.specs.declared.refusal.ReadError.{ReadError}
use Rattle.command_words.specs.declared.refusal.ReadError.TheVariants as error
use Rattle.command_words.specs.Refusals.{refusal_number, refusal_word}
use Rattle.profile_cli.specs.Input.{name_at}

-- how the command ends where its words give no options
abbrev pub ending_without : ReadError → Ending
ending_without (error.Refused refusal) = Refused refusal
ending_without error.Memory = OutOfMemory

-- the status
abbrev pub status_of : Ending → ℕ
status_of Done = 0
status_of (Refused refusal) = 2
status_of OutOfMemory = 3
status_of (Unread text) = 4
status_of CountsUnwritten = 5
status_of (TooLarge text) = 6
status_of TooMuch = 7
status_of TooManyPieces = 8
status_of TraceUnwritten = 9

-- the number of the refusal or of the text that it is about
abbrev pub detail_of : Ending → ℕ
detail_of (Refused refusal) = refusal_number refusal
detail_of (Unread text) = text
detail_of (TooLarge text) = text
detail_of other = 0

-- what is said of it, up to a word or a name
abbrev pub first_part : Ending → List ℕ
first_part Done = []
first_part (Refused refusal) = codes "bbq-profile: usage: "
first_part OutOfMemory = codes "bbq-profile: out of memory"
first_part (Unread text) = codes "bbq-profile: cannot read "
first_part CountsUnwritten = codes "bbq-profile: cannot write counts"
first_part (TooLarge text) = codes "bbq-profile: file too large: "
first_part TooMuch = codes "bbq-profile: input too large"
first_part TooManyPieces = codes "bbq-profile: too many pieces"
first_part TraceUnwritten = codes "bbq-profile: cannot write trace"

-- the word of the refusal, or the name of the text that it is about
abbrev pub subject_of : List (List ℕ) → Ending → List ℕ
subject_of names (Refused refusal) = refusal_word refusal
subject_of names (Unread text) = name_at names text
subject_of names (TooLarge text) = name_at names text
subject_of names other = []

-- the whole message, with its newline
abbrev pub message_of : List (List ℕ) → Ending → List ℕ
message_of names ending = first_part ending ++ (subject_of names ending ++ 10 ∷ [])
