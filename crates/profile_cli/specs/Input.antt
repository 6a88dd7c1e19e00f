-- The input of a run: its texts, and which of them can't be had.
use Rattle.std.specs.Prelude.{◌≡◌, ℕ, ◌+◌, ◌<◌, ◌≤◌, List, [], ◌∷◌, ◌++◌, length, map, take, sum_by, slice_index_or, codes, Option, Some, None, unwrap_or, IsSome, IfSome}
use Rattle.std.specs.List.{AllZip}
use Rattle.command_words.specs.Usage.{Asked}
use Rattle.flow_io.specs.Flow.{Files, file_named}
use Rattle.generated_words.specs.Generated.{generated_text}
use Rattle.word_text.specs.declared.plan.TheConstants.{MOST_PIECES}
use Rattle.word_text.specs.Pieces.{plan_of}
use Rattle.profile_cli.specs.Texts.{input_limit, text_limit}
use Rattle.profile_cli.specs.declared.ending.Ending.{Ending}
use Rattle.profile_cli.specs.declared.ending.Ending.TheVariants.{Done, OutOfMemory, Unread, TooLarge, TooMuch, TooManyPieces}

-- where a text comes from: it is made, of so many words, or it is the file of this name
pub data Origin : Type 0 where
  made : ℕ → Origin
  file : List ℕ → Origin

-- the texts that are asked for, in order: the generated one, if any, and then the FILEs
abbrev pub made_of : Option ℕ → List Origin
made_of None = []
made_of (Some words) = made words ∷ []

abbrev pub origins_of : Asked → List Origin
origins_of asked = made_of asked.generate ++ map file asked.files

-- their names
abbrev pub name_of : Origin → List ℕ
name_of (made words) = codes "generated"
name_of (file name) = name

abbrev pub names_of : Asked → List (List ℕ)
names_of asked = map name_of (origins_of asked)

-- what is known of a text: of a generated one which it is, and of a file, where the source tells
-- its files, what it holds or that it isn't held
abbrev pub known : Option Files → Origin → Option (Option (List ℕ))
known files (made words) = Some (Some (generated_text words))
known None (file name) = None
known (Some held) (file name) = Some (file_named held name)

-- the text is that of its origin, as far as it is known; of a file that isn't held an empty one
abbrev pub IsTextOf : Option Files → Origin → List ℕ → Type 0
IsTextOf files origin text = IfSome (known files origin) (λ bytes. text ≡ unwrap_or bytes [])

-- where the texts come from, in order, the files of the source, where it tells them, and the texts
pub record Input : Type 0 where
  pub origins : List Origin
  pub files : Option Files
  pub texts : List (List ℕ)

abbrev pub input_of : List Origin → Option Files → List (List ℕ) → Input
input_of origins files texts = record { origins = origins; files = files; texts = texts }

-- there is one text of each origin, in order
abbrev pub IsInput : Input → Type 0
IsInput input = AllZip (IsTextOf input.files) input.origins input.texts

-- the name of text i, its origin, and the text
abbrev pub name_at : List (List ℕ) → ℕ → List ℕ
name_at names i = slice_index_or names i []

abbrev pub origin_at : List Origin → ℕ → Origin
origin_at origins i = slice_index_or origins i (file [])

abbrev pub text_at : Input → ℕ → List ℕ
text_at input i = slice_index_or input.texts i []

-- how many bytes texts 0 to i have together
abbrev pub sum_to : Input → ℕ → ℕ
sum_to input i = sum_by length (take (i + 1) input.texts)

-- text i is generated, or the source doesn't tell its files, or holds it
abbrev pub IsThere : Input → ℕ → Type 0
IsThere input i = IfSome (known input.files (origin_at input.origins i)) IsSome

-- text i can be had: it is there, and neither it nor texts 0 to i together are too large
pub record IsRead (input : Input) (i : ℕ) : Type 0 where
  pub there : IsThere input i
  pub small : length (text_at input i) ≤ text_limit
  pub fits : sum_to input i ≤ input_limit

-- so can each text before text n
abbrev pub AreRead : Input → ℕ → Type 0
AreRead input n = (i : ℕ) → i < n → IsRead input i

-- all texts before text n can be had
pub record IsReached (input : Input) (n : ℕ) : Type 0 where
  pub number : n < length input.origins
  pub before : AreRead input n

-- text n is the first that can't be had: the source tells its files, and doesn't hold it
pub record IsMissing (input : Input) (n : ℕ) : Type 0 where
  pub reached : IsReached input n
  pub missing : known input.files (origin_at input.origins n) ≡ Some None

-- text n is the first that can't be had: it is too large
pub record IsTooLarge (input : Input) (n : ℕ) : Type 0 where
  pub reached : IsReached input n
  pub there : IsThere input n
  pub large : text_limit < length (text_at input n)

-- text n is the first that can't be had: with it all texts so far are too large together
pub record IsTooMuch (input : Input) (n : ℕ) : Type 0 where
  pub reached : IsReached input n
  pub there : IsThere input n
  pub small : length (text_at input n) ≤ text_limit
  pub large : input_limit < sum_to input n

-- all texts can be had, and cut into pieces of this length they give too many
pub record IsTooMany (input : Input) (piece : ℕ) : Type 0 where
  pub read : AreRead input (length input.origins)
  pub many : MOST_PIECES < length (plan_of input.texts piece)

-- all texts can be had, and their pieces aren't too many
pub record CanRun (input : Input) (piece : ℕ) : Type 0 where
  pub read : AreRead input (length input.origins)
  pub few : length (plan_of input.texts piece) ≤ MOST_PIECES

-- the ending that the input asks for
pub data IsDue (piece : ℕ) (input : Input) : Ending → Type 0 where
  done : CanRun input piece → IsDue piece input Done
  missing : (n : ℕ) → IsMissing input n → IsDue piece input (Unread n)
  too_large : (n : ℕ) → IsTooLarge input n → IsDue piece input (TooLarge n)
  too_much : (n : ℕ) → IsTooMuch input n → IsDue piece input TooMuch
  too_many : IsTooMany input piece → IsDue piece input TooManyPieces

-- what stops the reading of an input before: want of memory, or a count of faults that rose while a
-- text was started or read
abbrev pub StopsReading : Input → Type 0 → Ending → Type 0
StopsReading input rose OutOfMemory = Unit {0}
StopsReading input rose (Unread n) = IsReached input n × rose
StopsReading input rose other = ⊥
