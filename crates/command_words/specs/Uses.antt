-- Lines as a user writes them: options with their values, and FILEs, in any order.
use Rattle.std.specs.Prelude.{◌≡◌, ◌==◌, Bool, true, not, List, [], ◌∷◌, ◌++◌, codes, Option, Some, None, if◌then◌else◌}
use Rattle.std.specs.Option.{option_or}
use Rattle.std.specs.Str.{bytes_eq}
use Rattle.clap.specs.Words.{Text}
use Rattle.command_words.specs.Usage.{Given, asked_by, is_on, usage}

-- the options
pub data Named : Type 0 where
  mode : Named
  workers : Named
  blocks : Named
  size : Named
  piece : Named
  trace : Named
  generate : Named

abbrev pub name_of : Named → Text
name_of mode = codes "mode"
name_of workers = codes "workers"
name_of blocks = codes "blocks"
name_of size = codes "size"
name_of piece = codes "piece"
name_of trace = codes "trace"
name_of generate = codes "generate"

-- `--name value`, `--name=value`, the flag `--fold`, or a FILE
pub data Use : Type 0 where
  spaced : Named → Text → Use
  joined : Named → Text → Use
  flag : Use
  file : Text → Use

-- the words of a use, and those of all uses in order
abbrev pub spelled : Use → List Text → List Text
spelled (spaced name value) words = (45 ∷ 45 ∷ name_of name) ∷ value ∷ words
spelled (joined name value) words = (45 ∷ 45 ∷ (name_of name ++ 61 ∷ value)) ∷ words
spelled flag words = codes "--fold" ∷ words
spelled (file word) words = word ∷ words

abbrev pub words_of : List Use → List Text
words_of [] = []
words_of (u ∷ uses) = spelled u (words_of uses)

-- the word is `-` or doesn't begin with a dash
abbrev pub is_plain : Text → Bool
is_plain [] = true
is_plain (b ∷ []) = true
is_plain (b ∷ x ∷ xs) = not (b == 45)

-- the value that a use gives the option or flag of this name
abbrev pub value_of : Text → Use → Option Text
value_of name (spaced named value) = if bytes_eq (name_of named) name then Some value else None
value_of name (joined named value) = if bytes_eq (name_of named) name then Some value else None
value_of name flag = if bytes_eq (codes "fold") name then Some (codes "true") else None
value_of name (file word) = None

abbrev pub value_in : Text → List Use → Option Text
value_in name [] = None
value_in name (u ∷ uses) = option_or (value_of name u) (value_in name uses)

abbrev pub files_of : List Use → List Text
files_of [] = []
files_of (file word ∷ uses) = word ∷ files_of uses
files_of (spaced name value ∷ uses) = files_of uses
files_of (joined name value ∷ uses) = files_of uses
files_of (flag ∷ uses) = files_of uses

-- each option and the flag is given once, and what stands as a word of its own is plain
abbrev pub Fits : List Use → Type 0
Fits [] = Unit {0}
Fits (spaced name value ∷ uses) =
    (is_plain value ≡ true) × (value_in (name_of name) uses ≡ None) × Fits uses
Fits (joined name value ∷ uses) = (value_in (name_of name) uses ≡ None) × Fits uses
Fits (flag ∷ uses) = (value_in (codes "fold") uses ≡ None) × Fits uses
Fits (file word ∷ uses) = (is_plain word ≡ true) × Fits uses

-- what the uses give, in whatever order they stand
abbrev pub given_from : List Use → Given
given_from uses = record {
  mode = value_in (codes "mode") uses;
  workers = value_in (codes "workers") uses;
  blocks = value_in (codes "blocks") uses;
  size = value_in (codes "size") uses;
  piece = value_in (codes "piece") uses;
  trace = value_in (codes "trace") uses;
  generate = value_in (codes "generate") uses;
  fold = is_on (value_in (codes "fold") uses);
  files = files_of uses;
}

-- a line is read by what its uses give, and not by their order or spelling
abbrev pub ReadsUses : Type 0
ReadsUses = (uses : List Use) → Fits uses → usage (words_of uses) ≡ asked_by (given_from uses)

-- behind `--` every word is a FILE, whatever it is
abbrev pub ReadsBehindDashes : Type 0
ReadsBehindDashes = (uses : List Use) (words : List Text) → Fits uses
    → usage (words_of uses ++ codes "--" ∷ words)
    ≡ asked_by (record (given_from uses) { files = files_of uses ++ words })
