-- How the words of the command are read, and how they are refused.
use Rattle.std.specs.Prelude.{ℕ, ◌≡◌, ◌≤◌, Bool, false, string_bytes, ◌&&◌, nat_le, if◌then◌else◌, List, [], ◌∷◌, codes, Option, Some, None, IfSome, is_none, length, ◌==◌, unwrap_or, option_map, Result, Ok, Err}
use Rattle.std.specs.Option.{ok_or}
use Rattle.std.specs.Str.{bytes_eq, all_ascii_digits}
use Rattle.std.specs.Str.Parse.{digits_value}
use Rattle.clap.specs.Words.{Row, Text, first_of, all_of}
use Rattle.cursor_word.specs.Shape.{least_blocks, most_blocks, most_size}
use Rattle.span_words.specs.declared.span.TheConstants.{MOST_WORKERS}
use Rattle.generated_words.specs.declared.generator.TheConstants.{MOST_GENERATED}
use Rattle.command_words.specs.declared.options.TheConstants.{MOST_PIECE}
use Rattle.command_words.specs.Texts.{bytes_of}
use Rattle.command_words.specs.Command.{read_words}
use Rattle.command_words.specs.declared.refusal.Refusal.{Refusal}
use Rattle.command_words.specs.declared.refusal.Refusal.TheVariants.{Workers, Blocks, Size, Piece, Generate, Input, Mode as BadMode}
use Rattle.command_words.specs.declared.options.Mode.{Mode}
use Rattle.command_words.specs.declared.options.Mode.TheVariants.{DropOld, RetryNew}
use Rattle.command_words.specs.declared.options.Options.{Options}

-- what the command is asked to do
pub record Asked : Type 0 where
  pub mode : Mode
  pub workers : ℕ
  pub blocks : ℕ
  pub size : ℕ
  pub piece : ℕ
  pub trace : Text
  pub generate : Option ℕ
  pub fold : Bool
  pub files : List Text

infixl 10 ◌>>=◌
-- what comes next, where nothing is refused before
abbrev pub ◌>>=◌ : {A B : Type 0} → Result A Refusal → (A → Result B Refusal) → Result B Refusal
Ok x >>= next = next x
Err refusal >>= next = Err refusal

-- the modes that can be asked for, by name
abbrev pub mode_named : Text → Result Mode Refusal
mode_named name =
    if bytes_eq name (codes "retry") then Ok RetryNew
    else if bytes_eq name (codes "drop") then Ok DropOld
    else Err BadMode

-- the asked mode, or the default
abbrev pub mode_or : Mode → Option Text → Result Mode Refusal
mode_or default None = Ok default
mode_or default (Some name) = mode_named name

-- the number that one or more digits write, where it is one from the least to the most
abbrev pub number_within : ℕ → ℕ → Text → Option ℕ
number_within least most [] = None
number_within least most (d ∷ ds) =
    let number = digits_value 10 (d ∷ ds) in
    if all_ascii_digits (d ∷ ds) && (nat_le least number && nat_le number most) then Some number
    else None

-- the number of an option, from the least to the most, or its default where it isn't given
abbrev pub number_or : Refusal → ℕ → ℕ → ℕ → Option Text → Result ℕ Refusal
number_or refusal default least most None = Ok default
number_or refusal default least most (Some value) = ok_or (number_within least most value) refusal

-- the number of an option, where it is given
abbrev pub number_if : Refusal → ℕ → ℕ → Option Text → Result (Option ℕ) Refusal
number_if refusal least most None = Ok None
number_if refusal least most (Some value) =
    ok_or (option_map Some (number_within least most value)) refusal

-- there is something to read
abbrev pub some_input : Option ℕ → List Text → Result (List Text) Refusal
some_input generate files = if is_none generate && length files == 0 then Err Input else Ok files

-- the FILEs among what was found
abbrev pub files_in : List Row → List Text
files_in found = unwrap_or (all_of (codes "FILE") found) []

-- a flag is given: it has the value `true`, and `false` where it isn't given
abbrev pub is_on : Option Text → Bool
is_on None = false
is_on (Some value) = bytes_eq value (codes "true")

-- the values as they stand on the line, whether the flag does, and the FILEs
pub record Given : Type 0 where
  pub mode : Option Text
  pub workers : Option Text
  pub blocks : Option Text
  pub size : Option Text
  pub piece : Option Text
  pub trace : Option Text
  pub generate : Option Text
  pub fold : Bool
  pub files : List Text

abbrev pub given_by : List Row → Given
given_by found = record {
  mode = first_of (codes "mode") found;
  workers = first_of (codes "workers") found;
  blocks = first_of (codes "blocks") found;
  size = first_of (codes "size") found;
  piece = first_of (codes "piece") found;
  trace = first_of (codes "trace") found;
  generate = first_of (codes "generate") found;
  fold = is_on (first_of (codes "fold") found);
  files = files_in found;
}

-- what is given, by the checks in the order in which they refuse
abbrev pub asked_by : Given → Result Asked Refusal
asked_by given = do
  mode ← mode_or RetryNew given.mode
  workers ← number_or Workers 4 1 MOST_WORKERS given.workers
  blocks ← number_or Blocks 8 least_blocks most_blocks given.blocks
  size ← number_or Size 64 1 most_size given.size
  piece ← number_or Piece 65536 1 MOST_PIECE given.piece
  generate ← number_if Generate 1 MOST_GENERATED given.generate
  files ← some_input generate given.files
  Ok (record {
    mode = mode;
    workers = workers;
    blocks = blocks;
    size = size;
    piece = piece;
    trace = unwrap_or given.trace (codes "trace.json");
    generate = generate;
    fold = given.fold;
    files = files;
  })

-- what these words ask, or how they are refused
abbrev pub usage : List Text → Result Asked Refusal
usage words = read_words words >>= (λ found. asked_by (given_by found))

-- what the program holds of it, as bytes
abbrev pub asked_of : Options → Asked
asked_of o = record {
  mode = o.mode;
  workers = o.workers;
  blocks = o.blocks;
  size = o.size;
  piece = o.piece;
  trace = string_bytes o.trace;
  generate = o.generate;
  fold = o.fold;
  files = bytes_of o.files.items;
}

-- the mode can be had, and the numbers lie in their ranges
pub record IsWithinLimits (o : Options) : Type 0 where
  pub some_workers : 1 ≤ o.workers
  pub most_workers : o.workers ≤ MOST_WORKERS
  pub some_blocks : least_blocks ≤ o.blocks
  pub few_blocks : o.blocks ≤ most_blocks
  pub some_size : 1 ≤ o.size
  pub small_size : o.size ≤ most_size
  pub some_piece : 1 ≤ o.piece
  pub most_piece : o.piece ≤ MOST_PIECE
  pub few_generated : IfSome o.generate (λ words. words ≤ MOST_GENERATED)
