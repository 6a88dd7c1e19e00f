-- Worked lines.
use Rattle.std.specs.Prelude.{◌≡◌, ◌==◌, true, false, List, [], ◌∷◌, codes, None, Some, Result, Ok, Err}
use Rattle.std.specs.List.{AllByRecursion, slice_split}
use Rattle.clap.specs.Words.{Text}
use Rattle.command_words.specs.Usage.{Asked, usage}
use Rattle.command_words.specs.declared.refusal.Refusal.{Refusal}
use Rattle.command_words.specs.declared.refusal.Refusal.TheVariants.{Words, Workers, Blocks, Size, Piece, Generate, Input, Mode as BadMode}
use Rattle.command_words.specs.declared.options.Mode.TheVariants.{DropOld, RetryNew}

-- nothing but FILEs is given
abbrev pub asked_files : List Text → Asked
asked_files files = record {
  mode = RetryNew;
  workers = 4;
  blocks = 8;
  size = 64;
  piece = 65536;
  trace = codes "trace.json";
  generate = None;
  fold = false;
  files = files;
}

-- the words of a line with one space between each two
abbrev pub line : Text → List Text
line text = slice_split (λ b. b == 32) text

-- a line, and what it asks or how it is refused
abbrev pub Worked : Type 0
Worked = List (List Text × Result Asked Refusal)

abbrev pub asks : Text → Asked → List Text × Result Asked Refusal
asks text asked = (line text, Ok asked)

abbrev pub refused : Text → Refusal → List Text × Result Asked Refusal
refused text refusal = (line text, Err refusal)

-- FILEs, a dash alone, an empty word, and the words behind `--`
abbrev pub worked_files : Worked
worked_files =
    ([], Err Input)
    ∷ asks (codes "a") (asked_files (line (codes "a")))
    ∷ asks (codes "a b a") (asked_files (line (codes "a b a")))
    ∷ asks (codes "- help") (asked_files (line (codes "- help")))
    ∷ asks [] (asked_files (line []))
    ∷ refused (codes "--") Input
    ∷ asks (codes "-- --workers -- -x") (asked_files (line (codes "--workers -- -x")))
    ∷ asks (codes "a -- --help") (asked_files (line (codes "a --help")))
    ∷ []

-- options before, between and behind FILEs, with a value behind them or joined to them
abbrev pub worked_options : Worked
worked_options =
    asks (codes "--workers 2 a") (record (asked_files (line (codes "a"))) { workers = 2 })
    ∷ asks (codes "a --workers=2") (record (asked_files (line (codes "a"))) { workers = 2 })
    ∷ asks (codes "a --size=2 b --blocks 3 c")
    (record (asked_files (line (codes "a b c"))) { size = 2; blocks = 3 })
    ∷ asks (codes "--piece 16777216 --mode retry a")
    (record (asked_files (line (codes "a"))) { piece = 16777216 })
    ∷ asks (codes "--mode drop a") (record (asked_files (line (codes "a"))) { mode = DropOld })
    ∷ asks (codes "--trace t 3") (record (asked_files (line (codes "3"))) { trace = codes "t" })
    ∷ asks (codes "--trace=-x a") (record (asked_files (line (codes "a"))) { trace = codes "-x" })
    ∷ asks (codes "--trace= a") (record (asked_files (line (codes "a"))) { trace = [] })
    ∷ asks (codes "--generate 5") (record (asked_files []) { generate = Some 5 })
    ∷ asks (codes "--generate=10000000 a")
    (record (asked_files (line (codes "a"))) { generate = Some 10000000 })
    ∷ asks (codes "--fold a") (record (asked_files (line (codes "a"))) { fold = true })
    ∷ asks (codes "a --size 2 --fold b")
    (record (asked_files (line (codes "a b"))) { size = 2; fold = true })
    ∷ asks (codes "--workers 007 a") (record (asked_files (line (codes "a"))) { workers = 7 })
    ∷ asks (codes "--workers 0000000000000000000000000000000000000009 a")
    (record (asked_files (line (codes "a"))) { workers = 9 })
    ∷ []

-- words that are refused before any value is looked at
abbrev pub worked_words : Worked
worked_words =
    refused (codes "--workers 2 --workers 2 a") Words
    ∷ refused (codes "--workers=2 --workers=3 a") Words
    ∷ refused (codes "--worker 2 a") Words
    ∷ refused (codes "-w 2 a") Words
    ∷ refused (codes "a --workers") Words
    ∷ refused (codes "--workers --size 2 a") Words
    ∷ refused (codes "--workers -1 a") Words
    ∷ refused (codes "--trace -- a") Words
    ∷ refused (codes "--nosuch") Words
    ∷ refused (codes "--workers 0 --nosuch a") Words
    ∷ refused (codes "--fold --fold a") Words
    ∷ refused (codes "--fold=true a") Words
    ∷ refused (codes "--trace --fold a") Words
    ∷ refused (codes "a --help") Words
    ∷ refused (codes "-h") Words
    ∷ refused (codes "--version") Words
    ∷ []

-- values that are refused; the first refusal of the table is given
abbrev pub worked_values : Worked
worked_values =
    refused (codes "--mode new a") BadMode
    ∷ refused (codes "--workers x --mode Retry") BadMode
    ∷ refused (codes "--workers=-1 a") Workers
    ∷ refused (codes "--workers= a") Workers
    ∷ refused (codes "--workers  a") Workers
    ∷ refused (codes "--workers - a") Workers
    ∷ refused (codes "--workers 0 a") Workers
    ∷ refused (codes "--workers +7 a") Workers
    ∷ refused (codes "--workers 256 a") Workers
    ∷ refused (codes "--workers=2=3 a") Workers
    ∷ refused (codes "--workers 9999999999999999999999999999999999999999 a") Workers
    ∷ refused (codes "--generate 0 --size 0 --blocks 1") Blocks
    ∷ refused (codes "--size 65537 a") Size
    ∷ refused (codes "--piece x") Piece
    ∷ refused (codes "--generate 10000001") Generate
    ∷ refused (codes "--generate 0") Generate
    ∷ refused (codes "--trace t") Input
    ∷ []

-- a table of lines is right
abbrev pub AreRight : Worked → Type 0
AreRight lines = AllByRecursion (λ line. usage line.0 ≡ line.1) lines
