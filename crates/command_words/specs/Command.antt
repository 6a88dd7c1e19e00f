-- The command as `clap` sees it.
use Rattle.std.specs.Prelude.{List, [], ◌∷◌, Some, fold, codes, Result, Ok, Err}
use Rattle.clap.specs.Words.{App, Rule, Row, Text, Kinds, new_app, new_rule, with_rule, fault_of, matches_of}
use Rattle.clap.specs.declared.builder.action.ArgAction.TheVariants.{Append, SetTrue}
use Rattle.command_words.specs.declared.refusal.Refusal.{Refusal}
use Rattle.command_words.specs.declared.refusal.Refusal.TheVariants.{Words}

-- an option that takes one value: `--name value` or `--name=value`
abbrev pub option_rule : Text → Rule
option_rule name = record (new_rule name) { long = Some name }

-- a flag, which takes no value: `--name`
abbrev pub flag_rule : Text → Rule
flag_rule name = record (new_rule name) { long = Some name; action = Some SetTrue }

-- the FILEs: a positional that takes any number of values, one at each use
abbrev pub file_rule : Rule
file_rule = record (new_rule (codes "FILE")) { action = Some Append }

abbrev pub profile_rules : List Rule
profile_rules =
    option_rule (codes "mode") ∷ option_rule (codes "workers") ∷ option_rule (codes "blocks")
    ∷ option_rule (codes "size") ∷ option_rule (codes "piece") ∷ option_rule (codes "trace")
    ∷ option_rule (codes "generate") ∷ flag_rule (codes "fold") ∷ file_rule ∷ []

abbrev pub profile_app : App
profile_app = fold with_rule (new_app (codes "bbq-profile")) profile_rules

-- what `clap` finds, where it refuses nothing
abbrev pub unless_refused : Kinds → List Row → Result (List Row) Refusal
unless_refused [] rows = Ok rows
unless_refused (kind ∷ kinds) rows = Err Words

-- what `clap` states of a line: the name of the program and the words behind it
unfoldable pub read_line : List Text → Result (List Row) Refusal
read_line line = unless_refused (fault_of profile_app line) (matches_of profile_app line)

abbrev pub read_words : List Text → Result (List Row) Refusal
read_words words = read_line (codes "bbq-profile" ∷ words)
