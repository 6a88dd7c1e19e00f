-- What `clap` states of the command, as `read_line` says it.
use Rattle.std.proofs.Common.{◌≡◌, true, false, List, [], ◌∷◌, Ok, Err, inl, inr, refl, sym, ap₂, ◌∙◌, subst}
use Rattle.clap.specs.Words.{AddsArg, App, HasMatchesOf, Row, Rule, Text, Kinds, app_of, found_of, rows_of, rule_of, with_rule, HasKind, IsAmong, kind_of, fault_of, matches_of, is_simple, is_simple_and_free}
use Rattle.clap.specs.declared.builder.arg.Arg.{Arg}
use Rattle.clap.specs.declared.builder.command.Command.{Command}
use Rattle.clap.specs.declared.parser.matches.ArgMatches.{ArgMatches}
use Rattle.clap.specs.declared.error.Error.{Error}
use Rattle.clap.specs.declared.error.kind.ErrorKind.{ErrorKind}
use Rattle.clap.specs.declared.error.kind.ErrorKind.TheVariants as kind
use Rattle.command_words.specs.Command.{profile_app, read_line, unless_refused}
use Rattle.command_words.specs.Refusals.{IfRefused, error_of}
use Rattle.command_words.specs.declared.refusal.Refusal.{Refusal}
use Rattle.command_words.specs.declared.refusal.Refusal.TheVariants.{Words}

pub profile_is_free : is_simple_and_free profile_app ≡ true
profile_is_free = refl

pub profile_is_simple : is_simple profile_app ≡ true
profile_is_simple = refl

-- where no kind of error is stated, the rows are what is read
pub read_as_found : (line : List Text) (rows : List Row) → fault_of profile_app line ≡ [] → rows ≡ matches_of profile_app line → read_line line ≡ Ok rows
unfolding read_line
read_as_found line rows none are = ap₂ unless_refused none (sym are)

refused_by_one : (kinds : Kinds) (rows : List Row) (k : ErrorKind) → IsAmong k kinds → unless_refused kinds rows ≡ Err Words
refused_by_one [] rows k among = absurd among
refused_by_one (x ∷ xs) rows k among = refl

refused_as : (k : ErrorKind) (P : Refusal → Type 0) → P Words → IfRefused (error_of k) P
refused_as kind.InvalidValue P words = words
refused_as kind.UnknownArgument P words = words
refused_as kind.InvalidSubcommand P words = words
refused_as kind.NoEquals P words = words
refused_as kind.ValueValidation P words = words
refused_as kind.TooManyValues P words = words
refused_as kind.TooFewValues P words = words
refused_as kind.WrongNumberOfValues P words = words
refused_as kind.ArgumentConflict P words = words
refused_as kind.MissingRequiredArgument P words = words
refused_as kind.MissingSubcommand P words = words
refused_as kind.DisplayHelp P words = words
refused_as kind.DisplayHelpOnMissingArgumentOrSubcommand P words = words
refused_as kind.DisplayVersion P words = words
refused_as kind.Io P words = words
refused_as kind.Format P words = words
refused_as kind.OutOfMemory P words = tt

-- an error is want of memory, or the words are refused
pub read_as_refused : (line : List Text) (e : Error) → HasKind (fault_of profile_app line) e → IfRefused (error_of (kind_of e)) (λ refusal. read_line line ≡ Err refusal)
unfolding read_line
read_as_refused line e (inl memory) = subst (λ k. IfRefused (error_of k) (λ refusal. read_line line ≡ Err refusal)) (sym memory) tt
read_as_refused line e (inr among) = refused_as (kind_of e) (λ refusal. read_line line ≡ Err refusal) (refused_by_one (fault_of profile_app line) (matches_of profile_app line) (kind_of e) among)

-- a parse that succeeds finds what is read
pub found_in : (a : App) (line : List Text) (m : ArgMatches) → a ≡ profile_app → (is_simple_and_free a ≡ true → fault_of a line ≡ []) → HasMatchesOf a line m → read_line line ≡ Ok (rows_of (found_of m))
found_in a line m is =
    subst (λ x. (is_simple_and_free x ≡ true → fault_of x line ≡ []) → HasMatchesOf x line m → read_line line ≡ Ok (rows_of (found_of m))) (sym is)
    (λ kinds has. read_as_found line (rows_of (found_of m)) (kinds profile_is_free) (has profile_is_simple).0)

-- one that fails is want of memory, or the words are refused
pub refused_in : (a : App) (line : List Text) (e : Error) → a ≡ profile_app → (is_simple_and_free a ≡ true → HasKind (fault_of a line) e) → IfRefused (error_of (kind_of e)) (λ refusal. read_line line ≡ Err refusal)
refused_in a line e is =
    subst (λ x. (is_simple_and_free x ≡ true → HasKind (fault_of x line) e) → IfRefused (error_of (kind_of e)) (λ refusal. read_line line ≡ Err refusal)) (sym is)
    (λ kinds. read_as_refused line e (kinds profile_is_free))

-- one more argument of the command
pub one_more : {old new : Command} {a : Arg} {app : App} {rule : Rule} → AddsArg old a new → a.global ≡ false → app_of old ≡ app → rule_of a ≡ rule → app_of new ≡ with_rule app rule
one_more adds local is of = adds.shape local ∙ ap₂ with_rule is of
