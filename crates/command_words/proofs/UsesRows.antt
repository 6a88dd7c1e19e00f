-- What is found in the rows of a line that is written from uses.
use Rattle.std.proofs.Common.{◌≡◌, Bool, true, false, List, [], ◌∷◌, ◌++◌, Option, Some, None, refl, sym, ap, ap₂, ◌∙◌, codes, append_assoc}
use Rattle.std.specs.Prelude.{if◌then◌else◌, find, fold, is_some, option_and_then, option_map, slice_get, unwrap_or}
use Rattle.std.specs.Option.{option_or}
use Rattle.std.specs.Str.{bytes_eq}
use Rattle.std.proofs.lemmas.Slice.Eq.{bytes_eq-Decides}
use Rattle.clap.specs.Walk.{Row, Text, first_of, has_row, stronger, with_values, without}
use Rattle.clap.specs.declared.builder.value_parser.Reading.TheVariants.{AsWritten}
use Rattle.clap.specs.declared.parser.matches.ValueSource.{ValueSource}
use Rattle.clap.specs.declared.parser.matches.ValueSource.TheVariants.{CommandLine, DefaultValue}
use Rattle.command_words.specs.Usage.{Given, asked_by, files_in, given_by, is_on, ◌>>=◌}
use Rattle.command_words.specs.Uses.{Fits, Named, ReadsUses, ReadsBehindDashes, Use, files_of, given_from, name_of, mode, workers, blocks, size, piece, trace, generate, spaced, joined, flag, file, value_in}
use Rattle.command_words.proofs.UsesLemmas.{FitsFrom, add, add_more, alone, completed, mark, set, told, trailing_reading, uses_reading}

abbrev row_at : Text → List Row → Option Row
row_at id rows = find (λ r. bytes_eq r.id id) rows

-- the row of k with one more value
abbrev with_more_from : ValueSource → Text → Text → Option Row → Row
with_more_from from k v None = record { id = k; values = v ∷ []; count = None; source = Some from; reading = AsWritten }
with_more_from from k v (Some r) = record r { values = r.values ++ v ∷ []; source = Some (stronger r.source from) }

abbrev with_more : Text → Text → Option Row → Row
with_more k v o = with_more_from CommandLine k v o

two_ways : (P : Type 0) (b : Bool) → (b ≡ true → P) → (b ≡ false → P) → P
two_ways P true hit miss = hit refl
two_ways P false hit miss = miss refl

same_text : (a b : Text) → bytes_eq a b ≡ true → a ≡ b
same_text a b e = (bytes_eq-Decides a b).0 e

itself : (a : Text) → bytes_eq a a ≡ true
itself a = (bytes_eq-Decides a a).1 refl

abbrev put_from : ValueSource → Text → Text → List Row → List Row
put_from from k v rows = with_values k AsWritten from (v ∷ []) rows

abbrev put : Text → Text → List Row → List Row
put k v rows = put_from CommandLine k v rows

-- one more value of k changes the row of k alone
row_put_from : (from : ValueSource) (id k v : Text) (rows : List Row) → row_at id (put_from from k v rows) ≡ (if bytes_eq k id then Some (with_more_from from k v (row_at k rows)) else row_at id rows)
row_put_from from id k v [] = refl
row_put_from from id k v (r ∷ rs) = two_ways _ (bytes_eq r.id k)
    (λ here.
    let same : r.id ≡ k = same_text r.id k here in
    let test : bytes_eq k id ≡ bytes_eq r.id id = ap (λ x. bytes_eq x id) (sym same) in
    rw (here, test) (two_ways _ (bytes_eq r.id id) (λ hit. rw hit refl) (λ miss. rw miss refl)))
    (λ past. two_ways _ (bytes_eq k id)
    (λ hit.
    let other : bytes_eq r.id id ≡ false = ap (λ x. bytes_eq r.id x) (sym (same_text k id hit)) ∙ past in
    rw (past, hit, other) (row_put_from from id k v rs ∙ ap (λ b. if b then Some (with_more_from from k v (row_at k rs)) else row_at id rs) hit))
    (λ miss. rw (past, miss) (ap (λ o. if bytes_eq r.id id then Some r else o) (row_put_from from id k v rs ∙ ap (λ b. if b then Some (with_more_from from k v (row_at k rs)) else row_at id rs) miss))))

row_put : (id k v : Text) (rows : List Row) → row_at id (put k v rows) ≡ (if bytes_eq k id then Some (with_more k v (row_at k rows)) else row_at id rows)
row_put = row_put_from CommandLine

-- where there is no row of k, none goes
none_goes : (k : Text) (rows : List Row) → row_at k rows ≡ None → without k rows ≡ rows
none_goes k [] none = refl
none_goes k (r ∷ rs) none = two_ways _ (bytes_eq r.id k)
    (λ here. let bad : Some r ≡ None = rw here at none in absurd (cc))
    (λ past. let rest : row_at k rs ≡ None = rw past at none in rw past (ap (λ x. r ∷ x) (none_goes k rs rest)))

no_row : (k : Text) (rows : List Row) → row_at k rows ≡ None → has_row k rows ≡ false
no_row k [] none = refl
no_row k (r ∷ rs) none = two_ways _ (bytes_eq r.id k)
    (λ here. let bad : Some r ≡ None = rw here at none in absurd (cc))
    (λ past. let rest : row_at k rs ≡ None = rw past at none in rw past (no_row k rs rest))

row_set : (id k : Text) (v : Text) (rows : List Row) → row_at k rows ≡ None → row_at id (alone k v rows) ≡ (if bytes_eq k id then Some (with_more k v None) else row_at id rows)
row_set id k v rows none =
    ap (λ x. row_at id (put k v x)) (none_goes k rows none)
    ∙ (row_put id k v rows ∙ ap (λ o. if bytes_eq k id then Some (with_more k v o) else row_at id rows) none)

-- no option has the name of the FILEs
not_file : (n : Named) → bytes_eq (name_of n) (codes "FILE") ≡ false
not_file mode = refl
not_file workers = refl
not_file blocks = refl
not_file size = refl
not_file piece = refl
not_file trace = refl
not_file generate = refl

no_file_value : (uses : List Use) → value_in (codes "FILE") uses ≡ None
no_file_value [] = refl
no_file_value (spaced n v ∷ uses) = rw (not_file n) (no_file_value uses)
no_file_value (joined n v ∷ uses) = rw (not_file n) (no_file_value uses)
no_file_value (flag ∷ uses) = no_file_value uses
no_file_value (file w ∷ uses) = no_file_value uses

-- what the uses set isn't there yet
abbrev IsFree : List Row → List Use → Type 0
IsFree rows uses = (id : Text) → is_some (value_in id uses) ≡ true → row_at id rows ≡ None

set_free : (k : Text) (v : Text) (rows : List Row) (uses : List Use) → row_at k rows ≡ None → value_in k uses ≡ None → IsFree rows uses → IsFree (alone k v rows) uses
set_free k v rows uses none once free id given = two_ways _ (bytes_eq k id)
    (λ hit.
    let bad : is_some (value_in id uses) ≡ false = ap (λ x. is_some (value_in x uses)) (sym (same_text k id hit)) ∙ ap (λ (o : Option Text). is_some o) once in
    absurd (cc))
    (λ miss. row_set id k v rows none ∙ (ap (λ b. if b then Some (with_more k v None) else row_at id rows) miss ∙ free id given))

add_free : (w : Text) (rows : List Row) (uses : List Use) → IsFree rows uses → IsFree (add w rows) uses
add_free w rows uses free id given = two_ways _ (bytes_eq (codes "FILE") id)
    (λ hit.
    let bad : is_some (value_in id uses) ≡ false = ap (λ x. is_some (value_in x uses)) (sym (same_text (codes "FILE") id hit)) ∙ ap (λ (o : Option Text). is_some o) (no_file_value uses) in
    absurd (cc))
    (λ miss. row_put id (codes "FILE") w rows ∙ (ap (λ b. if b then Some (with_more (codes "FILE") w (row_at (codes "FILE") rows)) else row_at id rows) miss ∙ free id given))

-- a use that comes first
first_is : (k : Text) (v : Text) (o : Option Text) → is_some (option_or (if bytes_eq k k then Some v else None) o) ≡ true
first_is k v o = rw (itself k) refl

later : (a : Option Text) (o : Option Text) → is_some o ≡ true → is_some (option_or a o) ≡ true
later None o e = e
later (Some x) o e = refl

fits_from : (uses : List Use) (rows : List Row) → Fits uses → IsFree rows uses → FitsFrom rows uses
fits_from [] rows fits free = tt
fits_from (spaced n v ∷ uses) rows fits free =
    let none = free (name_of n) (first_is (name_of n) v (value_in (name_of n) uses)) in
    (no_row (name_of n) rows none, fits.0, fits_from uses (set n v rows) fits.2 (set_free (name_of n) v rows uses none fits.1 (λ id given. free id (later _ _ given))))
fits_from (joined n v ∷ uses) rows fits free =
    let none = free (name_of n) (first_is (name_of n) v (value_in (name_of n) uses)) in
    (no_row (name_of n) rows none, fits_from uses (set n v rows) fits.1 (set_free (name_of n) v rows uses none fits.0 (λ id given. free id (later _ _ given))))
fits_from (flag ∷ uses) rows fits free =
    let none = free (codes "fold") (first_is (codes "fold") (codes "true") (value_in (codes "fold") uses)) in
    (no_row (codes "fold") rows none, fits_from uses (mark rows) fits.1 (set_free (codes "fold") (codes "true") rows uses none fits.0 (λ id given. free id (later _ _ given))))
fits_from (file w ∷ uses) rows fits free =
    (fits.0, fits_from uses (add w rows) fits.1 (add_free w rows uses free))

abbrev first_in : Option Row → Option Text
first_in o = option_and_then (λ r. slice_get r.values 0) o

-- the value of an option, over the uses
set_value : (id k : Text) (v : Text) (rows : List Row) (o : Option Text) → row_at k rows ≡ None → option_or (first_of id (alone k v rows)) o ≡ option_or (first_of id rows) (option_or (if bytes_eq k id then Some v else None) o)
set_value id k v rows o none = two_ways _ (bytes_eq k id)
    (λ hit.
    let gone : row_at id rows ≡ None = ap (λ x. row_at x rows) (sym (same_text k id hit)) ∙ none in
    let is : row_at id (alone k v rows) ≡ Some (with_more k v None) = row_set id k v rows none ∙ ap (λ b. if b then Some (with_more k v None) else row_at id rows) hit in
    ap (λ r. option_or (first_in r) o) is ∙ sym (ap₂ (λ r b. option_or (first_in r) (option_or (if b then Some v else None) o)) gone hit))
    (λ miss.
    let is : row_at id (alone k v rows) ≡ row_at id rows = row_set id k v rows none ∙ ap (λ b. if b then Some (with_more k v None) else row_at id rows) miss in
    ap (λ r. option_or (first_in r) o) is ∙ sym (ap (λ b. option_or (first_of id rows) (option_or (if b then Some v else None) o)) miss))

values_found : (id : Text) → bytes_eq (codes "FILE") id ≡ false → (uses : List Use) (rows : List Row) → Fits uses → IsFree rows uses → first_of id (fold told rows uses) ≡ option_or (first_of id rows) (value_in id uses)
values_found id option [] rows fits free = sym (or_none (first_of id rows))
  where
    or_none : (o : Option Text) → option_or o None ≡ o
    or_none None = refl
    or_none (Some x) = refl
values_found id option (spaced n v ∷ uses) rows fits free =
    let none = free (name_of n) (first_is (name_of n) v (value_in (name_of n) uses)) in
    values_found id option uses (set n v rows) fits.2 (set_free (name_of n) v rows uses none fits.1 (λ i given. free i (later _ _ given)))
    ∙ set_value id (name_of n) v rows (value_in id uses) none
values_found id option (joined n v ∷ uses) rows fits free =
    let none = free (name_of n) (first_is (name_of n) v (value_in (name_of n) uses)) in
    values_found id option uses (set n v rows) fits.1 (set_free (name_of n) v rows uses none fits.0 (λ i given. free i (later _ _ given)))
    ∙ set_value id (name_of n) v rows (value_in id uses) none
values_found id option (flag ∷ uses) rows fits free =
    let none = free (codes "fold") (first_is (codes "fold") (codes "true") (value_in (codes "fold") uses)) in
    values_found id option uses (mark rows) fits.1 (set_free (codes "fold") (codes "true") rows uses none fits.0 (λ i given. free i (later _ _ given)))
    ∙ set_value id (codes "fold") (codes "true") rows (value_in id uses) none
values_found id option (file w ∷ uses) rows fits free =
    values_found id option uses (add w rows) fits.1 (add_free w rows uses free)
    ∙ ap (λ r. option_or (first_in r) (value_in id uses)) (row_put id (codes "FILE") w rows ∙ ap (λ b. if b then Some (with_more (codes "FILE") w (row_at (codes "FILE") rows)) else row_at id rows) option)

abbrev values_at : Option Row → List Text
values_at o = unwrap_or (option_map (λ r. r.values) o) []

one_file_more : (w : Text) (o : Option Row) → (with_more (codes "FILE") w o).values ≡ values_at o ++ w ∷ []
one_file_more w None = refl
one_file_more w (Some r) = refl

set_files : (k : Text) (v : Text) (rows : List Row) → bytes_eq k (codes "FILE") ≡ false → row_at k rows ≡ None → files_in (alone k v rows) ≡ files_in rows
set_files k v rows other none = ap values_at (row_set (codes "FILE") k v rows none ∙ ap (λ b. if b then Some (with_more k v None) else row_at (codes "FILE") rows) other)

files_found : (uses : List Use) (rows : List Row) → Fits uses → IsFree rows uses → files_in (fold told rows uses) ≡ files_in rows ++ files_of uses
files_found [] rows fits free = sym (no_more (files_in rows))
  where
    no_more : (xs : List Text) → xs ++ [] ≡ xs
    no_more [] = refl
    no_more (x ∷ xs) = ap (λ ys. x ∷ ys) (no_more xs)
files_found (spaced n v ∷ uses) rows fits free =
    let none = free (name_of n) (first_is (name_of n) v (value_in (name_of n) uses)) in
    files_found uses (set n v rows) fits.2 (set_free (name_of n) v rows uses none fits.1 (λ i given. free i (later _ _ given)))
    ∙ ap (λ xs. xs ++ files_of uses) (set_files (name_of n) v rows (not_file n) none)
files_found (joined n v ∷ uses) rows fits free =
    let none = free (name_of n) (first_is (name_of n) v (value_in (name_of n) uses)) in
    files_found uses (set n v rows) fits.1 (set_free (name_of n) v rows uses none fits.0 (λ i given. free i (later _ _ given)))
    ∙ ap (λ xs. xs ++ files_of uses) (set_files (name_of n) v rows (not_file n) none)
files_found (flag ∷ uses) rows fits free =
    let none = free (codes "fold") (first_is (codes "fold") (codes "true") (value_in (codes "fold") uses)) in
    files_found uses (mark rows) fits.1 (set_free (codes "fold") (codes "true") rows uses none fits.0 (λ i given. free i (later _ _ given)))
    ∙ ap (λ xs. xs ++ files_of uses) (set_files (codes "fold") (codes "true") rows refl none)
files_found (file w ∷ uses) rows fits free =
    files_found uses (add w rows) fits.1 (add_free w rows uses free)
    ∙ (ap (λ xs. xs ++ files_of uses) (ap values_at (row_put (codes "FILE") (codes "FILE") w rows) ∙ one_file_more w (row_at (codes "FILE") rows))
    ∙ append_assoc (files_in rows) (w ∷ []) (files_of uses))

nothing_there : (uses : List Use) → IsFree [] uses
nothing_there uses id given = refl

given_is : (uses : List Use) → Fits uses → given_by (fold told [] uses) ≡ given_from uses
given_is uses fits =
    let free = nothing_there uses in
    let mode_is = values_found (codes "mode") refl uses [] fits free in
    let workers_is = values_found (codes "workers") refl uses [] fits free in
    let blocks_is = values_found (codes "blocks") refl uses [] fits free in
    let size_is = values_found (codes "size") refl uses [] fits free in
    let piece_is = values_found (codes "piece") refl uses [] fits free in
    let trace_is = values_found (codes "trace") refl uses [] fits free in
    let generate_is = values_found (codes "generate") refl uses [] fits free in
    let fold_is = ap is_on (values_found (codes "fold") refl uses [] fits free) in
    let files_are = files_found uses [] fits free in
    λ i. record { mode = mode_is i; workers = workers_is i; blocks = blocks_is i; size = size_is i; piece = piece_is i; trace = trace_is i; generate = generate_is i; fold = fold_is i; files = files_are i }

-- ---- the flag's default

row_gone : (k : Text) (rows : List Row) → has_row k rows ≡ false → row_at k rows ≡ None
row_gone k [] none = refl
row_gone k (r ∷ rs) none = two_ways _ (bytes_eq r.id k)
    (λ here. let bad : true ≡ false = rw here at none in absurd (cc))
    (λ past. let rest : has_row k rs ≡ false = rw past at none in rw past (row_gone k rs rest))

-- it changes the flag's row alone
row_completed : (id : Text) → bytes_eq (codes "fold") id ≡ false → (rows : List Row) → row_at id (completed rows) ≡ row_at id rows
row_completed id other rows = two_ways _ (has_row (codes "fold") rows)
    (λ given. ap (λ b. row_at id (if b then rows else put_from DefaultValue (codes "fold") (codes "false") rows)) given)
    (λ none.
    ap (λ b. row_at id (if b then rows else put_from DefaultValue (codes "fold") (codes "false") rows)) none
    ∙ (row_put_from DefaultValue id (codes "fold") (codes "false") rows
    ∙ ap (λ b. if b then Some (with_more_from DefaultValue (codes "fold") (codes "false") (row_at (codes "fold") rows)) else row_at id rows) other))

-- and leaves a flag unset that isn't given
flag_completed : (rows : List Row) → is_on (first_of (codes "fold") (completed rows)) ≡ is_on (first_of (codes "fold") rows)
flag_completed rows = two_ways _ (has_row (codes "fold") rows)
    (λ given. ap (λ b. is_on (first_of (codes "fold") (if b then rows else put_from DefaultValue (codes "fold") (codes "false") rows))) given)
    (λ none.
    let gone : row_at (codes "fold") rows ≡ None = row_gone (codes "fold") rows none in
    let is : row_at (codes "fold") (put_from DefaultValue (codes "fold") (codes "false") rows) ≡ Some (with_more_from DefaultValue (codes "fold") (codes "false") None) =
    row_put_from DefaultValue (codes "fold") (codes "fold") (codes "false") rows
    ∙ ap (λ o. Some (with_more_from DefaultValue (codes "fold") (codes "false") o)) gone in
    ap (λ b. is_on (first_of (codes "fold") (if b then rows else put_from DefaultValue (codes "fold") (codes "false") rows))) none
    ∙ (ap (λ o. is_on (first_in o)) is ∙ sym (ap (λ o. is_on (first_in o)) gone)))

given_completed : (rows : List Row) → given_by (completed rows) ≡ given_by rows
given_completed rows =
    let mode_is = ap first_in (row_completed (codes "mode") refl rows) in
    let workers_is = ap first_in (row_completed (codes "workers") refl rows) in
    let blocks_is = ap first_in (row_completed (codes "blocks") refl rows) in
    let size_is = ap first_in (row_completed (codes "size") refl rows) in
    let piece_is = ap first_in (row_completed (codes "piece") refl rows) in
    let trace_is = ap first_in (row_completed (codes "trace") refl rows) in
    let generate_is = ap first_in (row_completed (codes "generate") refl rows) in
    let fold_is = flag_completed rows in
    let files_are = ap values_at (row_completed (codes "FILE") refl rows) in
    λ i. record { mode = mode_is i; workers = workers_is i; blocks = blocks_is i; size = size_is i; piece = piece_is i; trace = trace_is i; generate = generate_is i; fold = fold_is i; files = files_are i }

pub reads_uses : ReadsUses
reads_uses uses fits =
    ap (λ r. r >>= (λ found. asked_by (given_by found))) (uses_reading uses (fits_from uses [] fits (nothing_there uses)))
    ∙ ap asked_by (given_completed (fold told [] uses) ∙ given_is uses fits)

-- ---- behind `--`

value_kept : (id : Text) → bytes_eq (codes "FILE") id ≡ false → (words : List Text) (rows : List Row) → first_of id (fold add_more rows words) ≡ first_of id rows
value_kept id option [] rows = refl
value_kept id option (w ∷ words) rows =
    value_kept id option words (add w rows)
    ∙ ap first_in (row_put id (codes "FILE") w rows ∙ ap (λ b. if b then Some (with_more (codes "FILE") w (row_at (codes "FILE") rows)) else row_at id rows) option)

more_files : (words : List Text) (rows : List Row) → files_in (fold add_more rows words) ≡ files_in rows ++ words
more_files [] rows = sym (no_more (files_in rows))
  where
    no_more : (xs : List Text) → xs ++ [] ≡ xs
    no_more [] = refl
    no_more (x ∷ xs) = ap (λ ys. x ∷ ys) (no_more xs)
more_files (w ∷ words) rows =
    more_files words (add w rows)
    ∙ (ap (λ xs. xs ++ words) (ap values_at (row_put (codes "FILE") (codes "FILE") w rows) ∙ one_file_more w (row_at (codes "FILE") rows))
    ∙ append_assoc (files_in rows) (w ∷ []) words)

more_given : (words : List Text) (rows : List Row) → given_by (fold add_more rows words) ≡ record (given_by rows) { files = files_in rows ++ words }
more_given words rows =
    let mode_is = value_kept (codes "mode") refl words rows in
    let workers_is = value_kept (codes "workers") refl words rows in
    let blocks_is = value_kept (codes "blocks") refl words rows in
    let size_is = value_kept (codes "size") refl words rows in
    let piece_is = value_kept (codes "piece") refl words rows in
    let trace_is = value_kept (codes "trace") refl words rows in
    let generate_is = value_kept (codes "generate") refl words rows in
    let fold_is = ap is_on (value_kept (codes "fold") refl words rows) in
    let files_are = more_files words rows in
    λ i. record { mode = mode_is i; workers = workers_is i; blocks = blocks_is i; size = size_is i; piece = piece_is i; trace = trace_is i; generate = generate_is i; fold = fold_is i; files = files_are i }

pub reads_behind_dashes : ReadsBehindDashes
reads_behind_dashes uses words fits =
    ap (λ r. r >>= (λ found. asked_by (given_by found))) (trailing_reading uses words (fits_from uses [] fits (nothing_there uses)))
    ∙ ap asked_by (given_completed (fold add_more (fold told [] uses) words) ∙ more_given words (fold told [] uses) ∙ ap (λ (g : Given). record g { files = g.files ++ words }) (given_is uses fits))
