-- How `clap` walks over a line that is written from uses.
use Rattle.std.proofs.Common.{◌≡◌, Bool, true, false, ◌&&◌, List, [], ◌∷◌, ◌++◌, Option, Some, None, refl, sym, ap, ap₂, ◌∙◌, codes, subst, Ok}
use Rattle.std.specs.Prelude.{not, ◌||◌, is_some, if◌then◌else◌, option_and_then, take, drop, ◌==◌, fold}
use Rattle.std.specs.Str.{bytes_eq}
use Rattle.clap.specs.Lexer.{long_of, short_of, strip_byte, long_of_rest, short_of_rest}
use Rattle.clap.specs.Walk.{Held, Row, Rule, Text, Waiting, Walk, has_row, idle, positional, option, settled_rows, walked, with_values, without, pushed, settled, with_default, default_rows, reading_by, is_empty, finished}
use Rattle.clap.specs.Simple.{Shape, built, entered, filled, matches_of, with_index}
use Rattle.clap.specs.Kinds.{Kinds, or_else}
use Rattle.clap.specs.Faults.{settle_fault, turn_fault, walk_fault, fault_of, entered_fault, defaults_fault, check_fault, default_fault, given_default_fault}
use Rattle.clap.specs.declared.error.kind.ErrorKind.TheVariants as kind
use Rattle.clap.specs.declared.builder.value_parser.Reading.TheVariants.{AsWritten}
use Rattle.clap.specs.declared.parser.matches.ValueSource.TheVariants.{CommandLine}
use Rattle.command_words.specs.Command.{flag_rule, profile_app, read_words}
use Rattle.command_words.proofs.ClapReading.{read_as_found}
use Rattle.command_words.specs.Uses.{Named, Use, name_of, is_plain, mode, workers, blocks, size, piece, trace, generate, spaced, joined, flag, file, words_of}

abbrev pub shape : Shape
shape = (built profile_app).top

abbrev pub held_at : List Row → Option (Text × List Text) → Held
held_at rows pending = record { rows = rows; pending = pending; skip = 0 }

abbrev pub walk_at : List Row → Option (Text × List Text) → Waiting → Walk
walk_at rows pending waiting = record { held = held_at rows pending; waiting = waiting; position = 1; is_trailing = false; stopped = None }

-- a FILE was last, or an option
abbrev pub waiting_at : Bool → Waiting
waiting_at true = positional
waiting_at false = idle

-- between two uses
abbrev pub between : List Row → Option (Text × List Text) → Bool → Walk
between rows pending behind_file = walk_at rows pending (waiting_at behind_file)

-- the fault of what is pending
abbrev pub pending_fault : List Row → Option (Text × List Text) → Kinds
pending_fault rows pending = settle_fault shape.rules false (held_at rows pending)

abbrev pub settled_at : List Row → Option (Text × List Text) → List Row
settled_at rows pending = settled_rows shape.rules pending rows

-- an option with its value, the flag, and one more FILE
abbrev pub alone : Text → Text → List Row → List Row
alone k v rows = with_values k AsWritten CommandLine (v ∷ []) (without k rows)

abbrev pub set : Named → Text → List Row → List Row
set n v rows = alone (name_of n) v rows

abbrev pub mark : List Row → List Row
mark rows = alone (codes "fold") (codes "true") rows

abbrev pub add : Text → List Row → List Row
add v rows = with_values (codes "FILE") AsWritten CommandLine (v ∷ []) rows

abbrev pub told : List Row → Use → List Row
told rows (spaced n v) = set n v rows
told rows (joined n v) = set n v rows
told rows flag = mark rows
told rows (file v) = add v rows

one_dash : (t : Bool) → option_and_then long_of_rest (option_and_then (strip_byte 45) (if t then Some [] else None)) ≡ None
one_dash true = refl
one_dash false = refl

one_dash_short : (t : Bool) → option_and_then short_of_rest (if t then Some [] else None) ≡ None
one_dash_short true = refl
one_dash_short false = refl

no_dash : (t : Bool) → not t ≡ true → t ≡ false
no_dash true e = absurd (cc)
no_dash false e = refl

and_false : (t : Bool) → (t && false) ≡ false
and_false true = refl
and_false false = refl

pub record IsValue (word : Text) : Type 0 where
  pub rest : bytes_eq word (45 ∷ 45 ∷ []) ≡ false
  pub long : long_of word ≡ None
  pub short : short_of word ≡ None

pub plain_value : (word : Text) → is_plain word ≡ true → IsValue word
plain_value [] plain = record { rest = refl; long = refl; short = refl }
plain_value (b ∷ []) plain = record { rest = and_false (b == 45); long = one_dash (b == 45); short = one_dash_short (b == 45) }
plain_value (b ∷ x ∷ xs) plain =
    let none = no_dash (b == 45) plain in
    record {
      rest = ap (λ t. t && bytes_eq (x ∷ xs) (45 ∷ [])) none;
      long = ap (λ t. option_and_then long_of_rest (option_and_then (strip_byte 45) (if t then Some (x ∷ xs) else None))) none;
      short = ap (λ t. option_and_then short_of_rest (if t then Some (x ∷ xs) else None)) none;
    }

second : (t : Bool) (x y : Held) → (if t && false then x else y) ≡ y
second true x y = refl
second false x y = refl

-- ---- where the walk stands after each word

named_walked : (n : Named) (b : Bool) (rows : List Row) (p : Option (Text × List Text)) → walked shape.rules [] (between rows p b) (45 ∷ 45 ∷ name_of n) ≡ walk_at (settled_at rows p) (Some (name_of n, [])) (option (name_of n))
unfolding walked
named_walked mode true rows p = refl
named_walked mode false rows p = refl
named_walked workers true rows p = refl
named_walked workers false rows p = refl
named_walked blocks true rows p = refl
named_walked blocks false rows p = refl
named_walked size true rows p = refl
named_walked size false rows p = refl
named_walked piece true rows p = refl
named_walked piece false rows p = refl
named_walked trace true rows p = refl
named_walked trace false rows p = refl
named_walked generate true rows p = refl
named_walked generate false rows p = refl

joined_walked : (n : Named) (b : Bool) (v : Text) (rows : List Row) (p : Option (Text × List Text)) → walked shape.rules [] (between rows p b) (45 ∷ 45 ∷ (name_of n ++ 61 ∷ v)) ≡ between (set n v (settled_at rows p)) None false
unfolding walked
joined_walked mode true v rows p = refl
joined_walked mode false v rows p = refl
joined_walked workers true v rows p = refl
joined_walked workers false v rows p = refl
joined_walked blocks true v rows p = refl
joined_walked blocks false v rows p = refl
joined_walked size true v rows p = refl
joined_walked size false v rows p = refl
joined_walked piece true v rows p = refl
joined_walked piece false v rows p = refl
joined_walked trace true v rows p = refl
joined_walked trace false v rows p = refl
joined_walked generate true v rows p = refl
joined_walked generate false v rows p = refl

flag_walked : (b : Bool) (rows : List Row) (p : Option (Text × List Text)) → walked shape.rules [] (between rows p b) (codes "--fold") ≡ between (mark (settled_at rows p)) None false
unfolding walked
flag_walked true rows p = refl
flag_walked false rows p = refl

value_walked : (n : Named) (v : Text) (rows : List Row) → IsValue v → walked shape.rules [] (walk_at rows (Some (name_of n, [])) (option (name_of n))) v ≡ between rows (Some (name_of n, v ∷ [])) false
unfolding walked
value_walked mode v rows is = rw (is.rest, is.long, is.short) refl
value_walked workers v rows is = rw (is.rest, is.long, is.short) refl
value_walked blocks v rows is = rw (is.rest, is.long, is.short) refl
value_walked size v rows is = rw (is.rest, is.long, is.short) refl
value_walked piece v rows is = rw (is.rest, is.long, is.short) refl
value_walked trace v rows is = rw (is.rest, is.long, is.short) refl
value_walked generate v rows is = rw (is.rest, is.long, is.short) refl

file_walked : (b : Bool) (v : Text) (rows : List Row) (p : Option (Text × List Text)) → IsValue v → walked shape.rules [] (between rows p b) v ≡ between (settled_at rows p) (Some (codes "FILE", v ∷ [])) true
unfolding walked
file_walked true v rows p is = rw (is.rest, is.long, is.short) (ap (λ (h : Held). record (walk_at [] None positional) { held = pushed (codes "FILE") v h }) (second _ (held_at rows p) (settled shape.rules (held_at rows p))))
file_walked false v rows p is = rw (is.rest, is.long, is.short) (ap (λ (h : Held). record (walk_at [] None positional) { held = pushed (codes "FILE") v h }) (second _ (held_at rows p) (settled shape.rules (held_at rows p))))

-- ---- what is settled

named_settled : (n : Named) (v : Text) (rows : List Row) → settled_at rows (Some (name_of n, v ∷ [])) ≡ set n v rows
named_settled mode v rows = refl
named_settled workers v rows = refl
named_settled blocks v rows = refl
named_settled size v rows = refl
named_settled piece v rows = refl
named_settled trace v rows = refl
named_settled generate v rows = refl

-- ---- the faults

named_fault : (n : Named) (b : Bool) (rows : List Row) (p : Option (Text × List Text)) → pending_fault rows p ≡ [] → turn_fault shape [] (between rows p b) (45 ∷ 45 ∷ name_of n) ≡ []
named_fault mode true rows p e = ap (λ (k : Kinds). or_else k []) e
named_fault mode false rows p e = ap (λ (k : Kinds). or_else k []) e
named_fault workers true rows p e = ap (λ (k : Kinds). or_else k []) e
named_fault workers false rows p e = ap (λ (k : Kinds). or_else k []) e
named_fault blocks true rows p e = ap (λ (k : Kinds). or_else k []) e
named_fault blocks false rows p e = ap (λ (k : Kinds). or_else k []) e
named_fault size true rows p e = ap (λ (k : Kinds). or_else k []) e
named_fault size false rows p e = ap (λ (k : Kinds). or_else k []) e
named_fault piece true rows p e = ap (λ (k : Kinds). or_else k []) e
named_fault piece false rows p e = ap (λ (k : Kinds). or_else k []) e
named_fault trace true rows p e = ap (λ (k : Kinds). or_else k []) e
named_fault trace false rows p e = ap (λ (k : Kinds). or_else k []) e
named_fault generate true rows p e = ap (λ (k : Kinds). or_else k []) e
named_fault generate false rows p e = ap (λ (k : Kinds). or_else k []) e

value_fault : (n : Named) (v : Text) (rows : List Row) → IsValue v → turn_fault shape [] (walk_at rows (Some (name_of n, [])) (option (name_of n))) v ≡ []
value_fault mode v rows is = rw (is.rest, is.long, is.short) refl
value_fault workers v rows is = rw (is.rest, is.long, is.short) refl
value_fault blocks v rows is = rw (is.rest, is.long, is.short) refl
value_fault size v rows is = rw (is.rest, is.long, is.short) refl
value_fault piece v rows is = rw (is.rest, is.long, is.short) refl
value_fault trace v rows is = rw (is.rest, is.long, is.short) refl
value_fault generate v rows is = rw (is.rest, is.long, is.short) refl

once_fault : (b : Bool) → b ≡ false → or_else (if b && true then kind.ArgumentConflict ∷ [] else []) [] ≡ []
once_fault true e = absurd (cc)
once_fault false e = refl

pending_once : (n : Named) (v : Text) (rows : List Row) → has_row (name_of n) rows ≡ false → pending_fault rows (Some (name_of n, v ∷ [])) ≡ []
pending_once mode v rows e = once_fault _ e
pending_once workers v rows e = once_fault _ e
pending_once blocks v rows e = once_fault _ e
pending_once size v rows e = once_fault _ e
pending_once piece v rows e = once_fault _ e
pending_once trace v rows e = once_fault _ e
pending_once generate v rows e = once_fault _ e

-- what was pending and the joined value leave no fault
either_once : (k : Text) (rows : List Row) (p : Option (Text × List Text)) → pending_fault rows p ≡ [] → has_row k (settled_at rows p) ≡ false → or_else (or_else (pending_fault rows p) (or_else (if has_row k (settled_at rows p) && true then kind.ArgumentConflict ∷ [] else []) [])) [] ≡ []
either_once k rows p e once = ap (λ (x : Kinds). or_else (or_else x (or_else (if has_row k (settled_at rows p) && true then kind.ArgumentConflict ∷ [] else []) [])) []) e ∙ ap (λ (x : Kinds). or_else x []) (once_fault _ once)

joined_fault : (n : Named) (b : Bool) (v : Text) (rows : List Row) (p : Option (Text × List Text)) → pending_fault rows p ≡ [] → has_row (name_of n) (settled_at rows p) ≡ false → turn_fault shape [] (between rows p b) (45 ∷ 45 ∷ (name_of n ++ 61 ∷ v)) ≡ []
joined_fault mode true v rows p e once = either_once (name_of mode) rows p e once
joined_fault mode false v rows p e once = either_once (name_of mode) rows p e once
joined_fault workers true v rows p e once = either_once (name_of workers) rows p e once
joined_fault workers false v rows p e once = either_once (name_of workers) rows p e once
joined_fault blocks true v rows p e once = either_once (name_of blocks) rows p e once
joined_fault blocks false v rows p e once = either_once (name_of blocks) rows p e once
joined_fault size true v rows p e once = either_once (name_of size) rows p e once
joined_fault size false v rows p e once = either_once (name_of size) rows p e once
joined_fault piece true v rows p e once = either_once (name_of piece) rows p e once
joined_fault piece false v rows p e once = either_once (name_of piece) rows p e once
joined_fault trace true v rows p e once = either_once (name_of trace) rows p e once
joined_fault trace false v rows p e once = either_once (name_of trace) rows p e once
joined_fault generate true v rows p e once = either_once (name_of generate) rows p e once
joined_fault generate false v rows p e once = either_once (name_of generate) rows p e once

flag_fault : (b : Bool) (rows : List Row) (p : Option (Text × List Text)) → pending_fault rows p ≡ [] → has_row (codes "fold") (settled_at rows p) ≡ false → turn_fault shape [] (between rows p b) (codes "--fold") ≡ []
flag_fault true rows p e once = either_once (codes "fold") rows p e once
flag_fault false rows p e once = either_once (codes "fold") rows p e once

either_empty : (b : Bool) (k : Kinds) → k ≡ [] → (if b then [] else k) ≡ []
either_empty true k e = refl
either_empty false k e = e

file_fault : (b : Bool) (v : Text) (rows : List Row) (p : Option (Text × List Text)) → IsValue v → pending_fault rows p ≡ [] → turn_fault shape [] (between rows p b) v ≡ []
file_fault true v rows p is e = rw (is.rest, is.long, is.short) (either_empty _ (pending_fault rows p) e)
file_fault false v rows p is e = rw (is.rest, is.long, is.short) (either_empty _ (pending_fault rows p) e)

-- ---- the walk over all uses

-- each option is set for the first time
abbrev pub FitsFrom : List Row → List Use → Type 0
FitsFrom rows [] = Unit {0}
FitsFrom rows (spaced n v ∷ uses) = (has_row (name_of n) rows ≡ false) × (is_plain v ≡ true) × FitsFrom (set n v rows) uses
FitsFrom rows (joined n v ∷ uses) = (has_row (name_of n) rows ≡ false) × FitsFrom (set n v rows) uses
FitsFrom rows (flag ∷ uses) = (has_row (codes "fold") rows ≡ false) × FitsFrom (mark rows) uses
FitsFrom rows (file v ∷ uses) = (is_plain v ≡ true) × FitsFrom (add v rows) uses

-- the walk takes the words, and what is settled at its end are these rows
record Walks (start : Walk) (words : List Text) (rows : List Row) : Type 0 where
  fault : walk_fault shape [] start words ≡ []
  held : List Row
  pending : Option (Text × List Text)
  behind : Bool
  is_trailing : Bool
  end : fold (walked shape.rules []) start words ≡ record (between held pending behind) { is_trailing = is_trailing }
  settles : pending_fault held pending ≡ []
  are : settled_at held pending ≡ rows

one_word : (w next : Walk) (word : Text) (words : List Text) (rows : List Row) → turn_fault shape [] w word ≡ [] → walked shape.rules [] w word ≡ next → Walks next words rows → Walks w (word ∷ words) rows
unfolding walk_fault
one_word w next word words rows none is rest = record {
  fault = ap₂ or_else none (ap (λ (x : Walk). walk_fault shape [] x words) is ∙ rest.fault);
  held = rest.held;
  pending = rest.pending;
  behind = rest.behind;
  is_trailing = rest.is_trailing;
  end = ap (λ (x : Walk). fold (walked shape.rules []) x words) is ∙ rest.end;
  settles = rest.settles;
  are = rest.are;
}

no_words : (t : Bool) (rows : List Row) (p : Option (Text × List Text)) (b : Bool) → pending_fault rows p ≡ [] → Walks (record (between rows p b) { is_trailing = t }) [] (settled_at rows p)
unfolding walk_fault
no_words t rows p b e = record { fault = refl; held = rows; pending = p; behind = b; is_trailing = t; end = refl; settles = e; are = refl }

-- the walk over the words behind the uses leads to `more` rows
module _ (tail : List Text) (more : List Row → List Row) (go : (rows : List Row) (p : Option (Text × List Text)) (b : Bool) → pending_fault rows p ≡ [] → Walks (between rows p b) tail (more (settled_at rows p))) where
  walks : (uses : List Use) (rows : List Row) (p : Option (Text × List Text)) (b : Bool) → pending_fault rows p ≡ [] → FitsFrom (settled_at rows p) uses → Walks (between rows p b) (words_of uses ++ tail) (more (fold told (settled_at rows p) uses))
  walks [] rows p b e fits = go rows p b e
  walks (spaced n v ∷ uses) rows p b e fits =
      let is = plain_value v fits.1 in
      let so_far = settled_at rows p in
      let settled_is = named_settled n v so_far in
      let rest : Walks (between so_far (Some (name_of n, v ∷ [])) false) (words_of uses ++ tail) (more (fold told (settled_at so_far (Some (name_of n, v ∷ []))) uses)) =
      walks uses so_far (Some (name_of n, v ∷ [])) false (pending_once n v so_far fits.0) (subst (λ x. FitsFrom x uses) (sym settled_is) fits.2) in
      one_word _ _ _ _ _ (named_fault n b rows p e) (named_walked n b rows p)
      (one_word _ _ _ _ _ (value_fault n v so_far is) (value_walked n v so_far is)
      (subst (λ x. Walks (between so_far (Some (name_of n, v ∷ [])) false) (words_of uses ++ tail) (more (fold told x uses))) settled_is rest))
  walks (joined n v ∷ uses) rows p b e fits =
      one_word _ _ _ _ _ (joined_fault n b v rows p e fits.0) (joined_walked n b v rows p)
      (walks uses (set n v (settled_at rows p)) None false refl fits.1)
  walks (flag ∷ uses) rows p b e fits =
      one_word _ _ _ _ _ (flag_fault b rows p e fits.0) (flag_walked b rows p)
      (walks uses (mark (settled_at rows p)) None false refl fits.1)
  walks (file v ∷ uses) rows p b e fits =
      let is = plain_value v fits.0 in
      one_word _ _ _ _ _ (file_fault b v rows p is e) (file_walked b v rows p is)
      (walks uses (settled_at rows p) (Some (codes "FILE", v ∷ [])) true refl fits.1)

-- ---- behind `--`

abbrev trailing : List Row → Option (Text × List Text) → Bool → Walk
trailing rows p b = record (between rows p b) { is_trailing = true }

abbrev pub add_more : List Row → Text → List Row
add_more rows v = add v rows

rest_walked : (b : Bool) (v : Text) (rows : List Row) (p : Option (Text × List Text)) → walked shape.rules [] (trailing rows p b) v ≡ trailing (settled_at rows p) (Some (codes "FILE", v ∷ [])) true
unfolding walked
rest_walked b v rows p = ap (λ (h : Held). record (trailing [] None true) { held = pushed (codes "FILE") v h }) (second _ (held_at rows p) (settled shape.rules (held_at rows p)))

rest_fault : (b : Bool) (v : Text) (rows : List Row) (p : Option (Text × List Text)) → pending_fault rows p ≡ [] → turn_fault shape [] (trailing rows p b) v ≡ []
rest_fault b v rows p e = either_empty _ (pending_fault rows p) e

trails : (words : List Text) (rows : List Row) (p : Option (Text × List Text)) (b : Bool) → pending_fault rows p ≡ [] → Walks (trailing rows p b) words (fold add_more (settled_at rows p) words)
trails [] rows p b e = no_words true rows p b e
trails (v ∷ words) rows p b e =
    one_word _ _ _ _ _ (rest_fault b v rows p e) (rest_walked b v rows p)
    (trails words (settled_at rows p) (Some (codes "FILE", v ∷ [])) true refl)

dashes_walked : (b : Bool) (rows : List Row) (p : Option (Text × List Text)) → walked shape.rules [] (between rows p b) (45 ∷ 45 ∷ []) ≡ trailing rows p b
unfolding walked
dashes_walked true rows p = refl
dashes_walked false rows p = refl

dashes_fault : (b : Bool) (rows : List Row) (p : Option (Text × List Text)) → turn_fault shape [] (between rows p b) (45 ∷ 45 ∷ []) ≡ []
dashes_fault true rows p = refl
dashes_fault false rows p = refl

behind_dashes : (words : List Text) (rows : List Row) (p : Option (Text × List Text)) (b : Bool) → pending_fault rows p ≡ [] → Walks (between rows p b) ((45 ∷ 45 ∷ []) ∷ words) (fold add_more (settled_at rows p) words)
behind_dashes words rows p b e = one_word _ _ _ _ _ (dashes_fault b rows p) (dashes_walked b rows p) (trails words rows p b e)

-- ---- defaults: the flag has one

abbrev pub HaveNoDefaults : List Rule → Type 0
HaveNoDefaults [] = Unit {0}
HaveNoDefaults (a ∷ c) = (a.defaults ≡ []) × HaveNoDefaults c

kept : (b : Bool) (rows : List Row) → (if b then rows else rows) ≡ rows
kept true rows = refl
kept false rows = refl

or_empty : (b : Bool) (k : Kinds) → (if b || true then [] else k) ≡ []
or_empty true k = refl
or_empty false k = refl

default_kept : (a : Rule) (rows : List Row) → a.defaults ≡ [] → with_default rows a ≡ rows
default_kept a rows none = ap (λ (ds : List Text). if has_row a.id rows then rows else default_rows a.id (reading_by a) ds rows) none ∙ kept (has_row a.id rows) rows

default_passes : (a : Rule) (rows : List Row) → a.defaults ≡ [] → default_fault rows a ≡ []
default_passes a rows none = ap (λ (ds : List Text). if has_row a.id rows || is_empty ds then [] else given_default_fault a ds) none ∙ or_empty (has_row a.id rows) _

defaults_kept : (c : List Rule) (rows : List Row) → HaveNoDefaults c → fold with_default rows c ≡ rows
defaults_kept [] rows none = refl
defaults_kept (a ∷ c) rows none = ap (λ x. fold with_default x c) (default_kept a rows none.0) ∙ defaults_kept c rows none.1

defaults_pass : (c : List Rule) (rows : List Row) → HaveNoDefaults c → defaults_fault rows c ≡ []
unfolding defaults_fault
defaults_pass [] rows none = refl
defaults_pass (a ∷ c) rows none = ap₂ or_else (default_passes a rows none.0) (ap (λ x. defaults_fault x c) (default_kept a rows none.0) ∙ defaults_pass c rows none.1)

module _ (front back : List Rule) (a : Rule) (no_front : HaveNoDefaults front) (no_back : HaveNoDefaults back) where
  defaults_kept_around : (rows : List Row) → fold with_default rows (front ++ a ∷ back) ≡ with_default rows a
  defaults_kept_around rows = around front no_front rows
    where
      around : (front : List Rule) → HaveNoDefaults front → (rows : List Row) → fold with_default rows (front ++ a ∷ back) ≡ with_default rows a
      around [] none rows = defaults_kept back (with_default rows a) no_back
      around (r ∷ rs) none rows = ap (λ x. fold with_default x (rs ++ a ∷ back)) (default_kept r rows none.0) ∙ around rs none.1 rows

  defaults_pass_around : ((rows : List Row) → default_fault rows a ≡ []) → (rows : List Row) → defaults_fault rows (front ++ a ∷ back) ≡ []
  unfolding defaults_fault
  defaults_pass_around pass rows = around front no_front rows
    where
      around : (front : List Rule) → HaveNoDefaults front → (rows : List Row) → defaults_fault rows (front ++ a ∷ back) ≡ []
      around [] none rows = ap₂ or_else (pass rows) (defaults_pass back (with_default rows a) no_back)
      around (r ∷ rs) none rows = ap₂ or_else (default_passes r rows none.0) (ap (λ x. defaults_fault x (rs ++ a ∷ back)) (default_kept r rows none.0) ∙ around rs none.1 rows)

abbrev fold_rule : Rule
fold_rule = with_index 1 (filled (flag_rule (codes "fold")))

or_nothing : (b : Bool) (k : Kinds) → k ≡ [] → (if b || false then [] else k) ≡ []
or_nothing true k e = refl
or_nothing false k e = e

fold_passes : (rows : List Row) → default_fault rows fold_rule ≡ []
fold_passes rows = or_nothing (has_row (codes "fold") rows) (given_default_fault fold_rule fold_rule.defaults) refl

-- the rows with the flag's default, where it isn't given
abbrev pub completed : List Row → List Row
completed rows = with_default rows fold_rule

no_front_defaults : HaveNoDefaults (take 7 shape.rules)
no_front_defaults = (refl, (refl, (refl, (refl, (refl, (refl, (refl, tt)))))))

no_back_defaults : HaveNoDefaults (drop 8 shape.rules)
no_back_defaults = (refl, (refl, tt))

rules_kept : (rows : List Row) → fold with_default rows shape.rules ≡ completed rows
rules_kept rows = defaults_kept_around (take 7 shape.rules) (drop 8 shape.rules) fold_rule no_front_defaults no_back_defaults rows

rules_pass : (rows : List Row) → defaults_fault rows shape.rules ≡ []
rules_pass rows = defaults_pass_around (take 7 shape.rules) (drop 8 shape.rules) fold_rule no_front_defaults no_back_defaults fold_passes rows

-- ---- the reading

abbrev level : List Text → Walk → Kinds
level words w =
    or_else (walk_fault shape [] (between [] None false) words)
    (or_else (entered_fault (built profile_app) w.stopped) (or_else (settle_fault shape.rules false w.held)
    (or_else (defaults_fault (settled shape.rules w.held).rows shape.rules)
    (check_fault shape (finished shape.rules w.held) (is_some (entered (built profile_app) w.stopped))))))

all_pass : (f s d : Kinds) → f ≡ [] → s ≡ [] → d ≡ [] → or_else f (or_else [] (or_else s (or_else d []))) ≡ []
all_pass f s d ef es ed = ap₂ (λ (x y : Kinds). or_else x (or_else [] (or_else y (or_else d [])))) ef es ∙ ap (λ (z : Kinds). or_else z []) ed

module _ (words : List Text) (rows : List Row) (w : Walks (between [] None false) words rows) where
  no_fault : fault_of profile_app (codes "bbq-profile" ∷ words) ≡ []
  no_fault =
      ap (level words) w.end
      ∙ all_pass _ _ _ w.fault w.settles (rules_pass (settled_at w.held w.pending))

  found : matches_of profile_app (codes "bbq-profile" ∷ words) ≡ completed rows
  found = ap (λ (x : Walk). finished shape.rules x.held) w.end ∙ (rules_kept (settled_at w.held w.pending) ∙ ap completed w.are)

  walked_reading : read_words words ≡ Ok (completed rows)
  walked_reading = read_as_found (codes "bbq-profile" ∷ words) (completed rows) no_fault (sym found)

nothing_more : (words : List Text) → words ++ [] ≡ words
nothing_more [] = refl
nothing_more (w ∷ words) = ap (λ (ws : List Text). w ∷ ws) (nothing_more words)

-- what is read of the words of uses
pub uses_reading : (uses : List Use) → FitsFrom [] uses → read_words (words_of uses) ≡ Ok (completed (fold told [] uses))
uses_reading uses fits =
    ap read_words (sym (nothing_more (words_of uses)))
    ∙ walked_reading (words_of uses ++ []) (fold told [] uses) (walks [] (λ rows. rows) (no_words false) uses [] None false refl fits)

-- and with more words behind `--`
pub trailing_reading : (uses : List Use) (words : List Text) → FitsFrom [] uses → read_words (words_of uses ++ codes "--" ∷ words) ≡ Ok (completed (fold add_more (fold told [] uses) words))
trailing_reading uses words fits =
    walked_reading (words_of uses ++ codes "--" ∷ words) (fold add_more (fold told [] uses) words)
    (walks ((45 ∷ 45 ∷ []) ∷ words) (λ rows. fold add_more rows words) (behind_dashes words) uses [] None false refl fits)
