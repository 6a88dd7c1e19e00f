-- Data whose text on a line reads back as that data.
use Rattle.std.proofs.Common.{◌≡◌, ℕ, suc, max, ◌<◌, ◌≤◌, ◌^◌, List, [], ◌∷◌, ◌++◌, Bool, true, false, Option, Some, option_map, option_and_then, decimal, refl, sym, ap, ap₂, ◌∙◌, arith, append-nil}
use Rattle.std.specs.Prelude.{⊤}
use Rattle.std.specs.Str.{IsUtf8}
use Rattle.std.proofs.lemmas.Fmt.{IsAscii-decimal}
use Rattle.std.proofs.lemmas.Str.{IsUtf8-append, IsUtf8-nil, IsUtf8-from_ascii}
use Rattle.json.specs.Token.{Token}
use Rattle.json.specs.Lex.{tokens}
use Rattle.json.specs.Print.{quoted}
use Rattle.json.specs.Json as json
use Rattle.json.specs.Tree as tree
use Rattle.json.proofs.Printed.Decimals.{IsNumber-decimal}
use Rattle.json.proofs.Printed.Trees.{value-json_tokens, ArePrintable-json_tokens}
use Rattle.json.proofs.Printed.Utf8.{IsUtf8-are_ascii, IsUtf8-quoted, IsUtf8-boolean}
use Rattle.serde_json.specs.Data.{Num, unsigned, negative, float, Data, null, boolean, number, string, array, object, Items, no_items, item, Members, no_members, member, put, depth, items_depth, members_depth}
use Rattle.serde_json.specs.Read.{read, max_depth, of_json, of_items, of_members}
use Rattle.serde_json.specs.Written.{outline, items_outline, members_outline, comma_if, compact_text, items_text, members_text}
use Rattle.serde_json.proofs.Numbers.{number_of-decimal}
use Rattle.serde_json.proofs.Texts.{print-outline}
use Rattle.trace_read.proofs.Document.{document_of-some}
use Rattle.trace_read.proofs.Newline.{tokens-line}
use Rattle.trace_read.specs.Reading.{document_of}

-- the members, put in one after another behind those that were found
abbrev pub rebuilt : Members → Members → Members
rebuilt no_members found = found
rebuilt (member k d ms) found = rebuilt ms (put k d found)

-- whole numbers of 64 bits and texts of characters, and objects whose members are in order
abbrev pub NumberIsWritten : Num → Type 0
NumberIsWritten (unsigned n) = n < 2 ^ 64
NumberIsWritten (negative z) = ⊥
NumberIsWritten (float x) = ⊥

abbrev mutual
  pub IsWritten : Data → Type 0
  IsWritten null = ⊤
  IsWritten (boolean b) = ⊤
  IsWritten (number n) = NumberIsWritten n
  IsWritten (string s) = IsUtf8 s
  IsWritten (array ds) = ItemsAreWritten ds
  IsWritten (object ms) = MembersAreWritten ms × (rebuilt ms no_members ≡ ms)

  pub ItemsAreWritten : Items → Type 0
  ItemsAreWritten no_items = ⊤
  ItemsAreWritten (item d ds) = IsWritten d × ItemsAreWritten ds

  pub MembersAreWritten : Members → Type 0
  MembersAreWritten no_members = ⊤
  MembersAreWritten (member k d ms) = IsUtf8 k × IsWritten d × MembersAreWritten ms

-- ---- the outline of such data is read as the data

mutual
  of_json-outline : (d : Data) → IsWritten d → of_json (outline d) ≡ Some d
  of_json-outline null h = refl
  of_json-outline (boolean b) h = refl
  of_json-outline (number (unsigned n)) h = ap (option_map number) (number_of-decimal n h)
  of_json-outline (number (negative z)) h = absurd h
  of_json-outline (number (float x)) h = absurd h
  of_json-outline (string s) h = refl
  of_json-outline (array ds) h = ap (option_map array) (of_items-outline ds h)
  of_json-outline (object ms) h = ap (option_map object) (of_members-outline ms no_members h.0 ∙ ap Some h.1)

  of_items-outline : (ds : Items) → ItemsAreWritten ds → of_items (items_outline ds) ≡ Some ds
  of_items-outline no_items h = refl
  of_items-outline (item d ds) h =
      ap (option_and_then (λ e. option_map (item e) (of_items (items_outline ds)))) (of_json-outline d h.0) ∙ ap (option_map (item d)) (of_items-outline ds h.1)

  of_members-outline : (ms found : Members) → MembersAreWritten ms → of_members (members_outline ms) found ≡ Some (rebuilt ms found)
  of_members-outline no_members found h = refl
  of_members-outline (member k d ms) found h =
      ap (option_and_then (λ e. of_members (members_outline ms) (put k e found))) (of_json-outline d h.1) ∙ of_members-outline ms (put k d found) h.2

-- ---- its numbers are numbers, and it nests as deep

mutual
  numbers-outline : (d : Data) → IsWritten d → tree.HasNumbers (outline d)
  numbers-outline null h = tt
  numbers-outline (boolean b) h = tt
  numbers-outline (number (unsigned n)) h = IsNumber-decimal n h
  numbers-outline (number (negative z)) h = absurd h
  numbers-outline (number (float x)) h = absurd h
  numbers-outline (string s) h = tt
  numbers-outline (array ds) h = items_numbers-outline ds h
  numbers-outline (object ms) h = members_numbers-outline ms h.0

  items_numbers-outline : (ds : Items) → ItemsAreWritten ds → tree.ItemsHaveNumbers (items_outline ds)
  items_numbers-outline no_items h = tt
  items_numbers-outline (item d ds) h = (numbers-outline d h.0, items_numbers-outline ds h.1)

  members_numbers-outline : (ms : Members) → MembersAreWritten ms → tree.MembersHaveNumbers (members_outline ms)
  members_numbers-outline no_members h = tt
  members_numbers-outline (member k d ms) h = (numbers-outline d h.1, members_numbers-outline ms h.2)

mutual
  depth-outline : (d : Data) → tree.depth (outline d) ≡ depth d
  depth-outline null = refl
  depth-outline (boolean b) = refl
  depth-outline (number n) = refl
  depth-outline (string s) = refl
  depth-outline (array ds) = ap suc (items_depth-outline ds)
  depth-outline (object ms) = ap suc (members_depth-outline ms)

  items_depth-outline : (ds : Items) → tree.items_depth (items_outline ds) ≡ items_depth ds
  items_depth-outline no_items = refl
  items_depth-outline (item d ds) = ap₂ max (depth-outline d) (items_depth-outline ds)

  members_depth-outline : (ms : Members) → tree.members_depth (members_outline ms) ≡ members_depth ms
  members_depth-outline no_members = refl
  members_depth-outline (member k d ms) = ap₂ max (depth-outline d) (members_depth-outline ms)

-- ---- its text is UTF-8

behind : (x : ℕ) (text : List ℕ) → IsUtf8 (x ∷ []) → IsUtf8 text → IsUtf8 (x ∷ text)
behind x text first rest = IsUtf8-append (x ∷ []) text first rest

comma_utf8 : (later : Bool) → IsUtf8 (comma_if later)
comma_utf8 true = IsUtf8-are_ascii (44 ∷ []) refl
comma_utf8 false = IsUtf8-nil

mutual
  text_utf8 : (d : Data) → IsWritten d → IsUtf8 (compact_text d)
  text_utf8 null h = IsUtf8-are_ascii _ refl
  text_utf8 (boolean b) h = IsUtf8-boolean b
  text_utf8 (number (unsigned n)) h = IsUtf8-from_ascii (decimal n) (IsAscii-decimal n h)
  text_utf8 (number (negative z)) h = absurd h
  text_utf8 (number (float x)) h = absurd h
  text_utf8 (string s) h = IsUtf8-quoted s h
  text_utf8 (array ds) h = behind 91 _ (IsUtf8-are_ascii (91 ∷ []) refl) (items_utf8 false ds h)
  text_utf8 (object ms) h = behind 123 _ (IsUtf8-are_ascii (123 ∷ []) refl) (members_utf8 false ms h.0)

  items_utf8 : (later : Bool) (ds : Items) → ItemsAreWritten ds → IsUtf8 (items_text later ds)
  items_utf8 later no_items h = IsUtf8-are_ascii (93 ∷ []) refl
  items_utf8 later (item d ds) h = IsUtf8-append (comma_if later) _ (comma_utf8 later) (IsUtf8-append (compact_text d) _ (text_utf8 d h.0) (items_utf8 true ds h.1))

  members_utf8 : (later : Bool) (ms : Members) → MembersAreWritten ms → IsUtf8 (members_text later ms)
  members_utf8 later no_members h = IsUtf8-are_ascii (125 ∷ []) refl
  members_utf8 later (member k d ms) h =
      IsUtf8-append (comma_if later) _ (comma_utf8 later)
      (IsUtf8-append (quoted k) _ (IsUtf8-quoted k h.0)
      (behind 58 _ (IsUtf8-are_ascii (58 ∷ []) refl) (IsUtf8-append (compact_text d) _ (text_utf8 d h.1) (members_utf8 true ms h.2))))

-- ---- the round trip

-- the value of a whole text, by what was read of it
abbrev whole : Option (json.Json × List Token) → Option Data
whole found = option_and_then of_json (option_and_then (λ p. json.if_last p.0 p.1) found)

read-line : (d : Data) → IsWritten d → depth d ≤ max_depth → read (compact_text d ++ 10 ∷ []) ≡ Some d
read-line d h shallow =
    let same : tokens (compact_text d ++ 10 ∷ []) ≡ tree.json_tokens (outline d) =
    ap (λ l. tokens (l ++ 10 ∷ [])) (sym (print-outline d)) ∙ tokens-line (tree.json_tokens (outline d)) (ArePrintable-json_tokens (outline d) (numbers-outline d h)) in
    ap whole (ap (json.value max_depth) (same ∙ sym (append-nil _)) ∙ value-json_tokens (outline d) max_depth [] (omega (arith, depth-outline d))) ∙ of_json-outline d h

pub document_of-line : (d : Data) → IsWritten d → depth d ≤ max_depth → document_of (compact_text d ++ 10 ∷ []) ≡ Some d
document_of-line d h shallow =
    document_of-some (compact_text d ++ 10 ∷ []) d (IsUtf8-append (compact_text d) (10 ∷ []) (text_utf8 d h) (IsUtf8-are_ascii (10 ∷ []) refl)) (read-line d h shallow)
