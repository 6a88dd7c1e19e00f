-- A line feed behind a text that was printed changes none of its tokens.
use Rattle.std.proofs.Common.{◌≡◌, ℕ, Bool, true, false, cond, ◌&&◌, List, [], ◌∷◌, ◌++◌, refl, sym, ap, ap₂, ◌∙◌, append_assoc}
use Rattle.json.specs.Token.{Token, begin_object, end_object, begin_array, end_array, key, string, number, boolean, null, bad}
use Rattle.json.specs.Word.{ends_word, word}
use Rattle.json.specs.Lex.{Lexeme, token, string_token, lex, between, fresh, punctuate, tokens}
use Rattle.json.specs.Print.{escape, quoted, token_text, begins, ends, separator, print_from, print, IsPrintable, ArePrintable}
use Rattle.json.proofs.Printed.Strings.{content-escape, lex-escape}
use Rattle.json.proofs.Printed.Numbers.{lex-number, in_word-ended}
use Rattle.json.proofs.Printed.Tokens.{tokens-print}

-- the lexemes of two texts are the same
abbrev LexAlike : List ℕ → List ℕ → Type 0
LexAlike r s = lex between r ≡ lex between s

quoted_alike : (q r s : List ℕ) → LexAlike r s → LexAlike (quoted q ++ r) (quoted q ++ s)
unfolding lex
quoted_alike q r s same = lexed r ∙ ap (λ l. token (string q) ∷ l) same ∙ sym (lexed s)
  where
    lexed : (r : List ℕ) → lex between (quoted q ++ r) ≡ token (string q) ∷ lex between r
    lexed r = ap (λ l. lex between (34 ∷ l)) (append_assoc (escape q) (34 ∷ []) r) ∙ ap₂ (λ o l. token (string_token o) ∷ l) (content-escape q r) (lex-escape q r)

-- what was alike is so behind a token
token_alike : (t : Token) (r s : List ℕ) → IsPrintable t → (ends t ≡ true → (ends_word r ≡ true) × (ends_word s ≡ true)) → LexAlike r s → LexAlike (token_text t ++ r) (token_text t ++ s)
unfolding lex word
token_alike begin_object r s h ended same = ap (λ l. token begin_object ∷ l) same
token_alike end_object r s h ended same = ap (λ l. token end_object ∷ l) same
token_alike begin_array r s h ended same = ap (λ l. token begin_array ∷ l) same
token_alike end_array r s h ended same = ap (λ l. token end_array ∷ l) same
token_alike (key k) r s h ended same =
    ap (lex between) (append_assoc (quoted k) (58 ∷ []) r) ∙ quoted_alike k (58 ∷ r) (58 ∷ s) (ap (λ l. Lexeme.colon ∷ l) same) ∙ sym (ap (lex between) (append_assoc (quoted k) (58 ∷ []) s))
token_alike (string k) r s h ended same = quoted_alike k r s same
token_alike (number n) r s h ended same = lex-number n r h (ended refl).0 ∙ ap (λ l. token (number n) ∷ l) same ∙ sym (lex-number n s h (ended refl).1)
token_alike (boolean true) r s h ended same = rw ((ended refl).0, (ended refl).1, in_word-ended r (ended refl).0, in_word-ended s (ended refl).1) (ap (λ l. token (boolean true) ∷ l) same)
token_alike (boolean false) r s h ended same = rw ((ended refl).0, (ended refl).1, in_word-ended r (ended refl).0, in_word-ended s (ended refl).1) (ap (λ l. token (boolean false) ∷ l) same)
token_alike null r s h ended same = rw ((ended refl).0, (ended refl).1, in_word-ended r (ended refl).0, in_word-ended s (ended refl).1) (ap (λ l. token null ∷ l) same)
token_alike bad r s h ended same = absurd h

separator_alike : (b : Bool) (r s : List ℕ) → LexAlike r s → LexAlike (cond b (44 ∷ []) [] ++ r) (cond b (44 ∷ []) [] ++ s)
unfolding lex
separator_alike true r s same = ap (λ l. Lexeme.comma ∷ l) same
separator_alike false r s same = same

-- behind a value stands a comma, a closing bracket or the end
value_ended : (ts : List Token) → (ends_word (print_from true ts ++ 10 ∷ []) ≡ true) × (ends_word (print_from true ts) ≡ true)
unfolding print_from
value_ended [] = (refl, refl)
value_ended (begin_object ∷ ts) = (refl, refl)
value_ended (end_object ∷ ts) = (refl, refl)
value_ended (begin_array ∷ ts) = (refl, refl)
value_ended (end_array ∷ ts) = (refl, refl)
value_ended (key s ∷ ts) = (refl, refl)
value_ended (string s ∷ ts) = (refl, refl)
value_ended (number s ∷ ts) = (refl, refl)
value_ended (boolean b ∷ ts) = (refl, refl)
value_ended (null ∷ ts) = (refl, refl)
value_ended (bad ∷ ts) = (refl, refl)

ended_by : (b : Bool) (ts : List Token) → b ≡ true → (ends_word (print_from b ts ++ 10 ∷ []) ≡ true) × (ends_word (print_from b ts) ≡ true)
ended_by true ts e = value_ended ts
ended_by false ts e = cc

printed_alike : (c : Bool) (ts : List Token) → ArePrintable ts → LexAlike (print_from c ts ++ 10 ∷ []) (print_from c ts)
unfolding lex print_from ArePrintable
printed_alike c [] h = refl
printed_alike c (t ∷ ts) h =
    let rest = print_from (ends t) ts in
    ap (lex between) (append_assoc (separator c t) (token_text t ++ rest) (10 ∷ []) ∙ ap (λ l. separator c t ++ l) (append_assoc (token_text t) rest (10 ∷ [])))
    ∙ separator_alike (c && begins t) _ _ (token_alike t _ _ h.0 (ended_by (ends t) ts) (printed_alike (ends t) ts h.1))

pub tokens-line : (ts : List Token) → ArePrintable ts → tokens (print ts ++ 10 ∷ []) ≡ ts
tokens-line ts h = ap (punctuate fresh) (printed_alike false ts h) ∙ tokens-print ts h
