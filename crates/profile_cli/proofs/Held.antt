-- The texts of an input, one after another, as they are made and read.
use Rattle.std.proofs.Common.{◌≡◌, ℕ, ◌+◌, ◌<◌, ◌≤◌, List, [], ◌∷◌, ◌++◌, length, get_or, map, take, drop, refl, sym, ap, subst, ◌∙◌, arith, inl, inr, below_more, take_all, length-append, append_assoc}
use Rattle.std.specs.Prelude.{sum_by, Option, Some, None, IfSome, IsSome, String, string_bytes, unwrap_or, ◌⊎◌}
use Rattle.std.specs.List.{AllZip}
use Rattle.std.proofs.Math.Seq.{get_or-append_seam}
use Rattle.std.proofs.Math.ListN.{get_or-append}
use Rattle.std.proofs.lemmas.List.{length-map, get_or_default, get_or-append-add, take_more, take-append-drop, take-append-le}
use Rattle.std.proofs.Math.ListN as listn
use Rattle.std.proofs.lemmas.List.Sums.{sum_by-append}
use Rattle.command_words.specs.Texts.{bytes_of}
use Rattle.generated_words.specs.Generated.{generated_text}
use Rattle.flow_io.specs.Reading.{IfHeld}
use Rattle.flow_io.specs.Flow.{Files, HoldsNone}
use Rattle.profile_cli.specs.declared.ending.Ending.{Ending}
use Rattle.profile_cli.specs.declared.ending.Ending.TheVariants.{OutOfMemory, Unread, TooLarge, TooMuch}
use Rattle.profile_cli.specs.Input.{AreRead, IsDue, IsInput, IsReached, IsRead, IsTextOf, Origin, StopsReading, input_of, known, made_of, origin_at}
use Rattle.profile_cli.specs.Input.Origin.{file, made}
use Rattle.profile_cli.specs.Input.IsDue.{missing, too_large, too_much}
use Rattle.profile_cli.specs.Texts.{input_limit, text_limit}

-- ---- lists side by side

zip_append : {A B : Type 0} (R : A → B → Type 0) (xs more : List A) (ys others : List B) → AllZip R xs ys → AllZip R more others → AllZip R (xs ++ more) (ys ++ others)
zip_append R [] more [] others a b = b
zip_append R [] more (y ∷ ys) others a b = absurd a
zip_append R (x ∷ xs) more [] others a b = absurd a
zip_append R (x ∷ xs) more (y ∷ ys) others a b = (a.0, zip_append R xs more ys others a.1 b)

zip_map : {A B : Type 0} (R : A → B → Type 0) (f : A → B) → ((x : A) → R x (f x)) → (xs : List A) → AllZip R xs (map f xs)
zip_map R f all [] = tt
zip_map R f all (x ∷ xs) = (all x, zip_map R f all xs)

-- ---- what is known of one text

-- it is held or made, and this is so of it
abbrev pub IfKnown : Option Files → Origin → (List ℕ → Type 0) → Type 0
IfKnown files origin P = IfSome (known files origin) (λ is. (bytes : List ℕ) × (is ≡ Some bytes) × P bytes)

abbrev some_text : Option (Option (List ℕ)) → List ℕ
some_text None = []
some_text (Some is) = unwrap_or is []

some_told : (is : Option (Option (List ℕ))) → IfSome is (λ bytes. some_text is ≡ unwrap_or bytes [])
some_told None = tt
some_told (Some is) = refl

told_there : (is : Option (Option (List ℕ))) (P : List ℕ → Type 0) → IfSome is (λ o. (bytes : List ℕ) × (o ≡ Some bytes) × P bytes) → IfSome is IsSome
told_there None P h = tt
told_there (Some is) P h = subst IsSome (sym h.1) refl

told_text : (is : Option (Option (List ℕ))) (text : List ℕ) → IfSome is (λ o. (bytes : List ℕ) × (o ≡ Some bytes) × (text ≡ bytes)) → IfSome is (λ bytes. text ≡ unwrap_or bytes [])
told_text None text h = tt
told_text (Some is) text h = h.2 ∙ sym (ap (λ (o : Option (List ℕ)). unwrap_or o []) h.1)

of_file : (files : Option Files) (name : List ℕ) (P : List ℕ → Type 0) → IfHeld files name P → IfKnown files (file name) P
of_file None name P h = tt
of_file (Some held) name P h = h

none_of_file : (files : Option Files) (name : List ℕ) → HoldsNone files name → known files (file name) ≡ Some None
none_of_file None name h = absurd h
none_of_file (Some held) name h = ap (λ (o : Option (List ℕ)). Some o) h

-- ---- the first texts of an input

-- these are the first n texts
pub record AreFirst (origins : List Origin) (files : Option Files) (n : ℕ) (texts : List (List ℕ)) : Type 0 where
  pub number : length texts ≡ n
  pub are : AllZip (IsTextOf files) (take n origins) texts

-- an input that begins with these texts
pub record Begins (origins : List Origin) (files : Option Files) (texts : List (List ℕ)) : Type 0 where
  pub all : List (List ℕ)
  pub rest : List (List ℕ)
  pub parts : all ≡ texts ++ rest
  pub is : IsInput (input_of origins files all)

abbrev some_texts : Option Files → List Origin → List (List ℕ)
some_texts files origins = map (λ origin. some_text (known files origin)) origins

are_some : (files : Option Files) (origins : List Origin) → AllZip (IsTextOf files) origins (some_texts files origins)
are_some files origins = zip_map (IsTextOf files) (λ origin. some_text (known files origin)) (λ origin. some_told (known files origin)) origins

begins : (origins : List Origin) (texts : List (List ℕ)) (n : ℕ) (files : Option Files) → AreFirst origins files n texts → Begins origins files texts
begins origins texts n files first =
    let rest = some_texts files (drop n origins) in
    record {
      all = texts ++ rest;
      rest = rest;
      parts = refl;
      is = subst (λ (os : List Origin). AllZip (IsTextOf files) os (texts ++ rest)) (take-append-drop n origins)
          (zip_append (IsTextOf files) (take n origins) (drop n origins) texts rest first.are (are_some files (drop n origins)));
    }

-- there is an input of these origins
pub some_input : (origins : List Origin) (files : Option Files) → (texts : List (List ℕ)) × IsInput (input_of origins files texts)
some_input origins files = (some_texts files origins, are_some files origins)

pub whole_input : (origins : List Origin) (texts : List (List ℕ)) (n : ℕ) (files : Option Files) → n ≡ length origins → AreFirst origins files n texts → AreRead (input_of origins files texts) n → IsInput (input_of origins files texts) × AreRead (input_of origins files texts) (length origins)
whole_input origins texts n files e first read = (
  subst (λ (os : List Origin). AllZip (IsTextOf files) os texts) (take_all n origins (omega arith)) first.are,
  subst (AreRead (input_of origins files texts)) e read,
)

-- what is so of the first texts is so of an input that begins with them
module _ (origins : List Origin) (files : Option Files) (texts all rest : List (List ℕ)) (parts : all ≡ texts ++ rest) where
  same_text : (k : ℕ) → k < length texts → get_or all k [] ≡ get_or texts k []
  same_text k lt = ap (λ (l : List (List ℕ)). get_or l k []) parts ∙ get_or-append texts rest [] k lt

  same_front : (k : ℕ) → k ≤ length texts → take k all ≡ take k texts
  same_front k le = ap (take k) parts ∙ take-append-le k texts rest le

  pub still_read : (n : ℕ) → n ≤ length texts → AreRead (input_of origins files texts) n → AreRead (input_of origins files all) n
  still_read n le read = λ k lt. record {
    there = (read k lt).there;
    small = subst (λ (t : List ℕ). length t ≤ text_limit) (sym (same_text k (omega arith))) (read k lt).small;
    fits = subst (λ (ts : List (List ℕ)). sum_by length ts ≤ input_limit) (sym (same_front (k + 1) (omega arith))) (read k lt).fits;
  }

-- one text more
module _ (origins : List Origin) (n : ℕ) (lt : n < length origins) (texts more : List (List ℕ)) (text : List ℕ) (pushed : more ≡ texts ++ text ∷ []) where
  pub first_more : (files : Option Files) → AreFirst origins files n texts → IfKnown files (origin_at origins n) (λ bytes. text ≡ bytes) → AreFirst origins files (n + 1) more
  first_more files first one =
      let k = first.number in let a = ap length pushed ∙ length-append texts (text ∷ []) in
      record {
        number = omega arith;
        are = subst (λ (os : List Origin). AllZip (IsTextOf files) os more) (sym (take_more origins n (file []) lt))
            (subst (λ (ts : List (List ℕ)). AllZip (IsTextOf files) (take n origins ++ origin_at origins n ∷ []) ts) (sym pushed)
            (zip_append (IsTextOf files) (take n origins) (origin_at origins n ∷ []) texts (text ∷ []) first.are (told_text (known files (origin_at origins n)) text one, tt)));
      }

  module _ (number : length texts ≡ n) where
    text_last : get_or more n [] ≡ text
    text_last = ap (λ (l : List (List ℕ)). get_or l n []) pushed ∙ ap (λ (k : ℕ). get_or (texts ++ text ∷ []) k []) (sym number) ∙ get_or-append_seam texts text [] []

    length_more : length more ≡ n + 1
    length_more = let a = ap length pushed ∙ length-append texts (text ∷ []) in omega arith

    more_whole : take (n + 1) more ≡ more
    more_whole = let a = length_more in take_all (n + 1) more (omega arith)

    module _ (files : Option Files) (read : AreRead (input_of origins files texts) n) where
      pub read_more : IfKnown files (origin_at origins n) (λ bytes. text ≡ bytes) → length text ≤ text_limit → sum_by length more ≤ input_limit → AreRead (input_of origins files more) (n + 1)
      read_more one small fits =
          below_more (IsRead (input_of origins files more)) n (still_read origins files texts more (text ∷ []) pushed n (omega arith) read) (record {
            there = told_there (known files (origin_at origins n)) (λ bytes. text ≡ bytes) one;
            small = subst (λ (t : List ℕ). length t ≤ text_limit) (sym text_last) small;
            fits = subst (λ (ts : List (List ℕ)). sum_by length ts ≤ input_limit) (sym more_whole) fits;
          })

      -- where an input goes on so, its texts before this one can be had, and this is one of its texts
      module _ (all rest : List (List ℕ)) (parts : all ≡ more ++ rest) where
        reached : IsReached (input_of origins files all) n
        reached = record { number = lt; before = still_read origins files texts all (text ∷ rest) (parts ∙ ap (λ (l : List (List ℕ)). l ++ rest) pushed ∙ append_assoc texts (text ∷ []) rest) n (omega arith) read }

        text_in : get_or all n [] ≡ text
        text_in = let a = length_more in same_text origins files more all rest parts n (omega arith) ∙ text_last

        sums_in : take (n + 1) all ≡ more
        sums_in = let a = length_more in same_front origins files more all rest parts (n + 1) (omega arith) ∙ more_whole

-- ---- the texts that are made

no_texts : (origins : List Origin) (files : Option Files) → AreFirst origins files 0 []
no_texts origins files = record { number = refl; are = tt }

none_read : (origins : List Origin) (texts : List (List ℕ)) (files : Option Files) → AreRead (input_of origins files texts) 0
none_read origins texts files = λ i lt. (let no : ⊥ = omega (arith, lt) in absurd no)

-- the texts that are made come first, and they can be had
pub made_first : (generated : Option ℕ) (others : List Origin) (files : Option Files) (texts : List (List ℕ)) → AllZip (IsTextOf None) (made_of generated) texts → sum_by length texts ≤ text_limit
    → AreFirst (made_of generated ++ others) files (length (made_of generated)) texts × AreRead (input_of (made_of generated ++ others) files texts) (length (made_of generated))
made_first None others files [] zip small = (no_texts others files, none_read others [] files)
made_first None others files (text ∷ texts) zip small = absurd zip
made_first (Some words) others files [] zip small = absurd zip
made_first (Some words) others files (text ∷ []) zip small =
    let origins = made words ∷ others in
    let one : IfKnown files (made words) (λ bytes. text ≡ bytes) = (generated_text words, refl, zip.0) in
    let sum : sum_by length (text ∷ []) ≡ length text = omega arith in (
      first_more origins 0 (omega arith) [] (text ∷ []) text refl files (no_texts origins files) one,
      read_more origins 0 (omega arith) [] (text ∷ []) text refl refl files (none_read origins [] files) one (omega (arith, sum, small)) (omega (arith, small)),
    )
made_first (Some words) others files (text ∷ x ∷ texts) zip small = absurd zip.1

-- ---- why reading stops

-- of some input of these origins
abbrev pub Stops : List Origin → Option Files → Type 0 → Ending → Type 0
Stops origins files rose ending =
    (texts : List (List ℕ)) × (IsInput (input_of origins files texts) × ((piece : ℕ) → IsDue piece (input_of origins files texts) ending ⊎ StopsReading (input_of origins files texts) rose ending))

pub stops_memory : (origins : List Origin) (files : Option Files) (rose : Type 0) → Stops origins files rose OutOfMemory
stops_memory origins files rose = let some = some_input origins files in (some.0, (some.1, λ piece. inr tt))

-- of a text that is too large one byte more than it may have is read
large_text : (files : Option Files) (origin : Origin) (text : List ℕ) → length text ≡ text_limit + 1 → IfKnown files origin (λ bytes. (text ≡ take (text_limit + 1) bytes) × (text_limit < length bytes)) → (whole : List ℕ) × (IfKnown files origin (λ bytes. whole ≡ bytes) × (text_limit < length whole))
large_text files origin text size one = told (known files origin) one
  where
    told : (is : Option (Option (List ℕ))) → IfSome is (λ o. (bytes : List ℕ) × (o ≡ Some bytes) × ((text ≡ take (text_limit + 1) bytes) × (text_limit < length bytes))) → (whole : List ℕ) × (IfSome is (λ o. (bytes : List ℕ) × (o ≡ Some bytes) × (whole ≡ bytes)) × (text_limit < length whole))
    told None h = (text, (tt, omega arith))
    told (Some is) h = (h.0, ((h.0, h.1, refl), h.2.1))

module _ (origins : List Origin) (n : ℕ) (texts : List (List ℕ)) (rose : Type 0) (lt : n < length origins) where
  pub stops_unread : (files : Option Files) → AreFirst origins files n texts → AreRead (input_of origins files texts) n → rose ⊎ (known files (origin_at origins n) ≡ Some None) → Stops origins files rose (Unread n)
  stops_unread files first read cause =
      let b = begins origins texts n files first in
      let reached : IsReached (input_of origins files b.all) n = record { number = lt; before = still_read origins files texts b.all b.rest b.parts n (let k = first.number in omega arith) read } in
      (b.all, (b.is, λ piece. elim cause [ inl fault ↦ inr (reached, fault) | inr none ↦ inl (missing n (record { reached = reached; missing = none })) ]))

  pub stops_too_much : (files : Option Files) (text : List ℕ) (more : List (List ℕ)) → AreFirst origins files n texts → AreRead (input_of origins files texts) n → IfKnown files (origin_at origins n) (λ bytes. text ≡ bytes) → more ≡ texts ++ text ∷ [] → length text ≤ text_limit → input_limit < sum_by length more → Stops origins files rose TooMuch
  stops_too_much files text more first read one pushed small large =
      let b = begins origins more (n + 1) files (first_more origins n lt texts more text pushed files first one) in (
        b.all,
        (
          b.is,
          λ piece. inl (too_much n (record {
            reached = reached origins n lt texts more text pushed first.number files read b.all b.rest b.parts;
            there = told_there (known files (origin_at origins n)) (λ bytes. text ≡ bytes) one;
            small = subst (λ (t : List ℕ). length t ≤ text_limit) (sym (text_in origins n lt texts more text pushed first.number files read b.all b.rest b.parts)) small;
            large = subst (λ (ts : List (List ℕ)). input_limit < sum_by length ts) (sym (sums_in origins n lt texts more text pushed first.number files read b.all b.rest b.parts)) large;
          })),
        ),
      )

  pub stops_too_large : (files : Option Files) (text : List ℕ) → AreFirst origins files n texts → AreRead (input_of origins files texts) n → length text ≡ text_limit + 1 → IfKnown files (origin_at origins n) (λ bytes. (text ≡ take (text_limit + 1) bytes) × (text_limit < length bytes)) → Stops origins files rose (TooLarge n)
  stops_too_large files text first read size one =
      let large = large_text files (origin_at origins n) text size one in
      let more : List (List ℕ) = texts ++ large.0 ∷ [] in
      let b = begins origins more (n + 1) files (first_more origins n lt texts more large.0 refl files first large.1.0) in (
        b.all,
        (
          b.is,
          λ piece. inl (too_large n (record {
            reached = reached origins n lt texts more large.0 refl first.number files read b.all b.rest b.parts;
            there = told_there (known files (origin_at origins n)) (λ bytes. large.0 ≡ bytes) large.1.0;
            large = subst (λ (t : List ℕ). text_limit < length t) (sym (text_in origins n lt texts more large.0 refl first.number files read b.all b.rest b.parts)) large.1.1;
          })),
        ),
      )

-- ---- the FILE that a loop over their names has reached, behind these first texts
module _ {Y : Type 0} (first : List Origin) (walked names : List (String Y)) (walks : walked ≡ names) (name : String Y) (i : ℕ) (lt_walked : i < length walked) (at_walked : name ≡ get_or walked i name) (shown : List ℕ) (is : shown ≡ string_bytes name) (files now : Option Files) (same : now ≡ files) where
  lt : i < length names
  lt = subst (λ (ns : List (String Y)). i < length ns) walks lt_walked

  at : name ≡ get_or names i name
  at = subst (λ (ns : List (String Y)). name ≡ get_or ns i name) walks at_walked

  abbrev here : Origin
  here = origin_at (first ++ map file (bytes_of names)) (length first + i)

  pub number_of_file : length first + i < length (first ++ map file (bytes_of names))
  number_of_file =
      let a = length-append first (map file (bytes_of names)) in
      let b = length-map (bytes_of names) file in
      let c = length-map names string_bytes in
      omega (arith, a, b, c, lt)

  origin_is : file shown ≡ here
  origin_is =
      let many : i < length (bytes_of names) = (let c = length-map names string_bytes in omega (arith, c, lt)) in
      ap file is ∙ ap (λ (s : String Y). file (string_bytes s)) at
      ∙ sym (get_or-append-add first (map file (bytes_of names)) i (file [])
      ∙ get_or_default (map file (bytes_of names)) i (file []) (file (string_bytes name)) (let b = length-map (bytes_of names) file in omega (arith, b, many))
      ∙ listn.get_or-map file (bytes_of names) i (string_bytes name) ∙ ap file (listn.get_or-map string_bytes names i name))

  pub named : (P : List ℕ → Type 0) → IfHeld now shown P → IfKnown files here P
  named P h = subst (λ (o : Origin). IfKnown files o P) origin_is (of_file files shown P (subst (λ (f : Option Files). IfHeld f shown P) same h))

  pub named_none : (rose : Type 0) → rose ⊎ HoldsNone now shown → rose ⊎ (known files here ≡ Some None)
  named_none rose (inl fault) = inl fault
  named_none rose (inr none) = inr (subst (λ (o : Origin). known files o ≡ Some None) origin_is (none_of_file files shown (subst (λ (f : Option Files). HoldsNone f shown) same none)))

sum_more : (texts : List (List ℕ)) (text : List ℕ) → sum_by length (texts ++ text ∷ []) ≡ sum_by length texts + length text
sum_more texts text = sum_by-append length texts (text ∷ []) ∙ ap (λ (k : ℕ). sum_by length texts + k) (let one : sum_by length (text ∷ []) ≡ length text = omega arith in one)

pub sum_pushed : (texts more : List (List ℕ)) (text : List ℕ) (total size : ℕ) → more ≡ texts ++ text ∷ [] → total ≡ sum_by length texts → size ≡ length text → total + size ≡ sum_by length more
sum_pushed texts more text total size e t s = let m = ap (sum_by length) e ∙ sum_more texts text in omega arith
