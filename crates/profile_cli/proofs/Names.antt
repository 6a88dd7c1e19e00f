-- The names of the texts that are asked for.
use Rattle.std.proofs.Common.{◌≡◌, ℕ, ◌≤◌, List, [], ◌∷◌, ◌++◌, length, map, take, refl, sym, ap, ◌∙◌, take_all}
use Rattle.std.specs.Prelude.{Option, String}
use Rattle.std.proofs.lemmas.List.{map-append}
use Rattle.command_words.specs.Texts.{bytes_of}
use Rattle.profile_cli.specs.Input.{made_of, name_of}
use Rattle.profile_cli.specs.Input.Origin.{file}

file_names : (files : List (List ℕ)) → map name_of (map file files) ≡ files
file_names [] = refl
file_names (name ∷ files) = ap (λ (names : List (List ℕ)). name ∷ names) (file_names files)

-- those of the made texts, and then the FILEs
pub all_names : {Y : Type 0} (generated : Option ℕ) (files : List (String Y)) (n : ℕ) (names : List (List ℕ)) → length files ≤ n → names ≡ map name_of (made_of generated) ++ bytes_of (take n files) → names ≡ map name_of (made_of generated ++ map file (bytes_of files))
all_names {Y} generated files n names all are =
    are ∙ ap (λ (fs : List (String Y)). map name_of (made_of generated) ++ bytes_of fs) (take_all n files all)
    ∙ ap (λ (fs : List (List ℕ)). map name_of (made_of generated) ++ fs) (sym (file_names (bytes_of files)))
    ∙ sym (map-append name_of (made_of generated) (map file (bytes_of files)))
