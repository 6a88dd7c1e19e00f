-- An entry is given back by its words.
use Rattle.std.proofs.Common.{◌≡◌, ℕ, ◌-◌, ◌++◌, List, length, replicate, take, sym, ap, ◌∙◌, arith}
use Rattle.std.proofs.lemmas.List.{length-take-le, take-append-drop}
use Rattle.rail.specs.declared.entry.Entry.TheInside.{Inside}
use Rattle.rail.specs.Entry.{IsTidy, words_of, inside_of}

pub inside_of-words_of : (e : Inside) → IsTidy e → inside_of (words_of e) ≡ e
inside_of-words_of e h =
    let n : length (take e.len e.words) ≡ e.len = length-take-le e.len e.words (omega arith) in
    let p : take e.len e.words ++ replicate (8 - length (take e.len e.words)) 0 ≡ e.words =
    ap (λ (k : ℕ). take e.len e.words ++ replicate (8 - k) 0) n
    ∙ ap (λ (t : List ℕ). take e.len e.words ++ t) (sym h.rest)
    ∙ take-append-drop e.len e.words in
    λ k. record { words = p k; len = n k }
