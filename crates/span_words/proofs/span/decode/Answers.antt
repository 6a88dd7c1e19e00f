use Rattle.std.proofs.Common.{◌≡◌, ℕ, ◌⊎◌, inl, inr, List, [], ◌∷◌, ◌++◌, length, get_or, refl, sym, ap, ◌∙◌, arith, length-append}
use Rattle.std.proofs.lemmas.Result.{IfOk-weaker}
use Rattle.span_words.specs.Span.{IsTid, Spells, spelling}
use Rattle.span_words.specs.declared.span.SpanEvent.{SpanEvent}
use Rattle.span_words.proofs.span.decode.Goals as goal

width_of : (words : List ℕ) (e : SpanEvent) → Spells words e → (length words ≡ 8) ⊎ (length words ≡ 6)
width_of words e s = elim s.1 as (λ _. (length words ≡ 8) ⊎ (length words ≡ 6)) [
  | inl p ↦ inl (sym (ap length p))
  | inr p ↦ inr (omega (arith, ap length p, length-append words (0 ∷ 0 ∷ [])))
]

abbrev first_eight : List ℕ → List ℕ
first_eight words = get_or words 0 0 ∷ get_or words 1 0 ∷ get_or words 2 0 ∷ get_or words 3 0 ∷ get_or words 4 0 ∷ get_or words 5 0 ∷ get_or words 6 0 ∷ get_or words 7 0 ∷ []

eight_numbers : (words : List ℕ) → length words ≡ 8 → words ≡ first_eight words
eight_numbers (a ∷ b ∷ c ∷ d ∷ e ∷ f ∷ g ∷ h ∷ []) _ = refl
eight_numbers words e = absurd (omega (arith, e))

six_numbers : (words : List ℕ) → length words ≡ 6 → words ≡ get_or words 0 0 ∷ get_or words 1 0 ∷ get_or words 2 0 ∷ get_or words 3 0 ∷ get_or words 4 0 ∷ get_or words 5 0 ∷ []
six_numbers (a ∷ b ∷ c ∷ d ∷ e ∷ f ∷ []) _ = refl
six_numbers words e = absurd (omega (arith, e))

pub returns-in-len6-clause-reads : goal.returns-in-len6-clause-reads
returns-in-len6-clause-reads c event s =
    elim s.1 [
      | inl p ↦ absurd (omega (arith, ap length p))
      | inr p ↦ c.decode_whole.ensures.reads event s.0 (p ∙ ap (λ (t : List ℕ). t ++ 0 ∷ 0 ∷ []) (six_numbers c.args.words.now (omega arith)))
    ]

pub returns-in-len8-clause-reads : goal.returns-in-len8-clause-reads
returns-in-len8-clause-reads c event s =
    elim s.1 [
      | inl p ↦ c.decode_whole-in-len8.ensures.reads event s.0 (p ∙ eight_numbers c.args.words.now (omega arith))
      | inr p ↦ absurd (omega (arith, ap length p, length-append c.args.words.now (0 ∷ 0 ∷ [])))
    ]

pub returns-in_default-clause-reads : goal.returns-in_default-clause-reads
returns-in_default-clause-reads c event s = elim (width_of c.args.words.now event s) [ inl p ↦ absurd (omega arith) | inr p ↦ absurd (omega arith) ]

pub returns-in_default-2-clause-reads : goal.returns-in_default-2-clause-reads
returns-in_default-2-clause-reads c event s = elim (width_of c.args.words.now event s) [ inl p ↦ absurd (omega arith) | inr p ↦ absurd (omega arith) ]

pub returns-in_default-3-clause-reads : goal.returns-in_default-3-clause-reads
returns-in_default-3-clause-reads c event s = elim (width_of c.args.words.now event s) [ inl p ↦ absurd (omega arith) | inr p ↦ absurd (omega arith) ]

pub returns-in-len8-clause-spells : goal.returns-in-len8-clause-spells
returns-in-len8-clause-spells c =
    let words : List ℕ = c.args.words.now in
    IfOk-weaker c.decode_whole-in-len8.result (λ e. IsTid e.tid × (spelling e ≡ first_eight words)) (Spells words) (λ e s. (s.0, inl (s.1 ∙ sym (eight_numbers words (omega arith))))) c.decode_whole-in-len8.ensures.spells

pub returns-in-len8-clause-same : goal.returns-in-len8-clause-same
returns-in-len8-clause-same c width =
    let words : List ℕ = c.args.words.now in
    IfOk-weaker c.decode_whole-in-len8.result (λ e. IsTid e.tid × (spelling e ≡ first_eight words)) (λ e. spelling e ≡ words) (λ e s. s.1 ∙ sym (eight_numbers words width)) c.decode_whole-in-len8.ensures.spells
