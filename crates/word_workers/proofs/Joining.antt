-- What the workers so far gave back, and one worker more.
use Rattle.std.proofs.Common.{◌≡◌, ℕ, ◌+◌, ◌≤◌, List, [], ◌∷◌, ◌++◌, length, get_or, map, sym, ap, subst, ◌∙◌, arith}
use Rattle.std.specs.Prelude.{true, flat_map, IsPermutation}
use Rattle.std.specs.List.{All, range_with_len}
use Rattle.std.proofs.lemmas.Grind.{flat_map-append}
use Rattle.std.proofs.lemmas.List.{append-nil, length-append, length-map, map-append, get_or_append_left, get_or_default}
use Rattle.std.proofs.lemmas.List.Elements.{All-append, All-from_recursion, All-nil}
use Rattle.std.proofs.lemmas.List.Folds.{flat_map-map}
use Rattle.claim_table.specs.Claimed.{Claimant, Drawing}
use Rattle.word_text.specs.Counts.{Numbers}
use Rattle.word_text.specs.declared.plan.Piece.{Piece}
use Rattle.word_workers.specs.Parts.{AllClaims, Counted}
use Rattle.word_workers.specs.Spans.{counts_at}

module _ (plan : List Piece) (texts : List (List ℕ)) (claim : Claimant) where
  pub counted_none : (counts : List Numbers) (drawn : List (List ℕ)) (claims : List Drawing) → counts ≡ [] → drawn ≡ [] → claims ≡ [] → Counted plan texts claim counts drawn claims
  counted_none counts drawn claims c d k = record {
    counted = c ∙ sym (ap (map (counts_at plan texts)) d);
    claimed = ap (map (λ (s : Drawing). s.drawn)) k ∙ sym d;
    own = subst (All (λ (s : Drawing). s.of ≡ claim)) (sym k) (All-nil (λ (s : Drawing). s.of ≡ claim));
    stopped = subst (All (λ (s : Drawing). s.stopped ≡ true)) (sym k) (All-nil (λ (s : Drawing). s.stopped ≡ true));
  }

  pub counted_more : (counts more_counts : List Numbers) (drawn more_drawn : List (List ℕ)) (claims more_claims : List Drawing) (own : Numbers) (mine : List ℕ) (seat : Drawing) → Counted plan texts claim counts drawn claims
      → own ≡ counts_at plan texts mine → seat.of ≡ claim → seat.drawn ≡ mine → seat.stopped ≡ true
      → more_counts ≡ counts ++ own ∷ [] → more_drawn ≡ drawn ++ mine ∷ [] → more_claims ≡ claims ++ seat ∷ [] → Counted plan texts claim more_counts more_drawn more_claims
  counted_more counts more_counts drawn more_drawn claims more_claims own mine seat c is of drew stopped ec ed ek =
      let f : List ℕ → Numbers = counts_at plan texts in
      let P : Drawing → Type 0 = λ s. s.of ≡ claim in
      let Q : Drawing → Type 0 = λ s. s.stopped ≡ true in
      record {
        counted = ec ∙ ap (λ (t : List Numbers). t ++ own ∷ []) c.counted ∙ ap (λ (n : Numbers). map f drawn ++ n ∷ []) is ∙ sym (map-append f drawn (mine ∷ [])) ∙ sym (ap (map f) ed);
        claimed = ap (map (λ (s : Drawing). s.drawn)) ek ∙ map-append (λ (s : Drawing). s.drawn) claims (seat ∷ []) ∙ ap (λ (t : List (List ℕ)). t ++ seat.drawn ∷ []) c.claimed ∙ ap (λ (t : List ℕ). drawn ++ t ∷ []) drew ∙ sym ed;
        own = subst (All P) (sym ek) (All-append P claims (seat ∷ []) c.own (All-from_recursion P (seat ∷ []) (of, tt)));
        stopped = subst (All Q) (sym ek) (All-append Q claims (seat ∷ []) c.stopped (All-from_recursion Q (seat ∷ []) (stopped, tt)));
      }

  -- with the last seat, which drew nothing, these are all seats
  pub claims_all : (counts : List Numbers) (drawn : List (List ℕ)) (claims more : List Drawing) (last : Drawing) (workers : ℕ) → Counted plan texts claim counts drawn claims → length drawn ≡ workers → 1 ≤ workers
      → last.of ≡ claim → last.drawn ≡ [] → more ≡ claims ++ last ∷ [] → AllClaims claim (workers + 1) drawn more
  claims_all counts drawn claims more last workers c number some of none e =
      let P : Drawing → Type 0 = λ s. s.of ≡ claim in
      let len : length claims ≡ workers = sym (length-map claims (λ (s : Drawing). s.drawn)) ∙ ap (λ (t : List (List ℕ)). length t) c.claimed ∙ number in
      let long : length more ≡ workers + 1 = ap (λ (t : List Drawing). length t) e ∙ length-append claims (last ∷ []) ∙ ap (λ (n : ℕ). n + 1) len in
      let first : Drawing = get_or claims 0 last in
      let same : get_or more 0 first ≡ first = ap (λ (t : List Drawing). get_or t 0 first) e ∙ get_or_append_left claims (last ∷ []) first 0 (omega arith) ∙ get_or_default claims 0 first last (omega arith) in
      record {
        number = long;
        own = subst (All P) (sym e) (All-append P claims (last ∷ []) c.own (All-from_recursion P (last ∷ []) (of, tt)));
        stopped = (0, first, omega arith, same, c.stopped 0 last (omega arith));
        same = ap (flat_map (λ (s : Drawing). s.drawn)) e ∙ flat_map-append (λ (s : Drawing). s.drawn) claims (last ∷ []) ∙ ap (λ (t : List ℕ). flat_map (λ (s : Drawing). s.drawn) claims ++ (t ++ [])) none
            ∙ append-nil (flat_map (λ (s : Drawing). s.drawn) claims) ∙ sym (flat_map-map (λ (ns : List ℕ). ns) (λ (s : Drawing). s.drawn) claims) ∙ ap (flat_map (λ (ns : List ℕ). ns)) c.claimed;
      }

-- what all seats of a claim drew is what the workers drew
pub drawn_once : (claim : Claimant) (count pieces n : ℕ) (drawn : List (List ℕ)) (claims : List Drawing) → AllClaims claim count drawn claims → IsPermutation (flat_map (λ (s : Drawing). s.drawn) claims) (range_with_len 0 pieces) → pieces ≡ n → IsPermutation (flat_map (λ (ns : List ℕ). ns) drawn) (range_with_len 0 n)
drawn_once claim count pieces n drawn claims a once e =
    subst (λ (k : ℕ). IsPermutation (flat_map (λ (ns : List ℕ). ns) drawn) (range_with_len 0 k)) e (subst (λ (t : List ℕ). IsPermutation t (range_with_len 0 pieces)) a.same once)
