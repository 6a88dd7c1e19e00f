-- The numbers of the workers of spans, one span after another.
use Rattle.std.proofs.Common.{◌≡◌, ℕ, ◌+◌, ◌<◌, List, [], ◌∷◌, ◌++◌, length, get_or, take, map, ap, ◌∙◌}
use Rattle.std.specs.Prelude.{fold}
use Rattle.std.specs.BTreeSet.{insert_key}
use Rattle.std.specs.Ordering.{nat_cmp}
use Rattle.std.proofs.lemmas.List.{map-append, take_more}
use Rattle.std.proofs.lemmas.List.Sums.{fold-append}
use Rattle.span_words.specs.declared.span.SpanEvent.{SpanEvent}
use Rattle.span_words.specs.Workers.{tids_of}

tids_of-push : (spans : List SpanEvent) (s : SpanEvent) → tids_of (spans ++ s ∷ []) ≡ insert_key nat_cmp (tids_of spans) s.tid
tids_of-push spans s =
    ap (fold (insert_key nat_cmp) []) (map-append (λ (x : SpanEvent). x.tid) spans (s ∷ []))
    ∙ fold-append (insert_key nat_cmp) [] (map (λ (x : SpanEvent). x.tid) spans) (s.tid ∷ [])

pub tids_of-more : (spans : List SpanEvent) (i : ℕ) (d : SpanEvent) → i < length spans → tids_of (take (i + 1) spans) ≡ insert_key nat_cmp (tids_of (take i spans)) (get_or spans i d).tid
tids_of-more spans i d lt = ap tids_of (take_more spans i d lt) ∙ tids_of-push (take i spans) (get_or spans i d)
