-- The entries of the times by stacks, and the lines that they become.
use Rattle.std.proofs.Common.{◌≡◌, ◌≢◌, ℕ, ◌-◌, List, [], ◌∷◌, ◌++◌, map, Some, None, Option, unwrap_or, refl, sym, ap, ◌∙◌, append_assoc, append-nil}
use Rattle.std.specs.Prelude.{All}
use Rattle.std.specs.BTreeMap.{BTreeMap, IsOrdered, get, keys}
use Rattle.std.specs.Map.{keys_of}
use Rattle.std.specs.Ordering.{nat_cmp}
use Rattle.std.proofs.lemmas.List.Elements.{All-head, All-tail}
use Rattle.std.proofs.lemmas.Map.Views.{All-found}
use Rattle.span_words.specs.declared.span.SpanKind.TheVariants.{Piece}
use Rattle.span_words.specs.declared.span.SpanEvent.{SpanEvent}
use Rattle.span_words.specs.Workers.{spans_of}
use Rattle.span_fold.specs.declared.folded.Line.{Line}
use Rattle.span_fold.specs.Folded.{Stack, stack_cmp, stacks_of, dur_of, whole_time, inner_time, self_time, line_of, folded}
use Rattle.span_fold.proofs.Stacks.{stack_total}

-- what lies within a stack, by the times of pieces
abbrev pub within : BTreeMap ℕ ℕ → ℕ → Option ℕ → ℕ
within pieces tid None = unwrap_or (get nat_cmp pieces tid) 0
within pieces tid (Some file) = 0

abbrev pub entry_line : BTreeMap ℕ ℕ → Stack × ℕ → Line
entry_line pieces e = record { tid = e.0.0; file = e.0.1; time = e.1 - within pieces e.0.0 e.0.1 }

pub within_is : (pieces : BTreeMap ℕ ℕ) (tid : ℕ) (file : Option ℕ) (n : ℕ) → (file ≡ None → n ≡ unwrap_or (get nat_cmp pieces tid) 0) → (file ≢ None → n ≡ 0) → n ≡ within pieces tid file
within_is pieces tid None n own in_file = own refl
within_is pieces tid (Some file) n own in_file = in_file (λ e. cc)

-- one entry more
pub line_pushed : (pieces : BTreeMap ℕ ℕ) (all left rest : List (Stack × ℕ)) (e : Stack × ℕ) (done pushed : List Line) (line : Line) → left ≡ e ∷ rest → pushed ≡ done ++ line ∷ [] → line ≡ entry_line pieces e
    → done ++ map (entry_line pieces) left ≡ map (entry_line pieces) all → pushed ++ map (entry_line pieces) rest ≡ map (entry_line pieces) all
line_pushed pieces all left rest e done pushed line is push made so_far =
    ap (λ l. l ++ map (entry_line pieces) rest) push ∙ append_assoc done (line ∷ []) (map (entry_line pieces) rest)
    ∙ ap (λ x. done ++ x ∷ map (entry_line pieces) rest) made ∙ ap (λ l. done ++ map (entry_line pieces) l) (sym is) ∙ so_far

inner_is : (pieces : BTreeMap ℕ ℕ) (spans : List SpanEvent) → ((tid : ℕ) → unwrap_or (get nat_cmp pieces tid) 0 ≡ dur_of (spans_of Piece tid spans)) → (tid : ℕ) (file : Option ℕ) → within pieces tid file ≡ inner_time spans tid file
inner_is pieces spans h tid None = h tid
inner_is pieces spans h tid (Some file) = refl

lines_by_entries : (times : BTreeMap Stack ℕ) (pieces : BTreeMap ℕ ℕ) (spans : List SpanEvent) → ((q : Stack) → unwrap_or (get stack_cmp times q) 0 ≡ whole_time spans q.0 q.1)
    → ((tid : ℕ) → unwrap_or (get nat_cmp pieces tid) 0 ≡ dur_of (spans_of Piece tid spans)) → (es : List (Stack × ℕ)) → All (λ e. get stack_cmp times e.0 ≡ Some e.1) es
    → map (entry_line pieces) es ≡ map (line_of spans) (keys_of es)
lines_by_entries times pieces spans whole inner [] found = refl
lines_by_entries times pieces spans whole inner (e ∷ es) found =
    let first : get stack_cmp times e.0 ≡ Some e.1 = All-head (λ x. get stack_cmp times x.0 ≡ Some x.1) e es found in
    let value : e.1 ≡ whole_time spans e.0.0 e.0.1 = ap (λ o. unwrap_or o 0) (sym first) ∙ whole e.0 in
    (λ i. record { tid = e.0.0; file = e.0.1; time = value i - inner_is pieces spans inner e.0.0 e.0.1 i } ∷ lines_by_entries times pieces spans whole inner es (All-tail (λ x. get stack_cmp times x.0 ≡ Some x.1) e es found) i)

pub lines_are : (times : BTreeMap Stack ℕ) (pieces : BTreeMap ℕ ℕ) (spans : List SpanEvent) (lines : List Line) (left : List (Stack × ℕ)) → IsOrdered stack_cmp times → keys times ≡ stacks_of spans
    → ((q : Stack) → unwrap_or (get stack_cmp times q) 0 ≡ whole_time spans q.0 q.1) → ((tid : ℕ) → unwrap_or (get nat_cmp pieces tid) 0 ≡ dur_of (spans_of Piece tid spans))
    → left ≡ [] → lines ++ map (entry_line pieces) left ≡ map (entry_line pieces) times.entries → lines ≡ folded spans
lines_are times pieces spans lines left ordered keys_are whole inner none so_far =
    sym (append-nil lines) ∙ ap (λ l. lines ++ map (entry_line pieces) l) (sym none) ∙ so_far
    ∙ lines_by_entries times pieces spans whole inner times.entries (All-found stack_total times ordered) ∙ ap (map (line_of spans)) keys_are
