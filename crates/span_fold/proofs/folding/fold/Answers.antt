use Rattle.std.proofs.Common.{◌≡◌, ◌∷◌, ◌++◌, ◌-◌, [], map, sym, subst, ap, ◌∙◌, List, arith, rules}
use Rattle.std.proofs.lemmas.Map.Iter.{rest_all, rest_more}
use Rattle.span_fold.specs.declared.folded.Line.{Line}
use Rattle.std.specs.List.Sorted.{IsStrictlySortedBy}
use Rattle.span_fold.specs.Folded.{folded, stack_cmp}
use Rattle.span_fold.specs.Nested.{time_of}
use Rattle.span_fold.proofs.Entries.{entry_line, within, within_is, line_pushed, lines_are}
use Rattle.span_fold.proofs.Lines.{adds_up, stacks_sorted}
use Rattle.span_fold.proofs.folding.fold.Goals as goal

pub loop-stack-preserved : goal.loop-stack-preserved
loop-stack-preserved c =
    let pieces = c.in_ok-pieces.pieces in
    let stack = c.in-Some.stack.now in
    let left : c.loop-stack.stack-iterator ≡ (stack, c.in-Some.whole.now) ∷ c.next.new.self = search (rules, rest_more) in
    let inner : c.inner_time.result ≡ within pieces stack.0 stack.1 = within_is pieces stack.0 stack.1 c.inner_time.result c.inner_time.ensures.own c.inner_time.ensures.in_file in
    let time : c.saturating_sub-time.result ≡ c.in-Some.whole.now - within pieces stack.0 stack.1 = c.saturating_sub-time.ensures ∙ ap (λ n. c.in-Some.whole.now - n) inner in
    line_pushed pieces c.into_iter-stack-iterator.result c.loop-stack.stack-iterator c.next.new.self (stack, c.in-Some.whole.now) c.loop-stack.lines.items c.push.new.self.items
    (record { tid = stack.0; file = stack.1; time = c.saturating_sub-time.result }) left c.in_ok-push.ensures.items (λ i. record { tid = stack.0; file = stack.1; time = time i }) c.loop-stack.invariant

all_lines : (c : goal.After-drop-stacks-2) → c.loop-stack.lines.items ≡ folded c.args.spans.now
all_lines c =
    let none : c.loop-stack.stack-iterator ≡ [] = search (rules, rest_all) in
    let begun : c.into_iter-stack-iterator.result ≡ c.in_ok-stacks.stacks.entries = c.into_iter-stack-iterator.ensures.into_iter_gives ∙ c.iter-stack-items.ensures.rest in
    lines_are c.in_ok-stacks.stacks c.in_ok-pieces.pieces c.args.spans.now c.loop-stack.lines.items c.loop-stack.stack-iterator (subst (IsStrictlySortedBy stack_cmp) (sym c.in_ok-stacks.ensures.keys) (stacks_sorted c.args.spans.now)) c.in_ok-stacks.ensures.keys c.in_ok-stacks.ensures.times c.in_ok-pieces.ensures
    none (c.loop-stack.invariant ∙ ap (λ l. map (entry_line c.in_ok-pieces.pieces) l) begun)

pub returns-clause-lines : goal.returns-clause-lines
returns-clause-lines c = c.new.ensures ∙ all_lines c

pub returns-clause-nested : goal.returns-clause-nested
returns-clause-nested c = λ tid worker nested. ap (time_of tid) (c.new.ensures ∙ all_lines c) ∙ adds_up c.args.spans.now tid worker nested
