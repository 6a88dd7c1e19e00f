use Rattle.std.proofs.Common.{◌≡◌, ◌+◌, Some, None, sym, ap, ◌∙◌, subst, arith, rules}
use Rattle.std.specs.Map.{KeepsOthers}
use Rattle.std.specs.FinMap as map_of
use Rattle.word_text.specs.Counts.{count_in, told}
use Rattle.word_text.proofs.Tables.{number_found, one_set, same_bytes, is_at_bytes}
use Rattle.word_text.proofs.counts.add_number.Goals as goal

pub overflow_add-count : goal.overflow_add-count
overflow_add-count c = omega (arith, c.requires, number_found c.args.table.now.entries c.args.word.now (Some c.in-Some.count.now) c.in-Some.ensures.value)

pub returns-in-Some-clause-ok : goal.returns-in-Some-clause-ok
returns-in-Some-clause-ok c =
    let es = c.args.table.now.entries in
    let n = c.in-Some.count.now in
    let u = (c.get_mut.follows.holds (n + c.args.number)).3 (search rules) in
    one_set es _ c.args.word.now (n + c.args.number) u.1 u.3 ∙ ap (λ k. map_of.insert (told es) c.args.word.now (k + c.args.number)) (sym (number_found es c.args.word.now (Some n) c.in-Some.ensures.value))

pub returns-in_ok-insert-in-None-clause-ok : goal.returns-in_ok-insert-in-None-clause-ok
returns-in_ok-insert-in-None-clause-ok c =
    let es = c.args.table.now.entries in
    let kept = c.get_mut.follows.holds-at-none in
    let u = c.in_ok-insert-in-None.ensures.updates in
    let others = subst (λ m. KeepsOthers same_bytes (is_at_bytes c.in_ok-from_slice-in-None.field-0.items) m.entries c.insert.new.self.entries) kept u.3 in
    let none : c.args.number ≡ count_in (told es) c.args.word.now + c.args.number = omega (arith, number_found es c.args.word.now None c.in-None.ensures.value) in
    one_set es _ c.in_ok-from_slice-in-None.field-0.items c.args.number u.1 others
    ∙ ap (λ w. map_of.insert (told es) w c.args.number) c.in_ok-from_slice-in-None.ensures.items
    ∙ ap (λ k. map_of.insert (told es) c.args.word.now k) none

pub returns-in_err-from_slice-in-None-clause-known : goal.returns-in_err-from_slice-in-None-clause-known
returns-in_err-from_slice-in-None-clause-known c = λ some. absurd (omega (arith, some, number_found c.args.table.now.entries c.args.word.now None c.in-None.ensures.value))

pub returns-in_err-insert-in-None-clause-known : goal.returns-in_err-insert-in-None-clause-known
returns-in_err-insert-in-None-clause-known c = λ some. absurd (omega (arith, some, number_found c.args.table.now.entries c.args.word.now None c.in-None.ensures.value))
