use Rattle.std.proofs.Common.{◌++◌, ℕ, Option, Ok, Err, Some, ap, refl, sym, ◌∙◌}
use Rattle.std.specs.Prelude.{map, option_to_list}
use Rattle.std.proofs.lemmas.List.{append-nil}
use Rattle.std.proofs.lemmas.Result.{err_from_is_err_and}
use Rattle.cursor_word.specs.Cursor.{cursor}
use Rattle.cursor_word.specs.declared.cursor.Cursor.{Cursor}
use Rattle.block_looks.specs.declared.look.LookAfter.TheVariants as after
use Rattle.block_looks.specs.declared.look.Look.TheVariants as look
use Rattle.flight_view.specs.Walks.{gap}
use Rattle.flight_view.proofs.Blocks.{saw_gap, saw_short, saw_unopened, saw_whole, told}
use Rattle.flight_view.proofs.walking.view_block.Goals as goal

pub view_entries-requires-clause-looking : goal.view_entries-requires-clause-looking
view_entries-requires-clause-looking c =
    let w = c.in-Whole in
    let is = told c.args.rail.now.shape c.args.block c.look_block.new.seat.memory.look_trail (after.Block (look.Whole w.count w.committed w.allocated)) w.ensures.look.steps.leads in
    w.ensures.looking ∙ ap (λ (b : ℕ). Some (cursor b w.count)) is.0

pub returns-in_err-now-in-Whole-clause-looks : goal.returns-in_err-now-in-Whole-clause-looks
returns-in_err-now-in-Whole-clause-looks c =
    let w = c.in-Whole in let p = err_from_is_err_and c.from_residual.result c.from_residual.ensures.1 in
    rw p.1 (saw_short c.args.rail.now.shape c.args.block c.args.seat.now c.look_block.new.seat c.args.items.now.items c.args.gaps.now.items w.count w.committed w.allocated w.ensures.look w.ensures.looked
    c.view_entries.new.seat c.view_entries.new.items.items (Err c.in_err-now-in-Whole.field-0.0) c.in_err-now-in-Whole.ensures.looks c.in_err-now-in-Whole.field-0.0 p.0 refl)

pub returns-in_default-clause-looks : goal.returns-in_default-clause-looks
returns-in_default-clause-looks c =
    let w = c.in-Whole in let reused = c.in_ok-now-in-Whole.field-0 in let gaps = c.args.gaps.now.items in
    saw_whole c.args.rail.now.shape c.args.block c.args.seat.now c.look_block.new.seat c.args.items.now.items gaps w.count w.committed w.allocated w.ensures.look w.ensures.looked
    c.view_entries.new.seat c.view_entries.new.items.items (Ok reused) c.in_ok-now-in-Whole.ensures.looks reused refl w.ensures.shown.0 gaps
    (sym (append-nil gaps) ∙ ap (λ (o : Option Cursor). gaps ++ map (gap c.args.block w.committed) (option_to_list o)) (sym c.in_default.is))

pub returns-in-Some-clause-looks : goal.returns-in-Some-clause-looks
returns-in-Some-clause-looks c =
    let w = c.in-Whole in let reused = c.in_ok-now-in-Whole.field-0 in let gaps = c.args.gaps.now.items in
    saw_whole c.args.rail.now.shape c.args.block c.args.seat.now c.look_block.new.seat c.args.items.now.items gaps w.count w.committed w.allocated w.ensures.look w.ensures.looked
    c.view_entries.new.seat c.view_entries.new.items.items (Ok reused) c.in_ok-now-in-Whole.ensures.looks reused refl w.ensures.shown.0 c.note-in-Whole.new.gaps.items
    (c.note-in-Whole.ensures ∙ ap (λ (o : Option Cursor). gaps ++ map (gap c.args.block w.committed) (option_to_list o)) (sym c.in-Some.is))

pub returns-in-Unopened-clause-looks : goal.returns-in-Unopened-clause-looks
returns-in-Unopened-clause-looks c =
    let u = c.in-Unopened in
    saw_unopened c.args.rail.now.shape c.args.block c.args.seat.now c.look_block.new.seat c.args.items.now.items c.args.gaps.now.items u.committed u.ensures.look u.ensures.looked u.ensures.shown

pub returns-in-Gap-clause-looks : goal.returns-in-Gap-clause-looks
returns-in-Gap-clause-looks c =
    let u = c.in-Gap in
    saw_gap c.args.rail.now.shape c.args.block c.args.seat.now c.look_block.new.seat c.args.items.now.items c.args.gaps.now.items u.committed u.allocated u.ensures.look u.ensures.looked c.note.new.gaps.items c.note.ensures
