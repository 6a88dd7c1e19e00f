use Rattle.std.proofs.Common.{[], ◌++◌, ◌∙◌, List, ap, arith, refl}
use Rattle.cursor_word.specs.Cursor.{cursor}
use Rattle.rail.specs.declared.entry.Placed.{Placed}
use Rattle.block_looks.specs.declared.look.Seen.TheVariants as seen
use Rattle.flight_view.specs.Walks.{entry_items}
use Rattle.flight_view.specs.Parts.{entry_look, midway}
use Rattle.flight_view.proofs.Entries.{read_on, read_reused}
use Rattle.flight_view.proofs.walking.view_entries.Goals as goal

pub returns-in-Reused-clause-looks : goal.returns-in-Reused-clause-looks
returns-in-Reused-clause-looks c =
    let g = c.args.rail.now.shape in let l = c.loop-offset in let new = c.view_entry.new.seat in
    let e = entry_look (cursor c.args.counted.block l.offset) new.memory.look_trail (seen.Reused c.in-Reused.now) in
    read_reused g c.args.counted (midway c.args.seat.now c.args.items.now.items []) (midway l.seat l.items.items []) l.offset l.invariant new c.view_entry.new.items.items e refl c.in-Reused.ensures.look
    (c.in-Reused.ensures.items ∙ ap (λ (xs : List Placed). xs ++ entry_items g e) c.in_ok-reserve_one.ensures.items) c.in-Reused.now refl (omega arith)

pub loop-offset-preserved : goal.loop-offset-preserved
loop-offset-preserved c =
    let g = c.args.rail.now.shape in let l = c.loop-offset in let new = c.view_entry.new.seat in
    let e = entry_look (cursor c.args.counted.block l.offset) new.memory.look_trail seen.Whole in
    read_on g c.args.counted (midway c.args.seat.now c.args.items.now.items []) (midway l.seat l.items.items []) l.offset l.invariant new c.view_entry.new.items.items e refl c.in_default.ensures.look
    (c.in_default.ensures.items ∙ ap (λ (xs : List Placed). xs ++ entry_items g e) c.in_ok-reserve_one.ensures.items) refl
