use Rattle.flight_view.proofs.Entries.{saw_whole_entry}
use Rattle.flight_view.proofs.walking.view_entry.Goals as goal

pub returns-clause-look : goal.returns-clause-look
returns-clause-look c = let e = c.in_default.ensures in
    saw_whole_entry c.args.rail.now.shape c.args.seat.now c.look_entry.new.seat c.args.at c.look_entry.new.out e.look e.looked e.looking e.words e.shown
