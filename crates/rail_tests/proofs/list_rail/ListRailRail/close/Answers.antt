use Rattle.std.proofs.Common.{List, length, ap, ◌∙◌}
use Rattle.rail_tests.specs.declared.list_rail.ListSeat.{ListSeat}
use Rattle.rail_tests.specs.ListRail.{IsSeatOf}
use Rattle.rail_tests.proofs.ListSeats.{all_is_one, of_only, rising_taken}
use Rattle.rail_tests.proofs.list_rail.ListRailRail.close.Goals as goal

pub left_of-requires-clause-one : goal.left_of-requires-clause-one
left_of-requires-clause-one c =
    ap (λ (xs : List ListSeat). length xs) c.deref.ensures.value
    ∙ all_is_one c.args.self.shape c.args.seats.items c.requires.seats c.blocks-blocks.ensures.limits.seats_from c.requires.all

pub only-accepted-requires : goal.only-accepted-requires
only-accepted-requires c = all_is_one c.args.self.shape c.args.seats.items c.requires.seats c.blocks-blocks.ensures.limits.seats_from c.requires.all

pub returns-in-Ok-clause-order : goal.returns-in-Ok-clause-order
returns-in-Ok-clause-order c =
    let s = of_only (IsSeatOf c.args.self.shape) c.args.seats.items c.only-accepted.result c.requires.seats c.only-accepted.ensures in
    rising_taken c.only-accepted.result.made.items c.only-accepted.result.taken s.in_place s.made_first
