use Rattle.std.proofs.Common.{◌∙◌, ap, sym}
use Rattle.solo_rail.proofs.Stops.{one_of_all, only_own}
use Rattle.solo_rail.proofs.solo_drop.SoloDropRail.close.Goals as goal

pub only-requires : goal.only-requires
only-requires c = one_of_all c.args.self.shape c.args.seats.items (ap (λ q. q.shape.seats) (sym c.self.view_is) ∙ (ap (λ g. g.seats) (sym c.shape.ensures.shape) ∙ c.shape.ensures.one)) c.requires.all

pub finish-requires-clause-seat : goal.finish-requires-clause-seat
finish-requires-clause-seat c = only_own c.args.self c.args.seats.items c.only.result c.requires.seats c.only.ensures
