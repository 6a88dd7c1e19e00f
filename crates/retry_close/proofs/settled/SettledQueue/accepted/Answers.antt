use Rattle.std.proofs.Common.{◌∙◌, ap, length, sym}
use Rattle.std.proofs.lemmas.List.FromFn.{length-map-range_with_len}
use Rattle.shared_seats.specs.Seats.{item_at, made_by_all}
use Rattle.retry_close.proofs.settled.SettledQueue.accepted.Goals as goal

pub returns : goal.returns
returns g c = let made = made_by_all c.self.inside.seats.value.items in c.self.invariant ∙ sym (length-map-range_with_len (item_at made) 0 (length made)) ∙ ap (λ d. length d.accepted) c.self.view_is
