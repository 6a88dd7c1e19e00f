-- What the trail of one seat shows, where no schedule is at hand.
use Rattle.std.proofs.Common.{◌≢◌, ℕ, List, refl, inl}
use Rattle.rail.specs.declared.answer.Why.{Why}
use Rattle.rail.specs.declared.answer.Why.TheVariants as why
use Rattle.call_laws.proofs.Trails.{ShowsTrail}
use Rattle.put_side.specs.Causes.{first_found, second_found}
use Rattle.put_side.proofs.PutTrails as trails
use Rattle.put_side.proofs.PutTrails.{blocks_apart, pair_found, word_spells}
use Rattle.sole_core.specs.Causes.{Differ, PutPair, TakePair, shown}
use Rattle.sole_core.specs.Table.{table}
use Rattle.sole_core.specs.Types.{After}
use Rattle.sole_core.proofs.Recalled.{Recalls, ShowsNext, step_shows}

abbrev pub TrailShows : List ℕ → After → Type 0
TrailShows = trails.TrailShows table Recalls

pub trail_shows : ShowsTrail table TrailShows
trail_shows = trails.trail_shows table Recalls ShowsNext (record {
  begins_put = inl refl;
  begins_take = λ g taken. refl;
  step = λ g entry steps p found r. step_shows g entry 0 steps p found r;
  next = λ g steps this p s. s;
  put_busy = λ g steps this reason s. pair_found shown (λ p. word_spells) (PutPair reason) _ reason this s;
  take_busy = λ g steps this reason s. pair_found shown (λ p. word_spells) (TakePair reason) _ reason this s;
})

pub apart : (reason : Why) → Differ reason → first_found reason ≢ second_found reason
apart (why.Unfinished block before later) d = d
apart (why.Moved earlier later) d = blocks_apart earlier later d
