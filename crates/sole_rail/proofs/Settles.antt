-- Where all seats are at rest, the machine of this queue settles.
use Rattle.sole_core.specs.Sound.{IsSound}
use Rattle.sole_core.proofs.Settles.{settled}
use Rattle.retry_close.specs.Settles.{Settles}

pub settles : Settles IsSound
settles = settled
