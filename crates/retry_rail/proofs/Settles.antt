-- Where all seats are at rest, the machine of this queue settles.
use Rattle.bbq_core.specs.Sound.{IsSound}
use Rattle.bbq_core.proofs.Settles.{settled}
use Rattle.retry_close.specs.Settles.{Settles}

pub settles : Settles IsSound
settles = settled
