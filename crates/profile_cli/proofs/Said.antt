-- What is said of an ending.
use Rattle.std.proofs.Common.{◌≡◌, ℕ, List, refl}
use Rattle.flow_io.specs.Saying.{Said}
use Rattle.profile_cli.specs.declared.ending.Ending.{Ending}
use Rattle.profile_cli.specs.declared.ending.Ending.TheVariants.{Done}
use Rattle.profile_cli.specs.Endings.{message_of}
use Rattle.profile_cli.specs.Messages.{Messages, Says}

-- where not all was done, the message of the ending is said
pub says_other : (names : List (List ℕ)) (ending : Ending) (before after : Messages) → (ending ≡ Done → ⊥) → Said before.told after.told before.faults after.faults (message_of names ending) → Says names ending before after
says_other names Done before after other said = absurd (other refl)
says_other names ending before after other said = said
