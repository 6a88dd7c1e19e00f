-- What the command says.
use Rattle.std.specs.Prelude.{◌≡◌, ℕ, List, Option}
use Rattle.flow_io.specs.Saying.{Said}
use Rattle.profile_cli.specs.declared.ending.Ending.{Ending}
use Rattle.profile_cli.specs.declared.ending.Ending.TheVariants.{Done}
use Rattle.profile_cli.specs.Endings.{message_of}

-- the sink of messages at one moment: what it tells, and how often it has failed
pub record Messages : Type 0 where
  pub told : Option (List ℕ)
  pub faults : ℕ

-- nothing is said where all was done, else the message of the ending
abbrev pub Says : List (List ℕ) → Ending → Messages → Messages → Type 0
Says names Done before after = after.told ≡ before.told
Says names ending before after =
    Said before.told after.told before.faults after.faults (message_of names ending)
