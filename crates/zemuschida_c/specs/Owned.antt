-- A seat with the queue that it was made with.
use Rattle.call_steps.specs.Queue.{Queue, SeatedWith}

pub record Owned (Queue Seat : Type 0) : Type 0 where
  pub rail : Queue
  pub seat : Seat

abbrev pub owned : {Q S : Type 0} → Q → S → Owned Q S
owned rail seat = record { rail = rail; seat = seat }

-- a seat of a queue of this machine
abbrev pub SeatOf : Type 0 → Type 0 → Type 0
SeatOf P M = Owned Queue (SeatedWith P M)
