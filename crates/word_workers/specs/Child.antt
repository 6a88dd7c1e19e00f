-- A worker that was begun.
use Rattle.std.specs.Prelude.{◌≡◌, ℕ, ◌+◌, Bool, List, [], ◌∷◌, Option, Some, IfOk, IfSome, ⊤}
use Rattle.claim_table.specs.Claimed.{Claimant}
use Rattle.flow_io.specs.Clock.{Ticks}
use Rattle.rail.specs.declared.entry.Placed.{Placed}
use Rattle.word_text.specs.declared.plan.Piece.{Piece}
use Rattle.word_workers.specs.declared.ended.Ended.{Ended}
use Rattle.word_workers.specs.declared.child.Given.{Given}
use Rattle.word_workers.specs.declared.child.Child.{Child}
use Rattle.word_workers.specs.declared.child.Child.TheVariants as child
use Rattle.word_workers.specs.Ended.{Served}

-- what a worker was given
abbrev pub told_of : {Q H S D : Type 0} → Child Q H S D → Given Q H S D
told_of (child.There handle) = handle.promise
told_of (child.Here told ended) = told.value

-- the seat that a worker was given
abbrev pub seat_of : {Q H S D : Type 0} → Child Q H S D → S
seat_of child = (told_of child).seat.value

module _ {Q H S D : Type 0} (made taken : S → List Placed) (number_of : S → ℕ)
    (PutsInto TakesFrom : Q → S → Type 0) (drops : Bool) (ticks_of : H → Option Ticks) where
  -- a worker that was given this gave back what it promised
  abbrev pub Keeps : Given Q H S D → Ended S → Type 0
  Keeps given ended = Served made taken number_of PutsInto TakesFrom drops given.plan.now
      given.texts.now (ticks_of given.hand.value) given.worker given.claim.now given.seat.value ended

  -- where it ran here, it gave back what it promised
  abbrev pub IsBegun : Child Q H S D → Type 0
  IsBegun (child.There handle) = ⊤
  IsBegun (child.Here told ended) = IfOk ended (Keeps told.value)

  -- the worker of this number was begun with a seat that had done nothing
  pub record IsChild (plan : List Piece) (texts : List (List ℕ)) (clock : ℕ → Option Ticks)
      (claim : Claimant) (worker : ℕ) (child : Child Q H S D) : Type 0 where
    pub worker_is : (told_of child).worker ≡ worker
    pub plan_is : (told_of child).plan.now ≡ plan
    pub texts_are : (told_of child).texts.now ≡ texts
    pub claim_is : (told_of child).claim.now ≡ claim
    pub ticks : IfSome (clock worker) (λ t. ticks_of (told_of child).hand.value ≡ Some t)
    pub made_none : made (told_of child).seat.value ≡ []
    pub taken_none : taken (told_of child).seat.value ≡ []
    pub begun : IsBegun child

  -- the workers of these numbers on were begun, in order
  abbrev pub AreChildren : List Piece → List (List ℕ) → (ℕ → Option Ticks) → Claimant → ℕ
      → List (Child Q H S D) → Type 0
  AreChildren plan texts clock claim worker [] = ⊤
  AreChildren plan texts clock claim worker (child ∷ children) =
      IsChild plan texts clock claim worker child
      × AreChildren plan texts clock claim (worker + 1) children
