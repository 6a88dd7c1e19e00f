-- A call that is done alone: all other seats are at rest.
use Rattle.std.specs.Prelude.{◌≡◌, ℕ, ◌+◌, List}
use Rattle.cursor_word.specs.Shape.{Grid}
use Rattle.cursor_word.specs.Cursor.{packed}
use Rattle.machine.specs.declared.op.After.TheVariants.{Next, Done}
use Rattle.machine.specs.Invariant.{made_total}
use Rattle.machine.specs.Steps.{AllRest}
use Rattle.put_side.specs.Cursors.{Front, committed_word, put_cursors}
use Rattle.put_side.specs.Alone.{OthersRest, PutAlone}
use Rattle.put_side.specs.AsOne.{AnswersAlone, accepts, gives_out}
use Rattle.put_side.specs.Manned as puts
use Rattle.put_side.specs.Stages.{At, Fills}
use Rattle.sole_core.specs.declared.phase.SolePhase.{SolePhase}
use Rattle.sole_core.specs.declared.phase.SolePhase.TheVariants.{Put, SeeX, Take}
use Rattle.sole_core.specs.declared.take_phase.SoleTake.TheVariants.{All}
use Rattle.sole_core.specs.Types.{After, View}
use Rattle.put_side.specs.Counts.{taken_total}
use Rattle.sole_core.specs.Sound.{IsSoundAt}
use Rattle.sole_core.specs.Stage.{stage_of}

-- what a seat alone knows of the words besides what it remembers, where so many entries were
-- accepted when the call began
abbrev pub LoneKnows : Grid → ℕ → List ℕ → SolePhase → Type 0
LoneKnows shape accepted words (Put phase) = PutAlone shape accepted words (At phase)
LoneKnows shape accepted words (SeeX full) = PutAlone shape accepted words (Fills full)
LoneKnows shape accepted words (Take (All r m)) = packed m ≡ committed_word shape words r.block
LoneKnows shape accepted words (Take q) = Unit {0}

-- seat id is alone in phase p of a call that began where n entries were accepted and t taken
pub record IsAlone (shape : Grid) (n t : ℕ) (words : List ℕ) (views : List View) (id : ℕ)
    (p : SolePhase)
    : Type 0 where
  pub front : Front
  pub next : ℕ
  pub sound : IsSoundAt shape front next words views
  pub manned : puts.IsManned stage_of shape front (put_cursors shape words) views
  pub others : OthersRest views id
  pub made : made_total views ≡ n
  pub taken : taken_total views ≡ t
  pub knows : LoneKnows shape n words p

-- all seats are at rest, n entries are accepted and t taken
pub record IsStill (shape : Grid) (n t : ℕ) (words : List ℕ) (views : List View) : Type 0 where
  pub front : Front
  pub next : ℕ
  pub sound : IsSoundAt shape front next words views
  pub manned : puts.IsManned stage_of shape front (put_cursors shape words) views
  pub rest : AllRest views
  pub made : made_total views ≡ n
  pub taken : taken_total views ≡ t

-- after a step of a seat alone: it goes on alone, or all seats are at rest and the answer is what
-- one thread is answered
abbrev pub GoesOnAlone : Grid → ℕ → ℕ → List ℕ → List View → ℕ → After → Type 0
GoesOnAlone shape n t words views id (Next p) = IsAlone shape n t words views id p
GoesOnAlone shape n t words views id (Done a) =
    AnswersAlone shape n t a × IsStill shape (n + accepts a) (t + gives_out a) words views
