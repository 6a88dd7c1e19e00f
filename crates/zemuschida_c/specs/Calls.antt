-- What a put and a take of a seat do, as C sees them.
use Rattle.std.specs.Prelude.{◌≡◌, ℕ, List, Bool}
use Rattle.cursor_word.specs.Shape.{Grid}
use Rattle.rail.specs.Rail.{Puts, Takes}
use Rattle.rail.specs.declared.entry.Placed.{Placed}
use Rattle.rail.specs.declared.answer.Put.{Put}
use Rattle.rail.specs.declared.answer.Take.{Take}
use Rattle.zemuschida_c.specs.Owned.{SeatOf}
use Rattle.zemuschida_c.specs.Codes.{put_code, put_numbers, take_code, take_numbers}
use Rattle.zemuschida_c.specs.declared.answer.ZemAnswer.{ZemAnswer}

-- a put of this entry by a seat with these made lists before and after it gave this code and these
-- numbers
pub record GivesPut (g : Grid) (drops : Bool) (entry : List ℕ) (old new : List Placed)
    (found : List ℕ) (code : ℕ) (numbers : ZemAnswer) : Type 0 where
  pub said : Put
  pub puts : Puts g drops entry old new found said
  pub code_is : code ≡ put_code said
  pub numbers_are : numbers ≡ put_numbers said

-- a take into these words, which are others after it, by a seat with this made list and these taken
-- lists before and after it, gave this code and these numbers
pub record GivesTake (g : Grid) (drops : Bool) (made : List Placed) (out_old out : List ℕ)
    (old new : List Placed) (found : List ℕ) (code : ℕ) (numbers : ZemAnswer) : Type 0 where
  pub said : Take
  pub takes : Takes g drops made out_old out old new found said
  pub code_is : code ≡ take_code said
  pub numbers_are : numbers ≡ take_numbers said

module _ {P M : Type 0} where
  -- a put of this entry by a seat, before and after it, gave this code and these numbers
  pub record HasPut (drops : Bool) (old new : SeatOf P M) (entry : List ℕ) (code : ℕ)
      (numbers : ZemAnswer) : Type 0 where
    pub queue : new.rail ≡ old.rail
    pub number : new.seat.number ≡ old.seat.number
    pub taken : new.seat.view.taken ≡ old.seat.view.taken
    pub gives : GivesPut old.rail.shape drops entry old.seat.view.made new.seat.view.made
        new.seat.view.trail code numbers

  -- a take into these words by a seat, before and after it, gave this code and these numbers
  pub record HasTaken (drops : Bool) (old new : SeatOf P M) (out_old out : List ℕ)
      (code : ℕ) (numbers : ZemAnswer) : Type 0 where
    pub queue : new.rail ≡ old.rail
    pub number : new.seat.number ≡ old.seat.number
    pub made : new.seat.view.made ≡ old.seat.view.made
    pub gives : GivesTake old.rail.shape drops new.seat.view.made out_old out old.seat.view.taken
        new.seat.view.taken new.seat.view.trail code numbers
