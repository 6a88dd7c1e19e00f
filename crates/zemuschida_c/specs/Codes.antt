-- What an answer is to C: a code and some numbers.
use Rattle.std.specs.Prelude.{ℕ}
use Rattle.cursor_word.specs.declared.cursor.Cursor.{Cursor}
use Rattle.rail.specs.declared.answer.Put.{Put}
use Rattle.rail.specs.declared.answer.Put.TheVariants as put
use Rattle.rail.specs.declared.answer.Take.{Take}
use Rattle.rail.specs.declared.answer.Take.TheVariants as take
use Rattle.rail.specs.declared.answer.Why.{Why}
use Rattle.rail.specs.declared.answer.Why.TheVariants as why
use Rattle.zemuschida_c.specs.declared.answer.ZemAnswer.{ZemAnswer}
use Rattle.zemuschida_c.specs.declared.answer.ZemCursor.{ZemCursor}

abbrev pub ok : ℕ
ok = 0

abbrev pub full : ℕ
full = 1

abbrev pub empty : ℕ
empty = 2

abbrev pub unfinished : ℕ
unfinished = 3

abbrev pub moved : ℕ
moved = 4

abbrev pub overrun : ℕ
overrun = 5

abbrev pub unopened : ℕ
unopened = 6

abbrev pub given_up : ℕ
given_up = 7

-- refusals, which do nothing
abbrev pub no_seat : ℕ
no_seat = 16

abbrev pub wrong_width : ℕ
wrong_width = 17

abbrev pub spent : ℕ
spent = 18

abbrev pub no_memory : ℕ
no_memory = 19

abbrev pub bad_blocks : ℕ
bad_blocks = 20

abbrev pub bad_size : ℕ
bad_size = 21

abbrev pub bad_width : ℕ
bad_width = 22

abbrev pub bad_seats : ℕ
bad_seats = 23

abbrev pub no_room : ℕ
no_room = 24

abbrev pub bad_block : ℕ
bad_block = 25

abbrev pub not_all_seats : ℕ
not_all_seats = 26

abbrev pub shown : Cursor → ZemCursor
shown c = record { block = c.block; offset = c.offset }

abbrev pub nowhere : ZemCursor
nowhere = record { block = 0; offset = 0 }

-- the numbers of an answer: place, block, first and second cursor
abbrev pub numbers : ℕ → ℕ → ZemCursor → ZemCursor → ZemAnswer
numbers place block first second =
    record { place = place; block = block; first = first; second = second }

abbrev pub why_code : Why → ℕ
why_code (why.Unfinished block before after) = unfinished
why_code (why.Moved earlier later) = moved

abbrev pub why_numbers : Why → ZemAnswer
why_numbers (why.Unfinished block before after) = numbers 0 block (shown before) (shown after)
why_numbers (why.Moved earlier later) = numbers 0 0 (shown earlier) (shown later)

abbrev pub put_code : Put → ℕ
put_code (put.Ok place) = ok
put_code (put.Full head consumed) = full
put_code (put.Busy why) = why_code why

abbrev pub put_numbers : Put → ZemAnswer
put_numbers (put.Ok place) = numbers place 0 nowhere nowhere
put_numbers (put.Full head consumed) = numbers 0 head (shown consumed) nowhere
put_numbers (put.Busy why) = why_numbers why

abbrev pub take_code : Take → ℕ
take_code (take.Ok place) = ok
take_code (take.Empty place) = empty
take_code (take.Busy why) = why_code why
take_code (take.Overrun place now) = overrun

abbrev pub take_numbers : Take → ZemAnswer
take_numbers (take.Ok place) = numbers place 0 nowhere nowhere
take_numbers (take.Empty place) = numbers place 0 nowhere nowhere
take_numbers (take.Busy why) = why_numbers why
take_numbers (take.Overrun place now) = numbers place 0 (shown now) nowhere
