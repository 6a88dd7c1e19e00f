-- The limits of the texts of the input.
use Rattle.std.specs.Prelude.{ℕ}
use Rattle.flow_io.specs.declared.reading.TheConstants.{MOST_INPUT, MOST_TEXT}

-- a text of more bytes than this is too large
abbrev pub text_limit : ℕ
text_limit = MOST_TEXT

-- all texts together have no more bytes than this
abbrev pub input_limit : ℕ
input_limit = MOST_INPUT
