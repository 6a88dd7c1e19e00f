-- What the workers of a run share.
use Rattle.std.specs.Prelude.{◌≡◌, ◌<◌, ◌^◌, length}
use Rattle.cursor_word.specs.Cursor.{most_puts}
use Rattle.cursor_word.specs.Shape.{Grid}
use Rattle.span_words.specs.declared.span.TheConstants.{SPAN_WORDS}
use Rattle.word_workers.specs.Spans.{AllLieIn, plan_words}
use Rattle.word_workers.specs.declared.shared.Shared.{Shared}

-- an entry is as wide as a span, a seat has room for more entries than there are pieces, each piece
-- lies in its text, all words can be counted, and the claim is one of the pieces' numbers
pub record IsShared {Q S D G : Type 0} (shape_of : Q → Grid) (shared : Shared Q S D G)
    : Type 0 where
  pub width : (shape_of shared.rail.now).width ≡ SPAN_WORDS
  pub room : length shared.plan.now < most_puts (shape_of shared.rail.now)
  pub inside : AllLieIn shared.texts.now shared.plan.now
  pub words : length (plan_words shared.plan.now shared.texts.now) < 2 ^ 63
  pub pieces : shared.claim.now.shape.pieces ≡ length shared.plan.now
