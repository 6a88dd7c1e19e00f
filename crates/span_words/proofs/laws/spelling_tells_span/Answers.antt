use Rattle.span_words.proofs.Spellings.{event_of-spelling}
use Rattle.span_words.proofs.laws.spelling_tells_span.Goals as goal

pub returns : goal.returns
returns c = event_of-spelling
