-- The spans that entries spell.
use Rattle.std.specs.Prelude.{List, map}
use Rattle.rail.specs.declared.entry.Placed.{Placed}
use Rattle.span_words.specs.declared.span.SpanEvent.{SpanEvent}
use Rattle.span_words.specs.Span.{event_of}

-- the span of each entry, in order
abbrev pub events_of : List Placed → List SpanEvent
events_of entries = map (λ (i : Placed). event_of i.words) entries
