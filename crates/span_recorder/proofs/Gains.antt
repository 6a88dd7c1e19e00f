-- What several calls gain, one after the other.
use Rattle.std.proofs.Common.{◌≡◌, ℕ, ◌+◌, List, [], ◌∷◌, ◌++◌, length, map, refl, sym, ap, ◌∙◌}
use Rattle.std.proofs.lemmas.List.{append_assoc, append-nil, length-append, map-append}
use Rattle.rail.specs.declared.entry.Placed.{Placed}
use Rattle.rail.specs.Items.{placed}
use Rattle.rail.proofs.Rising.{rising_gains}
use Rattle.span_words.specs.declared.span.SpanEvent.{SpanEvent}
use Rattle.span_words.specs.Span.{event_of, spelling}
use Rattle.span_words.proofs.Spellings.{event_of-spelling}
use Rattle.span_recorder.specs.Events.{events_of}
use Rattle.span_recorder.specs.Gain.{GainAlike, GainsEntry, Notes}

pub gain_none : (a x y : List Placed) → x ≡ y → GainAlike a a x y
gain_none a x y e = record { items = []; gained = sym (append-nil a); gained_other = sym e ∙ sym (append-nil x) }

pub gain_twice : (a b c x y z : List Placed) → GainAlike a b x y → GainAlike b c y z → GainAlike a c x z
gain_twice a b c x y z f s = record {
  items = f.items ++ s.items;
  gained = s.gained ∙ ap (λ (t : List Placed). t ++ s.items) f.gained ∙ append_assoc a f.items s.items;
  gained_other = s.gained_other ∙ ap (λ (t : List Placed). t ++ s.items) f.gained_other ∙ append_assoc x f.items s.items;
}

pub notes_none : (xs : List Placed) → Notes xs xs []
notes_none xs = record { items = []; gained = sym (append-nil xs); spelled = refl; rising = λ r. r }

pub notes_more : (old mid new : List Placed) (es : List SpanEvent) (e : SpanEvent) → Notes old mid es → GainsEntry mid new (spelling e) → Notes old new (es ++ e ∷ [])
notes_more old mid new es e n s =
    let x : Placed = placed s.place (spelling e) in
    record {
      items = n.items ++ x ∷ [];
      gained = s.gains.at_end ∙ ap (λ (t : List Placed). t ++ x ∷ []) n.gained ∙ append_assoc old n.items (x ∷ []);
      spelled = map-append (λ (i : Placed). i.words) n.items (x ∷ []) ∙ ap (λ (t : List (List ℕ)). t ++ spelling e ∷ []) n.spelled ∙ sym (map-append spelling es (e ∷ []));
      rising = λ r. rising_gains mid new x (n.rising r) s.gains;
    }

-- the spans of entries are those that they spell
pub events_spelled : (items : List Placed) (es : List SpanEvent) → map (λ (i : Placed). i.words) items ≡ map spelling es → events_of items ≡ es
events_spelled [] [] s = refl
events_spelled [] (e ∷ es) s = cc
events_spelled (i ∷ is) [] s = cc
events_spelled (i ∷ is) (e ∷ es) s =
    let h : i.words ≡ spelling e = cc in
    let t : map (λ (x : Placed). x.words) is ≡ map spelling es = cc in
    ap (λ (x : SpanEvent). x ∷ events_of is) (ap event_of h ∙ event_of-spelling e) ∙ ap (λ (xs : List SpanEvent). e ∷ xs) (events_spelled is es t)

pub longer_by_one : (a b : List Placed) (words : List ℕ) → GainsEntry a b words → length b ≡ length a + 1
longer_by_one a b words s = ap (λ (t : List Placed). length t) s.gains.at_end ∙ length-append a (placed s.place words ∷ [])

-- of another seat and batch that are the same
pub gain_moved : {S : Type 0} (taken : S → List Placed) (old : List Placed) (seat moved : S) (batch items kept : List Placed) → moved ≡ seat → kept ≡ items → GainAlike old (taken seat) batch items → GainAlike old (taken moved) batch kept
gain_moved taken old seat moved batch items kept s b g = record { items = g.items; gained = ap taken s ∙ g.gained; gained_other = b ∙ g.gained_other }
