-- What stands when the one seat is at rest and the words are shared no more.
use Rattle.std.proofs.Common.{◌≡◌, ℕ, zero, suc, List, [], ◌∷◌, IsPermutation, append-nil, length, map, refl, sym, ap, ◌∙◌, subst, arith}
use Rattle.std.specs.Prelude.{None}
use Rattle.std.specs.List.{All}
use Rattle.std.proofs.lemmas.List.{length-map}
use Rattle.std.proofs.lemmas.List.FromFn.{length-range_with_len}
use Rattle.std.proofs.lemmas.List.Elements.{All-contains}
use Rattle.std.proofs.lemmas.List.Sorted.{length_permutation}
use mathlib.Core.Option.{some}
use lib.ListN.{get_elem?}
use Rattle.cursor_word.specs.Shape.{Grid}
use Rattle.rail.specs.declared.entry.Placed.{Placed}
use Rattle.rail.specs.Items.{IsRising, places}
use Rattle.rail.specs.Outcome.{IsAccepted, numbers_below}
use Rattle.rail.proofs.Rising.{rising_accepted, same_by_permutation}
use Rattle.step_log.specs.declared.log.Step.{Step}
use Rattle.step_log.specs.Log.{Ends, TableId}
use Rattle.machine.specs.Table.{Table}
use Rattle.machine.specs.declared.view.View.{View}
use Rattle.machine.specs.Invariant.{Fact}
use Rattle.machine.specs.Steps.{AllRest}
use Rattle.put_side.specs.Gathered.{all_made}
use Rattle.call_steps.specs.Rule.{HasRoom}
use Rattle.call_steps.specs.Queue.{IsSeatOf, Queue, Seated}
use Rattle.solo_rail.specs.declared.holding.Holding.{Holding}
use Rattle.solo_rail.specs.Holding.{IsHeld}
use Rattle.solo_rail.specs.Lone.{AnswersExactly, LoneFacts}
use Rattle.solo_rail.specs.Solo.{HasStopped, number_of}
use Rattle.solo_rail.proofs.Kept.{only_at}

module _ {P : Type 0} (t : Table P) (Holds : Fact P) (lone : LoneFacts P) (exactly : AnswersExactly t Holds lone) where
  -- at the end
  has_stopped : (g : Grid) (h : Holding P) (words : List ℕ) → Ends (IsHeld t lone g) h words → h.view.phase ≡ None → HasStopped Holds g words h.view
  has_stopped g h words (views, position, held, get) rest =
      let at = only_at held.seat h position (subst (λ (l : List (Holding P)). get_elem? l position ≡ some h) held.only get) in
      let room = subst (λ (k : Holding P). HasRoom t g k.view) at.1 held.room in
      record {
        limits = held.limits;
        holds = exactly.holds g words h.view (subst (λ (k : Holding P). lone.Stands g words k.view) at.1 held.stands);
        rest = rest;
        few = omega arith;
      }

  -- the seat as clauses see it
  pub stopped_seen : (key g : Grid) (h : Holding P) (seat : Seated P) (id : TableId) (log : List Step) (words : List ℕ) → record { of = record { id = id; shape = h.shape }; number = 0; view = h.view; memory = tt; log = log } ≡ seat → h.view.phase ≡ None → key ≡ g → Ends (IsHeld t lone key) h words
      → HasStopped Holds g words seat.view
  stopped_seen key g h seat id log words seen rest same ends =
      subst (λ (k : Grid). HasStopped Holds k words seat.view) same (subst (λ (s : Seated P). HasStopped Holds key words s.view) seen (has_stopped key h words ends rest))

module _ {P : Type 0} where
  pub rest_one : (v : View P) → v.phase ≡ None → AllRest (v ∷ [])
  rest_one v rest zero u e = let q : v ≡ u = cc in ap (λ (x : View P). x.phase) (sym q) ∙ rest
  rest_one v rest (suc j) u e = cc

  -- all that is accepted is what the one seat made
  module _ (v : View P) (accepted : List Placed) (is : IsAccepted (all_made (v ∷ [])) accepted) (rises : IsRising (places v.made)) where
    made_is : all_made (v ∷ []) ≡ v.made
    made_is = append-nil v.made

    pub accepted_is : accepted ≡ v.made
    accepted_is = sym (same_by_permutation v.made accepted rises (rising_accepted (all_made (v ∷ [])) accepted is) (subst (λ (l : List Placed). IsPermutation l accepted) made_is is.all_made))

    pub whole : IsAccepted v.made v.made
    whole = subst (λ (l : List Placed). IsAccepted l l) accepted_is (subst (λ (l : List Placed). IsAccepted l accepted) (made_is ∙ sym accepted_is) is)

  -- a queue of one seat has a list of one
  pub one_of_all : (g : Grid) (seats : List (Seated P)) → g.seats ≡ 1 → IsPermutation (map number_of seats) (numbers_below g.seats) → length seats ≡ 1
  one_of_all g seats one all = let n = length_permutation (map number_of seats) (numbers_below g.seats) all in let m = length-map seats number_of in let k = length-range_with_len 0 g.seats in omega arith

  pub only_own : (q : Queue) (seats : List (Seated P)) (s : Seated P) → All (IsSeatOf q) seats → seats ≡ s ∷ [] → s.of ≡ q
  only_own q seats s own is = All-contains (IsSeatOf q) (s ∷ []) s (subst (All (IsSeatOf q)) is own) (0, omega arith, refl)
