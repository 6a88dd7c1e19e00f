-- The workers' seats with that of the collector behind them.
use Rattle.std.proofs.Common.{◌≡◌, ℕ, ◌+◌, ◌≤◌, List, [], ◌∷◌, ◌++◌, length, get_or, map, refl, sym, ap, subst, ◌∙◌, arith}
use Rattle.std.specs.Prelude.{Bool, true, flat_map, Option, ◌⊎◌}
use Rattle.std.specs.List.{All}
use Rattle.std.proofs.lemmas.List.{append-nil, length-append, length-map, map-append}
use Rattle.claim_table.specs.Claimed.{Claimant, Drawing}
use Rattle.flow_io.specs.Clock.{Ticks}
use Rattle.rail.specs.declared.entry.Placed.{Placed}
use Rattle.rail.specs.Batch.{Gathered}
use Rattle.span_recorder.specs.Gain.{GainAlike}
use Rattle.word_text.specs.Counts.{Numbers}
use Rattle.word_text.specs.declared.plan.Piece.{Piece}
use Rattle.word_workers.specs.Spans.{counts_at}
use Rattle.word_workers.specs.Worked.{Worked}
use Rattle.word_workers.specs.Parts.{AllClaims, EachOwn, HasRun}
use Rattle.word_workers.specs.Finished.{Finished, IsRun}
use Rattle.word_workers.specs.declared.parts.Run.{Run}
use Rattle.word_workers.proofs.Finishing.{all_early, all_last, all_more, at_early, flat_map_one_more}
use Rattle.word_workers.proofs.Joining.{claims_all}
use Rattle.word_workers.proofs.Runs.{batches_more}

-- the last of no more than one is the only one
pub only_one : {X : Type 0} (xs early : List X) (x : X) (workers : ℕ) → xs ≡ early ++ x ∷ [] → (length xs ≡ 1) ⊎ (length xs ≡ workers + 1) → 1 ≤ workers → length xs ≤ 1 → xs ≡ x ∷ []
only_one xs [] x workers e seats some few = e
only_one xs (y ∷ ys) x workers e seats some few = absurd (let len = ap length e in let more = length-append ys (x ∷ []) in omega arith)

-- a seat that did nothing before
pub record IsCollected {Q S : Type 0} (made taken : S → List Placed) (number_of : S → ℕ) (PutsInto TakesFrom : Q → S → Type 0) (drops : Bool) (last new : S) (batch : List Placed) : Type 0 where
  pub made_none : made new ≡ []
  pub taken_none : taken last ≡ []
  pub gains : GainAlike (taken last) (taken new) [] batch
  pub drops_none : drops ≡ true → taken new ≡ taken last
  pub number : number_of new ≡ number_of last
  pub puts : (q : Q) → PutsInto q last → PutsInto q new
  pub takes : (q : Q) → TakesFrom q last → TakesFrom q new

module _ {Q S : Type 0} (made taken : S → List Placed) (number_of : S → ℕ) (PutsInto TakesFrom : Q → S → Type 0) (drops : Bool) (plan : List Piece) (texts : List (List ℕ)) (clock : ℕ → Option Ticks) (claim : Claimant) where
  -- all that were begun with the seats before the last
  pub finished_all : {C : Type 0} (seat_of : C → S) (children : List C) (early whole : List S) (last : S) (workers : ℕ) (counts : List Numbers) (batches : List Gathered) (drawn : List (List ℕ)) (claims : List Drawing) (seats : List S)
      → map seat_of children ≡ early → whole ≡ early ++ last ∷ [] → length whole ≡ workers + 1
      → Finished {Q = Q} made taken number_of PutsInto TakesFrom drops plan texts clock claim (length children) (map seat_of children) counts batches drawn claims seats
      → Finished {Q = Q} made taken number_of PutsInto TakesFrom drops plan texts clock claim workers early counts batches drawn claims seats
  finished_all seat_of children early whole last workers counts batches drawn claims seats same split len f =
      let long = ap (λ (t : List S). length t) split ∙ length-append early (last ∷ []) in
      let few = ap (λ (t : List S). length t) same in
      let mapped = length-map children seat_of in
      let n : length children ≡ workers = omega arith in
      subst (λ (k : ℕ). Finished {Q = Q} made taken number_of PutsInto TakesFrom drops plan texts clock claim k early counts batches drawn claims seats) n
      (subst (λ (t : List S). Finished {Q = Q} made taken number_of PutsInto TakesFrom drops plan texts clock claim (length children) t counts batches drawn claims seats) same f)

  pub with_collector : (w : ℕ) (before whole : List S) (counts : List Numbers) (batches : List Gathered) (drawn : List (List ℕ)) (claims : List Drawing) (seats : List S) (last new : S) (batch : Gathered) (seat : Drawing) (run : Run S)
      → Finished {Q = Q} made taken number_of PutsInto TakesFrom drops plan texts clock claim w before counts batches drawn claims seats → 1 ≤ w
      → IsCollected {Q = Q} made taken number_of PutsInto TakesFrom drops last new batch.items → seat.of ≡ claim → seat.drawn ≡ [] → whole ≡ before ++ last ∷ []
      → run.parts.counts.items ≡ counts → run.parts.drawn.items ≡ drawn → run.parts.batches.items ≡ batches ++ batch ∷ [] → run.parts.claim_seats.items ≡ claims ++ seat ∷ [] → run.seats.items ≡ seats ++ new ∷ []
      → IsRun {Q = Q} made taken number_of PutsInto TakesFrom drops plan texts clock claim w whole run
  with_collector w before whole counts batches drawn claims seats last new batch seat run f some k of none is ec ed eb ek es =
      let all : List S = run.seats.items in
      let same : flat_map made all ≡ flat_map made seats = flat_map_one_more made seats all new es ∙ ap (λ (t : List Placed). flat_map made seats ++ t) k.made_none ∙ append-nil (flat_map made seats) in
      let took : taken new ≡ batch.items = k.gains.gained ∙ ap (λ (t : List Placed). t ++ k.gains.items) k.taken_none ∙ sym k.gains.gained_other in
      let gain : GainAlike (flat_map taken seats) (flat_map taken all) [] batch.items = record {
        items = batch.items;
        gained = flat_map_one_more taken seats all new es ∙ ap (λ (t : List Placed). flat_map taken seats ++ t) took;
        gained_other = refl;
      } in
      record {
        runs = subst (λ (d : List (List ℕ)). HasRun plan texts clock w d (flat_map made all)) (sym ed) (subst (HasRun plan texts clock w drawn) (sym same) f.run);
        counted = ec ∙ f.parts.counted ∙ sym (ap (map (counts_at plan texts)) ed);
        claims = subst (λ (d : List (List ℕ)). AllClaims claim (w + 1) d run.parts.claim_seats.items) (sym ed) (claims_all plan texts claim counts drawn claims run.parts.claim_seats.items seat w f.parts f.run.number some of none ek);
        taken_is = batches_more (λ (b : Gathered). b.items) batches run.parts.batches.items batch (flat_map taken seats) (flat_map taken all) f.taken_is gain eb;
        drops_none = λ d. all_more (λ (t : S). taken t ≡ []) seats all new es (f.drops_none d) (k.drops_none d ∙ k.taken_none);
        numbers = ap (map number_of) es ∙ map-append number_of seats (new ∷ []) ∙ ap (λ (t : List ℕ). t ++ number_of new ∷ []) f.numbers ∙ ap (λ (n : ℕ). map number_of before ++ n ∷ []) k.number
            ∙ sym (map-append number_of before (last ∷ [])) ∙ sym (ap (map number_of) is);
        puts = λ q a. let b = subst (All (PutsInto q)) is a in all_more (PutsInto q) seats all new es (f.puts q (all_early (PutsInto q) before last b)) (k.puts q (all_last (PutsInto q) before last b));
        takes = λ q a. let b = subst (All (TakesFrom q)) is a in all_more (TakesFrom q) seats all new es (f.takes q (all_early (TakesFrom q) before last b)) (k.takes q (all_last (TakesFrom q) before last b));
      }

pub each_with : {S : Type 0} (made : S → List Placed) (plan : List Piece) (texts : List (List ℕ)) (clock : ℕ → Option Ticks) (w : ℕ) (drawn same : List (List ℕ)) (seats all : List S) (new : S)
    → EachOwn made plan texts clock w drawn seats → length seats ≡ w → same ≡ drawn → all ≡ seats ++ new ∷ [] → EachOwn made plan texts clock w same all
each_with {S} made plan texts clock w drawn same seats all new own len ed es v d lt =
    subst (λ (t : List (List ℕ)). Worked plan texts (clock v) v (get_or t v []) [] (made (get_or all v d))) (sym ed)
    (subst (λ (t : S). Worked plan texts (clock v) v (get_or drawn v []) [] (made t)) (sym (at_early seats all new d v es (omega arith))) (own v d lt))
