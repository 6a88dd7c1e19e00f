-- Places are accepted in order of time, and what a seat has taken stays taken.
use Rattle.std.proofs.Common.{◌≡◌, ◌≢◌, ℕ, suc, ◌+◌, ◌<◌, ◌≤◌, Bool, true, false, List, [], ◌∷◌, ◌++◌, refl, sym, ap, ◌∙◌, subst, ⊎_elim, arith}
use Rattle.std.specs.Prelude.{Some, None, if◌then◌else◌, nat_lt}
use Rattle.std.specs.List.{sum_by}
use Rattle.std.proofs.lemmas.Bool.{cases_lt}
use Rattle.std.proofs.lemmas.List.{append-nil}
use Rattle.cursor_word.specs.Shape.{Grid}
use Rattle.cursor_word.specs.Cursor.{place_at}
use Rattle.cursor_word.specs.declared.cursor.Cursor.{Cursor}
use Rattle.rail.specs.declared.answer.Answer.{Answer}
use Rattle.rail.specs.declared.answer.Answer.TheVariants as answer
use Rattle.rail.specs.declared.answer.Put.TheVariants as put
use Rattle.rail.specs.declared.answer.Take.TheVariants as take
use Rattle.rail.specs.declared.entry.Placed.{Placed}
use Rattle.rail.specs.Items.{placed, places}
use Rattle.machine.specs.declared.event.Event.{Event}
use Rattle.machine.specs.declared.event.Start.{Start}
use Rattle.machine.specs.declared.event.Start.TheVariants as start
use Rattle.machine.specs.declared.op.After.{After}
use Rattle.machine.specs.declared.op.After.TheVariants.{Done}
use Rattle.machine.specs.declared.view.View.{View}
use Rattle.machine.specs.Table.{Table}
use Rattle.machine.specs.Steps.{begun, made_after, seen, taken_after}
use Rattle.machine.specs.Moments.{EndsAt, IsInOrder, IsLaterCall, moment}
use Rattle.machine.proofs.InTime.{Lasts, in_order, lasts_by, made_at_end, named_lasts, taken_at_end}
use Rattle.machine.proofs.Turns.{begun_made, begun_taken}
use Rattle.put_side.specs.Counts.{claims, makes, one_below, takes, times}
use Rattle.put_side.specs.Stages.{PutStage, held, put_after}
use Rattle.put_side.specs.declared.put_phase.PutPhase.TheVariants.{HeadP, SeeA, AddA, Write, Commit, OpenM, OpenA, RaiseP}
use Rattle.put_side.specs.Stages.{Away, At, Fills}
use Rattle.put_side.specs.PutTable.{IsNoCommit, IsPutTable, IsShared, stage_in, stage_of}
use Rattle.put_side.proofs.Sums.{none_from, one_in, one_to, times_push}
use Rattle.put_side.proofs.Draws.{one_is}
use Rattle.put_side.proofs.Frames.{makes_le}
use Rattle.put_side.proofs.Made.{makes_more}
use Rattle.put_side.proofs.Keeps.{stage_next}
use Rattle.put_side.proofs.Orders.{places_append, times_append}

-- an item more is one more at its place
pub counts_push : (items : List Placed) (p : ℕ) (words : List ℕ) → times p (places (items ++ placed p words ∷ [])) ≡ times p (places items) + 1
counts_push items p words = let e = ap (times p) (places_append items (placed p words ∷ [])) in let n = times_push p p (places items) in let o = one_is p in omega arith

pub times_front : (p : ℕ) (xs ys : List ℕ) → times p xs ≤ times p (xs ++ ys)
times_front p xs ys = let e = times_append p xs ys in omega arith

-- of places that count once below some number and nowhere else, those before a counted one count
pub once_dense : (total : ℕ → ℕ) (count : ℕ) → ((p : ℕ) → total p ≡ one_below p count) → (p q : ℕ) → q ≤ p → 1 ≤ total p → 1 ≤ total q
once_dense total count once p q l h =
    ⊎_elim (λ less. let e = once q in let o = one_in q count (omega arith) in omega arith) (λ more. absurd (let e = once p in let z = none_from p count more in omega arith)) (cases_lt p count)

-- what follows a step takes nothing back
pub takes_more : {P : Type 0} (taken : List Placed) (read : List ℕ) (p : ℕ) (b : After P) → times p (places taken) ≤ times p (places (taken_after taken read b))
takes_more taken read p (Done (answer.Take (take.Ok place))) = let e = ap (times p) (places_append taken (placed place read ∷ [])) in let l = times_front p (places taken) (place ∷ []) in omega arith
takes_more taken read p b = omega arith

module _ {P : Type 0} (table : Table P) (g : Grid) where
  begun_takes : (p : ℕ) (v : View P) (s : Start) → v.phase ≡ None → takes p v ≤ takes p (begun table g v None s)
  begun_takes p v s e = let m = ap (λ (taken : List Placed). times p (places taken)) (begun_taken table g v None s) in omega arith

  step_takes : (p : ℕ) (v : View P) (phase : P) (found : ℕ) → v.phase ≡ Some phase → takes p v ≤ takes p (seen table g v phase found)
  step_takes p v phase found e = takes_more v.taken v.read p (table.after g phase found)

  -- what a seat has taken stays taken
  pub takes_last : (p : ℕ) → Lasts table g (takes p)
  takes_last p = lasts_by table g (takes p) (begun_takes p) (step_takes p)

  -- a take that ends well has taken its place
  pub take_takes : (events : List Event) (i seat p : ℕ) (x : EndsAt table g events i seat (answer.Take (take.Ok p))) → takes p x.before + 1 ≤ takes p x.after
  take_takes events i seat p x =
      let m = taken_at_end table g events i seat p x in
      let e = ap (λ (taken : List Placed). times p (places taken)) m.1 in
      let n = counts_push x.before.taken p m.0 in omega arith

holds_on : (g : Grid) (at : Cursor) (next : ℕ) (more : Bool) → held g (if more then At (Write at next) else At (Commit at)) ≡ place_at g at ∷ []
holds_on g at next true = refl
holds_on g at next false = refl

module _ {P : Type 0} (stage : P → PutStage) (table : Table P) (puts : IsPutTable stage table) (g : Grid) where
  begun_makes : (p : ℕ) (v : View P) (s : Start) → v.phase ≡ None → makes p v ≤ makes p (begun table g v None s)
  begun_makes p v s e = let m = ap (λ (made : List Placed). times p (places made)) (begun_made table g v None s) in omega arith

  step_makes : (p : ℕ) (v : View P) (phase : P) (found : ℕ) → v.phase ≡ Some phase → makes p v ≤ makes p (seen table g v phase found)
  step_makes p v phase found e = makes_more v.made v.entry p (table.after g phase found)

  -- what a seat has made stays made
  pub makes_last : (p : ℕ) → Lasts table g (makes p)
  makes_last p = lasts_by table g (makes p) (begun_makes p) (step_makes p)

  -- where a put begins nothing is held yet
  begun_claims : (p : ℕ) (v : View P) (s : Start) → v.phase ≡ None → claims (stage_of stage) g p v ≤ claims (stage_of stage) g p (begun table g v None s)
  begun_claims p v (start.Put entry) e =
      let was = ap (λ o. times p (places v.made ++ held g (stage_in stage o))) e in
      let is = ap (λ (s : PutStage). times p (places v.made ++ held g s)) puts.first_put in omega arith
  begun_claims p v start.Take e =
      let was = ap (λ o. times p (places v.made ++ held g (stage_in stage o))) e in
      let is = ap (λ (s : PutStage). times p (places v.made ++ held g s)) (puts.first_take g v.taken) in omega arith
  begun_claims p v start.Go e = omega arith

  module _ (p : ℕ) (v : View P) (phase : P) (found : ℕ) where
    abbrev next : View P
    next = seen table g v phase found

    -- a seat that holds nothing loses nothing
    from_none : times p (places v.made ++ []) ≤ claims (stage_of stage) g p next
    from_none = let e = ap (times p) (append-nil (places v.made)) in let m = makes_more v.made v.entry p (table.after g phase found) in let l = makes_le (stage_of stage) g p next in omega arith

    by_stage : (s : PutStage) → stage phase ≡ s → times p (places v.made ++ held g s) ≤ claims (stage_of stage) g p next
    by_stage (At (Write at n)) e =
        let made : next.made ≡ v.made = puts.makes_none g phase found v.made v.entry (subst IsNoCommit (sym e) tt) in
        let stands : stage_of stage next ≡ put_after g (At (Write at n)) found = stage_next stage (table.after g phase found) ∙ puts.after g phase found (subst IsShared (sym e) tt) ∙ ap (λ (s : PutStage). put_after g s found) e in
        let holds : held g (stage_of stage next) ≡ place_at g at ∷ [] = ap (held g) stands ∙ holds_on g at (n + 1) (nat_lt (n + 1) g.width) in
        let same : claims (stage_of stage) g p next ≡ times p (places v.made ++ place_at g at ∷ []) = ap (λ (made : List Placed). times p (places made ++ held g (stage_of stage next))) made ∙ ap (λ (l : List ℕ). times p (places v.made ++ l)) holds in
        omega arith
    by_stage (At (Commit at)) e =
        let made : next.made ≡ v.made ++ placed (place_at g at) v.entry ∷ [] = ap (made_after v.made v.entry) (puts.commits g phase at found e) in
        let is : places next.made ≡ places v.made ++ place_at g at ∷ [] = ap places made ∙ places_append v.made _ in
        let f = ap (times p) is in let l = makes_le (stage_of stage) g p next in omega arith
    by_stage Away e = from_none
    by_stage (At (HeadP turn first)) e = from_none
    by_stage (At (SeeA turn first head)) e = from_none
    by_stage (At (AddA turn first head)) e = from_none
    by_stage (Fills full) e = from_none
    by_stage (At (OpenM full)) e = from_none
    by_stage (At (OpenA full)) e = from_none
    by_stage (At (RaiseP full)) e = from_none

  step_claims : (p : ℕ) (v : View P) (phase : P) (found : ℕ) → v.phase ≡ Some phase → claims (stage_of stage) g p v ≤ claims (stage_of stage) g p (seen table g v phase found)
  step_claims p v phase found e =
      let was = ap (λ o. times p (places v.made ++ held g (stage_in stage o))) e in
      let l = by_stage p v phase found (stage phase) refl in omega arith

  rest_claims : (p : ℕ) (v : View P) → v.phase ≡ None → claims (stage_of stage) g p v ≡ makes p v
  rest_claims p v e = ap (λ o. times p (places v.made ++ held g (stage_in stage o))) e ∙ ap (times p) (append-nil (places v.made))

  module _ (events : List Event) where
    -- a put that ends well has made its place
    pub put_makes : (i seat p : ℕ) (x : EndsAt table g events i seat (answer.Put (put.Ok p))) → makes p x.before + 1 ≤ makes p x.after
    put_makes i seat p x =
        let m = made_at_end table g events i seat p x in
        let e = ap (λ (made : List Placed). times p (places made)) m.1 in
        let n = counts_push x.before.made p m.0 in omega arith

    -- where nobody has made a place at a later call's end, it isn't that of the put
    pub not_made_later : (i seat p j other place : ℕ) (a : Answer) → EndsAt table g events i seat (answer.Put (put.Ok p)) → IsLaterCall table g events i j other a
        → sum_by (makes place) (moment table g events j).views ≡ 0 → place ≢ p
    not_made_later i seat p j other place a ends later none same =
        let before : i < j = let l = later.later in let c : later.first < suc j = later.call.later in omega arith in
        let made = named_lasts table g events (makes p) (makes_last p) i j seat _ ends (put_makes i seat p ends) before in
        let z = ap (λ (q : ℕ). sum_by (makes q) (moment table g events j).views) same in omega arith

    -- where accepted places are dense at each moment, puts are in order of time
    pub puts_in_order : ((n : ℕ) → (count : ℕ) × ((p : ℕ) → sum_by (claims (stage_of stage) g p) (moment table g events n).views ≡ one_below p count)) → IsInOrder table g events (λ p. answer.Put (put.Ok p))
    puts_in_order dense =
        in_order table g events (claims (stage_of stage) g) makes (λ p. answer.Put (put.Ok p))
        record {
          once = λ n p. let d = dense n in let e = d.1 p in let o = one_to p d.0 in omega arith;
          dense = λ n. let d = dense n in once_dense (λ p. sum_by (claims (stage_of stage) g p) (moment table g events n).views) d.0 d.1;
          claims_last = λ p. lasts_by table g (claims (stage_of stage) g p) (begun_claims p) (step_claims p);
          had_lasts = makes_last;
          at_rest = rest_claims;
          gains = put_makes;
        }
