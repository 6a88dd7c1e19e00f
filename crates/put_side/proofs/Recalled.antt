-- What the steps of a call so far show, by the phase of a put that they led to.
use Rattle.std.proofs.Common.{◌≡◌, ℕ, suc, ◌+◌, ◌%◌, ◌<◌, ◌⊎◌, List, [], ◌∷◌, ◌++◌, length, refl, sym, ap, ◌∙◌, subst, inl, inr, ⊎_elim, arith}
use Rattle.std.specs.Prelude.{Some, slice_get}
use Rattle.std.proofs.lemmas.List.{length-append}
use Rattle.std.proofs.lemmas.Option.{slice_get_within}
use Rattle.cursor_word.specs.Shape.{Grid}
use Rattle.cursor_word.specs.Cursor.{offset_span, place_at, unpacked}
use Rattle.cursor_word.specs.declared.cursor.Cursor.{Cursor}
use Rattle.rail.specs.declared.answer.Answer.TheVariants as answer
use Rattle.rail.specs.declared.answer.Put.TheVariants as put
use Rattle.rail.specs.declared.answer.Why.{Why}
use Rattle.rail.specs.declared.answer.Why.TheVariants as why
use Rattle.machine.specs.declared.op.Op.{Op}
use Rattle.machine.specs.declared.op.After.{After}
use Rattle.machine.specs.declared.op.After.TheVariants.{Next, Done}
use Rattle.machine.specs.Moments.{CallStep, taken_step}
use Rattle.machine.specs.Ops.{noted}
use Rattle.machine.specs.Table.{Table}
use Rattle.put_side.specs.declared.put_phase.PutPhase.{PutPhase}
use Rattle.put_side.specs.declared.put_phase.PutPhase.TheVariants.{HeadP, SeeA, AddA, Write, Commit, OpenM, OpenA, RaiseP}
use Rattle.put_side.specs.PutSteps as puts
use Rattle.put_side.specs.Stages.{PutStage, At}
use Rattle.put_side.specs.SharesSteps.{SharesSteps}
use Rattle.put_side.specs.Causes.{BusyShown, FindsAllocated, FoundBy, first_found, second_found}
use Rattle.put_side.proofs.Choices.{pick_equal, pick_less}
use Rattle.put_side.proofs.Sums.{get_front}

pub get_end : {A : Type 0} (xs : List A) (x : A) → slice_get (xs ++ x ∷ []) (length xs) ≡ Some x
get_end [] x = refl
get_end (z ∷ zs) x = get_end zs x

pub one_longer : {A : Type 0} (xs : List A) (x : A) → suc (length xs) ≡ length (xs ++ x ∷ [])
one_longer xs x = let n = length-append xs (x ∷ []) in omega arith

module _ {P : Type 0} (shown : P → ℕ → Cursor) where
  -- the last step found the second cursor of a Busy answer, and an earlier one the first
  pub record BusyFound (Pair : P → P → Type 0) (steps : List (CallStep P)) (reason : Why) (this : CallStep P) : Type 0 where
    pub earlier : FoundBy shown (λ p. Unit {0}) (first_found reason) steps
    pub later : FoundBy shown (λ q. Pair earlier.step.phase q) (second_found reason) steps
    pub in_order : earlier.number < later.number
    pub is_last : suc later.number ≡ length steps
    pub is_this : later.step ≡ this

  -- with what the last step tells of the two cursors
  pub busy_shown : (Pair : P → P → Type 0) (Differ : Why → P → Type 0) (steps : List (CallStep P)) (last : CallStep P) (reason : Why) → BusyFound Pair steps reason last → Differ reason last.phase → BusyShown shown Pair Differ steps reason
  busy_shown Pair Differ steps last reason f d = record {
    earlier = f.earlier;
    later = f.later;
    in_order = f.in_order;
    is_last = f.is_last;
    differ = subst (λ (t : CallStep P). Differ reason t.phase) (sym f.is_this) d;
  }

  -- in the second turn a step of the first turn is recalled
  abbrev pub TurnRecalls : (ℕ → P → Type 0) → ℕ → Cursor → List (CallStep P) → Type 0
  TurnRecalls Is turn first steps = (turn ≡ 1) ⊎ ((turn ≡ 2) × FoundBy shown (Is 1) first steps)

  module _ (steps : List (CallStep P)) (this : CallStep P) where
    abbrev pub kept : (Is : P → Type 0) (c : Cursor) → FoundBy shown Is c steps → FoundBy shown Is c (steps ++ this ∷ [])
    kept Is c f = record { number = f.number; step = f.step; at = get_front steps this f.number f.step f.at; kind = f.kind; found = f.found }

    pub turn_kept : (Is : ℕ → P → Type 0) (turn : ℕ) (first : Cursor) → TurnRecalls Is turn first steps → TurnRecalls Is turn first (steps ++ this ∷ [])
    turn_kept Is turn first (inl e) = inl e
    turn_kept Is turn first (inr f) = inr (f.0, kept (Is 1) first f.1)

    abbrev pub fresh : (Is : P → Type 0) (c : Cursor) → Is this.phase → shown this.phase this.found ≡ c → FoundBy shown Is c (steps ++ this ∷ [])
    fresh Is c is shows = record { number = length steps; step = this; at = get_end steps this; kind = is; found = shows }

    -- this step found the second cursor of a Busy answer, and an earlier one the first
    pub busy : (Pair : P → P → Type 0) (Is : P → Type 0) (reason : Why) → FoundBy shown Is (first_found reason) steps → ((q : P) → Is q → Pair q this.phase) → shown this.phase this.found ≡ second_found reason
        → BusyFound Pair (steps ++ this ∷ []) reason this
    busy Pair Is reason f pair second = record {
      earlier = record { number = f.number; step = f.step; at = get_front steps this f.number f.step f.at; kind = tt; found = f.found };
      later = record { number = length steps; step = this; at = get_end steps this; kind = pair f.step.phase f.kind; found = second };
      in_order = slice_get_within steps f.number f.step f.at;
      is_last = one_longer steps this;
      is_this = refl;
    }

module _ {P : Type 0} (stage : P → PutStage) (shown : P → ℕ → Cursor) where
  -- a step of this turn that finds the allocated cursor, and the pair of them in both turns
  abbrev pub Finds : ℕ → P → Type 0
  Finds turn p = FindsAllocated turn (stage p)

  abbrev pub FindsBoth : P → P → Type 0
  FindsBoth p q = Finds 1 p × Finds 2 q

  -- what the steps of a put show, by its phase
  abbrev pub PutRecalls : List (CallStep P) → PutPhase → Type 0
  PutRecalls steps (HeadP turn first) = TurnRecalls shown Finds turn first steps
  PutRecalls steps (SeeA turn first head) = TurnRecalls shown Finds turn first steps
  PutRecalls steps (AddA turn first head) = TurnRecalls shown Finds turn first steps
  PutRecalls steps (Write at next) = Unit {0}
  PutRecalls steps (Commit at) = Unit {0}
  PutRecalls steps (OpenM full) = FoundBy shown (Finds 1) full steps
  PutRecalls steps (OpenA full) = FoundBy shown (Finds 1) full steps
  PutRecalls steps (RaiseP full) = FoundBy shown (Finds 1) full steps

  -- what follows, where the steps and this one show so much of it
  pub record ShownOfEach (to_phase : PutPhase → P) (to_fill : Cursor → P) (steps : List (CallStep P)) (this : CallStep P) (K : After P → Type 0) : Type 0 where
    pub next : (q : PutPhase) → PutRecalls (steps ++ this ∷ []) q → K (Next (to_phase q))
    pub fills : (full : Cursor) → FoundBy shown (Finds 1) full (steps ++ this ∷ []) → K (Next (to_fill full))
    pub ok : (place : ℕ) → K (Done (answer.Put (put.Ok place)))
    pub moved : (earlier later : Cursor) → BusyFound shown FindsBoth (steps ++ this ∷ []) (why.Moved earlier later) this → K (Done (answer.Put (put.Busy (why.Moved earlier later))))

module _ {P : Type 0} (table : Table P) (stage : P → PutStage) (to_phase : PutPhase → P) (to_fill : Cursor → P) (shares : SharesSteps table stage to_phase to_fill)
    (shown : P → ℕ → Cursor) (shows : (q : PutPhase) (word : ℕ) → shown (to_phase q) word ≡ unpacked word) (g : Grid) (entry : List ℕ) (n : ℕ) (steps : List (CallStep P)) where
  abbrev step : PutPhase → ℕ → CallStep P
  step q found = taken_step table g entry n (to_phase q) found

  module _ (q : PutPhase) (found : ℕ) (K : After P → Type 0) (each : ShownOfEach stage shown to_phase to_fill steps (step q found) K) where
    abbrev this : CallStep P
    this = step q found

    still : (full : Cursor) → FoundBy shown (Finds stage shown 1) full steps → FoundBy shown (Finds stage shown 1) full (steps ++ this ∷ [])
    still full f = kept shown steps this (Finds stage shown 1) full f

    turns : (turn : ℕ) (first : Cursor) → TurnRecalls shown (Finds stage shown) turn first steps → TurnRecalls shown (Finds stage shown) turn first (steps ++ this ∷ [])
    turns turn first f = turn_kept shown steps this (Finds stage shown) turn first f

    -- a block that was found filled
    filled_shows : (turn : ℕ) (first : Cursor) → TurnRecalls shown (Finds stage shown) turn first steps → ((z : ℕ) → turn ≡ z → FindsAllocated z (At q)) → noted (puts.want g q entry) found ≡ found → K (puts.filled to_phase to_fill turn first (unpacked found))
    filled_shows turn first f kind same =
        let finds : (z : ℕ) → turn ≡ z → Finds stage shown z (to_phase q) = λ z e. subst (FindsAllocated z) (sym (shares.stands q)) (kind z e) in
        let is : shown this.phase this.found ≡ unpacked found = shows q this.found ∙ ap unpacked (ap (λ (o : Op). noted o found) (shares.want g q entry) ∙ same) in
        pick_equal K turn 1 _ _
        (λ e. each.fills (unpacked found) (fresh shown steps this (Finds stage shown 1) (unpacked found) (finds 1 e) is))
        (λ ne. ⊎_elim (λ e. absurd (ne e)) (λ t. each.moved first (unpacked found) (busy shown steps this (FindsBoth stage shown) (Finds stage shown 1) (why.Moved first (unpacked found)) t.1 (λ p h. (h, finds 2 t.0)) is)) f)

  -- each shared step keeps what the steps show
  pub put_shows : (q : PutPhase) (found : ℕ) (K : After P → Type 0) → ShownOfEach stage shown to_phase to_fill steps (step q found) K → PutRecalls stage shown steps q → K (puts.after to_phase to_fill g q found)
  put_shows (HeadP turn first) found K each f = each.next (SeeA turn first found) (turns (HeadP turn first) found K each turn first f)
  put_shows (SeeA turn first head) found K each f =
      let q : PutPhase = SeeA turn first head in
      pick_less K (found % offset_span) g.size _ _ (λ l. each.next (AddA turn first head) (turns q found K each turn first f)) (λ l. filled_shows q found K each turn first f (λ z e. e) refl)
  put_shows (AddA turn first head) found K each f =
      let q : PutPhase = AddA turn first head in
      pick_less K (found % offset_span) g.size _ _ (λ l. each.next (Write (unpacked found) 0) tt) (λ l. filled_shows q found K each turn first f (λ z e. e) refl)
  put_shows (Write at next) found K each f = pick_less K (next + 1) g.width _ _ (λ l. each.next (Write at (next + 1)) tt) (λ l. each.next (Commit at) tt)
  put_shows (Commit at) found K each f = each.ok (place_at g at)
  put_shows (OpenM full) found K each f = each.next (OpenA full) (still (OpenM full) found K each full f)
  put_shows (OpenA full) found K each f = each.next (RaiseP full) (still (OpenA full) found K each full f)
  put_shows (RaiseP full) found K each f = each.next (HeadP 2 full) (inr (refl, still (RaiseP full) found K each full f))
