-- A queue whose table has the shared steps of a put is a machine of puts.
use Rattle.std.proofs.Common.{◌≡◌, ℕ, ◌+◌, ◌%◌, List, Bool, true, false, refl, sym, ap, ◌∙◌, subst}
use Rattle.std.specs.Prelude.{if◌then◌else◌, ◌==◌, nat_lt}
use Rattle.cursor_word.specs.Shape.{Grid}
use Rattle.cursor_word.specs.Cursor.{offset_span, unpacked}
use Rattle.cursor_word.specs.declared.cursor.Cursor.{Cursor}
use Rattle.rail.specs.declared.entry.Placed.{Placed}
use Rattle.machine.specs.declared.op.After.{After}
use Rattle.machine.specs.declared.op.After.TheVariants.{Next}
use Rattle.machine.specs.Steps.{made_after}
use Rattle.machine.specs.Table.{Table}
use Rattle.put_side.specs.declared.put_phase.PutPhase.{PutPhase}
use Rattle.put_side.specs.declared.put_phase.PutPhase.TheVariants.{HeadP, SeeA, AddA, Write, Commit, OpenM, OpenA, RaiseP}
use Rattle.put_side.specs.PutSteps as puts
use Rattle.put_side.specs.Stages.{PutStage, Away, At, Fills, fills, put_after, put_want}
use Rattle.put_side.specs.PutTable.{IsNoCommit, IsPutTable, IsShared, stage_after}
use Rattle.put_side.specs.SharesSteps.{IsOwn, SharesSteps}
use Rattle.put_side.proofs.Choices.{pick_any}

module _ {P : Type 0} (table : Table P) (stage : P → PutStage) (to_phase : PutPhase → P) (to_fill : Cursor → P) (shares : SharesSteps table stage to_phase to_fill) where
  either : (c : Bool) (x y : After P) → stage_after stage (if c then x else y) ≡ (if c then stage_after stage x else stage_after stage y)
  either true x y = refl
  either false x y = refl

  abbrev MakesNone : List Placed → List ℕ → After P → Type 0
  MakesNone made entry b = made_after made entry b ≡ made

  fills_as : (turn : ℕ) (first found : Cursor) → stage_after stage (puts.filled to_phase to_fill turn first found) ≡ fills turn found
  fills_as turn first found = either (turn == 1) _ _ ∙ ap (λ (s : PutStage). if turn == 1 then s else Away) (shares.fills found)

  room_as : (g : Grid) (turn : ℕ) (first : Cursor) (found : ℕ) (room : PutPhase)
      → stage_after stage (if nat_lt (found % offset_span) g.size then Next (to_phase room) else puts.filled to_phase to_fill turn first (unpacked found)) ≡ (if nat_lt (found % offset_span) g.size then At room else fills turn (unpacked found))
  room_as g turn first found room =
      let c : Bool = nat_lt (found % offset_span) g.size in
      either c _ _ ∙ ap (λ (s : PutStage). if c then s else stage_after stage (puts.filled to_phase to_fill turn first (unpacked found))) (shares.stands room)
      ∙ ap (λ (s : PutStage). if c then At room else s) (fills_as turn first (unpacked found))

  goes_on : (g : Grid) (p : PutPhase) (found : ℕ) → stage_after stage (puts.after to_phase to_fill g p found) ≡ put_after g (At p) found
  goes_on g (HeadP turn first) found = shares.stands (SeeA turn first found)
  goes_on g (SeeA turn first head) found = room_as g turn first found (AddA turn first head)
  goes_on g (AddA turn first head) found = room_as g turn first found (Write (unpacked found) 0)
  goes_on g (Write at next) found =
      let c : Bool = nat_lt (next + 1) g.width in
      either c _ _ ∙ ap (λ (s : PutStage). if c then s else stage (to_phase (Commit at))) (shares.stands (Write at (next + 1))) ∙ ap (λ (s : PutStage). if c then At (Write at (next + 1)) else s) (shares.stands (Commit at))
  goes_on g (Commit at) found = refl
  goes_on g (OpenM full) found = shares.stands (OpenA full)
  goes_on g (OpenA full) found = shares.stands (RaiseP full)
  goes_on g (RaiseP full) found = shares.stands (HeadP 2 full)

  fills_none : (made : List Placed) (entry : List ℕ) (turn : ℕ) (first found : Cursor) → made_after made entry (puts.filled to_phase to_fill turn first found) ≡ made
  fills_none made entry turn first found = pick_any (MakesNone made entry) (turn == 1) _ _ refl refl

  put_makes_none : (g : Grid) (p : PutPhase) (found : ℕ) (made : List Placed) (entry : List ℕ) → IsNoCommit (At p) → made_after made entry (puts.after to_phase to_fill g p found) ≡ made
  put_makes_none g (HeadP turn first) found made entry h = refl
  put_makes_none g (SeeA turn first head) found made entry h = pick_any (MakesNone made entry) (nat_lt (found % offset_span) g.size) _ _ refl (fills_none made entry turn first (unpacked found))
  put_makes_none g (AddA turn first head) found made entry h = pick_any (MakesNone made entry) (nat_lt (found % offset_span) g.size) _ _ refl (fills_none made entry turn first (unpacked found))
  put_makes_none g (Write at next) found made entry h = pick_any (MakesNone made entry) (nat_lt (next + 1) g.width) _ _ refl refl
  put_makes_none g (Commit at) found made entry h = absurd h
  put_makes_none g (OpenM full) found made entry h = refl
  put_makes_none g (OpenA full) found made entry h = refl
  put_makes_none g (RaiseP full) found made entry h = refl

  -- a step of a phase, by where it stands
  wants : (g : Grid) (p : P) (s : PutStage) (words : List ℕ) → stage p ≡ s → IsShared s → table.want g p words ≡ put_want g s words
  wants g p (At q) words e h = ap (λ (x : P). table.want g x words) (shares.only p q e) ∙ shares.want g q words
  wants g p Away words e h = absurd h
  wants g p (Fills full) words e h = absurd h

  goes : (g : Grid) (p : P) (s : PutStage) (found : ℕ) → stage p ≡ s → IsShared s → stage_after stage (table.after g p found) ≡ put_after g s found
  goes g p (At q) found e h = ap (λ (x : P). stage_after stage (table.after g x found)) (shares.only p q e) ∙ ap (λ (b : After P). stage_after stage b) (shares.after g q found) ∙ goes_on g q found
  goes g p Away found e h = absurd h
  goes g p (Fills full) found e h = absurd h

  makes_none : (g : Grid) (p : P) (s : PutStage) (found : ℕ) (made : List Placed) (entry : List ℕ) → stage p ≡ s → IsNoCommit s → made_after made entry (table.after g p found) ≡ made
  makes_none g p (At q) found made entry e h = ap (λ (x : P). made_after made entry (table.after g x found)) (shares.only p q e) ∙ ap (λ (b : After P). made_after made entry b) (shares.after g q found) ∙ put_makes_none g q found made entry h
  makes_none g p Away found made entry e h = shares.makes_none g p found made entry (subst IsOwn (sym e) tt)
  makes_none g p (Fills full) found made entry e h = shares.makes_none g p found made entry (subst IsOwn (sym e) tt)

  pub shared_table : IsPutTable stage table
  shared_table =
      record {
        first_put = ap stage shares.first_put ∙ shares.stands puts.first_put;
        first_take = shares.first_take;
        want = λ g p words h. wants g p (stage p) words refl h;
        after = λ g p found h. goes g p (stage p) found refl h;
        commits = λ g p at found e. ap (λ (x : P). table.after g x found) (shares.only p (Commit at) e) ∙ shares.after g (Commit at) found;
        makes_none = λ g p found made entry h. makes_none g p (stage p) found made entry refl h;
      }
