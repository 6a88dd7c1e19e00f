-- A queue whose table has the shared steps of a put has the laws of calls, where its own steps have them.
use Rattle.std.proofs.Common.{◌≡◌, ℕ, Bool, true, false, List, refl, sym, ap, ◌∙◌, subst, inl}
use Rattle.cursor_word.specs.Shape.{Grid}
use Rattle.cursor_word.specs.declared.cursor.Cursor.{Cursor}
use Rattle.rail.specs.declared.entry.Placed.{Placed}
use Rattle.machine.specs.declared.op.Op.{Op}
use Rattle.machine.specs.Bounds.{IsRanked}
use Rattle.machine.specs.Ops.{noted}
use Rattle.machine.specs.Table.{Table}
use Rattle.call_laws.specs.Calls.{IsCallTable, IsOfKind}
use Rattle.put_side.specs.declared.put_phase.PutPhase.{PutPhase}
use Rattle.put_side.specs.declared.put_phase.PutPhase.TheVariants.{HeadP, SeeA, AddA, Write, Commit, OpenM, OpenA, RaiseP}
use Rattle.put_side.specs.PutSteps as puts
use Rattle.put_side.specs.Stages.{PutStage, Away, At, Fills}
use Rattle.put_side.specs.SharesSteps.{IsOwn, SharesSteps}
use Rattle.put_side.proofs.PutFollows.{follows}

-- the laws of calls, of the steps that are the queue's own: none of them stores
pub record HasOwnCalls {P : Type 0} (table : Table P) (stage : P → PutStage) : Type 0 where
  pub begins_take : (g : Grid) (taken : List Placed) → table.is_put (table.first_take g taken) ≡ false
  pub take_in_range : (g : Grid) (taken : List Placed) → table.IsInRange g (table.first_take g taken)
  pub stays : (g : Grid) (p : P) (found : ℕ) → IsOwn (stage p) → IsOfKind table (table.is_put p) (table.after g p found)
  pub blind : (g : Grid) (p : P) (xs ys : List ℕ) → IsOwn (stage p) → table.want g p xs ≡ table.want g p ys
  pub notes : (g : Grid) (p : P) (entry : List ℕ) (found : ℕ) → IsOwn (stage p) → noted (table.want g p entry) found ≡ found

module _ {P : Type 0} (table : Table P) (stage : P → PutStage) (to_phase : PutPhase → P) (to_fill : Cursor → P) (shares : SharesSteps table stage to_phase to_fill) where
  put_stays : (g : Grid) (q : PutPhase) (found : ℕ) → IsOfKind table true (puts.after to_phase to_fill g q found)
  put_stays g q found = follows to_phase to_fill (IsOfKind table true)
      (record { next = λ q led. shares.is_put q; fills = λ full. shares.fills_is_put full; ok = λ place. refl; moved = λ earlier later. refl }) g q found

  -- a store finds nothing that matters
  put_blind : (g : Grid) (q : PutPhase) (entry : List ℕ) (found : ℕ) → puts.after to_phase to_fill g q (noted (puts.want g q entry) found) ≡ puts.after to_phase to_fill g q found
  put_blind g (HeadP turn first) entry found = refl
  put_blind g (SeeA turn first head) entry found = refl
  put_blind g (AddA turn first head) entry found = refl
  put_blind g (Write at next) entry found = refl
  put_blind g (Commit at) entry found = refl
  put_blind g (OpenM full) entry found = refl
  put_blind g (OpenA full) entry found = refl
  put_blind g (RaiseP full) entry found = refl

  put_fits : (g : Grid) (q : PutPhase) (entry : List ℕ) (found : ℕ) → puts.FindsFit q found → puts.FindsFit q (noted (puts.want g q entry) found)
  put_fits g (HeadP turn first) entry found fits = fits
  put_fits g (SeeA turn first head) entry found fits = tt
  put_fits g (AddA turn first head) entry found fits = tt
  put_fits g (Write at next) entry found fits = tt
  put_fits g (Commit at) entry found fits = tt
  put_fits g (OpenM full) entry found fits = tt
  put_fits g (OpenA full) entry found fits = tt
  put_fits g (RaiseP full) entry found fits = tt

  -- in each phase, by where it stands
  stage_case : (K : P → Type 0) → ((q : PutPhase) → K (to_phase q)) → ((p : P) → IsOwn (stage p) → K p) → (p : P) (s : PutStage) → stage p ≡ s → K p
  stage_case K shared mine p (At q) e = subst K (sym (shares.only p q e)) (shared q)
  stage_case K shared mine p Away e = mine p (subst IsOwn (sym e) tt)
  stage_case K shared mine p (Fills full) e = mine p (subst IsOwn (sym e) tt)

  pub by_stage : (K : P → Type 0) → ((q : PutPhase) → K (to_phase q)) → ((p : P) → IsOwn (stage p) → K p) → (p : P) → K p
  by_stage K shared mine p = stage_case K shared mine p (stage p) refl

  module _ (own : HasOwnCalls table stage) (ranked : IsRanked table) where
    pub call_table : IsCallTable table
    call_table = record {
      begins_put = ap table.is_put shares.first_put ∙ shares.is_put puts.first_put;
      begins_take = own.begins_take;
      stays = λ g p found. by_stage (λ (x : P). IsOfKind table (table.is_put x) (table.after g x found))
          (λ q. subst (λ (b : Bool). IsOfKind table b (table.after g (to_phase q) found)) (sym (shares.is_put q)) (subst (IsOfKind table true) (sym (shares.after g q found)) (put_stays g q found)))
          (λ x mine. own.stays g x found mine) p;
      put_in_range = λ g. subst (table.IsInRange g) (sym shares.first_put) (subst (λ (X : Type 0). X) (sym (shares.is_in_range g puts.first_put)) (inl refl));
      take_in_range = own.take_in_range;
      ranked = ranked;
      takes_blind = λ g p xs ys. by_stage (λ (x : P). table.is_put x ≡ false → table.want g x xs ≡ table.want g x ys)
          (λ q none. let t = shares.is_put q in cc) (λ x mine none. own.blind g x xs ys mine) p;
      stores_blind = λ g p entry found. by_stage (λ (x : P). table.after g x (noted (table.want g x entry) found) ≡ table.after g x found)
          (λ q. subst (λ (n : ℕ). table.after g (to_phase q) n ≡ table.after g (to_phase q) found) (sym (ap (λ (o : Op). noted o found) (shares.want g q entry)))
          (shares.after g q _ ∙ put_blind g q entry found ∙ sym (shares.after g q found)))
          (λ x mine. ap (table.after g x) (own.notes g x entry found mine)) p;
      stores_fit = λ g p entry found. by_stage (λ (x : P). table.FindsFit x found → table.FindsFit x (noted (table.want g x entry) found))
          (λ q fits. subst (table.FindsFit (to_phase q)) (sym (ap (λ (o : Op). noted o found) (shares.want g q entry)))
          (subst (λ (X : Type 0). X) (sym (shares.finds_fit q _)) (put_fits g q entry found (subst (λ (X : Type 0). X) (shares.finds_fit q found) fits))))
          (λ x mine fits. subst (table.FindsFit x) (sym (own.notes g x entry found mine)) fits) p;
    }
