-- Each step of the one seat keeps the rule.
use Rattle.std.proofs.Common.{◌≡◌, ℕ, zero, suc, ◌≤◌, List, [], ◌∷◌, Bool, length, refl, sym, ap, ◌∙◌, subst, arith}
use Rattle.std.specs.Prelude.{Option, Some, None, slice_set}
use Rattle.std.proofs.lemmas.List.Sums.{sum_by-cons}
use mathlib.Core.Option.{some, some-ne-none}
use lib.ListN.{get_elem?}
use Rattle.cursor_word.specs.Shape.{Grid, IsWithinLimits}
use Rattle.cursor_word.specs.Cursor.{place_span}
use Rattle.cursor_word.proofs.Places.{most_puts_to}
use Rattle.machine.specs.declared.event.Start.{Start}
use Rattle.machine.specs.declared.event.Start.TheVariants as start
use Rattle.machine.specs.declared.op.After.{After}
use Rattle.machine.specs.declared.op.After.TheVariants.{Next, Done}
use Rattle.machine.specs.declared.view.View.{View}
use Rattle.machine.specs.Ops.{index, moved}
use Rattle.machine.specs.Table.{Table}
use Rattle.machine.specs.Steps.{begun, finds, phase_after, seen, words_after}
use Rattle.machine.specs.Invariant.{Fact, IsInvariant, made_total}
use Rattle.call_laws.specs.Answers.{KeepsPromises, Promises}
use Rattle.call_laws.specs.Calls.{IsCallTable, ReadsInOrder}
use Rattle.call_steps.specs.Rule.{HasRoom, IsAfterInRange, MayDo, Moves, Rule, RunsCalls, in_call, in_phase, logged, value_of}
use Rattle.call_steps.proofs.Seen.{room_begun, room_seen, value_after, value_fits, value_seen}
use Rattle.solo_rail.specs.declared.holding.Holding.{Holding}
use Rattle.solo_rail.specs.Holding.{IsHeld, TellsAlone, alone_rule, does_step, holding}
use Rattle.solo_rail.specs.Lone.{AnswersExactly, LoneFacts}

-- the one view has all that is made
pub made_one : {P : Type 0} (v : View P) → made_total (v ∷ []) ≡ length v.made
made_one {P} v = omega (arith, sum_by-cons (λ (u : View P). length u.made) v [])

pub few_made : {P : Type 0} (t : Table P) (g : Grid) (v : View P) → HasRoom t g v → length v.made ≤ place_span g
few_made t g v room = let most = most_puts_to g in omega arith

pub only_at : {A : Type 0} (seat h : A) (position : ℕ) → get_elem? (seat ∷ []) position ≡ some h → (position ≡ 0) × (seat ≡ h)
only_at seat h zero e = (refl, cc)
only_at seat h (suc i) e = absurd (some-ne-none h (sym e))

module _ {P : Type 0} (t : Table P) (Holds : Fact P) (drops : Bool) (lone : LoneFacts P) (law : IsInvariant t Holds) (table : IsCallTable t) (reads : ReadsInOrder t) (promises : KeepsPromises t Holds drops) (exactly : AnswersExactly t Holds lone) where
  -- the seat in a call
  begins_stands : (g : Grid) (limits : IsWithinLimits g) (words : List ℕ) (v : View P) (s : Start) (ph : Option P) → v.phase ≡ ph → MayDo g v s → lone.Stands g words v → lone.Stands g words (begun t g v ph s)
  begins_stands g limits words v s (Some p) is may stands = stands
  begins_stands g limits words v (start.Put entry) None is may stands = exactly.begins g words v (start.Put entry) limits may.0 is stands
  begins_stands g limits words v start.Take None is may stands = exactly.begins g words v start.Take limits tt is stands
  begins_stands g limits words v start.Go None is may stands = absurd may

  few_total : (g : Grid) (v : View P) → HasRoom t g v → made_total (v ∷ []) ≤ place_span g
  few_total g v room = let e = made_one v in let few = few_made t g v room in omega arith

  module _ (g : Grid) (words : List ℕ) (u : View P) (p : P) (limits : IsWithinLimits g) (room : HasRoom t g u) (here : u.phase ≡ Some p) (stands : lone.Stands g words u) where
    abbrev word : ℕ
    word = finds t g words u p

    abbrev value : ℕ
    value = value_of (logged (t.want g p u.entry) word)

    abbrev next : View P
    next = seen t g u p word

    room_next : HasRoom t g next
    room_next = room_seen t table g u p word here room

    stands_next : lone.Stands g (words_after t g words u p) next
    stands_next = exactly.steps g words u p limits (few_made t g u room) here stands

    range_by : (b : After P) → t.after g p word ≡ b → IsAfterInRange t g b
    range_by (Next q) e = (law.can_step g (words_after t g words u p) (next ∷ []) 0 next q limits (exactly.holds g (words_after t g words u p) next stands_next) (few_total g next room_next) refl (ap phase_after e)).range
    range_by (Done a) e = tt

    holds_here : Holds g words (u ∷ [])
    holds_here = exactly.holds g words u stands

    same_after : t.after g p value ≡ t.after g p word
    same_after = value_after t table g reads u p word

    same_seen : seen t g u p value ≡ next
    same_seen = value_seen t table g reads u p word

    tells : TellsAlone t drops lone (holding g u words) p value
    tells = record {
      may = record {
        fits = value_fits t table g reads u p word (law.can_step g words (u ∷ []) 0 u p limits holds_here (few_total g u room) refl here).found;
        follows = subst (IsAfterInRange t g) (sym same_after) (range_by (t.after g p word) refl);
      };
      exact = λ a e. exactly.answers g words u p a limits (few_made t g u room) here stands (sym same_after ∙ e);
      promised = λ a e trail. subst (λ (w : View P). Promises g drops u w a) (sym same_seen) (promises g words (u ∷ []) 0 u p a limits holds_here (few_total g u room) refl here trail (sym same_after ∙ e));
    }

    -- the seat's view after the step
    held_next : IsHeld t lone g (words_after t g words u p) (does_step t (holding g u words) p value ∷ [])
    held_next = record {
      seat = does_step t (holding g u words) p value;
      only = refl;
      limits = limits;
      shape = refl;
      known = refl;
      room = subst (HasRoom t g) (sym same_seen) room_next;
      stands = subst (lone.Stands g (words_after t g words u p)) (sym same_seen) stands_next;
    }

  abbrev r : Rule P (Holding P)
  r = alone_rule t drops lone

  in_call_is : (h : Holding P) (s : Start) (ph : Option P) → in_phase r h s ph ≡ holding h.shape (begun t h.shape h.view ph s) h.words
  in_call_is h s None = refl
  in_call_is h s (Some p) = refl

  -- where the seat's view after a step keeps the rule and is told of
  abbrev Steps_on : Grid → Holding P → P → Holding P → Type 0
  Steps_on g h p u =
      (x : Holding P) × IsHeld t lone g (slice_set h.words (index (t.want g p u.view.entry)) (moved (t.want g p u.view.entry) (finds t g h.words u.view p))) (x ∷ [])
      × Moves r u u.view.phase (value_of (logged (t.want g p u.view.entry) (finds t g h.words u.view p))) x

  steps_on : (h : Holding P) (s : Start) (p : P) → IsWithinLimits h.shape → HasRoom t h.shape h.view → lone.Stands h.shape h.words h.view → MayDo h.shape h.view s → (in_call r h s).view.phase ≡ Some p
      → Steps_on h.shape h p (in_call r h s)
  steps_on h s p limits room stands may here =
      let is = in_call_is h s h.view.phase in
      let g : Grid = h.shape in
      let b : View P = begun t g h.view h.view.phase s in
      let at : b.phase ≡ Some p = ap (λ (k : Holding P). k.view.phase) (sym is) ∙ here in
      let stands_b = begins_stands g limits h.words h.view s h.view.phase refl may stands in
      let room_b : HasRoom t g b = room_begun t table g h.view h.view.phase s refl may room in
      let x = value g h.words b p limits room_b at stands_b in
      let told : Moves r (holding g b h.words) b.phase x (does_step t (holding g b h.words) p x) =
      subst (λ (ph : Option P). Moves r (holding g b h.words) ph x (does_step t (holding g b h.words) p x)) (sym at) (refl, tells g h.words b p limits room_b at stands_b) in
      subst (Steps_on g h p) (sym is) (does_step t (holding g b h.words) p x, held_next g h.words b p limits room_b at stands_b, told)

  -- the calls of the machine can be run under the rule
  pub alone_runs : RunsCalls (alone_rule t drops lone) t drops (IsHeld t lone)
  alone_runs = record {
    call_begins = λ h s sits rest. (refl, refl, tt);
    phase_moves = λ h s p n sits. (refl, refl, tt);
    told = λ h p n told. told.may;
    promised = λ h p n a told is trail. told.promised a is trail;
    kept = λ key h s p sits may here words views position held get fits.
        let u = in_call r h s in
        let o = t.want h.shape p u.view.entry in
        let at = only_at held.seat h position (subst (λ (l : List (Holding P)). get_elem? l position ≡ some h) held.only get) in
        let shape : h.shape ≡ key = ap (λ (k : Holding P). k.shape) (sym at.1) ∙ held.shape in
        let known : h.words ≡ words = ap (λ (k : Holding P). k.words) (sym at.1) ∙ held.known in
        let limits : IsWithinLimits h.shape = subst IsWithinLimits (sym shape) held.limits in
        let room : HasRoom t h.shape h.view = subst (λ (g : Grid). HasRoom t g h.view) (sym shape) (subst (λ (k : Holding P). HasRoom t key k.view) at.1 held.room) in
        let stands : lone.Stands h.shape h.words h.view =
        subst (λ (g : Grid). lone.Stands g h.words h.view) (sym shape) (subst (λ (ws : List ℕ). lone.Stands key ws h.view) (sym known) (subst (λ (k : Holding P). lone.Stands key words k.view) at.1 held.stands)) in
        let q = steps_on h s p limits room stands may here in
        let views_are : slice_set views position q.0 ≡ q.0 ∷ [] =
        ap (λ (l : List (Holding P)). slice_set l position q.0) held.only ∙ ap (λ (i : ℕ). slice_set (held.seat ∷ []) i q.0) at.0 in
        let held_x : IsHeld t lone key (slice_set words (index o) (moved o (finds t h.shape words u.view p))) (q.0 ∷ []) =
        subst (λ (g : Grid). IsHeld t lone g (slice_set words (index o) (moved o (finds t h.shape words u.view p))) (q.0 ∷ [])) shape
        (subst (λ (ws : List ℕ). IsHeld t lone h.shape (slice_set ws (index o) (moved o (finds t h.shape ws u.view p))) (q.0 ∷ [])) known q.1) in (
          q.0,
          subst (λ (l : List (Holding P)). IsHeld t lone key (slice_set words (index o) (moved o (finds t h.shape words u.view p))) l) (sym views_are) held_x,
          subst (λ (ws : List ℕ). Moves r u u.view.phase (value_of (logged o (finds t h.shape ws u.view p))) q.0) known q.2,
        );
  }
