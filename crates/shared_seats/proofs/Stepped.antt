-- Each step of a seat's call keeps the rule, and tells what the machine's laws say of it.
use Rattle.std.proofs.Common.{◌≡◌, ℕ, ◌*◌, ◌≤◌, List, [], ◌∷◌, ◌++◌, All, Bool, get_or, length, set, IsPermutation, refl, sym, ap, ◌∙◌, subst, ⊎_elim, arith}
use Rattle.std.specs.Prelude.{Option, Some, None, slice_get, slice_index, slice_set}
use Rattle.std.proofs.lemmas.List.Sums.{sum_by-le}
use Rattle.std.proofs.lemmas.List.{length-set}
use Rattle.std.proofs.lemmas.List.Sorted.{IsPermutation-sym, IsPermutation-trans}
use Rattle.std.proofs.lemmas.Option.{slice_get-get_or}
use Rattle.cursor_word.specs.Shape.{Grid, IsWithinLimits}
use Rattle.cursor_word.specs.Cursor.{most_puts, place_span}
use Rattle.cursor_word.proofs.Places.{most_puts_fit}
use Rattle.rail.specs.declared.answer.Answer.{Answer}
use mathlib.Core.Option.{some}
use lib.ListN.{get_elem?}
use Rattle.step_log.proofs.Lists.{at_set}
use Rattle.step_log.specs.Log.{Keeps}
use Rattle.machine.specs.declared.op.After.{After}
use Rattle.machine.specs.declared.op.After.TheVariants.{Next, Done}
use Rattle.machine.specs.declared.event.Start.{Start}
use Rattle.machine.specs.declared.event.Start.TheVariants as start
use Rattle.machine.specs.declared.view.View.{View}
use Rattle.machine.specs.Ops.{index, moved}
use Rattle.machine.proofs.Lists.{get_set, get_set_same, set_again}
use Rattle.machine.specs.Table.{Table}
use Rattle.machine.specs.Steps.{begun, finds, phase_after, seen, words_after}
use Rattle.machine.specs.Invariant.{Fact, IsInvariant, made_count, made_total}
use Rattle.call_laws.specs.Calls.{IsCallTable, ReadsInOrder}
use Rattle.call_laws.specs.Answers.{HasTrail, KeepsPromises, Promises}
use Rattle.call_steps.specs.Rule.{HasRoom, IsAfterInRange, MayDo, Moves, Rule, RunsCalls, in_call, in_phase, logged, value_of}
use Rattle.call_steps.proofs.Seen.{room_begun, room_seen, value_after, value_fits, value_seen}
use Rattle.shared_seats.specs.declared.holding.Holding.{Holding}
use Rattle.shared_seats.specs.Memory.{IsLasting, Knowledge}
use Rattle.shared_seats.specs.declared.holding.Numbered.{Numbered}
use Rattle.shared_seats.specs.Holding.{AreInOrder, IsFound, IsHeld, IsRemembered, IsSitting, held_rule, holding, numbered, numbered_from, seat_in, seats_of, view_in, with_view}
use Rattle.shared_seats.proofs.Held.{seats}
use Rattle.shared_seats.proofs.Numbered.{at_number, with_view_at}
use Rattle.shared_seats.proofs.Parted.{replaced}

module _ {P : Type 0} (t : Table P) (g : Grid) where
  -- all views have room
  abbrev AllRoom : List (View P) → Type 0
  AllRoom vs = (j : ℕ) (v : View P) → slice_get vs j ≡ Some v → HasRoom t g v

  room_with : (vs : List (View P)) (n : ℕ) (w : View P) → AllRoom vs → HasRoom t g w → AllRoom (slice_set vs n w)
  room_with vs n w few room j u e = ⊎_elim (λ x. subst (HasRoom t g) x.1 room) (λ x. few j u x.1) (get_set vs n j w u e)

  -- so many seats make less than all places
  pub few_places : (vs : List (View P)) → length vs ≡ g.seats → AllRoom vs → made_total vs ≤ place_span g
  few_places vs all few =
      let each : All (λ (v : View P). made_count v ≤ most_puts g) vs = λ k d lt. let r = few k (get_or vs k d) (slice_get-get_or vs k d lt) in omega arith in
      let sum = sum_by-le made_count (most_puts g) vs each in
      let seats = ap (λ (n : ℕ). n * most_puts g) all in
      let fit = most_puts_fit g in omega arith

module _ {P M : Type 0} (t : Table P) (Holds : Fact P) (Knows : Knowledge P M) (none : M) (drops : Bool) (lasting : IsLasting t Holds Knows none) (law : IsInvariant t Holds) (table : IsCallTable t) (reads : ReadsInOrder t) (promises : KeepsPromises t Holds drops) where
  -- the seat of a number begins a call where it is at rest
  module _ (g : Grid) (words : List ℕ) (vs : List (View P)) (n : ℕ) (v : View P) (at : slice_get vs n ≡ Some v) where
    begun_holds : (ph : Option P) (s : Start) → IsWithinLimits g → v.phase ≡ ph → MayDo g v s → t.MayBegin g n s → Holds g words vs → Holds g words (slice_set vs n (begun t g v ph s))
    begun_holds (Some p) s limits is may begin holds = subst (Holds g words) (sym (set_again vs n v at)) holds
    begun_holds None (start.Put entry) limits is may begin holds = law.begins g words vs n v (start.Put entry) limits holds at is may.0 begin
    begun_holds None start.Take limits is may begin holds = law.begins g words vs n v start.Take limits holds at is tt begin
    begun_holds None start.Go limits is may begin holds = absurd may

    begun_knows : (ph : Option P) (s : Start) (m : M) → Knows g words vs m → Knows g words (slice_set vs n (begun t g v ph s)) m
    begun_knows (Some p) s m knows = subst (λ (us : List (View P)). Knows g words us m) (sym (set_again vs n v at)) knows
    begun_knows None s m knows = lasting.begins g words vs n v s m at knows

  -- the seat of a number does its step in a call
  module _ (g : Grid) (words : List ℕ) (us : List (View P)) (n : ℕ) (u : View P) (p : P) (limits : IsWithinLimits g) (at : slice_get us n ≡ Some u) (here : u.phase ≡ Some p) (holds : Holds g words us) (all : length us ≡ g.seats) (few : AllRoom t g us) where
    abbrev found : ℕ
    found = finds t g words u p

    abbrev next : View P
    next = seen t g u p found

    abbrev nexts : List (View P)
    nexts = slice_set us n next

    long_next : length nexts ≡ g.seats
    long_next = length-set us n next ∙ all

    few_next : AllRoom t g nexts
    few_next = room_with t g us n next few (room_seen t table g u p found here (few n u at))

    holds_next : Holds g (words_after t g words u p) nexts
    holds_next = law.steps g words us n u p limits holds (few_places t g us all few) at here

    knows_next : (m : M) → Knows g words us m → Knows g (words_after t g words u p) nexts m
    knows_next m knows = lasting.steps g words us n u p m limits holds (few_places t g us all few) at here knows

    follows : (s : After P) → t.after g p found ≡ s → IsAfterInRange t g s
    follows (Next q) e = (law.can_step g (words_after t g words u p) nexts n next q limits holds_next (few_places t g nexts long_next few_next) (get_set_same us n u next at) (ap phase_after e)).range
    follows (Done a) e = tt

    abbrev value : ℕ
    value = value_of (logged (t.want g p u.entry) found)

    follows_value : t.after g p value ≡ t.after g p found
    follows_value = value_after t table g reads u p found

    promised : (a : Answer) → t.after g p value ≡ Done a → HasTrail t g u p → Promises g drops u (seen t g u p value) a
    promised a is trail =
        let kept = promises g words us n u p a limits holds (few_places t g us all few) at here trail (sym follows_value ∙ is) in
        subst (λ (w : View P). Promises g drops u w a) (sym (value_seen t table g reads u p found)) kept

    told : (h : Holding P M) → IsFound t drops (holding g (numbered n u ∷ []) h.memories) p value
    told h =
        let can = law.can_step g words us n u p limits holds (few_places t g us all few) at here in
        record {
          may = record { fits = value_fits t table g reads u p found can.found; follows = subst (IsAfterInRange t g) (sym follows_value) (follows (t.after g p found) refl) };
          promised = promised;
        }

  abbrev r : Rule P (Holding P M)
  r = held_rule t drops

  -- the same where the seat stands among others, and begins its call where it was at rest
  module _ (h : Holding P M) (s : Start) (sits : IsSitting t drops h s) (may : MayDo h.shape (view_in h) s) where
    abbrev g : Grid
    g = h.shape

    abbrev n : ℕ
    n = (seat_in h).number

    abbrev v : View P
    v = view_in h

    in_call_is : (ph : Option P) → h ≡ with_view h v → in_phase r h s ph ≡ with_view h (begun t g v ph s)
    in_call_is None e = refl
    in_call_is (Some p) e = e

    -- a seat that remembers as before leaves what all remember
    own_memories : (hs : List (Holding P M)) (at : ℕ) (w : Holding P M) → w.memories ≡ h.memories → get_elem? hs at ≡ some h → (m : M) → IsRemembered (set hs at w) m → IsRemembered hs m
    own_memories hs at w same get m is =
        ⊎_elim
        (λ u. record { at = at; seat = h; stands = get; number = is.number; there = ap (λ (l : List M). slice_get l is.number) (sym same) ∙ (ap (λ (x : Holding P M). slice_get x.memories is.number) u.1 ∙ is.there) })
        (λ u. record { at = is.at; seat = is.seat; stands = u.1; number = is.number; there = is.there })
        (at_set hs at is.at w is.seat is.stands)

    kept_own : (ph : Option P) (p : P) → v.phase ≡ ph → (begun t g v ph s).phase ≡ Some p
        → (let o = t.want g p (begun t g v ph s).entry in Keeps (IsHeld t Holds Knows g) h (index o) (moved o) (λ x. Moves r (with_view h (begun t g v ph s)) (Some p) (value_of (logged o x))))
    kept_own ph p is here words hs at held get fits =
        let u = begun t g v ph s in
        let q = replaced seats hs at h get in
        let vs = held.views in
        let before : IsPermutation (seats_of hs) (numbered n v ∷ q.rest) = subst (λ (xs : List (Numbered P)). IsPermutation (seats_of hs) (xs ++ q.rest)) sits.0 q.before in
        let own : AreInOrder (numbered n v ∷ q.rest) vs = IsPermutation-trans (numbered n v ∷ q.rest) (seats_of hs) (numbered_from 0 vs) (IsPermutation-sym (seats_of hs) (numbered n v ∷ q.rest) before) held.in_order in
        let stood : slice_get vs n ≡ Some v = at_number vs (numbered n v) q.rest own in
        let us = slice_set vs n u in
        let here_at : slice_get us n ≡ Some u = get_set_same vs n v u stood in
        let all : length us ≡ g.seats = length-set vs n u ∙ held.all in
        let holds : Holds g words us = begun_holds g words vs n v stood ph s held.limits is may sits.1 held.holds in
        let few : AllRoom t g us = room_with t g vs n u held.few (room_begun t table g v ph s is may (held.few n v stood)) in
        let x = value_of (logged (t.want g p u.entry) (finds t g words u p)) in
        let w : Holding P M = with_view h (seen t g u p x) in
        let w_is : seen t g u p (finds t g words u p) ≡ seen t g u p x = sym (value_seen t table g reads u p (finds t g words u p)) in
        let words' = words_after t g words u p in
        let ws = slice_set us n (seen t g u p x) in
        let ws_are : slice_set us n (seen t g u p (finds t g words u p)) ≡ ws = ap (slice_set us n) w_is in
        let begun_own : AreInOrder (numbered n u ∷ q.rest) us = with_view_at vs n v u q.rest own in
        let moved_own : AreInOrder (numbered n (seen t g u p x) ∷ q.rest) ws = with_view_at us n u (seen t g u p x) q.rest begun_own in (
          w,
          record {
            limits = held.limits;
            shapes = λ j y e some. ⊎_elim (λ t. ap (λ (z : Holding P M). z.shape) (sym t.1)) (λ t. held.shapes j y t.1 some) (at_set hs at j w y e);
            views = ws;
            in_order = IsPermutation-trans (seats_of (set hs at w)) (numbered n (seen t g u p x) ∷ q.rest) (numbered_from 0 ws) (q.after w) moved_own;
            holds = subst (Holds g words') ws_are (holds_next g words us n u p held.limits here_at here holds all few);
            all = length-set us n (seen t g u p x) ∙ all;
            few = subst (AllRoom t g) ws_are (few_next g words us n u p held.limits here_at here holds all few);
            memories = λ m is_in.
                let old : IsRemembered hs m = own_memories hs at w refl get m is_in in
                let known = begun_knows g words vs n v stood ph s m (held.memories m old) in
                subst (λ (ys : List (View P)). Knows g words' ys m) ws_are (knows_next g words us n u p held.limits here_at here holds all few m known);
          },
          (refl, told g words us n u p held.limits here_at here holds all few h),
        )

    module _ (key : Grid) (p : P) where
      abbrev Kept : Grid → Holding P M → Option P → Type 0
      Kept k x ph = (let o = t.want h.shape p (view_in x).entry in Keeps (IsHeld t Holds Knows k) h (index o) (moved o) (λ n. Moves r x ph (value_of (logged o n))))

      -- the key is the shape that the holding knows
      kept_key : (x : Holding P M) (ph : Option P) → Kept h.shape x ph → Kept key x ph
      kept_key x ph kept words hs at held get fits =
          let e : h.shape ≡ key = held.shapes at h get (let n = ap length sits.0 in omega arith) in
          let q = kept words hs at (subst (λ (k : Grid). IsHeld t Holds Knows k words hs) (sym e) held) get fits in
          let o = t.want h.shape p (view_in x).entry in
          (q.0, subst (λ (k : Grid). IsHeld t Holds Knows k (slice_set words (index o) (moved o (slice_index words (index o)))) (slice_set hs at q.0)) e q.1, q.2)

      kept_here : (view_in (in_call r h s)).phase ≡ Some p → Kept key (in_call r h s) (view_in (in_call r h s)).phase
      kept_here is =
          let here = in_call r h s in
          let here_is : here ≡ with_view h (begun t g v v.phase s) = in_call_is v.phase (λ k. record { shape = h.shape; seats = sits.0 k; memories = h.memories }) in
          let first : Kept h.shape (with_view h (begun t g v v.phase s)) (Some p) = kept_own v.phase p refl (sym (ap (λ (x : Holding P M). (view_in x).phase) here_is) ∙ is) in
          kept_key here (view_in here).phase (subst (Kept h.shape here) (sym is) (subst (λ (x : Holding P M). Kept h.shape x (Some p)) (sym here_is) first))

  -- the calls of the machine can be run under the rule of the shared words
  pub held_runs : RunsCalls (held_rule t drops) t drops (IsHeld t Holds Knows)
  held_runs = record {
    call_begins = λ h s sits rest. (refl, refl, (refl, sits.1));
    phase_moves = λ h s p n sits. (refl, refl, (refl, sits.1));
    told = λ h p n found. found.may;
    promised = λ h p n a found is trail. found.promised a is trail;
    kept = λ key h s p sits may is. kept_here h s sits may key p is;
  }
