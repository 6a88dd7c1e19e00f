-- Places that are claimed in order of number, each once, are given in order of time.
use Rattle.std.proofs.Common.{◌≡◌, ℕ, zero, suc, ◌+◌, ◌<◌, ◌≤◌, List, [], ◌∷◌, ◌++◌, refl, sym, ap, ◌∙◌, subst, ⊎_elim, arith}
use Rattle.std.specs.Prelude.{Option, Some, None, slice_get, sum_by}
use Rattle.std.proofs.lemmas.Bool.{cases_lt}
use Rattle.std.proofs.lemmas.Option.{slice_get_within}
use Rattle.cursor_word.specs.Shape.{Grid}
use Rattle.rail.specs.declared.answer.Answer.{Answer}
use Rattle.rail.specs.declared.answer.Answer.TheVariants as answer
use Rattle.rail.specs.declared.answer.Put.TheVariants as put
use Rattle.rail.specs.declared.answer.Take.TheVariants as take
use Rattle.rail.specs.declared.entry.Placed.{Placed}
use Rattle.rail.specs.Items.{placed}
use Rattle.machine.specs.declared.event.Event.{Event}
use Rattle.machine.specs.declared.event.Start.{Start}
use Rattle.machine.specs.declared.view.View.{View}
use Rattle.machine.specs.Table.{Table}
use Rattle.machine.specs.Steps.{MachineState, begun, finds, made_after, moves, seen, step, taken_after, turn, turned}
use Rattle.machine.specs.Moments.{EndsAt, IsInOrder, IsLaterCall, moment, phase_in, seat_at}
use Rattle.machine.proofs.Lists.{one_le_sum, sum_set}
use Rattle.machine.proofs.Runs.{stepped}
use Rattle.machine.proofs.Turns.{begun_made, begun_taken}
use Rattle.machine.proofs.Schedules.{IsTurn, ends_done, ends_view, idle_view, last_view, next_case, turn_view}
use Rattle.machine.proofs.Calls.{at_next, moment_seats, view_at}

-- a count over a view that no turn of its seat lowers
abbrev pub Lasts : {P : Type 0} → Table P → Grid → (View P → ℕ) → Type 0
Lasts {P} t g f = (ws : List ℕ) (v : View P) (s : Start) → f v ≤ f (turned t g ws v s).view

-- which is so where neither a call that begins nor a step lowers it
module _ {P : Type 0} (t : Table P) (g : Grid) (f : View P → ℕ) (begins : (v : View P) (s : Start) → v.phase ≡ None → f v ≤ f (begun t g v None s)) (steps : (v : View P) (p : P) (found : ℕ) → v.phase ≡ Some p → f v ≤ f (seen t g v p found)) where
  begun_lasts : (v : View P) (s : Start) (ph : Option P) → v.phase ≡ ph → f v ≤ f (begun t g v ph s)
  begun_lasts v s None e = begins v s e
  begun_lasts v s (Some p) e = omega arith

  moves_last : (ws : List ℕ) (v : View P) (ph : Option P) → v.phase ≡ ph → f v ≤ f (moves t g ws v ph).view
  moves_last ws v None e = omega arith
  moves_last ws v (Some p) e = steps v p (finds t g ws v p) e

  pub lasts_by : Lasts t g f
  lasts_by ws v s = let a = begun_lasts v s v.phase refl in let b = moves_last ws (begun t g v v.phase s) (begun t g v v.phase s).phase refl in omega arith

same_view : {P : Type 0} (f : View P → ℕ) (v u : View P) (o : Option (View P)) → o ≡ Some v → o ≡ Some u → f v ≡ f u
same_view f v u o a b = let e : v ≡ u = cc in ap f e

module _ {P : Type 0} (t : Table P) (g : Grid) (f : View P → ℕ) (lasts : Lasts t g f) where
  sum_turn : (w : MachineState P) (id : ℕ) (s : Start) (o : Option (View P)) → slice_get w.views id ≡ o → sum_by f w.views ≤ sum_by f (turn t g w id s o).views
  sum_turn w id s None at = omega arith
  sum_turn w id s (Some v) at = let n = sum_set f w.views id v (turned t g w.words v s).view at in let l = lasts w.words v s in omega arith

  sum_stepped : (w : MachineState P) (o : Option Event) → sum_by f w.views ≤ sum_by f (stepped t g w o).views
  sum_stepped w None = omega arith
  sum_stepped w (Some e) = sum_turn w e.seat e.start (slice_get w.views e.seat) refl

module _ {P : Type 0} (t : Table P) (g : Grid) (events : List Event) where
  abbrev total : (View P → ℕ) → ℕ → ℕ
  total f n = sum_by f (moment t g events n).views

  module _ (f : View P → ℕ) (lasts : Lasts t g f) where
    sum_next : (n : ℕ) → total f n ≤ total f (suc n)
    sum_next n = at_next t g events (λ (w : MachineState P). total f n ≤ sum_by f w.views) n (sum_stepped t g f lasts (moment t g events n) (slice_get events n))

    -- what all seats count is no less at a later moment
    pub sum_lasts : (n m : ℕ) → n ≤ m → total f n ≤ total f m
    sum_lasts n zero l = let e : n ≡ zero = omega arith in let q = ap (total f) e in omega arith
    sum_lasts n (suc m) l =
        ⊎_elim (λ h. let r = sum_lasts n m (omega arith) in let k = sum_next m in omega arith)
        (λ h. let e : n ≡ suc m = omega arith in let q = ap (total f) e in omega arith) (cases_lt n (suc m))

    -- nor is what one seat counts
    seat_lasts : (id n m : ℕ) (v u : View P) → n ≤ m → seat_at t g events n id ≡ Some v → seat_at t g events m id ≡ Some u → f v ≤ f u
    seat_lasts id n zero v u l a b =
        let e : n ≡ zero = omega arith in
        let q = same_view f v u (seat_at t g events zero id) (ap (λ (k : ℕ). seat_at t g events k id) (sym e) ∙ a) b in omega arith
    seat_lasts id n (suc m) v u l a b =
        ⊎_elim
        (λ h. ⊎_elim (λ idle. seat_lasts id n m v u (omega arith) a (sym (idle_view t g events id m idle) ∙ b))
        (λ x. let r = seat_lasts id n m v x.before (omega arith) a x.view_before in
        let k = lasts (moment t g events m).words x.before x.event.start in
        let q = ap f (turn_view t g events id m x u b) in omega arith)
        (next_case t g events id m u b))
        (λ h. let e : n ≡ suc m = omega arith in
        let q = same_view f v u (seat_at t g events (suc m) id) (ap (λ (k : ℕ). seat_at t g events k id) (sym e) ∙ a) b in omega arith)
        (cases_lt n (suc m))

    turn_total : (id m : ℕ) (x : IsTurn t g events id m) → total f (suc m) + f x.before ≡ total f m + f (turned t g (moment t g events m).words x.before x.event.start).view
    turn_total id m x =
        let w : MachineState P = moment t g events m in
        let next : View P = (turned t g w.words x.before x.event.start).view in
        let Is : MachineState P → Type 0 = λ (k : MachineState P). sum_by f k.views + f x.before ≡ total f m + f next in
        let at : Is (turn t g w id x.event.start (slice_get w.views id)) = subst (λ (o : Option (View P)). Is (turn t g w id x.event.start o)) (sym x.view_before) (sum_set f w.views id x.before next x.view_before) in
        let own : Is (step t g w x.event) = subst (λ (k : ℕ). Is (turn t g w k x.event.start (slice_get w.views k))) (sym x.own) at in
        at_next t g events Is m (subst (λ (o : Option Event). Is (stepped t g w o)) (sym x.here) own)

    -- what all count grows by no less than what one seat does
    own_share : (id n m : ℕ) (v u : View P) → n ≤ m → seat_at t g events n id ≡ Some v → seat_at t g events m id ≡ Some u → total f n + f u ≤ total f m + f v
    own_share id n zero v u l a b =
        let e : n ≡ zero = omega arith in
        let q = same_view f v u (seat_at t g events zero id) (ap (λ (k : ℕ). seat_at t g events k id) (sym e) ∙ a) b in
        let z = ap (total f) e in omega arith
    own_share id n (suc m) v u l a b =
        ⊎_elim
        (λ h. ⊎_elim (λ idle. let r = own_share id n m v u (omega arith) a (sym (idle_view t g events id m idle) ∙ b) in let k = sum_next m in omega arith)
        (λ x. let r = own_share id n m v x.before (omega arith) a x.view_before in
        let k = turn_total id m x in
        let q = ap f (turn_view t g events id m x u b) in omega arith)
        (next_case t g events id m u b))
        (λ h. let e : n ≡ suc m = omega arith in
        let q = same_view f v u (seat_at t g events (suc m) id) (ap (λ (k : ℕ). seat_at t g events k id) (sym e) ∙ a) b in
        let z = ap (total f) e in omega arith)
        (cases_lt n (suc m))

  -- Places are claimed by seats, and each answer that names a place is of one that was claimed:
  -- no claim is given up, a seat at rest claims what it had named in answers, each place is claimed
  -- once, and none is while one below it isn't.
  pub record IsClaimed (claims had : ℕ → View P → ℕ) (names : ℕ → Answer) : Type 0 where
    pub once : (n p : ℕ) → total (claims p) n ≤ 1
    pub dense : (n p q : ℕ) → q ≤ p → 1 ≤ total (claims p) n → 1 ≤ total (claims q) n
    pub claims_last : (p : ℕ) → Lasts t g (claims p)
    pub had_lasts : (p : ℕ) → Lasts t g (had p)
    pub at_rest : (p : ℕ) (v : View P) → v.phase ≡ None → claims p v ≡ had p v
    pub gains : (i seat p : ℕ) (x : EndsAt t g events i seat (names p)) → had p x.before + 1 ≤ had p x.after

  -- a place that an answer named at position i is had by some seat from then on
  pub named_lasts : (f : View P → ℕ) → Lasts t g f → (i n seat : ℕ) (a : Answer) (x : EndsAt t g events i seat a) → f x.before + 1 ≤ f x.after → i < n → 1 ≤ total f n
  named_lasts f lasts i n seat a x more l =
      let s = sum_lasts f lasts (suc i) n (omega arith) in
      let o = one_le_sum f (moment t g events (suc i)).views seat x.after x.view_after in omega arith

  module _ (claims had : ℕ → View P → ℕ) (names : ℕ → Answer) (c : IsClaimed claims had names) where
    -- no place up to one that was claimed where a call began is named by that call
    not_again : (i j other p q : ℕ) (x : IsLaterCall t g events i j other (names q)) → q ≤ p → 1 ≤ total (claims p) x.first → ⊥
    not_again i j other p q x l h =
        let e = x.ends in
        let n : ℕ = x.first in
        let from : n < suc j = x.call.later in
        let within : other < g.seats = let s = slice_get_within (moment t g events j).views other e.before e.view_before in let z = moment_seats t g events j in omega arith in
        let there = view_at t g events n other within in
        let v : View P = there.0 in
        let rest : v.phase ≡ None = sym (ap phase_in there.1) ∙ x.call.rested in
        let d = c.dense n p q l h in
        let share = own_share (claims q) (c.claims_last q) other n (suc j) v e.after (omega arith) there.1 e.view_after in
        let kept = seat_lasts (had q) (c.had_lasts q) other n j v e.before (omega arith) there.1 e.view_before in
        let more = c.gains j other q e in
        let was = c.at_rest q v rest in
        let is = c.at_rest q e.after e.rests in
        let one = c.once (suc j) q in omega arith

    pub in_order : IsInOrder t g events names
    in_order i seat p j other q ends later =
        let had_one : 1 ≤ claims p ends.after = let m = c.gains i seat p ends in let r = c.at_rest p ends.after ends.rests in omega arith in
        let at : 1 ≤ total (claims p) (suc i) = let o = one_le_sum (claims p) (moment t g events (suc i)).views seat ends.after ends.view_after in omega arith in
        let then : 1 ≤ total (claims p) later.first = let s = sum_lasts (claims p) (c.claims_last p) (suc i) later.first (let l = later.later in omega arith) in omega arith in
        ⊎_elim (λ less. less) (λ l. absurd (not_again i j other p q later l then)) (cases_lt p q)

-- what a call that ends well adds to what its seat has made or taken
module _ {P : Type 0} (t : Table P) (g : Grid) (events : List Event) (i seat p : ℕ) where
  pub made_at_end : (x : EndsAt t g events i seat (answer.Put (put.Ok p))) → (words : List ℕ) × (x.after.made ≡ x.before.made ++ placed p words ∷ [])
  made_at_end x =
      let b : View P = last_view t g events i seat _ x in
      (b.entry, sym (ap (λ (v : View P). v.made) (ends_view t g events i seat _ x)) ∙ ap (made_after b.made b.entry) (ends_done t g events i seat _ x) ∙ ap (λ (made : List Placed). made ++ placed p b.entry ∷ []) (begun_made t g x.before x.before.phase x.event.start))

  pub taken_at_end : (x : EndsAt t g events i seat (answer.Take (take.Ok p))) → (words : List ℕ) × (x.after.taken ≡ x.before.taken ++ placed p words ∷ [])
  taken_at_end x =
      let b : View P = last_view t g events i seat _ x in
      (b.read, sym (ap (λ (v : View P). v.taken) (ends_view t g events i seat _ x)) ∙ ap (taken_after b.taken b.read) (ends_done t g events i seat _ x) ∙ ap (λ (taken : List Placed). taken ++ placed p b.read ∷ []) (begun_taken t g x.before x.before.phase x.event.start))
