-- What a seat remembers lasts, since words and made lists only grow; and what stays where a step reserves and consumes nothing.
use Rattle.std.proofs.Common.{◌≡◌, ℕ, ◌+◌, ◌%◌, ◌<◌, ◌≤◌, List, [], length, refl, sym, ap, ◌∙◌, subst, inl, inr, ⊎_elim, arith}
use Rattle.std.specs.Prelude.{Option, Some, slice_get, slice_set, slice_index}
use Rattle.std.specs.List.{sum_by}
use Rattle.cursor_word.specs.Shape.{Grid}
use Rattle.cursor_word.specs.Cursor.{offset_span}
use Rattle.cursor_word.specs.declared.cursor.Cursor.{Cursor}
use Rattle.rail.specs.declared.entry.Placed.{Placed}
use Rattle.rail.specs.Items.{IsRising, places}
use Rattle.machine.proofs.Lists.{get_set}
use Rattle.put_side.specs.Cursors.{Front, consumed_word, place, reserved_word}
use Rattle.put_side.specs.Counts.{takes, times}
use Rattle.put_side.specs.Places.{IsCurrent}
use Rattle.put_side.specs.PutSide.{PutSide}
use Rattle.put_side.proofs.Sums.{sum_same, upto_same}
use Rattle.put_side.proofs.Made.{KeepsMade}
use Rattle.bbq_core.specs.declared.phase.Phase.{Phase}
use Rattle.bbq_core.specs.declared.phase.Phase.TheVariants.{Put, SeeR, Take}
use Rattle.put_side.specs.declared.put_phase.PutPhase.TheVariants.{OpenM}
use Rattle.bbq_core.specs.declared.take_phase.TakePhase.{TakePhase}
use Rattle.bbq_core.specs.declared.take_phase.TakePhase.TheVariants.{HeadC, SeeRes, SeeCom, SeeAll, Reserve, Read, Consume, NextCom, OpenX, OpenR, RaiseC}
use Rattle.put_side.proofs.Made.{made_same}
use Rattle.put_side.proofs.Raises.{raised_to}
use Rattle.bbq_core.specs.Types.{View}
use Rattle.bbq_core.specs.Stage.{stage_of}
use Rattle.bbq_core.specs.Cursors.{TakeCursors, TakeWords, take_cursors}
use Rattle.bbq_core.specs.Counts.{TakeCounts, fetch_count, fetched, fetches, reading_in}
use Rattle.bbq_core.specs.Sound.{IsPassed, IsReserved, IsSoundAt, Knows, Scene, TakeFits, TakeKnows, TakeTurn, scene}

-- a later scene: cursors only grow, and so does what is made
pub record IsLater (s s' : Scene) : Type 0 where
  pub passed : s'.passed ≡ s.passed
  pub consumer : s.cursors.consumer ≤ s'.cursors.consumer
  pub reserved : (k : ℕ) → s.cursors.reserved k ≤ s'.cursors.reserved k
  pub consumed : (k : ℕ) → s.cursors.consumed k ≤ s'.cursors.consumed k
  pub committed : (k : ℕ) → s.committed k ≤ s'.committed k
  pub made : KeepsMade s.views s'.views

module _ (g : Grid) (s s' : Scene) (later : IsLater s s') where
  turn_later : (turn : ℕ) (first : Cursor) (head head' : ℕ) → head ≤ head' → TakeTurn g turn first head → TakeTurn g turn first head'
  turn_later turn first head head' le f = ⊎_elim (λ t. inl t) (λ t. inr record { is = t.is; from = t.from; full = t.full; below = omega (arith, t.below) }) f

  reserved_later : (r : Cursor) → IsReserved g s.cursors r → IsReserved g s'.cursors r
  reserved_later r f = record { from = f.from; within = f.within; known = let e = later.reserved r.block in omega (arith, f.known) }

  passed_later : (spent : Cursor) → IsPassed g s.cursors spent → IsPassed g s'.cursors spent
  passed_later spent f = record { from = f.from; full = f.full; known = let e = later.reserved spent.block in omega (arith, f.known) }

  current_later : (at : Cursor) → IsCurrent g s.passed at → IsCurrent g s'.passed at
  current_later at f = subst (λ (k : ℕ). IsCurrent g k at) (sym later.passed) f

  take_knows_later : (read : List ℕ) (q : TakePhase) → TakeKnows g s read q → TakeKnows g s' read q
  take_knows_later read (HeadC turn first) f = turn_later turn first s.cursors.consumer s'.cursors.consumer later.consumer f
  take_knows_later read (SeeRes turn first head) f = (f.0, f.1, omega (arith, f.2, later.consumer))
  take_knows_later read (SeeCom r) f = reserved_later r f
  take_knows_later read (SeeAll r m) f = let a = f.1 in (reserved_later r f.0, record { same = a.same; above = a.above; within = a.within; known = let e = later.committed r.block in omega (arith, a.known) })
  take_knows_later read (Reserve r) f = let c = later.made in (reserved_later r f.0, λ o l. let a = c.counts (place g r.block o) in let b = f.1 o l in omega arith)
  take_knows_later read (Read at next) f = let i = f.2 in let c = later.made in (current_later at f.0, f.1, record { words = i.words; made = c.items _ i.made; front = i.front })
  take_knows_later read (Consume at) f = let c = later.made in (current_later at f.0, c.items _ f.1)
  take_knows_later read (NextCom spent) f = passed_later spent f
  take_knows_later read (OpenX spent) f = (passed_later spent f.0, let e = later.committed (spent.block + 1) in omega (arith, f.1))
  take_knows_later read (OpenR spent) f = (passed_later spent f.0, let e = later.consumed (spent.block + 1) in omega (arith, f.1))
  take_knows_later read (RaiseC spent) f = (passed_later spent f.0, let e = later.reserved (spent.block + 1) in omega (arith, f.1))

  -- what a seat remembers lasts
  pub knows_later : (made : List Placed) (read : List ℕ) (ph : Option Phase) → Knows g s made read ph → Knows g s' made read ph
  knows_later made read (Some (SeeR full x)) f = f
  knows_later made read (Some (Put (OpenM full))) f = let e = later.consumed (full.block + 1) in omega (arith, f)
  knows_later made read (Some (Take q)) f = take_knows_later read q f
  knows_later made read ph f = tt

  pub fits_later : (u : View) → TakeFits g s u → TakeFits g s' u
  fits_later u f = let c = later.made in record {
    knows = knows_later u.made u.read u.phase f.knows;
    rising = f.rising;
    items = λ i item e. c.items item (f.items i item e);
    unread = f.unread;
  }

module _ (g : Grid) (back : Front) (ws : List ℕ) (vs : List View) (id : ℕ) (v v' : View) (at : slice_get vs id ≡ Some v) (made : v'.made ≡ v.made) (i x : ℕ) where
  -- the scene is a later one, where a word is raised
  pub raised_later : i < length ws → slice_index ws i ≤ x → IsLater (scene g back ws vs) (scene g back (slice_set ws i x) (slice_set vs id v'))
  raised_later long up = record {
    passed = refl;
    consumer = raised_to ws i x _ long up;
    reserved = λ k. raised_to ws i x _ long up;
    consumed = λ k. raised_to ws i x _ long up;
    committed = λ k. raised_to ws i x _ long up;
    made = made_same vs id v v' at made;
  }

-- the cursors of these words, from each of them
pub take_cursors_are : (g : Grid) (ws : List ℕ) (c : TakeCursors) → slice_index ws 1 ≡ c.consumer → ((k : ℕ) → reserved_word g ws k ≡ c.reserved k) → ((k : ℕ) → consumed_word g ws k ≡ c.consumed k) → c ≡ take_cursors g ws
take_cursors_are g ws c h r x = λ i. record { consumer = sym h i; reserved = λ k. sym (r k) i; consumed = λ k. sym (x k) i }

-- the counts stay where a seat takes and reads the same
pub counts_same : (g : Grid) (back : Front) (c c' : TakeCursors) (vs : List View) (id : ℕ) (v v' : View) → TakeCounts g back c vs → slice_get vs id ≡ Some v → fetched g v' ≡ fetched g v → v'.taken ≡ v.taken
    → ((k : ℕ) → c'.consumed k ≡ c.consumed k) → KeepsMade vs (slice_set vs id v') → TakeCounts g back c' (slice_set vs id v')
counts_same g back c c' vs id v v' n at fetch taken x keeps =
    let takes_same : (p : ℕ) → sum_by (takes p) (slice_set vs id v') ≡ sum_by (takes p) vs = λ p. sum_same (takes p) vs id v v' at (ap (λ (l : List Placed). times p (places l)) taken) in
    record {
      read_once = λ p. sum_same (fetches g p) vs id v v' at (ap (times p) fetch) ∙ n.read_once p;
      read_number = sum_same (fetch_count g) vs id v v' at (ap (λ (l : List ℕ). length l) fetch) ∙ n.read_number;
      taken = λ k l near old. ap (λ (w : ℕ). w % offset_span) (x k) ∙ n.taken k l near old ∙ upto_same g.size _ _ (λ o h. sym (takes_same (place g k o)));
      taken_made = λ p. let i = keeps.counts p in let j = takes_same p in omega (arith, n.taken_made p);
    }

module _ (g : Grid) (front front' back : Front) (ws ws' : List ℕ) (vs : List View) (id : ℕ) (v v' : View) (s : IsSoundAt g front back ws vs) (at : slice_get vs id ≡ Some v) where
  abbrev vs' : List View
  vs' = slice_set vs id v'

  -- what holds after a step, from its parts
  pub after_step : (back' : Front) → PutSide stage_of g front' ws' vs' → TakeWords g front'.last back' (take_cursors g ws') → TakeCounts g back' (take_cursors g ws') vs'
      → ((j : ℕ) (u : View) → slice_get vs j ≡ Some u → TakeFits g (scene g back' ws' vs') u) → TakeFits g (scene g back' ws' vs') v' → IsSoundAt g front' back' ws' vs'
  after_step back' puts takes counts others own = record {
    puts = puts;
    takes = takes;
    counts = counts;
    each = λ j u e. ⊎_elim (λ q. subst (TakeFits g (scene g back' ws' vs')) q.1 own) (λ q. others j u q.1) (get_set vs id j v' u e);
  }

  -- a step whose seat takes nothing, and reads the same place as before or none again
  pub quiet : IsLater (scene g back ws vs) (scene g back ws' vs') → ((k : ℕ) → consumed_word g ws' k ≡ consumed_word g ws k) → fetched g v' ≡ fetched g v → v'.taken ≡ v.taken
      → PutSide stage_of g front' ws' vs' → TakeWords g front'.last back (take_cursors g ws') → Knows g (scene g back ws' vs') v'.made v'.read v'.phase
      → ((q : TakePhase) → v'.phase ≡ Some (Take q) → reading_in g q ≡ [] → v'.read ≡ []) → IsSoundAt g front' back ws' vs'
  quiet later same fetch taken puts takes knows unread =
      let own = s.each id v at in
      let made = later.made in
      after_step back puts takes (counts_same g back (take_cursors g ws) (take_cursors g ws') vs id v v' s.counts at fetch taken same made)
      (λ j u e. fits_later g (scene g back ws vs) (scene g back ws' vs') later u (s.each j u e))
      record {
        knows = knows;
        rising = subst IsRising (sym fetch) own.rising;
        items = λ i item e. made.items item (own.items i item (ap (λ (l : List Placed). slice_get l i) (sym taken) ∙ e));
        unread = unread;
      }
