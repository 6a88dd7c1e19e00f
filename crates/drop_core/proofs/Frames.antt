-- What a seat on the side of takes remembers lasts, since words and made lists only grow; and what stays where a step reserves nothing, or raises a word that takes move.
use Rattle.std.specs.Prelude.{Option, Some, slice_get, slice_set, slice_index}
use Rattle.std.specs.List.{sum_by}
use Rattle.std.proofs.Common.{◌≡◌, ℕ, ◌+◌, ◌/◌, ◌%◌, ◌≤◌, ◌⊎◌, List, [], sym, ap, ◌∙◌, subst, inl, inr, ⊎_elim, arith, ◌*◌, ◌<◌, ◌≢◌, ◌++◌, length}
use Rattle.std.proofs.lemmas.List.{get_or-set_other}
use Rattle.cursor_word.specs.Shape.{Grid}
use Rattle.cursor_word.specs.Cursor.{offset_span, place_at}
use Rattle.cursor_word.specs.declared.cursor.Cursor.{Cursor}
use Rattle.rail.specs.declared.entry.Placed.{Placed}
use Rattle.rail.specs.Items.{IsRising, places}
use Rattle.machine.proofs.Lists.{get_set, sum_set}
use Rattle.put_side.specs.Cursors.{Front, place, put_cursors, reserved_word}
use Rattle.put_side.specs.Counts.{times}
use Rattle.put_side.specs.PutSide.{PutSide}
use Rattle.put_side.specs.Manned.{IsManned}
use Rattle.put_side.specs.PutTable.{stage_of}
use Rattle.put_side.specs.declared.put_phase.PutPhase.TheVariants.{OpenM}
use Rattle.put_side.proofs.Frames.{IsGrown, grown_same}
use Rattle.put_side.proofs.Made.{KeepsMade}
use Rattle.put_side.proofs.Sums.{sum_same}
use Rattle.put_side.proofs.Lows.{rows}
use Rattle.put_side.proofs.TakeWords.{set_at}
use Rattle.put_side.proofs.Raises.{raised_to}
use Rattle.drop_core.specs.declared.phase.DropPhase.{DropPhase}
use Rattle.drop_core.specs.declared.phase.DropPhase.TheVariants.{Put, Take}
use Rattle.drop_core.specs.declared.take_phase.DropTake.{DropTake}
use Rattle.drop_core.specs.declared.take_phase.DropTake.TheVariants.{HeadC, SeeRes, SeeCom, SeeAll, Reserve, Read, Verify, NextCom, Jump, OpenR, RaiseC}
use Rattle.drop_core.specs.Types.{View}
use Rattle.drop_core.specs.Stage.{stage}
use Rattle.drop_core.specs.Words.{Cursors, IsPassed, TakeWords, cursors}
use Rattle.drop_core.specs.Counts.{IsAttended, TakeCounts, fetched, fetches, raises_consumer, raising, reading_in, reading}
use Rattle.drop_core.specs.Sound.{AreBelow, DropKnows, IsFound, IsHead, IsNextLive, IsReading, IsSoundAt, TakeFits, TakeKnows, TakeTurn}

-- a later state: cursors and heads only grow, and so do the last block that was opened and what is made
pub record IsLater (last last' : ℕ) (c c' : Cursors) : Type 0 where
  pub last_to : last ≤ last'
  pub puts : IsGrown c.puts c'.puts
  pub consumer : c.consumer ≤ c'.consumer
  pub reserved : (k : ℕ) → c.reserved k ≤ c'.reserved k

pub nothing_later : (last : ℕ) (c : Cursors) → IsLater last last c c
nothing_later last c = record { last_to = omega arith; puts = grown_same c.puts; consumer = omega arith; reserved = λ k. omega arith }

module _ (g : Grid) (last last' : ℕ) (c c' : Cursors) (later : IsLater last last' c c') where
  pub passed_later : (k : ℕ) → IsPassed g last c k → IsPassed g last' c' k
  passed_later k p = ⊎_elim (λ q. inl q) (λ q. inr (⊎_elim (λ z. inl (omega (arith, later.last_to))) (λ z. inr (let r = later.reserved k in omega arith)) q)) p

  pub turn_later : (turn : ℕ) (first : Cursor) → TakeTurn g turn first c.consumer → TakeTurn g turn first c'.consumer
  turn_later turn first f = ⊎_elim (λ q. inl q) (λ q. inr (q.0, q.1, omega (arith, q.2, later.consumer))) f

  pub found_later : (taken : List Placed) (r : Cursor) → IsFound g c taken r → IsFound g c' taken r
  found_later taken r f = record { from = f.from; to = omega (arith, f.to, later.consumer); within = f.within; known = let e = later.reserved r.block in omega (arith, f.known); above = f.above }

  head_later : (taken : List Placed) (head : ℕ) → IsHead g c taken head → IsHead g c' taken head
  head_later taken head f = record { from = f.from; to = omega (arith, f.to, later.consumer); opened = let e = later.reserved head in omega (arith, f.opened); above = f.above }

  live_later : (from to : ℕ) → IsNextLive g last c from to → IsNextLive g last' c' from to
  live_later from to f = record { later = f.later; first = f.first; passed = λ k l. passed_later k (f.passed k l); opened = omega (arith, f.opened, later.last_to) }

  module _ (vs vs' : List View) (grow : KeepsMade vs vs') where
    reading_later : (at : Cursor) (n : ℕ) (read : List ℕ) → IsReading g c vs at n read → IsReading g c' vs' at n read
    reading_later at n read f = record {
      from = f.from;
      to = omega (arith, f.to, later.consumer);
      within = f.within;
      words = f.words;
      made = grow.items _ f.made;
      long = f.long;
      front = λ h. f.front (let e = later.puts.allocated at.block in omega (arith, h));
    }

    take_knows_later : (taken : List Placed) (read : List ℕ) (q : DropTake) → TakeKnows g last c vs taken read q → TakeKnows g last' c' vs' taken read q
    take_knows_later taken read (HeadC turn first) f = turn_later turn first f
    take_knows_later taken read (SeeRes turn first head) f = (f.0, head_later taken head f.1)
    take_knows_later taken read (SeeCom turn r) f = (f.0, found_later taken r f.1)
    take_knows_later taken read (SeeAll r m) f = (found_later taken r f.0, let a = f.1 in record { same = a.same; above = a.above; within = a.within; known = let e = later.puts.committed r.block in omega (arith, a.known) })
    take_knows_later taken read (Reserve r) f = (found_later taken r f.0, let e = grow.counts (place_at g r) in omega (arith, f.1))
    take_knows_later taken read (Read at next) f = (reading_later at next read f.0, f.1)
    take_knows_later taken read (Verify at) f = reading_later at g.width read f
    take_knows_later taken read (NextCom spent) f = record { from = f.from; full = f.full; known = let e = later.reserved spent.block in omega (arith, f.known) }
    take_knows_later taken read (Jump from) f = live_later from.block (from.block + 1) f
    take_knows_later taken read (OpenR from to) f = live_later from.block to f
    take_knows_later taken read (RaiseC from to) f = (f.0, f.1, let e = later.reserved to in omega (arith, f.2))

    -- what a seat remembers lasts
    pub knows_later : (taken : List Placed) (read : List ℕ) (ph : Option DropPhase) → DropKnows g last c vs taken read ph → DropKnows g last' c' vs' taken read ph
    knows_later taken read (Some (Put (OpenM full))) f = let e = later.puts.committed (full.block + 1) in omega (arith, f)
    knows_later taken read (Some (Take q)) f = take_knows_later taken read q f
    knows_later taken read ph f = tt

    pub below_more : (items : List Placed) (n m : ℕ) → n ≤ m → AreBelow items (place g n 0) → AreBelow items (place g m 0)
    below_more items n m le b q h = b q (let w = rows g n m le in omega arith)

    pub fits_later : (u : View) → TakeFits g last c vs u → TakeFits g last' c' vs' u
    fits_later u f = record {
      knows = knows_later u.taken u.read u.phase f.knows;
      rising = f.rising;
      items = λ i item e. grow.items item (f.items i item e);
      to_head = below_more u.taken (c.consumer + 1) (c'.consumer + 1) (omega (arith, later.consumer)) f.to_head;
      unread = f.unread;
    }

-- where a take that isn't about to raise the head leaves a reserved cursor's block, the head is attended to as before
pub attended_stays : (vs : List View) (id : ℕ) (v v' : View) → slice_get vs id ≡ Some v → (c c' : Cursors) (k : ℕ) → c'.reserved k / offset_span ≡ c.reserved k / offset_span → c.consumer ≤ c'.consumer → raises_consumer (c.reserved k / offset_span) v.phase ≡ 0
    → (c.reserved k / offset_span ≤ c.consumer) ⊎ (1 ≤ sum_by (raising (c.reserved k / offset_span)) vs) → (c'.reserved k / offset_span ≤ c'.consumer) ⊎ (1 ≤ sum_by (raising (c'.reserved k / offset_span)) (slice_set vs id v'))
attended_stays vs id v v' at c c' k same up none h =
    ⊎_elim (λ l. inl (omega arith))
    (λ l. inr (subst (λ (b : ℕ). 1 ≤ sum_by (raising b) (slice_set vs id v')) (sym same) (let n = sum_set (raising (c.reserved k / offset_span)) vs id v v' at in omega arith))) h

-- a step after which reserved cursors and the consumer head are as before, and so are the places that its seat has taken or reads
pub record IsQuiet (g : Grid) (last last' : ℕ) (ws ws' : List ℕ) (v v' : View) : Type 0 where
  pub last_to : last ≤ last'
  pub consumer : slice_index ws' 1 ≡ slice_index ws 1
  pub puts : IsGrown (put_cursors g ws) (put_cursors g ws')
  pub reserved : (k : ℕ) → (cursors g ws').reserved k ≡ (cursors g ws).reserved k
  pub fetched : fetched g v' ≡ fetched g v
  pub unraised : (b : ℕ) → raises_consumer b v.phase ≡ 0

pub quiet_later : (g : Grid) (last last' : ℕ) (ws ws' : List ℕ) (v v' : View) → IsQuiet g last last' ws ws' v v' → IsLater last last' (cursors g ws) (cursors g ws')
quiet_later g last last' ws ws' v v' q = record { last_to = q.last_to; puts = q.puts; consumer = let e = q.consumer in omega arith; reserved = λ k. let e = q.reserved k in omega arith }

module _ (g : Grid) (f f' : Front) (ws ws' : List ℕ) (vs : List View) (id : ℕ) (v v' : View) (s : IsSoundAt g f ws vs) (at : slice_get vs id ≡ Some v) where
  -- what holds after a step, from its parts: the other seats remember what they did
  pub after_step : IsLater f.last f'.last (cursors g ws) (cursors g ws') → KeepsMade vs (slice_set vs id v') → PutSide (stage_of stage) g f' ws' (slice_set vs id v') → IsManned (stage_of stage) g f' (put_cursors g ws') (slice_set vs id v')
      → TakeWords g f'.last (cursors g ws') (slice_set vs id v') → TakeCounts g f'.last (cursors g ws') (slice_set vs id v') → IsAttended (cursors g ws') (slice_set vs id v') → TakeFits g f'.last (cursors g ws') (slice_set vs id v') v' → IsSoundAt g f' ws' (slice_set vs id v')
  after_step later grow puts manned takes counts attended own = record {
    puts = puts;
    before = λ k l near.
        let to = later.last_to in
        let from = s.puts.places.words.from in
        let was = s.puts.places.words.committed k (omega arith) (omega arith) in
        let is = puts.places.words.committed k (omega arith) near in
        let up = later.puts.committed k in
        let old = s.before k l (omega arith) in omega arith;
    manned = manned;
    takes = takes;
    counts = counts;
    attended = attended;
    each = λ j u e. ⊎_elim (λ q. subst (TakeFits g f'.last (cursors g ws') (slice_set vs id v')) q.1 own)
        (λ q. fits_later g f.last f'.last (cursors g ws) (cursors g ws') later vs (slice_set vs id v') grow u (s.each j u q.1)) (get_set vs id j v' u e);
  }

  pub quiet_own : IsQuiet g f.last f'.last ws ws' v v' → KeepsMade vs (slice_set vs id v') → PutSide (stage_of stage) g f' ws' (slice_set vs id v') → IsManned (stage_of stage) g f' (put_cursors g ws') (slice_set vs id v') → TakeFits g f'.last (cursors g ws') (slice_set vs id v') v' → IsSoundAt g f' ws' (slice_set vs id v')
  quiet_own q grow puts manned own =
      let vs' : List View = slice_set vs id v' in
      let later = quiet_later g f.last f'.last ws ws' v v' q in
      let t = s.takes in
      let c = s.counts in
      let sr = q.reserved in
      let fetches_same : (p : ℕ) → sum_by (fetches g p) vs' ≡ sum_by (fetches g p) vs = λ p. sum_same (fetches g p) vs id v v' at (ap (times p) q.fetched) in
      after_step later grow puts manned
      record {
        same = λ k. ap (λ (w : ℕ). (w / offset_span) % g.blocks) (sr k) ∙ t.same k;
        to = λ k. let e = sr k in let n = t.to k in omega (arith, q.last_to);
        most = λ k. let e = sr k in let n = t.most k in omega arith;
        made = λ k o from in_block above here. let e = sr k in let n = t.made k o from in_block (omega arith) (sym (ap (λ (w : ℕ). w / offset_span) e) ∙ here) in let m = grow.counts (place g k o) in omega arith;
        passed = λ k j l. let e = sr k in passed_later g f.last f'.last (cursors g ws) (cursors g ws') later j (t.passed k j (omega arith));
        head_from = let e = q.consumer in let n = t.head_from in omega arith;
        head = let e = q.consumer in let n = t.head in let m : (cursors g ws').reserved (slice_index ws' 1) ≡ (cursors g ws).reserved (slice_index ws 1) = ap (cursors g ws').reserved e ∙ sr (slice_index ws 1) in omega arith;
      }
      record {
        once = λ p. let e = fetches_same p in let n = c.once p in omega arith;
        gone = λ k o from in_block h. let e = fetches_same (place g k o) in let n = c.gone k o from in_block (omega arith) in let r = sr k in omega arith;
        kept = λ k o from near in_block h. let e = fetches_same (place g k o) in let r = sr k in let n = c.kept k o from (let m = q.last_to in omega arith) in_block (omega arith) in omega arith;
      }
      (λ k. attended_stays vs id v v' at (cursors g ws) (cursors g ws') k (ap (λ (w : ℕ). w / offset_span) (sr k)) (let e = q.consumer in omega arith) (q.unraised _) (s.attended k))
      own

  -- the same where the seat takes nothing
  pub quiet : IsQuiet g f.last f'.last ws ws' v v' → v'.taken ≡ v.taken → KeepsMade vs (slice_set vs id v') → PutSide (stage_of stage) g f' ws' (slice_set vs id v') → IsManned (stage_of stage) g f' (put_cursors g ws') (slice_set vs id v')
      → DropKnows g f'.last (cursors g ws') (slice_set vs id v') v'.taken v'.read v'.phase → ((q : DropTake) → v'.phase ≡ Some (Take q) → reading_in g q ≡ [] → v'.read ≡ []) → IsSoundAt g f' ws' (slice_set vs id v')
  quiet q taken grow puts manned knows unread =
      let own = s.each id v at in
      quiet_own q grow puts manned record {
        knows = knows;
        rising = subst IsRising (sym q.fetched) own.rising;
        items = λ i item e. grow.items item (own.items i item (ap (λ (l : List Placed). slice_get l i) (sym taken) ∙ e));
        to_head = subst (λ (n : ℕ). AreBelow v'.taken (place g (n + 1) 0)) (sym q.consumer) (subst (λ (l : List Placed). AreBelow l (place g (slice_index ws 1 + 1) 0)) (sym taken) own.to_head);
        unread = unread;
      }

pub fetched_reading : (g : Grid) (v : View) (ps : List ℕ) → reading g v.phase ≡ ps → fetched g v ≡ places v.taken ++ ps
fetched_reading g v ps e = ap (λ (l : List ℕ). places v.taken ++ l) e

-- the reserved cursors where one word is raised
pub record IsRaised (g : Grid) (ws ws' : List ℕ) (b x : ℕ) : Type 0 where
  pub there : (k : ℕ) → k % g.blocks ≡ b % g.blocks → reserved_word g ws' k ≡ x
  pub elsewhere : (k : ℕ) → k % g.blocks ≢ b % g.blocks → reserved_word g ws' k ≡ reserved_word g ws k
  pub consumer : slice_index ws' 1 ≡ slice_index ws 1

pub raised : (g : Grid) (ws : List ℕ) (b x : ℕ) → 4 + 4 * (b % g.blocks) < length ws → IsRaised g ws (slice_set ws (4 + 4 * (b % g.blocks)) x) b x
raised g ws b x long =
    let set = set_at g 4 ws b x long in record { there = set.there; elsewhere = set.elsewhere; consumer = get_or-set_other ws (4 + 4 * (b % g.blocks)) 1 x 0 (λ e. omega arith) }

-- the state is a later one, where a word is raised
pub take_later : (g : Grid) (last : ℕ) (ws : List ℕ) (i x : ℕ) → slice_index ws i ≤ x → i < length ws → IsLater last last (cursors g ws) (cursors g (slice_set ws i x))
take_later g last ws i x up long = record {
  last_to = omega arith;
  puts = record { producer = raised_to ws i x _ long up; allocated = λ k. raised_to ws i x _ long up; committed = λ k. raised_to ws i x _ long up };
  consumer = raised_to ws i x _ long up;
  reserved = λ k. raised_to ws i x _ long up;
}
