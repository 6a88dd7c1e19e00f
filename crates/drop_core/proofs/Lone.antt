-- What the words tell where all seats but one are at rest, and of a step of that one, before it is told how it goes on.
use Rattle.std.specs.Prelude.{Option, slice_index, if◌then◌else◌, Some, slice_get, slice_set}
use Rattle.std.specs.List.{sum_by}
use Rattle.std.proofs.Common.{◌≡◌, ◌≢◌, ℕ, ◌+◌, ◌-◌, ◌*◌, ◌/◌, ◌%◌, ◌<◌, ◌≤◌, ◌⊎◌, max, min, List, [], refl, ap, ◌∙◌, ⊎_elim, arith, sym, subst}
use Rattle.std.proofs.lemmas.Bool.{cases_eq, cases_lt}
use Rattle.std.proofs.lemmas.List.Sums.{sum_by-append}
use Rattle.std.proofs.lemmas.List.{set-get_or}
use Rattle.cursor_word.specs.Shape.{Grid, IsWithinLimits}
use Rattle.cursor_word.specs.Cursor.{low, offset_span}
use Rattle.rail.specs.Items.{places}
use Rattle.rail.specs.Sequential.{drop_next, drop_take}
use Rattle.rail.specs.declared.answer.Take.TheVariants as take
use Rattle.machine.specs.Invariant.{made_total}
use Rattle.machine.specs.Steps.{finds, words_after}
use Rattle.machine.specs.declared.op.After.TheVariants.{Next, Done}
use Rattle.put_side.specs.Cursors.{Front, allocated_word, committed_word, place, reserved_word}
use Rattle.put_side.specs.Counts.{makes, one_at, one_below, takes, times}
use Rattle.put_side.specs.Alone.{OthersRest, PutAlone}
use Rattle.put_side.specs.PutTable.{stage_in}
use Rattle.put_side.proofs.Facts.{allocated_to, place_next}
use Rattle.put_side.proofs.Choices.{by_equal}
use Rattle.put_side.proofs.Lone.{IsOnly, committed_is, sum_plus, entered_is, only_one}
use Rattle.put_side.proofs.Lows.{low_at, rows}
use Rattle.put_side.proofs.AlonePuts.{IsPutHere, head_of, made_of, open_of}
use Rattle.drop_core.specs.declared.phase.DropPhase.{DropPhase}
use Rattle.drop_core.specs.Types.{View, After}
use Rattle.drop_core.specs.Stage.{stage}
use Rattle.drop_core.specs.Words.{IsGone, cursors}
use Rattle.drop_core.specs.Counts.{fetches, raises_consumer, reading, reading_in}
use Rattle.drop_core.specs.Sound.{IsSoundAt}
use Rattle.drop_core.specs.Alone.{IsNext, AnswersAlone, KnowsAlone}
use Rattle.drop_core.specs.declared.phase.DropPhase.TheVariants.{Put, SeeM, Take}
use Rattle.drop_core.specs.declared.take_phase.DropTake.{DropTake}
use Rattle.drop_core.specs.PutSteps.{after}
use Rattle.drop_core.specs.Steps.{table}

-- the answers of one thread
pub empty_is : (g : Grid) (n next p : ℕ) → p ≡ n → drop_next g n next ≡ n → take.Empty p ≡ drop_take g n next
empty_is g n next p here all = by_equal (drop_next g n next) n (λ b. take.Empty p ≡ (if b then take.Empty n else take.Ok (drop_next g n next))) (λ e. ap take.Empty here) (λ ne. absurd (ne all))

pub ok_is : (g : Grid) (n next p : ℕ) → p ≡ drop_next g n next → p ≢ n → take.Ok p ≡ drop_take g n next
ok_is g n next p here some = by_equal (drop_next g n next) n (λ b. take.Ok p ≡ (if b then take.Empty n else take.Ok (drop_next g n next))) (λ e. absurd (some (here ∙ e))) (λ ne. ap take.Ok here)

module _ (g : Grid) (f : Front) (ws : List ℕ) (vs : List View) (limits : IsWithinLimits g) (s : IsSoundAt g f ws vs) where
  module _ (opened : allocated_word g ws f.last / offset_span ≡ f.last) (made : (q : ℕ) → sum_by (makes q) vs ≡ one_below q f.next) where
    -- the blocks before the last are wholly committed
    pub full_is : (k : ℕ) → k < f.last → f.last < k + g.blocks → g.size ≤ committed_word g ws k % offset_span
    full_is k less near =
        ⊎_elim (λ old. s.before k old near)
        (λ from. let c = committed_is stage g f ws vs limits s.puts opened made k (omega arith) near from in let w = s.puts.places.words.full k less near in omega (arith, w.1))
        (cases_lt k g.blocks)

    -- and the last as far as it is allocated
    pub last_is : committed_word g ws f.last % offset_span ≡ min (allocated_word g ws f.last % offset_span) g.size
    last_is = committed_is stage g f ws vs limits s.puts opened made f.last (omega arith) (omega (arith, limits.blocks_from)) s.puts.places.words.from

  module _ (ph : Option DropPhase) (only : IsOnly vs ph) where
    pub reserved_to : ((b : ℕ) → raises_consumer b ph ≡ 0) → (k : ℕ) → reserved_word g ws k / offset_span ≤ slice_index ws 1
    reserved_to z k = ⊎_elim (λ q. q) (λ q. absurd (let b : ℕ = reserved_word g ws k / offset_span in let n = only.sum (raises_consumer b) refl in let y = z b in omega arith)) (s.attended k)

    pub taken_is : reading g ph ≡ [] → (q : ℕ) → sum_by (fetches g q) vs ≡ sum_by (takes q) vs
    taken_is none q =
        let n = sum_plus (fetches g q) (takes q) (λ (u : View). times q (reading g u.phase)) (λ u. sum_by-append (λ (z : ℕ). one_at z q) (places u.taken) (reading g u.phase)) vs in
        let o = only.sum (λ (ph : Option DropPhase). times q (reading g ph)) refl in
        let z : times q (reading g ph) ≡ 0 = ap (times q) none in omega arith

-- no cursor and no head lags, nothing is held and nothing is being read
pub record IsCalm (g : Grid) (f : Front) (ws : List ℕ) (vs : List View) : Type 0 where
  pub producer : slice_index ws 0 ≡ f.last
  pub opened : allocated_word g ws f.last / offset_span ≡ f.last
  pub entered : (f.last ≡ g.blocks) ⊎ (place g f.last 0 < f.next)
  pub consumer : reserved_word g ws (slice_index ws 1) / offset_span ≡ slice_index ws 1
  pub below : (k : ℕ) → reserved_word g ws k / offset_span ≤ slice_index ws 1
  pub made : (q : ℕ) → sum_by (makes q) vs ≡ one_below q f.next
  pub taken : (q : ℕ) → sum_by (fetches g q) vs ≡ sum_by (takes q) vs

module _ (g : Grid) (f : Front) (ws : List ℕ) (vs : List View) (limits : IsWithinLimits g) (s : IsSoundAt g f ws vs) (calm : IsCalm g f ws vs) (next : ℕ) (k : IsNext g (cursors g ws) vs next) where
  abbrev head : ℕ
  head = slice_index ws 1

  -- a reserved place of a block that is not reused is taken, and so is below the next one
  reserved_below : (j o : ℕ) → g.blocks ≤ j → f.last < j + g.blocks → o < g.size → IsGone (cursors g ws) j o → place g j o < next
  reserved_below j o from near within gone =
      let p : ℕ = place g j o in
      let n = s.counts.kept j o from near within gone in
      let t = calm.taken p in
      ⊎_elim (λ l. l) (λ l. absurd (let z = k.taken p l in omega arith)) (cases_lt p next)

  low_is : low g f.next ≡ place g (f.last + 1 - g.blocks) 0
  low_is =
      let edge = allocated_to s.puts.places.words in
      low_at g f.next f.last limits s.puts.places.words.from (let z = place_next g f.last s.puts.places.words.from in omega arith) calm.entered

  -- the next place to be taken is that of the consumer head's reserved cursor, where its block is not reused
  pub live_is : (o : ℕ) → o ≤ g.size → reserved_word g ws head ≡ head * offset_span + o → f.last < head + g.blocks → drop_next g f.next next ≡ place g head o
  live_is o most is near =
      let from = s.takes.head_from in
      let bottom = low_is in
      let up : low g f.next ≤ place g head 0 = let r = rows g (f.last + 1 - g.blocks) head (omega arith) in omega arith in
      let small = limits.size_to in
      let upper : next ≤ place g head o =
      ⊎_elim (λ z. omega arith)
      (λ x. let b = x.2 in
      let gone = b.gone in
      let to = b.to in
      let within = b.within in
      let y = place_next g b.block b.from in
      let p = b.is_place in
      let e = x.1 in
      ⊎_elim (λ l. let r = rows g (b.block + 1) head (omega arith) in omega arith)
      (λ l. let z : b.block ≡ head = omega arith in let w = ap (reserved_word g ws) z in let u = ap (λ (m : ℕ). place g m b.offset) z in omega arith)
      (cases_lt b.block head))
      k.behind in
      let lower : place g head o ≤ max next (low g f.next) =
      ⊎_elim
      (λ first. ⊎_elim
      (λ at_first. let z = ap (λ (m : ℕ). place g m o) at_first in let y : place g g.blocks o ≡ 0 = (let w : g.blocks - g.blocks ≡ 0 = omega arith in let u = ap (λ (m : ℕ). m * g.size) w in omega arith) in omega arith)
      (λ later. let j : ℕ = head - 1 in
      let next_to : place g head 0 ≡ place g j g.size = ap (λ (m : ℕ). place g m 0) (let z : head ≡ j + 1 = omega arith in z) ∙ place_next g j (omega arith) in
      let reused : j + g.blocks ≤ f.last → place g head o ≤ max next (low g f.next) = λ far. let r = rows g head (f.last + 1 - g.blocks) (omega arith) in omega arith in
      let here = calm.consumer in
      ⊎_elim (λ z. absurd (omega arith))
      (λ z. ⊎_elim reused
      (λ spent. ⊎_elim (λ close. let n = reserved_below j (g.size - 1) (omega arith) close (omega (arith, limits.size_from)) (omega (arith, limits.size_from)) in let w = limits.size_from in omega arith) reused (cases_lt f.last (j + g.blocks))) z)
      (s.takes.passed head j (omega arith)))
      (cases_eq head g.blocks))
      (λ some. let n = reserved_below head (o - 1) from near (omega (arith, some)) (omega (arith, some)) in omega (arith, some))
      (cases_lt o 1) in
      omega arith

-- a seat alone, before its step
pub record IsHere (g : Grid) (n next : ℕ) (f : Front) (ws : List ℕ) (vs : List View) (id : ℕ) (v : View) (p : DropPhase) : Type 0 where
  pub limits : IsWithinLimits g
  pub sound : IsSoundAt g f ws vs
  pub at : slice_get vs id ≡ Some v
  pub phase : v.phase ≡ Some p
  pub others : OthersRest vs id
  pub made : made_total vs ≡ n
  pub answered : IsNext g (cursors g ws) vs next
  pub knows : KnowsAlone g n next ws p

-- what is known after a step, by what follows it: what the seat goes on to know, or the answer
abbrev pub Leads : Grid → ℕ → ℕ → List ℕ → After → Type 0
Leads g n next ws (Next p) = KnowsAlone g n next ws p
Leads g n next ws (Done a) = AnswersAlone g n next a

abbrev pub StepLeads : Grid → ℕ → ℕ → List ℕ → View → DropPhase → Type 0
StepLeads g n next ws v p = Leads g n next (words_after table g ws v p) (after g p (finds table g ws v p))

-- a load leaves all words
pub loaded : (g : Grid) (n next : ℕ) (ws : List ℕ) (i : ℕ) (b : After) → Leads g n next ws b → Leads g n next (slice_set ws i (slice_index ws i)) b
loaded g n next ws i b h = subst (λ (w : List ℕ). Leads g n next w b) (sym (set-get_or ws i 0)) h

-- what it knows as a put
put_knows : (g : Grid) (n next : ℕ) (ws : List ℕ) (p : DropPhase) → KnowsAlone g n next ws p → PutAlone g n ws (stage p)
put_knows g n next ws (Put q) h = h
put_knows g n next ws (SeeM full) h = h
put_knows g n next ws (Take q) h = tt

pub put_here : {g : Grid} {n next : ℕ} {f : Front} {ws : List ℕ} {vs : List View} {id : ℕ} {v : View} {p : DropPhase} → IsHere g n next f ws vs id v p → IsPutHere stage g n f ws vs id v (stage p)
put_here {g = g} {n = n} {next = next} {ws = ws} {p = p} h =
    record { limits = h.limits; side = h.sound.puts; manned = h.sound.manned; at = h.at; stands = ap (stage_in stage) h.phase; others = h.others; made = h.made; knows = put_knows g n next ws p h.knows }

-- a take that is reading nothing, and isn't about to raise the consumer head
pub calm_of : {g : Grid} {n next : ℕ} {f : Front} {ws : List ℕ} {vs : List View} {id : ℕ} {v : View} {q : DropTake} → IsHere g n next f ws vs id v (Take q) → reading_in g q ≡ [] → ((b : ℕ) → raises_consumer b (Some (Take q)) ≡ 0) → IsCalm g f ws vs
calm_of {g = g} {f = f} {ws = ws} {vs = vs} {id = id} {v = v} {q = q} h none raises =
    let ph : Option DropPhase = Some (Take q) in
    let only : IsOnly vs ph = only_one vs id v ph h.others h.at h.phase in
    let below = reserved_to g f ws vs h.limits h.sound ph only raises in
    record {
      producer = head_of (put_here h) refl;
      opened = open_of (put_here h) refl;
      entered = entered_is stage g f ws vs h.limits h.sound.puts ph only h.sound.manned refl;
      consumer = let b = below (slice_index ws 1) in let o = h.sound.takes.head in omega arith;
      below = below;
      made = made_of (put_here h) refl;
      taken = taken_is g f ws vs h.limits h.sound ph only none;
    }
