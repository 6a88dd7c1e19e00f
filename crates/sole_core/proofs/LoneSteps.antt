-- A step of a seat that is alone: how it goes on, or comes to rest.
use Rattle.std.proofs.Common.{◌≡◌, ℕ, ◌+◌, ◌<◌, ◌≤◌, List, length, sym, ap, ◌∙◌, subst, arith}
use Rattle.std.specs.Prelude.{Some, None, slice_get, slice_set, slice_index}
use Rattle.std.proofs.lemmas.List.{set-get_or}
use Rattle.cursor_word.specs.Shape.{Grid, IsWithinLimits}
use Rattle.cursor_word.specs.Cursor.{most_block, place_span}
use Rattle.rail.specs.declared.entry.Placed.{Placed}
use Rattle.machine.specs.Invariant.{made_count, made_total}
use Rattle.machine.specs.Steps.{finds, view_after, words_after}
use Rattle.put_side.specs.Cursors.{Front, put_cursors}
use Rattle.put_side.specs.Manned as put_work
use Rattle.put_side.specs.Alone.{OthersRest, PutAlone}
use Rattle.put_side.specs.PutTable.{stage_in}
use Rattle.put_side.proofs.AlonePuts.{IsPutHere}
use Rattle.put_side.proofs.Lone.{all_still, others_still, total_grows}
use Rattle.sole_core.specs.declared.phase.SolePhase.{SolePhase}
use Rattle.sole_core.specs.Types.{After, View}
use Rattle.sole_core.specs.PutSteps.{after}
use Rattle.sole_core.specs.Table.{table}
use Rattle.sole_core.specs.Stage.{stage, stage_of}
use Rattle.put_side.specs.Counts.{taken_count, taken_total}
use Rattle.sole_core.specs.Sound.{IsSoundAt}
use Rattle.sole_core.specs.Alone.{GoesOnAlone, IsAlone, IsStill, LoneKnows}
use Rattle.put_side.proofs.TakeWords.{seen_by}
use Rattle.sole_core.specs.declared.phase.SolePhase.TheVariants.{Put, SeeX, Take}
use Rattle.sole_core.proofs.Takings.{taken_number}
use Rattle.sole_core.proofs.Steps.{IsAfter, step_at}

-- a seat alone, before its step
pub record IsHere (g : Grid) (n t : ℕ) (front : Front) (next : ℕ) (ws : List ℕ) (vs : List View) (id : ℕ) (v : View) (p : SolePhase) : Type 0 where
  pub limits : IsWithinLimits g
  pub sound : IsSoundAt g front next ws vs
  pub small : front.last < most_block
  pub room : made_total vs ≤ place_span g
  pub manned : put_work.IsManned stage_of g front (put_cursors g ws) vs
  pub at : slice_get vs id ≡ Some v
  pub phase : v.phase ≡ Some p
  pub others : OthersRest vs id
  pub made : made_total vs ≡ n
  pub taken : taken_total vs ≡ t
  pub knows : LoneKnows g n ws p

abbrev pub Goes : Grid → ℕ → ℕ → List ℕ → List View → ℕ → View → SolePhase → Type 0
Goes g n t ws vs id v p = GoesOnAlone g n t (words_after table g ws v p) (slice_set vs id (view_after table g ws v p)) id (after g p (finds table g ws v p))

-- what it knows as a put
put_knows : (g : Grid) (n : ℕ) (ws : List ℕ) (p : SolePhase) → LoneKnows g n ws p → PutAlone g n ws (stage p)
put_knows g n ws (Put q) h = h
put_knows g n ws (SeeX full) h = h
put_knows g n ws (Take q) h = tt

module _ {g : Grid} {n t : ℕ} {front : Front} {next : ℕ} {ws : List ℕ} {vs : List View} {id : ℕ} {v : View} {p : SolePhase} (h : IsHere g n t front next ws vs id v p) where
  -- the state after the step
  pub next_of : IsAfter g p front next (words_after table g ws v p) (slice_set vs id (view_after table g ws v p))
  next_of = step_at g h.limits front next ws vs h.sound h.manned h.small h.room id v h.at p h.phase

  -- a step after which the seat goes on
  pub go_further : {ws' : List ℕ} {q : SolePhase} (v' : View) (k : IsAfter g p front next ws' (slice_set vs id v')) → v'.made ≡ v.made → v'.taken ≡ v.taken → LoneKnows g n ws' q → IsAlone g n t ws' (slice_set vs id v') id q
  go_further v' k made taken knows = record {
    front = k.front';
    next = k.next';
    sound = k.sound;
    manned = k.manned;
    others = others_still vs id v' h.others;
    made = total_grows made_count vs id 0 n v v' h.at (let z = ap (λ (l : List Placed). length l) made in omega arith) h.made ∙ omega arith;
    taken = total_grows taken_count vs id 0 t v v' h.at (let z = ap (λ (l : List Placed). length l) taken in omega arith) h.taken ∙ omega arith;
    knows = knows;
  }

  -- and one of them that loads a word
  pub load_on : {q : SolePhase} (i : ℕ) (v' : View) (k : IsAfter g p front next (slice_set ws i (slice_index ws i)) (slice_set vs id v')) → v'.made ≡ v.made → v'.taken ≡ v.taken → LoneKnows g n ws q
      → IsAlone g n t (slice_set ws i (slice_index ws i)) (slice_set vs id v') id q
  load_on {q = q} i v' k made taken knows = go_further v' k made taken (subst (λ (w : List ℕ). LoneKnows g n w q) (sym (set-get_or ws i 0)) knows)

  -- the step that answers
  pub come_to_rest : {ws' : List ℕ} (m d : ℕ) (v' : View) → IsAfter g p front next ws' (slice_set vs id v') → v'.phase ≡ None → length v'.made ≡ length v.made + m → length v'.taken ≡ length v.taken + d → IsStill g (n + m) (t + d) ws' (slice_set vs id v')
  come_to_rest m d v' k rest made taken = record {
    front = k.front';
    next = k.next';
    sound = k.sound;
    manned = k.manned;
    rest = all_still vs id v' h.others rest;
    made = total_grows made_count vs id m n v v' h.at made h.made;
    taken = total_grows taken_count vs id d t v v' h.at taken h.taken;
  }

  -- where a step may be followed by this
  abbrev pub Follows : List ℕ → ℕ → List ℕ → After → Type 0
  Follows ws' x read b = IsAfter g p front next ws' (slice_set vs id (seen_by v b read x)) → GoesOnAlone g n t ws' (slice_set vs id (seen_by v b read x)) id b

  -- what the words and the counts tell a seat alone
  pub put_here : IsPutHere stage g n front ws vs id v (stage p)
  put_here = record { limits = h.limits; side = h.sound.puts; manned = h.manned; at = h.at; stands = ap (stage_in stage) h.phase; others = h.others; made = h.made; knows = put_knows g n ws p h.knows }

  pub given_is : next ≡ t
  given_is = sym (taken_number g front next ws vs h.sound) ∙ h.taken
