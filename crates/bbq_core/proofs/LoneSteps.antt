-- A step of a seat that is alone: how it goes on, or comes to rest.
use Rattle.std.proofs.Common.{◌≡◌, ℕ, ◌+◌, ◌/◌, ◌<◌, List, [], length, sym, ap, ◌∙◌, subst, ⊎_elim, arith}
use Rattle.std.specs.Prelude.{Some, None, slice_get, slice_set, slice_index}
use Rattle.std.specs.List.{sum_by}
use Rattle.std.proofs.lemmas.List.{set-get_or}
use Rattle.cursor_word.specs.Shape.{Grid, IsWithinLimits}
use Rattle.cursor_word.specs.Cursor.{most_block, offset_span}
use Rattle.rail.specs.declared.entry.Placed.{Placed}
use Rattle.machine.specs.Invariant.{made_count, made_total}
use Rattle.machine.specs.Steps.{finds, view_after, words_after}
use Rattle.put_side.specs.Cursors.{Front, reserved_word}
use Rattle.put_side.specs.Counts.{one_below, taken_count, taken_total, takes}
use Rattle.put_side.specs.Stages.{PutStage}
use Rattle.bbq_core.specs.declared.phase.Phase.{Phase}
use Rattle.bbq_core.specs.declared.phase.Phase.TheVariants.{Take}
use Rattle.bbq_core.specs.declared.take_phase.TakePhase.TheVariants.{OpenX}
use Rattle.bbq_core.specs.Types.{After, View}
use Rattle.bbq_core.specs.PutSteps.{after}
use Rattle.bbq_core.specs.Table.{table}
use Rattle.bbq_core.specs.Stage.{stage}
use Rattle.bbq_core.specs.Counts.{reading}
use Rattle.bbq_core.specs.Sound.{IsManned, IsSoundAt, opens_reserved, raises_consumer}
use Rattle.bbq_core.specs.Alone.{GoesOnAlone, IsAlone, IsStill, LoneKnows}
use Rattle.put_side.proofs.TakeWords.{seen_by}
use Rattle.bbq_core.proofs.Lone.{consumer_is, reserved_is, reserved_number, taken_is}
use Rattle.put_side.specs.Alone.{OthersRest, PutAlone}
use Rattle.put_side.specs.PutTable.{stage_in}
use Rattle.put_side.proofs.AlonePuts.{IsPutHere}
use Rattle.put_side.proofs.Lone.{IsOnly, all_still, only_one, others_still, total_grows}
use Rattle.bbq_core.proofs.Steps.{IsAfter, step_at}

-- a seat alone, before its step
pub record IsHere (g : Grid) (n t : ℕ) (front back : Front) (ws : List ℕ) (vs : List View) (id : ℕ) (v : View) (p : Phase) : Type 0 where
  pub limits : IsWithinLimits g
  pub sound : IsSoundAt g front back ws vs
  pub small : front.last < most_block
  pub manned : IsManned g front back ws vs
  pub at : slice_get vs id ≡ Some v
  pub phase : v.phase ≡ Some p
  pub others : OthersRest vs id
  pub made : made_total vs ≡ n
  pub taken : taken_total vs ≡ t
  pub knows : LoneKnows g back.last n t ws p

abbrev pub Goes : Grid → ℕ → ℕ → List ℕ → List View → ℕ → View → Phase → Type 0
Goes g n t ws vs id v p = GoesOnAlone g n t (words_after table g ws v p) (slice_set vs id (view_after table g ws v p)) id (after g p (finds table g ws v p))

-- a phase whose step opens no block to takes
abbrev pub IsNoOpenX : Phase → Type 0
IsNoOpenX (Take (OpenX spent)) = ⊥
IsNoOpenX p = Unit {0}

module _ {g : Grid} {n t : ℕ} {front back : Front} {ws : List ℕ} {vs : List View} {id : ℕ} {v : View} {p : Phase} (h : IsHere g n t front back ws vs id v p) where
  -- the state after the step
  pub next_of : IsAfter g p front back (words_after table g ws v p) (slice_set vs id (view_after table g ws v p))
  next_of = step_at g h.limits front back ws vs h.sound h.manned h.small id v h.at p h.phase

  -- a step after which the seat goes on
  pub go_further : {ws' : List ℕ} {q : Phase} (v' : View) (k : IsAfter g p front back ws' (slice_set vs id v')) → v'.made ≡ v.made → v'.taken ≡ v.taken → LoneKnows g k.back'.last n t ws' q → IsAlone g n t ws' (slice_set vs id v') id q
  go_further v' k made taken knows = record {
    front = k.front';
    back = k.back';
    sound = k.sound;
    manned = k.manned;
    others = others_still vs id v' h.others;
    made = total_grows made_count vs id 0 n v v' h.at (let z = ap (λ (l : List Placed). length l) made in omega arith) h.made ∙ omega arith;
    taken = total_grows taken_count vs id 0 t v v' h.at (let z = ap (λ (l : List Placed). length l) taken in omega arith) h.taken ∙ omega arith;
    knows = knows;
  }

  -- where it opens no block to takes; and one of them that loads a word
  pub go_on : {ws' : List ℕ} {q : Phase} (v' : View) → IsNoOpenX p → IsAfter g p front back ws' (slice_set vs id v') → v'.made ≡ v.made → v'.taken ≡ v.taken → LoneKnows g back.last n t ws' q → IsAlone g n t ws' (slice_set vs id v') id q
  go_on {ws' = ws'} {q = q} v' none k made taken knows =
      let b : back.last ≡ k.back'.last = ⊎_elim (λ e. sym e) (λ o. absurd (subst IsNoOpenX o.opens none)) k.passed in
      go_further v' k made taken (subst (λ (j : ℕ). LoneKnows g j n t ws' q) b knows)

  pub load_on : {q : Phase} (i : ℕ) (v' : View) → IsNoOpenX p → IsAfter g p front back (slice_set ws i (slice_index ws i)) (slice_set vs id v') → v'.made ≡ v.made → v'.taken ≡ v.taken → LoneKnows g back.last n t ws q
      → IsAlone g n t (slice_set ws i (slice_index ws i)) (slice_set vs id v') id q
  load_on {q = q} i v' none k made taken knows = go_on v' none k made taken (subst (λ (w : List ℕ). LoneKnows g back.last n t w q) (sym (set-get_or ws i 0)) knows)

  -- the step that answers
  pub come_to_rest : {ws' : List ℕ} (m d : ℕ) (v' : View) → IsAfter g p front back ws' (slice_set vs id v') → v'.phase ≡ None → length v'.made ≡ length v.made + m → length v'.taken ≡ length v.taken + d → IsStill g (n + m) (t + d) ws' (slice_set vs id v')
  come_to_rest m d v' k rest made taken = record {
    front = k.front';
    back = k.back';
    sound = k.sound;
    manned = k.manned;
    rest = all_still vs id v' h.others rest;
    made = total_grows made_count vs id m n v v' h.at made h.made;
    taken = total_grows taken_count vs id d t v v' h.at taken h.taken;
  }

  -- where a step may be followed by this
  abbrev pub Follows : List ℕ → ℕ → List ℕ → After → Type 0
  Follows ws' x read b = IsAfter g p front back ws' (slice_set vs id (seen_by v b read x)) → GoesOnAlone g n t ws' (slice_set vs id (seen_by v b read x)) id b

  -- what the words and the counts tell a seat alone
  only_here : IsOnly vs (Some p)
  only_here = only_one vs id v (Some p) h.others h.at h.phase

  pub put_here : (s : PutStage) → stage p ≡ s → PutAlone g n ws s → IsPutHere stage g n front ws vs id v s
  put_here s is knows = record { limits = h.limits; side = h.sound.puts; manned = h.manned.puts; at = h.at; stands = ap (stage_in stage) h.phase ∙ is; others = h.others; made = h.made; knows = knows }

  pub tail_is : raises_consumer back.last (Some p) ≡ 0 → slice_index ws 1 ≡ back.last
  tail_is z = consumer_is g front back ws vs (Some p) h.limits h.sound h.manned only_here z

  pub back_is : opens_reserved back.last (Some p) ≡ 0 → reserved_word g ws back.last / offset_span ≡ back.last
  back_is z = reserved_is g front back ws vs (Some p) h.limits h.sound h.manned only_here z

  pub given_is : back.next ≡ t + length (reading g (Some p))
  given_is = let e = reserved_number g front back ws vs (Some p) h.limits h.sound h.manned only_here in let m = h.taken in omega arith

  pub taken_once : reading g (Some p) ≡ [] → (q : ℕ) → sum_by (takes q) vs ≡ one_below q back.next
  taken_once none q = taken_is g front back ws vs (Some p) h.limits h.sound h.manned only_here none q
