-- What was made and taken, and what is left, where a refusing queue of one seat has stopped.
use Rattle.std.proofs.Common.{◌≡◌, ℕ, ◌+◌, ◌-◌, ◌^◌, ◌≤◌, min, List, [], ◌∷◌, length, append-nil, take, refl, sym, ap, ◌∙◌, subst, arith}
use Rattle.std.proofs.lemmas.List.{length-take-le}
use Rattle.std.proofs.lemmas.List.Sorted.{length_permutation}
use Rattle.cursor_word.specs.Shape.{Grid}
use Rattle.cursor_word.specs.Cursor.{place_span}
use Rattle.cursor_word.proofs.Places.{most_puts_to}
use Rattle.rail.specs.declared.entry.Placed.{Placed}
use Rattle.rail.specs.Items.{IsRising, places}
use Rattle.rail.specs.Outcome.{IsAccepted, RetryOutcome}
use Rattle.put_side.specs.Gathered.{all_made, all_taken}
use Rattle.put_side.specs.Settled.{IsSettled}
use Rattle.machine.specs.Entries.{left_in}
use Rattle.bbq_core.specs.Types.{MachineState, View}
use Rattle.bbq_core.specs.Sound.{IsSound}
use Rattle.bbq_core.proofs.Reached.{made_rises, taken_rises}
use Rattle.bbq_core.proofs.Settles.{settled}
use Rattle.solo_rail.specs.Solo.{HasStopped}
use Rattle.solo_rail.proofs.Stops.{accepted_is, rest_one, whole}

module _ (g : Grid) (words : List ℕ) (v : View) (stopped : HasStopped IsSound g words v) where
  abbrev state : MachineState
  state = record { words = words; views = v ∷ [] }

  pub few_places : length v.made ≤ place_span g
  few_places = let few = stopped.few in let most = most_puts_to g in omega arith

  s : IsSettled g words (v ∷ [])
  s = settled g words (v ∷ []) stopped.limits stopped.holds (rest_one v stopped.rest)

  rises : IsRising (places v.made)
  rises = made_rises g state stopped.holds 0 v refl

  pub retry_whole : IsAccepted v.made v.made
  retry_whole = whole v s.accepted s.is_accepted rises

  outcome : RetryOutcome v.made v.taken (left_in g words (length v.taken) (length v.made))
  outcome =
      let taken : all_taken (v ∷ []) ≡ v.taken = append-nil v.taken in
      let made : all_made (v ∷ []) ≡ v.made = append-nil v.made in
      subst (λ (l : List Placed). RetryOutcome l v.taken (left_in g words (length v.taken) (length v.made))) (accepted_is v s.accepted s.is_accepted rises)
      (subst (λ (l : List Placed). RetryOutcome s.accepted l (left_in g words (length l) (length v.made))) taken
      (subst (λ (l : List Placed). RetryOutcome s.accepted (all_taken (v ∷ [])) (left_in g words (length (all_taken (v ∷ []))) (length l))) made s.outcome))

  pub retry_order : IsRising (places v.taken)
  retry_order = taken_rises g state stopped.holds 0 v refl

  pub fewer : length v.taken ≤ length v.made
  fewer = let o = outcome in let n = length_permutation v.taken (take o.count v.made) o.first_taken in let m = length-take-le o.count v.made o.within in let w = o.within in omega arith

  -- what was read is what is left
  pub retry_left : (takes : ℕ) (items : List Placed) → takes ≡ min (length v.taken) (2 ^ 64 - 1) → items ≡ left_in g words takes (takes + (length v.made - takes)) → RetryOutcome v.made v.taken items
  retry_left takes items counted is =
      let less = fewer in
      let few = few_places in
      let exact : takes ≡ length v.taken = omega (arith, stopped.limits.size_to) in
      let to : takes + (length v.made - takes) ≡ length v.made = omega arith in
      let e : left_in g words takes (takes + (length v.made - takes)) ≡ left_in g words (length v.taken) (length v.made) =
      ap (λ (n : ℕ). left_in g words takes n) to ∙ ap (λ (n : ℕ). left_in g words n (length v.made)) exact in
      subst (λ (l : List Placed). RetryOutcome v.made v.taken l) (sym (is ∙ e)) outcome
