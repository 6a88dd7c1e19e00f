-- What was made and taken, and what is left, where a dropping queue of one seat has stopped.
use Rattle.std.proofs.Common.{◌≡◌, ℕ, ◌≤◌, List, [], ◌∷◌, length, append-nil, refl, sym, ap, ◌∙◌, subst}
use Rattle.cursor_word.specs.Shape.{Grid}
use Rattle.cursor_word.specs.Cursor.{low}
use Rattle.rail.specs.declared.entry.Placed.{Placed}
use Rattle.rail.specs.Items.{IsRising, places}
use Rattle.rail.specs.Outcome.{DropOutcome, IsAccepted}
use Rattle.machine.specs.Invariant.{made_total}
use Rattle.put_side.specs.Gathered.{all_taken}
use Rattle.call_laws.specs.Left.{unreserved_in}
use Rattle.drop_core.specs.Gathered.{IsSettled, left_in}
use Rattle.drop_core.specs.Types.{MachineState, View}
use Rattle.drop_core.specs.Sound.{IsSound}
use Rattle.drop_core.proofs.Settles.{left_is}
use Rattle.drop_core.proofs.Moments.{made_rises, taken_rises}
use Rattle.drop_core.proofs.Settles.{settled}
use Rattle.solo_rail.specs.Solo.{HasStopped}
use Rattle.solo_rail.proofs.Kept.{made_one}
use Rattle.solo_rail.proofs.Stops.{accepted_is, rest_one, whole}

module _ (g : Grid) (words : List ℕ) (v : View) (stopped : HasStopped IsSound g words v) where
  abbrev state : MachineState
  state = record { words = words; views = v ∷ [] }

  s : IsSettled g state
  s = settled g state stopped.limits stopped.holds (rest_one v stopped.rest)

  rises : IsRising (places v.made)
  rises = made_rises g state stopped.holds 0 v refl

  pub drop_whole : IsAccepted v.made v.made
  drop_whole = whole v s.accepted s.is_accepted rises

  pub drop_order : IsRising (places v.taken)
  drop_order = taken_rises g state stopped.holds 0 v refl

  -- what was read is what is left
  pub drop_left : (items : List Placed) → low g (length v.made) ≤ length v.made → items ≡ unreserved_in g words (low g (length v.made)) (length v.made) → DropOutcome g v.made v.taken items
  drop_left items within is =
      let total = made_one v in
      let taken : all_taken (v ∷ []) ≡ v.taken = append-nil v.taken in
      let left : left_in g words (all_taken (v ∷ [])) (made_total (v ∷ [])) ≡ items =
      left_is g words (v ∷ []) stopped.limits stopped.holds (rest_one v stopped.rest) (subst (λ (n : ℕ). low g n ≤ n) (sym total) within)
      ∙ ap (λ (n : ℕ). unreserved_in g words (low g n) n) total ∙ sym is in
      subst (λ (l : List Placed). DropOutcome g l v.taken items) (accepted_is v s.accepted s.is_accepted rises)
      (subst (λ (l : List Placed). DropOutcome g s.accepted l items) taken
      (subst (λ (l : List Placed). DropOutcome g s.accepted (all_taken (v ∷ [])) l) left s.outcome))
