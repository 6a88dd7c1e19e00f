-- What the step of a call leaves in the seat's lists and in a take's buffer, by what follows it.
use Rattle.std.proofs.Common.{◌≡◌, ℕ, ◌+◌, ◌<◌, ◌≤◌, Bool, true, false, List, [], ◌∷◌, ◌++◌, length, take, refl, sym, ap, ◌∙◌, subst, ◌⊎◌, ⊎_elim, arith}
use Rattle.std.specs.Prelude.{if◌then◌else◌, slice_set}
use Rattle.std.proofs.lemmas.List.{length-set, take_all, take_more_set}
use Rattle.cursor_word.specs.Shape.{Grid}
use Rattle.rail.specs.Items.{placed}
use Rattle.rail.specs.Rail.{Takes}
use Rattle.rail.specs.declared.entry.Placed.{Placed}
use Rattle.rail.specs.declared.answer.Put.TheVariants as put
use Rattle.rail.specs.declared.answer.Take.{Take}
use Rattle.rail.specs.declared.answer.Take.TheVariants as take_
use Rattle.rail.specs.declared.answer.Answer.TheVariants as answer
use Rattle.machine.specs.declared.op.After.{After}
use Rattle.machine.specs.declared.op.After.TheVariants.{Next, Done}
use Rattle.machine.specs.Table.{Table}
use Rattle.machine.specs.Steps.{made_after, taken_after}
use Rattle.machine.specs.Table.{Reading, Unread, Whole, Word, reads_word}
use Rattle.call_laws.specs.Calls.{IsOfKind, IsWordWithin, ReadsOn}
use Rattle.call_steps.specs.Buffer.{Gathers, out_after}
use Rattle.call_steps.specs.Call.{PutLeaves, TakeLeaves}

-- what a take hands out of its buffer: what it read where it answers Ok, and else what was there
abbrev pub HandsOut : List ℕ → List ℕ → List ℕ → Take → Type 0
HandsOut read old out (take_.Ok place) = out ≡ read
HandsOut read old out (take_.Overrun place now) = Unit {0}
HandsOut read old out a = out ≡ old

module _ {P : Type 0} (t : Table P) where
  -- a put goes on as a put, and makes its entry where it answers Ok
  abbrev pub PutFollows : List Placed → List Placed → List ℕ → After P → Type 0
  PutFollows made new entry (Next q) = (t.is_put q ≡ true) × (new ≡ made)
  PutFollows made new entry (Done (answer.Put a)) = PutLeaves made new entry a
  PutFollows made new entry (Done (answer.Take a)) = ⊥

  pub put_follows : (made : List Placed) (entry : List ℕ) (b : After P) → IsOfKind t true b → PutFollows made (made_after made entry b) entry b
  put_follows made entry (Next q) h = (h, refl)
  put_follows made entry (Done (answer.Put (put.Ok place))) h = refl
  put_follows made entry (Done (answer.Put (put.Full head x))) h = refl
  put_follows made entry (Done (answer.Put (put.Busy why))) h = refl
  put_follows made entry (Done (answer.Take a)) h = cc

  pub put_takes_none : (taken : List Placed) (read : List ℕ) (b : After P) → IsOfKind t true b → taken_after taken read b ≡ taken
  put_takes_none taken read (Done (answer.Take (take_.Ok place))) h = cc
  put_takes_none taken read b h = refl

  pub take_makes_none : (made : List Placed) (entry : List ℕ) (b : After P) → IsOfKind t false b → made_after made entry b ≡ made
  take_makes_none made entry (Done (answer.Put (put.Ok place))) h = cc
  take_makes_none made entry b h = refl

  -- a take goes on as a take, and takes what is in its buffer where it answers Ok
  abbrev pub TakeFollows : List Placed → List Placed → List ℕ → List ℕ → List ℕ → After P → Type 0
  TakeFollows taken new old out read (Next q) = (t.is_put q ≡ false) × (new ≡ taken) × Gathers (t.reading q) old out read
  TakeFollows taken new old out read (Done (answer.Take a)) = TakeLeaves taken new old out a × HandsOut read old out a
  TakeFollows taken new old out read (Done (answer.Put a)) = ⊥

  begins_reading : (s : Reading) (old out read : List ℕ) → (s ≡ Unread) ⊎ (s ≡ Word 0) → (out ≡ old) × (read ≡ []) → Gathers s old out read
  begins_reading s old out read by same =
      ⊎_elim (λ e. subst (λ (s : Reading). Gathers s old out read) (sym e) same) (λ e. subst (λ (s : Reading). Gathers s old out read) (sym e) (sym same.1)) by

  reads_more : (s : Reading) (width : ℕ) (old out read : List ℕ) (next n : ℕ) → next < width → length out ≡ width → take next out ≡ read
      → ((next + 1 < width) × (s ≡ Word (next + 1))) ⊎ ((width ≤ next + 1) × (s ≡ Whole)) → Gathers s old (slice_set out next n) (read ++ n ∷ [])
  reads_more s width old out read next n within long front by =
      let more : take (next + 1) (slice_set out next n) ≡ read ++ n ∷ [] = take_more_set out next n (omega arith) ∙ ap (λ (l : List ℕ). l ++ n ∷ []) front in
      ⊎_elim (λ e. subst (λ (s : Reading). Gathers s old (slice_set out next n) (read ++ n ∷ [])) (sym e.1) more)
      (λ e. subst (λ (s : Reading). Gathers s old (slice_set out next n) (read ++ n ∷ [])) (sym e.1) (sym (take_all (next + 1) (slice_set out next n) (omega (arith, length-set out next n, e.0))) ∙ more)) by

  pub take_follows : (width : ℕ) (taken : List Placed) (old out read : List ℕ) (s : Reading) (n : ℕ) (b : After P) → IsOfKind t false b → IsWordWithin s width → length out ≡ width → Gathers s old out read → ReadsOn t width s b
      → TakeFollows taken (taken_after taken read b) old (out_after s out n) (if reads_word s then read ++ n ∷ [] else read) b
  take_follows width taken old out read Unread n (Next q) h w long same on = (h, refl, begins_reading (t.reading q) old out read on same)
  take_follows width taken old out read Unread n (Done (answer.Take (take_.Ok place))) h w long same on = absurd on
  take_follows width taken old out read Unread n (Done (answer.Take (take_.Overrun place now))) h w long same on = absurd on
  take_follows width taken old out read Unread n (Done (answer.Take (take_.Empty place))) h w long same on = ((refl, same.0), same.0)
  take_follows width taken old out read Unread n (Done (answer.Take (take_.Busy why))) h w long same on = ((refl, same.0), same.0)
  take_follows width taken old out read Unread n (Done (answer.Put a)) h w long same on = cc
  take_follows width taken old out read (Word next) n (Next q) h w long front on = (h, refl, reads_more (t.reading q) width old out read next n w long front on)
  take_follows width taken old out read (Word next) n (Done (answer.Put a)) h w long front on = absurd on
  take_follows width taken old out read (Word next) n (Done (answer.Take a)) h w long front on = absurd on
  take_follows width taken old out read Whole n (Next q) h w long same on = absurd on
  take_follows width taken old out read Whole n (Done (answer.Take (take_.Ok place))) h w long same on = (ap (λ (l : List ℕ). taken ++ placed place l ∷ []) (sym same), same)
  take_follows width taken old out read Whole n (Done (answer.Take (take_.Overrun place now))) h w long same on = (refl, tt)
  take_follows width taken old out read Whole n (Done (answer.Take (take_.Empty place))) h w long same on = absurd on
  take_follows width taken old out read Whole n (Done (answer.Take (take_.Busy why))) h w long same on = absurd on
  take_follows width taken old out read Whole n (Done (answer.Put a)) h w long same on = absurd on

-- a step keeps a take's buffer as long as it is
pub out_long : (s : Reading) (out : List ℕ) (n : ℕ) → length (out_after s out n) ≡ length out
out_long (Word next) out n = length-set out next n
out_long Unread out n = refl
out_long Whole out n = refl

-- what a queue promises of a take that hands out what it has read, it promises of the buffer
pub takes_out : (g : Grid) (drops : Bool) (made : List Placed) (read old out : List ℕ) (taken new : List Placed) (trail : List ℕ) (a : Take) → HandsOut read old out a → Takes g drops made read read taken new trail a
    → Takes g drops made old out taken new trail a
takes_out g drops made read old out taken new trail (take_.Ok place) hands promised = subst (λ (words : List ℕ). Takes g drops made old words taken new trail (take_.Ok place)) (sym hands) promised
takes_out g drops made read old out taken new trail (take_.Empty place) hands promised = (hands, promised.1, promised.2, promised.3)
takes_out g drops made read old out taken new trail (take_.Busy why) hands promised = (hands, promised.1, promised.2)
takes_out g drops made read old out taken new trail (take_.Overrun place now) hands promised = promised
