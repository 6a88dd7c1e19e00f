-- What a step leaves in its seat's view, by the value that its log has; and the room that a seat has for entries.
use Rattle.std.proofs.Common.{◌≡◌, ℕ, ◌+◌, ◌≤◌, List, [], ◌∷◌, ◌++◌, Bool, true, false, length, length-append, refl, sym, ap, ◌∙◌, subst, arith}
use Rattle.std.specs.Prelude.{Option, Some, None, if◌then◌else◌}
use Rattle.cursor_word.specs.Shape.{Grid}
use Rattle.rail.specs.Items.{placed}
use Rattle.rail.specs.declared.entry.Placed.{Placed}
use Rattle.rail.specs.declared.answer.Answer.TheVariants as answer
use Rattle.rail.specs.declared.answer.Put.TheVariants as put
use Rattle.machine.specs.declared.op.After.{After}
use Rattle.machine.specs.declared.op.After.TheVariants.{Next, Done}
use Rattle.machine.specs.declared.op.Op.{Op}
use Rattle.machine.specs.declared.op.Op.TheVariants.{Load, Store, AddOne, Max}
use Rattle.machine.specs.declared.event.Start.{Start}
use Rattle.machine.specs.declared.event.Start.TheVariants as start
use Rattle.machine.specs.declared.view.View.{View}
use Rattle.machine.specs.Ops.{noted}
use Rattle.machine.specs.Table.{Table, reads_word}
use Rattle.machine.specs.Steps.{answer_after, begun, made_after, phase_after, seen, taken_after}
use Rattle.call_laws.specs.Calls.{IsCallTable, IsOfKind, ReadsInOrder}
use Rattle.call_steps.specs.Rule.{HasRoom, MayDo, logged, may_make, value_of}

pub noted_value : (o : Op) (n : ℕ) → noted o n ≡ value_of (logged o n)
noted_value (Load i) n = refl
noted_value (Store i x) n = refl
noted_value (AddOne i) n = refl
noted_value (Max i x) n = refl

noted_again : (o : Op) (n : ℕ) → noted o (noted o n) ≡ noted o n
noted_again (Load i) n = refl
noted_again (Store i x) n = refl
noted_again (AddOne i) n = refl
noted_again (Max i x) n = refl

abbrev one_if : Bool → ℕ
one_if b = if b then 1 else 0

module _ {P : Type 0} (t : Table P) (table : IsCallTable t) (g : Grid) where
  -- what follows makes no more than was left to make
  room_after : (made : List Placed) (entry : List ℕ) (kind : Bool) (b : After P) → IsOfKind t kind b → length (made_after made entry b) + may_make t (phase_after b) ≤ length made + one_if kind
  room_after made entry kind (Next q) k = let e : one_if (t.is_put q) ≡ one_if kind = ap one_if k in omega arith
  room_after made entry kind (Done (answer.Put (put.Ok place))) k = let e : one_if kind ≡ 1 = ap one_if k in omega (arith, length-append made (placed place entry ∷ []))
  room_after made entry kind (Done (answer.Put a)) k = omega arith
  room_after made entry kind (Done (answer.Take a)) k = omega arith

  -- a step, and the beginning of a call, leave room for what the seat may still make
  pub room_seen : (v : View P) (p : P) (n : ℕ) → v.phase ≡ Some p → HasRoom t g v → HasRoom t g (seen t g v p n)
  room_seen v p n is room = let e = ap (may_make t) is in let r = room_after v.made v.entry (t.is_put p) (t.after g p n) (table.stays g p n) in omega arith

  pub room_begun : (v : View P) (ph : Option P) (s : Start) → v.phase ≡ ph → MayDo g v s → HasRoom t g v → HasRoom t g (begun t g v ph s)
  room_begun v (Some p) s is may room = room
  room_begun v None (start.Put entry) is may room = let m = may.1 in let e : one_if (t.is_put t.first_put) ≡ 1 = ap one_if table.begins_put in omega arith
  room_begun v None start.Take is may room = let e : one_if (t.is_put (t.first_take g v.taken)) ≡ 0 = ap one_if (table.begins_take g v.taken) in omega arith
  room_begun v None start.Go is may room = absurd may

  module _ (reads : ReadsInOrder t) (v : View P) (p : P) (n : ℕ) where
    abbrev found : ℕ
    found = noted (t.want g p v.entry) n

    reads_alike : (b : Bool) → reads_word (t.reading p) ≡ b → (if b then v.read ++ found ∷ [] else v.read) ≡ (if b then v.read ++ n ∷ [] else v.read)
    reads_alike true e = ap (λ (x : ℕ). v.read ++ x ∷ []) (reads.finds g p v.entry n e)
    reads_alike false e = refl

    noted_seen : seen t g v p found ≡ seen t g v p n
    noted_seen =
        let b = table.stores_blind g p v.entry n in
        let r = reads_alike (reads_word (t.reading p)) refl in
        let l = noted_again (t.want g p v.entry) n in
        λ i. record (seen t g v p n) {
          phase = phase_after (b i);
          made = made_after v.made v.entry (b i);
          taken = taken_after v.taken v.read (b i);
          read = r i;
          answer = answer_after v.answer (b i);
          trail = v.trail ++ l i ∷ [];
        }

    -- a step leaves the same by the value that its log has
    pub value_seen : seen t g v p (value_of (logged (t.want g p v.entry) n)) ≡ seen t g v p n
    value_seen = ap (seen t g v p) (sym (noted_value (t.want g p v.entry) n)) ∙ noted_seen

    pub value_after : t.after g p (value_of (logged (t.want g p v.entry) n)) ≡ t.after g p n
    value_after = ap (t.after g p) (sym (noted_value (t.want g p v.entry) n)) ∙ table.stores_blind g p v.entry n

    pub value_fits : t.FindsFit p n → t.FindsFit p (value_of (logged (t.want g p v.entry) n))
    value_fits fits = subst (t.FindsFit p) (noted_value (t.want g p v.entry) n) (table.stores_fit g p v.entry n fits)
