-- A put that is done alone: each of its steps, and what it answers.
use Rattle.std.proofs.Common.{◌≡◌, ℕ, ◌+◌, ◌-◌, ◌*◌, ◌%◌, ◌<◌, List, refl, sym, ap, ◌∙◌, subst, arith}
use Rattle.std.specs.Prelude.{slice_set, slice_index, if◌then◌else◌}
use Rattle.std.proofs.lemmas.List.{length-append}
use Rattle.rail.specs.declared.answer.Answer.TheVariants as answer
use Rattle.rail.specs.declared.answer.Put.TheVariants as put
use Rattle.cursor_word.specs.Shape.{Grid}
use Rattle.cursor_word.specs.Cursor.{unpacked}
use Rattle.cursor_word.specs.declared.cursor.Cursor.{Cursor}
use Rattle.machine.specs.declared.op.After.TheVariants.{Next, Done}
use Rattle.machine.specs.Ops.{noted}
use Rattle.machine.specs.Steps.{finds, words_after}
use Rattle.put_side.specs.declared.put_phase.PutPhase.{PutPhase}
use Rattle.put_side.specs.declared.put_phase.PutPhase.TheVariants.{OpenM}
use Rattle.put_side.specs.Cursors.{Front, consumed_word, place}
use Rattle.put_side.specs.PutSteps.{older_full}
use Rattle.put_side.specs.PutTable.{stage_in}
use Rattle.put_side.specs.Stages.{Fills}
use Rattle.put_side.proofs.AlonePuts.{accepted_of, put_goes_on}
use Rattle.put_side.proofs.Full.{all_allocated, is_full, not_full}
use Rattle.put_side.proofs.Loads as put_loads
use Rattle.put_side.proofs.Sums.{by_test_le}
use Rattle.sole_core.specs.declared.phase.SolePhase.{SolePhase}
use Rattle.sole_core.specs.declared.phase.SolePhase.TheVariants.{Put, SeeX}
use Rattle.sole_core.specs.Types.{View}
use Rattle.sole_core.specs.PutSteps.{want}
use Rattle.sole_core.specs.Table.{table}
use Rattle.sole_core.specs.Stage.{stage, stage_of}
use Rattle.sole_core.proofs.Outcomes.{full_last}
use Rattle.sole_core.proofs.Lone.{not_consumed, reused_taken}
use Rattle.sole_core.proofs.LoneSteps.{Follows, Goes, IsHere, come_to_rest, given_is, go_further, load_on, next_of, put_here}

module _ (g : Grid) (n t : ℕ) (front : Front) (next : ℕ) (ws : List ℕ) (vs : List View) (id : ℕ) (v : View) where
  abbrev Here : SolePhase → Type 0
  Here p = IsHere g n t front next ws vs id v p

  abbrev Leads : SolePhase → Type 0
  Leads p = Goes g n t ws vs id v p

  pub put_goes : (q : PutPhase) → Here (Put q) → Leads (Put q)
  put_goes q h =
      let p : SolePhase = Put q in
      let number : next ≡ t = given_is h in
      put_goes_on stage Put SeeX g n front ws vs id v q (Follows h (words_after table g ws v p) (noted (want g p v.entry) (finds table g ws v p)) v.read) (put_here h)
      (record {
        next = λ r knows k. go_further h _ k refl refl knows;
        fills = λ full knows k. go_further h _ k refl refl knows;
        ok = λ at current is k. (
          (is, λ full. not_full g n t front.last at h.limits (λ j from le. let r = reused_taken g front next ws vs h.limits h.sound j from le in omega arith) current is full),
          come_to_rest h 1 0 _ k refl (length-append v.made _) (omega arith),
        );
      })
      (next_of h)

  pub see_goes : (full : Cursor) → Here (SeeX full) → Leads (SeeX full)
  see_goes full h =
      let i : ℕ = 5 + 4 * ((full.block + 1) % g.blocks) in
      let w : ℕ = slice_index ws i in
      let f = put_loads.knows_at stage_of g front ws vs id v v h.sound.puts.places h.at (Fills full) (ap (stage_in stage) h.phase) in
      by_test_le (older_full g full.block) w (λ b. Follows h (slice_set ws i w) w v.read (if b then Next (Put (OpenM full)) else Done (answer.Put (put.Full full.block (unpacked w)))))
      (λ l q. load_on h _ _ q refl refl h.knows)
      (λ l q. let last = full_last g front next ws vs id v h.limits h.sound h.at full f l in
      let end : front.next ≡ place g (front.last + 1) 0 = all_allocated stage_of g h.limits front ws vs h.sound.puts.places full f last ∙ ap (λ (b : ℕ). place g (b + 1) 0) (sym last) in
      let less : consumed_word g ws (front.last + 1) < older_full g front.last = subst (λ (b : ℕ). consumed_word g ws (b + 1) < older_full g b) (sym last) l in
      let few = not_consumed g front next ws vs h.limits h.sound less in
      let number = accepted_of (put_here h) refl in
      let number' = given_is h in
      let m : ℕ = front.last + 1 - g.blocks in
      let few' : t < (m + 1 - g.blocks) * g.size = omega arith in
      let all : n ≡ m * g.size = omega arith in
      let from = h.sound.puts.places.words.from in
      let is_f = is_full g n t m h.limits (all, omega arith, few') in
      ((sym last ∙ omega (arith, is_f.0), is_f.1), come_to_rest h 0 0 _ q refl (omega arith) (omega arith)))
      (next_of h)
