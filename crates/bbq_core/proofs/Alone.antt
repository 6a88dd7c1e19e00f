-- A put that is done alone: each of its steps, and what it answers.
use Rattle.std.proofs.Common.{◌≡◌, ℕ, ◌+◌, ◌-◌, ◌*◌, ◌%◌, ◌<◌, List, Bool, true, refl, sym, ap, ◌∙◌, subst, arith}
use Rattle.std.specs.Prelude.{Some, slice_set, slice_index, if◌then◌else◌, ◌==◌, ◌&&◌}
use Rattle.std.proofs.lemmas.List.{length-append}
use Rattle.std.proofs.lemmas.Bool.Decides.{nat_tests}
use Rattle.cursor_word.specs.Shape.{Grid}
use Rattle.cursor_word.specs.Cursor.{packed, unpacked}
use Rattle.cursor_word.specs.declared.cursor.Cursor.{Cursor}
use Rattle.machine.specs.declared.op.After.TheVariants.{Next}
use Rattle.machine.specs.Ops.{noted}
use Rattle.machine.specs.Steps.{finds, words_after}
use Rattle.put_side.specs.declared.put_phase.PutPhase.{PutPhase}
use Rattle.put_side.specs.declared.put_phase.PutPhase.TheVariants.{OpenM}
use Rattle.put_side.specs.Cursors.{Front, consumed_word, place}
use Rattle.put_side.specs.PutSteps.{older_full}
use Rattle.put_side.specs.Stages.{At, Fills}
use Rattle.put_side.proofs.AlonePuts.{accepted_of, head_of, put_goes_on}
use Rattle.put_side.proofs.Facts.{repacked}
use Rattle.put_side.proofs.Full.{all_allocated, is_full, not_full}
use Rattle.put_side.proofs.Loads.{knows_at}
use Rattle.put_side.proofs.Sums.{by_test_le}
use Rattle.bbq_core.specs.declared.phase.Phase.{Phase}
use Rattle.bbq_core.specs.declared.phase.Phase.TheVariants.{Put, SeeX, SeeR}
use Rattle.bbq_core.specs.Types.{After, View}
use Rattle.bbq_core.specs.PutSteps.{want}
use Rattle.bbq_core.specs.Table.{table}
use Rattle.bbq_core.specs.Stage.{stage, stage_of}
use Rattle.bbq_core.specs.Sound.{Knows, scene}
use Rattle.bbq_core.proofs.Lone.{consumed_is, not_consumed, reused_reserved}
use Rattle.bbq_core.proofs.LoneSteps.{Follows, Goes, IsHere, back_is, come_to_rest, given_is, go_on, load_on, next_of, put_here, taken_once}

-- a test of two cursors that are one
both_same : (p q : ℕ) → ((p == p) && (q == q)) ≡ true
both_same p q = grind (arith, nat_tests)

pick_alike : (P : After → Type 0) (x f : Cursor) (y z : After) → x ≡ f → P y → P (if (x.block == f.block) && (x.offset == f.offset) then y else z)
pick_alike P x f y z e hit = subst (λ (c : Cursor). P (if (x.block == c.block) && (x.offset == c.offset) then y else z)) e (subst (λ (b : Bool). P (if b then y else z)) (sym (both_same x.block x.offset)) hit)

module _ (g : Grid) (n t : ℕ) (front back : Front) (ws : List ℕ) (vs : List View) (id : ℕ) (v : View) where
  abbrev Here : Phase → Type 0
  Here p = IsHere g n t front back ws vs id v p

  abbrev Leads : Phase → Type 0
  Leads p = Goes g n t ws vs id v p

  -- a shared step
  pub lone_Put : (q : PutPhase) → Here (Put q) → Leads (Put q)
  lone_Put q h =
      let found : ℕ = finds table g ws v (Put q) in
      let number : back.next ≡ t = given_is h ∙ omega arith in
      put_goes_on stage Put SeeX g n front ws vs id v q (Follows h (words_after table g ws v (Put q)) (noted (want g (Put q) v.entry) found) v.read) (put_here h (At q) refl h.knows)
      record {
        next = λ p knows k. go_on h _ tt k refl refl knows;
        fills = λ full knows k. go_on h _ tt k refl refl knows;
        ok = λ at current is k. (
          (is, not_full g n t front.last at h.limits (λ b from le. let r = reused_reserved g front back ws vs b h.limits h.sound from le in omega arith) current is),
          come_to_rest h 1 0 _ k refl (length-append v.made _) (omega arith),
        );
      }
      (next_of h)

  pub lone_SeeX : (full : Cursor) → Here (SeeX full) → Leads (SeeX full)
  lone_SeeX full h =
      let i : ℕ = 5 + 4 * ((full.block + 1) % g.blocks) in
      let w : ℕ = slice_index ws i in
      by_test_le (older_full g full.block) w (λ b. Follows h (slice_set ws i w) w v.read (if b then Next (Put (OpenM full)) else Next (SeeR full (unpacked w))))
      (λ l q. load_on h _ _ tt q refl refl h.knows)
      (λ l q. load_on h _ _ tt q refl refl (h.knows, refl))
      (next_of h)

  -- the answer that the queue is full
  pub lone_SeeR : (full x : Cursor) → Here (SeeR full x) → Leads (SeeR full x)
  lone_SeeR full x h =
      let i : ℕ = 4 + 4 * ((full.block + 1) % g.blocks) in
      let w : ℕ = slice_index ws i in
      let side = put_here h (Fills full) refl h.knows.0 in
      let places = h.sound.puts.places in
      let f = knows_at stage_of g front ws vs id v v places h.at (Fills full) side.stands in
      let seen : Knows g (scene g back ws vs) v.made v.read (Some (SeeR full x)) = subst (Knows g (scene g back ws vs) v.made v.read) h.phase (h.sound.each id v h.at).knows in
      let last : full.block ≡ front.last = h.knows.0 ∙ head_of side refl in
      let taken = taken_once h refl in
      let same = consumed_is g front back ws vs h.limits h.sound h.manned (back_is h refl) taken (full.block + 1) in
      let is : x ≡ unpacked w = h.knows.1 ∙ ap unpacked same in
      let word : packed x ≡ consumed_word g ws (full.block + 1) = ap packed h.knows.1 ∙ repacked (consumed_word g ws (full.block + 1)) in
      let less : consumed_word g ws (front.last + 1) < older_full g front.last = subst (λ (b : ℕ). consumed_word g ws (b + 1) < older_full g b) last (omega (arith, seen.0)) in
      let end : front.next ≡ place g (front.last + 1) 0 = all_allocated stage_of g h.limits front ws vs places full f (sym last) ∙ ap (λ (b : ℕ). place g (b + 1) 0) last in
      let few = not_consumed g front back ws vs h.limits h.sound h.manned taken less in
      let number = accepted_of side refl in
      let number' = given_is h in
      let m : ℕ = front.last + 1 - g.blocks in
      let few' : t < (m + 1 - g.blocks) * g.size = omega arith in
      let all : n ≡ m * g.size = omega arith in
      let from = places.words.from in
      let is_f = is_full g n t m h.limits (all, omega arith, few') in
      pick_alike (Follows h (slice_set ws i w) w v.read) x (unpacked w) _ _ is
      (λ q. ((last ∙ omega (arith, is_f.0), is_f.1), come_to_rest h 0 0 _ q refl (omega arith) (omega arith)))
      (next_of h)
