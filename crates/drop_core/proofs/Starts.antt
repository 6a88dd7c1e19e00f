-- The invariant holds at the start, and a call that begins keeps it.
use Rattle.std.proofs.Common.{◌≡◌, ℕ, ◌+◌, ◌*◌, ◌%◌, ◌≤◌, List, [], replicate, refl, sym, ap, ◌∙◌, subst, inl, ⊎_elim, arith}
use Rattle.std.specs.Prelude.{Some, None, slice_get, slice_set, slice_index}
use Rattle.std.specs.List.{sum_by}
use Rattle.std.proofs.lemmas.Bool.{cases_eq, cases_lt}
use Rattle.std.proofs.lemmas.List.Folds.{sum_by-replicate}
use Rattle.std.proofs.lemmas.Nat.{mod_below}
use Rattle.std.proofs.Math.Nat.{mod_self, mod-mod}
use Rattle.cursor_word.specs.Shape.{Grid, IsWithinLimits}
use Rattle.machine.specs.declared.event.Start.{Start}
use Rattle.machine.specs.declared.event.Start.TheVariants as start
use Rattle.machine.specs.Steps.{IsWide, begun, resting, start_words}
use Rattle.machine.proofs.Lists.{get_replicate, set_again}
use Rattle.put_side.specs.Cursors.{Front, place, put_cursors, reserved_word}
use Rattle.put_side.specs.Stages as place
use Rattle.put_side.specs.PutTable.{stage_in, stage_of}
use Rattle.put_side.proofs.Begins.{IsStart, begins_away, begins_put, start_front, start_manned, start_side, start_word_is, starts_at}
use Rattle.put_side.proofs.Frames.{grown_same}
use Rattle.put_side.proofs.Attends.{idle_manned}
use Rattle.drop_core.specs.declared.phase.DropPhase.{DropPhase}
use Rattle.drop_core.specs.declared.phase.DropPhase.TheVariants.{Take}
use Rattle.drop_core.specs.declared.take_phase.DropTake.{DropTake}
use Rattle.drop_core.specs.Types.{View}
use Rattle.drop_core.specs.Steps.{table}
use Rattle.drop_core.specs.Stage.{stage}
use Rattle.drop_core.specs.Words.{cursors}
use Rattle.drop_core.specs.Counts.{fetches, raises_consumer, reading}
use Rattle.drop_core.specs.Sound.{IsSound, IsSoundAt, TakeFits}
use Rattle.drop_core.proofs.Frames.{fetched_reading, quiet}
use Rattle.put_side.proofs.Made.{made_same}

module _ (g : Grid) (f : Front) (ws : List ℕ) (vs : List View) (s : IsSoundAt g f ws vs) (id : ℕ) (v : View) (at : slice_get vs id ≡ Some v) (e : v.phase ≡ None) where
  no_put_begins : (entry : List ℕ) (q : DropTake) → (begun table g v None (start.Put entry)).phase ≡ Some (Take q) → ⊥
  no_put_begins entry q z = cc

  -- a seat at rest begins a call
  pub begins_at : (b : Start) → IsWide g b → IsSoundAt g f ws (slice_set vs id (begun table g v None b))
  begins_at (start.Put entry) wide =
      let v' : View = begun table g v None (start.Put entry) in
      let none : reading g v.phase ≡ [] = ap (reading g) e in
      quiet g f f ws ws vs id v v' s at
      record { last_to = omega arith; consumer = refl; puts = grown_same (put_cursors g ws); reserved = λ k. refl; fetched = fetched_reading g v' [] refl ∙ sym (fetched_reading g v [] none); unraised = λ b. ap (raises_consumer b) e }
      refl (made_same vs id v v' at refl)
      (begins_put (stage_of stage) g f ws vs id v v' s.puts at (ap (stage_in stage) e) refl refl wide)
      (idle_manned (stage_of stage) g f (put_cursors g ws) (put_cursors g ws) vs id v v' place.Away at (ap (stage_in stage) e) record { allocated = refl; producer = refl; entered = refl } refl refl s.manned)
      tt (λ q z n. absurd (no_put_begins entry q z))
  begins_at start.Take wide =
      let v' : View = begun table g v None start.Take in
      let none : reading g v.phase ≡ [] = ap (reading g) e in
      quiet g f f ws ws vs id v v' s at
      record { last_to = omega arith; consumer = refl; puts = grown_same (put_cursors g ws); reserved = λ k. refl; fetched = fetched_reading g v' [] refl ∙ sym (fetched_reading g v [] none); unraised = λ b. ap (raises_consumer b) e }
      refl (made_same vs id v v' at refl)
      (begins_away (stage_of stage) g f ws vs id v v' s.puts at (ap (stage_in stage) e) refl refl refl)
      (idle_manned (stage_of stage) g f (put_cursors g ws) (put_cursors g ws) vs id v v' place.Away at (ap (stage_in stage) e) record { allocated = refl; producer = refl; entered = refl } refl refl s.manned)
      (inl refl) (λ q z n. refl)
  begins_at start.Go wide = subst (IsSoundAt g f ws) (sym (set_again vs id v at)) s

-- the block of the first window that has the physical block of k
first_of_window : (g : Grid) (k : ℕ) → IsWithinLimits g → (j : ℕ) × (j % g.blocks ≡ k % g.blocks) × (j ≤ g.blocks) × (1 ≤ j)
first_of_window g k limits =
    let m = mod_below k g.blocks (omega (arith, limits.blocks_from)) in
    ⊎_elim (λ z. (g.blocks, mod_self g.blocks ∙ sym z, omega arith, omega (arith, limits.blocks_from))) (λ n. (k % g.blocks, mod-mod k g.blocks, omega arith, ⊎_elim (λ l. absurd (n (omega arith))) (λ l. l) (cases_lt (k % g.blocks) 1))) (cases_eq (k % g.blocks) 0)

pub starts : (g : Grid) → IsWithinLimits g → IsSound g (start_words g) (replicate g.seats (resting DropPhase g))
starts g limits =
    let ws : List ℕ = start_words g in
    let vs : List View = replicate g.seats (resting DropPhase g) in
    let two = limits.blocks_from in
    let sums : (p : ℕ) → sum_by (fetches g p) vs ≡ 0 = λ p. let z = sum_by-replicate (fetches g p) g.seats (resting DropPhase g) in let o : fetches g p (resting DropPhase g) ≡ 0 = refl in let m = ap (λ (n : ℕ). g.seats * n) o in omega arith in
    let head : slice_index ws 1 ≡ g.blocks = start_word_is g 1 (omega arith) in
    let word : (k : ℕ) → (j : ℕ) × (j % g.blocks ≡ k % g.blocks) × (j ≤ g.blocks) × IsStart g j (reserved_word g ws k) = λ k.
    let j = first_of_window g k limits in
    let is = starts_at g 2 j.0 (omega arith) limits j.2 (omega (arith, j.3)) in
    (j.0, j.1, j.2, subst (λ (r : ℕ). IsStart g j.0 (slice_index ws (4 + 4 * r))) j.1 is) in
    record {
      front = start_front g;
      at = record {
        puts = start_side (stage_of stage) g limits refl;
        before = λ k l near. let z = starts_at g 1 k (omega arith) limits (omega arith) (omega arith) in omega (arith, z.older l);
        manned = start_manned (stage_of stage) g limits refl;
        takes = record {
          same = λ k. let j = word k in let i = j.3 in ap (λ (b : ℕ). b % g.blocks) i.block ∙ j.1;
          to = λ k. let j = word k in let i = j.3 in omega (arith, i.block, j.2);
          most = λ k. let j = word k in let i = j.3 in ⊎_elim (λ l. omega (arith, i.older l)) (λ l. omega (arith, i.first (omega (arith, j.2)))) (cases_lt j.0 g.blocks);
          made = λ k o from in_block gone here. let j = word k in let i = j.3 in let z = i.first (omega (arith, i.block, j.2)) in absurd (omega arith);
          passed = λ k b l. let j = word k in let i = j.3 in inl (omega (arith, i.block, j.2));
          head_from = omega arith;
          head = let z = starts_at g 2 g.blocks (omega arith) limits (omega arith) (omega arith) in let b = z.block in let r : reserved_word g ws (slice_index ws 1) ≡ reserved_word g ws g.blocks = ap (reserved_word g ws) head in omega arith;
        };
        counts = record {
          once = λ p. let z = sums p in omega arith;
          gone = λ k o from in_block h. absurd (let z = sums (place g k o) in omega arith);
          kept = λ k o from near in_block gone. let j = word k in let i = j.3 in
              absurd (⊎_elim (λ l. omega (arith, i.block)) (λ l. let z = i.first (omega (arith, j.2)) in omega (arith, i.block)) (cases_lt j.0 g.blocks));
        };
        attended = λ k. let j = word k in let i = j.3 in inl (omega (arith, i.block, j.2));
        each = λ n u h. subst (TakeFits g g.blocks (cursors g ws) vs) (get_replicate g.seats (resting DropPhase g) n u h)
            record { knows = tt; rising = tt; items = λ i item z. cc; to_head = λ q l. refl; unread = λ q z m. refl };
      };
    }
