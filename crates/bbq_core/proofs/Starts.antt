-- Calls that begin keep the invariant, and it holds at the start.
use Rattle.std.proofs.Common.{◌≡◌, ℕ, ◌+◌, ◌-◌, ◌*◌, List, [], ◌++◌, length, replicate, refl, sym, ap, ◌∙◌, subst, inl, ⊎_elim, arith}
use Rattle.std.specs.Prelude.{Some, None, slice_get, slice_set, slice_index}
use Rattle.std.specs.List.{sum_by}
use Rattle.std.proofs.lemmas.Bool.{cases_lt}
use Rattle.std.proofs.lemmas.List.Folds.{sum_by-replicate}
use Rattle.std.proofs.Math.Nat.{mod_self, mod-eq_of_lt}
use Rattle.cursor_word.specs.Shape.{Grid, IsWithinLimits}
use Rattle.rail.specs.declared.entry.Placed.{Placed}
use Rattle.rail.specs.Items.{places}
use Rattle.machine.specs.Steps.{IsWide, begun, resting, start_words}
use Rattle.machine.specs.declared.event.Start.{Start}
use Rattle.machine.specs.declared.event.Start.TheVariants as start
use Rattle.machine.proofs.Lists.{get_replicate, set_again}
use Rattle.put_side.specs.Cursors.{Front, consumed_word, place}
use Rattle.put_side.specs.Counts.{one_below, takes}
use Rattle.put_side.specs.PutSide.{PutSide}
use Rattle.put_side.specs.Stages.{Away}
use Rattle.put_side.specs.PutTable.{stage_in}
use Rattle.put_side.proofs.Sums.{none_from, upto_none}
use Rattle.put_side.proofs.Begins.{begins_away, begins_put, start_front, start_manned, start_side, start_word_is, starts_at}
use Rattle.put_side.proofs.Made.{made_same}
use Rattle.put_side.proofs.Owns.{manned_own}
use Rattle.bbq_core.specs.declared.phase.Phase.{Phase}
use Rattle.bbq_core.specs.declared.phase.Phase.TheVariants.{Take}
use Rattle.bbq_core.specs.declared.take_phase.TakePhase.{TakePhase}
use Rattle.bbq_core.specs.Types.{View}
use Rattle.bbq_core.specs.Table.{MayBegin, table}
use Rattle.bbq_core.specs.Stage.{stage, stage_of}
use Rattle.bbq_core.specs.Cursors.{TakeWords, take_cursors}
use Rattle.bbq_core.specs.Counts.{TakeCounts, fetch_count, fetches, reading, reading_in}
use Rattle.bbq_core.specs.Sound.{IsManned, IsSound, IsSoundAt, Knows, TakeFits, opens_reserved, raises_consumer, scene}
use Rattle.bbq_core.proofs.Frames.{quiet}
use Rattle.bbq_core.proofs.Attends.{both_parts, stays_take, take_part}
use Rattle.put_side.proofs.TakeWords.{same_words}

module _ (g : Grid) (front back : Front) (ws : List ℕ) (vs : List View) (id : ℕ) (v : View) (at : slice_get vs id ≡ Some v) (rests : v.phase ≡ None) where
  -- a seat at rest begins a call
  begins_call : (v' : View) → (s : IsSoundAt g front back ws vs) → v'.made ≡ v.made → v'.taken ≡ v.taken → reading g v'.phase ≡ [] → PutSide stage_of g front ws (slice_set vs id v') → Knows g (scene g back ws (slice_set vs id v')) v'.made v'.read v'.phase
      → ((q : TakePhase) → v'.phase ≡ Some (Take q) → reading_in g q ≡ [] → v'.read ≡ []) → IsSoundAt g front back ws (slice_set vs id v')
  begins_call v' s made taken reads puts knows unread =
      quiet g front front back ws ws vs id v v' s at
      record { passed = refl; consumer = omega arith; reserved = λ k. omega arith; consumed = λ k. omega arith; committed = λ k. omega arith; made = made_same vs id v v' at made } (λ k. refl)
      (ap (λ (l : List Placed). places l ++ reading g v'.phase) taken ∙ ap (λ (l : List ℕ). places v.taken ++ l) (reads ∙ sym (ap (reading g) rests))) taken puts s.takes knows unread

  pub begins_put_at : (entry : List ℕ) → IsSoundAt g front back ws vs → length entry ≡ g.width → IsSoundAt g front back ws (slice_set vs id (begun table g v None (start.Put entry)))
  begins_put_at entry s wide =
      let v' : View = begun table g v None (start.Put entry) in
      begins_call v' s refl refl refl (begins_put stage_of g front ws vs id v v' s.puts at (ap (stage_in stage) rests) refl refl wide) tt (λ q h n. cc)

  pub begins_take_at : IsSoundAt g front back ws vs → IsSoundAt g front back ws (slice_set vs id (begun table g v None start.Take))
  begins_take_at s =
      let v' : View = begun table g v None start.Take in
      begins_call v' s refl refl refl (begins_away stage_of g front ws vs id v v' s.puts at (ap (stage_in stage) rests) refl refl refl) (inl refl) (λ q h n. refl)

  -- who is at work stays
  pub begins_manned : IsWithinLimits g → (v' : View) → IsSoundAt g front back ws vs → IsManned g front back ws vs → IsManned g front back ws (slice_set vs id v')
  begins_manned limits v' s m =
      let o : opens_reserved back.last v.phase ≡ 0 = ap (opens_reserved back.last) rests in
      let r : raises_consumer back.last v.phase ≡ 0 = ap (raises_consumer back.last) rests in
      both_parts g front back ws (slice_set vs id v')
      (manned_own stage_of g front ws ws vs id v v' Away Away at (ap (stage_in stage) rests) (same_words g ws) record { allocated = refl; producer = refl; entered = refl } m.puts)
      (stays_take g limits front.last back (take_cursors g ws) (take_cursors g ws) vs id v v' at s.takes (take_part g front back ws vs m) (omega arith) (λ k. omega arith) (λ k. omega arith) (inl (omega arith)) (inl (omega arith)))

pub begins : (g : Grid) (ws : List ℕ) (vs : List View) (id : ℕ) (v : View) (b : Start) → IsWithinLimits g → IsSound g ws vs → slice_get vs id ≡ Some v → v.phase ≡ None → IsWide g b → MayBegin g id b → IsSound g ws (slice_set vs id (begun table g v None b))
begins g ws vs id v (start.Put entry) limits s at e wide may =
    record { front = s.front; back = s.back; sound = begins_put_at g s.front s.back ws vs id v at e entry s.sound wide; manned = begins_manned g s.front s.back ws vs id v at e limits (begun table g v None (start.Put entry)) s.sound s.manned }
begins g ws vs id v start.Take limits s at e wide may =
    record { front = s.front; back = s.back; sound = begins_take_at g s.front s.back ws vs id v at e s.sound; manned = begins_manned g s.front s.back ws vs id v at e limits (begun table g v None start.Take) s.sound s.manned }
begins g ws vs id v start.Go limits s at e wide may = subst (IsSound g ws) (sym (set_again vs id v at)) s

module _ (g : Grid) (l : IsWithinLimits g) where
  abbrev words : List ℕ
  words = start_words g

  abbrev views : List View
  views = replicate g.seats (resting Phase g)

  sums : (f : View → ℕ) → f (resting Phase g) ≡ 0 → sum_by f views ≡ 0
  sums f h = sum_by-replicate f g.seats (resting Phase g) ∙ (let m = ap (λ (b : ℕ). g.seats * b) h in omega arith)

  -- the words that takes move
  start_takes : TakeWords g g.blocks (start_front g) (take_cursors g words)
  start_takes =
      let two = l.blocks_from in
      let tail : slice_index words 1 ≡ g.blocks = start_word_is g 1 (omega arith) in
      let zero : place g g.blocks 0 ≡ 0 = let z : g.blocks - g.blocks ≡ 0 = omega arith in ap (λ (b : ℕ). b * g.size + 0) z ∙ omega arith in
      let top = starts_at g 2 g.blocks (omega arith) l (omega arith) (omega arith) in
      record {
        from = omega arith;
        behind = omega arith;
        near = omega arith;
        head_from = omega arith;
        head_to = omega arith;
        consumed = λ k to near. let s = starts_at g 3 k (omega arith) l to near in (s.block, ⊎_elim (λ n. let o = s.older n in omega arith) (λ n. let o = s.first (omega arith) in omega arith) (cases_lt k g.blocks));
        reused = λ k to near old. absurd (omega arith);
        passed = λ k to near. let s = starts_at g 2 k (omega arith) l (omega arith) near in (s.block, s.older to);
        newest = inl (let o = top.first refl in record { block = top.block; within = omega arith; at = sym zero ∙ ap (place g g.blocks) (sym o) });
      }

  start_counts : TakeCounts g (start_front g) (take_cursors g words) views
  start_counts =
      let none : (p : ℕ) → one_below p 0 ≡ 0 = λ p. none_from p 0 (omega arith) in
      record {
        read_once = λ p. sums (fetches g p) refl ∙ sym (none p);
        read_number = sums (fetch_count g) refl;
        taken = λ k to near from. let s = starts_at g 3 k (omega arith) l to near in s.first (omega arith) ∙ sym (upto_none g.size _ (λ o. sums (takes (place g k o)) refl));
        taken_made = λ p. let z = sums (takes p) refl in omega arith;
      }

  pub starts : IsSound g words views
  starts =
      let two = l.blocks_from in
      record {
        front = start_front g;
        back = start_front g;
        sound = record {
          puts = start_side stage_of g l refl;
          takes = start_takes;
          counts = start_counts;
          each = λ j u h. subst (TakeFits g (scene g (start_front g) words views)) (get_replicate g.seats (resting Phase g) j u h) record { knows = tt; rising = tt; items = λ i item q. cc; unread = λ q e n. cc };
        };
        manned = record {
          puts = start_manned stage_of g l refl;
          reserved = inl (starts_at g 2 g.blocks (omega arith) l (omega arith) (omega arith)).block;
          consumer = inl (start_word_is g 1 (omega arith));
          before = λ b less. ⊎_elim
              (λ first. let x = starts_at g 3 g.blocks (omega arith) l (omega arith) (omega arith) in
              let e : consumed_word g words b ≡ consumed_word g words g.blocks = let z : b ≡ 0 = omega arith in ap (λ (r : ℕ). slice_index words (5 + 4 * r)) (mod-eq_of_lt less ∙ z ∙ sym (mod_self g.blocks)) in omega (arith, x.block, l.size_to))
              (λ later. let x = starts_at g 3 b (omega arith) l (omega arith) (omega arith) in let y = x.older less in omega (arith, x.block))
              (cases_lt b 1);
        };
      }
