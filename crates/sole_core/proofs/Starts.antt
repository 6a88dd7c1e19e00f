-- Calls that begin keep the invariant, and it holds at the start.
use Rattle.std.proofs.Common.{◌≡◌, ℕ, ◌+◌, ◌-◌, ◌*◌, ◌%◌, ◌<◌, ◌≤◌, List, length, min, replicate, refl, sym, ap, ◌∙◌, subst, ⊎_elim, arith}
use Rattle.std.specs.Prelude.{Some, None, slice_get, slice_set}
use Rattle.std.proofs.lemmas.Bool.{cases_lt}
use Rattle.std.proofs.lemmas.List.{length-map}
use Rattle.std.proofs.lemmas.List.FromFn.{length-range_with_len}
use Rattle.std.proofs.lemmas.Nat.{mod_below}
use Rattle.std.proofs.Math.Nat.{mod-mod, mod_self, mod-eq_of_lt}
use Rattle.cursor_word.specs.Shape.{Grid, IsWithinLimits}
use Rattle.cursor_word.specs.Cursor.{cursor, cursor_of, offset_span, place_at, place_span}
use Rattle.cursor_word.specs.declared.cursor.Cursor.{Cursor}
use Rattle.cursor_word.proofs.Places.{cursor_of_place}
use Rattle.rail.specs.declared.entry.Placed.{Placed}
use Rattle.rail.specs.Items.{places}
use Rattle.rail.specs.Outcome.{numbers_below}
use Rattle.machine.specs.Steps.{IsWide, begun, resting, start_words}
use Rattle.machine.specs.declared.event.Start.{Start}
use Rattle.machine.specs.declared.event.Start.TheVariants as start
use Rattle.machine.proofs.Lists.{get_replicate, set_again}
use Rattle.put_side.specs.Cursors.{Front, consumed_word, put_cursors}
use Rattle.put_side.specs.Manned as put_work
use Rattle.put_side.specs.PutSide.{PutSide}
use Rattle.put_side.specs.Stages as stages
use Rattle.put_side.specs.PutTable.{stage_in}
use Rattle.put_side.proofs.Facts.{physical}
use Rattle.put_side.proofs.Begins.{begins_away, begins_put, start_front, start_manned, start_side, starts_at}
use Rattle.put_side.proofs.Made.{made_same}
use Rattle.put_side.proofs.Owns.{manned_own}
use Rattle.sole_core.specs.declared.phase.SolePhase.{SolePhase}
use Rattle.sole_core.specs.declared.phase.SolePhase.TheVariants.{Take}
use Rattle.sole_core.specs.declared.take_phase.SoleTake.{SoleTake}
use Rattle.sole_core.specs.Types.{View}
use Rattle.sole_core.specs.Table.{MayBegin, consumer, table}
use Rattle.sole_core.specs.Stage.{stage, stage_of}
use Rattle.sole_core.specs.Cursors.{TakeWords}
use Rattle.sole_core.specs.Sound.{IsSound, IsSoundAt, Knows, OnlyPuts, TakeFits, scene}
use Rattle.sole_core.proofs.Frames.{quiet}
use Rattle.put_side.proofs.TakeWords.{same_words}

-- the consumer has taken as many entries as there are places below the next one
pub taken_long : (taken : List Placed) (next : ℕ) → places taken ≡ numbers_below next → length taken ≡ next
taken_long taken next e = sym (length-map taken (λ (i : Placed). i.place)) ∙ ap (λ (l : List ℕ). length l) e ∙ length-range_with_len 0 next

module _ (g : Grid) (front : Front) (next : ℕ) (ws : List ℕ) (vs : List View) (id : ℕ) (v : View) (at : slice_get vs id ≡ Some v) (rests : v.phase ≡ None) where
  -- a seat at rest begins a call
  begins_call : (v' : View) → (s : IsSoundAt g front next ws vs) → v'.made ≡ v.made → v'.taken ≡ v.taken → PutSide stage_of g front ws (slice_set vs id v') → Knows g (scene g next ws (slice_set vs id v')) v'.read v'.phase
      → ((q : SoleTake) → v'.phase ≡ Some (Take q) → id ≡ consumer) → IsSoundAt g front next ws (slice_set vs id v')
  begins_call v' s made taken puts knows away =
      quiet g front front next ws ws vs id v v' s at record { consumed = λ k. omega arith; committed = λ k. omega arith; made = made_same vs id v v' at made } (λ k. refl) s.unmoved taken puts s.near knows away

  pub begins_put_at : (entry : List ℕ) → IsSoundAt g front next ws vs → length entry ≡ g.width → IsSoundAt g front next ws (slice_set vs id (begun table g v None (start.Put entry)))
  begins_put_at entry s wide =
      let v' : View = begun table g v None (start.Put entry) in
      begins_call v' s refl refl (begins_put stage_of g front ws vs id v v' s.puts at (ap (stage_in stage) rests) refl refl wide) tt (λ q h. cc)

  pub begins_take_at : IsSoundAt g front next ws vs → id ≡ consumer → IsSoundAt g front next ws (slice_set vs id (begun table g v None start.Take))
  begins_take_at s first =
      let v' : View = begun table g v None start.Take in
      let long = taken_long v.taken next (s.taken v (ap (λ (j : ℕ). slice_get vs j) (sym first) ∙ at)) in
      let e : min (length v.taken) (place_span g) ≡ next = let r = s.room in omega arith in
      begins_call v' s refl refl (begins_away stage_of g front ws vs id v v' s.puts at (ap (stage_in stage) rests) refl refl refl) (ap (cursor_of g) e, refl) (λ q h. first)

  -- who is at work stays
  pub begins_manned : (v' : View) → put_work.IsManned stage_of g front (put_cursors g ws) vs → put_work.IsManned stage_of g front (put_cursors g ws) (slice_set vs id v')
  begins_manned v' m = manned_own stage_of g front ws ws vs id v v' stages.Away stages.Away at (ap (stage_in stage) rests) (same_words g ws) record { allocated = refl; producer = refl; entered = refl } m

pub begins : (g : Grid) (ws : List ℕ) (vs : List View) (id : ℕ) (v : View) (b : Start) → IsWithinLimits g → IsSound g ws vs → slice_get vs id ≡ Some v → v.phase ≡ None → IsWide g b → MayBegin g id b → IsSound g ws (slice_set vs id (begun table g v None b))
begins g ws vs id v (start.Put entry) limits s at e wide may =
    record { front = s.front; next = s.next; sound = begins_put_at g s.front s.next ws vs id v at e entry s.sound wide; manned = begins_manned g s.front s.next ws vs id v at e (begun table g v None (start.Put entry)) s.manned }
begins g ws vs id v start.Take limits s at e wide may =
    record { front = s.front; next = s.next; sound = begins_take_at g s.front s.next ws vs id v at e s.sound may; manned = begins_manned g s.front s.next ws vs id v at e (begun table g v None start.Take) s.manned }
begins g ws vs id v start.Go limits s at e wide may = subst (IsSound g ws) (sym (set_again vs id v at)) s

module _ (g : Grid) (l : IsWithinLimits g) where
  abbrev words : List ℕ
  words = start_words g

  abbrev views : List View
  views = replicate g.seats (resting SolePhase g)

  first_cursor : cursor_of g 0 ≡ cursor g.blocks 0
  first_cursor =
      let z : g.blocks - g.blocks ≡ 0 = omega arith in
      let e : place_at g (cursor g.blocks 0) ≡ 0 = ap (λ (b : ℕ). b * g.size + 0) z ∙ omega arith in
      ap (cursor_of g) (sym e) ∙ cursor_of_place g (cursor g.blocks 0) (omega arith) (omega (arith, l.size_from))

  -- the consumed cursors at the start
  consumed_first : consumed_word g words g.blocks ≡ g.blocks * offset_span
  consumed_first = let x = starts_at g 3 g.blocks (omega arith) l (omega arith) (omega (arith, l.blocks_from)) in let y = x.first refl in omega (arith, x.block)

  consumed_zero : (k : ℕ) → k % g.blocks ≡ 0 → consumed_word g words k ≡ g.blocks * offset_span
  consumed_zero k e = physical g words 5 k g.blocks (e ∙ sym (mod_self g.blocks)) ∙ consumed_first

  consumed_later : (k : ℕ) → 1 ≤ k → k < g.blocks → consumed_word g words k ≡ k * offset_span + g.size
  consumed_later k from less = let x = starts_at g 3 k (omega arith) l (omega arith) (omega arith) in let y = x.older less in omega (arith, x.block)

  start_takes : TakeWords g 0 (consumed_word g words)
  start_takes =
      let c = first_cursor in
      let b = ap (λ (r : Cursor). r.block) c in
      let o = ap (λ (r : Cursor). r.offset) c in
      let small = l.size_to in
      let most : (k : ℕ) → consumed_word g words k ≤ g.blocks * offset_span = λ k.
      let r = mod_below k g.blocks (omega (arith, l.blocks_from)) in
      ⊎_elim (λ zero. let z = consumed_zero k (omega arith) in omega arith)
      (λ more. let z = physical g words 5 k (k % g.blocks) (sym (mod-mod k g.blocks)) in let y = consumed_later (k % g.blocks) more r in omega arith)
      (cases_lt (k % g.blocks) 1) in
      record {
        passed = λ k le. let m = most k in let s = l.size_from in omega arith;
        shown = λ k less. ⊎_elim
            (λ zero. let e : k % g.blocks ≡ 0 = mod-eq_of_lt (omega arith) ∙ omega arith in let z = consumed_zero k e in let f = l.blocks_from in omega arith)
            (λ more. let z = consumed_later k more (omega arith) in omega arith) (cases_lt k 1);
        most = λ k. let m = most k in omega arith;
      }

  pub starts : IsSound g words views
  starts =
      let b = ap (λ (r : Cursor). r.block) first_cursor in
      record {
        front = start_front g;
        next = 0;
        sound = record {
          puts = start_side stage_of g l refl;
          takes = start_takes;
          unmoved = record { head = refl; reserved = λ k. refl };
          near = let two = l.blocks_from in omega arith;
          room = omega arith;
          made = λ p less. absurd (omega arith);
          each = λ j u h. subst (TakeFits g (scene g 0 words views)) (get_replicate g.seats (resting SolePhase g) j u h) record { knows = tt; items = λ i item q. cc };
          taken = λ u h. ap (λ (x : View). places x.taken) (sym (get_replicate g.seats (resting SolePhase g) consumer u h));
          others = λ j u n h. subst OnlyPuts (get_replicate g.seats (resting SolePhase g) j u h) record { none = refl; away = λ q e. cc };
        };
        manned = start_manned stage_of g l refl;
      }
