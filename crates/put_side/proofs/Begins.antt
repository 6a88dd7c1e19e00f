-- A put that begins keeps the side of puts, and it holds at the start.
use Rattle.std.proofs.Common.{◌≡◌, ℕ, ◌+◌, ◌-◌, ◌*◌, ◌/◌, ◌%◌, ◌<◌, ◌≤◌, List, [], length, replicate, refl, sym, ap, ◌∙◌, subst, inl, ⊎_elim, arith}
use Rattle.std.specs.Prelude.{Some, slice_get, slice_set, slice_index}
use Rattle.std.specs.List.{range_with_len, sum_by}
use Rattle.std.proofs.lemmas.Bool.{cases_lt}
use Rattle.std.proofs.lemmas.Bool.Decides.{nat_tests}
use Rattle.std.proofs.lemmas.List.{length-map, length-replicate}
use Rattle.std.proofs.lemmas.List.Folds.{sum_by-replicate}
use Rattle.std.proofs.lemmas.List.FromFn.{get_or-map-range_with_len, length-range_with_len}
use Rattle.std.proofs.lemmas.Nat.{div-mul-add, mod_below}
use Rattle.std.proofs.Math.Nat.{mod_self, mod-eq_of_lt}
use Rattle.cursor_word.specs.Shape.{Grid, IsWithinLimits}
use Rattle.cursor_word.specs.Cursor.{cursor, offset_span}
use Rattle.cursor_word.specs.Layout.{start_at, start_cursor, word_count}
use Rattle.rail.specs.Items.{IsRising}
use Rattle.machine.specs.declared.view.View.{View}
use Rattle.machine.specs.Steps.{resting, start_words}
use Rattle.machine.proofs.Lists.{get_replicate}
use Rattle.put_side.specs.Cursors.{Front, allocated_word, place, put_cursors}
use Rattle.put_side.specs.Stages.{PutStage}
use Rattle.put_side.specs.declared.put_phase.PutPhase.TheVariants.{HeadP}
use Rattle.put_side.specs.Stages.{Away, At}
use Rattle.put_side.specs.Counts.{adds, adds_in, claim_count, claimed, claims, makes, one_below, times}
use Rattle.put_side.specs.Places.{PutFits, PutKnows, PutPlaces}
use Rattle.put_side.specs.Entries.{HasEntries, HoldsWords}
use Rattle.put_side.specs.PutSide.{PutSide}
use Rattle.put_side.specs.Manned.{IsManned}
use Rattle.put_side.proofs.Sums.{none_from, upto_none}
use Rattle.put_side.proofs.Frames.{claims_none, stays}
use Rattle.put_side.proofs.Entries.{entries_stay}

module _ {P : Type 0} (stage : View P → PutStage) (g : Grid) where
  -- a seat at rest begins a put of an entry that is as wide
  pub begins_put : (front : Front) (ws : List ℕ) (vs : List (View P)) (id : ℕ) (v v' : View P) → PutSide stage g front ws vs → slice_get vs id ≡ Some v → stage v ≡ Away
      → v'.made ≡ v.made → stage v' ≡ At (HeadP 1 (cursor 0 0)) → length v'.entry ≡ g.width → PutSide stage g front ws (slice_set vs id v')
  begins_put front ws vs id v v' side at e made stands wide = record {
    all = side.all;
    places = stays stage g front (put_cursors g ws) vs id v v' Away (At (HeadP 1 (cursor 0 0))) side.places at e made stands record { holds = refl; knows = inl refl; adds = λ k. inl refl };
    entries = entries_stay stage g (allocated_word g ws) (allocated_word g ws) ws ws (λ k. omega arith) (λ i h. refl) vs id v v' side.entries at made wide (subst (HoldsWords g ws v'.entry) (sym stands) tt);
  }

  -- a seat in no put begins another call
  pub begins_away : (front : Front) (ws : List ℕ) (vs : List (View P)) (id : ℕ) (v v' : View P) → PutSide stage g front ws vs → slice_get vs id ≡ Some v → stage v ≡ Away
      → v'.made ≡ v.made → stage v' ≡ Away → v'.entry ≡ v.entry → PutSide stage g front ws (slice_set vs id v')
  begins_away front ws vs id v v' side at e made stands entry = record {
    all = side.all;
    places = stays stage g front (put_cursors g ws) vs id v v' Away Away side.places at e made stands record { holds = refl; knows = tt; adds = λ k. inl refl };
    entries = entries_stay stage g (allocated_word g ws) (allocated_word g ws) ws ws (λ k. omega arith) (λ i h. refl) vs id v v' side.entries at made (ap (λ (l : List ℕ). length l) entry ∙ (side.entries id v at).wide)
        (subst (HoldsWords g ws v'.entry) (sym stands) tt);
  }

pub start_word_is : (g : Grid) (i : ℕ) → i < word_count g → slice_index (start_words g) i ≡ start_at g i
start_word_is g i h = get_or-map-range_with_len (start_at g) 0 (word_count g) i i 0 h (omega arith)

start_cursor_is : (g : Grid) (k r : ℕ) → r < 4 → k < g.blocks → start_at g (2 + r + 4 * k) ≡ start_cursor g k
start_cursor_is g k r h l =
    let d : (2 + r + 4 * k - 2) / 4 ≡ k = ap (λ (n : ℕ). n / 4) (omega arith) ∙ div-mul-add k 4 r h in
    let t : start_at g (2 + r + 4 * k) ≡ start_cursor g ((2 + r + 4 * k - 2) / 4) = grind (arith, nat_tests) in
    t ∙ ap (start_cursor g) d

-- a cursor's word at the start, of a block among those up to the first
pub record IsStart (g : Grid) (k w : ℕ) : Type 0 where
  pub block : w / offset_span ≡ k
  pub first : k ≡ g.blocks → w % offset_span ≡ 0
  pub older : k < g.blocks → w % offset_span ≡ g.size

start_cursor_at : (g : Grid) (k : ℕ) → IsWithinLimits g → k ≤ g.blocks → g.blocks < k + g.blocks → IsStart g k (start_cursor g (k % g.blocks))
start_cursor_at g k l to near =
    let b = l.size_to in
    ⊎_elim
    (λ n. let m : k % g.blocks ≡ k = mod-eq_of_lt n in let c : start_cursor g k ≡ k * offset_span + g.size = grind (arith, nat_tests) in let w = ap (start_cursor g) m in
    record { block = omega arith; first = λ z. absurd (omega arith); older = λ z. omega arith })
    (λ n. let e : k ≡ g.blocks = omega arith in let m : k % g.blocks ≡ 0 = ap (λ (z : ℕ). z % g.blocks) e ∙ mod_self g.blocks in let c : start_cursor g 0 ≡ g.blocks * offset_span + 0 = grind (arith, nat_tests) in let w = ap (start_cursor g) m in
    record { block = omega arith; first = λ z. omega arith; older = λ z. absurd (omega arith) })
    (cases_lt k g.blocks)

pub starts_at : (g : Grid) (r k : ℕ) → r < 4 → IsWithinLimits g → k ≤ g.blocks → g.blocks < k + g.blocks → IsStart g k (slice_index (start_words g) (2 + r + 4 * (k % g.blocks)))
starts_at g r k h l to near =
    let m = mod_below k g.blocks (omega (arith, l.blocks_from)) in
    subst (IsStart g k) (sym (start_word_is g (2 + r + 4 * (k % g.blocks)) (omega arith) ∙ start_cursor_is g (k % g.blocks) r h m)) (start_cursor_at g k l to near)

-- the front at the start: the first block is open and empty
abbrev pub start_front : Grid → Front
start_front g = record { last = g.blocks; next = 0 }

module _ {P : Type 0} (stage : View P → PutStage) (g : Grid) (l : IsWithinLimits g) (e : stage (resting P g) ≡ Away) where
  abbrev rests : List (View P)
  rests = replicate g.seats (resting P g)

  mine : claimed stage g (resting P g) ≡ []
  mine = claims_none stage g (resting P g) Away e refl

  pub start_places : PutPlaces stage g (start_front g) (put_cursors g (start_words g)) rests
  start_places =
      let ws : List ℕ = start_words g in
      let two = l.blocks_from in
      let pos : g.blocks < g.blocks + g.blocks = omega arith in
      let head : slice_index ws 0 ≡ g.blocks = start_word_is g 0 (omega arith) in
      let zero : place g g.blocks 0 ≡ 0 = let z : g.blocks - g.blocks ≡ 0 = omega arith in ap (λ (b : ℕ). b * g.size + 0) z ∙ omega arith in
      let sums : (f : View P → ℕ) → f (resting P g) ≡ 0 → sum_by f rests ≡ 0 = λ f h. sum_by-replicate f g.seats (resting P g) ∙ (let m = ap (λ (b : ℕ). g.seats * b) h in omega arith) in
      let none : (p : ℕ) → one_below p 0 ≡ 0 = λ p. none_from p 0 (omega arith) in
      let top = starts_at g 0 g.blocks (omega arith) l (omega arith) pos in
      record {
        few = let n = length-replicate g.seats (resting P g) in omega arith;
        words = record {
          from = omega arith;
          head_from = omega arith;
          head_to = omega arith;
          committed = λ k to near. (starts_at g 1 k (omega arith) l to near).block;
          full = λ k to near. let s = starts_at g 0 k (omega arith) l (omega arith) near in (s.block, let o = s.older to in omega arith);
          newest = inl record { block = top.block; at = let o = top.first refl in sym zero ∙ ap (place g g.blocks) (omega arith) };
        };
        counts = record {
          once = λ p. sums (claims stage g p) (ap (times p) mine) ∙ sym (none p);
          number = sums (claim_count stage g) (ap (λ (l : List ℕ). length l) mine);
          adds = λ k to near. let z = sums (adds stage g k) (ap (adds_in g (k % g.blocks)) e) in let s = starts_at g 0 k (omega arith) l to near in
              ⊎_elim (λ n. let o = s.older n in omega arith) (λ n. let o = s.first (omega arith) in omega arith) (cases_lt k g.blocks);
          made = λ k to near from. let s = starts_at g 1 k (omega arith) l to near in s.first (omega arith) ∙ sym (upto_none g.size _ (λ o. sums (makes (place g k o)) refl));
        };
        each = λ j u h. subst (PutFits stage g g.blocks (put_cursors g ws)) (get_replicate g.seats (resting P g) j u h)
            record { knows = subst (PutKnows g g.blocks (put_cursors g ws)) (sym e) tt; rising = subst IsRising (sym mine) tt };
      }

  pub start_side : PutSide stage g (start_front g) (start_words g) rests
  start_side = record {
    all = length-map (range_with_len 0 (word_count g)) (start_at g) ∙ length-range_with_len 0 (word_count g);
    places = start_places;
    entries = λ j u h. subst (HasEntries stage g (allocated_word g (start_words g)) (start_words g)) (get_replicate g.seats (resting P g) j u h)
        record { wide = length-replicate g.width 0; held_words = subst (HoldsWords g (start_words g) (replicate g.width 0)) (sym e) tt; made_wide = λ i item h. cc; made_words = λ i item h. cc };
  }

  pub start_manned : IsManned stage g (start_front g) (put_cursors g (start_words g)) rests
  start_manned =
      let two = l.blocks_from in
      record {
        allocated = inl (starts_at g 0 g.blocks (omega arith) l (omega arith) (omega arith)).block;
        producer = inl (start_word_is g 0 (omega arith));
        entered = inl (inl refl);
      }
