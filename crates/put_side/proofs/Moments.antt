-- What the side of puts tells at one moment.
use Rattle.std.proofs.Common.{◌≡◌, ℕ, ◌+◌, ◌/◌, ◌<◌, ◌≤◌, List, length, ap, subst, sym, ⊎_elim, arith}
use Rattle.std.specs.Prelude.{slice_index}
use Rattle.std.specs.List.{sum_by}
use Rattle.std.proofs.lemmas.Bool.{cases_lt}
use Rattle.std.proofs.lemmas.List.Sums.{sum_by-le-sum_by}
use Rattle.cursor_word.specs.Shape.{Grid, IsWithinLimits}
use Rattle.cursor_word.specs.Cursor.{cursor_of, most_block, offset_span, place_at}
use Rattle.cursor_word.specs.declared.cursor.Cursor.{Cursor}
use Rattle.cursor_word.proofs.Places.{cursor_of_place}
use Rattle.rail.specs.Items.{placed}
use Rattle.machine.specs.declared.view.View.{View}
use Rattle.put_side.specs.Counts.{claims, makes, one_below}
use Rattle.put_side.specs.Cursors.{Front, allocated_word, reserved_word}
use Rattle.put_side.specs.Entries.{HasWords, IsMade, IsPresent}
use Rattle.put_side.specs.Laws.{MadeRises, PlacesAreDense, WordsAreSmall}
use Rattle.put_side.specs.PutSide.{PutSide}
use Rattle.put_side.specs.PutTable.{stage_of}
use Rattle.put_side.specs.Stages.{PutStage, held}
use Rattle.put_side.proofs.Draws.{offset_small}
use Rattle.put_side.proofs.Facts.{allocated_below, committed_below, physical}
use Rattle.put_side.proofs.Frames.{makes_le}
use Rattle.put_side.proofs.Sums.{rising_front}

module _ {P : Type 0} (stage : P → PutStage) (g : Grid) (front : Front) (ws : List ℕ) (vs : List (View P)) (side : PutSide (stage_of stage) g front ws vs) where
  pub places_dense : PlacesAreDense stage g vs
  places_dense = record { count = front.next; once = side.places.counts.once }

  pub made_rises : MadeRises vs
  made_rises id v at = rising_front _ (held g (stage_of stage v)) (side.places.each id v at).rising

  -- each place is made at most once, and only if it is allocated
  pub made_within : (q : ℕ) → sum_by (makes q) vs ≤ one_below q front.next
  made_within q = let m = sum_by-le-sum_by (makes q) (claims (stage_of stage) g q) vs (makes_le (stage_of stage) g q) in let o = side.places.counts.once q in omega arith

  -- the words of the item that was made at a cursor
  pub made_words_at : (at : Cursor) (words : List ℕ) → g.blocks ≤ at.block → at.offset < g.size → IsMade vs (placed (place_at g at) words) → (IsPresent (allocated_word g ws) at.block → HasWords g ws at words g.width) × (length words ≡ g.width)
  made_words_at at words from within m =
      let u = side.entries m.seat m.view m.at in
      let is : cursor_of g (place_at g at) ≡ at = cursor_of_place g at from within in (
        λ here. subst (λ (c : Cursor). HasWords g ws c words g.width) is (u.made_words m.number _ m.there (subst (λ (c : Cursor). IsPresent (allocated_word g ws) c.block) (sym is) here)),
        u.made_wide m.number _ m.there,
      )

  -- a block that is not reused has not made way
  pub still_present : IsWithinLimits g → (k : ℕ) → k ≤ front.last → front.last < k + g.blocks → IsPresent (allocated_word g ws) k
  still_present limits k to near =
      let w = side.places.words in
      ⊎_elim (λ l. let f = w.full k l near in omega (arith, f.0))
      (λ l. let e : k ≡ front.last = omega arith in let z = ap (allocated_word g ws) e in ⊎_elim (λ q. omega (arith, q.block)) (λ q. omega (arith, q.older, limits.blocks_from)) w.newest)
      (cases_lt k front.last)

  -- no cursor word overflows, where takes have come no further than puts
  pub words_small : IsWithinLimits g → front.last < most_block → ((b : ℕ) → b < g.blocks → reserved_word g ws b / offset_span ≤ front.last) → slice_index ws 1 ≤ front.last → WordsAreSmall g ws
  words_small limits few reserved consumer =
      let words = side.places.words in
      let two = limits.blocks_from in
      record {
        offsets = λ b h. offset_small (stage_of stage) g limits front ws vs side.places b (omega (arith, words.from));
        allocated = λ b h. let e = allocated_below words two (physical g ws 2) b in omega arith;
        committed = λ b h. let e = committed_below words two (physical g ws 3) b in omega arith;
        reserved = λ b h. let e = reserved b h in omega arith;
        heads = (omega (arith, words.head_to), omega arith);
      }
