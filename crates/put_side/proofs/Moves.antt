-- A shared step of a put leaves the words that takes move, and the cursors that puts move grow.
use Rattle.std.proofs.Common.{◌≡◌, ℕ, ◌+◌, ◌*◌, ◌/◌, ◌%◌, ◌^◌, ◌<◌, ◌≤◌, ◌≢◌, List, length, sym, arith}
use Rattle.std.specs.Prelude.{slice_set, slice_index}
use Rattle.std.proofs.lemmas.List.{get_or-set_other}
use Rattle.std.proofs.lemmas.Nat.{mod_below}
use Rattle.cursor_word.specs.Shape.{Grid, IsWithinLimits}
use Rattle.cursor_word.specs.Cursor.{most_block, offset_span}
use Rattle.machine.specs.declared.op.Op.{Op}
use Rattle.machine.specs.Ops.{index, moved}
use Rattle.machine.specs.declared.view.View.{View}
use Rattle.put_side.specs.Cursors.{Front, allocated_word, committed_word, put_cursors}
use Rattle.put_side.specs.Stages.{PutStage, put_want}
use Rattle.put_side.specs.declared.put_phase.PutPhase.TheVariants.{HeadP, SeeA, AddA, Write, Commit, OpenM, OpenA, RaiseP}
use Rattle.put_side.specs.Stages.{Away, At, Fills}
use Rattle.put_side.specs.PutTable.{IsShared}
use Rattle.put_side.specs.Places.{PutPlaces}
use Rattle.put_side.proofs.Facts.{allocated_below, committed_below, physical}
use Rattle.put_side.proofs.Frames.{IsGrown}
use Rattle.put_side.proofs.Raises.{raised_to}

-- the words after a step
abbrev pub after_op : List ℕ → Op → List ℕ
after_op ws o = slice_set ws (index o) (moved o (slice_index ws (index o)))

pub record IsMovedByPuts (g : Grid) (ws ws' : List ℕ) : Type 0 where
  pub grown : IsGrown (put_cursors g ws) (put_cursors g ws')
  pub consumer : slice_index ws' 1 ≡ slice_index ws 1
  pub reserved : (k : ℕ) → slice_index ws' (4 + 4 * (k % g.blocks)) ≡ slice_index ws (4 + 4 * (k % g.blocks))
  pub consumed : (k : ℕ) → slice_index ws' (5 + 4 * (k % g.blocks)) ≡ slice_index ws (5 + 4 * (k % g.blocks))

-- a word of no take is raised
raises : (g : Grid) (ws : List ℕ) (i x : ℕ) → i < length ws → slice_index ws i ≤ x → i ≢ 1 → ((k : ℕ) → (i ≢ 4 + 4 * (k % g.blocks)) × (i ≢ 5 + 4 * (k % g.blocks))) → IsMovedByPuts g ws (slice_set ws i x)
raises g ws i x long up one far = record {
  grown = record { producer = raised_to ws i x _ long up; allocated = λ k. raised_to ws i x _ long up; committed = λ k. raised_to ws i x _ long up };
  consumer = get_or-set_other ws i 1 x 0 (λ e. one (sym e));
  reserved = λ k. get_or-set_other ws i _ x 0 (λ e. let f = far k in f.0 (sym e));
  consumed = λ k. get_or-set_other ws i _ x 0 (λ e. let f = far k in f.1 (sym e));
}

-- a word of an entry is stored
stores : (g : Grid) (ws : List ℕ) (i x : ℕ) → 1 ≤ g.blocks → 2 + 4 * g.blocks ≤ i → IsMovedByPuts g ws (slice_set ws i x)
stores g ws i x pos l =
    let same : (j : ℕ) → j < 2 + 4 * g.blocks → slice_index (slice_set ws i x) j ≡ slice_index ws j = λ j h. get_or-set_other ws i j x 0 (λ r. omega arith) in
    let low : (k : ℕ) → k % g.blocks < g.blocks = λ k. mod_below k g.blocks (omega arith) in
    record {
      grown = record {
        producer = let q = same 0 (omega arith) in omega arith;
        allocated = λ k. let h = low k in let q = same (2 + 4 * (k % g.blocks)) (omega arith) in omega arith;
        committed = λ k. let h = low k in let q = same (3 + 4 * (k % g.blocks)) (omega arith) in omega arith;
      };
      consumer = same 1 (omega arith);
      reserved = λ k. let h = low k in same _ (omega arith);
      consumed = λ k. let h = low k in same _ (omega arith);
    }

module _ {P : Type 0} (stage : View P → PutStage) (g : Grid) (limits : IsWithinLimits g) (front : Front) (ws : List ℕ) (vs : List (View P)) (p : PutPlaces stage g front (put_cursors g ws) vs) (long : 2 + 4 * g.blocks ≤ length ws) (small : front.last < most_block) where
  low : (k : ℕ) → k % g.blocks < g.blocks
  low k = mod_below k g.blocks (omega (arith, limits.blocks_from))

  add_up : (w : ℕ) → w / offset_span ≤ front.last → w ≤ (w + 1) % 2 ^ 64
  add_up w h = omega arith

  pub moves_by : (s : PutStage) (entry : List ℕ) → IsShared s → IsMovedByPuts g ws (after_op ws (put_want g s entry))
  moves_by Away entry h = absurd h
  moves_by (At (HeadP turn first)) entry h = raises g ws 0 _ (omega arith) (omega arith) (λ e. omega arith) (λ k. (λ e. omega arith, λ e. omega arith))
  moves_by (At (SeeA turn first head)) entry h = let m = low head in raises g ws _ _ (omega arith) (omega arith) (λ e. omega arith) (λ k. (λ e. omega arith, λ e. omega arith))
  moves_by (At (AddA turn first head)) entry h = let m = low head in let b = allocated_below p.words limits.blocks_from (physical g ws 2) head in
      raises g ws _ _ (omega arith) (add_up (allocated_word g ws head) b) (λ e. omega arith) (λ k. (λ e. omega arith, λ e. omega arith))
  moves_by (At (Write at next)) entry h = stores g ws _ _ (omega (arith, limits.blocks_from)) (omega arith)
  moves_by (At (Commit at)) entry h = let m = low at.block in let b = committed_below p.words limits.blocks_from (physical g ws 3) at.block in
      raises g ws _ _ (omega arith) (add_up (committed_word g ws at.block) b) (λ e. omega arith) (λ k. (λ e. omega arith, λ e. omega arith))
  moves_by (Fills full) entry h = absurd h
  moves_by (At (OpenM full)) entry h = let m = low (full.block + 1) in raises g ws _ _ (omega arith) (omega arith) (λ e. omega arith) (λ k. (λ e. omega arith, λ e. omega arith))
  moves_by (At (OpenA full)) entry h = let m = low (full.block + 1) in raises g ws _ _ (omega arith) (omega arith) (λ e. omega arith) (λ k. (λ e. omega arith, λ e. omega arith))
  moves_by (At (RaiseP full)) entry h = raises g ws _ _ (omega arith) (omega arith) (λ e. omega arith) (λ k. (λ e. omega arith, λ e. omega arith))
