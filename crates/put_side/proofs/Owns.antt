-- A step that is a queue's own: it moves no word that puts move, and its seat holds no place before it or after.
use Rattle.std.proofs.Common.{◌≡◌, ℕ, List, [], length, sym, ap, ◌∙◌, subst, arith}
use Rattle.std.specs.Prelude.{Some, slice_get, slice_set, slice_index}
use Rattle.cursor_word.specs.Shape.{Grid}
use Rattle.machine.specs.declared.view.View.{View}
use Rattle.put_side.specs.Cursors.{Front, PutCursors, allocated_word, committed_word, put_cursors}
use Rattle.put_side.specs.Stages.{PutStage, held}
use Rattle.put_side.specs.declared.put_phase.PutPhase.TheVariants.{Write, Commit}
use Rattle.put_side.specs.Stages.{At}
use Rattle.put_side.specs.Places.{PutPlaces}
use Rattle.put_side.specs.Entries.{HoldsWords}
use Rattle.put_side.specs.PutSide.{PutSide}
use Rattle.put_side.specs.Manned.{IsManned}
use Rattle.put_side.proofs.Facts.{cursors_are}
use Rattle.put_side.proofs.Frames.{IsNext, Leaves, stays}
use Rattle.put_side.proofs.Entries.{KeepsEntries, entries_stay}
use Rattle.put_side.proofs.Attends.{IsIdle, idle_manned}

-- the words that puts move are as before
pub record KeepsPutWords (g : Grid) (ws ws' : List ℕ) : Type 0 where
  pub all : length ws' ≡ length ws
  pub producer : slice_index ws' 0 ≡ slice_index ws 0
  pub allocated : (k : ℕ) → allocated_word g ws' k ≡ allocated_word g ws k
  pub committed : (k : ℕ) → committed_word g ws' k ≡ committed_word g ws k
  pub entries : KeepsEntries g ws ws'

pub no_words : (g : Grid) (ws entry : List ℕ) (s : PutStage) → held g s ≡ [] → HoldsWords g ws entry s
no_words g ws entry (At (Write at next)) h = cc
no_words g ws entry (At (Commit at)) h = cc
no_words g ws entry s h = tt

module _ {P : Type 0} (stage : View P → PutStage) (g : Grid) (front : Front) (ws ws' : List ℕ) (vs : List (View P)) (id : ℕ) (v v' : View P) (s s' : PutStage) (at : slice_get vs id ≡ Some v) (e : stage v ≡ s) (keeps : KeepsPutWords g ws ws') where
  same_cursors : put_cursors g ws ≡ put_cursors g ws'
  same_cursors = cursors_are g ws' (put_cursors g ws) keeps.producer keeps.allocated keeps.committed

  pub keeps_own : held g s ≡ [] → Leaves stage v v' s' → IsNext g front.last (put_cursors g ws) [] s' → PutSide stage g front ws vs → PutSide stage g front ws' (slice_set vs id v')
  keeps_own none to next side =
      let next' : IsNext g front.last (put_cursors g ws) (held g s) s' = subst (λ (l : List ℕ). IsNext g front.last (put_cursors g ws) l s') (sym none) next in
      record {
        all = keeps.all ∙ side.all;
        places = subst (λ (c : PutCursors). PutPlaces stage g front c (slice_set vs id v')) same_cursors (stays stage g front (put_cursors g ws) vs id v v' s s' side.places at e to.made to.stands next');
        entries = entries_stay stage g (allocated_word g ws) (allocated_word g ws') ws ws' (λ k. let q = keeps.allocated k in omega arith) keeps.entries vs id v v' side.entries at to.made
            (ap (λ (l : List ℕ). length l) to.entry ∙ (side.entries id v at).wide) (subst (HoldsWords g ws' v'.entry) (sym to.stands) (no_words g ws' v'.entry s' next.holds));
      }

  pub manned_own : IsIdle front.last s → IsManned stage g front (put_cursors g ws) vs → IsManned stage g front (put_cursors g ws') (slice_set vs id v')
  manned_own idle m = idle_manned stage g front (put_cursors g ws) (put_cursors g ws') vs id v v' s at e idle (keeps.allocated front.last) keeps.producer m
