-- The invariant does not mind in which order the seats stand.
use Rattle.std.specs.Prelude.{IsPermutation}
use Rattle.std.proofs.Common.{ℕ, ◌/◌, List, inl, inr, ⊎_elim, arith}
use Rattle.cursor_word.specs.Shape.{Grid}
use Rattle.cursor_word.specs.Cursor.{offset_span}
use Rattle.call_laws.specs.Seats.{AllMayBegin, IsOrderless}
use Rattle.put_side.specs.Cursors.{place, put_cursors}
use Rattle.put_side.specs.Counts.{makes}
use Rattle.put_side.specs.PutTable.{stage_of}
use Rattle.put_side.proofs.Permutes.{permuted_made, permuted_manned, permuted_side, same_sum, view_from}
use Rattle.drop_core.specs.Types.{View}
use Rattle.drop_core.specs.Stage.{stage}
use Rattle.drop_core.specs.Words.{Cursors, TakeWords, cursors}
use Rattle.drop_core.specs.Counts.{IsAttended, TakeCounts, fetches, raising}
use Rattle.drop_core.specs.Sound.{IsSound}
use Rattle.drop_core.specs.Steps.{table}
use Rattle.drop_core.proofs.Frames.{IsLater, fits_later, nothing_later}

module _ (g : Grid) (last : ℕ) (c : Cursors) (vs us : List View) (moved : IsPermutation vs us) where
  permuted_words : TakeWords g last c vs → TakeWords g last c us
  permuted_words t = record {
    same = t.same;
    to = t.to;
    most = t.most;
    made = λ k o from within gone here. let n = t.made k o from within gone here in let e = same_sum vs us moved (makes (place g k o)) in omega arith;
    passed = t.passed;
    head_from = t.head_from;
    head = t.head;
  }

  permuted_counts : TakeCounts g last c vs → TakeCounts g last c us
  permuted_counts t = record {
    once = λ p. let n = t.once p in let e = same_sum vs us moved (fetches g p) in omega arith;
    gone = λ k o from within h. let e = same_sum vs us moved (fetches g (place g k o)) in t.gone k o from within (omega arith);
    kept = λ k o from near within gone. let n = t.kept k o from near within gone in let e = same_sum vs us moved (fetches g (place g k o)) in omega arith;
  }

  permuted_attended : IsAttended c vs → IsAttended c us
  permuted_attended h k = ⊎_elim (λ l. inl l) (λ l. inr (let e = same_sum vs us moved (raising (c.reserved k / offset_span)) in omega arith)) (h k)

-- the views may stand in another order
pub permuted_sound : (g : Grid) (ws : List ℕ) (vs us : List View) → IsPermutation vs us → IsSound g ws vs → IsSound g ws us
permuted_sound g ws vs us moved k =
    let s = k.at in
    let c : Cursors = cursors g ws in
    let last : ℕ = k.front.last in
    let none : IsLater last last c c = nothing_later last c in
    record {
      front = k.front;
      at = record {
        puts = permuted_side vs us moved (stage_of stage) g k.front ws s.puts;
        before = s.before;
        manned = permuted_manned vs us moved (stage_of stage) g k.front (put_cursors g ws) s.manned;
        takes = permuted_words g last c vs us moved s.takes;
        counts = permuted_counts g last c vs us moved s.counts;
        attended = permuted_attended g last c vs us moved s.attended;
        each = λ j u at. let i = view_from vs us moved j u at in fits_later g last last c c none vs us (permuted_made vs us moved) u (s.each i.0 u i.1);
      };
    }

pub orderless : IsOrderless IsSound
orderless g ws vs us moved s = permuted_sound g ws vs us moved s

pub all_may_begin : AllMayBegin table
all_may_begin g seat call = tt
