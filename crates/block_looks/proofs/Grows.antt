-- Each step of the machine leaves the cursors that puts move as they are, or makes them greater.
use Rattle.std.proofs.Common.{ℕ, ◌+◌, ◌*◌, ◌%◌, ◌<◌, ◌≤◌, List, length, sym, subst, arith}
use Rattle.std.specs.Prelude.{slice_set, slice_index}
use Rattle.std.proofs.lemmas.List.{set-get_or}
use Rattle.std.proofs.lemmas.Nat.{mod_below}
use Rattle.cursor_word.specs.Shape.{Grid, IsWithinLimits}
use Rattle.cursor_word.specs.Cursor.{most_block}
use Rattle.machine.specs.Steps.{words_after}
use Rattle.put_side.specs.Cursors.{Front, put_cursors}
use Rattle.put_side.specs.Stages.{PutStage, At}
use Rattle.put_side.specs.PutTable.{IsShared, stage_of}
use Rattle.put_side.proofs.Frames.{IsGrown, grown_same}
use Rattle.put_side.proofs.Moves.{after_op, moves_by}
use Rattle.put_side.proofs.Raises.{raised_to}
use Rattle.put_side.specs.Stages.{put_want}
use Rattle.drop_core.specs.declared.phase.DropPhase.{DropPhase}
use Rattle.drop_core.specs.declared.phase.DropPhase.TheVariants.{Put, SeeM, Take}
use Rattle.drop_core.specs.declared.take_phase.DropTake.{DropTake}
use Rattle.drop_core.specs.declared.take_phase.DropTake.TheVariants.{HeadC, SeeRes, SeeCom, SeeAll, Reserve, Read, Verify, NextCom, Jump, OpenR, RaiseC}
use Rattle.drop_core.specs.Types.{View}
use Rattle.drop_core.specs.Steps.{table}
use Rattle.drop_core.specs.Stage.{stage}
use Rattle.drop_core.specs.Sound.{IsSoundAt}

module _ (g : Grid) (f : Front) (ws : List ℕ) (vs : List View) (limits : IsWithinLimits g) (s : IsSoundAt g f ws vs) (small : f.last < most_block) (v : View) where
  abbrev IsUp : List ℕ → Type 0
  IsUp ws' = IsGrown (put_cursors g ws) (put_cursors g ws')

  loads : (i : ℕ) → IsUp (slice_set ws i (slice_index ws i))
  loads i = subst IsUp (sym (set-get_or ws i 0)) (grown_same (put_cursors g ws))

  raises : (i x : ℕ) → i < length ws → slice_index ws i ≤ x → IsUp (slice_set ws i x)
  raises i x long up = record { producer = raised_to ws i x _ long up; allocated = λ k. raised_to ws i x _ long up; committed = λ k. raised_to ws i x _ long up }

  puts_move : (stands : PutStage) → IsShared stands → IsUp (after_op ws (put_want g stands v.entry))
  puts_move stands shared = (moves_by (stage_of stage) g limits f ws vs s.puts.places (let n = s.puts.all in omega arith) small stands v.entry shared).grown

  takes_move : (q : DropTake) → IsUp (words_after table g ws v (Take q))
  takes_move (HeadC turn first) = loads 1
  takes_move (SeeRes turn first head) = loads _
  takes_move (SeeCom turn r) = loads _
  takes_move (SeeAll r m) = loads _
  takes_move (Reserve r) = let m = mod_below r.block g.blocks (omega (arith, limits.blocks_from)) in let n = s.puts.all in raises (4 + 4 * (r.block % g.blocks)) _ (omega arith) (omega arith)
  takes_move (Read at next) = loads _
  takes_move (Verify at) = loads _
  takes_move (NextCom spent) = loads _
  takes_move (Jump from) = loads 0
  takes_move (OpenR from to) = let m = mod_below to g.blocks (omega (arith, limits.blocks_from)) in let n = s.puts.all in raises (4 + 4 * (to % g.blocks)) _ (omega arith) (omega arith)
  takes_move (RaiseC from to) = let n = s.puts.all in raises 1 _ (omega arith) (omega arith)

  pub grows : (p : DropPhase) → IsUp (words_after table g ws v p)
  grows (Put q) = puts_move (At q) tt
  grows (SeeM full) = loads _
  grows (Take q) = takes_move q
