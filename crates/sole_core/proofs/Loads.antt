-- Steps that change no word: of a put that looks at the older block, and of a take.
use Rattle.std.proofs.Common.{◌≡◌, ℕ, ◌+◌, ◌*◌, ◌%◌, List, [], refl, sym, ap, subst, inl, arith}
use Rattle.std.specs.Prelude.{Some, slice_get, slice_set, slice_index, if◌then◌else◌}
use Rattle.std.proofs.lemmas.List.{set-get_or}
use Rattle.cursor_word.specs.Shape.{Grid}
use Rattle.cursor_word.specs.Cursor.{cursor_of, unpacked}
use Rattle.cursor_word.specs.declared.cursor.Cursor.{Cursor}
use Rattle.rail.specs.declared.answer.Answer.TheVariants as answer
use Rattle.rail.specs.declared.answer.Put.TheVariants as put
use Rattle.rail.specs.declared.answer.Answer.{Answer}
use Rattle.machine.specs.declared.op.After.TheVariants.{Next, Done}
use Rattle.machine.specs.Steps.{made_after, phase_after, taken_after, view_after, words_after}
use Rattle.put_side.specs.Cursors.{Front, put_cursors}
use Rattle.put_side.specs.declared.put_phase.PutPhase.TheVariants.{OpenM}
use Rattle.put_side.specs.PutSteps.{older_full}
use Rattle.put_side.specs.Stages.{Fills, held}
use Rattle.put_side.specs.Places.{IsFilled}
use Rattle.put_side.specs.PutTable.{stage_after, stage_in}
use Rattle.put_side.proofs.Sums.{by_test_le}
use Rattle.put_side.proofs.Frames.{IsNext, Leaves}
use Rattle.put_side.proofs.Loads as put_loads
use Rattle.put_side.proofs.Made.{made_same}
use Rattle.put_side.proofs.Owns.{keeps_own}
use Rattle.put_side.proofs.Keeps.{stage_next}
use Rattle.put_side.proofs.TakeWords.{same_words, seen_by}
use Rattle.sole_core.specs.declared.phase.SolePhase.{SolePhase}
use Rattle.sole_core.specs.declared.phase.SolePhase.TheVariants.{Put, SeeX, Take}
use Rattle.sole_core.specs.declared.take_phase.SoleTake.{SoleTake}
use Rattle.sole_core.specs.Types.{After, View}
use Rattle.sole_core.specs.PutSteps.{consumed_or_full}
use Rattle.sole_core.specs.Table.{consumer, table}
use Rattle.sole_core.specs.Stage.{stage, stage_of}
use Rattle.sole_core.specs.Sound.{IsSoundAt, Knows, TakeKnows, cursor_in, scene}
use Rattle.sole_core.proofs.Frames.{IsLater, is_consumer, knows_later, quiet}

-- what may follow a step that makes and takes nothing
pub record IsNextOwn (g : Grid) (front : Front) (next : ℕ) (ws : List ℕ) (vs : List View) (id : ℕ) (v : View) (read : List ℕ) (b : After) : Type 0 where
  pub made : made_after v.made v.entry b ≡ v.made
  pub taken : taken_after v.taken v.read b ≡ v.taken
  pub knows : Knows g (scene g next ws vs) read (phase_after b)
  pub side : IsNext g front.last (put_cursors g ws) [] (stage_after stage b)
  pub away : (q : SoleTake) → phase_after b ≡ Some (Take q) → id ≡ consumer

module _ (g : Grid) (front : Front) (next : ℕ) (ws : List ℕ) (vs : List View) (s : IsSoundAt g front next ws vs) (id : ℕ) (v : View) (at : slice_get vs id ≡ Some v) where
  abbrev After' : ℕ → After → List ℕ → ℕ → Type 0
  After' i b read x = IsSoundAt g front next (slice_set ws i (slice_index ws i)) (slice_set vs id (seen_by v b read x))

  abbrev Next' : List ℕ → After → Type 0
  Next' read b = IsNextOwn g front next ws vs id v read b

  pub loads : (i x : ℕ) (p : SolePhase) (b : After) (read : List ℕ) → v.phase ≡ Some p → held g (stage p) ≡ [] → Next' read b → After' i b read x
  loads i x p b read e none own =
      let v' : View = seen_by v b read x in
      let vs' : List View = slice_set vs id v' in
      let to : Leaves stage_of v v' (stage_after stage b) = record { made = own.made; entry = refl; stands = stage_next stage b } in
      let later : IsLater g ws ws vs vs' = record { consumed = λ k. omega arith; committed = λ k. omega arith; made = made_same vs id v v' at own.made } in
      subst (λ (w : List ℕ). IsSoundAt g front next w vs') (sym (set-get_or ws i 0))
      (quiet g front front next ws ws vs id v v' s at later (λ k. refl) s.unmoved own.taken
      (keeps_own stage_of g front ws ws vs id v v' (stage p) (stage_after stage b) at (ap (stage_in stage) e) (same_words g ws) none to own.side s.puts)
      s.near (knows_later g ws ws vs vs' later next next read (phase_after b) (λ q h. refl) own.knows) own.away)

  -- an answer that hands no entry in or out
  pub answers : (a : Answer) → made_after {P = SolePhase} v.made v.entry (Done a) ≡ v.made → taken_after {P = SolePhase} v.taken v.read (Done a) ≡ v.taken → Next' v.read (Done a)
  answers a made taken = record { made = made; taken = taken; knows = tt; side = record { holds = refl; knows = tt; adds = λ k. inl refl }; away = λ q h. cc }

  -- load of the consumed cursor of the next block
  pub keeps_SeeX : (full : Cursor) → v.phase ≡ Some (SeeX full) → IsSoundAt g front next (words_after table g ws v (SeeX full)) (slice_set vs id (view_after table g ws v (SeeX full)))
  keeps_SeeX full e =
      let i : ℕ = 5 + 4 * ((full.block + 1) % g.blocks) in
      let w : ℕ = slice_index ws i in
      let f : IsFilled g (put_cursors g ws) full = put_loads.knows_at stage_of g front ws vs id v v s.puts.places at (Fills full) (ap (stage_in stage) e) in
      let own : Next' v.read (consumed_or_full g full w) =
      by_test_le (older_full g full.block) w (λ b. Next' v.read (if b then Next (Put (OpenM full)) else Done (answer.Put (put.Full full.block (unpacked w)))))
      (λ l. record { made = refl; taken = refl; knows = l; side = record { holds = refl; knows = f; adds = λ k. inl refl }; away = λ q h. cc })
      (λ l. answers (answer.Put (put.Full full.block (unpacked w))) refl refl) in
      loads i w (SeeX full) (consumed_or_full g full w) v.read e refl own

  -- a take goes on
  pub go_on : (q r : SoleTake) (read : List ℕ) → v.phase ≡ Some (Take q) → cursor_in r ≡ cursor_of g next → TakeKnows g (scene g next ws vs) read r → Next' read (Next (Take r))
  go_on q r read e is knows = record {
    made = refl;
    taken = refl;
    knows = (is, knows);
    side = record { holds = refl; knows = tt; adds = λ k. inl refl };
    away = λ z h. is_consumer g front next ws vs s id v q at e;
  }
