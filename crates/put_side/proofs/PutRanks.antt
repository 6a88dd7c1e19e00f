-- The rank of a put's phase falls at each shared step.
use Rattle.std.proofs.Common.{◌≡◌, ℕ, ◌+◌, ◌-◌, ◌%◌, ◌<◌, ◌≤◌, sym, subst, arith}
use Rattle.cursor_word.specs.Shape.{Grid}
use Rattle.cursor_word.specs.Cursor.{offset_span, unpacked}
use Rattle.cursor_word.specs.declared.cursor.Cursor.{Cursor}
use Rattle.rail.specs.declared.answer.Answer.{Answer}
use Rattle.rail.specs.declared.answer.Answer.TheVariants as answer
use Rattle.rail.specs.declared.answer.Put.{Put}
use Rattle.machine.specs.declared.op.After.{After}
use Rattle.machine.specs.declared.op.After.TheVariants.{Next, Done}
use Rattle.machine.specs.Bounds.{IsBounded, IsRanked, Leads, call_bound}
use Rattle.machine.specs.Table.{Table}
use Rattle.put_side.specs.declared.put_phase.PutPhase.{PutPhase}
use Rattle.put_side.specs.declared.put_phase.PutPhase.TheVariants.{HeadP, SeeA, AddA, Write, Commit, OpenM, OpenA, RaiseP}
use Rattle.put_side.specs.PutSteps as puts
use Rattle.put_side.specs.PutSteps.{by_turn}
use Rattle.put_side.specs.Stages.{PutStage}
use Rattle.put_side.specs.SharesSteps.{SharesSteps}
use Rattle.put_side.proofs.Choices.{pick_equal, pick_less, turn_above, turn_falls, turn_one, turn_within}

-- each put takes at most this many steps
pub record CountsPuts {P : Type 0} (to_phase : PutPhase → P) (to_fill : Cursor → P) (g : Grid) (of_phase : P → ℕ) (of_answer : Answer → ℕ) : Type 0 where
  pub phase : (q : PutPhase) → of_phase (to_phase q) ≡ g.width + 11
  pub fills : (full : Cursor) → of_phase (to_fill full) ≡ g.width + 11
  pub answers : (a : Put) → of_answer (answer.Put a) ≡ g.width + 11

pub put_within : (g : Grid) (q : PutPhase) → puts.rank g q ≤ call_bound g
put_within g (HeadP turn first) = turn_within turn (g.width + 11) (g.width + 4) (g.width + 12) (omega arith) (omega arith)
put_within g (SeeA turn first head) = turn_within turn (g.width + 10) (g.width + 3) (g.width + 12) (omega arith) (omega arith)
put_within g (AddA turn first head) = turn_within turn (g.width + 9) (g.width + 2) (g.width + 12) (omega arith) (omega arith)
put_within g (Write at next) = omega arith
put_within g (Commit at) = omega arith
put_within g (OpenM full) = omega arith
put_within g (OpenA full) = omega arith
put_within g (RaiseP full) = omega arith

module _ {P : Type 0} (table : Table P) (stage : P → PutStage) (to_phase : PutPhase → P) (to_fill : Cursor → P) (shares : SharesSteps table stage to_phase to_fill)
    (g : Grid) (of_phase : P → ℕ) (of_answer : Answer → ℕ) (counts : CountsPuts to_phase to_fill g of_phase of_answer) where
  abbrev LeadsBelow : ℕ → After P → Type 0
  LeadsBelow high b = Leads (table.rank g) of_phase of_answer high (g.width + 11) b

  goes : (high : ℕ) (q : PutPhase) → puts.rank g q < high → LeadsBelow high (Next (to_phase q))
  goes high q less = (let r = shares.rank g q in omega arith, counts.phase q)

  -- a filled block leads a put to the next block, or ends it in its second turn
  fills : (high turn : ℕ) (first found : Cursor) → (turn ≡ 1 → g.width + 8 < high) → 1 ≤ high → LeadsBelow high (puts.filled to_phase to_fill turn first found)
  fills high turn first found more least = pick_equal (LeadsBelow high) turn 1 _ _ (λ e. (let r = shares.rank_fills g found in omega (arith, more e), counts.fills found)) (λ n. (least, counts.answers _))

  leads : (q : PutPhase) (found : ℕ) → puts.IsInRange g q → LeadsBelow (puts.rank g q) (puts.after to_phase to_fill g q found)
  leads (HeadP turn first) found r = goes _ (SeeA turn first found) (turn_falls turn (g.width + 11) (g.width + 4) (g.width + 10) (g.width + 3) (omega arith) (omega arith))
  leads (SeeA turn first head) found r =
      let high : ℕ = by_turn turn (g.width + 10) (g.width + 3) in
      pick_less (LeadsBelow high) (found % offset_span) g.size _ _ (λ l. goes high (AddA turn first head) (turn_falls turn (g.width + 10) (g.width + 3) (g.width + 9) (g.width + 2) (omega arith) (omega arith)))
      (λ l. fills high turn first (unpacked found) (λ e. let t = turn_one turn (g.width + 10) (g.width + 3) e in omega arith) (turn_above turn (g.width + 10) (g.width + 3) 0 (omega arith) (omega arith)))
  leads (AddA turn first head) found r =
      let high : ℕ = by_turn turn (g.width + 9) (g.width + 2) in
      pick_less (LeadsBelow high) (found % offset_span) g.size _ _ (λ l. goes high (Write (unpacked found) 0) (turn_above turn (g.width + 9) (g.width + 2) (g.width - 0 + 1) (omega arith) (omega arith)))
      (λ l. fills high turn first (unpacked found) (λ e. let t = turn_one turn (g.width + 9) (g.width + 2) e in omega arith) (turn_above turn (g.width + 9) (g.width + 2) 0 (omega arith) (omega arith)))
  leads (Write at next) found r = let within = r.2 in pick_less (LeadsBelow (g.width - next + 1)) (next + 1) g.width _ _ (λ l. goes _ (Write at (next + 1)) (omega arith)) (λ l. goes _ (Commit at) (omega arith))
  leads (Commit at) found r = (omega arith, counts.answers _)
  leads (OpenM full) found r = goes _ (OpenA full) (omega arith)
  leads (OpenA full) found r = goes _ (RaiseP full) (omega arith)
  leads (RaiseP full) found r = goes _ (HeadP 2 full) (omega arith)

  pub put_leads : (q : PutPhase) (found : ℕ) → table.IsInRange g (to_phase q) → Leads (table.rank g) of_phase of_answer (table.rank g (to_phase q)) (of_phase (to_phase q)) (table.after g (to_phase q) found)
  put_leads q found range =
      subst (λ (b : After P). Leads (table.rank g) of_phase of_answer (table.rank g (to_phase q)) (of_phase (to_phase q)) b) (sym (shares.after g q found))
      (subst (λ (most : ℕ). Leads (table.rank g) of_phase of_answer (table.rank g (to_phase q)) most (puts.after to_phase to_fill g q found)) (sym (counts.phase q))
      (subst (λ (high : ℕ). LeadsBelow high (puts.after to_phase to_fill g q found)) (sym (shares.rank g q)) (leads q found (subst (λ (X : Type 0). X) (shares.is_in_range g q) range))))

-- where the rank falls below the bound of a call, each phase leaves at least a step, and one fewer after each
module _ {P : Type 0} (table : Table P) (of_phase : Grid → P → ℕ) (of_answer : Grid → Answer → ℕ) where
  abbrev LeadsOn : Grid → P → After P → Type 0
  LeadsOn g p b = Leads (table.rank g) (of_phase g) (of_answer g) (table.rank g p) (of_phase g p) b

  some_from : (g : Grid) (p : P) (b : After P) → LeadsOn g p b → 1 ≤ table.rank g p
  some_from g p (Next q) l = let r = l.0 in omega arith
  some_from g p (Done a) l = l.0

  pub ranked_by : IsBounded table of_phase of_answer → ((g : Grid) (p : P) → table.rank g p ≤ call_bound g) → IsRanked table
  ranked_by bounded within = record {
    some_left = λ g p range. some_from g p (table.after g p 0) (bounded.leads g p 0 range);
    within = λ g p range. within g p;
    falls = λ g p next found range is. (subst (LeadsOn g p) is (bounded.leads g p found range)).0;
  }
