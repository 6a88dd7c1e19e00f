-- The words of an entry are read one after another, into the buffer and into what the seat remembers.
use Rattle.std.proofs.Common.{◌≡◌, ◌⊎◌, ℕ, ◌+◌, ◌/◌, ◌<◌, ◌≤◌, ◌≢◌, List, [], ◌∷◌, ◌++◌, append_assoc, length, length-append, refl, sym, ap, ◌∙◌, subst, inl, inr, ⊎_elim, arith}
use Rattle.std.specs.Prelude.{Option, Some, None, if◌then◌else◌, nat_lt, slice_set, take}
use Rattle.std.proofs.lemmas.List.{length-set, length-take, take-append-le, take_all, take_more_set}
use Rattle.cursor_word.specs.Shape.{Grid}
use Rattle.cursor_word.specs.Cursor.{offset_span, unpacked}
use Rattle.cursor_word.specs.declared.cursor.Cursor.{Cursor}
use Rattle.rail.specs.declared.entry.Placed.{Placed}
use Rattle.step_log.specs.declared.log.Step.{Step}
use Rattle.step_log.specs.Log.{loaded}
use Rattle.put_side.proofs.Sums.{by_test}
use Rattle.put_side.proofs.Choices.{by_equal}
use Rattle.block_looks.specs.declared.look.LookPhase.{LookPhase}
use Rattle.block_looks.specs.declared.look.LookPhase.TheVariants.{Word, Check}
use Rattle.block_looks.specs.declared.look.LookAfter.{LookAfter}
use Rattle.block_looks.specs.declared.look.LookAfter.TheVariants as after
use Rattle.block_looks.specs.declared.look.Seen.{Seen}
use Rattle.block_looks.specs.declared.look.Seen.TheVariants as seen
use Rattle.block_looks.specs.Table.{look_after, look_want}
use Rattle.block_looks.specs.Looks.{IsLookedAt, MayLook, found_before, looked_after, looked_on, looking_after, phase_after}
use Rattle.block_looks.specs.Shown.{LookLeads, LookShows, look_loads}
use Rattle.drop_rail.specs.Looking.{HasLooked, Looker}

module _ (g : Grid) where
  -- one more value leads one step on, and is one more load
  leads_on : (s : LookAfter) (xs : List ℕ) (p : LookPhase) (n : ℕ) → LookLeads g s xs (after.Next p) → LookLeads g s (xs ++ n ∷ []) (look_after g p n)
  leads_on s [] p n e = subst (λ (b : LookAfter). LookLeads g b (n ∷ []) (look_after g p n)) (sym e) refl
  leads_on (after.Next q) (x ∷ xs) p n h = leads_on (look_after g q x) xs p n h
  leads_on (after.Head c) (x ∷ xs) p n h = absurd h
  leads_on (after.Block l) (x ∷ xs) p n h = absurd h
  leads_on (after.Entry e) (x ∷ xs) p n h = absurd h

  loads_on : (s : LookAfter) (xs : List ℕ) (p : LookPhase) (n : ℕ) → LookLeads g s xs (after.Next p) → look_loads g s (xs ++ n ∷ []) ≡ look_loads g s xs ++ loaded (look_want g p) n ∷ []
  loads_on s [] p n e = ap (λ (b : LookAfter). look_loads g b (n ∷ [])) e
  loads_on (after.Next q) (x ∷ xs) p n h = ap (λ (l : List Step). loaded (look_want g q) x ∷ l) (loads_on (look_after g q x) xs p n h)
  loads_on (after.Head c) (x ∷ xs) p n h = absurd h
  loads_on (after.Block l) (x ∷ xs) p n h = absurd h
  loads_on (after.Entry e) (x ∷ xs) p n h = absurd h

  -- where a look at an entry stands after so many words
  abbrev pub entry_state : Cursor → ℕ → LookAfter
  entry_state at next = if nat_lt next g.width then after.Next (Word at next) else after.Next (Check at)

  abbrev pub entry_phase : Cursor → ℕ → LookPhase
  entry_phase at next = if nat_lt next g.width then Word at next else Check at

  -- a look at an entry that has read so many words into the buffer
  pub record ReadsEntry (old now : Looker) (at : Cursor) (next : ℕ) (out : List ℕ) : Type 0 where
    pub of : now.of ≡ old.of
    pub number : now.number ≡ old.number
    pub view : now.view ≡ old.view
    pub looking : now.memory.looking ≡ old.memory.looking
    pub looked : now.memory.looked ≡ old.memory.looked
    pub long : length out ≡ g.width
    pub trail : take next now.memory.look_trail ≡ take next out
    pub leads : LookLeads g (after.Next (Word at 0)) (take next out) (after.Next (entry_phase at next))
    pub log : now.log ≡ old.log ++ look_loads g (after.Next (Word at 0)) (take next out)
    pub on : ((next ≡ 0) × IsLookedAt old.memory.looking at) ⊎ ((now.memory.phase ≡ Some (entry_phase at next)) × (now.memory.look_at ≡ Some at))

  here_is : (at : Cursor) (next : ℕ) → next < g.width → entry_phase at next ≡ Word at next
  here_is at next lt = by_test next g.width (λ b. (if b then Word at next else Check at) ≡ Word at next) (λ l. refl) (λ l. absurd (omega arith))

  end_is : (at : Cursor) (next : ℕ) → g.width ≤ next → entry_phase at next ≡ Check at
  end_is at next le = by_test next g.width (λ b. (if b then Word at next else Check at) ≡ Check at) (λ l. absurd (omega arith)) (λ l. refl)

  module _ (old now : Looker) (at : Cursor) (next : ℕ) (out : List ℕ) (r : ReadsEntry old now at next out) where
    pub may_read : next < g.width → MayLook g now.memory (Word at next)
    may_read lt = ⊎_elim (λ f. inl (f.0, subst (λ (l : Option Cursor). IsLookedAt l at) (sym r.looking) f.1)) (λ p. inr (p.0 ∙ ap Some (here_is at next lt))) r.on

    pub may_check : 0 < g.width → next ≡ g.width → now.memory.phase ≡ Some (Check at)
    may_check some end = ⊎_elim (λ f. absurd (let z = f.0 in omega arith)) (λ p. p.0 ∙ ap Some (end_is at next (omega arith))) r.on

    pub look_at_is : 0 < g.width → next ≡ g.width → now.memory.look_at ≡ Some at
    look_at_is some end = ⊎_elim (λ f. absurd (let z = f.0 in omega arith)) (λ p. p.1) r.on

    leads_here : next < g.width → LookLeads g (after.Next (Word at 0)) (take next out) (after.Next (Word at next))
    leads_here lt = subst (λ (p : LookPhase). LookLeads g (after.Next (Word at 0)) (take next out) (after.Next p)) (here_is at next lt) r.leads

    -- one more word
    pub reads_on : next < g.width → (n : ℕ) (last : Looker) → last ≡ record { of = now.of; number = now.number; view = now.view; memory = looked_on g now.memory (Word at next) n; log = now.log ++ loaded (look_want g (Word at next)) n ∷ [] } → ReadsEntry old last at (next + 1) (slice_set out next n)
    reads_on lt n last is =
        let more : take (next + 1) (slice_set out next n) ≡ take next out ++ n ∷ [] = take_more_set out next n (let l = r.long in omega arith) in
        let after_is : look_after g (Word at next) n ≡ after.Next (entry_phase at (next + 1)) = by_test (next + 1) g.width (λ b. (if b then after.Next (Word at (next + 1)) else after.Next (Check at)) ≡ after.Next (if b then Word at (next + 1) else Check at)) (λ l. refl) (λ l. refl) in
        let memory = looked_on g now.memory (Word at next) n in
        let read : memory.look_trail ≡ take (next + 1) (slice_set out next n) = ap (λ (l : List ℕ). l ++ n ∷ []) r.trail ∙ sym more in
        let m = ap (λ (s : Looker). s.memory) is in
        record {
          of = ap (λ (s : Looker). s.of) is ∙ r.of;
          number = ap (λ (s : Looker). s.number) is ∙ r.number;
          view = ap (λ (s : Looker). s.view) is ∙ r.view;
          looking = ap (λ (s : Looker). s.memory.looking) is ∙ ap (looking_after now.memory.looking) after_is ∙ r.looking;
          looked = ap (λ (s : Looker). s.memory.looked) is ∙ r.looked;
          long = length-set out next n ∙ r.long;
          trail = ap (λ (s : Looker). take (next + 1) s.memory.look_trail) is ∙ take_all (next + 1) memory.look_trail (let a = ap length read in let b = length-take (next + 1) (slice_set out next n) in omega arith) ∙ read;
          leads = subst (λ (l : List ℕ). LookLeads g (after.Next (Word at 0)) l (after.Next (entry_phase at (next + 1)))) (sym more) (subst (LookLeads g (after.Next (Word at 0)) (take next out ++ n ∷ [])) after_is (leads_on (after.Next (Word at 0)) (take next out) (Word at next) n (leads_here lt)));
          log = ap (λ (s : Looker). s.log) is ∙ ap (λ (l : List Step). l ++ loaded (look_want g (Word at next)) n ∷ []) r.log ∙ append_assoc old.log _ _ ∙ ap (λ (l : List Step). old.log ++ l) (sym (loads_on (after.Next (Word at 0)) (take next out) (Word at next) n (leads_here lt)) ∙ ap (look_loads g (after.Next (Word at 0))) (sym more));
          on = inr (ap (λ (s : Looker). s.memory.phase) is ∙ ap phase_after after_is, ap (λ (s : Looker). s.memory.look_at) is);
        }

  -- what follows the last step, by the cursor that it found
  pub check_same : (at : Cursor) (n : ℕ) → n / offset_span ≡ at.block → look_after g (Check at) n ≡ after.Entry seen.Whole
  check_same at n e = by_equal (n / offset_span) at.block (λ b. (if b then after.Entry seen.Whole else after.Entry (seen.Reused (unpacked n))) ≡ after.Entry seen.Whole) (λ q. refl) (λ q. absurd (q e))

  pub check_other : (at : Cursor) (n : ℕ) → n / offset_span ≢ at.block → look_after g (Check at) n ≡ after.Entry (seen.Reused (unpacked n))
  check_other at n e = by_equal (n / offset_span) at.block (λ b. (if b then after.Entry seen.Whole else after.Entry (seen.Reused (unpacked n))) ≡ after.Entry (seen.Reused (unpacked n))) (λ q. absurd (e q)) (λ q. refl)

  -- the look at its end
  module _ (old now last : Looker) (at : Cursor) (out : List ℕ) (n : ℕ) (some : 0 < g.width) (r : ReadsEntry old now at g.width out) (is : last ≡ record { of = now.of; number = now.number; view = now.view; memory = looked_on g now.memory (Check at) n; log = now.log ++ loaded (look_want g (Check at)) n ∷ [] }) (answer : Seen) (follows : look_after g (Check at) n ≡ after.Entry answer) where
    all_out : take g.width out ≡ out
    all_out = take_all g.width out (let l = r.long in omega arith)

    read_is : found_before g now.memory (Check at) ≡ out
    read_is = r.trail ∙ all_out

    leads_end : LookLeads g (after.Next (Word at 0)) (take g.width out) (after.Next (Check at))
    leads_end = subst (λ (p : LookPhase). LookLeads g (after.Next (Word at 0)) (take g.width out) (after.Next p)) (end_is at g.width (omega arith)) r.leads

    found_is : last.memory.look_trail ≡ take g.width out ++ n ∷ []
    found_is = ap (λ (s : Looker). s.memory.look_trail) is ∙ ap (λ (l : List ℕ). l ++ n ∷ []) r.trail

    pub has_looked : HasLooked g old last (Word at 0) (after.Entry answer)
    has_looked = record {
      of = ap (λ (s : Looker). s.of) is ∙ r.of;
      number = ap (λ (s : Looker). s.number) is ∙ r.number;
      view = ap (λ (s : Looker). s.view) is ∙ r.view;
      steps = record {
        leads = subst (λ (l : List ℕ). LookLeads g (after.Next (Word at 0)) l (after.Entry answer)) (sym found_is) (subst (LookLeads g (after.Next (Word at 0)) (take g.width out ++ n ∷ [])) follows (leads_on (after.Next (Word at 0)) (take g.width out) (Check at) n leads_end));
        log = ap (λ (s : Looker). s.log) is ∙ ap (λ (l : List Step). l ++ loaded (look_want g (Check at)) n ∷ []) r.log ∙ append_assoc old.log _ _ ∙ ap (λ (l : List Step). old.log ++ l) (sym (loads_on (after.Next (Word at 0)) (take g.width out) (Check at) n leads_end) ∙ ap (look_loads g (after.Next (Word at 0))) (sym found_is));
      };
    }

    pub looked_is : last.memory.looked ≡ looked_after g old.memory.looked (Check at) out (after.Entry answer)
    looked_is = ap (λ (s : Looker). s.memory.looked) is ∙ ap (looked_after g now.memory.looked (Check at) (found_before g now.memory (Check at))) follows ∙ ap (λ (l : List ℕ). looked_after g now.memory.looked (Check at) l (after.Entry answer)) read_is ∙ ap (λ (l : List Placed). looked_after g l (Check at) out (after.Entry answer)) r.looked

    -- the words in the buffer are the first values that were found
    pub words_are : out ≡ take g.width last.memory.look_trail
    words_are = sym (ap (take g.width) found_is ∙ ap (λ (l : List ℕ). take g.width (l ++ n ∷ [])) all_out ∙ take-append-le g.width out (n ∷ []) (let l = r.long in omega arith) ∙ all_out)

    pub looking_is : last.memory.looking ≡ old.memory.looking
    looking_is = ap (λ (s : Looker). s.memory.looking) is ∙ ap (looking_after now.memory.looking) follows ∙ r.looking

    pub look_at_last : last.memory.look_at ≡ Some at
    look_at_last = ap (λ (s : Looker). s.memory.look_at) is ∙ look_at_is old now at g.width out r some refl

    pub shown_is : LookShows g now.view.made (Check at) (found_before g now.memory (Check at)) (look_after g (Check at) n) → LookShows g last.view.made (Check at) out (after.Entry answer)
    shown_is h =
        subst (λ (items : List Placed). LookShows g items (Check at) out (after.Entry answer)) (sym (ap (λ (s : Looker). s.view.made) is))
        (subst (λ (l : List ℕ). LookShows g now.view.made (Check at) l (after.Entry answer)) read_is (subst (LookShows g now.view.made (Check at) (found_before g now.memory (Check at))) follows h))
