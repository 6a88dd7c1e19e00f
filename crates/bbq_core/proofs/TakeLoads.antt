-- Loads of a take.
use Rattle.std.proofs.Common.{◌≡◌, ℕ, ◌+◌, ◌*◌, ◌/◌, ◌%◌, ◌<◌, ◌≤◌, ◌≢◌, List, refl, sym, ap, ◌∙◌, subst, arith}
use Rattle.std.specs.Prelude.{Some, slice_get, slice_set, slice_index, ◌==◌}
use Rattle.std.specs.List.{sum_by}
use Rattle.cursor_word.specs.Shape.{Grid, IsWithinLimits}
use Rattle.cursor_word.specs.Cursor.{offset_span, packed, unpacked}
use Rattle.cursor_word.specs.declared.cursor.Cursor.{Cursor}
use Rattle.cursor_word.proofs.Blocks.{latest, latest_is}
use Rattle.rail.specs.declared.answer.Answer.TheVariants as answer
use Rattle.rail.specs.declared.answer.Take.TheVariants as taking
use Rattle.machine.specs.declared.op.After.TheVariants.{Next}
use Rattle.machine.specs.Steps.{view_after, words_after}
use Rattle.put_side.specs.Cursors.{Front, committed_word, place, reserved_word}
use Rattle.put_side.specs.Counts.{makes, sum_below}
use Rattle.put_side.proofs.Sums.{none_from, one_to, upto_all, upto_cut, upto_from, upto_le}
use Rattle.put_side.proofs.Facts.{IsPhysical, found_open, physical, repacked}
use Rattle.bbq_core.specs.declared.phase.Phase.TheVariants.{Take}
use Rattle.bbq_core.specs.declared.take_phase.TakePhase.{TakePhase}
use Rattle.bbq_core.specs.declared.take_phase.TakePhase.TheVariants.{HeadC, SeeRes, SeeCom, SeeAll, Reserve, NextCom, OpenX}
use Rattle.put_side.proofs.Moments.{made_within}
use Rattle.bbq_core.specs.Stage.{stage}
use Rattle.bbq_core.specs.Types.{After, View}
use Rattle.bbq_core.specs.TakeSteps.{after_take, passed}
use Rattle.bbq_core.specs.Table.{table}
use Rattle.bbq_core.specs.Cursors.{take_cursors}
use Rattle.bbq_core.specs.Counts.{reading}
use Rattle.bbq_core.specs.Sound.{IsReserved, IsSoundAt, Knows, TakeKnows, scene}
use Rattle.put_side.proofs.Choices.{pick_any, pick_equal, pick_less, pick_same}
use Rattle.bbq_core.proofs.Loads.{IsNextOwn, answers, go_on, loads}
use Rattle.bbq_core.proofs.TakeFacts.{found_R, reserved_made, reserved_to}

-- the committed cursor of a block that was opened to takes
pub record IsCommitted (g : Grid) (last : ℕ) (back : Front) (k o word : ℕ) : Type 0 where
  pub opened : k ≤ back.last
  pub reached : place g k o ≤ back.next
  pub from : k ≤ word / offset_span
  pub current : word / offset_span ≡ k → last < k + g.blocks

module _ (g : Grid) (limits : IsWithinLimits g) (front back : Front) (ws : List ℕ) (vs : List View) (s : IsSoundAt g front back ws vs) where
  pub committed_found : (r : Cursor) → IsReserved g (take_cursors g ws) r → IsCommitted g front.last back r.block r.offset (committed_word g ws r.block)
  committed_found r f =
      let p = repacked (packed r) in
      let q = reserved_to s.takes limits.blocks_from (physical g ws 4) r.block r.offset limits f.from (omega (arith, f.within)) (omega (arith, f.known)) in
      let l = latest_is g.blocks r.block front.last (omega (arith, limits.blocks_from)) (omega (arith, q.0, s.takes.behind)) in
      let c = s.puts.places.words.committed _ l.to l.near in
      let z = physical g ws 3 _ r.block l.same in
      let w : committed_word g ws r.block / offset_span ≡ latest g.blocks r.block front.last = sym (ap (λ (b : ℕ). b / offset_span) z) ∙ c in
      record { opened = q.0; reached = q.1; from = omega (arith, l.from); current = λ h. let y : latest g.blocks r.block front.last ≡ r.block = sym w ∙ h in omega (arith, l.near) }

  each_once : (k o : ℕ) → sum_by (makes (place g k o)) vs ≤ 1
  each_once k o = let m = made_within stage g front ws vs s.puts (place g k o) in let z = one_to (place g k o) front.next in omega arith

  module _ (id : ℕ) (v : View) (at : slice_get vs id ≡ Some v) where
    abbrev Keeps : TakePhase → Type 0
    Keeps q = IsSoundAt g front back (words_after table g ws v (Take q)) (slice_set vs id (view_after table g ws v (Take q)))

    abbrev Leads : After → Type 0
    Leads b = IsNextOwn g front back ws vs v v.read b

    pub knows_at : (q : TakePhase) → v.phase ≡ Some (Take q) → TakeKnows g (scene g back ws vs) v.read q
    knows_at q e = subst (Knows g (scene g back ws vs) v.made v.read) e (s.each id v at).knows

    pub keeps_HeadC : (turn : ℕ) (first : Cursor) → v.phase ≡ Some (Take (HeadC turn first)) → Keeps (HeadC turn first)
    keeps_HeadC turn first e =
        let q : TakePhase = HeadC turn first in
        loads g limits front back ws vs s id v at 1 (slice_index ws 1) (Take q) (Next (Take (SeeRes turn first (slice_index ws 1)))) v.read e refl
        (go_on g limits front back ws vs s id v at q (SeeRes turn first (slice_index ws 1)) e refl refl (knows_at q e, s.takes.head_from, omega arith))

    -- load of the reserved cursor
    pub keeps_SeeRes : (turn : ℕ) (first : Cursor) (head : ℕ) → v.phase ≡ Some (Take (SeeRes turn first head)) → Keeps (SeeRes turn first head)
    keeps_SeeRes turn first head e =
        let q : TakePhase = SeeRes turn first head in
        let i : ℕ = 4 + 4 * (head % g.blocks) in
        let f = knows_at q e in
        let same : IsPhysical g (reserved_word g ws) = physical g ws 4 in
        let is = found_R s.takes limits.blocks_from same head f.2 in
        let w : ℕ = slice_index ws i in
        let known : packed (unpacked w) ≤ reserved_word g ws (w / offset_span) = let q = same _ _ is.same in let r = repacked w in omega arith in
        loads g limits front back ws vs s id v at i w (Take q) (after_take g q w) v.read e refl
        (pick_less Leads (w % offset_span) g.size (Next (Take (SeeCom (unpacked w)))) (passed turn first (unpacked w))
        (λ l. go_on g limits front back ws vs s id v at q (SeeCom (unpacked w)) e refl refl record { from = omega (arith, is.from, f.1); within = l; known = known })
        (λ l. pick_any Leads (turn == 1) _ _
        (go_on g limits front back ws vs s id v at q (NextCom (unpacked w)) e refl refl record { from = omega (arith, is.from, f.1); full = omega (arith, is.most); known = known })
        (answers g limits front back ws vs s id v at (answer.Take (taking.Busy _)) refl refl (ap (reading g) e))))

    -- load of the committed cursor of the next block
    pub keeps_NextCom : (spent : Cursor) → v.phase ≡ Some (Take (NextCom spent)) → Keeps (NextCom spent)
    keeps_NextCom spent e =
        let q : TakePhase = NextCom spent in
        let i : ℕ = 3 + 4 * ((spent.block + 1) % g.blocks) in
        let f = knows_at q e in
        let w : ℕ = slice_index ws i in
        loads g limits front back ws vs s id v at i w (Take q) (after_take g q w) v.read e refl
        (pick_less Leads (w / offset_span) (spent.block + 1) _ _
        (λ l. answers g limits front back ws vs s id v at (answer.Take (taking.Empty _)) refl refl (ap (reading g) e))
        (λ l. go_on g limits front back ws vs s id v at q (OpenX spent) e refl refl (f, omega arith)))

    -- load of the committed cursor
    pub keeps_SeeCom : (r : Cursor) → v.phase ≡ Some (Take (SeeCom r)) → Keeps (SeeCom r)
    keeps_SeeCom r e =
        let q : TakePhase = SeeCom r in
        let i : ℕ = 3 + 4 * (r.block % g.blocks) in
        let f = knows_at q e in
        let w : ℕ = slice_index ws i in
        let is = committed_found r f in
        let k : ℕ = r.block in
        let F : ℕ → ℕ = λ o. sum_by (makes (place g k o)) vs in
        loads g limits front back ws vs s id v at i w (Take q) (after_take g q w) v.read e refl
        (pick_equal Leads w (packed r) _ _
        (λ z. answers g limits front back ws vs s id v at (answer.Take (taking.Empty _)) refl refl (ap (reading g) e))
        (λ ne. pick_less Leads r.block (w / offset_span) _ _
        (λ l. answers g limits front back ws vs s id v at (answer.Take (taking.Busy _)) refl refl (ap (reading g) e))
        (λ l. let b : w / offset_span ≡ k = omega (arith, is.from) in
        let c = s.puts.places.counts.made k (omega (arith, is.opened, s.takes.behind)) (is.current b) f.from in
        pick_equal Leads (w % offset_span) g.size _ _
        (λ z. go_on g limits front back ws vs s id v at q (Reserve r) e refl refl (f, λ o h. let y = upto_all g.size o F (each_once k) (sym c ∙ z) (omega (arith, f.within)) in omega arith))
        (λ z. let from = upto_from g.size r.offset F (omega (arith, f.within)) (λ o h. reserved_made g front back ws vs s (place g k o) (omega (arith, is.reached))) in
        let to = upto_le g.size F (each_once k) in
        let p = repacked w in
        let apart : w % offset_span ≢ r.offset = λ y. ne (omega arith) in
        go_on g limits front back ws vs s id v at q (SeeAll r (unpacked w)) e refl refl (f, record { same = b; above = omega arith; within = omega arith; known = let y = ap (committed_word g ws) b in omega arith })))))

    -- load of the allocated cursor
    pub keeps_SeeAll : (r m : Cursor) → v.phase ≡ Some (Take (SeeAll r m)) → Keeps (SeeAll r m)
    keeps_SeeAll r m e =
        let q : TakePhase = SeeAll r m in
        let i : ℕ = 2 + 4 * (r.block % g.blocks) in
        let f = knows_at q e in
        let a = f.1 in
        let w : ℕ = slice_index ws i in
        let k : ℕ = r.block in
        let F : ℕ → ℕ = λ o. sum_by (makes (place g k o)) vs in
        let is = committed_found r f.0 in
        let words = s.puts.places.words in
        loads g limits front back ws vs s id v at i w (Take q) (after_take g q w) v.read e refl
        (pick_same Leads w m _ _
        (λ z. let b : w / offset_span ≡ k = omega (arith, a.same, a.within, limits.size_to) in
        let o : w % offset_span ≡ m.offset = omega (arith, a.same, a.within, limits.size_to) in
        let d = found_open words limits.blocks_from (physical g ws 2) k (omega (arith, is.opened, s.takes.behind)) (omega (arith, a.within)) in
        let top : k ≡ front.last = sym b ∙ d.0 in
        let near : front.last < k + g.blocks = omega (arith, limits.blocks_from) in
        let bm = words.committed k (omega arith) near in
        let c = s.puts.places.counts.made k (omega arith) near (f.0).from in
        let much : m.offset ≤ committed_word g ws k % offset_span = omega (arith, a.same, a.known) in
        let edge : front.next ≡ place g k m.offset = d.1 ∙ ap (place g front.last) o ∙ ap (λ (b : ℕ). place g b m.offset) (sym top) in
        let zero_from : (o : ℕ) → m.offset ≤ o → F o ≡ 0 = λ o h. let y = made_within stage g front ws vs s.puts (place g k o) in let z = none_from (place g k o) front.next (omega arith) in omega arith in
        let cut = upto_cut g.size m.offset F (omega (arith, a.within)) zero_from in
        let most = upto_le m.offset F (each_once k) in
        let full : sum_below m.offset F ≡ m.offset = omega arith in
        go_on g limits front back ws vs s id v at q (Reserve r) e refl refl (f.0, λ o h. let z = upto_all m.offset o F (each_once k) full (omega (arith, a.above)) in omega arith))
        (λ z. pick_any Leads ((w / offset_span) == m.block) _ _
        (answers g limits front back ws vs s id v at (answer.Take (taking.Busy _)) refl refl (ap (reading g) e))
        (answers g limits front back ws vs s id v at (answer.Take (taking.Busy _)) refl refl (ap (reading g) e))))
