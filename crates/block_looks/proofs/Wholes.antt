-- A look at a block that found it whole: all entries of it before the committed offset are made, and no other.
use Rattle.std.proofs.Common.{◌≡◌, ℕ, ◌+◌, ◌/◌, ◌%◌, ◌<◌, ◌≤◌, ◌⊎◌, List, Bool, sym, ap, ◌∙◌, inl, inr, ⊎_elim, arith}
use Rattle.std.specs.Prelude.{◌==◌, ◌&&◌, ◌||◌, if◌then◌else◌}
use Rattle.std.specs.List.{sum_by}
use Rattle.std.proofs.lemmas.Bool.{cases_lt}
use Rattle.std.proofs.lemmas.List.Sums.{sum_by-le-sum_by}
use Rattle.cursor_word.specs.Shape.{Grid, IsWithinLimits}
use Rattle.cursor_word.specs.Cursor.{offset_span, unpacked}
use Rattle.cursor_word.specs.declared.cursor.Cursor.{Cursor}
use Rattle.cursor_word.proofs.Blocks.{shifted}
use Rattle.put_side.specs.Cursors.{Front, allocated_word, committed_word, place, put_cursors}
use Rattle.put_side.specs.Counts.{claims, makes, sum_below}
use Rattle.put_side.specs.PutTable.{stage_of}
use Rattle.put_side.proofs.Facts.{allocated_below, physical}
use Rattle.put_side.proofs.Frames.{makes_le}
use Rattle.put_side.proofs.Sums.{none_from, upto_all, upto_cut, upto_le}
use Rattle.drop_core.specs.Types.{View}
use Rattle.drop_core.specs.Stage.{stage}
use Rattle.drop_core.specs.Sound.{IsSoundAt}
use Rattle.put_side.proofs.Choices.{by_equal}
use Rattle.block_looks.specs.declared.look.Look.{Look}
use Rattle.block_looks.specs.declared.look.Look.TheVariants as look
use Rattle.block_looks.specs.Table.{look_of}
use Rattle.block_looks.specs.Looks.{IsOpened}
use Rattle.block_looks.proofs.Blocks.{far_made, near_last, once}

-- both cursors are of the block, and all of it is committed, or all that is allocated
pub record IsWhole (g : Grid) (k : ℕ) (m a : Cursor) : Type 0 where
  pub committed : m.block ≡ k
  pub allocated : a.block ≡ k
  pub full : (m.offset ≡ g.size) ⊎ (a.offset ≡ m.offset)

pub pick_whole : (g : Grid) (k : ℕ) (m a : Cursor) (P : Look → Type 0) → (IsWhole g k m a → P (look.Whole m.offset m a)) → P (look.Gap m a) → P (look_of g k m a)
pick_whole g k m a P hit miss =
    let inner : Bool → Look = λ b. if b then look.Whole m.offset m a else look.Gap m a in
    by_equal m.block k (λ b. P (if b && (a.block == k) then inner ((m.offset == g.size) || (a.offset == m.offset)) else look.Gap m a))
    (λ c. by_equal a.block k (λ b. P (if b then inner ((m.offset == g.size) || (a.offset == m.offset)) else look.Gap m a))
    (λ d. by_equal m.offset g.size (λ b. P (inner (b || (a.offset == m.offset))))
    (λ e. hit record { committed = c; allocated = d; full = inl e })
    (λ n. by_equal a.offset m.offset (λ b. P (inner b)) (λ e. hit record { committed = c; allocated = d; full = inr e }) (λ n. miss)))
    (λ n. miss))
    (λ n. miss)

module _ (g : Grid) (f : Front) (ws : List ℕ) (vs : List View) (limits : IsWithinLimits g) (s : IsSoundAt g f ws vs) (k : ℕ) (m : Cursor) (known : IsOpened g (put_cursors g ws) k m) (whole : IsWhole g k m (unpacked (allocated_word g ws k))) where
  abbrev Made : Type 0
  Made = (o : ℕ) → o < m.offset → 1 ≤ sum_by (makes (place g k o)) vs

  -- what is made of the block, and that all that is allocated of it has offsets below the count
  pub record IsAll : Type 0 where
    pub made : Made
    pub below : (o : ℕ) → o < g.size → place g k o < f.next → o < m.offset

  all_of : m.offset ≡ g.size → ((o : ℕ) → o < g.size → 1 ≤ sum_by (makes (place g k o)) vs) → IsAll
  all_of full made = record { made = λ o l. made o (omega arith); below = λ o l b. omega arith }

  opened : k ≤ f.last
  opened = let b = allocated_below s.puts.places.words limits.blocks_from (physical g ws 2) k in let a = whole.allocated in omega arith

  -- where the block is one of the newest
  module _ (near : f.last < k + g.blocks) where
    own : committed_word g ws k / offset_span ≡ k
    own = s.puts.places.words.committed k opened near

    much : m.offset ≤ committed_word g ws k % offset_span
    much = let o = own in let c = whole.committed in omega (arith, known.known)

    count : committed_word g ws k % offset_span ≡ sum_below g.size (λ o. sum_by (makes (place g k o)) vs)
    count = s.puts.places.counts.made k opened near known.from

    one : (o : ℕ) → sum_by (makes (place g k o)) vs ≤ 1
    one o = once g f ws vs limits s k o

    whole_counts : m.offset ≡ g.size → (o : ℕ) → o < g.size → sum_by (makes (place g k o)) vs ≡ 1
    whole_counts full o l =
        let most = upto_le g.size (λ o. sum_by (makes (place g k o)) vs) one in
        let is : sum_below g.size (λ o. sum_by (makes (place g k o)) vs) ≡ g.size = omega (arith, much, count) in
        upto_all g.size o (λ o. sum_by (makes (place g k o)) vs) one is l

    full_all : m.offset ≡ g.size → IsAll
    full_all full = all_of full (λ o l. let z = whole_counts full o l in omega arith)

    -- all that is allocated of the last block is committed
    open_all : f.next ≡ place g k m.offset → IsAll
    open_all edge =
        let none : (o : ℕ) → m.offset ≤ o → sum_by (makes (place g k o)) vs ≡ 0 = λ o l.
        let z = none_from (place g k o) f.next (omega arith) in let y = s.puts.places.counts.once (place g k o) in let u = sum_by-le-sum_by (makes (place g k o)) (claims (stage_of stage) g (place g k o)) vs (makes_le (stage_of stage) g (place g k o)) in omega arith in
        let cut = upto_cut g.size m.offset (λ o. sum_by (makes (place g k o)) vs) known.within none in
        let most = upto_le m.offset (λ o. sum_by (makes (place g k o)) vs) one in
        let is : sum_below m.offset (λ o. sum_by (makes (place g k o)) vs) ≡ m.offset = omega (arith, much, count) in
        record {
          made = λ o l. let z = upto_all m.offset o (λ o. sum_by (makes (place g k o)) vs) one is l in omega arith;
          below = λ o l b. omega arith;
        }

    near_all : IsAll
    near_all =
        ⊎_elim full_all
        (λ e. ⊎_elim (λ n. let u = s.puts.places.words.full k n near in full_all (let b = known.within in omega (arith, u.1)))
        (λ n. let top : k ≡ f.last = omega (arith, opened) in
        let r = ap (allocated_word g ws) top in
        ⊎_elim (λ q. let w = known.within in let at : f.next ≡ place g f.last m.offset = q.at ∙ ap (place g f.last) (omega arith) in open_all (at ∙ ap (λ (b : ℕ). place g b m.offset) (sym top)))
        (λ q. absurd (let a = whole.allocated in omega (arith, q.older, limits.blocks_from))) s.puts.places.words.newest)
        (cases_lt k f.last)) whole.full

  half_open : f.last ≡ k + g.blocks → g.size ≤ allocated_word g ws k % offset_span
  half_open e =
      let a = whole.allocated in
      let z : allocated_word g ws f.last ≡ allocated_word g ws k = physical g ws 2 f.last k (sym (shifted g.blocks k f.last (sym e))) in
      ⊎_elim (λ q. absurd (omega (arith, q.block, limits.blocks_from))) (λ q. omega (arith, q.filled)) s.puts.places.words.newest

  -- where it is the next to make way
  far_all : k + g.blocks ≤ f.last → IsAll
  far_all far =
      let a = whole.allocated in
      let reach = near_last g f ws vs limits s k opened in
      let filled = half_open (omega arith) in
      all_of (⊎_elim (λ e. e) (λ e. let w = known.within in omega arith) whole.full) (λ o l. far_made g f ws vs limits s k o known.from far l)

  pub all : IsAll
  all = ⊎_elim near_all far_all (cases_lt f.last (k + g.blocks))
