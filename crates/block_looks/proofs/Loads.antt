-- Each step of a look keeps what is remembered, and what it shows holds.
use Rattle.std.proofs.Common.{◌≡◌, ℕ, suc, ◌+◌, ◌/◌, ◌<◌, ◌≤◌, List, [], ◌∷◌, ◌++◌, length, refl, sym, ap, ◌∙◌, subst, ⊎_elim, arith}
use Rattle.std.specs.Prelude.{Option, Some, None, slice_get, slice_index, take, if◌then◌else◌}
use Rattle.std.specs.List.{AllByRecursion}
use Rattle.std.proofs.lemmas.Bool.{cases_lt}
use Rattle.std.proofs.lemmas.List.{length-append, take_all, take_more}
use Rattle.std.proofs.lemmas.List.Elements.{All-from_recursion}
use Rattle.cursor_word.specs.Shape.{Grid, IsWithinLimits}
use Rattle.cursor_word.specs.Cursor.{cursor, cursor_of, first_of, most_block, offset_span, place_at, unpacked}
use Rattle.cursor_word.specs.declared.cursor.Cursor.{Cursor}
use Rattle.cursor_word.proofs.Places.{offset_of_place, place_of_cursor}
use Rattle.rail.specs.declared.entry.Placed.{Placed}
use Rattle.rail.specs.Items.{placed, places}
use Rattle.put_side.specs.Cursors.{Front, allocated_word, committed_word, place, put_cursors}
use Rattle.put_side.specs.Entries.{IsMade, IsPresent}
use Rattle.put_side.specs.PutTable.{stage_of}
use Rattle.put_side.proofs.Facts.{allocated_to, committed_below, found, physical, repacked}
use Rattle.put_side.proofs.Items.{made_there}
use Rattle.put_side.proofs.SeatItems.{own_item}
use Rattle.put_side.proofs.Sums.{by_test, get_push}
use Rattle.drop_core.specs.Types.{View}
use Rattle.drop_core.specs.Stage.{stage}
use Rattle.drop_core.specs.Sound.{IsSoundAt}
use Rattle.put_side.proofs.Lows.{rows}
use Rattle.put_side.proofs.Choices.{by_equal}
use Rattle.drop_core.proofs.Loads.{committed_from}
use Rattle.put_side.proofs.Moments.{made_words_at}
use Rattle.drop_core.proofs.Reserves.{made_below, overrun}
use Rattle.block_looks.specs.declared.look.Look.TheVariants as look
use Rattle.block_looks.specs.declared.look.Seen.TheVariants as seen
use Rattle.block_looks.specs.declared.look.LookPhase.{LookPhase}
use Rattle.block_looks.specs.declared.look.LookPhase.TheVariants.{Head, HeadA, Com, All as AllOf, Word, Check}
use Rattle.block_looks.specs.declared.look.LookAfter.{LookAfter}
use Rattle.block_looks.specs.declared.look.LookAfter.TheVariants as after
use Rattle.block_looks.specs.declared.looks.Looks.{Looks}
use Rattle.block_looks.specs.Table.{look_after, look_want}
use Rattle.block_looks.specs.Looks.{IsCounted, IsLookedAt, IsLooking, IsOpened, IsReading, LookKnows, LooksHold, MayLook, found_before, look_at_after, looked_after, looked_on, looking_after, phase_after}
use Rattle.block_looks.specs.Shown.{AreBefore, LookShows}
use Rattle.block_looks.proofs.Blocks.{committed_within, near_last, next_below}
use Rattle.block_looks.proofs.Wholes.{all, pick_whole}

-- what holds of each item holds of each place
on_places : (P : ℕ → Type 0) (items : List Placed) → ((i : ℕ) (item : Placed) → slice_get items i ≡ Some item → P item.place) → AllByRecursion P (places items)
on_places P [] f = tt
on_places P (x ∷ xs) f = (f 0 x refl, on_places P xs (λ i item e. f (suc i) item e))

module _ (g : Grid) (f : Front) (ws : List ℕ) (vs : List View) (limits : IsWithinLimits g) (s : IsSoundAt g f ws vs) (small : f.last < most_block) (id : ℕ) (v : View) (here : slice_get vs id ≡ Some v) (looks : Looks) (h : LooksHold g ws vs looks) where
  -- what is remembered after a step by what follows it
  abbrev by_what : LookPhase → ℕ → LookAfter → Looks
  by_what p n b = record {
    phase = phase_after b;
    looking = looking_after looks.looking b;
    looked = looked_after g looks.looked p (found_before g looks p) b;
    look_at = look_at_after looks.look_at p;
    look_trail = found_before g looks p ++ n ∷ [];
  }

  -- the step keeps what is remembered and shows what it is to
  abbrev Steps : LookPhase → ℕ → LookAfter → Type 0
  Steps p n b = LooksHold g ws vs (by_what p n b) × LookShows g v.made p (found_before g looks p) b

  own_below : (block : ℕ) → f.next ≤ place g block 0 → AreBefore g v.made block
  own_below block le = All-from_recursion (λ p. p < first_of g block) (places v.made)
      (on_places (λ p. p < first_of g block) v.made (λ i item e. let b = made_below g f ws vs limits s item record { seat = id; view = v; at = here; number = i; there = e } in omega arith))

  head : Steps Head (slice_index ws 0) (after.Next (HeadA (slice_index ws 0)))
  head = (record { knows = (s.puts.places.words.head_from, omega arith); looking = h.looking; looked = h.looked }, tt)

  head_allocated : (k : ℕ) → looks.phase ≡ Some (HeadA k) → (let n = allocated_word g ws k in Steps (HeadA k) n (after.Head (unpacked n)))
  head_allocated k e =
      let known : (g.blocks ≤ k) × (k ≤ slice_index ws 0) = subst (LookKnows g (put_cursors g ws) vs looks.look_trail) e h.knows in
      let w = s.puts.places.words in
      let is = found w limits.blocks_from (physical g ws 2) k known.1 in (
        record { knows = tt; looking = h.looking; looked = h.looked },
        record {
          first = known.0;
          from = is.from;
          to = let to = is.to in omega arith;
          before = own_below _ (next_below g f ws vs limits s k (let t = w.head_to in let l = known.1 in omega arith));
        },
      )

  committed : (k : ℕ) → g.blocks ≤ k → (let n = committed_word g ws k in Steps (Com k) n (look_after g (Com k) n))
  committed k from =
      let n : ℕ = committed_word g ws k in
      let w = s.puts.places.words in
      by_test (n / offset_span) k (λ b. Steps (Com k) n (if b then after.Block (look.Unopened (unpacked n)) else after.Next (AllOf k (unpacked n))))
      (λ l. (
        record { knows = tt; looking = h.looking; looked = h.looked },
        own_below k (⊎_elim (λ z. let t = allocated_to w in let r = rows g (f.last + 1) k (omega arith) in omega arith)
            (λ z. absurd (let c = committed_from g f ws vs limits s id v here k z in omega (arith, c.0))) (cases_lt f.last k)),
      ))
      (λ l. let to = committed_below w limits.blocks_from (physical g ws 3) k in (
        record {
          knows = record { from = from; later = l; within = committed_within g f ws vs limits s k from (omega arith); known = let r = repacked n in omega arith };
          looking = h.looking;
          looked = h.looked;
        },
        tt,
      ))

  allocated : (k : ℕ) (m : Cursor) → looks.phase ≡ Some (AllOf k m) → (let n = allocated_word g ws k in Steps (AllOf k m) n (look_after g (AllOf k m) n))
  allocated k m e =
      let n : ℕ = allocated_word g ws k in
      let known : IsOpened g (put_cursors g ws) k m = subst (LookKnows g (put_cursors g ws) vs looks.look_trail) e h.knows in
      pick_whole g k m (unpacked n) (λ b. Steps (AllOf k m) n (after.Block b))
      (λ whole. let is = all g f ws vs limits s k m known whole in (
        record {
          knows = tt;
          looking = subst (λ (b : ℕ). IsCounted g vs (cursor b m.offset)) (sym whole.committed) record { from = known.from; within = known.within; made = is.made };
          looked = h.looked;
        },
        (
          All-from_recursion (λ p. (cursor_of g p).block ≡ k → (cursor_of g p).offset < m.offset) (places v.made)
              (on_places (λ p. (cursor_of g p).block ≡ k → (cursor_of g p).offset < m.offset) v.made (λ i item there same.
              let b = made_below g f ws vs limits s item record { seat = id; view = v; at = here; number = i; there = there } in
              let o = offset_of_place g item.place limits in
              let p : place g k (cursor_of g item.place).offset ≡ item.place = ap (λ (z : ℕ). place g z (cursor_of g item.place).offset) (sym same) ∙ place_of_cursor g item.place in
              is.below (cursor_of g item.place).offset o (omega arith))),
          known.within,
        ),
      ))
      (record { knows = tt; looking = h.looking; looked = h.looked }, tt)

  -- the words that were read so far, where a look at an entry begins or goes on
  begins : (looking : Option Cursor) → IsLooking g vs looking → (at : Cursor) → IsLookedAt looking at → IsReading g (put_cursors g ws) vs at 0 []
  begins None k at is = absurd is
  begins (Some c) k at is =
      let made : 1 ≤ _ = k.made at.offset is.1 in
      let m = made_there vs (place g c.block at.offset) made in
      record {
        from = let e = is.0 in let f = k.from in omega arith;
        within = let w = k.within in let l = is.1 in omega arith;
        words = m.0;
        made = subst (λ (b : ℕ). IsMade vs (placed (place g b at.offset) m.0)) (sym is.0) m.1;
        long = refl;
        front = λ p. refl;
      }

  reads : (at : Cursor) (next : ℕ) → MayLook g looks (Word at next) → IsReading g (put_cursors g ws) vs at next (take next looks.look_trail) × (next < g.width)
  reads at next may =
      ⊎_elim
      (λ first. (subst (λ (n : ℕ). IsReading g (put_cursors g ws) vs at n (take n looks.look_trail)) (sym first.0) (begins looks.looking h.looking at first.1), let w = limits.width_from in let z = first.0 in omega arith))
      (λ e. let known : IsReading g (put_cursors g ws) vs at next looks.look_trail × (next < g.width) = subst (LookKnows g (put_cursors g ws) vs looks.look_trail) e h.knows in
      (subst (IsReading g (put_cursors g ws) vs at next) (sym (take_all next looks.look_trail (let l = known.0.long in omega arith))) known.0, known.1))
      may

  word : (at : Cursor) (next : ℕ) → MayLook g looks (Word at next) → (let n = slice_index ws (look_want g (Word at next)) in Steps (Word at next) n (look_after g (Word at next) n))
  word at next may =
      let n : ℕ = slice_index ws (look_want g (Word at next)) in
      let r = reads at next may in
      let of = r.0 in
      let read : List ℕ = take next looks.look_trail in
      let has = made_words_at stage g f ws vs s.puts at of.words of.from of.within of.made in
      let more : IsPresent (allocated_word g ws) at.block → read ++ n ∷ [] ≡ take (next + 1) of.words = λ z.
      let short : next < length of.words = omega (arith, r.1, has.1) in
      ap (λ (l : List ℕ). l ++ n ∷ []) (of.front z) ∙ ap (λ (y : ℕ). take next of.words ++ y ∷ []) (has.0 z next r.1) ∙ sym (take_more of.words next 0 short) in
      let long : length (read ++ n ∷ []) ≡ next + 1 = let a = length-append read (n ∷ []) in let b = of.long in omega arith in
      let now : IsReading g (put_cursors g ws) vs at (next + 1) (read ++ n ∷ []) = record { from = of.from; within = of.within; words = of.words; made = of.made; long = long; front = more } in
      by_test (next + 1) g.width (λ b. Steps (Word at next) n (if b then after.Next (Word at (next + 1)) else after.Next (Check at)))
      (λ l. (record { knows = (now, l); looking = h.looking; looked = h.looked }, (of.within, l)))
      (λ l. (
        record {
          knows = let z : next + 1 ≡ g.width = omega (arith, r.1) in subst (λ (k : ℕ). IsReading g (put_cursors g ws) vs at k (read ++ n ∷ [])) z now;
          looking = h.looking;
          looked = h.looked;
        },
        tt,
      ))

  check : (at : Cursor) → looks.phase ≡ Some (Check at) → (let n = allocated_word g ws at.block in Steps (Check at) n (look_after g (Check at) n))
  check at e =
      let n : ℕ = allocated_word g ws at.block in
      let of : IsReading g (put_cursors g ws) vs at g.width looks.look_trail = subst (LookKnows g (put_cursors g ws) vs looks.look_trail) e h.knows in
      let read : List ℕ = take g.width looks.look_trail in
      let all_read : read ≡ looks.look_trail = take_all g.width looks.look_trail (let l = of.long in omega arith) in
      let has = made_words_at stage g f ws vs s.puts at of.words of.from of.within of.made in
      by_equal (n / offset_span) at.block (λ b. Steps (Check at) n (if b then after.Entry seen.Whole else after.Entry (seen.Reused (unpacked n))))
      (λ same. let present : IsPresent (allocated_word g ws) at.block = omega arith in
      let whole : of.words ≡ read = sym (all_read ∙ of.front present ∙ take_all g.width of.words (omega (arith, has.1))) in
      let made : IsMade vs (placed (place_at g at) read) = subst (λ (l : List ℕ). IsMade vs (placed (place_at g at) l)) whole of.made in (
        record {
          knows = tt;
          looking = h.looking;
          looked = λ i item q. ⊎_elim (λ old. h.looked i item old) (λ new. subst (IsMade vs) new made) (get_push looks.looked (placed (place_at g at) read) i item q);
        },
        (λ words mine. own_item (stage_of stage) g f (put_cursors g ws) vs s.puts.places id v here (place_at g at) words read made mine),
      ))
      (λ other. (
        record { knows = tt; looking = h.looking; looked = h.looked },
        let b = made_below g f ws vs limits s _ of.made in
            let t = allocated_to s.puts.places.words in
            let in_block : at.block ≤ f.last = ⊎_elim (λ z. let r = rows g (f.last + 1) at.block (omega arith) in absurd (omega arith)) (λ z. omega arith) (cases_lt f.last at.block) in
            let far = overrun g f ws vs limits s at of.words of.from in_block of.within of.made other in
            let near = near_last g f ws vs limits s at.block in_block in omega arith,
      ))

  -- each step of a look that may be done
  pub looks_on : (p : LookPhase) → MayLook g looks p → (let n = slice_index ws (look_want g p) in LooksHold g ws vs (looked_on g looks p n) × LookShows g v.made p (found_before g looks p) (look_after g p n))
  looks_on Head may = head
  looks_on (HeadA k) may = head_allocated k may
  looks_on (Com k) may = committed k may
  looks_on (AllOf k m) may = allocated k m may
  looks_on (Word at next) may = word at next may
  looks_on (Check at) may = check at may
