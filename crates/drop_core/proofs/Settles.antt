-- Where all seats are at rest: the accepted items of the blocks that aren't reused stand in the words, and the reserved cursors tell what is left.
use Rattle.std.proofs.Common.{◌≡◌, ℕ, ◌+◌, ◌-◌, ◌*◌, ◌/◌, ◌<◌, ◌≤◌, ◌⊎◌, List, [], ◌++◌, Bool, true, false, length, get_or, refl, sym, ap, ◌∙◌, ⊎_elim, arith, append-nil, ◌%◌, subst}
use Rattle.std.specs.Prelude.{Option, Contains, filter, map, nat_le, ◌&&◌, not, ◌==◌}
use Rattle.std.specs.List.{range_with_len, sum_by, list_any}
use Rattle.std.proofs.lemmas.Bool.{cases_lt}
use Rattle.std.proofs.lemmas.Bool.Decides.{nat_tests}
use Rattle.std.proofs.lemmas.List.{same_lists}
use Rattle.std.proofs.lemmas.List.FromFn.{get_or-map-range_with_len, length-map-range_with_len}
use Rattle.std.proofs.lemmas.Nat.{div-add-mod', mod_below}
use Rattle.std.proofs.lemmas.Option.{get_or_from_slice_get, slice_get-get_or}
use Rattle.std.proofs.Math.Nat.{mul-le-mul_right}
use Rattle.cursor_word.specs.Shape.{Grid, IsWithinLimits}
use Rattle.cursor_word.specs.Cursor.{low, offset_span}
use Rattle.rail.specs.declared.entry.Placed.{Placed}
use Rattle.rail.specs.Items.{placed, places}
use Rattle.rail.specs.Outcome.{is_left, numbers_below, DropOutcome}
use Rattle.machine.specs.Invariant.{made_total}
use Rattle.machine.specs.Steps.{AllRest, MachineState}
use Rattle.put_side.specs.Cursors.{place, Front, put_cursors}
use Rattle.put_side.specs.Counts.{times}
use Rattle.put_side.specs.PutTable.{stage_in, stage_of}
use Rattle.put_side.proofs.Facts.{allocated_to, place_next}
use Rattle.put_side.proofs.Stores.{made_block}
use Rattle.put_side.proofs.Moments.{still_present}
use Rattle.drop_core.specs.declared.phase.DropPhase.{DropPhase}
use Rattle.drop_core.specs.Types.{View}
use Rattle.drop_core.specs.Stage.{stage}
use Rattle.drop_core.specs.Counts.{fetches, reading}
use Rattle.drop_core.specs.Gathered.{IsSettled, left_in}
use Rattle.drop_core.specs.Sound.{IsSound, IsSoundAt}
use Rattle.machine.specs.Entries.{entry_at}
use Rattle.put_side.specs.Gathered.{all_made, all_taken}
use Rattle.put_side.proofs.Orders.{in_order, order_length, stands_at, stands_from}
use Rattle.put_side.proofs.Filters.{filter_like, any_there, filter_same, filter_skips, none_there}
use Rattle.put_side.proofs.Lows.{low_at, of_place}
use Rattle.put_side.proofs.Gathers.{StandsIn, distinct, stands_in, taken_stands, times_all}
use Rattle.put_side.proofs.Rests.{NonePuts, claims_all, claims_number, last_entered, made_at}
use Rattle.put_side.proofs.Sums.{sum_alike}
use Rattle.rail.proofs.Newest.{keeps_newest}
use Rattle.call_laws.specs.Left.{is_unreserved, unreserved_in}
use Rattle.drop_core.specs.Words.{cursors}

-- what holds of the test that an item is left
left_from : (a b : Bool) → (a && b) ≡ true → a ≡ true
left_from true b e = refl
left_from false b e = e

le_of : (a b : ℕ) → nat_le a b ≡ true → a ≤ b
le_of a b e = grind (arith, nat_tests)

-- within a list the default is of no matter
swap_default : (xs : List Placed) (i : ℕ) (d e : Placed) → i < length xs → get_or xs i e ≡ get_or xs i d
swap_default xs i d e h = sym (get_or_from_slice_get xs i _ d (slice_get-get_or xs i e h))

refl_at : (xs : List Placed) (i : ℕ) (e : Placed) → i < length xs → get_or xs i (get_or xs i e) ≡ get_or xs i e
refl_at xs i e h = swap_default xs i e (get_or xs i e) h

item_is : (i : ℕ) (d e : Placed) (xs : List Placed) → i < length xs → (get_or xs i d).place ≡ i → placed i (get_or xs i d).words ≡ get_or xs i e
item_is i d e xs h p = (let z : placed i (get_or xs i d).words ≡ get_or xs i d = λ k. record { place = sym p k; words = (get_or xs i d).words } in z) ∙ swap_default xs i e d h

rows_of : (q w : ℕ) → 1 ≤ w → q < (q / w + 1) * w
rows_of q w h = let d = div-add-mod' q w in let m = mod_below q w h in omega arith

-- a place from the oldest block on that isn't reused, where the last of n places lies in block K
pub low_is : (g : Grid) (n K : ℕ) → IsWithinLimits g → g.blocks ≤ K → n ≤ place g K g.size → ((K ≡ g.blocks) ⊎ (place g K 0 < n)) → (q : ℕ) → low g n ≤ q → q < n → K < g.blocks + q / g.size + g.blocks
low_is g n K limits from most some q le less =
    let is = low_at g n K limits from most some in
    ⊎_elim
    (λ l. let m : (q / g.size + 1) * g.size ≤ (K + 1 - g.blocks - g.blocks) * g.size = mul-le-mul_right g.size (omega arith) in
    let d = rows_of q g.size limits.size_from in absurd (omega arith))
    (λ l. omega arith)
    (cases_lt (q / g.size) (K + 1 - g.blocks - g.blocks))

module _ (g : Grid) (f : Front) (ws : List ℕ) (vs : List View) (limits : IsWithinLimits g) (s : IsSoundAt g f ws vs) (rest : AllRest vs) where
  pub none_puts : NonePuts (stage_of stage) vs
  none_puts j u at = ap (stage_in stage) (rest j u at)

  -- an item from the oldest block on that isn't reused stands in the words
  kept_words : (x : Placed) → StandsIn (λ (v : View). v.made) vs x → low g f.next ≤ x.place → x.place < f.next → entry_at g ws x.place ≡ x.words
  kept_words x m from below =
      let w = s.puts.places.words in
      let k : ℕ = g.blocks + x.place / g.size in
      let edge = allocated_to w in
      let near = low_is g f.next f.last limits w.from (let z = place_next g f.last w.from in omega arith) (last_entered (stage_of stage) g f vs none_puts (put_cursors g ws) s.manned) x.place from below in
      let to : k ≤ f.last = made_block (stage_of stage) g limits f ws vs s.puts.places m.seat m.view m.number x m.at m.there in
      made_at (stage_of stage) g ws m.view m.number x (s.puts.entries m.seat m.view m.at) m.there (still_present stage g f ws vs s.puts limits k to near)

  -- at rest nothing is being read
  pub takes_all : (p : ℕ) → sum_by (fetches g p) vs ≡ times p (places (all_taken vs))
  takes_all p = sum_alike (fetches g p) (λ (v : View). times p (places v.taken)) vs (λ j u at. ap (times p) (ap (λ (ph : Option DropPhase). places u.taken ++ reading g ph) (rest j u at) ∙ append-nil (places u.taken))) ∙ sym (times_all (λ (v : View). v.taken) p vs)

  pub settled_at : IsSettled g (record { words = ws; views = vs })
  settled_at =
      let a : ℕ = f.next in
      let made = in_order a (all_made vs) (λ p. sym (claims_all (stage_of stage) g f vs none_puts p) ∙ s.puts.places.counts.once p) in
      let n = order_length (all_made vs) a made in
      let total : a ≡ made_total vs = sym s.puts.places.counts.number ∙ claims_number (stage_of stage) g f vs none_puts in
      let d : Placed = placed 0 [] in
      let words : ℕ → List ℕ = λ q. (get_or made.list q d).words in
      let taken : List Placed = all_taken vs in
      let list_is : map (λ (q : ℕ). placed q (words q)) (range_with_len 0 a) ≡ made.list =
      same_lists (map (λ (q : ℕ). placed q (words q)) (range_with_len 0 a)) made.list (length-map-range_with_len _ 0 a ∙ sym n)
      (λ i e h. let l : i < a = let z = length-map-range_with_len (λ (q : ℕ). placed q (words q)) 0 a in omega arith in
      let x = stands_from (all_made vs) a made i d l in
      let y = stands_from (all_made vs) a made i e l in
      let xe : x.0 ≡ get_or made.list i d = sym x.3 in
      get_or-map-range_with_len _ 0 a i i e l (omega arith) ∙ item_is i d e made.list (let z = n in omega arith) (ap (λ (z : Placed). z.place) x.3 ∙ x.2)) in
      let like = filter_like (is_left g a taken) (entry_at g ws) words a (λ q x y. refl)
      (λ q l t. let x = stands_from (all_made vs) a made q d l in
      let from = le_of (low g a) q (left_from _ _ t) in
      let k = kept_words x.0 (stands_in (λ (v : View). v.made) vs x.0 x.1) (let e = x.2 in omega arith) (let e = x.2 in omega arith) in
      ap (entry_at g ws) (sym x.2) ∙ k ∙ ap (λ (z : Placed). z.words) (sym x.3)) in
      let outcome : DropOutcome g made.list taken (left_in g ws taken (made_total vs)) = record {
        taken_accepted = λ i e h. let c : Contains taken (get_or taken i e) = (i, h, refl_at taken i e h) in let m = stands_at (all_made vs) a made (get_or taken i e) d ((taken_stands vs (λ j u at. (s.each j u at).items)) (get_or taken i e) c) in ((get_or taken i e).place, (let z = n in omega (arith, m.0)), swap_default made.list (get_or taken i e).place d (get_or taken i e) (let z = n in omega (arith, m.0)) ∙ m.1);
        taken_once = distinct (places taken) (λ p. let e = takes_all p in let o = s.counts.once p in omega arith);
        rest_left = ap (left_in g ws taken) (sym total) ∙ like ∙ ap (λ (l : List Placed). filter (is_left g a taken) l) list_is ∙ ap (λ (k : ℕ). filter (is_left g k taken) made.list) (sym n);
      } in
      let gap : places made.list ≡ numbers_below (length made.list) = made.no_gap ∙ ap numbers_below (sym n) in
      record {
        accepted = made.list;
        is_accepted = record { all_made = made.same; no_gap = gap };
        outcome = outcome;
        newest = keeps_newest g made.list taken (left_in g ws taken (made_total vs)) limits outcome gap;
      }

pub settled : (g : Grid) (w : MachineState DropPhase) → IsWithinLimits g → IsSound g w.words w.views → AllRest w.views → IsSettled g w
settled g w limits k rest = settled_at g k.front w.words w.views limits k.at rest

le_holds : (a b : ℕ) → a ≤ b → nat_le a b ≡ true
le_holds a b le = grind (arith, nat_tests)

le_fails : (a b : ℕ) → b < a → nat_le a b ≡ false
le_fails a b less = grind (arith, nat_tests)

module _ (g : Grid) (f : Front) (ws : List ℕ) (vs : List View) (limits : IsWithinLimits g) (s : IsSoundAt g f ws vs) (rest : AllRest vs) where
  -- of the blocks that aren't reused, a place is taken where it is reserved
  live_left : (q : ℕ) → low g f.next ≤ q → q < f.next → is_left g f.next (all_taken vs) (placed q (entry_at g ws q)) ≡ is_unreserved g ws (placed q (entry_at g ws q))
  live_left q from below =
      let k : ℕ = g.blocks + q / g.size in
      let o : ℕ = q % g.size in
      let is = of_place g q limits.size_from in
      let edge = allocated_to s.puts.places.words in
      let near = low_is g f.next f.last limits s.puts.places.words.from (let z = place_next g f.last s.puts.places.words.from in omega arith) (last_entered (stage_of stage) g f vs (none_puts g f ws vs limits s rest) (put_cursors g ws) s.manned) q from below in
      let all = takes_all g f ws vs limits s rest q in
      let live = le_holds (low g f.next) q from in
      let test : (b : Bool) → list_any (λ (t : Placed). t.place == q) (all_taken vs) ≡ b → is_left g f.next (all_taken vs) (placed q (entry_at g ws q)) ≡ not b =
      λ b e. ap (λ (l : Bool). l && not (list_any (λ (t : Placed). t.place == q) (all_taken vs))) live ∙ ap not e in
      ⊎_elim
      (λ none. test false (none_there (all_taken vs) q (omega arith))
      ∙ sym (le_holds _ _ (⊎_elim (λ less. absurd (let c = s.counts.kept k o (omega arith) near is.1 less in let e = ap (λ (p : ℕ). sum_by (fetches g p) vs) is.0 in omega arith)) (λ le. le) (cases_lt (k * offset_span + o) ((cursors g ws).reserved k)))))
      (λ some. test true (any_there (all_taken vs) q some)
      ∙ sym (le_fails _ _ (s.counts.gone k o (omega arith) is.1 (subst (λ (p : ℕ). 1 ≤ sum_by (fetches g p) vs) (sym is.0) (omega arith)))))
      (cases_lt (times q (places (all_taken vs))) 1)

  pub left_unreserved : low g f.next ≤ f.next → left_in g ws (all_taken vs) f.next ≡ unreserved_in g ws (low g f.next) f.next
  left_unreserved within =
      let item : ℕ → Placed = λ (p : ℕ). placed p (entry_at g ws p) in
      let first : ℕ = low g f.next in
      let left : Placed → Bool = is_left g f.next (all_taken vs) in
      let whole : f.next ≡ first + (f.next - first) = omega arith in
      ap (λ (n : ℕ). filter left (map item (range_with_len 0 n))) whole
      ∙ filter_skips item left first (f.next - first) 0 (λ k le less. ap (λ (b : Bool). b && not (list_any (λ (t : Placed). t.place == k) (all_taken vs))) (le_fails first k (omega arith)))
      ∙ ap (λ (a : ℕ). filter left (map item (range_with_len a (f.next - first)))) (let z : 0 + first ≡ first = omega arith in z)
      ∙ filter_same item left (is_unreserved g ws) (f.next - first) first (λ k le less. live_left k le (omega arith))

-- what is left of a queue at rest is what no take has reserved from the oldest block on that isn't reused
pub left_is : (g : Grid) (ws : List ℕ) (vs : List View) → IsWithinLimits g → IsSound g ws vs → AllRest vs → low g (made_total vs) ≤ made_total vs → left_in g ws (all_taken vs) (made_total vs) ≡ unreserved_in g ws (low g (made_total vs)) (made_total vs)
left_is g ws vs limits k rest within =
    let s = k.at in
    let total : k.front.next ≡ made_total vs = sym s.puts.places.counts.number ∙ claims_number (stage_of stage) g k.front vs (none_puts g k.front ws vs limits s rest) in
    subst (λ (n : ℕ). low g n ≤ n → left_in g ws (all_taken vs) n ≡ unreserved_in g ws (low g n) n) total (left_unreserved g k.front ws vs limits s rest) within
