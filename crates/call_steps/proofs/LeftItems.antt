-- Reading what is left, word by word and place by place.
use Rattle.std.proofs.Common.{◌≡◌, ℕ, zero, suc, ◌+◌, ◌-◌, ◌%◌, ◌<◌, ◌≤◌, List, [], ◌∷◌, ◌++◌, length, map, set, take, refl, sym, ap, ◌∙◌, append_assoc, arith}
use Rattle.std.specs.Prelude.{Bool, cond, filter, slice_index}
use Rattle.std.specs.List.{range_with_len}
use mathlib.Core.Option.{some}
use lib.ListN.{get_elem?}
use Rattle.std.proofs.lemmas.List.{take_more_set}
use Rattle.std.proofs.lemmas.List.FromFn.{filter_of_map_range_with_len_more, map-range_with_len_more}
use Rattle.cursor_word.specs.Shape.{Grid}
use Rattle.cursor_word.specs.Cursor.{cursor_of}
use Rattle.cursor_word.specs.Layout.{entry_index}
use Rattle.cursor_word.specs.declared.cursor.Cursor.{Cursor}
use Rattle.rail.specs.declared.entry.Placed.{Placed}
use Rattle.rail.specs.Items.{placed}
use Rattle.machine.specs.Entries.{entry_at}
use Rattle.call_laws.specs.Left.{is_unreserved, unreserved_in}
use Rattle.machine.specs.Entries.{left_in}

map_more : {X : Type 0} (f : ℕ → X) (a n : ℕ) → map f (range_with_len a (suc n)) ≡ map f (range_with_len a n) ++ f (a + n) ∷ []
map_more f a n = let one : suc n ≡ n + 1 = omega arith in ap (λ (k : ℕ). map f (range_with_len a k)) one ∙ map-range_with_len_more f a n (a + n) refl

pub read_some : (words : List ℕ) (i x : ℕ) → get_elem? words i ≡ some x → slice_index words i ≡ x
read_some [] i x e = cc
read_some (w ∷ ws) zero x e = cc
read_some (w ∷ ws) (suc i) x e = read_some ws i x e

-- the words of an entry, one more
pub entry_more : (words stopped : List ℕ) (g : Grid) (at : Cursor) (w x : ℕ) → w < length words → take w words ≡ map (λ (k : ℕ). slice_index stopped (entry_index g (at.block % g.blocks) at.offset k)) (range_with_len 0 w)
    → get_elem? stopped (entry_index g (at.block % g.blocks) at.offset w) ≡ some x → take (w + 1) (set words w x) ≡ map (λ (k : ℕ). slice_index stopped (entry_index g (at.block % g.blocks) at.offset k)) (range_with_len 0 (w + 1))
entry_more words stopped g at w x within front found =
    let f : ℕ → ℕ = λ (k : ℕ). slice_index stopped (entry_index g (at.block % g.blocks) at.offset k) in
    let from_zero : w ≡ 0 + w = omega arith in
    let next : suc w ≡ w + 1 = omega arith in
    let is : x ≡ f w = sym (read_some stopped (entry_index g (at.block % g.blocks) at.offset w) x found) in
    take_more_set words w x within ∙ (ap (λ (l : List ℕ). l ++ x ∷ []) front ∙ (ap (λ (n : ℕ). map f (range_with_len 0 w) ++ n ∷ []) (is ∙ ap f from_zero) ∙ (sym (map_more f 0 w) ∙ ap (λ (n : ℕ). map f (range_with_len 0 n)) next)))

pub entry_done : (words stopped : List ℕ) (g : Grid) (at : Cursor) (place w width : ℕ) → at ≡ cursor_of g place → w ≡ width → width ≡ g.width
    → take w words ≡ map (λ (k : ℕ). slice_index stopped (entry_index g (at.block % g.blocks) at.offset k)) (range_with_len 0 w) → take width words ≡ entry_at g stopped place
entry_done words stopped g at place w width is end wide front =
    ap (λ (n : ℕ). take n words) (sym end) ∙ (front ∙ (ap (λ (c : Cursor). map (λ (k : ℕ). slice_index stopped (entry_index g (c.block % g.blocks) c.offset k)) (range_with_len 0 w)) is
    ∙ ap (λ (n : ℕ). map (λ (k : ℕ). slice_index stopped (entry_index g ((cursor_of g place).block % g.blocks) (cursor_of g place).offset k)) (range_with_len 0 n)) (end ∙ wide)))

-- the items that are left, one more
pub left_more : (g : Grid) (stopped : List ℕ) (from place : ℕ) (old items : List Placed) (x : Placed) → from ≤ place → items ≡ old ++ left_in g stopped from place → x ≡ placed place (entry_at g stopped place)
    → items ++ x ∷ [] ≡ old ++ left_in g stopped from (place + 1)
left_more g stopped from place old items x le so_far is =
    let f : ℕ → Placed = λ (p : ℕ). placed p (entry_at g stopped p) in
    let one : place + 1 - from ≡ suc (place - from) = omega arith in
    let last : from + (place - from) ≡ place = omega arith in
    ap (λ (l : List Placed). l ++ x ∷ []) so_far ∙ (append_assoc old (left_in g stopped from place) (x ∷ [])
    ∙ ap (λ (l : List Placed). old ++ l)
    (ap (λ (y : Placed). left_in g stopped from place ++ y ∷ []) (is ∙ ap f (sym last)) ∙ sym (ap (λ (n : ℕ). map f (range_with_len from n)) one ∙ map_more f from (place - from))))

-- those whose places no take has reserved, with one place more
pub unreserved_more : (g : Grid) (stopped : List ℕ) (from place : ℕ) (old items : List Placed) (free : Bool) → from ≤ place → items ≡ old ++ unreserved_in g stopped from place → is_unreserved g stopped (placed place []) ≡ free
    → items ++ cond free (placed place (entry_at g stopped place) ∷ []) [] ≡ old ++ unreserved_in g stopped from (place + 1)
unreserved_more g stopped from place old items free le so_far is =
    let f : ℕ → Placed = λ (p : ℕ). placed p (entry_at g stopped p) in
    let one : place + 1 - from ≡ place - from + 1 = omega arith in
    let last : from + (place - from) ≡ place = omega arith in
    let more = filter_of_map_range_with_len_more (is_unreserved g stopped) f from (place - from) place last in
    ap (λ (l : List Placed). l ++ cond free (f place ∷ []) []) so_far ∙ (append_assoc old (unreserved_in g stopped from place) (cond free (f place ∷ []) [])
    ∙ ap (λ (l : List Placed). old ++ l)
    (ap (λ (b : Bool). unreserved_in g stopped from place ++ cond b (f place ∷ []) []) (sym is) ∙ sym (ap (λ (n : ℕ). filter (is_unreserved g stopped) (map f (range_with_len from n))) one ∙ more)))
