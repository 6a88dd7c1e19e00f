-- What the side of puts tells where no seat is in a put.
use Rattle.std.proofs.Common.{◌≡◌, ℕ, ◌/◌, ◌<◌, ◌⊎◌, List, ◌++◌, length, refl, sym, ap, ◌∙◌, ⊎_elim, arith, append-nil}
use Rattle.std.specs.Prelude.{Some, slice_get}
use Rattle.std.specs.List.{sum_by}
use Rattle.std.proofs.lemmas.List.{length-map, ext_get_or}
use Rattle.std.proofs.lemmas.List.FromFn.{get_or-map-range_with_len, length-map-range_with_len}
use Rattle.cursor_word.specs.Shape.{Grid}
use Rattle.cursor_word.specs.Cursor.{cursor_of, offset_span}
use Rattle.rail.specs.declared.entry.Placed.{Placed}
use Rattle.rail.specs.Items.{places}
use Rattle.machine.specs.declared.view.View.{View}
use Rattle.machine.specs.Invariant.{made_count, made_total}
use Rattle.put_side.specs.Cursors.{Front, PutCursors, allocated_word, place}
use Rattle.put_side.specs.Stages.{PutStage, held}
use Rattle.put_side.specs.Stages.{Away}
use Rattle.put_side.specs.Counts.{claim_count, claims, makes, times}
use Rattle.put_side.specs.Entries.{HasEntries, IsPresent}
use Rattle.machine.specs.Entries.{entry_at}
use Rattle.put_side.specs.Gathered.{all_made}
use Rattle.put_side.specs.Manned.{IsManned, enters, in_all, opens_allocated, raises_producer}
use Rattle.put_side.proofs.Sums.{sum_alike, sum_none}
use Rattle.put_side.proofs.Gathers.{times_all}

-- no seat is in a put
abbrev pub NonePuts : {P : Type 0} → (View P → PutStage) → List (View P) → Type 0
NonePuts {P} stage vs = (j : ℕ) (u : View P) → slice_get vs j ≡ Some u → stage u ≡ Away

module _ {P : Type 0} (stage : View P → PutStage) (g : Grid) (front : Front) (vs : List (View P)) (none : NonePuts stage vs) where
  none_in_all : (f : PutStage → ℕ) → f Away ≡ 0 → in_all stage f vs ≡ 0
  none_in_all f z = sum_none (λ (u : View P). f (stage u)) vs (λ j u at. ap f (none j u at) ∙ z)

  module _ (cs : PutCursors) (m : IsManned stage g front cs vs) where
    -- the last block is open to puts, the head stands at it, and it isn't empty unless it is the first
    pub last_open : cs.allocated front.last / offset_span ≡ front.last
    last_open = ⊎_elim (λ z. z) (λ z. absurd (let n = none_in_all (opens_allocated front.last) refl in omega arith)) m.allocated

    pub last_head : cs.producer ≡ front.last
    last_head = ⊎_elim (λ z. z) (λ z. absurd (let n = none_in_all (raises_producer front.last) refl in omega arith)) m.producer

    pub last_entered : (front.last ≡ g.blocks) ⊎ (place g front.last 0 < front.next)
    last_entered = ⊎_elim (λ z. z) (λ z. absurd (let n = none_in_all (enters front.last) refl in omega arith)) m.entered

  -- nothing is held
  claims_made : (u : View P) → stage u ≡ Away → places u.made ++ held g (stage u) ≡ places u.made
  claims_made u e = ap (λ (s : PutStage). places u.made ++ held g s) e ∙ append-nil (places u.made)

  pub claims_makes : (p : ℕ) → sum_by (claims stage g p) vs ≡ sum_by (makes p) vs
  claims_makes p = sum_alike (claims stage g p) (makes p) vs (λ j u at. ap (times p) (claims_made u (none j u at)))

  pub claims_all : (p : ℕ) → sum_by (claims stage g p) vs ≡ times p (places (all_made vs))
  claims_all p = claims_makes p ∙ sym (times_all (λ (v : View P). v.made) p vs)

  pub claims_number : sum_by (claim_count stage g) vs ≡ made_total vs
  claims_number = sum_alike (claim_count stage g) made_count vs (λ j u at. ap (λ (l : List ℕ). length l) (claims_made u (none j u at)) ∙ length-map u.made (λ (i : Placed). i.place))

-- a made item stands in the words of its place while its block has not made way
pub made_at : {P : Type 0} (stage : View P → PutStage) (g : Grid) (ws : List ℕ) (u : View P) (i : ℕ) (item : Placed) → HasEntries stage g (allocated_word g ws) ws u → slice_get u.made i ≡ Some item
    → IsPresent (allocated_word g ws) (cursor_of g item.place).block → entry_at g ws item.place ≡ item.words
made_at stage g ws u i item f there present =
    let wide : length item.words ≡ g.width = f.made_wide i item there in
    let words = f.made_words i item there present in
    let long : length (entry_at g ws item.place) ≡ g.width = length-map-range_with_len _ 0 g.width in
    ext_get_or 0 (entry_at g ws item.place) item.words (long ∙ sym wide) (λ w h. let n : w < g.width = omega arith in get_or-map-range_with_len _ 0 g.width w w 0 n (omega arith) ∙ words w n)
