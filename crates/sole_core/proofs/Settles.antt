-- Where all seats are at rest, what was made is what was taken and then what is left in the words.
use Rattle.std.proofs.Common.{◌≡◌, ℕ, ◌+◌, ◌<◌, ◌≤◌, List, sym, ap, ◌∙◌, ⊎_elim, arith}
use Rattle.cursor_word.specs.Shape.{Grid, IsWithinLimits}
use Rattle.cursor_word.specs.Cursor.{cursor_of}
use Rattle.cursor_word.specs.declared.cursor.Cursor.{Cursor}
use Rattle.cursor_word.proofs.Places.{block_of_place_from, first_after, first_to, offset_of_place, place_in_block, place_of_cursor}
use Rattle.std.proofs.lemmas.Bool.{cases_lt}
use Rattle.rail.specs.declared.entry.Placed.{Placed}
use Rattle.rail.specs.Items.{places}
use Rattle.machine.specs.Steps.{AllRest}
use Rattle.put_side.specs.Cursors.{Front}
use Rattle.put_side.specs.Counts.{one_below, times}
use Rattle.machine.specs.Entries.{entry_at}
use Rattle.put_side.specs.Gathered.{all_made, all_taken}
use Rattle.put_side.specs.PutTable.{stage_in}
use Rattle.put_side.specs.Settled.{IsSettled}
use Rattle.put_side.proofs.Orders.{in_order}
use Rattle.put_side.proofs.Gathers.{StandsIn, stands_in, taken_stands, times_all}
use Rattle.put_side.proofs.Rests.{NonePuts, claims_all, made_at}
use Rattle.put_side.proofs.Settles as put_settles
use Rattle.put_side.proofs.Stores.{made_block}
use Rattle.sole_core.specs.Types.{View}
use Rattle.sole_core.specs.Stage.{stage, stage_of}
use Rattle.sole_core.specs.Sound.{IsSound, IsSoundAt}
use Rattle.sole_core.proofs.Facts.{taken_within}
use Rattle.put_side.proofs.Moments.{still_present}
use Rattle.sole_core.proofs.Takings.{taken_once}

module _ (g : Grid) (limits : IsWithinLimits g) (front : Front) (next : ℕ) (ws : List ℕ) (vs : List View) (s : IsSoundAt g front next ws vs) (rest : AllRest vs) where
  none_puts : NonePuts stage_of vs
  none_puts j u at = ap (stage_in stage) (rest j u at)

  takes_all : (p : ℕ) → times p (places (all_taken vs)) ≡ one_below p next
  takes_all p = times_all (λ (v : View). v.taken) p vs ∙ taken_once g front next ws vs s p

  -- a place that is not taken lies in a block that is not reused, so its words stand
  pub rest_current : (p : ℕ) → next ≤ p → front.last < (cursor_of g p).block + g.blocks
  rest_current p le =
      let n = s.near in
      let c : Cursor = cursor_of g p in
      let t = first_to g (c.block + 1) (cursor_of g next).block in
      let f = first_after g c.block (block_of_place_from g p) in
      let is = place_of_cursor g p in
      let at = place_of_cursor g next in
      let within = offset_of_place g p limits in
      ⊎_elim (λ l. let z = t (omega arith) in let a = place_in_block g c in let b = place_in_block g (cursor_of g next) in absurd (omega arith)) (λ l. omega arith) (cases_lt c.block (cursor_of g next).block)

  -- the words at the place of a made item that is not taken
  made_stands : (x : Placed) → StandsIn (λ (v : View). v.made) vs x → next ≤ x.place → entry_at g ws x.place ≡ x.words
  made_stands x m from =
      made_at stage_of g ws m.view m.number x (s.puts.entries m.seat m.view m.at) m.there
      (still_present stage g front ws vs s.puts limits (cursor_of g x.place).block (made_block stage_of g limits front ws vs s.puts.places m.seat m.view m.number x m.at m.there) (rest_current x.place from))

  pub settled_at : IsSettled g ws vs
  settled_at =
      let p = s.puts.places in
      let made = in_order front.next (all_made vs) (λ q. sym (claims_all stage_of g front vs none_puts q) ∙ p.counts.once q) in
      put_settles.settled g front.next next ws vs made (in_order next (all_taken vs) takes_all) (taken_within g limits front next ws vs s) (taken_stands vs (λ j u at. (s.each j u at).items))
      (λ x c. made_stands x (stands_in (λ (v : View). v.made) vs x c))

pub settled : (g : Grid) (ws : List ℕ) (vs : List View) → IsWithinLimits g → IsSound g ws vs → AllRest vs → IsSettled g ws vs
settled g ws vs limits k rest = settled_at g limits k.front k.next ws vs k.sound rest
