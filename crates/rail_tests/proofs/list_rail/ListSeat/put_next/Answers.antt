use Rattle.std.proofs.Common.{◌≡◌, ◌<◌, ℕ, List, [], ◌∷◌, ◌++◌, length, refl, sym, ap, ◌∙◌, arith}
use Rattle.cursor_word.specs.Shape.{Grid}
use Rattle.rail.specs.Items.{placed}
use Rattle.rail_tests.proofs.ListSeats.{all_below, gains_next, least_before, seat_pushed}
use Rattle.rail_tests.proofs.list_rail.ListSeat.put_next.Goals as goal

pub returns-then-count-self-clause-answer : goal.returns-then-count-self-clause-answer
returns-then-count-self-clause-answer c =
    let s = c.requires.seat in
    let a = c.last_block.ensures.all in
    let l = c.width-width.ensures.limits in
    (refl, refl, least_before _ _ (let z = l.size_from in omega arith), all_below c.args.self.now.made.items _ s.in_place (let n = c.len-count.ensures in omega arith))

pub returns-clause-seat : goal.returns-clause-seat
returns-clause-seat c =
    λ g s.
    let n = c.len-count.ensures in
    let w : c.new.result ≡ c.args.entry.now = c.new.ensures in
    let less : length c.args.self.now.made.items < c.args.self.now.most = let e = c.if-count-self.false in let k = s.within in omega arith in
    let same : c.args.shape.now ≡ g = sym c.requires.seat.same ∙ s.same in
    seat_pushed g c.args.self.now c.push.new.self c.args.entry.now s
    (c.push.ensures.items ∙ ap (λ (p : ℕ). c.args.self.now.made.items ++ placed p c.new.result ∷ []) n ∙ ap (λ (ws : List ℕ). c.args.self.now.made.items ++ placed (length c.args.self.now.made.items) ws ∷ []) w)
    c.push.ensures.spare (let r = s.room in omega arith) less (c.requires.width ∙ ap (λ (h : Grid). h.width) same)

pub returns-clause-answer : goal.returns-clause-answer
returns-clause-answer c =
    gains_next c.args.self.now.made.items c.push.new.self.items c.len-count.result c.args.entry.now c.requires.seat.in_place c.len-count.ensures
    (c.push.ensures.items ∙ ap (λ (ws : List ℕ). c.args.self.now.made.items ++ placed c.len-count.result ws ∷ []) c.new.ensures)
