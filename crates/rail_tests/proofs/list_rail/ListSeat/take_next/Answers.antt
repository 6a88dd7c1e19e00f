use Rattle.std.proofs.Common.{◌≡◌, ◌+◌, List, ℕ, length, take, refl, sym, ap, subst, ◌∙◌, arith}
use Rattle.std.specs.List.{Contains}
use Rattle.std.proofs.lemmas.Option.{slice_get_within}
use Rattle.rail.specs.Items.{placed}
use Rattle.rail.specs.declared.answer.Take.TheVariants as answer
use Rattle.rail.specs.Rail.{Gains}
use Rattle.rail.proofs.Dense.{dense_place}
use Rattle.rail_tests.proofs.ListSeats.{gains_taken, not_made, only_words, taken_below, taken_next}
use Rattle.rail_tests.proofs.list_rail.ListSeat.take_next.Goals as goal

pub returns-in-Some-clause-answer : goal.returns-in-Some-clause-answer
returns-in-Some-clause-answer c =
    let xs = c.args.self.now.made.items in
    let t = c.args.self.now.taken in
    let item = c.in-Some.item.now in
    let e = c.requires.seat.in_place in
    let at = c.in-Some.ensures.some in
    let w : c.copy_from_slice.new.self ≡ item.words = c.copy_from_slice.ensures.after ∙ c.words.ensures.words in
    subst (λ (ws : List ℕ). Gains (take t xs) (take (t + 1) xs) (placed item.place ws) × ((words : List ℕ) → Contains xs (placed item.place words) → words ≡ ws)) (sym w)
    (gains_taken xs t item e at, λ words h. only_words xs t item words e at h)

pub returns-in-Some-clause-alone : goal.returns-in-Some-clause-alone
returns-in-Some-clause-alone c =
    let at = c.in-Some.ensures.some in
    let p = dense_place c.args.self.now.taken c.in-Some.item.now c.args.self.now.made.items c.requires.seat.in_place at in
    let l = slice_get_within c.args.self.now.made.items c.args.self.now.taken c.in-Some.item.now at in
    ap answer.Ok p ∙ taken_next c.args.self.now.made.items c.args.self.now.taken l

pub returns-in-None-clause-answer : goal.returns-in-None-clause-answer
returns-in-None-clause-answer c =
    let s = c.requires.seat in
    let past = (c.in-None.ensures.none).0 refl in
    let all : c.args.self.now.taken ≡ length c.args.self.now.made.items = let f = s.made_first in omega arith in
    (refl, refl, λ p h e. not_made c.args.self.now.made.items p s.in_place h (e ∙ all), taken_below c.args.self.now.made.items c.args.self.now.taken s.in_place s.made_first)
