use Rattle.std.proofs.Common.{◌≡◌, ℕ, ◌+◌, ◌-◌, ◌/◌, ◌%◌, sym, ap, ◌∙◌, arith}
use Rattle.std.proofs.lemmas.Bool.{lt-ltb, ltb-true}
use Rattle.rail_tests.proofs.ListSeats.{full_needs, full_tells}
use Rattle.rail_tests.proofs.list_rail.is_full.Goals as goal

pub returns : goal.returns
returns c =
    let g = c.args.shape.now in
    let s = c.size-size.ensures.value in
    let l = c.size-size.ensures.limits in
    let from = l.size_from in
    let some = l.blocks_from in
    let b = c.blocks-blocks.ensures.value in
    let r : c.args.accepted % g.size ≡ 0 = ap (λ (n : ℕ). c.args.accepted % n) (sym s) ∙ c.if-accepted-size-ne0.false in
    let q : c.args.taken / c.size-size.result ≡ c.args.taken / g.size = ap (λ (n : ℕ). c.args.taken / n) s in
    let d : c.args.accepted / c.size-size.result ≡ c.args.accepted / g.size = ap (λ (n : ℕ). c.args.accepted / n) s in
    let o : c.saturating_sub.result ≡ c.args.accepted / g.size + 1 - g.blocks = let e = c.saturating_sub.ensures in omega arith in (
      λ e. let lt = ltb-true _ _ e in full_tells g c.args.accepted c.args.taken from (let z = c.if-accepted-eq0.false in omega arith) r (omega arith),
      λ f. lt-ltb _ _ (let lt = full_needs g c.args.accepted c.args.taken from f in omega arith),
    )
