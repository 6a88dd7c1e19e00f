use Rattle.std.proofs.Common.{◌≡◌, ◌+◌, ◌-◌, ◌∷◌, length, take, drop, sym, ap, ◌∙◌, subst, arith, Err}
use Rattle.std.proofs.lemmas.Result.{err_from_is_err_and}
use Rattle.std.proofs.lemmas.Slice.{between_to_end}
use Rattle.word_text.specs.Pieces.{piece_len, pieces_of}
use Rattle.word_text.proofs.Cuts.{left_pieces, left_pieces-cons, left_pieces-nil, Gains, gains_next, gains_length, gains_take}
use Rattle.word_text.proofs.plan.pieces.Goals as goal

pub loop-start-preserved : goal.loop-start-preserved
loop-start-preserved c =
    let text = c.args.text.now in
    let a = c.loop-start.start in
    let inv = c.loop-start.invariant in
    let rest : take (length text - a) (drop a text) ≡ drop a text = between_to_end text a (length text) (omega arith) in
    let exact : c.piece_len.result ≡ piece_len c.args.k (drop a text) = c.piece_len.ensures.exact ∙ ap (piece_len c.args.k) rest in
    let next : left_pieces text c.args.file c.args.k a ≡ record { file = c.args.file; start = a; end = a + c.piece_len.result } ∷ left_pieces text c.args.file c.args.k (a + c.piece_len.result) =
    subst (λ l. left_pieces text c.args.file c.args.k a ≡ record { file = c.args.file; start = a; end = a + l } ∷ left_pieces text c.args.file c.args.k (a + l)) (sym exact)
    (left_pieces-cons text c.args.file c.args.k a c.requires c.loop-start-test.true) in
    record {
      within = omega (arith, c.piece_len.ensures.within, ap length rest);
      gains = subst (λ ps. Gains c.args.plan.now ps (left_pieces text c.args.file c.args.k (a + c.piece_len.result)) (pieces_of text c.args.file c.args.k)) (sym c.in_ok-add.ensures.ok)
          (gains_next _ _ _ _ _ (record { file = c.args.file; start = a; end = a + c.piece_len.result }) inv.gains next);
    }

pub returns-clause-fit : goal.returns-clause-fit
returns-clause-fit c =
    let inv = c.loop-start.invariant in
    omega (arith, gains_length _ _ _ _ inv.gains, ap length (left_pieces-nil c.args.text.now c.args.file c.args.k c.loop-start.start c.loop-start-test.false))

pub returns-in_err-add-clause-too_many : goal.returns-in_err-add-clause-too_many
returns-in_err-add-clause-too_many c =
    let p = err_from_is_err_and c.from_residual.result c.from_residual.ensures.1 in
    λ h.
    let full = c.in_err-add.ensures.full.0 (ap Err (sym p.2) ∙ sym p.1 ∙ h) in
    let more = ap length (left_pieces-cons c.args.text.now c.args.file c.args.k c.loop-start.start c.requires c.loop-start-test.true) in
    omega (arith, full, more, gains_length _ _ _ _ c.loop-start.invariant.gains)

pub returns-in_err-add-clause-first_ones : goal.returns-in_err-add-clause-first_ones
returns-in_err-add-clause-first_ones c =
    let p = err_from_is_err_and c.from_residual.result c.from_residual.ensures.1 in
    λ h.
    let full = c.in_err-add.ensures.full.0 (ap Err (sym p.2) ∙ sym p.1 ∙ h) in
    c.in_err-add.ensures.err ∙ gains_take _ _ _ _ _ c.loop-start.invariant.gains full
