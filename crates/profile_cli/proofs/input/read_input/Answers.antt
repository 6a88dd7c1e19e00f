use Rattle.std.proofs.Common.{List, ℕ, ◌<◌, length, inl, subst, rules}
use Rattle.word_text.specs.declared.plan.TheConstants.{MOST_PIECES}
use Rattle.word_text.specs.Pieces.{plan_of}
use Rattle.profile_cli.specs.Input.IsDue.{too_many}
use Rattle.profile_cli.proofs.input.read_input.Goals as goal

pub returns-in-Err-TooMany-clause-stopped : goal.returns-in-Err-TooMany-clause-stopped
returns-in-Err-TooMany-clause-stopped g c =
    let read = c.in_ok-texts.ensures.read in
    (c.in_ok-texts.texts.items, (read.0, inl (too_many (record { read = read.1; many = subst (λ (ts : List (List ℕ)). MOST_PIECES < length (plan_of ts c.args.options.now.piece)) c.as_slice.ensures.value (c.in-Err-TooMany.ensures.too_many (search rules)) }))))
