use Rattle.std.proofs.Common.{◌≡◌, ◌+◌, ◌∙◌, length, length-drop, arith, rules}
use Rattle.flow_io.proofs.Given.{gives_more, full_of_file}
use Rattle.flow_io.proofs.reading.read_text.Goals as goal

pub returns-then-filled-limit-clause-text : goal.returns-then-filled-limit-clause-text
returns-then-filled-limit-clause-text g c =
    let inv = c.loop-filled.invariant in
    let full : length c.loop-filled.text.items ≡ c.args.limit + 1 = omega (arith, inv.filled, inv.most, c.if-filled-limit.true) in
    (full, full_of_file _ _ _ _ _ _ c.args.limit (c.start.ensures.found (search rules)) inv.given (omega (arith, inv.filled, inv.most, c.if-filled-limit.true)) full)

pub loop-filled-preserved : goal.loop-filled-preserved
loop-filled-preserved g c =
    let inv = c.loop-filled.invariant in
    let gives = c.in-Got.ensures.gives in
    let made = c.in_default.ensures in
    record {
      filled = omega (arith, gives.1, made.some, c.read_on.ensures.len, length-drop c.loop-filled.filled c.read_on.new.text.items);
      most = omega (arith, made.limit, c.read_on.ensures.len);
      quiet = gives.3 ∙ inv.quiet;
      files = cc (inv.files, c.read_on.ensures.files);
      given = gives_more _ _ _ _ _ c.loop-filled.filled c.in-Got.count inv.given (c.read_on.ensures.front ∙ made.front) gives.2;
    }
