use Rattle.std.proofs.Common.{◌≡◌}
use Rattle.word_text.proofs.Order.{told_as_many}
use Rattle.word_text.proofs.counts.Counts.distinct.Goals as goal

pub returns : goal.returns
returns c =
    let many = told_as_many c.self.inside.table.entries c.len.ensures.unique in
    cc (c.len.ensures.len, many)
