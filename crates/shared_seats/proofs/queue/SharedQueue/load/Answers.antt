use Rattle.std.proofs.Common.{◌∙◌, ap, subst, sym}
use Rattle.shared_seats.specs.Holding.{memory_in, view_in}
use Rattle.shared_seats.specs.Memory.{KeepsMemory}
use Rattle.shared_seats.proofs.Loaded.{loads}
use Rattle.shared_seats.proofs.queue.SharedQueue.load.Goals as goal

pub load-requires-clause-rule : goal.load-requires-clause-rule
load-requires-clause-rule g c =
    let h = c.seat.inside.seat.view in let holds = g.P.Phase.Holds in let knows = g.M.Memory.Knows in let fact = g.F.LoadFact.then in let i = c.args.index in
    let shape = ap (λ s. s.of.shape) c.seat.view_is ∙ ap (λ q. q.shape) c.requires.seat in
    loads g.P.Phase.table holds knows g.M.Memory.none c.seat.inside.number c.self.inside.words.key h i fact c.seat.invariant.0
    (subst (λ s. KeepsMemory holds knows h.shape s.view s.memory i (fact h.shape s.view s.memory)) (sym c.seat.view_is)
    (subst (λ k. KeepsMemory holds knows k c.args.seat.now.view c.args.seat.now.memory i (fact k c.args.seat.now.view c.args.seat.now.memory)) (sym shape) c.requires.keeps))

pub returns-clause-told : goal.returns-clause-told
returns-clause-told g c =
    let h = c.seat.inside.seat.view in let fact = g.F.LoadFact.then in let n = c.load.result in let none = g.M.Memory.none in
    let shape = ap (λ s. s.of.shape) c.seat.view_is ∙ ap (λ q. q.shape) c.requires.seat in
    let told = c.load.ensures.fact in
    let now = memory_in none c.load.new.seat.view in
    subst (λ k. fact k c.args.seat.now.view c.args.seat.now.memory n now) shape
    (subst (λ s. fact h.shape s.view s.memory n now) c.seat.view_is
    (subst (fact h.shape (view_in h) (memory_in none h) n) (sym (ap (memory_in none) told.same)) told.tells))
