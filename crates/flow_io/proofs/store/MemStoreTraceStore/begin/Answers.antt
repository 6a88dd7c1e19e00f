use Rattle.std.proofs.Common.{◌≤◌, ap, ◌∙◌, subst, rules, arith, length}
use Rattle.std.specs.List.{AllByRecursion}
use Rattle.flow_io.specs.Stored.{IsUnused}
use Rattle.flow_io.proofs.Begun.{begins, named}
use Rattle.flow_io.proofs.Unused.{all_pop}
use Rattle.flow_io.proofs.store.MemStoreTraceStore.begin.Goals as goal

pub returns-clause-begun : goal.returns-clause-begun
returns-clause-begun c = λ _.
    let full = c.self.inside.full in
    let empty = (all_pop (IsUnused full) _ _ (subst (AllByRecursion (IsUnused full)) c.in-Some.ensures.items c.self.invariant.1.empty)).1 in
    let fits : length c.args.name.now ≤ c.self.inside.room = search rules in
    let name = named c.push_str.result _ _ c.args.name.now (c.push_str.ensures.succeeds (omega (arith, fits, c.self.invariant.1.fits, empty.name_len, empty.name_room))) c.push_str.ensures.bytes empty.no_name in
    begins _ _ _ _ _ _ _ _ _ (ap (λ v. v.begun) c.self.view_is) c.self.invariant.1.begun c.replace.ensures.value c.keep.ensures.items c.replace.ensures.after
    (ap (λ n. (n, c.in-Some.document.bytes.items)) name ∙ ap (λ b. (c.args.name.now, b)) empty.no_bytes)
