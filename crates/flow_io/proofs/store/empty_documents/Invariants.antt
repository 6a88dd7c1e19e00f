use Rattle.std.proofs.Common.{◌≡◌, vec_len}
use Rattle.std.specs.List.{AllByRecursion}
use Rattle.flow_io.specs.Stored.{IsUnused}
use Rattle.flow_io.proofs.store.empty_documents.Given as goal

abbrev pub invariant-loop : goal.invariant-loop
invariant-loop l =
    record {
      len : vec_len l.all ≡ l.counter;
      unused : AllByRecursion (IsUnused l.room) l.all.items;
    }
