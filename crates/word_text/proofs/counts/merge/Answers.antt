use Rattle.std.proofs.Common.{◌≡◌, ◌∷◌, [], List, ℕ, ◌++◌, map, refl, sym, ap, ◌∙◌, append_assoc, append-nil, arith, Vec, Bor, Global}
use Rattle.std.specs.Map.Iter.{deref_pair}
use Rattle.std.proofs.lemmas.Result.{err_from_is_err_and}
use Rattle.word_text.specs.Counts.{add_number, add_numbers, merged, shown, total}
use Rattle.word_text.proofs.Order.{distinct_shown}
use Rattle.word_text.proofs.Merging.{next_some, next_room, add_numbers-push, add_numbers-merged, stopped}
use Rattle.word_text.proofs.counts.merge.Goals as goal

abbrev done_of : List (Bor (Vec ℕ Global) × Bor ℕ) → List (List ℕ × ℕ)
done_of ps = shown (map deref_pair ps)

done_push : (ps : List (Bor (Vec ℕ Global) × Bor ℕ)) (p : Bor (Vec ℕ Global) × Bor ℕ) → done_of (ps ++ p ∷ []) ≡ done_of ps ++ (p.0.now.items, p.1.now) ∷ []
done_push [] p = refl
done_push (q ∷ ps) p = ap (λ es. (q.0.now.items, q.1.now) ∷ es) (done_push ps p)

pub loop-word-init : goal.loop-word-init
loop-word-init c = record { added = refl; order = refl }

pub add-requires-clause-some : goal.add-requires-clause-some
add-requires-clause-some c =
    let all = shown c.from.inside.table.entries in
    let done = done_of c.loop-word.yielded in
    let left = shown c.next.new.self in
    let is : done ++ (c.in-Some.word.now.items, c.in-Some.number.now) ∷ left ≡ all = ap (λ es. done ++ shown es) (sym c.in-Some.ensures.steps) ∙ c.loop-word.invariant.order ∙ ap shown (c.into_iter-word-iterator.ensures.into_iter_gives ∙ c.iter-word-items.ensures.rest) in
    next_some done _ left all is (distinct_shown c.from.inside.table.entries c.iter-word-items.ensures.unique) c.from.invariant

pub add-requires-clause-room : goal.add-requires-clause-room
add-requires-clause-room c =
    let all = shown c.from.inside.table.entries in
    let done = done_of c.loop-word.yielded in
    let left = shown c.next.new.self in
    let is : done ++ (c.in-Some.word.now.items, c.in-Some.number.now) ∷ left ≡ all = ap (λ es. done ++ shown es) (sym c.in-Some.ensures.steps) ∙ c.loop-word.invariant.order ∙ ap shown (c.into_iter-word-iterator.ensures.into_iter_gives ∙ c.iter-word-items.ensures.rest) in
    omega (
      arith,
      c.requires,
      ap total c.loop-word.invariant.added,
      ap total c.from.view_is,
      next_room c.args.into.now done (c.in-Some.word.now.items, c.in-Some.number.now) left all is (distinct_shown c.from.inside.table.entries c.iter-word-items.ensures.unique),
    )

pub loop-word-preserved : goal.loop-word-preserved
loop-word-preserved c =
    let done = done_of c.loop-word.yielded in
    let e : List ℕ × ℕ = (c.in-Some.word.now.items, c.in-Some.number.now) in
    let more = done_push c.loop-word.yielded (c.in-Some.word, c.in-Some.number) in
    record {
      added = c.in_ok-add.ensures.ok ∙ ap (λ w. add_number c.loop-word.into w c.in-Some.number.now) c.as_slice.ensures.value ∙ ap (λ m. add_number m e.0 e.1) c.loop-word.invariant.added
          ∙ sym (add_numbers-push c.args.into.now done e) ∙ ap (add_numbers c.args.into.now) (sym more);
      order = ap (λ es. es ++ shown c.next.new.self) more ∙ append_assoc done (e ∷ []) (shown c.next.new.self) ∙ ap (λ es. done ++ shown es) (sym c.in-Some.ensures.steps) ∙ c.loop-word.invariant.order;
    }

pub returns-in_err-add-clause-err : goal.returns-in_err-add-clause-err
returns-in_err-add-clause-err c =
    let p = err_from_is_err_and c.from_residual.result c.from_residual.ensures.1 in
    rw p.1 (stopped c.args.into.now _ _ (done_of c.loop-word.yielded) (shown c.loop-word.word-iterator) (shown c.from.inside.table.entries)
    (c.in_err-add.ensures.err ∙ c.loop-word.invariant.added) c.from.view_is (c.loop-word.invariant.order ∙ ap shown (c.into_iter-word-iterator.ensures.into_iter_gives ∙ c.iter-word-items.ensures.rest))
    (distinct_shown c.from.inside.table.entries c.iter-word-items.ensures.unique))

pub returns-clause-ok : goal.returns-clause-ok
returns-clause-ok c =
    let es = c.from.inside.table.entries in
    let done = done_of c.loop-word.yielded in
    let whole : done ≡ shown es = sym (append-nil done) ∙ ap (λ it. done ++ shown it) (sym c.in-None.ensures.steps.0) ∙ c.loop-word.invariant.order ∙ ap shown (c.into_iter-word-iterator.ensures.into_iter_gives ∙ c.iter-word-items.ensures.rest) in
    c.loop-word.invariant.added ∙ ap (add_numbers c.args.into.now) whole ∙ add_numbers-merged c.args.into.now (shown es) (distinct_shown es c.iter-word-items.ensures.unique) ∙ ap (merged c.args.into.now) c.from.view_is
