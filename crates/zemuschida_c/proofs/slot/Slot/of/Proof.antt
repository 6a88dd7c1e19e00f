-- `of` lets the box go into its pointer, and the slot owns what `into_raw` ensures.
use mathlib.Core.List.{List, [], ◌∷◌}
use mathlib.Core.Path.{refl, ap}
use base.Fraction.{full_share}
use base.Fml.{ftrue, fsep}
use base.Logic.{emp, id⊢, ent}
use contract.BorrowLft.{⊑_static}
use contract.Running.{tables}
use mir.Val.{Val}
use prog.Wp.{WpFn}
use types.Kit.{‵, raw, ◌⊛◌, some, later, ◌$◌, ◌∵◌, !, qed, move, drop, use1, split, join, fjoin, feq_l, pick, await, suffices, done}
use types.Part.{agg}
use types.Run.{of_opd, no_more, and_then, returns, enter}
use types.ByLocal.{alloc_all, pass_all, free_all, look_at, get, sets, lands_as}
use denote.Exit.{yes}
use denote.Param.{bounded, layout}
use mir.Syntax.{a_type, dcons, dnil}
use denote.Triple.Statement.{Triple}
use Rattle.std_alloc.proofs.boxed.Box.into_raw.Symbol as callee
use denote.Param.NoDrop.{glues}
use denote.Param.Steps.{one_value}
use denote.RawPtr.{Ptr, RawPtr, rawptr_Lawful}
use denote.Signature.{plain}
use denote.Steps.{nothing, only}
use denote.Triple.Call.{calls_at}
use denote.Triple.Clauses.{lasts, Lasts}
use denote.Triple.Spec.{triple_of}
use denote.Triple.Table.{framed}
use denote.Triple.Walked.{Stays, stay_dropped, walk_of, says, Goes-dropped, ends_at}
use Rattle.std.specs.Prelude.{Some}
use Rattle.std.proofs.raw_atomic.Walks.{proved_at}
use Rattle.std_alloc.specs.Box.Ownership.{box_owns}
use Rattle.std_alloc.specs.contracts.boxed.Box.into_raw as into_raw
use Rattle.std_alloc.proofs.boxed.Box.into_raw.Met as given_up
use Rattle.std_heap.specs.contracts.GlobalAllocator.TheImpl.{ghosts, dict}
use Rattle.std_heap.proofs.GlobalAllocator.TheImpl.Met as allocator
use Rattle.zemuschida_c.specs.Slot.{heap, kept_row}
use Rattle.zemuschida_c.specs.contracts.slot.Slot as slot
use Rattle.zemuschida_c.specs.contracts.slot.Slot.of as f
use Rattle.zemuschida_c.proofs.Boxes.{box_row, whole_row, whole_laws, box_lawful, heap_row, heap_row_laws, no_drop}
use Rattle.zemuschida_c.proofs.Words.{word, word_typed, owns_slot, for_ever, lasts_for_ever, states}
use Rattle.zemuschida_c.proofs.slot.Slot.of.Statement.{statement}
use Rattle.zemuschida_c.proofs.slot.Slot.of.Code as code
use Rattle.zemuschida_c.proofs.Destruct++none.drop.Code as none

abbrev stayed : Stays f.ended.signature.params f.ended.kept
stayed = (stay_dropped (plain (λ _. box_row)) yes, tt)

pub of_spec : {M : Type 1} → statement M
unfolding none.code
of_spec {M} 𝓤 𝓛 𝓜 𝓡 wired =
    let c = f.clauses 𝓛 𝓜.mem 𝓡.returns in let W = walk_of 𝓛 f.ended stayed c in let 𝓣 = tables 𝓤 𝓛.H 𝓜 𝓡 𝓡.env in
    let Raw = triple_of 𝓛 (into_raw.signature whole_row heap_row ghosts dict (no_drop heap_row) (no_drop whole_row)) (into_raw.spec whole_row heap_row ghosts dict (no_drop heap_row) (no_drop whole_row) 𝓛 𝓜.mem 𝓡.returns) in
    let given = into_raw.ended whole_row heap_row ghosts dict (no_drop heap_row) (no_drop whole_row) in
    let met : Triple 𝓤 (𝓣.C (callee.name (bounded (a_type ∷ a_type ∷ []) (whole_row, (heap_row, tt)) (dcons dict (dcons (no_drop heap_row) (dcons (no_drop whole_row) dnil)))))) Raw = given_up.met 𝓤 𝓛 𝓜 𝓡 (code.calls-std_alloc::boxed::Box::into_raw 𝓡.env wired) whole_row heap_row whole_laws heap_row_laws ghosts dict (no_drop heap_row) (no_drop whole_row)
    (allocator.passed 𝓡.env (code.calls-std_heap::GlobalAllocator::allocate 𝓡.env wired) (code.calls-std_heap::GlobalAllocator::deallocate 𝓡.env wired) (code.calls-std_heap::GlobalAllocator::grow 𝓡.env wired) (code.calls-std_heap::GlobalAllocator::shrink 𝓡.env wired) M 𝓤 𝓛 𝓜 𝓡)
    (glues "zemuschida_c::Destruct++none::drop" 𝓡.env (code.calls-zemuschida_c::Destruct++none::drop 𝓡.env wired) heap_row heap_row_laws M 𝓤 𝓛 𝓜 𝓡)
    (glues "zemuschida_c::Destruct++none::drop" 𝓡.env (code.calls-zemuschida_c::Destruct++none::drop 𝓡.env wired) whole_row whole_laws M 𝓤 𝓛 𝓜 𝓡) in
    proved_at 𝓛 f.ended stayed c 𝓜 𝓡 (Goes-dropped 𝓛 0 (plain (λ _. box_row)) yes (λ κs x w. refl), tt) f.Key.name code.function (code.unfolded 𝓤 𝓛.H 𝓜 𝓡 wired)
    (λ y are. let whole = y.0.3.0 in
    let at : List Val → W.Ghost = λ ws. ((y.0.0, y.0.1, y.0.2, y.0.3, (ws, tt)), y.1) in
    one_value (layout box_row) (λ ws. ent 𝓤 (W.pre (at ws)) (WpFn 𝓤 𝓛.H 𝓣.C 𝓣.Λ code.function (W.args (at ws)) (W.post (at ws)))) y.0.4.0 ((box_lawful 𝓛).typed whole y.0.4.0 are.0) (λ v typed.
    let z : Raw.Ghost = ((([], ([], tt)), (full_share, (full_share, tt)), tt, (whole, tt), (v ∷ [], tt)), tt) in
    qed 𝓛 ((‵ ftrue ⊛ ‵ (fsep (box_row.own_val whole (v ∷ [])) ftrue)) ∷ raw (emp 𝓤) ∷ []) ∵
    split ! $ drop ! $ move ! (1 ∷ []) $ drop ! $
    enter ! _ _ _ _ _ $ alloc_all ! (λ l. pass_all ! refl (typed, tt) $
    sets ! (of_opd ! (get ! refl)) refl typed $
    lasts_for_ever ! $ join ! $
    nothing ! $ states ! _ (⊑_static []) $ states ! _ (⊑_static []) $ move ! (1 ∷ 0 ∷ []) $ join ! $ use1 𝓛 (raw (Raw.pre z)) (id⊢ 𝓤 _) $
    calls_at ! (framed 𝓤 𝓛.H 𝓜 𝓣) Raw met z (and_then ! (get ! refl) (no_more !)) (λ u.
    use1 𝓛 (later (some (λ (p : Ptr). (for_ever ⊛ ‵ (RawPtr.own_val p (u ∷ []))) ⊛ some (λ (ws : Lasts given z.0.0 z.0.3). ‵ (lasts given z.0.0 z.0.3 ws) ⊛ ‵ (box_owns (ghosts.dealloc_token heap) kept_row p whole.value))))) (id⊢ 𝓤 _) $
    await ! tt $ pick ! (λ p. split ! $ split ! $ drop ! $ feq_l ! (λ is. pick ! (λ ws. split ! $ drop ! $
    let fits = (rawptr_Lawful 𝓛).typed p _ refl in
    lands_as ! (ap only is) refl fits.0 $
    sets ! (of_opd ! (get ! refl)) refl fits.0 $
    sets ! (agg ! (and_then ! (get ! refl) (no_more !))) refl (word_typed 𝓛 p).0 $
    returns ! (look_at ! 0 refl) $ free_all ! refl $
    let made : slot.the_row.Denot = record { at = p; value = Some whole.value.value } in
    suffices ! _ (ends_at 𝓛 f.ended stayed c (at (v ∷ [])) (word p) made (tt, tt) (tt, tt)) $ says ! refl $
    owns_slot ! made $ nothing ! $ nothing ! $ fjoin ! $ join ! $ nothing ! $ join ! $ done !)))))))
