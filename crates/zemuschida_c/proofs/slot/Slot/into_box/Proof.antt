-- `into_box` hands what the slot owns to `from_raw`.
use mathlib.Core.List.{[], ◌∷◌}
use mathlib.Core.Path.{◌≡◌, refl, sym, ap, ◌∙◌}
use base.Fraction.{full_share}
use base.Fml.{ftrue, fsep}
use base.Logic.{id⊢}
use contract.BorrowLft.{⊑_static}
use contract.Monad.{fact}
use contract.Running.{tables}
use mir.Syntax.{a_type, dcons, dnil}
use types.Kit.{‵, raw, ◌⊛◌, some, later, at_ret, ◌$◌, ◌∵◌, !, qed, move, drop, use1, split, join, fsplit, fjoin, feq_i, pick, await, rewrite, suffices, done}
use types.Part.{whole, sub}
use types.Run.{stop, fld, of_opd, no_more, and_then, first, blocks, exec, returns, enter}
use types.ByLocal.{alloc_all, pass_all, free_all, look_at, get, get_in, sets, lands_last, env}
use denote.Exit.{yes}
use denote.Laws.{Is, shows}
use denote.Param.{bounded}
use denote.Param.NoDrop.{glues}
use denote.RawPtr.{ptr_val, rawptr_Lawful}
use denote.Signature.{plain}
use denote.Steps.{nothing, heard, peeks}
use denote.Struct.Laws.{lawful}
use denote.Triple.Call.{calls_at_last}
use denote.Triple.Clauses.{lasts, Lasts}
use denote.Triple.Spec.{triple_of}
use denote.Triple.Statement.{Triple}
use denote.Triple.Table.{framed}
use denote.Triple.Walked.{Stays, stay_dropped, walk_of, says, Goes-dropped, ends_at}
use Rattle.std.specs.Prelude.{Option, Some}
use Rattle.std.proofs.raw_atomic.Walks.{proved}
use Rattle.std_alloc.specs.contracts.boxed.Box.from_raw as from_raw
use Rattle.std_alloc.proofs.boxed.Box.from_raw.Met as made_whole
use Rattle.std_alloc.proofs.boxed.Box.from_raw.Symbol as callee
use Rattle.std_heap.specs.contracts.Global as heap
use Rattle.std_heap.proofs.Global.TheLaws as heap_laws
use Rattle.std_heap.proofs.Handle.{heap_val, heap_Tells}
use Rattle.std_heap.specs.contracts.GlobalAllocator.TheImpl.{ghosts, dict}
use Rattle.std_heap.proofs.GlobalAllocator.TheImpl.Met as allocator
use Rattle.zemuschida_c.specs.Slot.{kept_row}
use Rattle.zemuschida_c.specs.declared.held.Held.{Held}
use Rattle.zemuschida_c.specs.contracts.slot.Slot as slot
use Rattle.zemuschida_c.specs.contracts.slot.Slot.into_box as f
use Rattle.zemuschida_c.proofs.Boxes.{box_row, whole_row, whole_laws, box_lawful, heap_row, heap_row_laws, no_drop}
use Rattle.zemuschida_c.proofs.Words.{words, word_typed, slot_Tells, for_ever, lasts_for_ever, states}
use Rattle.zemuschida_c.proofs.slot.Slot.into_box.Statement.{statement}
use Rattle.zemuschida_c.proofs.slot.Slot.into_box.Code as code
use Rattle.zemuschida_c.proofs.Destruct++none.drop.Code as none

abbrev stayed : Stays f.ended.signature.params f.ended.kept
stayed = (stay_dropped (plain (λ _. slot.the_row)) yes, (stay_dropped (plain (λ _. heap.the_row)) yes, tt))

pub into_box_spec : {M : Type 1} → statement M
unfolding none.code
into_box_spec {M} 𝓤 𝓛 𝓜 𝓡 wired =
    let c = f.clauses 𝓛 𝓜.mem 𝓡.returns in let W = walk_of 𝓛 f.ended stayed c in let 𝓣 = tables 𝓤 𝓛.H 𝓜 𝓡 𝓡.env in
    let Whole = triple_of 𝓛 (from_raw.signature whole_row heap_row ghosts dict (no_drop heap_row)) (from_raw.spec whole_row heap_row ghosts dict (no_drop heap_row) 𝓛 𝓜.mem 𝓡.returns) in
    let given = from_raw.ended whole_row heap_row ghosts dict (no_drop heap_row) in
    let met : Triple 𝓤 (𝓣.C (callee.name (bounded (a_type ∷ a_type ∷ []) (whole_row, (heap_row, tt)) (dcons dict (dcons (no_drop heap_row) dnil))))) Whole = made_whole.met 𝓤 𝓛 𝓜 𝓡 (code.calls-std_alloc::boxed::Box::from_raw 𝓡.env wired) whole_row heap_row whole_laws heap_row_laws ghosts dict (no_drop heap_row)
    (allocator.passed 𝓡.env (code.calls-std_heap::GlobalAllocator::allocate 𝓡.env wired) (code.calls-std_heap::GlobalAllocator::deallocate 𝓡.env wired) (code.calls-std_heap::GlobalAllocator::grow 𝓡.env wired) (code.calls-std_heap::GlobalAllocator::shrink 𝓡.env wired) M 𝓤 𝓛 𝓜 𝓡)
    (glues "zemuschida_c::Destruct++none::drop" 𝓡.env (code.calls-zemuschida_c::Destruct++none::drop 𝓡.env wired) heap_row heap_row_laws M 𝓤 𝓛 𝓜 𝓡) in
    proved 𝓛 f.ended stayed c 𝓜 𝓡 (Goes-dropped 𝓛 0 (plain (λ _. slot.the_row)) yes (λ κs x w. refl), (Goes-dropped 𝓛 0 (plain (λ _. heap.the_row)) yes (λ κs x w. refl), tt))
    f.Key.name code.function (code.unfolded 𝓤 𝓛.H 𝓜 𝓡 wired)
    (λ κs. (words, ((λ _. heap_val ∷ []), tt))) (λ κs. (slot_Tells, (heap_Tells, tt))) (λ κs qs bounds a g are.
    let s = a.0 in let alloc = a.1.0 in
    let y : W.Ghost = ((κs, qs, bounds, a, (words s, (heap_val ∷ [], tt))), g) in
    qed 𝓛 ((‵ ftrue ⊛ ‵ (fsep (slot.the_row.own_val s (words s)) (fsep (heap.the_row.own_val alloc (heap_val ∷ [])) ftrue))) ∷ raw (fact 𝓤 ((held : Held) × (s.value ≡ Some held))) ∷ []) ∵
    move ! (1 ∷ []) $ heard ! _ (λ holds. split ! $ drop ! $ fsplit ! $
    rewrite ! 0 (λ (v : Option Held). ‵ (slot.the_row.own_val (record s { value = v }) (words s))) holds.1 refl $ fsplit ! $ drop ! $
    move ! (1 ∷ []) $ fsplit ! $
    -- [the heap; nothing; the memory behind the pointer]
    let here = (rawptr_Lawful 𝓛).typed s.at _ refl in
    enter ! _ _ _ _ _ $ alloc_all ! (λ l. pass_all ! refl ((word_typed 𝓛 s.at).0, (((lawful heap.the_type heap_laws.the_laws 𝓛).typed alloc _ are.1.0).0, tt)) $
    sets ! (of_opd ! (get_in ! (fld ! refl (stop !)) (sub ! 0 refl (whole !)))) refl here.0 $
    first ! $ blocks ! $ sets ! (of_opd ! (get ! refl)) refl here.0 $
    -- [the heap; nothing; the memory behind the pointer]
    let kept : kept_row.Denot = record { value = holds.0 } in
    let z : Whole.Ghost = ((([], ([], tt)), (full_share, (full_share, tt)), tt, (alloc, (s.at, tt)), (heap_val ∷ [], (ptr_val s.at ∷ [], tt))), kept) in
    move ! (2 ∷ []) $ states ! _ (⊑_static []) $ states ! _ (⊑_static []) $
    move ! (2 ∷ []) $ feq_i ! _ (ptr_val s.at ∷ []) _ refl $ fjoin ! $ move ! (2 ∷ 0 ∷ []) $ fjoin ! $ lasts_for_ever ! $ join ! $ join ! $ use1 𝓛 (raw (Whole.pre z)) (id⊢ 𝓤 _) $
    calls_at_last ! (framed 𝓤 𝓛.H 𝓜 𝓣) Whole met z (and_then ! (get ! refl) (and_then ! (get ! refl) (no_more !))) (λ u.
    use1 𝓛 (later (some (λ (r : box_row.Denot). (for_ever ⊛ ‵ (box_row.own_val r (u ∷ []))) ⊛ some (λ (ws : Lasts given z.0.0 z.0.3). ‵ (lasts given z.0.0 z.0.3 ws) ⊛ (raw (fact 𝓤 (r.value ≡ kept)) ⊛ raw (fact 𝓤 (r.alloc ≡ alloc))))))) (id⊢ 𝓤 _) $
    await ! tt $ pick ! (λ r. split ! $ split ! $ drop ! $ move ! (1 ∷ []) $ pick ! (λ ws. split ! $ drop ! $ split ! $ heard ! (r.value ≡ kept) (λ same. drop ! $
    peeks ! box_row (Is box_row) (shows 𝓛 box_row) r (u ∷ []) (λ is. let typed = (box_lawful 𝓛).typed r (u ∷ []) is in
    lands_last ! refl typed.0 $ exec ! 𝓣.C 𝓣.Λ (env code.Mir.locals l) code.Mir.t-3 (at_ret _ (W.post y)) $
    sets ! (of_opd ! (get ! refl)) refl typed.0 $ returns ! (look_at ! 0 refl) $ free_all ! refl $
    suffices ! _ (ends_at 𝓛 f.ended stayed c y u r (tt, (tt, tt)) (tt, (tt, tt))) $ says ! (ap (λ (k : kept_row.Denot). Some k.value) same ∙ sym holds.1) $
    nothing ! $ nothing ! $ fjoin ! $ nothing ! $ fjoin ! $ join ! $ nothing ! $ join ! $ done !))))))))
