-- `empty` owns nothing behind its pointer.
use mathlib.Core.List.{[], ◌∷◌}
use mathlib.Core.Path.{refl}
use lib.Dec.{lit<}
use mir.Val.{vnull, vstruct, vcons, vnil}
use base.Logic.{emp}
use types.Kit.{raw, ◌$◌, ◌∵◌, !, qed, drop, join, suffices, done}
use types.Part.{agg}
use types.Run.{no_more, and_then, lit, returns, enter}
use types.ByLocal.{alloc_all, pass_all, free_all, look_at, sets}
use denote.RawPtr.{null_ptr}
use denote.Steps.{nothing}
use denote.Triple.Entry.{on_entry}
use denote.Triple.Walked.{says, ends_at}
use Rattle.std.specs.Prelude.{None}
use Rattle.std.proofs.raw_atomic.Walks.{proved}
use Rattle.zemuschida_c.proofs.Words.{owns_slot}
use Rattle.zemuschida_c.specs.contracts.slot.Slot.empty as f
use Rattle.zemuschida_c.proofs.slot.Slot.empty.Statement.{statement}
use Rattle.zemuschida_c.proofs.slot.Slot.empty.Code as code

pub empty_spec : {M : Type 1} → statement M
empty_spec 𝓤 𝓛 𝓜 𝓡 wired =
    let c = f.clauses 𝓛 𝓜.mem 𝓡.returns in
    proved 𝓛 f.ended tt c 𝓜 𝓡 tt f.Key.name code.function (code.unfolded 𝓤 𝓛.H 𝓜 𝓡 wired) (λ κs. tt) (λ κs. tt) (λ κs qs bounds a g are.
    qed 𝓛 (raw (on_entry 𝓛 f.signature κs qs a tt) ∷ raw (emp 𝓤) ∷ []) ∵ drop ! $ drop ! $
    enter ! _ _ _ _ _ $ alloc_all ! (λ l. pass_all ! refl tt $
    sets ! (agg ! (and_then ! (lit ! tt) (no_more !))) refl (tt, (record { fits = lit< tt }, tt)) $
    returns ! (look_at ! 0 refl) $ free_all ! refl $
    suffices ! _ (ends_at 𝓛 f.ended tt c ((κs, qs, bounds, a, tt), g) (vstruct (vcons vnull vnil)) (record { at = null_ptr; value = None }) tt tt) $ says ! refl $
    nothing ! $ owns_slot ! (record { at = null_ptr; value = None }) $ nothing ! $ join ! $ nothing ! $ join ! $ done !))
