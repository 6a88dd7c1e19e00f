-- A text that is refused ends the command so.
use Rattle.std.proofs.Common.{◌≡◌, ℕ, ◌⊎◌, inl, inr, List, Result, Ok, Err, sym, ◌∙◌, subst}
use Rattle.std.specs.Prelude.{⊤}
use Rattle.trace_read.specs.declared.checking.CheckError.{CheckError}
use Rattle.trace_read.specs.declared.ending.Ending.{Ending}
use Rattle.trace_read.specs.declared.ending.Ending.TheVariants.{OutOfMemory}
use Rattle.trace_read.specs.declared.reading.ReadError.{ReadError}
use Rattle.trace_read.specs.declared.reading.ReadTrace.{ReadTrace}
use Rattle.trace_read.specs.declared.total.Total.{Total}
use Rattle.trace_read.specs.Command.{Written, EndsText, check_of, totals_or_ending, trace_or_ending}
use Rattle.trace_read.specs.Reading.{reading}
use Rattle.trace_read.specs.Totals.{totals_by_worker}

module _ (text : List ℕ) (out : Written) where
  abbrev EndsIfErr : Result (List Total) Ending → Type 0
  EndsIfErr (Ok totals) = ⊤
  EndsIfErr (Err ending) = EndsText text out ending

  by_totals : (found : Result (List Total) CheckError) (ending : Ending) → totals_or_ending found ≡ Err ending → check_of text ≡ Err ending → out.new_told ≡ out.told → EndsText text out ending
  by_totals (Ok totals) ending e h told = cc
  by_totals (Err refusal) ending e h told = subst EndsIfErr e (h ∙ sym e, told)

  by_reading : (found : Result ReadTrace ReadError) (ending : Ending) → trace_or_ending found ≡ Err ending → check_of text ≡ Err ending → out.new_told ≡ out.told → EndsText text out ending
  by_reading (Ok trace) ending e h told = by_totals (totals_by_worker trace.spans) ending e h told
  by_reading (Err refusal) ending e h told = subst EndsIfErr e (h ∙ sym e, told)

  pub ends_refused : (ending : Ending) → (ending ≡ OutOfMemory) ⊎ (check_of text ≡ Err ending) → out.new_told ≡ out.told → EndsText text out ending
  unfolding check_of
  ends_refused ending (inl memory) told = subst (EndsText text out) (sym memory) told
  ends_refused ending (inr refused) told = by_reading (reading text) ending refused refused told
