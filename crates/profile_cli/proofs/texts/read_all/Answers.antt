use Rattle.std.proofs.Common.{rules, map, length-append, ◌≡◌, ◌+◌, ◌++◌, ◌∷◌, [], ℕ, List, length, ◌∙◌, ap, sym, subst, refl, arith}
use Rattle.std.proofs.lemmas.List.{length-map}
use Rattle.std.specs.Prelude.{string_bytes, sum_by, ◌⊎◌}
use Rattle.flow_io.specs.Flow.{HoldsNone, Rose}
use Rattle.profile_cli.specs.declared.ending.Ending.TheVariants.{TooLarge, Unread}
use Rattle.command_words.specs.Usage.{asked_of}
use Rattle.profile_cli.specs.Input.{AreRead, input_of, made_of, origins_of}
use Rattle.profile_cli.specs.Input.Origin.{file}
use Rattle.command_words.specs.Texts.{bytes_of}
use Rattle.profile_cli.proofs.Held.{AreFirst, Stops, first_more, made_first, named, named_none, number_of_file, read_more, stops_memory, stops_too_large, stops_too_much, stops_unread, sum_pushed, whole_input}
use Rattle.profile_cli.proofs.texts.read_all.Goals as goal

pub loop-name-init : goal.loop-name-init
loop-name-init g c =
    let options = c.args.options.now in
    let small = c.in-Ok.ensures.small in
    let first = made_first options.generate (map file (bytes_of options.files.items)) (g.F.Source.files c.args.files.now) c.in-Ok.texts.items c.in-Ok.ensures.made (omega (arith, small)) in
    let sum : c.bytes_in-total.result ≡ sum_by length c.in-Ok.texts.items = c.bytes_in-total.ensures ∙ ap (sum_by length) c.as_slice.ensures.value in
    let slice = c.as_slice.ensures.len in
    let same = ap length c.as_slice.ensures.value in
    let number = first.0.number in
    let base : length (made_of options.generate) ≡ length (made_of options.generate) + 0 = omega arith in
    record {
      quiet = search rules;
      files = search rules;
      number = omega (arith, slice, same, number);
      total = sum;
      size = omega (arith, sum, small);
      first = subst (λ (n : ℕ). AreFirst (origins_of (asked_of options)) (g.F.Source.files c.args.files.now) n c.in-Ok.texts.items) base first.0;
      read = subst (AreRead (input_of (origins_of (asked_of options)) (g.F.Source.files c.args.files.now) c.in-Ok.texts.items)) base first.1;
    }

pub returns-in-TooLarge-clause-stopped : goal.returns-in-TooLarge-clause-stopped
returns-in-TooLarge-clause-stopped g c =
    let i = c.loop-name.invariant in
    let files = g.F.Source.files c.args.files.now in
    let origins = origins_of (asked_of c.args.options.now) in
    let rose = Rose (g.F.Source.faults c.args.files.now) (g.F.Source.faults c.read_text.new.files) in
    let gave = c.in-TooLarge.ensures.text in
    let stops = stops_too_large origins (length (made_of c.args.options.now.generate) + c.loop-name.name-index) c.loop-name.texts.items rose
    (number_of_file (made_of c.args.options.now.generate) c.deref-name-items.result.now c.args.options.now.files.items c.deref-name-items.ensures.value c.name-item.result _ c.loop-name-test.true c.name-item.is _ c.as_str.ensures.value files _ i.files)
    files c.in-TooLarge.field-0.items i.first i.read gave.0
    (named (made_of c.args.options.now.generate) c.deref-name-items.result.now c.args.options.now.files.items c.deref-name-items.ensures.value c.name-item.result _ c.loop-name-test.true c.name-item.is _ c.as_str.ensures.value files _ i.files _ gave.1) in
    subst (λ (k : ℕ). Stops origins files rose (TooLarge k)) (sym (c.len-number.ensures ∙ i.number)) stops

pub returns-in-Unread-clause-stopped : goal.returns-in-Unread-clause-stopped
returns-in-Unread-clause-stopped g c =
    let i = c.loop-name.invariant in
    let files = g.F.Source.files c.args.files.now in
    let origins = origins_of (asked_of c.args.options.now) in
    let rose = Rose (g.F.Source.faults c.args.files.now) (g.F.Source.faults c.read_text.new.files) in
    let gave : rose ⊎ HoldsNone (g.F.Source.files c.loop-name.files) c.as_str.result.now =
    subst (λ (k : ℕ). Rose k (g.F.Source.faults c.read_text.new.files) ⊎ HoldsNone (g.F.Source.files c.loop-name.files) c.as_str.result.now) i.quiet (c.in-Unread.ensures.cause refl) in
    let stops = stops_unread origins (length (made_of c.args.options.now.generate) + c.loop-name.name-index) c.loop-name.texts.items rose
    (number_of_file (made_of c.args.options.now.generate) c.deref-name-items.result.now c.args.options.now.files.items c.deref-name-items.ensures.value c.name-item.result _ c.loop-name-test.true c.name-item.is _ c.as_str.ensures.value files _ i.files)
    files i.first i.read
    (named_none (made_of c.args.options.now.generate) c.deref-name-items.result.now c.args.options.now.files.items c.deref-name-items.ensures.value c.name-item.result _ c.loop-name-test.true c.name-item.is _ c.as_str.ensures.value files _ i.files rose gave) in
    subst (λ (k : ℕ). Stops origins files rose (Unread k)) (sym (c.len-number.ensures ∙ i.number)) stops

pub returns-then-total-gt-MOST_INPUT-clause-stopped : goal.returns-then-total-gt-MOST_INPUT-clause-stopped
returns-then-total-gt-MOST_INPUT-clause-stopped g c =
    let i = c.loop-name.invariant in
    let files = g.F.Source.files c.args.files.now in
    let origins = origins_of (asked_of c.args.options.now) in
    let rose = Rose (g.F.Source.faults c.args.files.now) (g.F.Source.faults c.read_text.new.files) in
    let gave = c.in-Whole.ensures.text in
    let sums : c.loop-name.total + c.len-total.result ≡ sum_by length c.push.new.self.items = sum_pushed _ _ _ _ _ c.in-Ok-push.ensures.items i.total (search rules) in
    stops_too_much origins (length (made_of c.args.options.now.generate) + c.loop-name.name-index) c.loop-name.texts.items rose
    (number_of_file (made_of c.args.options.now.generate) c.deref-name-items.result.now c.args.options.now.files.items c.deref-name-items.ensures.value c.name-item.result _ c.loop-name-test.true c.name-item.is _ c.as_str.ensures.value files _ i.files)
    files c.in-Whole.text.items c.push.new.self.items i.first i.read
    (named (made_of c.args.options.now.generate) c.deref-name-items.result.now c.args.options.now.files.items c.deref-name-items.ensures.value c.name-item.result _ c.loop-name-test.true c.name-item.is _ c.as_str.ensures.value files _ i.files _ gave.1)
    (c.in-Ok-push.ensures.items ∙ ap (λ (t : List ℕ). c.loop-name.texts.items ++ t ∷ []) c.from_bytes.ensures) gave.0 (omega (arith, sums, c.if-total-gt-MOST_INPUT.true))

pub loop-name-preserved : goal.loop-name-preserved
loop-name-preserved g c =
    let i = c.loop-name.invariant in
    let files = g.F.Source.files c.args.files.now in
    let origins = origins_of (asked_of c.args.options.now) in
    let gave = c.in-Whole.ensures.text in
    let sums : c.loop-name.total + c.len-total.result ≡ sum_by length c.push.new.self.items = sum_pushed _ _ _ _ _ c.in-Ok-push.ensures.items i.total (search rules) in
    let one = named (made_of c.args.options.now.generate) c.deref-name-items.result.now c.args.options.now.files.items c.deref-name-items.ensures.value c.name-item.result _ c.loop-name-test.true c.name-item.is _ c.as_str.ensures.value files _ i.files (λ bytes. c.in-Whole.text.items ≡ bytes) gave.1 in
    let within = number_of_file (made_of c.args.options.now.generate) c.deref-name-items.result.now c.args.options.now.files.items c.deref-name-items.ensures.value c.name-item.result _ c.loop-name-test.true c.name-item.is _ c.as_str.ensures.value files _ i.files in
    let pushed : c.push.new.self.items ≡ c.loop-name.texts.items ++ c.in-Whole.text.items ∷ [] = c.in-Ok-push.ensures.items ∙ ap (λ (t : List ℕ). c.loop-name.texts.items ++ t ∷ []) c.from_bytes.ensures in
    let base = length (made_of c.args.options.now.generate) in
    let next : (base + c.loop-name.name-index) + 1 ≡ base + (c.loop-name.name-index + 1) = omega arith in
    record {
      quiet = c.in-Whole.ensures.quiet (λ e. cc) ∙ i.quiet;
      files = c.read_text.ensures.files ∙ i.files;
      number = search rules;
      total = sums;
      size = c.if-total-gt-MOST_INPUT.false;
      first = subst (λ (n : ℕ). AreFirst origins files n c.push.new.self.items) next (first_more origins (base + c.loop-name.name-index) within c.loop-name.texts.items _ _ pushed files i.first one);
      read = subst (AreRead (input_of origins files c.push.new.self.items)) next (read_more origins (base + c.loop-name.name-index) within c.loop-name.texts.items _ _ pushed i.first.number files i.read one gave.0 (omega (arith, sums, c.if-total-gt-MOST_INPUT.false)));
    }

pub returns-clause-read : goal.returns-clause-read
returns-clause-read g c =
    let i = c.loop-name.invariant in
    let options = c.args.options.now in
    let files = length-map options.files.items string_bytes in
    let names = length-map (bytes_of options.files.items) file in
    let all = length-append (made_of options.generate) (map file (bytes_of options.files.items)) in
    whole_input (origins_of (asked_of options)) c.loop-name.texts.items (length (made_of options.generate) + c.loop-name.name-index) _ (omega (arith, files, names, all)) i.first i.read

pub returns-in-Memory-clause-stopped : goal.returns-in-Memory-clause-stopped
returns-in-Memory-clause-stopped g c = stops_memory (origins_of (asked_of c.args.options.now)) (g.F.Source.files c.args.files.now) (Rose (g.F.Source.faults c.args.files.now) (g.F.Source.faults c.read_text.new.files))

pub returns-in_default-clause-stopped : goal.returns-in_default-clause-stopped
returns-in_default-clause-stopped g c = stops_memory (origins_of (asked_of c.args.options.now)) (g.F.Source.files c.args.files.now) (Rose (g.F.Source.faults c.args.files.now) (g.F.Source.faults c.args.files.now))

pub returns-in_default-push-clause-stopped : goal.returns-in_default-push-clause-stopped
returns-in_default-push-clause-stopped g c = stops_memory (origins_of (asked_of c.args.options.now)) (g.F.Source.files c.args.files.now) (Rose (g.F.Source.faults c.args.files.now) (g.F.Source.faults c.read_text.new.files))

pub returns-in-TooLarge-clause-faults : goal.returns-in-TooLarge-clause-faults
returns-in-TooLarge-clause-faults g c = c.in-TooLarge.ensures.quiet (λ e. cc) ∙ c.loop-name.invariant.quiet

pub returns-in-Memory-clause-faults : goal.returns-in-Memory-clause-faults
returns-in-Memory-clause-faults g c = c.in-Memory.ensures.quiet (λ e. cc) ∙ c.loop-name.invariant.quiet

pub returns-in_default-push-clause-faults : goal.returns-in_default-push-clause-faults
returns-in_default-push-clause-faults g c = c.in-Whole.ensures.quiet (λ e. cc) ∙ c.loop-name.invariant.quiet

pub returns-then-total-gt-MOST_INPUT-clause-faults : goal.returns-then-total-gt-MOST_INPUT-clause-faults
returns-then-total-gt-MOST_INPUT-clause-faults g c = c.in-Whole.ensures.quiet (λ e. cc) ∙ c.loop-name.invariant.quiet
