use Rattle.std.proofs.Common.{◌≡◌, ◌+◌, ◌≤◌, length, vec_len}
use Rattle.std.specs.Prelude.{sum_by}
use Rattle.command_words.specs.Usage.{asked_of}
use Rattle.profile_cli.specs.Input.{AreRead, input_of, made_of, origins_of}
use Rattle.profile_cli.specs.Texts.{input_limit}
use Rattle.profile_cli.proofs.Held.{AreFirst}
use Rattle.profile_cli.proofs.texts.read_all.Given as goal

abbrev pub invariant-loop-name : goal.invariant-loop-name
invariant-loop-name g l = record {
  quiet : g.F.Source.faults l.files ≡ g.F.Source.faults l.fn.files;
  files : g.F.Source.files l.files ≡ g.F.Source.files l.fn.files;
  number : vec_len l.texts ≡ length (made_of l.options.generate) + l.name-index;
  total : l.total ≡ sum_by length l.texts.items;
  size : l.total ≤ input_limit;
  first : AreFirst (origins_of (asked_of l.options)) (g.F.Source.files l.fn.files) (length (made_of l.options.generate) + l.name-index) l.texts.items;
  read : AreRead (input_of (origins_of (asked_of l.options)) (g.F.Source.files l.fn.files) l.texts.items) (length (made_of l.options.generate) + l.name-index);
}
