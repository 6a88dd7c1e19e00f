use Rattle.std.proofs.Common.{◌≡◌, ◌++◌, map, take}
use Rattle.command_words.specs.Texts.{bytes_of}
use Rattle.profile_cli.specs.Input.{made_of, name_of}
use Rattle.profile_cli.proofs.command.text_names.Given as goal

abbrev pub invariant-loop-file : goal.invariant-loop-file
invariant-loop-file l = bytes_of l.names.items ≡ map name_of (made_of l.options.generate) ++ bytes_of (take l.file-index l.options.files.items)
