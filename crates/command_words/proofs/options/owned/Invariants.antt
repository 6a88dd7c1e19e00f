use Rattle.std.proofs.Common.{◌≡◌, take}
use Rattle.command_words.specs.Texts.{bytes_of, texts_of}
use Rattle.command_words.proofs.options.owned.Given as goal

abbrev pub invariant-loop-text : goal.invariant-loop-text
invariant-loop-text l = bytes_of l.copies.items ≡ texts_of (take l.text-index l.texts)
