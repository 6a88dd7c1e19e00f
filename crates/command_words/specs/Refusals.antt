-- The numbers and words of the refusals.
use Rattle.std.specs.Prelude.{ℕ, List, codes}
use Rattle.clap.specs.declared.error.kind.ErrorKind.{ErrorKind}
use Rattle.clap.specs.declared.error.kind.ErrorKind.TheVariants.{OutOfMemory}
use Rattle.command_words.specs.declared.refusal.Refusal.{Refusal}
use Rattle.command_words.specs.declared.refusal.Refusal.TheVariants.{Words, Mode, Workers, Blocks, Size, Piece, Generate, Input}
use Rattle.command_words.specs.declared.refusal.ReadError.{ReadError}
use Rattle.command_words.specs.declared.refusal.ReadError.TheVariants.{Refused, Memory}

-- the number of a refusal
abbrev pub refusal_number : Refusal → ℕ
refusal_number Words = 1
refusal_number Mode = 2
refusal_number Workers = 3
refusal_number Blocks = 4
refusal_number Size = 5
refusal_number Piece = 6
refusal_number Generate = 7
refusal_number Input = 8

-- the word of a refusal, with which its message ends
abbrev pub refusal_word : Refusal → List ℕ
refusal_word Words = codes "words"
refusal_word Mode = codes "mode"
refusal_word Workers = codes "workers"
refusal_word Blocks = codes "blocks"
refusal_word Size = codes "size"
refusal_word Piece = codes "piece"
refusal_word Generate = codes "generate"
refusal_word Input = codes "input"

-- this is so of the refusal, where it isn't want of memory
abbrev pub IfRefused : ReadError → (Refusal → Type 0) → Type 0
IfRefused (Refused refusal) P = P refusal
IfRefused Memory P = Unit {0}

-- what an error of `clap` comes to: words that it refuses for another cause than memory
abbrev pub error_of : ErrorKind → ReadError
error_of OutOfMemory = Memory
error_of _ = Refused Words
