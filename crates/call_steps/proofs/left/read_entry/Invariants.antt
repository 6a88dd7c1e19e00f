use Rattle.std.specs.Prelude.{◌≡◌, ℕ, ◌%◌, length, map, slice_index, take}
use Rattle.std.specs.List.{range_with_len}
use Rattle.cursor_word.specs.Layout.{entry_index}
use Rattle.call_steps.proofs.left.read_entry.Given as goal

abbrev pub invariant-loop-word : goal.invariant-loop-word
invariant-loop-word l = (length l.words ≡ 8) × (take l.word l.words ≡ map (λ (w : ℕ). slice_index l.stopped (entry_index l.shape (l.at.block % l.shape.blocks) l.at.offset w)) (range_with_len 0 l.word))
