-- The words that stand at a cursor and at a place, and the items of all places from one to another.
use Rattle.std.specs.Prelude.{ℕ, ◌-◌, ◌%◌, List, map, slice_index}
use Rattle.std.specs.List.{range_with_len}
use Rattle.cursor_word.specs.Shape.{Grid}
use Rattle.cursor_word.specs.Cursor.{cursor_of}
use Rattle.cursor_word.specs.Layout.{entry_index}
use Rattle.cursor_word.specs.declared.cursor.Cursor.{Cursor}
use Rattle.rail.specs.declared.entry.Placed.{Placed}
use Rattle.rail.specs.Items.{placed}

abbrev pub entry_from : Grid → List ℕ → Cursor → List ℕ
entry_from shape words at =
    map (λ (w : ℕ). slice_index words (entry_index shape (at.block % shape.blocks) at.offset w))
    (range_with_len 0 shape.width)

abbrev pub entry_at : Grid → List ℕ → ℕ → List ℕ
entry_at shape words place = entry_from shape words (cursor_of shape place)

-- the items of the places from the one to below the other, with the words that stand there
abbrev pub left_in : Grid → List ℕ → ℕ → ℕ → List Placed
left_in shape words from to =
    map (λ (place : ℕ). placed place (entry_at shape words place)) (range_with_len from (to - from))
