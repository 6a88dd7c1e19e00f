-- What a view copies into its caller's memory.
use Rattle.std.specs.Prelude.{◌≡◌, ℕ, ◌-◌, ◌&&◌, Bool, true, false, List, ◌++◌, Ok, Err, Result, drop, length, map, nat_le, replicate}
use Rattle.std.specs.declared.alloc.AllocError.{AllocError}
use Rattle.rail.specs.declared.entry.Placed.{Placed}
use Rattle.flight_view.specs.declared.gaps.Gap.{Gap}
use Rattle.flight_view.specs.declared.walking.View.{View}
use Rattle.flight_view.specs.Views.{HasWalked}
use Rattle.zemuschida_c.specs.Codes.{no_memory, no_room, ok, shown}
use Rattle.zemuschida_c.specs.Seats.{RingSeat}
use Rattle.zemuschida_c.specs.declared.view.ZemGap.{ZemGap}
use Rattle.zemuschida_c.specs.declared.view.ZemItem.{ZemItem}
use Rattle.zemuschida_c.specs.declared.view.ZemView.{ZemView}

-- the caller's memory: room for items and for gaps, and how many of each a view has
pub record Room : Type 0 where
  pub items : List ZemItem
  pub gaps : List ZemGap
  pub counts : ZemView

abbrev pub room : List ZemItem → List ZemGap → ZemView → Room
room items gaps counts = record { items = items; gaps = gaps; counts = counts }

-- an item and a gap, as C sees them
abbrev pub item_of : Placed → ZemItem
item_of item =
    record { place = item.place; words = item.words ++ replicate (8 - length item.words) 0 }

abbrev pub gap_of : Gap → ZemGap
gap_of gap =
    record {
      block = gap.block;
      committed = shown gap.committed;
      allocated = shown gap.allocated;
    }

-- whether there is room for a view
abbrev pub is_roomy : View → Room → Bool
is_roomy view old =
    nat_le (length view.items.items) (length old.items)
    && nat_le (length view.gaps) (length old.gaps)

abbrev pub code_if : Bool → ℕ
code_if true = ok
code_if false = no_room

abbrev pub view_code : View → Room → ℕ
view_code view old = code_if (is_roomy view old)

-- The items and the gaps of the view lie in front, and nothing behind them has changed. Where there
-- is too little room, nothing has.
abbrev pub with_view : View → Room → Room
with_view view old =
    record {
      items = map item_of view.items.items ++ drop (length view.items.items) old.items;
      gaps = map gap_of view.gaps ++ drop (length view.gaps) old.gaps;
      counts = record { items = length view.items.items; gaps = length view.gaps };
    }

abbrev pub filled_if : Bool → View → Room → Room
filled_if true view old = with_view view old
filled_if false view old = old

abbrev pub filled : View → Room → Room
filled view old = filled_if (is_roomy view old) view old

-- so is what a call answers and leaves, by what the queue's own view answered
abbrev pub CopiesView : Result View AllocError → Room → Room → ℕ → Type 0
CopiesView (Ok view) old new code = (code ≡ view_code view old) × (new ≡ filled view old)
CopiesView (Err failed) old new code = (code ≡ no_memory) × (new ≡ old)

-- a view by a seat, before and after it, left this memory of the caller's, and gave this code
pub record HasViewed (old new : RingSeat) (before after : Room) (code : ℕ) : Type 0 where
  pub queue : new.rail ≡ old.rail
  pub view : Result View AllocError
  pub walked : HasWalked old.rail.shape old.seat new.seat view
  pub copied : CopiesView view before after code
