-- How a trace store in memory keeps its documents.
use Rattle.std.specs.Prelude.{◌≡◌, ℕ, ◌+◌, ◌≤◌, List, [], length, map, Option, MatchOption, string_bytes, string_len, string_capacity, vec_len, vec_capacity}
use Rattle.std.specs.Option.{option_map, option_to_list}
use Rattle.std.specs.List.{AllByRecursion}
use Rattle.flow_io.specs.Flow.{Files}
use Rattle.flow_io.specs.declared.store.Document.{Document}

abbrev pub document_of : Document → List ℕ × List ℕ
document_of d = (string_bytes d.name, d.bytes.items)

abbrev pub begun_of : List Document → Option Document → Option (Files × (List ℕ × List ℕ))
begun_of earlier last = option_map (λ d. (map document_of earlier, document_of d)) last

-- an empty document with room for so many bytes in its name and as many in its text
pub record IsUnused (room : ℕ) (d : Document) : Type 0 where
  pub no_name : string_bytes d.name ≡ []
  pub no_bytes : d.bytes.items ≡ []
  pub name_len : string_len d.name ≡ 0
  pub bytes_len : vec_len d.bytes ≡ 0
  pub name_room : room ≤ string_capacity d.name
  pub bytes_room : room ≤ vec_capacity d.bytes

-- what is left of the room fits each document that is written to from now on, and there is a place
-- for each document that becomes an earlier one
pub record HasRoom (earlier unused : List Document) (last : Option Document)
    (room full capacity : ℕ) : Type 0 where
  pub empty : AllByRecursion (IsUnused full) unused
  pub fits : room ≤ full
  pub begun : MatchOption last (earlier ≡ []) (λ d. room + vec_len d.bytes ≤ vec_capacity d.bytes)
  pub places : length earlier + length (option_to_list last) + length unused ≤ capacity
