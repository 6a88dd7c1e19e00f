-- What sources and sinks in memory hold, and which of their calls fail.
use Rattle.std.specs.Prelude.{ℕ, ◌+◌, ◌-◌, ◌^◌, ◌==◌, ◌||◌, nat_lt, Bool, if◌then◌else◌, List, [], ◌∷◌, ◌++◌, length, map, min, Option, Some, None, String, Vec, string_bytes, slice_index_or}
use Rattle.std.specs.List.{list_any}
use Rattle.std.specs.Option.{option_map}
use Rattle.flow_io.specs.Flow.{Files, Beside}

-- the numbers of the calls that fail, counted from 0 over all methods; how many calls there were,
-- and how many failed
pub record CallFailures : Type 0 where
  pub fails : List ℕ
  pub calls : ℕ
  pub faults : ℕ

-- nothing was called yet
abbrev pub unused : List ℕ → CallFailures
unused fails = record { fails = fails; calls = 0; faults = 0 }

-- whether the next call is one of those that fail
abbrev pub is_due : CallFailures → Bool
is_due failing = list_any (λ n. n == failing.calls) failing.fails

-- one more, up to the counter's last value
abbrev pub counted : ℕ → ℕ
counted n = min (n + 1) (2 ^ 64 - 1)

-- one call later
abbrev pub after_call : CallFailures → Bool → CallFailures
after_call failing failed = record {
  fails = failing.fails;
  calls = counted failing.calls;
  faults = if failed then counted failing.faults else failing.faults;
}

-- a source in memory: its files, what is left of the started one, the most bytes that a read gives
pub record HeldFiles : Type 0 where
  pub files : Files
  pub left : List ℕ
  pub most : ℕ
  pub failing : CallFailures

-- a sink in memory: the bytes taken, the number of bytes for which it has room, the most that a
-- write takes
pub record HeldBytes : Type 0 where
  pub bytes : List ℕ
  pub room : ℕ
  pub most : ℕ
  pub failing : CallFailures

-- a trace store in memory: once one is begun, the earlier documents and the last one; for how many
-- more documents and bytes, with those of names, it has room; the most that a write takes
pub record HeldDocuments : Type 0 where
  pub begun : Option (Files × (List ℕ × List ℕ))
  pub spare : ℕ
  pub room : ℕ
  pub most : ℕ
  pub failing : CallFailures

-- all documents in order
abbrev pub documents_of : Option (Files × (List ℕ × List ℕ)) → Files
documents_of None = []
documents_of (Some begun) = begun.0 ++ begun.1 ∷ []

-- the bytes of the last document, none where there is none
abbrev pub last_bytes : Option (Files × (List ℕ × List ℕ)) → List ℕ
last_bytes None = []
last_bytes (Some begun) = begun.1.1

-- the earlier documents and the name of the last one
abbrev pub last_name : Option (Files × (List ℕ × List ℕ)) → Beside
last_name begun = option_map (λ b. (b.0, b.1.0)) begun

-- whether a document of this name can't be begun
abbrev pub is_refused : HeldDocuments → List ℕ → Bool
is_refused store name =
    is_due store.failing || (store.spare == 0 || nat_lt store.room (length name))

module _ {Y Z : Type 0} where
  abbrev pub shown : List (String Y × Vec ℕ Z) → Files
  shown fs =
      map {B = List ℕ × List ℕ} (λ (f : String Y × Vec ℕ Z). (string_bytes f.0, f.1.items)) fs

-- the bytes of the file at a place, none past the end
abbrev pub bytes_at : Files → ℕ → List ℕ
bytes_at files at = (slice_index_or files at ([], [])).1
