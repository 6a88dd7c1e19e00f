-- The words of entries stay where a step changes no word behind the cursors.
use Rattle.std.proofs.Common.{◌≡◌, ℕ, ◌+◌, ◌*◌, ◌%◌, ◌≤◌, ◌≢◌, List, length, sym, ap, ◌∙◌, subst, ⊎_elim, arith}
use Rattle.std.specs.Prelude.{Some, slice_get, slice_set, slice_index}
use Rattle.cursor_word.specs.Shape.{Grid}
use Rattle.cursor_word.specs.Cursor.{cursor_of}
use Rattle.cursor_word.specs.Layout.{entry_index}
use Rattle.cursor_word.specs.declared.cursor.Cursor.{Cursor}
use Rattle.rail.specs.declared.entry.Placed.{Placed}
use Rattle.machine.specs.declared.view.View.{View}
use Rattle.machine.proofs.Lists.{get_set}
use Rattle.put_side.specs.Stages.{PutStage}
use Rattle.put_side.specs.declared.put_phase.PutPhase.TheVariants.{Write, Commit}
use Rattle.put_side.specs.Stages.{At}
use Rattle.put_side.specs.Entries.{HasEntries, HasWords, HoldsWords, IsPresent}

-- the words behind the cursors stay
abbrev pub KeepsEntries : Grid → List ℕ → List ℕ → Type 0
KeepsEntries g ws ws' = (i : ℕ) → 2 + 4 * g.blocks ≤ i → slice_index ws' i ≡ slice_index ws i

-- the entries of each seat
abbrev pub AllHaveEntries : {P : Type 0} → (View P → PutStage) → Grid → (ℕ → ℕ) → List ℕ → List (View P) → Type 0
AllHaveEntries {P} stage g allocated ws vs = (j : ℕ) (u : View P) → slice_get vs j ≡ Some u → HasEntries stage g allocated ws u

pub words_same : (g : Grid) (ws ws' : List ℕ) (at : Cursor) (entry : List ℕ) (n : ℕ) → KeepsEntries g ws ws' → HasWords g ws at entry n → HasWords g ws' at entry n
words_same g ws ws' at entry n same h w l = same (entry_index g (at.block % g.blocks) at.offset w) (omega arith) ∙ h w l

held_same : (g : Grid) (ws ws' : List ℕ) (entry : List ℕ) (s : PutStage) → KeepsEntries g ws ws' → HoldsWords g ws entry s → HoldsWords g ws' entry s
held_same g ws ws' entry (At (Write at next)) same h = words_same g ws ws' at entry next same h
held_same g ws ws' entry (At (Commit at)) same h = words_same g ws ws' at entry g.width same h
held_same g ws ws' entry s same h = tt

module _ {P : Type 0} (stage : View P → PutStage) (g : Grid) (allocated allocated' : ℕ → ℕ) (ws ws' : List ℕ) (more : (k : ℕ) → allocated k ≤ allocated' k) where
  pub made_words_stay : KeepsEntries g ws ws' → (u : View P) → HasEntries stage g allocated ws u → (i : ℕ) (item : Placed) → slice_get u.made i ≡ Some item
      → IsPresent allocated' (cursor_of g item.place).block → HasWords g ws' (cursor_of g item.place) item.words g.width
  made_words_stay same u h i item e near =
      words_same g ws ws' (cursor_of g item.place) item.words g.width same (h.made_words i item e (let q = more (cursor_of g item.place).block in omega (arith, near)))

  pub entries_grow : KeepsEntries g ws ws' → (u : View P) → HasEntries stage g allocated ws u → HasEntries stage g allocated' ws' u
  entries_grow same u h = record {
    wide = h.wide;
    held_words = held_same g ws ws' u.entry (stage u) same h.held_words;
    made_wide = h.made_wide;
    made_words = made_words_stay same u h;
  }

  -- the entries after a step, from its parts
  pub after_entries : (vs : List (View P)) (id : ℕ) (v' : View P) → ((j : ℕ) (u : View P) → j ≢ id → slice_get vs j ≡ Some u → HasEntries stage g allocated' ws' u)
      → HasEntries stage g allocated' ws' v' → AllHaveEntries stage g allocated' ws' (slice_set vs id v')
  after_entries vs id v' others own j u e = ⊎_elim (λ q. subst (HasEntries stage g allocated' ws') q.1 own) (λ q. others j u q.0 q.1) (get_set vs id j v' u e)

  -- a step that makes nothing and changes no word of an entry
  pub entries_stay : KeepsEntries g ws ws' → (vs : List (View P)) (id : ℕ) (v v' : View P) → AllHaveEntries stage g allocated ws vs → slice_get vs id ≡ Some v
      → v'.made ≡ v.made → length v'.entry ≡ g.width → HoldsWords g ws' v'.entry (stage v') → AllHaveEntries stage g allocated' ws' (slice_set vs id v')
  entries_stay same vs id v v' all at made wide holds =
      after_entries vs id v' (λ j u d h. entries_grow same u (all j u h))
      record {
        wide = wide;
        held_words = holds;
        made_wide = λ i item h. (all id v at).made_wide i item (ap (λ (l : List Placed). slice_get l i) (sym made) ∙ h);
        made_words = λ i item h. made_words_stay same v (all id v at) i item (ap (λ (l : List Placed). slice_get l i) (sym made) ∙ h);
      }
