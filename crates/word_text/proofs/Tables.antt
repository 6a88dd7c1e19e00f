-- A table of byte vectors, read as numbers for byte lists.
use Rattle.std.proofs.Common.{◌≡◌, ℕ, Bool, true, false, cond, Some, Option, List, [], ◌∷◌, sym, refl, ap, ◌∙◌, subst, unwrap_or, Vec}
use Rattle.std.specs.Ordering.{nat_cmp, eq_by_cmp}
use Rattle.std.specs.Str.{bytes_eq}
use Rattle.std.specs.Cmp.{eq_by_cmp_equiv}
use Rattle.std.specs.Cmp.Lexicographic.{slice_cmp, bytes_decides, nat_list_eq_equiv, nat_list_cmp_total, texts_ties}
use Rattle.std.specs.FinMap.{from_entries, insert, get, find, get-from_entries, get-insert, same_map, slice_cmp-IsAntisymmetric, nat_cmp-IsAntisymmetric}
use Rattle.std.specs.Map.{lookup, KeepsOthers}
use Rattle.word_text.specs.Counts.{count_in, shown}

module _ {Z : Type 0} where
  -- the test by which a table looks bytes up
  abbrev pub is_at_bytes : List ℕ → Vec ℕ Z → Bool
  is_at_bytes q k = bytes_eq q k.items

  abbrev pub same_bytes : Vec ℕ Z → Vec ℕ Z → Bool
  same_bytes x y = bytes_eq x.items y.items

  -- after a change at w, what any bytes find
  pub found_after : (w : List ℕ) (v : Option ℕ) (es fs : List (Vec ℕ Z × ℕ)) → lookup (is_at_bytes w) fs ≡ v → KeepsOthers same_bytes (is_at_bytes w) es fs
      → (q : List ℕ) → lookup (is_at_bytes q) fs ≡ cond (bytes_eq w q) v (lookup (is_at_bytes q) es)
  unfolding KeepsOthers
  found_after w v es fs now others q =
      elim (bytes_eq w q) as (λ b. bytes_eq w q ≡ b → lookup (is_at_bytes q) fs ≡ cond b v (lookup (is_at_bytes q) es)) [
        | true ↦ λ e. subst (λ r. lookup (is_at_bytes r) fs ≡ v) ((bytes_decides w q).0 e) now
        | false ↦ λ e. others (is_at_bytes q) (λ x y h. nat_list_eq_equiv.congr q x.items y.items h) (λ k h. ap (bytes_eq q) (sym ((bytes_decides w k.items).0 h)) ∙ nat_list_eq_equiv.symm q w ∙ e)
      ] refl

  find_shown : (es : List (Vec ℕ Z × ℕ)) (q : List ℕ) → find (slice_cmp nat_cmp) q (shown es) ≡ lookup (is_at_bytes q) es
  find_shown [] q = refl
  find_shown (e ∷ es) q = ap (λ b. cond b (Some e.1) (find (slice_cmp nat_cmp) q (shown es))) (sym (texts_ties q e.0.items)) ∙ ap (cond (bytes_eq q e.0.items) (Some e.1)) (find_shown es q)

  pub get_shown : (es : List (Vec ℕ Z × ℕ)) (q : List ℕ) → get (from_entries {R = slice_cmp nat_cmp} (shown es)) q ≡ lookup (is_at_bytes q) es
  get_shown es q = get-from_entries nat_list_cmp_total (shown es) q ∙ find_shown es q

  -- the number that a look-up found
  pub number_found : (es : List (Vec ℕ Z × ℕ)) (w : List ℕ) (o : Option ℕ) → o ≡ lookup (is_at_bytes w) es → count_in (from_entries (shown es)) w ≡ unwrap_or o 0
  number_found es w o e = ap (λ r. unwrap_or r 0) (get_shown es w ∙ sym e)

  -- a table that differs at w alone, where it has n
  pub one_set : (es fs : List (Vec ℕ Z × ℕ)) (w : List ℕ) (n : ℕ) → lookup (is_at_bytes w) fs ≡ Some n → KeepsOthers same_bytes (is_at_bytes w) es fs
      → from_entries {R = slice_cmp nat_cmp} (shown fs) ≡ insert (from_entries (shown es)) w n
  one_set es fs w n now others =
      same_map nat_list_cmp_total (slice_cmp-IsAntisymmetric nat_cmp-IsAntisymmetric) _ _ (λ q.
      get_shown fs q ∙ found_after w (Some n) es fs now others q
      ∙ ap (λ b. cond b (Some n) (lookup (is_at_bytes q) es)) (texts_ties w q ∙ (eq_by_cmp_equiv nat_list_cmp_total).symm w q)
      ∙ sym (get-insert nat_list_cmp_total (from_entries (shown es)) w n q ∙ ap (cond (eq_by_cmp (slice_cmp nat_cmp) q w) (Some n)) (get_shown es q)))
