-- One seat takes in the others of a list, from its end.
use Rattle.std.proofs.Common.{◌≡◌, ℕ, ◌+◌, Bool, true, false, ◌||◌, List, [], ◌∷◌, ◌++◌, length, length-append, All, IsPermutation, flat_map, append_assoc, append-nil, sym, refl, ap, ◌∙◌, subst, arith}
use Rattle.std.specs.List.{list_any}
use Rattle.std.proofs.Math.Bool.{or-false}
use Rattle.std.proofs.Math.ListN.{get_or-append}
use Rattle.std.proofs.Math.Seq.{get_or-append_seam}
use Rattle.std.proofs.lemmas.Grind.{flat_map-append}
use Rattle.std.proofs.lemmas.List.Folds.{list_any-append}
use Rattle.std.proofs.lemmas.List.Sorted.{IsPermutation-trans, IsPermutation-append_comm, IsPermutation-append_right}
use Rattle.step_log.specs.Log.{TableId, Sitting}
use Rattle.claim_table.specs.declared.share.Share.{Share}
use Rattle.claim_table.specs.Claimed.{Drawing, joint_share, Gathering, IsSeatOf}

swap : (a b c : Bool) → (a || (b || c)) ≡ ((a || c) || b)
swap true b c = refl
swap false true true = refl
swap false true false = refl
swap false false true = refl
swap false false false = refl

abbrev halts : Drawing → Bool
halts s = s.stopped

any-snoc : (xs : List Drawing) (x : Drawing) → list_any halts (xs ++ x ∷ []) ≡ (list_any halts xs || x.stopped)
any-snoc xs x = list_any-append halts xs (x ∷ []) ∙ ap (λ (b : Bool). list_any halts xs || b) (or-false x.stopped)

abbrev draws : Drawing → List ℕ
draws s = s.drawn

draws-snoc : (xs : List Drawing) (x : Drawing) → flat_map draws (xs ++ x ∷ []) ≡ flat_map draws xs ++ x.drawn
draws-snoc xs x = flat_map-append draws xs (x ∷ []) ∙ ap (λ (ds : List ℕ). flat_map draws xs ++ ds) (append-nil x.drawn)

module _ {A : Type 0} (P : A → Type 0) (xs : List A) (x : A) (all : All P (xs ++ x ∷ [])) where
  all_init : All P xs
  all_init k d h = subst P (get_or-append xs (x ∷ []) d k h) (all k d (omega (arith, length-append xs (x ∷ []))))

  all_last : P x
  all_last = subst P (get_or-append_seam xs x [] x) (all (length xs) x (omega (arith, length-append xs (x ∷ []))))

module _ (id : TableId) (left : List Drawing) (x : Drawing) (seat : Sitting Share) (is : IsSeatOf x seat) where
  one : seat.view.parts ≡ 1
  one = ap (λ (v : Share). v.parts) is.1

  its : seat.view.drawn ≡ x.drawn
  its = ap (λ (v : Share). v.drawn) is.1

  pub begins : (seats : List Drawing) → seats ≡ left ++ x ∷ [] → All (λ (s : Drawing). s.of.id ≡ id) seats → Gathering id seat left seats
  begins seats cut own = let own' = subst (All (λ (s : Drawing). s.of.id ≡ id)) cut own in let parts = one in
      record {
        same = is.0 ∙ all_last (λ (s : Drawing). s.of.id ≡ id) left x own';
        some_parts = omega arith;
        count = omega (arith, ap length cut, length-append left (x ∷ []));
        drawn = rw (cut, draws-snoc left x, its) (IsPermutation-append_comm (flat_map draws left) x.drawn);
        stopped = ap (λ (v : Share). list_any halts left || v.stopped) is.1 ∙ (sym (any-snoc left x) ∙ ap (list_any halts) (sym cut));
        own = all_init (λ (s : Drawing). s.of.id ≡ id) left x own';
      }

  pub goes_on : (all next : Sitting Share) (rest seats : List Drawing) → Gathering id all rest seats → rest ≡ left ++ x ∷ [] → next.id ≡ all.id → next.view ≡ joint_share all.view seat.view → Gathering id next left seats
  goes_on all next rest seats g cut same view = let own' = subst (All (λ (s : Drawing). s.of.id ≡ id)) cut g.own in let on = one in
      let stop : seat.view.stopped ≡ x.stopped = ap (λ (v : Share). v.stopped) is.1 in
      let parts : next.view.parts ≡ all.view.parts + seat.view.parts = ap (λ (v : Share). v.parts) view in
      let some_now = g.some_parts in let count_now = g.count in
      let drawn : next.view.drawn ≡ all.view.drawn ++ x.drawn = ap (λ (v : Share). v.drawn) view ∙ ap (λ (ds : List ℕ). all.view.drawn ++ ds) its in
      let before : IsPermutation (flat_map draws seats) (all.view.drawn ++ (flat_map draws left ++ x.drawn)) = subst (λ (ds : List ℕ). IsPermutation (flat_map draws seats) (all.view.drawn ++ ds)) (ap (flat_map draws) cut ∙ draws-snoc left x) g.drawn in
      let turned : IsPermutation (all.view.drawn ++ (flat_map draws left ++ x.drawn)) (all.view.drawn ++ (x.drawn ++ flat_map draws left)) =
      IsPermutation-append_right all.view.drawn (flat_map draws left ++ x.drawn) (x.drawn ++ flat_map draws left) (IsPermutation-append_comm (flat_map draws left) x.drawn) in
      let after = IsPermutation-trans (flat_map draws seats) (all.view.drawn ++ (flat_map draws left ++ x.drawn)) (all.view.drawn ++ (x.drawn ++ flat_map draws left)) before turned in
      record {
        same = same ∙ g.same;
        some_parts = omega arith;
        count = omega (arith, ap length cut, length-append left (x ∷ []));
        drawn = subst (λ (ds : List ℕ). IsPermutation (flat_map draws seats) ds) (sym (append_assoc all.view.drawn x.drawn (flat_map draws left)) ∙ ap (λ (ds : List ℕ). ds ++ flat_map draws left) (sym drawn)) after;
        stopped = ap (λ (v : Share). list_any halts left || v.stopped) view ∙ (ap (λ (b : Bool). list_any halts left || (all.view.stopped || b)) stop
            ∙ (swap (list_any halts left) all.view.stopped x.stopped ∙ (ap (λ (b : Bool). b || all.view.stopped) (sym (any-snoc left x) ∙ ap (list_any halts) (sym cut)) ∙ g.stopped)));
        own = all_init (λ (s : Drawing). s.of.id ≡ id) left x own';
      }
