-- A block is looked at, and then its entries.
use Rattle.std.proofs.Common.{◌≡◌, ℕ, ◌/◌, ◌<◌, List, [], ◌∷◌, ◌++◌, Bool, true, false, length, refl, sym, ap, subst, ◌∙◌, inl, inr, ⊎_elim, arith}
use Rattle.std.specs.Prelude.{Contains, Err, IfOk, IfSome, OnErr, Ok, None, Option, Some, Result, if◌then◌else◌, ◌==◌, ◌&&◌, ◌||◌, map, option_to_list}
use Rattle.std.specs.declared.alloc.AllocError.{AllocError}
use Rattle.std.proofs.lemmas.List.{append-nil, get_or-map, length-map}
use Rattle.std.proofs.lemmas.List.Elements.{All-contains, All-nil}
use Rattle.cursor_word.specs.Shape.{Grid}
use Rattle.cursor_word.specs.Cursor.{cursor, cursor_of, offset_span, unpacked}
use Rattle.cursor_word.specs.declared.cursor.Cursor.{Cursor}
use Rattle.rail.specs.declared.entry.Placed.{Placed}
use Rattle.rail.specs.Items.{places}
use Rattle.put_side.proofs.Sums.{by_test}
use Rattle.block_looks.specs.declared.look.LookPhase.TheVariants.{Com, All as AllOf}
use Rattle.block_looks.specs.declared.look.LookAfter.{LookAfter}
use Rattle.block_looks.specs.declared.look.LookAfter.TheVariants as after
use Rattle.block_looks.specs.declared.look.Look.{Look}
use Rattle.block_looks.specs.declared.look.Look.TheVariants as look
use Rattle.block_looks.specs.Table.{look_of}
use Rattle.block_looks.specs.Shown.{AreBefore, AreWithin, LookLeads}
use Rattle.put_side.proofs.Choices.{by_equal}
use Rattle.drop_rail.specs.Looking.{HasLooked, Looker}
use Rattle.flight_view.specs.declared.gaps.Gap.{Gap}
use Rattle.flight_view.specs.Walks.{AreEntryLooks, BlockLook, block_gaps, block_items, block_loads, gap, reused_in}
use Rattle.flight_view.specs.Views.{HasSeen, IsCaused}
use Rattle.flight_view.specs.Parts.{EntriesEnd, Gathers, IsOneAtMost, SawBlock, SawEntries, midway}
use Rattle.flight_view.proofs.Gathered.{seen_look, seen_on}

-- the place of an item of a list is among the list's places
pub place_in : (items : List Placed) (item : Placed) → Contains items item → Contains (places items) item.place
place_in items item h =
    let n = length-map items (λ (i : Placed). i.place) in
    (h.0, omega (arith, h.1), get_or-map (λ (i : Placed). i.place) items h.0 item item.place h.1 ∙ ap (λ (i : Placed). i.place) h.2)

-- what the answer of a look at a block says of its cursors
abbrev IsTold : ℕ → LookAfter → Type 0
IsTold k (after.Block (look.Whole n c a)) = (c.block ≡ k) × (c.offset ≡ n)
IsTold k (after.Block (look.Gap c a)) = IsCaused (gap k c a)
IsTold k other = Unit {0}

told_of_both : (g : Grid) (k : ℕ) (c a : Cursor) → IsTold k (after.Block (look_of g k c a))
told_of_both g k c a =
    let inner : Bool → Look = λ b. if b then look.Whole c.offset c a else look.Gap c a in
    by_equal c.block k (λ b. IsTold k (after.Block (if b && (a.block == k) then inner ((c.offset == g.size) || (a.offset == c.offset)) else look.Gap c a)))
    (λ own. by_equal a.block k (λ b. IsTold k (after.Block (if b then inner ((c.offset == g.size) || (a.offset == c.offset)) else look.Gap c a)))
    (λ e. by_equal c.offset g.size (λ b. IsTold k (after.Block (inner (b || (a.offset == c.offset)))))
    (λ full. (own, refl))
    (λ n. by_equal a.offset c.offset (λ b. IsTold k (after.Block (inner b))) (λ same. (own, refl)) (λ other. inl (λ q. other (ap (λ (z : Cursor). z.offset) (sym q))))))
    (λ other. inl (λ q. other (ap (λ (z : Cursor). z.block) (sym q) ∙ own))))
    (λ other. inr other)

told_from_all : (g : Grid) (k : ℕ) (c : Cursor) (found : List ℕ) (answer : LookAfter) → LookLeads g (after.Next (AllOf k c)) found answer → IsTold k answer
told_from_all g k c [] answer e = subst (IsTold k) e tt
told_from_all g k c (x ∷ []) answer e = subst (IsTold k) e (told_of_both g k c (unpacked x))
told_from_all g k c (x ∷ y ∷ ys) answer e = absurd e

told_from_unopened : (g : Grid) (k : ℕ) (c : Cursor) (found : List ℕ) (answer : LookAfter) → LookLeads g (after.Block (look.Unopened c)) found answer → IsTold k answer
told_from_unopened g k c [] answer e = subst (IsTold k) e tt
told_from_unopened g k c (x ∷ xs) answer e = absurd e

pub told : (g : Grid) (k : ℕ) (found : List ℕ) (answer : LookAfter) → LookLeads g (after.Next (Com k)) found answer → IsTold k answer
told g k [] answer e = subst (IsTold k) e tt
told g k (x ∷ xs) answer e =
    by_test (x / offset_span) k (λ b. LookLeads g (if b then after.Block (look.Unopened (unpacked x)) else after.Next (AllOf k (unpacked x))) xs answer → IsTold k answer)
    (λ l. told_from_unopened g k (unpacked x) xs answer) (λ l. told_from_all g k (unpacked x) xs answer) e

-- the gaps of a block whose looks found at most one later block in its place
one_gap : (k : ℕ) (c : Cursor) → c.block ≡ k → (causes : List Cursor) (reused : Option Cursor) → causes ≡ option_to_list reused → IfSome reused (λ now. k < now.block) → IsOneAtMost k (map (gap k c) causes)
one_gap k c own causes None e l = inl (ap (map (gap k c)) e)
one_gap k c own causes (Some now) e l = inr (gap k c now, ap (map (gap k c)) e, refl, inl (λ q. let b = ap (λ (z : Cursor). z.block) q in omega arith))

-- a block with a gap is among the blocks of the gaps
some_gap : (k : ℕ) (c : Cursor) (causes : List Cursor) → 0 < length causes → Contains (map (λ (x : Gap). x.block) (map (gap k c) causes)) k
some_gap k c [] l = absurd (omega arith)
some_gap k c (x ∷ xs) l = (0, omega arith, refl)

module _ (g : Grid) (k : ℕ) (old new : Looker) (items : List Placed) (gaps : List Gap) where
  -- a look that showed no item
  abbrev looks_alone : Look → BlockLook
  looks_alone answer = record { block = k; found = new.memory.look_trail; answer = answer; entries = [] }

  no_entries : AreEntryLooks g k 0 []
  no_entries = record { leads = All-nil _; order = refl; within = omega arith; whole = All-nil _ }

  module _ (c : Cursor) (did : HasLooked g old new (Com k) (after.Block (look.Unopened c))) (kept : new.memory.looked ≡ old.memory.looked) where
    pub saw_unopened : AreBefore g new.view.made k → SawBlock g k (midway old items gaps) (midway new items gaps) (Ok false)
    saw_unopened before = record {
      looks = looks_alone (look.Unopened c);
      at = refl;
      is = record { leads = did.steps.leads; entries = no_entries };
      gathers = record {
        seen = subst (λ l. HasSeen old new l []) (sym (append-nil _)) (seen_look g old new (Com k) _ [] did (kept ∙ sym (append-nil _)));
        items_on = sym (append-nil items);
        gaps_on = sym (append-nil gaps);
      };
      one = inl refl;
      ends = ((c, refl), before);
    }

  module _ (c a : Cursor) (did : HasLooked g old new (Com k) (after.Block (look.Gap c a))) (kept : new.memory.looked ≡ old.memory.looked) where
    pub saw_gap : (more : List Gap) → more ≡ gaps ++ gap k c a ∷ [] → SawBlock g k (midway old items gaps) (midway new items more) (Ok true)
    saw_gap more is = record {
      looks = looks_alone (look.Gap c a);
      at = refl;
      is = record { leads = did.steps.leads; entries = no_entries };
      gathers = record {
        seen = subst (λ l. HasSeen old new l []) (sym (append-nil _)) (seen_look g old new (Com k) _ [] did (kept ∙ sym (append-nil _)));
        items_on = sym (append-nil items);
        gaps_on = is;
      };
      one = inr (gap k c a, refl, refl, told g k new.memory.look_trail (after.Block (look.Gap c a)) did.steps.leads);
      ends = (record { opened = λ m e. cc; through = inl refl }, λ item h from to. inr (0, omega arith, omega arith));
    }

  -- a whole block, whose entries were looked at
  module _ (n : ℕ) (c a : Cursor) (did : HasLooked g old new (Com k) (after.Block (look.Whole n c a))) (kept : new.memory.looked ≡ old.memory.looked)
      (last : Looker) (after_items : List Placed) (answer : Result (Option Cursor) AllocError) (saw : SawEntries g (cursor k n) (midway new items []) (midway last after_items []) answer) where
    abbrev looks_both : BlockLook
    looks_both = record { block = k; found = new.memory.look_trail; answer = look.Whole n c a; entries = saw.entries }

    both : (more : List Gap) → more ≡ gaps ++ map (gap k c) (reused_in saw.entries) → Gathers (midway old items gaps) (midway last after_items more) (block_loads g looks_both) (block_items g looks_both) (block_gaps looks_both)
    both more is = record {
      seen = seen_on old new last _ _ [] _ (seen_look g old new (Com k) _ [] did (kept ∙ sym (append-nil _))) saw.gathers.seen;
      items_on = saw.gathers.items_on;
      gaps_on = is;
    }

    pub saw_short : (error other : AllocError) → answer ≡ Err error → SawBlock g k (midway old items gaps) (midway last after_items gaps) (Err other)
    saw_short error other e =
        let none : reused_in saw.entries ≡ [] = subst (λ r. OnErr r (reused_in saw.entries ≡ [])) e saw.whole in
        record {
          looks = looks_both;
          at = refl;
          is = record { leads = did.steps.leads; entries = saw.looks };
          gathers = both gaps (sym (append-nil gaps) ∙ ap (λ (l : List Cursor). gaps ++ map (gap k c) l) (sym none));
          one = inl (ap (map (gap k c)) none);
          ends = tt;
        }

    pub saw_whole : (reused : Option Cursor) → answer ≡ Ok reused → AreWithin g new.view.made k n → (more : List Gap) → more ≡ gaps ++ map (gap k c) (option_to_list reused) → SawBlock g k (midway old items gaps) (midway last after_items more) (Ok true)
    saw_whole reused e shown more is =
        let within : AreWithin g last.view.made k n = subst (λ (m : List Placed). AreWithin g m k n) (sym (ap (λ v. v.made) saw.gathers.seen.view)) shown in
        let end : EntriesEnd g (cursor k n) saw.entries last.view.made reused = subst (λ r. IfOk r (EntriesEnd g (cursor k n) saw.entries last.view.made)) e saw.ends in
        record {
          looks = looks_both;
          at = refl;
          is = record { leads = did.steps.leads; entries = saw.looks };
          gathers = both more (is ∙ ap (λ (l : List Cursor). gaps ++ map (gap k c) l) (sym end.0));
          one = one_gap k c (told g k new.memory.look_trail (after.Block (look.Whole n c a)) did.steps.leads).0 (reused_in saw.entries) reused end.0 end.2;
          ends = (
            record { opened = λ m q. cc; through = ⊎_elim (λ l. inr l) (λ all. inl all.0) end.1 },
            λ item h from to.
                let here : (cursor_of g item.place).block ≡ k = omega arith in
                ⊎_elim
                (λ l. inr (subst (Contains (map (λ (x : Gap). x.block) (map (gap k c) (reused_in saw.entries)))) (sym here) (some_gap k c (reused_in saw.entries) l)))
                (λ all. inl (all.1 item h here (All-contains (λ p. (cursor_of g p).block ≡ k → (cursor_of g p).offset < n) (places last.view.made) item.place within (place_in last.view.made item h) here)))
                end.1,
          );
        }
