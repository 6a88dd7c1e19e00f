-- What is known of the queue at one moment is still known at each later one.
use Rattle.std.proofs.Common.{◌≡◌, ℕ, List, [], ◌∷◌, refl, sym, ap, ◌∙◌, subst, ⊎_elim, arith}
use Rattle.std.specs.Prelude.{Contains, Option, Some, None, slice_get, slice_set}
use Rattle.std.proofs.lemmas.Bool.{cases_eq}
use Rattle.std.proofs.lemmas.List.{length-set}
use Rattle.std.proofs.lemmas.List.Elements.{Contains-append_left}
use Rattle.cursor_word.specs.Shape.{Grid, IsWithinLimits}
use Rattle.rail.specs.declared.entry.Placed.{Placed}
use Rattle.rail.specs.declared.answer.Answer.TheVariants as answer
use Rattle.rail.specs.declared.answer.Put.TheVariants as put
use Rattle.rail.specs.Items.{placed}
use Rattle.machine.specs.declared.event.Start.{Start}
use Rattle.machine.specs.declared.op.After.TheVariants.{Done}
use Rattle.machine.specs.Steps.{IsWide, begun, finds, made_after, moves, turn, view_after, words_after}
use Rattle.machine.proofs.Lists.{get_set_other, get_set_same, set_again, set_twice}
use Rattle.machine.proofs.Turns.{begun_made, total_same}
use Rattle.put_side.specs.Cursors.{put_cursors}
use Rattle.put_side.specs.Entries.{IsMade}
use Rattle.put_side.specs.PutTable.{stage_of}
use Rattle.put_side.proofs.Few.{last_small}
use Rattle.put_side.proofs.Frames.{IsGrown}
use Rattle.put_side.proofs.Made.{made_same, step_keeps_made}
use Rattle.drop_core.specs.declared.phase.DropPhase.{DropPhase}
use Rattle.drop_core.specs.Types.{After, MachineState, View}
use Rattle.drop_core.specs.Stage.{stage}
use Rattle.drop_core.specs.Steps.{table}
use Rattle.drop_core.specs.Moments.{IsReused}
use Rattle.drop_core.proofs.Keeping.{keeps}
use Rattle.block_looks.specs.declared.looks.Looks.{Looks}
use Rattle.block_looks.specs.Looks.{LooksHold}
use Rattle.block_looks.proofs.Grows.{grows}
use Rattle.block_looks.proofs.Lasts.{begins, steps}
use Rattle.flight_view.specs.Viewers.{IsGood}

abbrev pub state : List ℕ → List View → MachineState
state words views = record { words = words; views = views }

-- a seat has made all that it had made before
pub record HasGrown (views : List View) (seat : ℕ) (old : View) : Type 0 where
  pub view : View
  pub at : slice_get views seat ≡ Some view
  pub items : (item : Placed) → Contains old.made item → Contains view.made item

module _ (g : Grid) where
  pub record IsLater (old new : MachineState) : Type 0 where
    pub looks : (looks : Looks) → LooksHold g old.words old.views looks → LooksHold g new.words new.views looks
    pub made : (item : Placed) → IsMade old.views item → IsMade new.views item
    pub seats : (seat : ℕ) (v : View) → slice_get old.views seat ≡ Some v → HasGrown new.views seat v
    pub reused : (k : ℕ) → IsReused g old.words k → IsReused g new.words k

  pub same_later : (w : MachineState) → IsLater w w
  same_later w = record {
    looks = λ looks h. h;
    made = λ item h. h;
    seats = λ seat v at. record { view = v; at = at; items = λ item h. h };
    reused = λ k h. h;
  }

  pub later_on : (a b c : MachineState) → IsLater a b → IsLater b c → IsLater a c
  later_on a b c l m = record {
    looks = λ looks h. m.looks looks (l.looks looks h);
    made = λ item h. m.made item (l.made item h);
    seats = λ seat v at.
        let x = l.seats seat v at in let y = m.seats seat x.view x.at in
        record { view = y.view; at = y.at; items = λ item h. y.items item (x.items item h) };
    reused = λ k h. m.reused k (l.reused k h);
  }

  -- one seat's view in the place of another that made no more
  grown_seats : (vs : List View) (id : ℕ) (v v' : View) → slice_get vs id ≡ Some v → ((item : Placed) → Contains v.made item → Contains v'.made item) → (seat : ℕ) (u : View) → slice_get vs seat ≡ Some u → HasGrown (slice_set vs id v') seat u
  grown_seats vs id v v' at more seat u here =
      ⊎_elim
      (λ e. let h : slice_get vs id ≡ Some u = ap (slice_get vs) (sym e) ∙ here in
      let same : v ≡ u = cc in
      record { view = v'; at = subst (λ (j : ℕ). slice_get (slice_set vs id v') j ≡ Some v') (sym e) (get_set_same vs id v v' at); items = λ item h. more item (subst (λ (x : View). Contains x.made item) (sym same) h) })
      (λ n. record { view = u; at = get_set_other vs id seat v' n ∙ here; items = λ item h. h })
      (cases_eq seat id)

  made_grows : (made : List Placed) (entry : List ℕ) (b : After) (item : Placed) → Contains made item → Contains (made_after made entry b) item
  made_grows made entry (Done (answer.Put (put.Ok place))) item h = Contains-append_left made (placed place entry ∷ []) item h
  made_grows made entry b item h = h

  module _ (limits : IsWithinLimits g) where
    -- a step of a call
    step_later : (w : MachineState) (id : ℕ) (v : View) (p : DropPhase) → IsGood g w → slice_get w.views id ≡ Some v → IsLater w (state (words_after table g w.words v p) (slice_set w.views id (view_after table g w.words v p)))
    step_later w id v p good at =
        let small = last_small (stage_of stage) g good.sound.front (put_cursors g w.words) w.views good.sound.at.puts.places limits good.room in
        let up : IsGrown (put_cursors g w.words) (put_cursors g (words_after table g w.words v p)) = grows g good.sound.front w.words w.views limits good.sound.at small v p in
        record {
          looks = λ looks h. steps g w.words w.views looks h id v p limits good.sound good.room at;
          made = (step_keeps_made table g w.views id v p (finds table g w.words v p) at).items;
          seats = grown_seats w.views id v (view_after table g w.words v p) at (λ item h. made_grows v.made v.entry (table.after g p (finds table g w.words v p)) item h);
          reused = λ k h. let u = up.committed k in omega (arith, h);
        }

    -- a call that begins
    begin_later : (w : MachineState) (id : ℕ) (v : View) (s : Start) → slice_get w.views id ≡ Some v → IsLater w (state w.words (slice_set w.views id (begun table g v None s)))
    begin_later w id v s at =
        let same = begun_made table g v None s in
        record {
          looks = λ looks h. begins g w.words w.views looks h id v s at;
          made = (made_same w.views id v (begun table g v None s) at same).items;
          seats = grown_seats w.views id v (begun table g v None s) at (λ item h. subst (λ (l : List Placed). Contains l item) (sym same) h);
          reused = λ k h. h;
        }

    moves_later : (w : MachineState) (id : ℕ) (b : View) (o : Option DropPhase) → IsGood g w → slice_get w.views id ≡ Some b → (let c = moves table g w.words b o in IsLater w (state c.words (slice_set w.views id c.view)))
    moves_later w id b None good at = subst (λ (vs : List View). IsLater w (state w.words vs)) (sym (set_again w.views id b at)) (same_later w)
    moves_later w id b (Some p) good at = step_later w id b p good at

    turned_later : (w : MachineState) (id : ℕ) (v : View) (s : Start) (ph : Option DropPhase) → IsGood g w → slice_get w.views id ≡ Some v → v.phase ≡ ph → IsWide g s
        → (let b = begun table g v ph s in let c = moves table g w.words b b.phase in IsLater w (state c.words (slice_set w.views id c.view)))
    turned_later w id v s (Some p) good at e wide = moves_later w id v v.phase good at
    turned_later w id v s None good at e wide =
        let b : View = begun table g v None s in
        let w' : MachineState = state w.words (slice_set w.views id b) in
        let c = moves table g w.words b b.phase in
        let good' : IsGood g w' = record { sound = keeps.begins g w.words w.views id v s limits good.sound at e wide tt; room = let n = total_same w.views id v b at (begun_made table g v None s) in let r = good.room in omega arith; all = length-set w.views id b ∙ good.all } in
        let m = moves_later w' id b b.phase good' (get_set_same w.views id v b at) in
        subst (λ (vs : List View). IsLater w (state c.words vs)) (set_twice w.views id b c.view) (later_on w w' _ (begin_later w id v s at) m)

    -- an event
    pub turn_later : (w : MachineState) (id : ℕ) (s : Start) (o : Option View) → IsGood g w → slice_get w.views id ≡ o → IsWide g s → IsLater w (turn table g w id s o)
    turn_later w id s None good at wide = same_later w
    turn_later w id s (Some v) good at wide = turned_later w id v s v.phase good at refl wide
