-- What a seat remembers lasts, since words and made lists only grow; and what stays where a step takes nothing.
use Rattle.std.proofs.Common.{◌≡◌, ℕ, ◌+◌, ◌<◌, ◌≤◌, List, refl, sym, ap, ◌∙◌, subst, ⊎_elim, arith}
use Rattle.std.specs.Prelude.{Option, Some, slice_get, slice_set}
use Rattle.std.proofs.lemmas.Bool.{cases_eq}
use Rattle.cursor_word.specs.Shape.{Grid}
use Rattle.cursor_word.specs.Cursor.{cursor_of}
use Rattle.rail.specs.declared.entry.Placed.{Placed}
use Rattle.rail.specs.Items.{places}
use Rattle.rail.specs.Outcome.{numbers_below}
use Rattle.machine.proofs.Lists.{get_set}
use Rattle.put_side.specs.Cursors.{Front, committed_word, consumed_word}
use Rattle.put_side.specs.PutSide.{PutSide}
use Rattle.put_side.specs.declared.put_phase.PutPhase.TheVariants.{OpenM}
use Rattle.put_side.proofs.Made.{KeepsMade}
use Rattle.sole_core.specs.declared.phase.SolePhase.{SolePhase}
use Rattle.sole_core.specs.declared.phase.SolePhase.TheVariants.{Put, Take}
use Rattle.sole_core.specs.declared.take_phase.SoleTake.{SoleTake}
use Rattle.sole_core.specs.declared.take_phase.SoleTake.TheVariants.{Com, All, Word, Consume}
use Rattle.sole_core.specs.Types.{View}
use Rattle.sole_core.specs.Stage.{stage_of}
use Rattle.sole_core.specs.Table.{consumer}
use Rattle.sole_core.specs.Cursors.{IsUnmoved}
use Rattle.sole_core.specs.Sound.{IsSoundAt, Knows, OnlyPuts, TakeFits, TakeKnows, scene}

-- later words and views: the cursors that seats remember only grow, and so does what is made
pub record IsLater (g : Grid) (ws ws' : List ℕ) (vs vs' : List View) : Type 0 where
  pub consumed : (k : ℕ) → consumed_word g ws k ≤ consumed_word g ws' k
  pub committed : (k : ℕ) → committed_word g ws k ≤ committed_word g ws' k
  pub made : KeepsMade vs vs'

module _ (g : Grid) (ws ws' : List ℕ) (vs vs' : List View) (later : IsLater g ws ws' vs vs') where
  take_later : (next : ℕ) (read : List ℕ) (q : SoleTake) → TakeKnows g (scene g next ws vs) read q → TakeKnows g (scene g next ws' vs') read q
  take_later next read (Com r) f = f
  take_later next read (All r m) f = let a = f.0 in (record { same = a.same; above = a.above; within = a.within; known = let e = later.committed r.block in omega (arith, a.known) }, f.1)
  take_later next read (Word r count) f = let i = f.1 in let c = later.made in (f.0, record { words = i.words; made = c.items _ i.made; front = i.front })
  take_later next read (Consume r) f = let c = later.made in c.items _ f

  -- what a seat remembers lasts; that an entry is taken touches the consumer alone
  pub knows_later : (next next' : ℕ) (read : List ℕ) (ph : Option SolePhase) → ((q : SoleTake) → ph ≡ Some (Take q) → next' ≡ next) → Knows g (scene g next ws vs) read ph → Knows g (scene g next' ws' vs') read ph
  knows_later next next' read (Some (Put (OpenM full))) same f = let e = later.consumed (full.block + 1) in omega (arith, f)
  knows_later next next' read (Some (Take q)) same f = subst (λ (n : ℕ). Knows g (scene g n ws' vs') read (Some (Take q))) (sym (same q refl)) (f.0, take_later next read q f.1)
  knows_later next next' read ph same f = tt

  pub fits_later : (next next' : ℕ) (u : View) → ((q : SoleTake) → u.phase ≡ Some (Take q) → next' ≡ next) → TakeFits g (scene g next ws vs) u → TakeFits g (scene g next' ws' vs') u
  fits_later next next' u same f = let c = later.made in record {
    knows = knows_later next next' u.read u.phase same f.knows;
    items = λ i item e. c.items item (f.items i item e);
  }

-- a seat that is in a take is the consumer
pub is_consumer : (g : Grid) (front : Front) (next : ℕ) (ws : List ℕ) (vs : List View) → IsSoundAt g front next ws vs → (id : ℕ) (v : View) (q : SoleTake) → slice_get vs id ≡ Some v → v.phase ≡ Some (Take q) → id ≡ consumer
is_consumer g front next ws vs s id v q at e = ⊎_elim (λ z. z) (λ z. absurd ((s.others id v z at).away q e)) (cases_eq id consumer)

module _ (g : Grid) (front front' : Front) (next : ℕ) (ws ws' : List ℕ) (vs : List View) (id : ℕ) (v v' : View) (s : IsSoundAt g front next ws vs) (at : slice_get vs id ≡ Some v) where
  abbrev vs' : List View
  vs' = slice_set vs id v'

  -- a step whose seat takes nothing
  pub quiet : IsLater g ws ws' vs vs' → ((k : ℕ) → consumed_word g ws' k ≡ consumed_word g ws k) → IsUnmoved g ws' → v'.taken ≡ v.taken → PutSide stage_of g front' ws' vs' → front'.last < (cursor_of g next).block + g.blocks → Knows g (scene g next ws' vs') v'.read v'.phase
      → ((q : SoleTake) → v'.phase ≡ Some (Take q) → id ≡ consumer) → IsSoundAt g front' next ws' vs'
  quiet later same unmoved taken puts near knows away =
      let own = s.each id v at in
      let made = later.made in
      let w = s.takes in
      record {
        puts = puts;
        takes = record {
          passed = λ k le. w.passed k (let e = same k in omega arith);
          shown = λ k less. let e = same k in let h = w.shown k less in omega arith;
          most = λ k. let e = same k in let h = w.most k in omega arith;
        };
        unmoved = unmoved;
        near = near;
        room = s.room;
        made = λ p l. let h = s.made p l in let c = made.counts p in omega arith;
        each = λ j u e. ⊎_elim
            (λ q. subst (TakeFits g (scene g next ws' vs')) q.1 record { knows = knows; items = λ i item h. made.items item (own.items i item (ap (λ (l : List Placed). slice_get l i) (sym taken) ∙ h)) })
            (λ q. fits_later g ws ws' vs vs' later next next u (λ r h. refl) (s.each j u q.1)) (get_set vs id j v' u e);
        taken = λ u e. ⊎_elim
            (λ q. subst (λ (x : View). places x.taken ≡ numbers_below next) q.1 (ap places taken ∙ s.taken v (ap (λ (j : ℕ). slice_get vs j) q.0 ∙ at)))
            (λ q. s.taken u q.1) (get_set vs id consumer v' u e);
        others = λ j u n e. ⊎_elim
            (λ q. subst OnlyPuts q.1 record { none = taken ∙ (s.others id v (λ z. n (q.0 ∙ z)) at).none; away = λ r h. n (q.0 ∙ away r h) })
            (λ q. s.others j u n q.1) (get_set vs id j v' u e);
      }
