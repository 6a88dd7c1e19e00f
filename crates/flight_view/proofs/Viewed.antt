-- A walk that came to its end while the queue went on: what its view shows.
use Rattle.std.proofs.Common.{◌≡◌, ℕ, ◌+◌, ◌<◌, ◌≤◌, ◌⊎◌, List, [], ◌∷◌, ◌++◌, true, append_assoc, length, refl, sym, ap, ◌∙◌, subst, ⊎_elim, arith}
use Rattle.std.specs.Prelude.{All, Ok, Option, Some, None, flat_map, map, option_to_list, slice_get}
use Rattle.std.proofs.lemmas.List.{append-nil}
use Rattle.std.proofs.lemmas.List.Elements.{All-append, All-from_recursion, All-nil, All-weaker}
use Rattle.cursor_word.specs.Shape.{Grid, IsWithinLimits}
use Rattle.cursor_word.specs.Cursor.{cursor, first_of}
use Rattle.cursor_word.specs.declared.cursor.Cursor.{Cursor}
use Rattle.cursor_word.proofs.Places.{first_after}
use Rattle.rail.specs.declared.entry.Placed.{Placed}
use Rattle.rail.specs.Items.{IsRising, places}
use Rattle.step_log.specs.declared.log.Step.{Step}
use Rattle.step_log.specs.Log.{TableId}
use Rattle.drop_core.specs.Types.{MachineState, View}
use Rattle.drop_core.specs.Moments.{IsReused}
use Rattle.block_looks.specs.declared.look.LookPhase.TheVariants.{Com, Word}
use Rattle.block_looks.specs.declared.look.LookAfter.TheVariants as after
use Rattle.block_looks.specs.declared.look.Look.{Look}
use Rattle.block_looks.specs.declared.look.Look.TheVariants as look
use Rattle.block_looks.specs.declared.look.Seen.{Seen}
use Rattle.block_looks.specs.declared.look.Seen.TheVariants as seen
use Rattle.block_looks.specs.declared.looks.Looks.{Looks}
use Rattle.block_looks.specs.Laws.{LooksAreKept}
use Rattle.block_looks.specs.Looks.{IsLookedAt, LooksHold}
use Rattle.block_looks.specs.Shown.{AreBefore, LookLeads, look_loads}
use Rattle.drop_rail.specs.Looking.{HasLooked, Looker}
use Rattle.flight_view.specs.declared.gaps.Gap.{Gap}
use Rattle.flight_view.specs.Walks.{AreEntryLooks, BlockLook, EntryLook, HasEnded, IsBlockLook, IsPassed, IsWalk, Walk, block_gaps, block_items, block_loads, end_block, entry_items, entry_loads, first_block, gap, reused_by, reused_in, walk_gaps, walk_items, walk_loads}
use Rattle.flight_view.specs.Views.{IsCaused, IsShown, ShowsFrom, gap_blocks}
use Rattle.flight_view.specs.Parts.{IsInOrder, Midway, SawBlock, SawEntries, SawEntry, midway}
use Rattle.flight_view.specs.Promised.{IsReusedGap}
use Rattle.flight_view.proofs.Blocks.{saw_gap, saw_whole, told}
use Rattle.flight_view.proofs.Entries.{AreRead, read_ends, read_in_order, read_none, read_on, read_reused, reused_items}
use Rattle.flight_view.proofs.Walked.{HavePassed, item_before, passed_none, passes_on}
use Rattle.flight_view.proofs.Later.{IsLater, later_on, same_later}
use Rattle.flight_view.proofs.Loaded.{Did, DidSince, did_both, did_later}
use Rattle.flight_view.proofs.LookSteps.{Remembers, SawHead, SawLook, SawWords, saw_entry, saw_head, saw_look}
use Rattle.flight_view.proofs.Orders.{EndsOn, ReadsOn, blocks_in_order, entries_in_order}

abbrev no_table : TableId
no_table = record { words = 0; slots = 0; views_name = 0; atom = 0; block = 0; offset = 0; slot_names = [] }

abbrev block_look : ℕ → List ℕ → Look → List EntryLook → BlockLook
block_look k found answer entries = record { block = k; found = found; answer = answer; entries = entries }

-- gaps stay reused
pub gaps_later : (g : Grid) (from to : MachineState) (gaps : List Gap) → IsLater g from to → All (IsReusedGap g from) gaps → All (IsReusedGap g to) gaps
gaps_later g from to gaps l all = All-weaker (IsReusedGap g from) (IsReusedGap g to) (λ x h choose. l.reused x.block (h choose)) gaps all

one_of : {X : Type 0} (P : X → Type 0) (x : X) → P x → All P (x ∷ [])
one_of P x h = All-from_recursion P (x ∷ []) (h, tt)

module _ (g : Grid) (limits : IsWithinLimits g) (law : LooksAreKept) (since : MachineState) (seat : ℕ) (v : View) (here : slice_get since.views seat ≡ Some v) where
  -- a seat that had made so much, and remembers these looks, which were these loads
  abbrev watcher : Looks → List Step → Looker
  watcher looks log = record { of = record { id = no_table; shape = g }; number = 0; view = v; memory = looks; log = log }

  abbrev Knows : MachineState → Looks → Type 0
  Knows w looks = Remembers g limits law since seat v here w looks

  knows_later : (from to : MachineState) (looks : Looks) → Knows from looks → IsLater g from to → Knows to looks
  knows_later from to looks r l = record { later = later_on g since from to r.later l; holds = l.looks looks r.holds }

  -- the entries of a whole block
  module _ (k count : ℕ) (from_first : g.blocks ≤ k) (short : count ≤ g.size) (old : Midway) where
    record EntriesViewed (looks : Looks) (items : List Placed) (es : List EntryLook) (to : MachineState) : Type 0 where
      pub new : Looks
      pub log : List Step
      pub knows : Knows to new
      pub looked : new.looked ≡ looks.looked ++ flat_map (entry_items g) es
      pub reused : Option Cursor
      pub causes : reused_in es ≡ option_to_list reused
      pub saw : SawEntries g (cursor k count) old (midway (watcher new log) (items ++ flat_map (entry_items g) es) []) (Ok reused)
      pub in_order : IsInOrder g (items ++ flat_map (entry_items g) es) (k + 1)
      pub told : (now : Cursor) → reused ≡ Some now → IsReused g to.words k

    saw_one : (e : EntryLook) (looks : Looks) (log : List Step) (to : MachineState) → LookLeads g (after.Next (Word e.at 0)) e.found (after.Entry e.answer) → (s : SawWords g limits law since seat v here e looks to) → SawEntry g (watcher looks log) (watcher s.new (log ++ entry_loads g e)) e
    saw_one e looks log to leads s = record {
      leads = leads;
      later = s.later;
      seen = record { of = refl; number = refl; view = refl; looked = s.looked; log = refl };
      looking = s.looking;
      own = s.own;
    }

    view_ends : (next : ℕ) (items : List Placed) (log : List Step) (looks : Looks) (to : MachineState) → AreRead g (cursor k count) old (midway (watcher looks log) items []) next → next ≡ count → Knows to looks → EntriesViewed looks items [] to
    view_ends next items log looks to r e knows = record {
      new = looks;
      log = log;
      knows = knows;
      looked = sym (append-nil looks.looked);
      reused = None;
      causes = refl;
      saw = subst (λ (l : List Placed). SawEntries g (cursor k count) old (midway (watcher looks log) l []) (Ok None)) (sym (append-nil items)) (read_ends g (cursor k count) old _ next r e);
      in_order = subst (λ (l : List Placed). IsInOrder g l (k + 1)) (sym (append-nil items)) (read_in_order g (cursor k count) old _ next r from_first (omega arith));
      told = λ now q. cc;
    }

    view_reused : (next : ℕ) (e : EntryLook) (items : List Placed) (log : List Step) (looks : Looks) (to : MachineState) → AreRead g (cursor k count) old (midway (watcher looks log) items []) next → e.at ≡ cursor k next → next < count
        → LookLeads g (after.Next (Word e.at 0)) e.found (after.Entry e.answer) → SawWords g limits law since seat v here e looks to → (now : Cursor) → e.answer ≡ seen.Reused now → EntriesViewed looks items (e ∷ []) to
    view_reused next e items log looks to r at lt leads s now is =
        let mine = saw_one e looks log to leads s in
        let one : flat_map (entry_items g) (e ∷ []) ≡ entry_items g e = append-nil (entry_items g e) in
        let last : Looker = watcher s.new (log ++ entry_loads g e) in
        record {
          new = s.new;
          log = log ++ entry_loads g e;
          knows = s.knows;
          looked = s.looked ∙ ap (λ (l : List Placed). looks.looked ++ l) (sym one);
          reused = Some now;
          causes = ap (λ (a : Seen). reused_by a ++ []) is;
          saw = subst (λ (l : List Placed). SawEntries g (cursor k count) old (midway last (items ++ l) []) (Ok (Some now))) (sym one) (read_reused g (cursor k count) old _ next r last (items ++ entry_items g e) e at mine refl now is lt);
          in_order = subst (λ (l : List Placed). IsInOrder g l (k + 1)) (sym (reused_items g (cursor k count) old _ next r last (items ++ entry_items g e) e at mine refl now is) ∙ ap (λ (l : List Placed). items ++ l) (sym one)) (read_in_order g (cursor k count) old _ next r from_first (omega arith));
          told = λ other q. subst (IsReused g to.words) (ap (λ (c : Cursor). c.block) at) (s.reused now is);
        }

    view_entries : (es : List EntryLook) (next : ℕ) (items : List Placed) (log : List Step) (looks : Looks) (from to : MachineState) → AreRead g (cursor k count) old (midway (watcher looks log) items []) next → ReadsOn g k count next es → Knows from looks
        → looks.looking ≡ Some (cursor k count) → Did g from (flat_map (entry_loads g) es) to → EntriesViewed looks items es to
    view_entries [] next items log looks from to r e knows looking d = view_ends next items log looks to r e (knows_later from to looks knows d)
    view_entries (e ∷ es) next items log looks from to r (at, lt, leads, on) knows looking d =
        let both = did_both g from to (entry_loads g e) (flat_map (entry_loads g) es) d in
        let looked_at : IsLookedAt looks.looking e.at = subst (λ (o : Option Cursor). IsLookedAt o e.at) (sym looking) (ap (λ (c : Cursor). c.block) at, let o = ap (λ (c : Cursor). c.offset) at in omega arith) in
        let s = saw_entry g limits law since seat v here e from both.between looks knows looked_at leads both.before in
        ⊎_elim
        (λ whole.
        let mine = saw_one e looks log both.between leads s in
        let more = read_on g (cursor k count) old _ next r (watcher s.new (log ++ entry_loads g e)) (items ++ entry_items g e) e at mine refl whole.0 in
        let rest = view_entries es (next + 1) (items ++ entry_items g e) (log ++ entry_loads g e) s.new both.between to more whole.1 s.knows (s.looking ∙ looking) both.after in
        let joined : (items ++ entry_items g e) ++ flat_map (entry_items g) es ≡ items ++ flat_map (entry_items g) (e ∷ es) = append_assoc items (entry_items g e) _ in
        record {
          new = rest.new;
          log = rest.log;
          knows = rest.knows;
          looked = rest.looked ∙ ap (λ (l : List Placed). l ++ flat_map (entry_items g) es) s.looked ∙ append_assoc looks.looked (entry_items g e) _;
          reused = rest.reused;
          causes = ap (λ (a : Seen). reused_by a ++ reused_in es) whole.0 ∙ rest.causes;
          saw = subst (λ (l : List Placed). SawEntries g (cursor k count) old (midway (watcher rest.new rest.log) l []) (Ok rest.reused)) joined rest.saw;
          in_order = subst (λ (l : List Placed). IsInOrder g l (k + 1)) joined rest.in_order;
          told = rest.told;
        })
        (λ ends.
        let stop : Did g both.between [] to = subst (λ (l : List EntryLook). Did g both.between (flat_map (entry_loads g) l) to) ends.2 both.after in
        let last : SawWords g limits law since seat v here e looks to = record { new = s.new; knows = knows_later both.between to s.new s.knows stop; looked = s.looked; looking = s.looking; own = s.own; later = s.later; reused = λ now q. stop.reused e.at.block (s.reused now q) } in
        subst (λ (l : List EntryLook). EntriesViewed looks items (e ∷ l) to) (sym ends.2) (view_reused next e items log looks to r at lt leads last ends.0 ends.1))
        on

  -- a block: what it adds, where the walk goes on after it
  record BlockViewed (k : ℕ) (b : BlockLook) (looks : Looks) (log : List Step) (items : List Placed) (gaps : List Gap) (to : MachineState) : Type 0 where
    pub new : Looks
    pub now : List Step
    pub knows : Knows to new
    pub looked : new.looked ≡ looks.looked ++ block_items g b
    pub saw : SawBlock g k (midway (watcher looks log) items gaps) (midway (watcher new now) (items ++ block_items g b) (gaps ++ block_gaps b)) (Ok true)
    pub in_order : IsInOrder g (items ++ block_items g b) (k + 1)
    pub reused : All (IsReusedGap g to) (block_gaps b)

  no_entries : (k : ℕ) (es : List EntryLook) → AreEntryLooks g k 0 es → es ≡ []
  no_entries k [] a = refl
  no_entries k (e ∷ es) a = absurd (let w = a.within in omega arith)

  -- the gap of a block that was found reused at one of its entries
  all_reused : (k : ℕ) (c : Cursor) → c.block ≡ k → (reused : Option Cursor) (to : MachineState) → ((now : Cursor) → reused ≡ Some now → IsReused g to.words k) → All (IsReusedGap g to) (map (gap k c) (option_to_list reused))
  all_reused k c own None to h = All-nil _
  all_reused k c own (Some now) to h = one_of (IsReusedGap g to) (gap k c now) (λ choose. h now refl)

  order_on : (items : List Placed) (k : ℕ) → g.blocks ≤ k → IsInOrder g items k → IsInOrder g items (k + 1)
  order_on items k from o =
      let n = first_after g k from in
      record { rising = o.rising; before = All-weaker (λ p. p < first_of g k) (λ p. p < first_of g (k + 1)) (λ p l. omega arith) (places items) o.before }

  module _ (k : ℕ) (found : List ℕ) (looks : Looks) (log : List Step) (items : List Placed) (gaps : List Gap) where
    module _ (answer : Look) (to : MachineState) (leads : LookLeads g (after.Next (Com k)) found (after.Block answer)) (s : SawLook g limits law since seat v here k found answer looks to) where
      abbrev look_log : List Step
      look_log = log ++ look_loads g (after.Next (Com k)) s.new.look_trail

      did_look : HasLooked g (watcher looks log) (watcher s.new look_log) (Com k) (after.Block answer)
      did_look = record { of = refl; number = refl; view = refl; steps = record { leads = subst (λ (l : List ℕ). LookLeads g (after.Next (Com k)) l (after.Block answer)) (sym s.trail) leads; log = refl } }

    view_gap : (c a : Cursor) (to : MachineState) → g.blocks ≤ k → LookLeads g (after.Next (Com k)) found (after.Block (look.Gap c a)) → SawLook g limits law since seat v here k found (look.Gap c a) looks to → IsInOrder g items k → BlockViewed k (block_look k found (look.Gap c a) []) looks log items gaps to
    view_gap c a to le leads s order =
        let did = did_look (look.Gap c a) to leads s in
        record {
          new = s.new;
          now = look_log (look.Gap c a) to leads s;
          knows = s.knows;
          looked = s.looked ∙ sym (append-nil looks.looked);
          saw = subst (λ (l : List Placed). SawBlock g k (midway (watcher looks log) items gaps) (midway (watcher s.new (look_log (look.Gap c a) to leads s)) l (gaps ++ gap k c a ∷ [])) (Ok true)) (sym (append-nil items))
              (saw_gap g k (watcher looks log) (watcher s.new (look_log (look.Gap c a) to leads s)) items gaps c a did s.looked (gaps ++ gap k c a ∷ []) refl);
          in_order = subst (λ (l : List Placed). IsInOrder g l (k + 1)) (sym (append-nil items)) (order_on items k le order);
          reused = one_of (IsReusedGap g to) (gap k c a) (s.reused c a refl);
        }

    -- a whole block, with the looks at its entries
    view_whole : (n : ℕ) (c a : Cursor) (es : List EntryLook) (from to : MachineState) → g.blocks ≤ k → LookLeads g (after.Next (Com k)) found (after.Block (look.Whole n c a)) → SawLook g limits law since seat v here k found (look.Whole n c a) looks from
        → AreEntryLooks g k n es → ((length es ≡ n) ⊎ (0 < length (reused_in es))) → Did g from (flat_map (entry_loads g) es) to → IsInOrder g items k → BlockViewed k (block_look k found (look.Whole n c a) es) looks log items gaps to
    view_whole n c a es from to le leads s entries through d order =
        let did = did_look (look.Whole n c a) from leads s in
        let own = (told g k found (after.Block (look.Whole n c a)) leads).0 in
        let mid : Looker = watcher s.new (look_log (look.Whole n c a) from leads s) in
        let start : Midway = midway mid items [] in
        let looking : s.new.looking ≡ Some (cursor k n) = s.looking ∙ ap (λ (b : ℕ). Some (cursor b n)) own in
        let r = view_entries k n le s.shown.1 start es 0 items (look_log (look.Whole n c a) from leads s) s.new from to (read_none g (cursor k n) start order) (entries_in_order g k n es entries through) s.knows looking d in
        let last : Looker = watcher r.new r.log in
        let more : gaps ++ map (gap k c) (reused_in es) ≡ gaps ++ map (gap k c) (option_to_list r.reused) = ap (λ (l : List Cursor). gaps ++ map (gap k c) l) r.causes in
        record {
          new = r.new;
          now = r.log;
          knows = r.knows;
          looked = r.looked ∙ ap (λ (l : List Placed). l ++ flat_map (entry_items g) es) s.looked;
          saw = saw_whole g k (watcher looks log) mid items gaps n c a did s.looked last (items ++ flat_map (entry_items g) es) (Ok r.reused) r.saw r.reused refl s.shown.0 (gaps ++ map (gap k c) (reused_in es)) more;
          in_order = r.in_order;
          reused = subst (λ (l : List Cursor). All (IsReusedGap g to) (map (gap k c) l)) (sym r.causes) (all_reused k c own r.reused to r.told);
        }

  -- a view, as it stands where the walk has come to its end
  pub record Viewed (first : ℕ) (items : List Placed) (gaps : List Gap) (to : MachineState) : Type 0 where
    pub looks : Looks
    pub holds : LooksHold g to.words to.views looks
    pub looked : looks.looked ≡ items
    pub rising : IsRising (places items)
    pub gaps_rising : IsRising (gap_blocks gaps)
    pub caused : All IsCaused gaps
    pub reused : All (IsReusedGap g to) gaps
    pub shown : ShowsFrom g first v.made items gaps

  module _ (first : ℕ) (from_first : g.blocks ≤ first) (start : Looker) where
    abbrev Passed : ℕ → Looks → List Step → List Placed → List Gap → Type 0
    Passed block looks log items gaps = HavePassed g first block (midway start [] []) (midway (watcher looks log) items gaps)

    -- no item that the seat had made lies further on
    ends_before : (block : ℕ) (items : List Placed) (gaps : List Gap) (log : List Step) (looks : Looks) (to : MachineState) → Passed block looks log items gaps → looks.looked ≡ items → Knows to looks → All (IsReusedGap g to) gaps → AreBefore g v.made block → Viewed first items gaps to
    ends_before block items gaps log looks to r looked knows reused before = record {
      looks = looks;
      holds = knows.holds;
      looked = looked;
      rising = r.in_order.rising;
      gaps_rising = r.gaps_in_order.rising;
      caused = r.gaps_in_order.caused;
      reused = reused;
      shown = λ item h from.
          let s = r.shown item h from (item_before g v.made block item before h) in
          subst (λ (l : List Placed). IsShown g l gaps item) (sym r.gathers.items_on) (subst (λ (l : List Gap). IsShown g (flat_map (block_items g) r.blocks) l item) (sym r.gathers.gaps_on) s);
    }

    -- one block, by what its look found
    pass_block : (k : ℕ) (found : List ℕ) (answer : Look) (es : List EntryLook) (items : List Placed) (gaps : List Gap) (log : List Step) (looks : Looks) (from to : MachineState) → g.blocks ≤ k → IsInOrder g items k → IsBlockLook g (block_look k found answer es) → IsPassed (block_look k found answer es) → Knows from looks
        → Did g from (block_loads g (block_look k found answer es)) to → BlockViewed k (block_look k found answer es) looks log items gaps to
    pass_block k found (look.Unopened c) es items gaps log looks from to le order is passed knows d = absurd (passed.opened c refl)
    pass_block k found (look.Gap c a) es items gaps log looks from to le order is passed knows d =
        let none = no_entries k es is.entries in
        let alone : Did g from (look_loads g (after.Next (Com k)) found) to = subst (λ (l : List Step). Did g from l to) (ap (λ (l : List EntryLook). look_loads g (after.Next (Com k)) found ++ flat_map (entry_loads g) l) none ∙ append-nil _) d in
        let s = saw_look g limits law since seat v here k found (look.Gap c a) from to looks le knows is.leads alone in
        subst (λ (l : List EntryLook). BlockViewed k (block_look k found (look.Gap c a) l) looks log items gaps to) (sym none) (view_gap k found looks log items gaps c a to le is.leads s order)
    pass_block k found (look.Whole n c a) es items gaps log looks from to le order is passed knows d =
        let both = did_both g from to (look_loads g (after.Next (Com k)) found) (flat_map (entry_loads g) es) d in
        let s = saw_look g limits law since seat v here k found (look.Whole n c a) from both.between looks le knows is.leads both.before in
        view_whole k found looks log items gaps n c a es both.between to le is.leads s is.entries passed.through both.after order

    -- a block that isn't opened: nothing that was made lies in it or after it
    stop_block : (k : ℕ) (found : List ℕ) (es : List EntryLook) (c : Cursor) (looks : Looks) (from to : MachineState) → g.blocks ≤ k → IsBlockLook g (block_look k found (look.Unopened c) es) → Knows from looks → Did g from (block_loads g (block_look k found (look.Unopened c) es)) to
        → SawLook g limits law since seat v here k found (look.Unopened c) looks to × (es ≡ [])
    stop_block k found es c looks from to le is knows d =
        let none = no_entries k es is.entries in
        let alone : Did g from (look_loads g (after.Next (Com k)) found) to = subst (λ (l : List Step). Did g from l to) (ap (λ (l : List EntryLook). look_loads g (after.Next (Com k)) found ++ flat_map (entry_loads g) l) none ∙ append-nil _) d in
        (saw_look g limits law since seat v here k found (look.Unopened c) from to looks le knows is.leads alone, none)

    -- what a block that isn't opened adds: nothing
    adds_nothing : (b : BlockLook) (c : Cursor) → b.answer ≡ look.Unopened c → b.entries ≡ [] → (block_items g b ≡ []) × (block_gaps b ≡ [])
    adds_nothing b c e none = (ap (flat_map (entry_items g)) none, ap (λ (l : Look). block_gaps (block_look b.block b.found l b.entries)) e)

    blocks_viewed : (bs : List BlockLook) (block end : ℕ) (items : List Placed) (gaps : List Gap) (log : List Step) (looks : Looks) (from to : MachineState) → Passed block looks log items gaps → looks.looked ≡ items → All (IsReusedGap g from) gaps → first ≤ block
        → EndsOn g block end bs → AreBefore g v.made end → Knows from looks → Did g from (flat_map (block_loads g) bs) to → Viewed first (items ++ flat_map (block_items g) bs) (gaps ++ flat_map block_gaps bs) to
    blocks_viewed [] block end items gaps log looks from to r looked reused le e before knows d =
        subst (λ (l : List Placed). Viewed first l (gaps ++ []) to) (sym (append-nil items)) (subst (λ (l : List Gap). Viewed first items l to) (sym (append-nil gaps))
        (ends_before block items gaps log looks to r looked (knows_later from to looks knows d) (gaps_later g from to gaps d reused) (subst (AreBefore g v.made) (sym e) before)))
    blocks_viewed (b ∷ bs) block end items gaps log looks from to r looked reused le (is, at, lt, on) before knows d =
        let both = did_both g from to (block_loads g b) (flat_map (block_loads g) bs) d in
        let k : ℕ = b.block in
        let here_r : Passed k looks log items gaps = subst (λ (n : ℕ). Passed n looks log items gaps) (sym at) r in
        ⊎_elim
        (λ more.
        let one = pass_block k b.found b.answer b.entries items gaps log looks from both.between (omega (arith, at)) here_r.in_order is more.0 knows both.before in
        let passed = passes_on g first k (midway start [] []) (midway (watcher looks log) items gaps) (midway (watcher one.new one.now) (items ++ block_items g b) (gaps ++ block_gaps b)) here_r true refl one.saw one.in_order in
        let rest = blocks_viewed bs (k + 1) end (items ++ block_items g b) (gaps ++ block_gaps b) one.now one.new both.between to passed (one.looked ∙ ap (λ (l : List Placed). l ++ block_items g b) looked)
        (All-append (IsReusedGap g both.between) gaps (block_gaps b) (gaps_later g from both.between gaps (did_later g from both.between (block_loads g b) both.before) reused) one.reused) (omega (arith, at))
        (subst (λ (n : ℕ). EndsOn g (n + 1) end bs) (sym at) more.1) before one.knows both.after in
        subst (λ (l : List Placed). Viewed first l (gaps ++ flat_map block_gaps (b ∷ bs)) to) (append_assoc items (block_items g b) (flat_map (block_items g) bs))
        (subst (λ (l : List Gap). Viewed first ((items ++ block_items g b) ++ flat_map (block_items g) bs) l to) (append_assoc gaps (block_gaps b) (flat_map block_gaps bs)) rest))
        (λ stop.
        let s = stop_block k b.found b.entries stop.0 looks from both.between (omega (arith, at)) (subst (λ (l : Look). IsBlockLook g (block_look k b.found l b.entries)) stop.1 is) knows both.before in
        let nothing = adds_nothing b stop.0 stop.1 s.1 in
        let no_more : IsLater g both.between to = subst (λ (l : List BlockLook). Did g both.between (flat_map (block_loads g) l) to) stop.2 both.after in
        let items_are : items ≡ items ++ flat_map (block_items g) (b ∷ bs) = sym (append-nil items) ∙ ap (λ (l : List Placed). items ++ l) (sym (ap (λ (l : List BlockLook). block_items g b ++ flat_map (block_items g) l) stop.2 ∙ append-nil (block_items g b) ∙ nothing.0)) in
        let gaps_are : gaps ≡ gaps ++ flat_map block_gaps (b ∷ bs) = sym (append-nil gaps) ∙ ap (λ (l : List Gap). gaps ++ l) (sym (ap (λ (l : List BlockLook). block_gaps b ++ flat_map block_gaps l) stop.2 ∙ append-nil (block_gaps b) ∙ nothing.1)) in
        let all_later = later_on g from both.between to (did_later g from both.between (block_loads g b) both.before) no_more in
        let old = ends_before k items gaps log looks to here_r looked (knows_later from to looks knows all_later) (gaps_later g from to gaps all_later reused) s.0.shown in
        subst (λ (l : List Placed). Viewed first l (gaps ++ flat_map block_gaps (b ∷ bs)) to) items_are (subst (λ (l : List Gap). Viewed first items l to) gaps_are old))
        on

-- a view of a walk, seen from each seat as it was at the walk's first load of an allocated cursor
pub record WalkViewed (g : Grid) (limits : IsWithinLimits g) (law : LooksAreKept) (since : Option MachineState) (walk : Walk) (to : MachineState) : Type 0 where
  pub at : MachineState
  pub is : since ≡ Some at
  pub saw : SawHead g limits law at walk.newest
  pub viewed : (seat : ℕ) (v : View) (here : slice_get at.views seat ≡ Some v) → Viewed g limits law at seat v here (first_block g walk.newest) (walk_items g walk) (walk_gaps walk) to

pub walk_viewed : (g : Grid) (limits : IsWithinLimits g) (law : LooksAreKept) (walk : Walk) (since : Option MachineState) (to : MachineState) → IsWalk g walk → HasEnded g walk → DidSince g since (walk_loads g walk) to → WalkViewed g limits law since walk to
walk_viewed g limits law walk since to is ended d =
    let h = saw_head g limits law walk.found walk.newest since (flat_map (block_loads g) walk.blocks) to is.head d in
    let first : ℕ = first_block g walk.newest in
    record {
      at = h.at;
      is = h.is;
      saw = h.saw;
      viewed = λ seat v here.
          let start : Looker = watcher g limits law h.at seat v here h.saw.looks [] in
          let n = first_after g (walk.newest.block + g.blocks) (omega arith) in
          blocks_viewed g limits law h.at seat v here first (omega arith) start walk.blocks first (end_block g walk.newest) [] [] [] h.saw.looks h.at to (passed_none g first start) h.saw.looked (All-nil _) (omega arith)
          (blocks_in_order g walk is ended) (All-weaker (λ p. p < first_of g (walk.newest.block + g.blocks)) (λ p. p < first_of g (end_block g walk.newest)) (λ p l. omega arith) (places v.made) (h.saw.before seat v here))
          (record { later = same_later g h.at; holds = h.saw.holds }) h.rest;
    }
