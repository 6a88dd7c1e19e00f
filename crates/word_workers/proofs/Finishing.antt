-- Workers with seats of their own, one after the other.
use Rattle.std.proofs.Common.{◌≡◌, ℕ, ◌+◌, ◌<◌, List, [], ◌∷◌, ◌++◌, length, get_or, map, refl, sym, ap, subst, ◌∙◌, arith, below_more}
use Rattle.std.specs.Prelude.{Bool, flat_map, Option, Some, IfSome}
use Rattle.std.specs.List.{All}
use Rattle.std.proofs.lemmas.Grind.{flat_map-append}
use Rattle.std.proofs.lemmas.List.{append-nil, append_assoc, length-append, map-append, get_or_append_left}
use Rattle.std.proofs.lemmas.List.Elements.{All-append, All-from_recursion, All-nil}
use Rattle.std.proofs.Math.Seq.{get_or-append_seam}
use Rattle.claim_table.specs.Claimed.{Claimant, Drawing}
use Rattle.flow_io.specs.Clock.{Ticks}
use Rattle.rail.specs.declared.entry.Placed.{Placed}
use Rattle.rail.specs.Batch.{Gathered}
use Rattle.span_recorder.specs.Gain.{GainAlike}
use Rattle.word_text.specs.Counts.{Numbers}
use Rattle.word_text.specs.declared.plan.Piece.{Piece}
use Rattle.word_workers.specs.Spans.{AllLieIn}
use Rattle.word_workers.specs.Worked.{Worked}
use Rattle.word_workers.specs.Ended.{Served}
use Rattle.word_workers.specs.declared.ended.Ended.{Ended}
use Rattle.word_workers.specs.Finished.{Finished}
use Rattle.word_workers.specs.declared.child.Given.{Given}
use Rattle.word_workers.specs.declared.child.Child.{Child}
use Rattle.word_workers.specs.Child.{AreChildren, IsBegun, IsChild, Keeps, seat_of, told_of}
use Rattle.word_workers.proofs.Joining.{counted_more, counted_none}
use Rattle.word_workers.proofs.Runs.{adds_alone, batches_more, run_more, run_none, worked_told}

-- what holds of all elements, of those before the last and of the last
pub all_early : {X : Type 0} (P : X → Type 0) (xs : List X) (x : X) → All P (xs ++ x ∷ []) → All P xs
all_early P xs x a k d lt = subst P (get_or_append_left xs (x ∷ []) d k lt) (a k d (let l = length-append xs (x ∷ []) in omega arith))

pub all_last : {X : Type 0} (P : X → Type 0) (xs : List X) (x : X) → All P (xs ++ x ∷ []) → P x
all_last P xs x a = subst P (get_or-append_seam xs x [] x) (a (length xs) x (let l = length-append xs (x ∷ []) in omega arith))

pub all_more : {X : Type 0} (P : X → Type 0) (xs more : List X) (x : X) → more ≡ xs ++ x ∷ [] → All P xs → P x → All P more
all_more P xs more x e a p = subst (All P) (sym e) (All-append P xs (x ∷ []) a (All-from_recursion P (x ∷ []) (p, tt)))

pub flat_map_one_more : {X Y : Type 0} (f : X → List Y) (xs more : List X) (x : X) → more ≡ xs ++ x ∷ [] → flat_map f more ≡ flat_map f xs ++ f x
flat_map_one_more f xs more x e = ap (flat_map f) e ∙ flat_map-append f xs (x ∷ []) ∙ ap (λ t. flat_map f xs ++ t) (append-nil (f x))

-- an element of a longer list
pub at_last : {X : Type 0} (xs more : List X) (x d : X) (n : ℕ) → more ≡ xs ++ x ∷ [] → length xs ≡ n → get_or more n d ≡ x
at_last xs more x d n e len = ap (λ t. get_or t n d) e ∙ ap (λ (k : ℕ). get_or (xs ++ x ∷ []) k d) (sym len) ∙ get_or-append_seam xs x [] d

pub at_early : {X : Type 0} (xs more : List X) (x d : X) (k : ℕ) → more ≡ xs ++ x ∷ [] → k < length xs → get_or more k d ≡ get_or xs k d
at_early xs more x d k e lt = ap (λ t. get_or t k d) e ∙ get_or_append_left xs (x ∷ []) d k lt

-- the next of those that are left is one of all
pub all_next : {X : Type 0} (P : X → Type 0) (done rest left whole : List X) (x : X) → done ++ rest ≡ whole → rest ≡ x ∷ left → All P whole → P x
all_next P done rest left whole x e r a =
    let all : done ++ (x ∷ left) ≡ whole = ap (λ t. done ++ t) (sym r) ∙ e in
    let b : All P (done ++ (x ∷ left)) = subst (All P) (sym all) a in
    subst P (get_or-append_seam done x left x) (b (length done) x (let l = length-append done (x ∷ left) in omega arith))

pub one_moved : {X : Type 0} (done rest left whole : List X) (x : X) → done ++ rest ≡ whole → rest ≡ x ∷ left → (done ++ x ∷ []) ++ left ≡ whole
one_moved done rest left whole x e r = append_assoc done (x ∷ []) left ∙ ap (λ t. done ++ t) (sym r) ∙ e

pub nothing_left : {X : Type 0} (xs : List X) → length xs ≡ 0 → xs ≡ []
nothing_left [] none = refl
nothing_left (x ∷ xs) none = absurd (omega arith)

module _ {Q S : Type 0} (made taken : S → List Placed) (number_of : S → ℕ) (PutsInto TakesFrom : Q → S → Type 0) (drops : Bool) (plan : List Piece) (texts : List (List ℕ)) (clock : ℕ → Option Ticks) (claim : Claimant) where
  abbrev F : ℕ → List S → List Numbers → List Gathered → List (List ℕ) → List Drawing → List S → Type 0
  F workers before counts batches drawn claims seats = Finished {Q = Q} made taken number_of PutsInto TakesFrom drops plan texts clock claim workers before counts batches drawn claims seats

  pub finished_none : (counts : List Numbers) (batches : List Gathered) (drawn : List (List ℕ)) (claims : List Drawing) (seats : List S) → counts ≡ [] → batches ≡ [] → drawn ≡ [] → claims ≡ [] → seats ≡ [] → F 0 [] counts batches drawn claims seats
  finished_none counts batches drawn claims seats c b d k s = record {
    run = run_none plan texts clock drawn (flat_map made seats) d (ap (flat_map made) s);
    parts = counted_none plan texts claim counts drawn claims c d k;
    own = λ w seat lt. absurd (omega arith);
    count = ap (λ (t : List S). length t) s;
    taken_is = ap (flat_map (λ (b : Gathered). b.items)) b ∙ sym (ap (flat_map taken) s);
    drops_none = λ _. subst (All (λ (t : S). taken t ≡ [])) (sym s) (All-nil (λ (t : S). taken t ≡ []));
    numbers = ap (map number_of) s;
    puts = λ q _. subst (All (PutsInto q)) (sym s) (All-nil (PutsInto q));
    takes = λ q _. subst (All (TakesFrom q)) (sym s) (All-nil (TakesFrom q));
  }

  -- a worker with an unused seat made its spans alone
  pub alone : (told : Option Ticks) (worker : ℕ) (before : S) (ended : Ended S) → IfSome (clock worker) (λ t. told ≡ Some t) → made before ≡ [] → Served {Q = Q} made taken number_of PutsInto TakesFrom drops plan texts told worker claim before ended
      → Worked plan texts (clock worker) worker ended.drawn [] (made ended.seat)
  alone told worker before ended ticks none s = subst (λ (t : List Placed). Worked plan texts (clock worker) worker ended.drawn t (made ended.seat)) none (worked_told plan texts clock worker told ended.drawn (made before) (made ended.seat) ticks s.spans)

  pub finished_more : (told : Option Ticks) (w : ℕ) (before : List S) (counts more_counts : List Numbers) (batches more_batches : List Gathered) (drawn more_drawn : List (List ℕ)) (claims more_claims : List Drawing) (seats more_seats : List S) (old : S) (ended : Ended S)
      → AllLieIn texts plan → F w before counts batches drawn claims seats → IfSome (clock w) (λ t. told ≡ Some t) → made old ≡ [] → taken old ≡ []
      → Served {Q = Q} made taken number_of PutsInto TakesFrom drops plan texts told w claim old ended
      → more_counts ≡ counts ++ ended.counts ∷ [] → more_batches ≡ batches ++ ended.batch ∷ [] → more_drawn ≡ drawn ++ ended.drawn ∷ [] → more_claims ≡ claims ++ ended.claim_seat ∷ [] → more_seats ≡ seats ++ ended.seat ∷ []
      → F (w + 1) (before ++ old ∷ []) more_counts more_batches more_drawn more_claims more_seats
  finished_more told w before counts more_counts batches more_batches drawn more_drawn claims more_claims seats more_seats old ended inside f ticks made_none taken_none s ec eb ed ek es =
      let worked = alone told w old ended ticks made_none s in
      let mine : List ℕ = ended.drawn in
      let all : flat_map made more_seats ≡ flat_map made seats ++ made ended.seat = flat_map_one_more made seats more_seats ended.seat es in
      let took : taken ended.seat ≡ ended.batch.items = s.batch.gained ∙ ap (λ (t : List Placed). t ++ s.batch.items) taken_none ∙ sym s.batch.gained_other in
      let gain : GainAlike (flat_map taken seats) (flat_map taken more_seats) [] ended.batch.items = record {
        items = ended.batch.items;
        gained = flat_map_one_more taken seats more_seats ended.seat es ∙ ap (λ (t : List Placed). flat_map taken seats ++ t) took;
        gained_other = refl;
      } in
      record {
        run = run_more plan texts clock w drawn more_drawn mine (flat_map made seats) (flat_map made more_seats) inside f.run (adds_alone plan texts clock w mine (flat_map made seats) (made ended.seat) (flat_map made more_seats) worked all) s.rising s.within ed;
        parts = counted_more plan texts claim counts more_counts drawn more_drawn claims more_claims ended.counts mine ended.claim_seat f.parts s.counts s.claims s.claimed s.stopped ec ed ek;
        own = λ v d lt. below_more (λ (v : ℕ). Worked plan texts (clock v) v (get_or more_drawn v []) [] (made (get_or more_seats v d))) w
            (λ v low. subst (λ (t : List ℕ). Worked plan texts (clock v) v t [] (made (get_or more_seats v d))) (sym (at_early drawn more_drawn mine [] v ed (let n = f.run.number in omega arith)))
            (subst (λ (t : S). Worked plan texts (clock v) v (get_or drawn v []) [] (made t)) (sym (at_early seats more_seats ended.seat d v es (let n = f.count in omega arith))) (f.own v d low)))
            (subst (λ (t : List ℕ). Worked plan texts (clock w) w t [] (made (get_or more_seats w d))) (sym (at_last drawn more_drawn mine [] w ed f.run.number))
            (subst (λ (t : S). Worked plan texts (clock w) w mine [] (made t)) (sym (at_last seats more_seats ended.seat d w es f.count)) worked))
            v lt;
        count = ap (λ (t : List S). length t) es ∙ length-append seats (ended.seat ∷ []) ∙ ap (λ (n : ℕ). n + 1) f.count;
        taken_is = batches_more (λ (b : Gathered). b.items) batches more_batches ended.batch (flat_map taken seats) (flat_map taken more_seats) f.taken_is gain eb;
        drops_none = λ d. all_more (λ (t : S). taken t ≡ []) seats more_seats ended.seat es (f.drops_none d) (s.drops_none d ∙ taken_none);
        numbers = ap (map number_of) es ∙ map-append number_of seats (ended.seat ∷ []) ∙ ap (λ (t : List ℕ). t ++ number_of ended.seat ∷ []) f.numbers ∙ ap (λ (n : ℕ). map number_of before ++ n ∷ []) s.number ∙ sym (map-append number_of before (old ∷ []));
        puts = λ q a. all_more (PutsInto q) seats more_seats ended.seat es (f.puts q (all_early (PutsInto q) before old a)) (s.puts q (all_last (PutsInto q) before old a));
        takes = λ q a. all_more (TakesFrom q) seats more_seats ended.seat es (f.takes q (all_early (TakesFrom q) before old a)) (s.takes q (all_last (TakesFrom q) before old a));
      }

  module _ {H D : Type 0} (ticks_of : H → Option Ticks) where
    abbrev Are : ℕ → List (Child Q H S D) → Type 0
    Are n children = AreChildren {Q = Q} {H = H} {S = S} {D = D} made taken number_of PutsInto TakesFrom drops ticks_of plan texts clock claim n children

    abbrev Is : ℕ → Child Q H S D → Type 0
    Is n child = IsChild {Q = Q} {H = H} {S = S} {D = D} made taken number_of PutsInto TakesFrom drops ticks_of plan texts clock claim n child

    pub are_more : (n : ℕ) (children : List (Child Q H S D)) (child : Child Q H S D) → Are n children → Is (n + length children) child → Are n (children ++ child ∷ [])
    are_more n [] child a i = let e : n + 0 ≡ n = omega arith in (subst (λ (k : ℕ). Is k child) e i, tt)
    are_more n (c ∷ cs) child a i =
        let e : n + length (c ∷ cs) ≡ (n + 1) + length cs = omega arith in
        (a.0, are_more (n + 1) cs child a.1 (subst (λ (k : ℕ). Is k child) e i))

    pub are_none : (n : ℕ) (children : List (Child Q H S D)) → children ≡ [] → Are n children
    are_none n children e = subst (Are n) (sym e) tt

    pub are_pushed : (n : ℕ) (children more : List (Child Q H S D)) (child : Child Q H S D) (k : ℕ) → more ≡ children ++ child ∷ [] → k ≡ n + length children → Are n children → Is k child → Are n more
    are_pushed n children more child k e at a i = subst (Are n) (sym e) (are_more n children child a (subst (λ (j : ℕ). Is j child) at i))

    -- what a begun worker keeps, it keeps of this run
    pub child_served : (worker : ℕ) (child : Child Q H S D) (ended : Ended S) → Is worker child → Keeps {Q = Q} {H = H} {S = S} {D = D} made taken number_of PutsInto TakesFrom drops ticks_of (told_of child) ended
        → Served {Q = Q} made taken number_of PutsInto TakesFrom drops plan texts (ticks_of (told_of child).hand.value) worker claim (seat_of child) ended
    child_served worker child ended i k =
        let told : Given Q H S D = told_of child in
        let t : Option Ticks = ticks_of told.hand.value in
        let one = subst (λ (x : List Piece). Served {Q = Q} made taken number_of PutsInto TakesFrom drops x told.texts.now t told.worker told.claim.now told.seat.value ended) i.plan_is k in
        let two = subst (λ (x : List (List ℕ)). Served {Q = Q} made taken number_of PutsInto TakesFrom drops plan x t told.worker told.claim.now told.seat.value ended) i.texts_are one in
        let three = subst (λ (x : ℕ). Served {Q = Q} made taken number_of PutsInto TakesFrom drops plan texts t x told.claim.now told.seat.value ended) i.worker_is two in
        subst (λ (x : Claimant). Served {Q = Q} made taken number_of PutsInto TakesFrom drops plan texts t worker x told.seat.value ended) i.claim_is three

    -- some workers were waited for, and the rest are begun
    pub record Finishing (children : List (Child Q H S D)) (counts : List Numbers) (batches : List Gathered) (drawn : List (List ℕ)) (claims : List Drawing) (seats : List S) (rest : List (Child Q H S D)) : Type 0 where
      pub waited : List (Child Q H S D)
      pub all : waited ++ rest ≡ children
      pub are : Are (length waited) rest
      pub finished : F (length waited) (map seat_of waited) counts batches drawn claims seats

    pub finishing_none : (children rest : List (Child Q H S D)) (counts : List Numbers) (batches : List Gathered) (drawn : List (List ℕ)) (claims : List Drawing) (seats : List S) → rest ≡ children → Are 0 children → counts ≡ [] → batches ≡ [] → drawn ≡ [] → claims ≡ [] → seats ≡ [] → Finishing children counts batches drawn claims seats rest
    finishing_none children rest counts batches drawn claims seats e a c b d k s = record { waited = []; all = e; are = subst (Are 0) (sym e) a; finished = finished_none counts batches drawn claims seats c b d k s }

    pub finishing_more : (children : List (Child Q H S D)) (counts more_counts : List Numbers) (batches more_batches : List Gathered) (drawn more_drawn : List (List ℕ)) (claims more_claims : List Drawing) (seats more_seats : List S) (rest left : List (Child Q H S D)) (child : Child Q H S D) (ended : Ended S)
        → AllLieIn texts plan → Finishing children counts batches drawn claims seats rest → rest ≡ child ∷ left → Keeps {Q = Q} {H = H} {S = S} {D = D} made taken number_of PutsInto TakesFrom drops ticks_of (told_of child) ended
        → more_counts ≡ counts ++ ended.counts ∷ [] → more_batches ≡ batches ++ ended.batch ∷ [] → more_drawn ≡ drawn ++ ended.drawn ∷ [] → more_claims ≡ claims ++ ended.claim_seat ∷ [] → more_seats ≡ seats ++ ended.seat ∷ []
        → Finishing children more_counts more_batches more_drawn more_claims more_seats left
    finishing_more children counts more_counts batches more_batches drawn more_drawn claims more_claims seats more_seats rest left child ended inside f e keeps ec eb ed ek es =
        let n : ℕ = length f.waited in
        let here : Are n (child ∷ left) = subst (Are n) e f.are in
        let i : Is n child = here.0 in
        let len : length (f.waited ++ child ∷ []) ≡ n + 1 = length-append f.waited (child ∷ []) in
        let old : map seat_of (f.waited ++ child ∷ []) ≡ map seat_of f.waited ++ seat_of child ∷ [] = map-append seat_of f.waited (child ∷ []) in
        let done = finished_more (ticks_of (told_of child).hand.value) n (map seat_of f.waited) counts more_counts batches more_batches drawn more_drawn claims more_claims seats more_seats (seat_of child) ended inside f.finished i.ticks i.made_none i.taken_none (child_served n child ended i keeps) ec eb ed ek es in
        let counted = subst (λ (k : ℕ). F k (map seat_of f.waited ++ seat_of child ∷ []) more_counts more_batches more_drawn more_claims more_seats) (sym len) done in
        record {
          waited = f.waited ++ child ∷ [];
          all = append_assoc f.waited (child ∷ []) left ∙ ap (λ (t : List (Child Q H S D)). f.waited ++ t) (sym e) ∙ f.all;
          are = subst (λ (k : ℕ). Are k left) (sym len) here.1;
          finished = subst (λ (t : List S). F (length (f.waited ++ child ∷ [])) t more_counts more_batches more_drawn more_claims more_seats) (sym old) counted;
        }

    -- the next of the rest is begun
    pub begun_next : (children : List (Child Q H S D)) (counts : List Numbers) (batches : List Gathered) (drawn : List (List ℕ)) (claims : List Drawing) (seats : List S) (rest left : List (Child Q H S D)) (child : Child Q H S D)
        → Finishing children counts batches drawn claims seats rest → rest ≡ child ∷ left → IsBegun {Q = Q} {H = H} {S = S} {D = D} made taken number_of PutsInto TakesFrom drops ticks_of child
    begun_next children counts batches drawn claims seats rest left child f e =
        let here : Are (length f.waited) (child ∷ left) = subst (Are (length f.waited)) e f.are in
        let i : Is (length f.waited) child = here.0 in
        i.begun

    pub finishing_done : (children rest : List (Child Q H S D)) (counts : List Numbers) (batches : List Gathered) (drawn : List (List ℕ)) (claims : List Drawing) (seats : List S) → Finishing children counts batches drawn claims seats rest → length rest ≡ 0 → F (length children) (map seat_of children) counts batches drawn claims seats
    finishing_done children [] counts batches drawn claims seats f none =
        let e : f.waited ≡ children = sym (append-nil f.waited) ∙ f.all in
        subst (λ (t : List (Child Q H S D)). F (length t) (map seat_of t) counts batches drawn claims seats) e f.finished
    finishing_done children (c ∷ cs) counts batches drawn claims seats f none = absurd (omega arith)
