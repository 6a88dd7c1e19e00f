-- No cursor word overflows.
use Rattle.std.proofs.Common.{◌≡◌, ℕ, ◌/◌, ◌%◌, ◌<◌, ◌≤◌, List, sym, ap, ◌∙◌, ⊎_elim, arith}
use Rattle.std.proofs.lemmas.Bool.{cases_lt}
use Rattle.std.proofs.Math.Nat.{mod_self, mod-eq_of_lt}
use Rattle.cursor_word.specs.Shape.{Grid, IsWithinLimits}
use Rattle.cursor_word.specs.Cursor.{offset_span, place_span}
use Rattle.cursor_word.proofs.Places.{block_of_place_to, offset_of_place}
use Rattle.machine.specs.Invariant.{made_total}
use Rattle.machine.specs.Steps.{start_words}
use Rattle.put_side.specs.Cursors.{consumed_word, reserved_word}
use Rattle.put_side.specs.Laws.{BlocksAreSmall, WordsAreSmall}
use Rattle.put_side.proofs.Begins.{start_word_is, starts_at}
use Rattle.put_side.proofs.Facts.{physical}
use Rattle.put_side.proofs.Moments as moments
use Rattle.sole_core.specs.Types.{View}
use Rattle.sole_core.specs.Stage.{stage}
use Rattle.sole_core.specs.Sound.{IsSound}
use Rattle.sole_core.proofs.Ready.{last_few}

-- the reserved cursors at the start
reserved_start : (g : Grid) (b : ℕ) → IsWithinLimits g → b < g.blocks → reserved_word g (start_words g) b / offset_span ≤ g.blocks
reserved_start g b l less =
    ⊎_elim (λ zero. let e : b % g.blocks ≡ g.blocks % g.blocks = mod-eq_of_lt less ∙ (let z : b ≡ 0 = omega arith in z) ∙ sym (mod_self g.blocks) in
    let x = starts_at g 2 g.blocks (omega arith) l (omega arith) (omega (arith, l.blocks_from)) in
    let y = ap (λ (w : ℕ). w / offset_span) (physical g (start_words g) 4 b g.blocks e) in omega (arith, x.block))
    (λ more. let x = starts_at g 2 b (omega arith) l (omega arith) (omega arith) in omega (arith, x.block))
    (cases_lt b 1)

pub words_small : (g : Grid) (ws : List ℕ) (vs : List View) → IsWithinLimits g → IsSound g ws vs → made_total vs ≤ place_span g → WordsAreSmall g ws
words_small g ws vs limits k room =
    let s = k.sound in
    let few = last_few g ws vs limits k room in
    let from = s.puts.places.words.from in
    let least = limits.blocks_from in
    moments.words_small stage g k.front ws vs s.puts limits few (λ b h. let e = reserved_start g b limits h in let z = ap (λ (w : ℕ). w / offset_span) (s.unmoved.reserved b) in omega arith) (let h = s.unmoved.head in let z = start_word_is g 1 (omega arith) in omega arith)

pub consumed_small : (g : Grid) (ws : List ℕ) (vs : List View) → IsWithinLimits g → IsSound g ws vs → made_total vs ≤ place_span g → BlocksAreSmall g (consumed_word g ws)
consumed_small g ws vs limits k room b h =
    let s = k.sound in
    let few = last_few g ws vs limits k room in
    let least = limits.blocks_to in
    let to = block_of_place_to g k.next limits s.room in
    let within = offset_of_place g k.next limits in
    let size = limits.size_to in
    let e = s.takes.most b in omega arith
