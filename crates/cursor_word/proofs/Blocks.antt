-- Block numbers and their physical blocks.
use Rattle.std.proofs.Common.{◌≡◌, ℕ, ◌+◌, ◌-◌, ◌*◌, ◌/◌, ◌%◌, ◌<◌, ◌≤◌, ◌≢◌, sym, ap, ◌∙◌, ⊎_elim, arith}
use Rattle.std.proofs.lemmas.Bool.{cases_lt}
use Rattle.std.proofs.lemmas.Nat.{mod_below}
use Rattle.std.proofs.Math.Nat.{add-mul-mod_self_right, add-mod_right, mul-le-mul_left}
use Rattle.cursor_word.specs.Shape.{Grid, IsWithinLimits}

pub physical_below : (g : Grid) (k : ℕ) → IsWithinLimits g → k % g.blocks < g.blocks
physical_below g k l = mod_below k g.blocks (let b = l.blocks_from in omega arith)

-- the physical block of a block is that of the block which reuses it
pub reused_physical : (g : Grid) (k : ℕ) → (k + g.blocks) % g.blocks ≡ k % g.blocks
reused_physical g k = add-mod_right k g.blocks

pub shifted : (B k h : ℕ) → k + B ≡ h → k % B ≡ h % B
shifted B k h e = sym (add-mod_right k B) ∙ ap (λ (n : ℕ). n % B) e

pub same_block : (B k h : ℕ) → k % B ≡ h % B → k ≤ h → h < k + B → k ≡ h
same_block B k h e le near =
    let up : k / B < h / B → ⊥ = λ q. let m : B * (k / B + 1) ≤ B * (h / B) = mul-le-mul_left B (omega arith) in omega arith in
    let down : h / B < k / B → ⊥ = λ q. let m : B * (h / B + 1) ≤ B * (k / B) = mul-le-mul_left B (omega arith) in omega arith in
    let q : k / B ≡ h / B = omega arith in
    let m : B * (k / B) ≡ B * (h / B) = ap (λ (n : ℕ). B * n) q in omega arith

-- of the newest blocks, as many as there are physical ones, two with one physical block are one
pub same_near : (B k h K : ℕ) → k % B ≡ h % B → k ≤ K → K < k + B → h ≤ K → K < h + B → k ≡ h
same_near B k h K e a b c d = ⊎_elim (λ l. same_block B k h e (omega arith) (omega arith)) (λ l. sym (same_block B h k (sym e) l (omega arith))) (cases_lt k h)

pub next_physical : (g : Grid) (k : ℕ) → IsWithinLimits g → (k + 1) % g.blocks ≢ k % g.blocks
next_physical g k l = λ e. let b = l.blocks_from in let s = same_near g.blocks (k + 1) k (k + 1) e (omega arith) (omega arith) (omega arith) (omega arith) in omega arith

-- the newest block up to K that has the physical block of h
abbrev pub latest : ℕ → ℕ → ℕ → ℕ
latest B h K = h + (K - h) / B * B

pub record IsLatest (B h K k : ℕ) : Type 0 where
  pub same : k % B ≡ h % B
  pub from : h ≤ k
  pub to : k ≤ K
  pub near : K < k + B

pub latest_is : (B h K : ℕ) → 0 < B → h ≤ K → IsLatest B h K (latest B h K)
latest_is B h K pos le = record {
  same = add-mul-mod_self_right h ((K - h) / B) B;
  from = omega arith;
  to = omega arith;
  near = omega arith;
}
