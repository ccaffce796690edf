-- The states of draws that follow one another.
use Rattle.std.proofs.Common.{◌≡◌, ◌∙◌, ℕ, suc, ◌+◌, ◌*◌, sym, ap, arith}
use Rattle.bridge_tool.specs.Draws.{drawn, next_state, drawn_row, state_after}
use Rattle.bridge_tool.specs.declared.draws.Row.{Row}

pub next_after : (seed i j s t : ℕ) → j ≡ suc i → s ≡ state_after seed i → t ≡ next_state s → t ≡ state_after seed j
unfolding state_after
next_after seed i j s t more at next = next ∙ ap next_state at ∙ ap (state_after seed) (sym more)

-- the states after five draws
pub record AreFive (seed k s1 s2 s3 s4 s5 : ℕ) : Type 0 where
  pub first : s1 ≡ state_after seed (5 * k + 1)
  pub second : s2 ≡ state_after seed (5 * k + 2)
  pub third : s3 ≡ state_after seed (5 * k + 3)
  pub fourth : s4 ≡ state_after seed (5 * k + 4)
  pub fifth : s5 ≡ state_after seed (5 * k + 5)

pub five_after : (seed k s s1 s2 s3 s4 s5 : ℕ) → s ≡ state_after seed (5 * k)
    → s1 ≡ next_state s → s2 ≡ next_state s1 → s3 ≡ next_state s2 → s4 ≡ next_state s3 → s5 ≡ next_state s4 → AreFive seed k s1 s2 s3 s4 s5
five_after seed k s s1 s2 s3 s4 s5 at n1 n2 n3 n4 n5 =
    let a1 = next_after seed (5 * k) (5 * k + 1) s s1 (omega arith) at n1 in
    let a2 = next_after seed (5 * k + 1) (5 * k + 2) s1 s2 (omega arith) a1 n2 in
    let a3 = next_after seed (5 * k + 2) (5 * k + 3) s2 s3 (omega arith) a2 n3 in
    let a4 = next_after seed (5 * k + 3) (5 * k + 4) s3 s4 (omega arith) a3 n4 in
    let a5 = next_after seed (5 * k + 4) (5 * k + 5) s4 s5 (omega arith) a4 n5 in
    record { first = a1; second = a2; third = a3; fourth = a4; fifth = a5 }

pub next_row : (seed k s1 s2 s3 s4 s5 : ℕ) → AreFive seed k s1 s2 s3 s4 s5 → s5 ≡ state_after seed (5 * (k + 1))
next_row seed k s1 s2 s3 s4 s5 h = h.fifth ∙ ap (state_after seed) (omega arith)

pub row_drawn : (seed k s1 s2 s3 s4 s5 a p h u g : ℕ) → AreFive seed k s1 s2 s3 s4 s5
    → a ≡ drawn s1 9 → p ≡ drawn s2 9 → h ≡ drawn s3 90 → u ≡ drawn s4 9 → g ≡ drawn s5 99
    → ◌≡◌ {A = Row} (record { defining = 1 + a; linear = 1 + p; most = 10 + h; bound = 1 + u; slope = 1 + g }) (drawn_row seed k)
unfolding drawn_row
row_drawn seed k s1 s2 s3 s4 s5 a p h u g f da dp dh du dg =
    let ea : a ≡ drawn (state_after seed (5 * k + 1)) 9 = da ∙ ap (λ s. drawn s 9) f.first in
    let ep : p ≡ drawn (state_after seed (5 * k + 2)) 9 = dp ∙ ap (λ s. drawn s 9) f.second in
    let eh : h ≡ drawn (state_after seed (5 * k + 3)) 90 = dh ∙ ap (λ s. drawn s 90) f.third in
    let eu : u ≡ drawn (state_after seed (5 * k + 4)) 9 = du ∙ ap (λ s. drawn s 9) f.fourth in
    let eg : g ≡ drawn (state_after seed (5 * k + 5)) 99 = dg ∙ ap (λ s. drawn s 99) f.fifth in
    λ i. record { defining = 1 + ea i; linear = 1 + ep i; most = 10 + eh i; bound = 1 + eu i; slope = 1 + eg i }
