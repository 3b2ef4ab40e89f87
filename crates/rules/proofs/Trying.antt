-- A test of all numbers below a bound, computed, holds of each of them.
-- Assumes nothing.
use Prim.Native.Nat.{ℕ, zero, suc, ◌<◌}
use native.Mathlib.Omega.{arith}
use mathlib.Core.Path.{◌≡◌, sym, subst}
use mathlib.Core.Bool.{Bool, true}
use mathlib.Core.List.{[], ◌∷◌}
use lib.Dec.{eqb}
use borrow.Author.Tests.{eqb-true, eqb-false}
use Rattle.rules.specs.Choice.{every}
use Rattle.rules.proofs.Choice.{either, all_true}

-- the test holds of every number below n
unfoldable pub all_below : ℕ → (ℕ → Bool) → Bool
all_below zero f = true
all_below (suc n) f = every (f n ∷ all_below n f ∷ [])

pub below_at : (n : ℕ) (f : ℕ → Bool) → all_below n f ≡ true → (k : ℕ) → k < n → f k ≡ true
unfolding all_below
below_at zero f e k h = absurd (omega (arith, h))
below_at (suc n) f e k h =
    either (eqb k n) (λ d. subst (λ (j : ℕ). f j ≡ true) (sym (eqb-true k n d)) (all_true _ e).0)
    (λ d. below_at n f (all_true _ e).1.0 k (let z = eqb-false k n d in omega (arith, h, z)))
