-- The speed's factors, and the bus time that they make of two cycles.
-- Assumes nothing.
use Prim.Native.Nat.{ℕ, zero, suc, ◌*◌, ◌+◌, ◌≤◌, ◌<◌}
use native.Mathlib.Omega.{arith}
use native.Mathlib.Nat.{mul-le-mul, lt_of_le_of_lt}
use mathlib.Core.Path.{◌≡◌, sym, subst}
use borrow.Author.Tests.{lt-leb}
use Rattle.rules.specs.Choice.{pick}
use Rattle.rules.specs.Speed.{factor}
use Rattle.rules.specs.Slots.{bus_time_of}
use Rattle.rules.proofs.Choice.{pick_false}

-- what holds of 8, 4, 2 and 1 holds of every factor
pub factor_cases : (P : ℕ → Type 0) (code : ℕ) → P 8 → P 4 → P 2 → P 1 → P (factor code)
unfolding factor pick
factor_cases P zero p q r s = p
factor_cases P (suc zero) p q r s = q
factor_cases P (suc (suc zero)) p q r s = r
factor_cases P (suc (suc (suc zero))) p q r s = s
factor_cases P (suc (suc (suc (suc n)))) p q r s =
    subst P (sym (pick_false {X = ℕ} _ _ _ (lt-leb (suc (suc (suc (suc n)))) 3 (omega arith)))) s

pub factor_most : (code : ℕ) → factor code ≤ 8
factor_most code = factor_cases (λ f. f ≤ 8) code (omega arith) (omega arith) (omega arith) (omega arith)

-- whatever the cycles, their bus time fits 16 bits
pub bus_fits : {f a b : ℕ} → f ≤ 8 → a < 256 → b < 256 → f * (a + b) < 65536
bus_fits {f} {a} {b} h l m = lt_of_le_of_lt (mul-le-mul h (let z : a + b ≤ 510 = omega arith in z)) (omega arith)

-- a bus time
pub record BusTime (n : ℕ) : Type 0 where
  pub least : 4 ≤ n
  pub most : n ≤ 64

-- of cycles of 2 to 4 clocks
pub bus_range : (code a b : ℕ) → 2 ≤ a → a ≤ 4 → 2 ≤ b → b ≤ 4 → BusTime (bus_time_of code a b)
unfolding bus_time_of
bus_range code a b l m k n =
    factor_cases (λ f. BusTime (f * (a + b))) code
    (record { least = omega arith; most = omega arith })
    (record { least = omega arith; most = omega arith })
    (record { least = omega arith; most = omega arith })
    (record { least = omega arith; most = omega arith })

-- at full speed
pub bus_full : (a b : ℕ) → bus_time_of 3 a b ≡ a + b
unfolding bus_time_of factor pick
bus_full a b = omega arith
