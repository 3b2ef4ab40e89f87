-- Bits that a byte does not have are clear.
-- Assumes nothing.
use Prim.Native.Nat.{ℕ, ◌%◌, ◌≤◌, ◌<◌}
use native.Mathlib.Nat.{lt_of_lt_of_le, div-eq_of_lt}
use mathlib.Core.Path.{◌≡◌, ap}
use mathlib.Core.Bool.{false}
use lib.Dec.{eqb}
use lib.Pow.{pow_mono}
use Rattle.rules.specs.Bytes.{bit}

pub bit_above : (k byte : ℕ) → 8 ≤ k → byte < 256 → bit k byte ≡ false
bit_above k byte h l = ap (λ (q : ℕ). eqb (q % 2) 1) (div-eq_of_lt (lt_of_lt_of_le l (pow_mono {i = 8} {j = k} h)))
