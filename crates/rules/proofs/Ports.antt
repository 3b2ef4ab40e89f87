-- What the rules do to a port keeps it valid and within its types: said once, for A and B.
-- Assumes nothing.
use Prim.Native.Nat.{ℕ, zero, suc, ◌+◌, ◌%◌, ◌≤◌, ◌<◌}
use native.Mathlib.Omega.{arith}
use mathlib.Core.Path.{◌≡◌, refl}
use mathlib.Core.Bool.{Bool, true, false}
use lib.Dec.{eqb}
use Rattle.rules.specs.Choice.{pick}
use Rattle.rules.specs.Bytes.{with_low, with_high}
use Rattle.rules.specs.Ports.{configured, cycle_of, timed, addressed_low, addressed_high, reset_timing, loaded, stepped, advanced, stride, stepped_by}
use Rattle.rules.specs.Validity.{valid_port}
use Rattle.rules.specs.Facts.{PortInRange, ValidCycle}
use Rattle.rules.specs.declared.Port.{Port}
use Rattle.rules.proofs.Choice.{pick_both}
use Rattle.rules.proofs.Validity.{port_cycle}

-- valid, and within its types
pub record GoodPort (p : Port) : Type 0 where
  pub cycle : ValidCycle p
  pub range : PortInRange p

pub good_port : (p : Port) → valid_port p ≡ true → PortInRange p → GoodPort p
good_port p v r = record { cycle = port_cycle p v; range = r }

pub good_configured : (p : Port) (byte : ℕ) → GoodPort p → GoodPort (configured byte p)
good_configured p byte g = record { cycle = omega arith; range = omega arith }

cycle_least : (byte : ℕ) → 2 ≤ cycle_of byte
unfolding cycle_of
cycle_least byte = pick_both (λ n. 2 ≤ n) _ _ _ (omega arith) (pick_both (λ n. 2 ≤ n) _ _ _ (omega arith) (omega arith))

cycle_most : (byte : ℕ) → cycle_of byte ≤ 4
unfolding cycle_of
cycle_most byte = pick_both (λ n. n ≤ 4) _ _ _ (omega arith) (pick_both (λ n. n ≤ 4) _ _ _ (omega arith) (omega arith))

pub good_timed : (p : Port) (byte : ℕ) → GoodPort p → GoodPort (timed byte p)
good_timed p byte g = record { cycle = record { least = cycle_least byte; most = cycle_most byte }; range = omega arith }

pub low_fits : (byte n : ℕ) → byte < 256 → n < 65536 → with_low byte n < 65536
low_fits byte n h k = omega arith

pub high_fits : (byte n : ℕ) → byte < 256 → n < 65536 → with_high byte n < 65536
high_fits byte n h k = omega arith

pub good_low : (p : Port) (byte : ℕ) → byte < 256 → GoodPort p → GoodPort (addressed_low byte p)
good_low p byte h g = record { cycle = omega arith; range = omega arith }

pub good_high : (p : Port) (byte : ℕ) → byte < 256 → GoodPort p → GoodPort (addressed_high byte p)
good_high p byte h g = record { cycle = omega arith; range = omega arith }

pub good_reset : (p : Port) → GoodPort p → GoodPort (reset_timing p)
good_reset p g = record { cycle = omega arith; range = omega arith }

pub good_loaded : (p : Port) → GoodPort p → GoodPort (loaded p)
good_loaded p g = record { cycle = omega arith; range = omega arith }

stepped_fits : (step pointer : ℕ) → pointer < 65536 → stepped step pointer < 65536
unfolding stepped
stepped_fits step pointer h =
    pick_both (λ n. n < 65536) _ _ _ (omega arith) (pick_both (λ n. n < 65536) _ _ _ (omega arith) h)

pub good_advanced : (p : Port) → GoodPort p → GoodPort (advanced p)
good_advanced p g =
    record { cycle = omega arith; range = record { address = g.range.address; pointer = stepped_fits _ _ g.range.pointer; step = g.range.step } }

-- ---- steps by a stride

pub stepped_by_below : (k step p : ℕ) → p < 65536 → stepped_by k step p < 65536
unfolding stepped_by
stepped_by_below zero step p h = h
stepped_by_below (suc k) step p h = stepped_fits step (stepped_by k step p) (stepped_by_below k step p h)

-- a step is its stride added, modulo 65,536
by_stride : (down up : Bool) (p : ℕ) → p < 65536 → (p + pick down 65535 (pick up 1 0)) % 65536 ≡ pick down ((p + 65535) % 65536) (pick up ((p + 1) % 65536) p)
unfolding pick
by_stride true up p h = refl
by_stride false true p h = refl
by_stride false false p h = omega arith

pub stepped_stride : (step p : ℕ) → p < 65536 → (p + stride step) % 65536 ≡ stepped step p
unfolding stepped stride
stepped_stride step p h = by_stride (eqb step 0) (eqb step 1) p h
