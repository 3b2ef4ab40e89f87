-- The wrong models differ from the definitions at the worked examples named, by computation.
-- Assumes nothing.
use Prim.Native.Nat.{ℕ}
use native.Mathlib.Omega.{arith}
use mathlib.Core.Path.{◌≡◌, refl, ap}
use mathlib.Core.List.{List}
use lib.ListN.{get_or, length}
use Rattle.examples.specs.Slips.{saved_copy, NotSaved, NotWhole, NotModeByRead, NotAtEveryCore, NotAtLongCycles, NotInSlowSlot, NotWithoutContinue, NotWithoutZero, NotPassed, NotAnew}
use Rattle.examples.specs.ShortLists.{sent}
use Rattle.rules.specs.Clock.{cpu_clock, Clock}
use Rattle.rules.specs.World.{System}
use Rattle.rules.specs.Accounts.{of_kind, bytes_noted, zeroed_noted}
use Rattle.rules.specs.Recheck.{clock_with_recheck, first_clock_with_recheck}
use Rattle.rules.specs.At28.{slot_length_at28, valid_length_at28, running_slot_at28, valid_slot_at28, valid_core_at28}
use Rattle.examples.specs.RowsOpened.{rows_opened}

-- at 1002 stands the first byte and not the second
pub not_saved : NotSaved
unfolding rows_opened saved_copy
not_saved e = let z : ◌≡◌ {A = ℕ} 0x11 0x22 = ap (λ (m : List ℕ). get_or m 0x1002 0) e in omega arith

-- at 2000 stands what stood there
pub not_whole : NotWhole
unfolding rows_opened saved_copy
not_whole e = let z : ◌≡◌ {A = ℕ} 0xE1 0xA1 = ap (λ (m : List ℕ). get_or m 0x2000 0) e in omega arith

-- the block is one byte longer than its length
pub not_mode_by_read : NotModeByRead
unfolding rows_opened
not_mode_by_read e = let z : ◌≡◌ {A = ℕ} 0x106 0x105 = e in omega arith

-- the recheck gives the clock to the processor, the rules to the bus
pub not_at_every_core : NotAtEveryCore
unfolding rows_opened clock_with_recheck first_clock_with_recheck
not_at_every_core =
    record {
      invalid = refl;
      clocks = λ e. let z : ◌≡◌ {A = ℕ} 1 0 = ap (λ (x : Clock). of_kind cpu_clock x.kind) e in omega arith;
      systems = λ e. let z : ◌≡◌ {A = ℕ} 0 1 = ap (λ (s : System (List ℕ)). s.clocks.bus) e in omega arith;
      refused = refl;
    }

-- code 3 is not 28 MHz alone where the cycles are too long, or a slower slot still runs
pub not_at_long_cycles : NotAtLongCycles
unfolding rows_opened slot_length_at28
not_at_long_cycles = record { code = refl; invalid = refl; slot = refl; slot_at28 = refl }

pub not_in_slow_slot : NotInSlowSlot
unfolding rows_opened valid_length_at28 running_slot_at28 valid_slot_at28 valid_core_at28
not_in_slow_slot = record { code = refl; valid = refl; valid_at28 = refl }

-- one byte has moved, and no counter but Load's 0 is noted
pub not_without_continue : NotWithoutContinue
unfolding rows_opened sent bytes_noted zeroed_noted
not_without_continue e = let z : ◌≡◌ {A = ℕ} 1 0 = e in omega arith

pub not_without_zero : NotWithoutZero
unfolding rows_opened
not_without_zero e = let z : ◌≡◌ {A = ℕ} 1 0 = ap length e in omega arith

pub not_passed : NotPassed
unfolding rows_opened
not_passed e = let z : ◌≡◌ {A = ℕ} 0 5 = e in omega arith

pub not_anew : NotAnew
unfolding rows_opened
not_anew e = let z : ◌≡◌ {A = ℕ} 1 0 = e in omega arith
