-- What is said of a port, once for A and B.
-- Assumes nothing.
use Rattle.std.specs.Prelude.{ℕ, zero, suc, ◌+◌, ◌/◌, ◌%◌, eqb}
use Rattle.rules.specs.Choice.{pick}
use Rattle.rules.specs.Bytes.{bit, with_low, with_high}
use Rattle.rules.specs.Parts.{with_address, with_pointer, with_cycle}
use Rattle.rules.specs.declared.Port.{Port}

-- WR1 and WR2: bit 3 set is I/O; bits 5-4 are the pointer's step. The cycle stays until a timing byte comes.
abbrev pub configured : ℕ → Port → Port
configured byte p =
    record { address = p.address; pointer = p.pointer; io = bit 3 byte; step = byte / 16 % 4; cycle = p.cycle }

-- bits 1-0 of a timing byte: 00 is 4 clocks at 28 MHz, 01 is 3, 10 is 2; 11 is 4 (ours). The other bits say nothing of the
-- cycle.
unfoldable pub cycle_of : ℕ → ℕ
cycle_of byte = pick (eqb (byte % 4) 1) 3 (pick (eqb (byte % 4) 2) 2 4)

abbrev pub timed : ℕ → Port → Port
timed byte p = with_cycle (cycle_of byte) p

-- the low or the high byte of the starting address is written
abbrev pub addressed_low : ℕ → Port → Port
addressed_low byte p = with_address (with_low byte p.address) p

abbrev pub addressed_high : ℕ → Port → Port
addressed_high byte p = with_address (with_high byte p.address) p

-- the cycle length after a reset: 4 clocks at 28 MHz
abbrev pub reset_timing : Port → Port
reset_timing p = with_cycle 4 p

-- the pointer takes the starting address
abbrev pub loaded : Port → Port
loaded p = with_pointer p.address p

-- the address after a byte: one less, one more or the same, modulo 65,536
unfoldable pub stepped : ℕ → ℕ → ℕ
stepped step pointer =
    pick (eqb step 0) ((pointer + 65535) % 65536) (pick (eqb step 1) ((pointer + 1) % 65536) pointer)

abbrev pub advanced : Port → Port
advanced p = with_pointer (stepped p.step p.pointer) p

-- what a step code adds to an address modulo 65,536
unfoldable pub stride : ℕ → ℕ
stride step = pick (eqb step 0) 65535 (pick (eqb step 1) 1 0)

-- the address after k bytes
unfoldable pub stepped_by : ℕ → ℕ → ℕ → ℕ
stepped_by zero step pointer = pointer
stepped_by (suc k) step pointer = stepped step (stepped_by k step pointer)

abbrev pub advanced_by : ℕ → Port → Port
advanced_by k p = with_pointer (stepped_by k p.step p.pointer) p
