-- The numbers by which the rules, and C, know what this crate's enums name.
-- Assumes nothing.
use Rattle.std.specs.Prelude.{ℕ, Option, None, Some, Result, Ok, Err}
use Rattle.rules.specs.Pending.{a_low, a_high, length_low, length_high, a_timing, b_timing, prescaler, b_low, b_high, read_mask, nothing}
use Rattle.rules.specs.Warnings.{no_warning, operation_warning, timing_warning, mode_warning}
use Rattle.parts.specs.declared.pending.Parameter.{Parameter}
use Rattle.parts.specs.declared.pending.Parameter.TheVariants.{ALow, AHigh, LengthLow, LengthHigh, ATiming, BTiming, Prescaler, BLow, BHigh, ReadMask}
use Rattle.parts.specs.declared.selection.Register.{Register}
use Rattle.parts.specs.declared.selection.Register.TheVariants.{Wr0, Wr1, Wr2, Wr3, Wr4, Wr5, Wr6}
use Rattle.parts.specs.declared.warning.Warning.{Warning}
use Rattle.parts.specs.declared.warning.Warning.TheVariants.{Operation, Timing, Mode}
use Rattle.parts.specs.declared.refusal.Refusal.{Refusal}
use Rattle.parts.specs.declared.refusal.Refusal.TheVariants.{InvalidDevice, WrongPort, BusHeld, MemoryLength, LatchesLength, TooManyClocks, NoSpeed}

-- the bit of a parameter in what is pending
abbrev pub bit_of : Parameter → ℕ
bit_of ALow = a_low
bit_of AHigh = a_high
bit_of LengthLow = length_low
bit_of LengthHigh = length_high
bit_of ATiming = a_timing
bit_of BTiming = b_timing
bit_of Prescaler = prescaler
bit_of BLow = b_low
bit_of BHigh = b_high
bit_of ReadMask = read_mask

-- the parameter that a byte is, or none
abbrev pub parameter_number : Option Parameter → ℕ
parameter_number None = nothing
parameter_number (Some parameter) = bit_of parameter

-- the number of a register
abbrev pub number_of : Register → ℕ
number_of Wr0 = 0
number_of Wr1 = 1
number_of Wr2 = 2
number_of Wr3 = 3
number_of Wr4 = 4
number_of Wr5 = 5
number_of Wr6 = 6

-- the register that a byte selects; 7 for none
abbrev pub register_number : Option Register → ℕ
register_number None = 7
register_number (Some register) = number_of register

-- the number of a warning, as C has it
abbrev pub code_of : Warning → ℕ
code_of Operation = operation_warning
code_of Timing = timing_warning
code_of Mode = mode_warning

-- the warning of a byte; 0 for none
abbrev pub warning_number : Option Warning → ℕ
warning_number None = no_warning
warning_number (Some warning) = code_of warning

-- the number of a refusal, as C has it
abbrev pub reason_number : Refusal → ℕ
reason_number InvalidDevice = 1
reason_number WrongPort = 2
reason_number BusHeld = 3
reason_number MemoryLength = 4
reason_number LatchesLength = 5
reason_number TooManyClocks = 6
reason_number NoSpeed = 7

-- what a call answers; 0 where it is accepted
abbrev pub refusal_number : Result (Unit {0}) Refusal → ℕ
refusal_number (Ok _) = 0
refusal_number (Err reason) = reason_number reason
