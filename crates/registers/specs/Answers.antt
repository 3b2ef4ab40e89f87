-- The answers of this crate's functions, as the rules name them.
-- Assumes nothing.
use Rattle.rules.specs.Readback.{Byte}
use Rattle.registers.specs.declared.readback.Given.{Given}

-- a byte read, and the core after it
abbrev pub given : Byte → Given
given b = record { byte = b.byte; core = b.core }
