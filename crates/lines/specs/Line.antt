-- A line in code, and its bytes. To the line of a record belong the number of its kind and what it was answered; a number that
-- the line of its kind does not show is 0.
-- Assumes nothing.
use Rattle.std.specs.Prelude.{ℕ, List}
use Rattle.records.specs.Records.{write_kind, read_kind, grant_kind, memory_kind}
use Rattle.records.specs.Found.{fault_number}
use Rattle.lines.specs.Lines.{record_line, counts_line, fault_line}
use Rattle.lines.specs.declared.Line.{Line}
use Rattle.lines.specs.declared.Line.TheVariants.{Write, Read, Grant, Memory, Counts, Fault}

abbrev pub bytes_of : Line → List ℕ
bytes_of (Write number warning) = record_line write_kind number 0 warning
bytes_of (Read number byte) = record_line read_kind number byte 0
bytes_of (Grant number) = record_line grant_kind number 0 0
bytes_of (Memory number) = record_line memory_kind number 0 0
bytes_of (Counts clocks) = counts_line clocks
bytes_of (Fault fault) = fault_line (fault_number fault)
