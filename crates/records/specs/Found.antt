-- What code answers about a place, in the numbers of the definitions.
-- Assumes nothing.
use Rattle.std.specs.Prelude.{◌≡◌, ℕ, ◌+◌, ◌-◌, ◌≤◌, List, length, slice_range, slice_index, Result, Ok, Err}
use Rattle.records.specs.BigEndian.{word}
use Rattle.records.specs.Records.{Record, of_kind, none, write_kind, read_kind, grant_kind, memory_kind, more_needed, input_ends, no_version, cut_short, wrong_record}
use Rattle.records.specs.declared.Record.{Record as RecordFound}
use Rattle.records.specs.declared.Record.TheVariants.{Write, Read, Grant, Memory}
use Rattle.records.specs.declared.Found.{Found}
use Rattle.records.specs.declared.Found.TheVariants.{More, End, Whole}
use Rattle.records.specs.declared.Fault.{Fault}
use Rattle.records.specs.declared.Fault.TheVariants.{NoVersion, Cut, Wrong}

-- the number of a fault
abbrev pub fault_number : Fault → ℕ
fault_number NoVersion = no_version
fault_number Cut = cut_short
fault_number Wrong = wrong_record

-- a record of which this is the next place; a memory record's bytes are the last ones before it
abbrev pub record_before : ℕ → RecordFound → Record
record_before next (Write port byte) = record { number = write_kind; word = port; byte = byte; clocks = 0; start = 0; next = next }
record_before next (Read port) = record { number = read_kind; word = port; byte = 0; clocks = 0; start = 0; next = next }
record_before next (Grant clocks) = record { number = grant_kind; word = 0; byte = 0; clocks = clocks; start = 0; next = next }
record_before next (Memory address bytes) = record { number = memory_kind; word = address; byte = 0; clocks = 0; start = next - length bytes.now; next = next }

-- what was found at a place
abbrev pub standing : ℕ → Result Found Fault → Record
standing place (Ok More) = none more_needed place
standing place (Ok End) = none input_ends place
standing place (Ok (Whole found next)) = record_before next found
standing place (Err fault) = none (fault_number fault) place

-- what a record's bytes, from place p + 2 on, were read as
abbrev pub read_as : ℕ → ℕ → Result RecordFound Fault → Record
read_as p n (Ok found) = record_before (p + 2 + n) found
read_as p n (Err fault) = none (fault_number fault) p

-- these are the bytes of the record at place p, as many as its length says
pub record StandBehindLength (xs : List ℕ) (p : ℕ) (bytes : List ℕ) : Type 0 where
  pub there : p + 2 + word xs p ≤ length xs
  pub count : length bytes ≡ word xs p
  pub same : bytes ≡ slice_range xs (p + 2) (p + 2 + length bytes)

-- wherever these bytes stand behind a length, they are the record that was read
unfoldable pub Reads : List ℕ → Result RecordFound Fault → Type 0
Reads bytes r =
    (xs : List ℕ) (p : ℕ) → bytes ≡ slice_range xs (p + 2) (p + 2 + length bytes)
    → read_as p (length bytes) r ≡ of_kind xs p (length bytes) (slice_index xs (p + 2))

-- a memory record lends the last bytes before its next place
abbrev pub LentBefore : List ℕ → ℕ → RecordFound → Type 0
LentBefore xs next (Write port byte) = Unit {0}
LentBefore xs next (Read port) = Unit {0}
LentBefore xs next (Grant clocks) = Unit {0}
LentBefore xs next (Memory address bytes) = bytes.now ≡ slice_range xs (next - length bytes.now) next

-- the same of a record at the end of its bytes, and of what was found at a place
abbrev pub EndsIn : List ℕ → Result RecordFound Fault → Type 0
EndsIn xs (Ok found) = LentBefore xs (length xs) found
EndsIn xs (Err fault) = Unit {0}

abbrev pub Lends : List ℕ → Result Found Fault → Type 0
Lends xs (Ok More) = Unit {0}
Lends xs (Ok End) = Unit {0}
Lends xs (Ok (Whole found next)) = LentBefore xs next found
Lends xs (Err fault) = Unit {0}
