-- A record as it is written: what it asks for, and its bytes. Numbers are high byte first.
-- Assumes nothing.
use Rattle.std.specs.Prelude.{ℕ, ◌≤◌, ◌<◌, List, [], ◌∷◌, ◌++◌, length}
use Rattle.rules.specs.Bytes.{AreBytes}
use Rattle.records.specs.BigEndian.{two_bytes, four_bytes}
use Rattle.records.specs.Records.{write_kind, read_kind, grant_kind, memory_kind}

-- a record by what it asks for: a port write (port, byte), a port read (port), a grant (clocks), bytes for the memory
-- (address, bytes)
pub data SessionRecord : Type 0 where
  to_write : ℕ → ℕ → SessionRecord
  to_read : ℕ → SessionRecord
  to_grant : ℕ → SessionRecord
  to_memory : ℕ → List ℕ → SessionRecord

-- its numbers have room in their bytes; a memory record has 1 to 255 bytes for the memory
unfoldable pub InRange : SessionRecord → Type 0
InRange (to_write port byte) = (port < 65536) × (byte < 256)
InRange (to_read port) = port < 65536
InRange (to_grant clocks) = clocks < 4294967296
InRange (to_memory address bytes) = (address < 65536) × (1 ≤ length bytes) × (length bytes ≤ 255) × AreBytes bytes

-- a record behind its length: its kind and its arguments
unfoldable pub kind_and_arguments : SessionRecord → List ℕ
kind_and_arguments (to_write port byte) = write_kind ∷ (two_bytes port ++ (byte ∷ []))
kind_and_arguments (to_read port) = read_kind ∷ two_bytes port
kind_and_arguments (to_grant clocks) = grant_kind ∷ four_bytes clocks
kind_and_arguments (to_memory address bytes) = memory_kind ∷ (two_bytes address ++ bytes)

-- a record: its length in two bytes, its kind and its arguments
unfoldable pub record_bytes : SessionRecord → List ℕ
record_bytes r = two_bytes (length (kind_and_arguments r)) ++ kind_and_arguments r
