-- Round trip: a session written from records in range has exactly the entries of these records, and no fault; and every
-- session without a fault was written so.
-- Assumes nothing.
use Rattle.std.specs.Prelude.{ℕ, ◌+◌, ◌%◌, ◌≡◌, List, [], ◌∷◌, ◌++◌}
use Rattle.rules.specs.Bytes.{AreBytes}
use Rattle.rules.specs.Buffers.{flat}
use Rattle.rules.specs.Entries.{Poke, Entry, port_write, port_read, clock_grant, outside_change}
use Rattle.records.specs.Records.{version}
use Rattle.records.specs.Encoding.{SessionRecord, to_write, to_read, to_grant, to_memory, InRange, record_bytes}
use Rattle.runs.specs.Sessions.{session_entries, session}

-- every record of the list is in range
unfoldable pub AllInRange : List SessionRecord → Type 0
AllInRange [] = Unit {0}
AllInRange (r ∷ rs) = InRange r × AllInRange rs

-- records, one behind the other
unfoldable pub records_bytes : List SessionRecord → List ℕ
records_bytes [] = []
records_bytes (r ∷ rs) = record_bytes r ++ records_bytes rs

-- a session: the version and the records
unfoldable pub session_bytes : List SessionRecord → List ℕ
session_bytes rs = version ∷ records_bytes rs

-- bytes put into memory from an address on; addresses wrap at 65,536
unfoldable pub bytes_from : ℕ → List ℕ → List Poke
bytes_from address [] = []
bytes_from address (byte ∷ bytes) = record { address = address; byte = byte } ∷ bytes_from ((address + 1) % 65536) bytes

-- the entry that a record stands for; a grant borrows the session's own buffers
unfoldable pub entry_for : SessionRecord → Entry flat (List Poke)
entry_for (to_write port byte) = port_write port byte
entry_for (to_read port) = port_read port
entry_for (to_grant clocks) = clock_grant clocks
entry_for (to_memory address bytes) = outside_change (bytes_from address bytes)

unfoldable pub entries_for : List SessionRecord → List (Entry flat (List Poke))
entries_for [] = []
entries_for (r ∷ rs) = entry_for r ∷ entries_for rs

-- of a session written from these records: its bytes are bytes, it has no fault, and its entries are those of the records,
-- in order
pub record ReadsBack (rs : List SessionRecord) : Type 0 where
  pub bytes : AreBytes (session_bytes rs)
  pub fault : (session (session_bytes rs)).fault ≡ 0
  pub entries : session_entries (session_bytes rs) ≡ entries_for rs

-- of every list of records in range
abbrev pub EncodedReadsBack : Type 0
EncodedReadsBack = (rs : List SessionRecord) → AllInRange rs → ReadsBack rs

-- these bytes are a session written from records in range
pub record Encoded (xs : List ℕ) : Type 0 where
  pub records : List SessionRecord
  pub range : AllInRange records
  pub bytes : session_bytes records ≡ xs

-- of every list of bytes without a fault
abbrev pub FaultlessIsEncoded : Type 0
FaultlessIsEncoded = (xs : List ℕ) → AreBytes xs → (session xs).fault ≡ 0 → Encoded xs
