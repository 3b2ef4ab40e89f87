-- What a record does to device, memory and latches: it is an entry of a list of calls, and its effect is that entry's.
-- Assumes nothing.
use Rattle.std.specs.Prelude.{ℕ, zero, suc, ◌+◌, ◌-◌, ◌%◌, List, [], ◌∷◌, ◌==◌, slice_index}
use Rattle.rules.specs.Choice.{pick}
use Rattle.rules.specs.Buffers.{flat}
use Rattle.rules.specs.World.{System}
use Rattle.rules.specs.Calls.{Answer}
use Rattle.rules.specs.Entries.{Poke, flat_outside, Entry, port_write, port_read, clock_grant, outside_change, enter}
use Rattle.records.specs.Records.{Record, write_kind, read_kind, grant_kind, memory_kind}

-- so many bytes from place p on, put into memory from an address on; addresses wrap at 65,536
unfoldable pub pokes : ℕ → List ℕ → ℕ → ℕ → List Poke
pokes zero xs p address = []
pokes (suc count) xs p address =
    record { address = address; byte = slice_index xs p } ∷ pokes count xs (p + 1) ((address + 1) % 65536)

-- the entry that a record of a session stands for; a grant borrows the session's own buffers. What is no record changes
-- nothing
unfoldable pub entry_of : List ℕ → Record → Entry flat (List Poke)
entry_of xs r =
    pick (r.number == write_kind) (port_write r.word r.byte)
    (pick (r.number == read_kind) (port_read r.word)
    (pick (r.number == grant_kind) (clock_grant r.clocks)
    (pick (r.number == memory_kind) (outside_change (pokes (r.next - r.start) xs r.start r.word)) (outside_change []))))

-- a record's effect
abbrev pub effect : List ℕ → Record → System (List ℕ) → Answer (List ℕ)
effect xs r s = enter flat flat_outside (entry_of xs r) s
