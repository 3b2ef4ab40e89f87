-- A session read a step at a time from the bytes at hand: the version byte, one record, or as much as is at hand of a record
-- that is too long for any kind. A step says how far it came and whether more bytes are needed, and puts at most one line at
-- the front of a borrowed slice.
-- Assumes nothing.
use Rattle.std.specs.Prelude.{ℕ, ◌+◌, ◌-◌, Bool, List, length, ◌==◌, nat_le, nat_lt, slice_index}
use Rattle.rules.specs.Choice.{pick}
use Rattle.rules.specs.Buffers.{Buffers, placed}
use Rattle.rules.specs.World.{System}
use Rattle.rules.specs.Calls.{Answered, Answer}
use Rattle.zxndma.specs.Answers.{device_at_power_on, system_of}
use Rattle.zxndma.specs.declared.Device.{Device}
use Rattle.records.specs.Records.{Record, version, no_version, more_needed, input_ends, cut_short, wrong_record, record_at, long_length}
use Rattle.lines.specs.Lines.{record_line, counts_line, fault_line, room}
use Rattle.session.specs.Effects.{effect}

-- a session on its way: its phase; within a record that is too long for any kind, the bytes of the record still to come, else
-- 0; its device
pub record Session : Type 0 where
  pub phase : ℕ
  pub left : ℕ
  pub device : Device

-- the answer of a step: how it goes on; the fault that ended the session, else 0; the place behind the bytes taken; the length
-- of the line written, 0 for none; the session
pub record Step : Type 0 where
  pub progress : ℕ
  pub fault : ℕ
  pub next : ℕ
  pub length : ℕ
  pub session : Session

-- a step's answer, and the slice for its line as the step leaves it
pub record Said : Type 0 where
  pub step : Step
  pub line : List ℕ

-- the same with both buffers
pub record Outcome : Type 0 where
  pub said : Said
  pub buffers : Buffers (List ℕ)

-- ---- the phases of a session: its version byte comes next; a record does; it is within a record that is too long for any
-- kind; it is over

abbrev pub at_version : ℕ
at_version = 0

abbrev pub at_record : ℕ
at_record = 1

abbrev pub in_long : ℕ
in_long = 2

abbrev pub over : ℕ
over = 3

abbrev pub in_phase : ℕ → ℕ → Device → Session
in_phase phase left d = record { phase = phase; left = left; device = d }

abbrev pub session_at_start : Session
session_at_start = in_phase at_version 0 device_at_power_on

-- ---- how a step goes on: bytes were taken; more bytes are needed; the session is over; the slice for the line is too short

abbrev pub goes_on : ℕ
goes_on = 0

abbrev pub needs_bytes : ℕ
needs_bytes = 1

abbrev pub is_over : ℕ
is_over = 2

abbrev pub no_room : ℕ
no_room = 9

-- no line: the progress, the next place, the session
abbrev pub step_without_line : ℕ → ℕ → Session → Step
step_without_line progress next s = record { progress = progress; fault = 0; next = next; length = 0; session = s }

abbrev pub without_line : ℕ → ℕ → Session → List ℕ → Said
without_line progress next s out = record { step = step_without_line progress next s; line = out }

-- a line: its bytes at the front, the rest of the slice as it was
abbrev pub with_line : ℕ → ℕ → ℕ → List ℕ → Session → List ℕ → Said
with_line progress fault next bytes s out =
    record {
      step = record { progress = progress; fault = fault; next = next; length = length bytes; session = s };
      line = placed 0 bytes out;
    }

-- the last line of a session with a fault, and of one without
abbrev pub last_fault : ℕ → ℕ → Device → List ℕ → Said
last_fault fault next d out = with_line is_over fault next (fault_line fault) (in_phase over 0 d) out

abbrev pub last_counts : ℕ → Device → List ℕ → Said
last_counts next d out = with_line is_over 0 next (counts_line d.clocks) (in_phase over 0 d) out

-- an answer that leaves the buffers alone
abbrev pub buffers_kept : Buffers (List ℕ) → Said → Outcome
buffers_kept b said = record { said = said; buffers = b }

-- ---- the phases

-- the version byte is 1
unfoldable pub version_step : Session → List ℕ → ℕ → Bool → List ℕ → Said
version_step s xs p ended out =
    pick (nat_le (length xs) p) (pick ended (last_fault no_version p s.device out) (without_line needs_bytes p s out))
    (pick (slice_index xs p == version) (without_line goes_on (p + 1) (in_phase at_record 0 s.device) out) (last_fault no_version (p + 1) s.device out))

-- within a record that is too long: its bytes are counted, and nothing else
unfoldable pub long_step : Session → List ℕ → ℕ → Bool → List ℕ → Said
long_step s xs p ended out =
    pick (nat_le s.left (length xs - p)) (last_fault wrong_record (p + s.left) s.device out)
    (pick ended
    (last_fault cut_short (p + (length xs - p)) s.device out)
    (without_line needs_bytes (p + (length xs - p)) (in_phase in_long (s.left - (length xs - p)) s.device) out))

-- the device of a system
abbrev pub device_of : System (List ℕ) → Device
device_of s = record { core = s.world.core; clocks = s.clocks }

-- the line of a record by what it was answered
abbrev pub answer_line : Record → Answered → List ℕ
answer_line r a = record_line r.number a.number a.byte a.warning

-- a record that was carried out
abbrev pub carried : Record → Answer (List ℕ) → List ℕ → Outcome
carried r a out =
    record {
      said =
          with_line goes_on 0 r.next (answer_line r a.answered) (in_phase at_record 0 (device_of a.system)) out;
      buffers = a.system.world.buffers;
    }

-- a device with its buffers
abbrev pub system_with : Device → Buffers (List ℕ) → System (List ℕ)
system_with d b = system_of d b.memory b.latches

-- by what stands at the place
unfoldable pub by_record : Record → Session → List ℕ → List ℕ → Buffers (List ℕ) → Outcome
by_record r s xs out b =
    pick (r.number == more_needed) (buffers_kept b (without_line needs_bytes r.next s out))
    (pick (r.number == input_ends) (buffers_kept b (last_counts r.next s.device out))
    (pick (nat_le no_version r.number) (buffers_kept b (last_fault r.number r.next s.device out))
    (carried r (effect xs r (system_with s.device b)) out)))

-- a record; of one that is too long for any kind, its length
unfoldable pub record_step : Session → List ℕ → ℕ → Bool → List ℕ → Buffers (List ℕ) → Outcome
record_step s xs p ended out b =
    pick (long_length xs p == 0)
    (by_record (record_at xs p ended) s xs out b)
    (buffers_kept b (without_line goes_on (p + 2) (in_phase in_long (long_length xs p) s.device) out))

-- a step: nothing but its progress where the slice for the line is too short. A phase above 2 is a session that is over
unfoldable pub step_of : Session → List ℕ → ℕ → Bool → List ℕ → Buffers (List ℕ) → Outcome
step_of s xs p ended out b =
    pick (nat_lt (length out) room) (buffers_kept b (without_line no_room p s out))
    (pick (s.phase == at_version) (buffers_kept b (version_step s xs p ended out))
    (pick (s.phase == at_record) (record_step s xs p ended out b)
    (pick (s.phase == in_long) (buffers_kept b (long_step s xs p ended out)) (buffers_kept b (without_line is_over p s out)))))

-- a step, with the slices as they are left
abbrev pub said : Step → List ℕ → Said
said step line = record { step = step; line = line }

abbrev pub outcome : Step → List ℕ → List ℕ → List ℕ → Outcome
outcome step line memory latches =
    record { said = said step line; buffers = record { memory = memory; latches = latches } }
