-- What code holds and answers, in the numbers of the definitions.
-- Assumes nothing.
use Rattle.std.specs.Prelude.{ℕ, List, [], length, Option, Some, None}
use Rattle.rules.specs.Buffers.{flat, placed}
use Rattle.rules.specs.World.{System}
use Rattle.rules.specs.Calls.{Answer}
use Rattle.rules.specs.Entries.{Poke, flat_outside, Entry, port_write, port_read, clock_grant, outside_change, enter}
use Rattle.zxndma.specs.declared.Device.{Device}
use Rattle.records.specs.Found.{fault_number}
use Rattle.records.specs.declared.Fault.{Fault}
use Rattle.records.specs.declared.Record.{Record}
use Rattle.records.specs.declared.Record.TheVariants.{Write, Read, Grant, Memory}
use Rattle.lines.specs.Line.{bytes_of}
use Rattle.lines.specs.declared.Line.{Line}
use Rattle.session.specs.Effects.{pokes}
use Rattle.session.specs.Steps.{Session, Step, Said, Outcome, at_version, at_record, in_long, over, goes_on, needs_bytes, is_over, no_room, last_fault, last_counts}
use Rattle.session.specs.declared.step.Phase.{Phase}
use Rattle.session.specs.declared.step.Phase.TheVariants.{Version, Records, Long, Over, Numbered}
use Rattle.session.specs.declared.step.Session.{Session as SessionHeld}
use Rattle.session.specs.declared.step.Progress.{Progress}
use Rattle.session.specs.declared.step.Progress.TheVariants.{GoesOn, Waits, IsOver, NoRoom}
use Rattle.session.specs.declared.step.Step.{Step as StepTaken}
use Rattle.session.specs.declared.step.Advance.{Advance}

-- the entry that a record stands for, and its effect
abbrev pub entry_found : Record → Entry flat (List Poke)
entry_found (Write port byte) = port_write port byte
entry_found (Read port) = port_read port
entry_found (Grant clocks) = clock_grant clocks
entry_found (Memory address bytes) = outside_change (pokes (length bytes.now) bytes.now 0 address)

abbrev pub effect_found : Record → System (List ℕ) → Answer (List ℕ)
effect_found r s = enter flat flat_outside (entry_found r) s

-- a session; outside a record that is too long none of its bytes are still to come, but where the phase has them by its number
abbrev pub phase_number : Phase → ℕ
phase_number Version = at_version
phase_number Records = at_record
phase_number (Long left) = in_long
phase_number Over = over
phase_number (Numbered number left) = number

abbrev pub left_in : Phase → ℕ
left_in Version = 0
left_in Records = 0
left_in (Long left) = left
left_in Over = 0
left_in (Numbered number left) = left

abbrev pub in_numbers : SessionHeld → Session
in_numbers s = record { phase = phase_number s.phase; left = left_in s.phase; device = s.device }

-- a step; its fault is 0 where there is none
abbrev pub progress_number : Progress → ℕ
progress_number GoesOn = goes_on
progress_number Waits = needs_bytes
progress_number (IsOver fault) = is_over
progress_number NoRoom = no_room

abbrev pub number_of : Option Fault → ℕ
number_of (Some fault) = fault_number fault
number_of None = 0

abbrev pub fault_in : Progress → ℕ
fault_in GoesOn = 0
fault_in Waits = 0
fault_in (IsOver fault) = number_of fault
fault_in NoRoom = 0

abbrev pub step_in_numbers : StepTaken → Step
step_in_numbers r =
    record {
      progress = progress_number r.progress;
      fault = fault_in r.progress;
      next = r.next;
      length = r.length;
      session = in_numbers r.session;
    }

-- a step before its line is written, and what becomes of a slice when it is
abbrev pub line_of : Option Line → List ℕ
line_of (Some line) = bytes_of line
line_of None = []

abbrev pub written : Advance → List ℕ → Said
written a out =
    record {
      step =
          record {
            progress = progress_number a.progress;
            fault = fault_in a.progress;
            next = a.next;
            length = length (line_of a.line);
            session = in_numbers a.session;
          };
      line = placed 0 (line_of a.line) out;
    }

-- without a line the slice stays
abbrev pub unwritten : Progress → ℕ → SessionHeld → List ℕ → Said
unwritten progress next s out =
    record {
      step =
          record {
            progress = progress_number progress;
            fault = fault_in progress;
            next = next;
            length = 0;
            session = in_numbers s;
          };
      line = out;
    }

-- the same with both buffers
abbrev pub written_beside : Advance → List ℕ → List ℕ → List ℕ → Outcome
written_beside a memory latches out =
    record { said = written a out; buffers = record { memory = memory; latches = latches } }

-- the last step of a session, by its fault
abbrev pub last_by : Option Fault → ℕ → Device → List ℕ → Said
last_by (Some fault) next d out = last_fault (fault_number fault) next d out
last_by None next d out = last_counts next d out
