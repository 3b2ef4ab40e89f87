-- A whole session: its bytes in; its lines, its fault, and device and buffers at the end out. Its records are decoded, run
-- from power-on with memory and latches of 65,536 zeros, and printed.
-- Assumes nothing.
use Rattle.std.specs.Prelude.{ℕ, zero, suc, ◌+◌, ◌≡◌, true, ◌⊎◌, List, [], ◌∷◌, ◌++◌, eqb, leb, length, get_or, replicate}
use Rattle.rules.specs.Choice.{pick}
use Rattle.rules.specs.Bytes.{AreBytes}
use Rattle.rules.specs.Buffers.{flat}
use Rattle.rules.specs.World.{System}
use Rattle.rules.specs.Calls.{Answered}
use Rattle.rules.specs.Entries.{Poke, flat_outside, Entry, Run, run, system_at_power_on}
use Rattle.rules.specs.History.{History, history, past_at_power_on}
use Rattle.rules.specs.Splitting.{SplitsAt}
use Rattle.rules.specs.Accounts.{Accounted}
use Rattle.rules.specs.Reached.{Reached}
use Rattle.rules.specs.Warned.{warnings_of, warnings_along}
use Rattle.records.specs.Records.{Record, version, no_version, input_ends, record_at}
use Rattle.lines.specs.Lines.{counts_line, fault_line}
use Rattle.session.specs.Effects.{entry_of}
use Rattle.session.specs.Steps.{answer_line}

-- ---- decode: the records of a session's bytes

-- the records, up to the end or the fault, and the fault, 0 for none
pub record Decoded : Type 0 where
  pub records : List Record
  pub fault : ℕ

abbrev pub ends_by : ℕ → Decoded
ends_by fault = record { records = []; fault = fault }

abbrev pub record_before : Record → Decoded → Decoded
record_before r d = record { records = r ∷ d.records; fault = d.fault }

-- the records from place p on, of which there are at most so many; each takes bytes, so that where as many are allowed as
-- there are bytes, none is left
unfoldable pub decoded_from : ℕ → List ℕ → ℕ → Decoded
decoded_from zero xs p = ends_by 0
decoded_from (suc most) xs p =
    let r : Record = record_at xs p true in
    pick (eqb r.number input_ends) (ends_by 0)
    (pick (leb no_version r.number) (ends_by r.number) (record_before r (decoded_from most xs r.next)))

-- the version byte, 1, and the records behind it
unfoldable pub decoded : List ℕ → Decoded
decoded xs = pick (eqb (get_or xs 0 0) version) (decoded_from (length xs) xs 1) (ends_by no_version)

-- ---- run: the records are a list of calls

-- the entries of records
unfoldable pub entries_of : List ℕ → List Record → List (Entry flat (List Poke))
entries_of xs [] = []
entries_of xs (r ∷ rs) = entry_of xs r ∷ entries_of xs rs

-- the entries of a session
abbrev pub session_entries : List ℕ → List (Entry flat (List Poke))
session_entries xs = entries_of xs (decoded xs).records

abbrev pub start : System (List ℕ)
start = system_at_power_on (replicate 65536 0) (replicate 65536 0)

-- the run of a session's calls, from power-on
abbrev pub run_of : List ℕ → Run (List ℕ)
run_of xs = run flat flat_outside (session_entries xs) start

-- and their history
abbrev pub history_of : List ℕ → History (List ℕ)
history_of xs = history flat flat_outside (session_entries xs) (past_at_power_on (replicate 65536 0) (replicate 65536 0))

-- ---- print: the answers are lines

-- the lines of records, by their kinds and their answers
unfoldable pub lines_of : List Record → List Answered → List ℕ
lines_of [] answers = []
lines_of (r ∷ rs) [] = []
lines_of (r ∷ rs) (a ∷ answers) = answer_line r a ++ lines_of rs answers

-- the last line
unfoldable pub last_line : ℕ → System (List ℕ) → List ℕ
last_line fault s = pick (eqb fault 0) (counts_line s.clocks) (fault_line fault)

-- ---- the session

-- what a session comes to: the bytes of its lines, its fault or 0, and device and buffers at the end
pub record Ended : Type 0 where
  pub lines : List ℕ
  pub fault : ℕ
  pub system : System (List ℕ)

-- a run of records decoded, printed: the lines of its answers, in order, and the last one; the fault; device and buffers
-- where the run leaves them
abbrev pub printed : Decoded → Run (List ℕ) → Ended
printed d r =
    record {
      lines = lines_of d.records r.answers ++ last_line d.fault r.system;
      fault = d.fault;
      system = r.system;
    }

-- a session: decoded, run, printed
abbrev pub session : List ℕ → Ended
session xs = printed (decoded xs) (run_of xs)

-- the numbers that a session's fault can have: none, no version, a record cut short, a wrong record
abbrev pub FaultNumber : ℕ → Type 0
FaultNumber n = (n ≡ 0) ⊎ (n ≡ 20) ⊎ (n ≡ 21) ⊎ (n ≡ 22)

-- a session has no other fault
abbrev pub FaultKnown : List ℕ → Type 0
FaultKnown xs = FaultNumber (session xs).fault

-- a session leaves no record behind: to allow for more records changes nothing
abbrev pub AllRead : List ℕ → Type 0
AllRead xs = (more : ℕ) → decoded_from (more + length xs) xs 1 ≡ decoded_from (length xs) xs 1

-- a session is the run of its calls by definition: device and buffers at the end are the run's, the lines are those of the
-- run's answers, in order, and the last one. So demand 3 holds of its list, and where its bytes are bytes, its device is valid
-- and its grants split. Its warnings are those by its history
pub record SessionRuns (xs : List ℕ) : Type 0 where
  pub accounted : Accounted (session_entries xs) (run_of xs) (history_of xs)
  pub reached : AreBytes xs → Reached (run_of xs) (history_of xs)
  pub splits : AreBytes xs → SplitsAt flat (run_of xs).system
  pub warnings : warnings_of (run_of xs).answers ≡ warnings_along flat flat_outside (session_entries xs) (past_at_power_on (replicate 65536 0) (replicate 65536 0))
