-- What every list of calls reaches from power-on, whatever memory and latches it begins with: a valid device, so that no
-- entry is refused with 1, and counters of at most 65,536.
-- Assumes nothing.
use Rattle.std.specs.Prelude.{ℕ, ◌≤◌, ◌<◌, ◌≡◌, true, List, [], ◌∷◌, length}
use Rattle.rules.specs.Bytes.{AreBytes}
use Rattle.rules.specs.Validity.{valid, total}
use Rattle.rules.specs.Buffers.{Store, flat, Buffers}
use Rattle.rules.specs.Keeping.{ValidDevice}
use Rattle.rules.specs.Calls.{Answered}
use Rattle.rules.specs.Entries.{Outside, Poke, flat_outside, Entry, port_write, port_read, speed_call, clock_grant, other_grant, outside_change, bytes_written, Run, run, system_at_power_on}
use Rattle.rules.specs.History.{Event, clock_noted, counter_zeroed, History, history, past_at_power_on}
use Rattle.rules.specs.Accounts.{held_before}

-- what the counter held, each time that it was put to zero, is at most 65,536
unfoldable pub CountersNoted : List Event → Type 0
CountersNoted [] = Unit {0}
CountersNoted (clock_noted n ∷ es) = (held_before n.zeroed ≤ 65536) × CountersNoted es
CountersNoted (counter_zeroed held ∷ es) = (held ≤ 65536) × CountersNoted es

-- of a list's run r and its history h
pub record Reached {M : Type 0} (r : Run M) (h : History M) : Type 0 where
  -- the device is valid, by the facts and by the test that refusal 1 uses
  pub facts : ValidDevice r.system.world.core r.system.clocks
  pub test : valid r.system.world.core (total r.system.clocks) ≡ true
  -- what the counter holds, and every counter noted
  pub counter : r.system.world.core.block.counter ≤ 65536
  pub noted : CountersNoted h.past.events

abbrev pub EveryReached : Type 1
EveryReached =
    (M C : Type 0) (σ : Store M) (ω : Outside M C) (m : M) (l : List ℕ) (es : List (Entry σ C))
    → AreBytes (bytes_written es)
    → Reached (run σ ω es (system_at_power_on m l)) (history σ ω es (past_at_power_on m l))

-- ---- the numbers of the answers, with the flat memory

-- no answer has this number
unfoldable pub NoneIs : ℕ → List Answered → Type 0
NoneIs n [] = Unit {0}
NoneIs n (a ∷ as') = (a.number ≡ n → ⊥) × NoneIs n as'

-- a grant that lends other buffers, of which this holds
abbrev pub Lends : (Buffers (List ℕ) → Type 0) → Entry flat (List Poke) → Type 0
Lends P (port_write port byte) = ⊥
Lends P (port_read port) = ⊥
Lends P (speed_call code) = ⊥
Lends P (clock_grant n) = ⊥
Lends P (other_grant n b wrong) = P b
Lends P (outside_change x) = ⊥

-- a memory, and latches, of a wrong length
abbrev pub WrongMemory : Buffers (List ℕ) → Type 0
WrongMemory b = length b.memory ≡ 65536 → ⊥

abbrev pub WrongLatches : Buffers (List ℕ) → Type 0
WrongLatches b = length b.latches ≡ 65536 → ⊥

-- 4 is answered only to a grant that lends another memory, of a wrong length, and 5 only to one that lends such latches
unfoldable pub OwnServe : List (Entry flat (List Poke)) → List Answered → Type 0
OwnServe [] as' = Unit {0}
OwnServe (e ∷ es) [] = Unit {0}
OwnServe (e ∷ es) (a ∷ as') = (a.number ≡ 4 → Lends WrongMemory e) × (a.number ≡ 5 → Lends WrongLatches e) × OwnServe es as'

-- a speed call of a code above 3
abbrev pub AsksAbove : Entry flat (List Poke) → Type 0
AsksAbove (port_write port byte) = ⊥
AsksAbove (port_read port) = ⊥
AsksAbove (speed_call code) = 3 < code
AsksAbove (clock_grant n) = ⊥
AsksAbove (other_grant n b wrong) = ⊥
AsksAbove (outside_change x) = ⊥

-- 7 is answered only to such a call
unfoldable pub OnlyAbove : List (Entry flat (List Poke)) → List Answered → Type 0
OnlyAbove [] as' = Unit {0}
OnlyAbove (e ∷ es) [] = Unit {0}
OnlyAbove (e ∷ es) (a ∷ as') = (a.number ≡ 7 → AsksAbove e) × OnlyAbove es as'

-- no entry of a list is answered with 1, and 7 is answered to a code above 3 only; from buffers of 65,536 bytes, 4 and 5 are answered to other buffers only
abbrev pub AnswersReached : Type 0
AnswersReached =
    (m l : List ℕ) (es : List (Entry flat (List Poke)))
    → AreBytes (bytes_written es)
    → NoneIs 1 (run flat flat_outside es (system_at_power_on m l)).answers
    × OnlyAbove es (run flat flat_outside es (system_at_power_on m l)).answers
    × (length m ≡ 65536 → length l ≡ 65536 → OwnServe es (run flat flat_outside es (system_at_power_on m l)).answers)
