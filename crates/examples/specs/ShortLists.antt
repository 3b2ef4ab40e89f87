-- Some short lists of calls and their histories, worked out.
-- Assumes nothing.
use Rattle.std.specs.Prelude.{ℕ, ◌≡◌, List, [], ◌∷◌, ◌++◌, length, replicate}
use Rattle.std.proofs.Math.Option.{none, some}
use Rattle.rules.specs.Clock.{bus_clock, cpu_clock}
use Rattle.rules.specs.Buffers.{flat}
use Rattle.rules.specs.Entries.{Poke, flat_outside, Entry, port_write, speed_call, clock_grant, other_grant, outside_change}
use Rattle.rules.specs.History.{Event, counter_zeroed, still_clock, moving_clock, Past, History, history, past_at_power_on}

-- bytes written to port 006B before other entries
unfoldable pub sent : List ℕ → List (Entry flat (List Poke)) → List (Entry flat (List Poke))
sent [] es = es
sent (byte ∷ bytes) es = port_write 0x6B byte ∷ sent bytes es

-- a grant of the list's own buffers, a speed call, and a byte put into memory from outside
abbrev pub granting : ℕ → Entry flat (List Poke)
granting n = clock_grant n

abbrev pub setting_speed : ℕ → Entry flat (List Poke)
setting_speed code = speed_call code

abbrev pub poking : ℕ → ℕ → Entry flat (List Poke)
poking address byte = outside_change (record { address = address; byte = byte } ∷ [])

-- the three clocks before the byte of a slot moves
abbrev pub three_before : List Event → List Event
three_before es = still_clock bus_clock ∷ still_clock bus_clock ∷ still_clock bus_clock ∷ es

-- blocks of so many bytes from 1000 to 2000, cycles of 2 clocks, continuous, with this WR5 byte
abbrev pub blocks : ℕ → ℕ → List ℕ
blocks n wr5 =
    0x83 ∷ 0x7D ∷ 0x00 ∷ 0x10 ∷ n ∷ 0x00 ∷ 0x54 ∷ 0x02 ∷ 0x50 ∷ 0x02 ∷ 0xAD ∷ 0x00 ∷ 0x20 ∷ wr5 ∷ 0xCF ∷ 0x87 ∷ []

-- power-on with zeros
abbrev pub zeros : Past (List ℕ)
zeros = past_at_power_on (replicate 65536 0) (replicate 65536 0)

-- what the history of a list comes to: the numbers of its entries, the sum of the clocks accepted, and the events, the
-- latest first
pub record Noted : Type 0 where
  pub numbers : List ℕ
  pub sum : ℕ
  pub events : List Event

-- a list worked out: bytes sent to port 006B, all accepted, then further entries, and what these come to
pub record Worked : Type 0 where
  pub program : List ℕ
  pub entries : List (Entry flat (List Poke))
  pub noted : Noted

-- what the histories from a past come to, and what they must
unfoldable pub found : Past (List ℕ) → List Worked → List Noted
found p [] = []
found p (w ∷ ws) =
    let h : History (List ℕ) = history flat flat_outside (sent w.program w.entries) p in
    record { numbers = h.numbers; sum = h.past.sum; events = h.past.events } ∷ found p ws

unfoldable pub must : List Worked → List Noted
must [] = []
must (w ∷ ws) =
    record {
      numbers = replicate (length w.program) 0 ++ w.noted.numbers;
      sum = w.noted.sum;
      events = w.noted.events;
    }
    ∷ must ws

abbrev pub worked : List ℕ → List (Entry flat (List Poke)) → List ℕ → ℕ → List Event → Worked
worked program entries numbers sum events =
    record { program = program; entries = entries; noted = record { numbers = numbers; sum = sum; events = events } }

-- empty latches are of a wrong length
module _ (wrong : length {A = ℕ} [] ≡ 65536 → ⊥) where
  -- a grant that lends this memory and empty latches
  abbrev pub lending : List ℕ → Entry flat (List Poke)
  lending m = other_grant 5 (record { memory = m; latches = [] }) (λ e. wrong)

  abbrev pub short_lists : List Worked
  short_lists =
      -- Load and Continue are noted at a counter of 0 too
      worked (0xCF ∷ 0xD3 ∷ []) [] [] 0 (counter_zeroed 0 ∷ counter_zeroed 0 ∷ [])
      -- one byte of two has moved
      ∷ worked (blocks 2 0x82) (granting 5 ∷ []) (0 ∷ []) 5
      (still_clock bus_clock ∷ moving_clock 0x1000 0x2000 0 none ∷ three_before (counter_zeroed 0 ∷ []))
      -- the same with the grant cut within the slot
      ∷ worked (blocks 2 0x82) (granting 3 ∷ granting 2 ∷ []) (0 ∷ 0 ∷ []) 5
      (still_clock bus_clock ∷ moving_clock 0x1000 0x2000 0 none ∷ three_before (counter_zeroed 0 ∷ []))
      -- where a block of one byte ends no counter is noted, and the device is disabled
      ∷ worked (blocks 1 0x82) (granting 5 ∷ []) (0 ∷ []) 5
      (still_clock cpu_clock ∷ moving_clock 0x1000 0x2000 0 none ∷ three_before (counter_zeroed 0 ∷ []))
      -- with auto restart the reload is noted on that clock, with what the counter held, its byte included
      ∷ worked (blocks 1 0xA2) (granting 5 ∷ []) (0 ∷ []) 5
      (still_clock bus_clock ∷ moving_clock 0x1000 0x2000 0 (some 1) ∷ three_before (counter_zeroed 0 ∷ []))
      -- an outside change is not noted; the byte that moves is the one that stands there on its clock
      ∷ worked (blocks 1 0x82) (granting 3 ∷ poking 0x1000 0xA5 ∷ granting 1 ∷ poking 0x1000 0xB6 ∷ []) (0 ∷ 0 ∷ 0 ∷ 0 ∷ []) 4
      (moving_clock 0x1000 0x2000 0xA5 none ∷ three_before (counter_zeroed 0 ∷ []))
      -- a speed call is not noted, accepted or refused: at 14 MHz the byte moves on the eighth clock, whatever is set by then
      ∷ worked (blocks 1 0x82)
      (setting_speed 2 ∷ granting 7 ∷ setting_speed 0 ∷ setting_speed 4 ∷ granting 1 ∷ [])
      (0 ∷ 0 ∷ 0 ∷ 7 ∷ 0 ∷ []) 8
      (moving_clock 0x1000 0x2000 0 none ∷ three_before (three_before (still_clock bus_clock ∷ counter_zeroed 0 ∷ [])))
      -- a grant that lends another memory or other latches is refused, and neither noted nor added
      ∷ worked [] (lending [] ∷ lending (replicate 65536 0) ∷ []) (4 ∷ 5 ∷ []) 0 []
      -- refusal 6 is judged by the sum: after 1 clock there is room for 2^64 - 2 more
      ∷ worked [] (granting 1 ∷ granting 18446744073709551615 ∷ granting 1 ∷ []) (0 ∷ 6 ∷ 0 ∷ []) 2
      (still_clock cpu_clock ∷ still_clock cpu_clock ∷ [])
      ∷ []

  -- from power-on and zeros
  abbrev pub ListsShown : Type 0
  ListsShown = found zeros short_lists ≡ must short_lists
