-- The answers of this crate's functions, as the rules name them.
-- Assumes nothing.
use Rattle.std.specs.Prelude.{ℕ, ◌+◌, ◌*◌, ◌-◌, ◌<◌, ◌≡◌, Bool, true, false, Option, Some, None, List, leb, ltb}
use Rattle.rules.specs.Choice.{pick}
use Rattle.rules.specs.Ports.{advanced_by}
use Rattle.rules.specs.Validity.{most64}
use Rattle.rules.specs.Clock.{bus_clock, with_count, Clock, wait_kind}
use Rattle.rules.specs.declared.at_once.Kind.{Kind}
use Rattle.rules.specs.Buffers.{Buffers, flat}
use Rattle.rules.specs.Slots.{slot_of}
use Rattle.rules.specs.Stretches.{quiet, elapsed_by}
use Rattle.rules.specs.WholeSlots.{transferred}
use Rattle.rules.specs.declared.Port.{Port}
use Rattle.rules.specs.declared.Slot.{Slot}
use Rattle.rules.specs.declared.Clocks.{Clocks}
use Rattle.rules.specs.declared.Core.{Core}
use Rattle.clocking.specs.declared.clock.Tick.{Tick}

-- a clock without what the counter held
abbrev pub tick : Clock → Tick
tick x = record { kind = x.kind; moves = x.moves; next = x.next }

-- the two buffers that a caller lends
abbrev pub borrowed : List ℕ → List ℕ → Buffers (List ℕ)
borrowed m l = record { memory = m; latches = l }

-- the clocks that a span may take of a budget: none where the counter or the slot could not take one more in its type
unfoldable pub room_for : Core → ℕ → ℕ
room_for c budget = pick (ltb c.block.counter 4294967295) (pick (ltb c.slot.elapsed 65535) budget 0) 0

-- a core that runs its slot or begins one, with room for a clock, and clocks for it
pub record MayRun (c : Core) (budget : ℕ) : Type 0 where
  pub on : c.enabled ≡ true
  pub counter : c.block.counter < 4294967295
  pub elapsed : c.slot.elapsed < 65535
  pub some : 0 < budget

-- a slot, and whether clocks of it are a wait
pub record Wait : Type 0 where
  pub quiet : Bool
  pub slot : Slot

-- n clocks of the slot that runs or begins, if they end before its present stretch does
unfoldable pub wait_answer : ℕ → Core → Wait
wait_answer n c =
    pick (quiet n (slot_of c))
    (record { quiet = true; slot = elapsed_by n (slot_of c) })
    (record { quiet = false; slot = slot_of c })

-- the slot after a wait, if there is one; else the slot stays as it is
abbrev pub wait_of : Slot → Option Slot → Wait
wait_of s (Some t) = record { quiet = true; slot = t }
wait_of s None = record { quiet = false; slot = s }

-- a count with n more; where they would not fit 64 bits it stays
unfoldable pub added : ℕ → ℕ → ℕ
added count n = pick (leb count (most64 - n)) (count + n) count

-- n clocks of a kind counted, as far as its count has room
unfoldable pub counted_within : Kind → ℕ → Clocks → Clocks
counted_within kind n k = with_count kind (λ count. added count n) k

-- the clocks of k slots counted, as far as the counts have room
abbrev pub slots_counted_within : ℕ → Slot → Clocks → Clocks
slots_counted_within k s x =
    counted_within (wait_kind s.burst) (k * (s.length - s.bus)) (counted_within bus_clock (k * s.bus) x)

-- k bytes have moved: the buffers and the ports after them
pub record BytesMoved (c : Core) (k : ℕ) (before after : Buffers (List ℕ)) (port_a port_b : Port) : Type 0 where
  pub a : port_a ≡ advanced_by k c.a
  pub b : port_b ≡ advanced_by k c.b
  pub buffers : after ≡ transferred flat k c before
