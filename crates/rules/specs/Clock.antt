-- One clock of the core. What a clock does to the core, its kind and whether a byte moves depend on the core alone.
-- Assumes nothing.
use Rattle.std.specs.Prelude.{ℕ, ◌+◌, Bool, true, false, [], ◌∷◌, leb, ltb, eqb}
use Rattle.std.proofs.Math.Option.{Option, none, some}
use Rattle.rules.specs.Choice.{pick, every}
use Rattle.rules.specs.Parts.{with_counter, with_t, with_a, with_b, with_block, with_status, with_slot}
use Rattle.rules.specs.Ports.{advanced}
use Rattle.rules.specs.Blocks.{block_count, finished}
use Rattle.rules.specs.Slots.{no_slot, slot_of}
use Rattle.rules.specs.Commands.{block_ended, disable, load}
use Rattle.rules.specs.declared.Port.{Port}
use Rattle.rules.specs.declared.Clocks.{Clocks}
use Rattle.rules.specs.declared.Core.{Core}
use Rattle.rules.specs.declared.at_once.Kind.{Kind}
use Rattle.rules.specs.declared.at_once.Kind.TheVariants.{Bus, Held, Cpu}

-- a clock on the bus, one of waiting with the bus held, and one for the processor
pattern abbrev pub bus_clock : Kind
bus_clock = Bus

pattern abbrev pub held_clock : Kind
held_clock = Held

pattern abbrev pub cpu_clock : Kind
cpu_clock = Cpu

-- the count of one kind changed, the others as they are
abbrev pub with_count : Kind → (ℕ → ℕ) → Clocks → Clocks
with_count bus_clock f k = record { bus = f k.bus; held = k.held; cpu = k.cpu }
with_count held_clock f k = record { bus = k.bus; held = f k.held; cpu = k.cpu }
with_count cpu_clock f k = record { bus = k.bus; held = k.held; cpu = f k.cpu }

-- n clocks of a kind add n to its count and to no other
abbrev pub counted_by : Kind → ℕ → Clocks → Clocks
counted_by kind n k = with_count kind (λ count. count + n) k

-- a clock adds 1
abbrev pub counted : Kind → Clocks → Clocks
counted kind k = counted_by kind 1 k

-- what one clock is and does: its kind, whether a byte moves on it, what the counter held if it was put to zero, and the
-- core after it
pub record Clock : Type 0 where
  pub kind : Kind
  pub moves : Bool
  pub zeroed : Option ℕ
  pub next : Core

abbrev pub clock : Kind → Bool → Option ℕ → Core → Clock
clock k m z c = record { kind = k; moves = m; zeroed = z; next = c }

-- the core after n bytes, one at least, with the ports behind them: the counter n more, T set
abbrev pub after_bytes : ℕ → Port → Port → Core → Core
after_bytes n a b c =
    with_a a (with_b b (with_block (with_counter (c.block.counter + n) c.block) (with_status (with_t true c.status) c)))

-- the core after a byte has moved: both pointers stepped
abbrev pub moved : Core → Core
moved c = after_bytes 1 (advanced c.a) (advanced c.b) c

-- this many clocks of the slot have elapsed
abbrev pub with_elapsed : ℕ → Core → Core
with_elapsed n c =
    with_slot (record { elapsed = n; bus = c.slot.bus; length = c.slot.length; burst = c.slot.burst }) c

-- the block has ended and the device is disabled
abbrev pub stopped : Core → Core
stopped c = disable (block_ended c)

-- the block has ended and begins again: the pointers reload, the counter becomes 0 and a new slot begins
abbrev pub restarted : Core → Core
restarted c = with_slot no_slot (load (block_ended c))

-- the byte moves on the last clock of the bus time
abbrev pub moves_at : ℕ → Core → Bool
moves_at n c = eqb n c.slot.bus

-- the core with the byte moved where it moves on this clock
unfoldable pub moved_at : ℕ → Core → Core
moved_at n c = pick (moves_at n c) (moved c) c

-- waiting is for the processor in burst, and with the bus held in continuous
abbrev pub wait_kind : Bool → Kind
wait_kind burst = pick burst cpu_clock held_clock

-- a clock within the bus time is a bus clock; a later one is waiting
unfoldable pub kind_at : ℕ → Core → Kind
kind_at n c = pick (leb n c.slot.bus) bus_clock (wait_kind c.slot.burst)

-- how a clock ends: what the counter held if it was put to zero, and the core
pub record Ending : Type 0 where
  pub zeroed : Option ℕ
  pub core : Core

abbrev pub ending : Option ℕ → Core → Ending
ending z c = record { zeroed = z; core = c }

-- the end of a slot: below the block count a new slot begins; else E becomes 0, and the block begins again with auto
-- restart and a block count above 0, or the device is disabled
unfoldable pub slot_end : Core → Ending
slot_end c =
    pick (finished c.block)
    (pick (every (c.control.restart ∷ ltb 0 (block_count c.block) ∷ []))
    (ending (some c.block.counter) (restarted c))
    (ending none (stopped c)))
    (ending none (with_slot no_slot c))

-- the end of the n-th clock of a slot
unfoldable pub clock_end : ℕ → Core → Ending
clock_end n c = pick (ltb n c.slot.length) (ending none (with_elapsed n c)) (slot_end c)

-- the n-th clock of the running slot
unfoldable pub slot_clock : ℕ → Core → Clock
slot_clock n c =
    let end : Ending = clock_end n (moved_at n c) in clock (kind_at n c) (moves_at n c) end.zeroed end.core

-- the core with the figures of the slot that runs, or that begins and fixes them
abbrev pub begun : Core → Core
begun c = with_slot (slot_of c) c

-- one clock: the next one of the slot that runs or begins; of a disabled device one of the processor
unfoldable pub clock_of : Core → Clock
clock_of c = pick c.enabled (slot_clock (c.slot.elapsed + 1) (begun c)) (clock cpu_clock false none c)
