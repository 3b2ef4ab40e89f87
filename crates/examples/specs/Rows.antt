-- A row of the worked examples (document 01: bench sheet): a run from power-on through the calls' own definitions, with
-- what must be seen on the way.
-- Assumes nothing.
use Rattle.std.specs.Prelude.{ℕ, suc, Bool, true, false, List, [], ◌∷◌, ◌++◌, eqb, drop, replicate}
use Prim.Native.String.{String}
use Rattle.std.specs.Bool.{beq}
use Rattle.std.proofs.Math.Option.{Option, none, some}
use Rattle.rules.specs.Choice.{pick, every}
use Rattle.rules.specs.PowerOn.{power_on, no_clocks}
use Rattle.rules.specs.Validity.{valid, total}
use Rattle.rules.specs.Readback.{status_byte}
use Rattle.rules.specs.Parts.{with_counter, with_t, with_block, with_status}
use Rattle.rules.specs.Blocks.{block_count}
use Rattle.rules.specs.Clock.{stopped}
use Rattle.rules.specs.Buffers.{placed, flat}
use Rattle.rules.specs.World.{System, Move, note}
use Rattle.rules.specs.Floored.{floor_at}
use Rattle.rules.specs.Calls.{Answer, write, read, set_speed, grant}
use Rattle.rules.specs.declared.Core.{Core}

-- one thing done, with what it must answer, or one thing looked at
pub data Action : Type 0 where
  -- these bytes are put into memory, or into the latches, from this address on
  fill latch : ℕ → List ℕ → Action
  -- these bytes are written to this port, and each write is accepted without a warning
  send : ℕ → List ℕ → Action
  -- a write to this port of this byte is answered with this number and this warning
  send_answered : ℕ → ℕ → ℕ → ℕ → Action
  -- reads of this port are accepted and give these bytes
  expect : ℕ → List ℕ → Action
  -- a read of this port is refused with this number and gives the byte 0
  expect_refused : ℕ → ℕ → Action
  -- a speed call of this code is accepted
  speed : ℕ → Action
  -- a speed call of this code is refused with this number
  speed_refused : ℕ → ℕ → Action
  -- a grant of this many clocks is accepted
  clocks : ℕ → Action
  -- a grant that borrows a memory and latches of these lengths, and asks for this many clocks, is answered with this
  -- number
  borrow : ℕ → ℕ → ℕ → ℕ → Action
  -- the clock counts are these: bus, held, processor
  counts : ℕ → ℕ → ℕ → Action
  -- the bytes of memory, or the latches, from this address on begin with these
  memory latches : ℕ → List ℕ → Action
  -- the pointers of A and B
  pointers : ℕ → ℕ → Action
  -- the counter
  counter : ℕ → Action
  -- the status byte
  status : ℕ → Action
  -- whether the device is enabled
  enabled : Bool → Action
  -- the block count
  count : ℕ → Action
  -- it is supposed that this many bytes of the block have moved and the device is disabled: for a block too long to run
  suppose : ℕ → Action
  -- it is supposed that the core is changed so
  suppose_core : (Core → Core) → Action
  -- it is supposed that the clock counts are these
  suppose_counts : ℕ → ℕ → ℕ → Action
  -- a grant of this many clocks is refused with this number
  clocks_refused : ℕ → ℕ → Action
  -- the floor under the processor's time is this, 0 for none
  floor : ℕ → Action
  -- this figure of the core is this
  figure : (Core → ℕ) → ℕ → Action
  -- with the core changed so, the device is valid or not
  changed : (Core → Core) → Bool → Action
  -- the next clock moves a byte: from this address, memory or I/O, to that one, and the byte
  next_move : ℕ → Bool → ℕ → Bool → ℕ → Action

-- a write to this port of this byte is accepted with this warning; is refused with this number, and without a warning
abbrev pub send_warned : ℕ → ℕ → ℕ → Action
send_warned port byte warning = send_answered port byte 0 warning

abbrev pub send_refused : ℕ → ℕ → ℕ → Action
send_refused port byte number = send_answered port byte number 0

pub record Row : Type 0 where
  pub name : String
  pub actions : List Action

abbrev pub row : String → List Action → Row
row n actions = record { name = n; actions = actions }

-- whether what was seen is what must be, and the system afterwards
pub record Seen : Type 0 where
  pub right : Bool
  pub system : System (List ℕ)

abbrev pub seen : Bool → System (List ℕ) → Seen
seen t s = record { right = t; system = s }

-- the second list begins with the first
unfoldable pub same : List ℕ → List ℕ → Bool
same [] ys = true
same (x ∷ xs) [] = false
same (x ∷ xs) (y ∷ ys) = pick (eqb x y) (same xs ys) false

abbrev pub with_buffers : List ℕ → List ℕ → System (List ℕ) → System (List ℕ)
with_buffers m l s =
    record { world = record { core = s.world.core; buffers = record { memory = m; latches = l } }; clocks = s.clocks }

abbrev pub with_core : Core → System (List ℕ) → System (List ℕ)
with_core c s = record { world = record { core = c; buffers = s.world.buffers }; clocks = s.clocks }

-- this answer has this number, this byte and this warning
abbrev pub compared : ℕ → ℕ → ℕ → Answer (List ℕ) → List Bool
compared number byte warning a =
    eqb a.answered.number number ∷ eqb a.answered.byte byte ∷ eqb a.answered.warning warning ∷ []

-- such an answer is right, if all was right before it
abbrev pub answered : ℕ → ℕ → ℕ → Seen → Answer (List ℕ) → Seen
answered number byte warning r a = seen (every (r.right ∷ compared number byte warning a)) a.system

-- a write of a byte to a port that is accepted without a warning, and a read of a port that gives a byte
abbrev pub send_one : ℕ → ℕ → Seen → Seen
send_one port x r = answered 0 0 0 r (write r.system port x)

abbrev pub expect_one : ℕ → ℕ → Seen → Seen
expect_one port x r = answered 0 x 0 r (read r.system port)

-- so with bytes one after the other
unfoldable pub in_turn : (ℕ → Seen → Seen) → List ℕ → Seen → Seen
in_turn f [] r = r
in_turn f (x ∷ xs) r = in_turn f xs (f x r)

-- this many bytes have moved and the block has ended
abbrev pub supposed : ℕ → Core → Core
supposed n c = stopped (with_status (with_t true c.status) (with_block (with_counter n c.block) c))

-- the move is this one
unfoldable pub moves_so : ℕ → Bool → ℕ → Bool → ℕ → Option Move → Bool
moves_so from from_io to to_io byte none = false
moves_so from from_io to to_io byte (some x) =
    every
    (eqb x.from.address from
    ∷ beq x.from.io from_io
    ∷ eqb x.to.address to
    ∷ beq x.to.io to_io
    ∷ eqb x.byte byte
    ∷ [])

unfoldable pub perform : Action → System (List ℕ) → Seen
perform (fill at bytes) s =
    seen true (with_buffers (placed at bytes s.world.buffers.memory) s.world.buffers.latches s)
perform (latch at bytes) s =
    seen true (with_buffers s.world.buffers.memory (placed at bytes s.world.buffers.latches) s)
perform (send port bytes) s = in_turn (send_one port) bytes (seen true s)
perform (send_answered port byte number warning) s = answered number 0 warning (seen true s) (write s port byte)
perform (expect port bytes) s = in_turn (expect_one port) bytes (seen true s)
perform (expect_refused port number) s = answered number 0 0 (seen true s) (read s port)
perform (speed code) s = answered 0 0 0 (seen true s) (set_speed s code)
perform (speed_refused code number) s = answered number 0 0 (seen true s) (set_speed s code)
perform (clocks n) s = answered 0 0 0 (seen true s) (grant flat s n)
perform (borrow m l n number) s =
    let a : Answer (List ℕ) = grant flat (with_buffers (replicate m 0) (replicate l 0) s) n in
    seen (every (compared number 0 0 a))
    (record { world = record { core = a.system.world.core; buffers = s.world.buffers }; clocks = a.system.clocks })
perform (counts bus held cpu) s =
    seen (every (eqb s.clocks.bus bus ∷ eqb s.clocks.held held ∷ eqb s.clocks.cpu cpu ∷ [])) s
perform (memory at bytes) s = seen (same bytes (drop at s.world.buffers.memory)) s
perform (latches at bytes) s = seen (same bytes (drop at s.world.buffers.latches)) s
perform (pointers a b) s = seen (every (eqb s.world.core.a.pointer a ∷ eqb s.world.core.b.pointer b ∷ [])) s
perform (counter n) s = seen (eqb s.world.core.block.counter n) s
perform (status byte) s = seen (eqb (status_byte s.world.core.status) byte) s
perform (enabled t) s = seen (beq s.world.core.enabled t) s
perform (count n) s = seen (eqb (block_count s.world.core.block) n) s
perform (suppose n) s = seen true (with_core (supposed n s.world.core) s)
perform (suppose_core f) s = seen true (with_core (f s.world.core) s)
perform (suppose_counts bus held cpu) s =
    seen true (record { world = s.world; clocks = record { bus = bus; held = held; cpu = cpu } })
perform (clocks_refused n number) s = answered number 0 0 (seen true s) (grant flat s n)
perform (floor n) s = seen (eqb (floor_at s) n) s
perform (figure f n) s = seen (eqb (f s.world.core) n) s
perform (changed f t) s = seen (beq (valid (f s.world.core) (total s.clocks)) t) s
perform (next_move from from_io to to_io byte) s = seen (moves_so from from_io to to_io byte (note flat s.world).move) s

-- power-on with zero buffers, but for six source bytes at 1000 and six others at 2000
abbrev pub start : System (List ℕ)
start =
    record {
      world =
          record {
            core = power_on;
            buffers =
                record {
                  memory =
                      placed 0x1000 (0xA1 ∷ 0xA2 ∷ 0xA3 ∷ 0xA4 ∷ 0xA5 ∷ 0xA6 ∷ [])
                      (placed 0x2000 (0xE1 ∷ 0xE2 ∷ 0xE3 ∷ 0xE4 ∷ 0xE5 ∷ 0xE6 ∷ []) (replicate 65536 0));
                  latches = replicate 65536 0;
                };
          };
      clocks = no_clocks;
    }

-- the system after a list of actions
unfoldable pub played : List Action → System (List ℕ) → System (List ℕ)
played [] s = s
played (x ∷ xs) s = played xs (perform x s).system

-- an action of a row that was not right, counted from 0
pub record Failure : Type 0 where
  pub name : String
  pub place : ℕ

-- the failures of a row's actions from this place on
unfoldable pub row_failures : String → ℕ → List Action → System (List ℕ) → List Failure
row_failures name place [] s = []
row_failures name place (x ∷ xs) s =
    let r : Seen = perform x s in
    pick r.right [] (record { name = name; place = place } ∷ []) ++ row_failures name (suc place) xs r.system

-- the failures of a table's rows, each begun at s
unfoldable pub failures : System (List ℕ) → List Row → List Failure
failures s [] = []
failures s (r ∷ rs) = row_failures r.name 0 r.actions s ++ failures s rs
