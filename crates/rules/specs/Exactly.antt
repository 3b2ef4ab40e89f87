-- Where document 01 says when something is so, that it is so then and at no other time.
-- Assumes nothing.
use Rattle.std.specs.Prelude.{ℕ, zero, suc, ◌+◌, ◌*◌, ◌%◌, ◌^◌, ◌≤◌, ◌<◌, ◌≡◌, Bool, true, false, not, List, [], ◌∷◌, leb, ltb, eqb, length}
use Rattle.rules.specs.Choice.{pick, every, any}
use Rattle.rules.specs.Bytes.{bit}
use Rattle.rules.specs.Blocks.{block_count, finished}
use Rattle.rules.specs.Speed.{at_speed}
use Rattle.rules.specs.Slots.{bus_held}
use Rattle.rules.specs.Selection.{is_wr0, is_wr1, is_wr2, is_wr4, selections, selects}
use Rattle.rules.specs.Pending.{a_low, a_high, length_low, length_high, a_timing, b_timing, prescaler, b_low, b_high, read_mask, nothing, next, is_pending, rest, wr0_asks, timing_asks, wr4_asks, pending_after, valid_pending}
use Rattle.rules.specs.Validity.{valid_port, valid_readback, valid_slot, valid_core, valid, total, most64}
use Rattle.rules.specs.Facts.{ValidParts, ValidCycle, ValidReading, ValidSlot}
use Rattle.rules.specs.Registers.{carried_out, in_mode, written}
use Rattle.rules.specs.Readback.{register_byte, after, chosen, read_byte}
use Rattle.rules.specs.Clock.{clock_of}
use Rattle.rules.specs.Buffers.{Store, flat, Buffers}
use Rattle.rules.specs.World.{System}
use Rattle.rules.specs.Refusals.{wrong_port, access_refusal, speed_refusal, grant_refusal}
use Rattle.rules.specs.Calls.{refused, write_reply, read_reply, speed_reply, grant_number, grant}
use Rattle.rules.specs.declared.Port.{Port}
use Rattle.rules.specs.declared.Block.{Block}
use Rattle.rules.specs.declared.Readback.{Readback}
use Rattle.rules.specs.declared.Slot.{Slot}
use Rattle.rules.specs.declared.Clocks.{Clocks}
use Rattle.rules.specs.declared.Core.{Core}

-- one holds exactly where the other does
pub record Exactly (P Q : Type 0) : Type 0 where
  pub to : P → Q
  pub from : Q → P

-- ---- refusals: each number is given exactly where its condition holds and that of no lower number does

-- the number of a port write or a port read, as equations of tests
pub record AccessExact (c : Core) (sum port : ℕ) : Type 0 where
  pub one : eqb (access_refusal c sum port) 1 ≡ not (valid c sum)
  pub two : eqb (access_refusal c sum port) 2 ≡ every (valid c sum ∷ wrong_port port ∷ [])
  pub three : eqb (access_refusal c sum port) 3 ≡ every (valid c sum ∷ not (wrong_port port) ∷ bus_held c ∷ [])
  pub none : eqb (access_refusal c sum port) 0 ≡ every (valid c sum ∷ not (wrong_port port) ∷ not (bus_held c) ∷ [])
  pub most : access_refusal c sum port ≤ 3

-- the number of a speed call
pub record SpeedRefusalExact (c : Core) (sum code : ℕ) : Type 0 where
  pub one : eqb (speed_refusal c sum code) 1 ≡ not (valid c sum)
  pub seven : eqb (speed_refusal c sum code) 7 ≡ every (valid c sum ∷ not (leb code 3) ∷ [])
  pub none : eqb (speed_refusal c sum code) 0 ≡ every (valid c sum ∷ leb code 3 ∷ [])
  pub other : any (eqb (speed_refusal c sum code) 0 ∷ eqb (speed_refusal c sum code) 1 ∷ eqb (speed_refusal c sum code) 7 ∷ []) ≡ true

-- the number of a grant with the flat memory
pub record GrantExact (c : Core) (sum : ℕ) (b : Buffers (List ℕ)) (n : ℕ) : Type 0 where
  pub one : eqb (grant_refusal flat c sum b n) 1 ≡ not (valid c sum)
  pub four : eqb (grant_refusal flat c sum b n) 4 ≡ every (valid c sum ∷ not (eqb (length b.memory) 65536) ∷ [])
  pub five : eqb (grant_refusal flat c sum b n) 5 ≡ every (valid c sum ∷ eqb (length b.memory) 65536 ∷ not (eqb (length b.latches) 65536) ∷ [])
  pub six : eqb (grant_refusal flat c sum b n) 6 ≡ every (valid c sum ∷ eqb (length b.memory) 65536 ∷ eqb (length b.latches) 65536 ∷ ltb most64 (sum + n) ∷ [])
  pub none : eqb (grant_refusal flat c sum b n) 0 ≡ every (valid c sum ∷ eqb (length b.memory) 65536 ∷ eqb (length b.latches) 65536 ∷ not (ltb most64 (sum + n)) ∷ [])
  pub other : eqb (grant_refusal flat c sum b n) 2 ≡ false × eqb (grant_refusal flat c sum b n) 3 ≡ false × grant_refusal flat c sum b n ≤ 6

-- each call answers with that number
pub record RefusalsExact : Type 0 where
  pub write : (c : Core) (k : Clocks) (port byte : ℕ) → (write_reply c k port byte).answered.number ≡ access_refusal c (total k) port
  pub read : (c : Core) (k : Clocks) (port : ℕ) → (read_reply c k port).answered.number ≡ access_refusal c (total k) port
  pub speed : (c : Core) (k : Clocks) (code : ℕ) → (speed_reply c k code).answered.number ≡ speed_refusal c (total k) code
  pub granted : (s : System (List ℕ)) (n : ℕ) → (grant flat s n).answered.number ≡ grant_number flat s n
  pub access : (c : Core) (sum port : ℕ) → AccessExact c sum port
  pub speeds : (c : Core) (sum code : ℕ) → SpeedRefusalExact c sum code
  pub grants : (c : Core) (sum : ℕ) (b : Buffers (List ℕ)) (n : ℕ) → GrantExact c sum b n

-- ---- validity: a core passes the test exactly where its parts are valid, and its slot where the facts of one hold

pub record ValidExact : Type 0 where
  pub parts : (c : Core) → Exactly (valid_core c ≡ true) (ValidParts c)
  pub port : (p : Port) → Exactly (valid_port p ≡ true) (ValidCycle p)
  pub readback : (r : Readback) → Exactly (valid_readback r ≡ true) (ValidReading r)
  pub slot : (enabled : Bool) (s : Slot) → Exactly (valid_slot enabled s ≡ true) (ValidSlot enabled s)
  -- a core at no speed is not valid, so that every call refuses it with 1
  pub speed : (c : Core) (sum : ℕ) → 3 < c.control.speed → valid c sum ≡ false

-- ---- pending parameters: valid exactly for what a register's byte asks for, the prescaler alone, the mask alone, and what
-- is left of these

pub data Awaited : ℕ → Type 0 where
  by_wr0 : (byte : ℕ) → byte < 256 → is_wr0 byte ≡ true → Awaited (wr0_asks byte)
  by_wr1 : (byte : ℕ) → byte < 256 → is_wr1 byte ≡ true → Awaited (timing_asks a_timing byte)
  by_wr2 : (byte : ℕ) → byte < 256 → is_wr2 byte ≡ true → Awaited (timing_asks b_timing byte)
  by_wr4 : (byte : ℕ) → byte < 256 → is_wr4 byte ≡ true → Awaited (wr4_asks byte)
  by_timing : Awaited prescaler
  by_mask_command : Awaited read_mask
  tail : (p : ℕ) → Awaited p → Awaited (rest p)

-- what bytes lead to, one after the other, from nothing on
pub data LedTo : ℕ → Type 0 where
  from_nothing : LedTo nothing
  by_byte : (byte p : ℕ) → byte < 256 → LedTo p → LedTo (pending_after byte p)

-- all numbers that can be pending
abbrev pub pending_numbers : List ℕ
pending_numbers =
    nothing
    ∷ a_low
    ∷ a_high
    ∷ (a_low + a_high)
    ∷ length_low
    ∷ (a_low + length_low)
    ∷ (a_high + length_low)
    ∷ (a_low + a_high + length_low)
    ∷ length_high
    ∷ (a_low + length_high)
    ∷ (a_high + length_high)
    ∷ (a_low + a_high + length_high)
    ∷ (length_low + length_high)
    ∷ (a_low + length_low + length_high)
    ∷ (a_high + length_low + length_high)
    ∷ (a_low + a_high + length_low + length_high)
    ∷ a_timing
    ∷ b_timing
    ∷ prescaler
    ∷ b_low
    ∷ b_high
    ∷ (b_low + b_high)
    ∷ read_mask
    ∷ []

unfoldable pub among : ℕ → List ℕ → Bool
among p [] = false
among p (q ∷ qs) = any (eqb p q ∷ among p qs ∷ [])

-- no number stands twice
unfoldable pub distinct : List ℕ → Bool
distinct [] = true
distinct (p ∷ ps) = every (not (among p ps) ∷ distinct ps ∷ [])

-- x is one of the first m bits of p, which is set, and none below it is
pub record LowestBit (m p x : ℕ) : Type 0 where
  pub place : ℕ
  pub few : place < m
  pub value : x ≡ 2 ^ place
  pub set : bit place p ≡ true
  pub first : (i : ℕ) → i < place → bit i p ≡ false

-- a core with a number that is none of them
abbrev pub Unlisted : Core → Type 0
Unlisted c = among c.pending pending_numbers ≡ false

pub record PendingExact : Type 1 where
  -- bits 0 to 9 in the order of document 01's table
  pub order :
      (a_low ∷ a_high ∷ length_low ∷ length_high ∷ a_timing ∷ b_timing ∷ prescaler ∷ b_low ∷ b_high ∷ read_mask ∷ [])
      ≡ (1 ∷ 2 ∷ 4 ∷ 8 ∷ 16 ∷ 32 ∷ 64 ∷ 128 ∷ 256 ∷ 512 ∷ [])
  pub valid : (p : ℕ) → Exactly (valid_pending p ≡ true) (Awaited p)
  -- bytes lead to each of them and to no other
  pub led : (p : ℕ) → Exactly (valid_pending p ≡ true) (LedTo p)
  -- the next one of any number is the lowest of the ten bits that is set; there is none exactly where none of them is, and of
  -- the valid numbers that is 0 alone
  pub lowest : (p : ℕ) → (next p ≡ nothing → ⊥) → LowestBit 10 p (next p)
  pub none : (p : ℕ) → Exactly (next p ≡ nothing) ((i : ℕ) → i < 10 → bit i p ≡ false)
  pub empty : (p : ℕ) → valid_pending p ≡ true → next p ≡ nothing → p ≡ nothing
  -- what a byte does to the rest of the core leaves them alone, and so do a read, a clock and another speed
  pub alone : (byte : ℕ) (c : Core) → (carried_out byte c).pending ≡ c.pending
  pub alone_in_read : (c : Core) → (read_byte c).core.pending ≡ c.pending
  pub alone_in_clock : (c : Core) → (clock_of c).next.pending ≡ c.pending
  pub alone_in_speed : (c : Core) (code : ℕ) → (at_speed code c).pending ≡ c.pending
  -- they are these 23 and no other
  pub listed : (p : ℕ) → Exactly (valid_pending p ≡ true) (among p pending_numbers ≡ true)
  pub count : length pending_numbers ≡ 23
  pub once : distinct pending_numbers ≡ true
  -- a device with any other number is refused with 1 by every call
  pub write : (c : Core) (k : Clocks) (port byte : ℕ) → Unlisted c → write_reply c k port byte ≡ record { answered = refused 1; core = c; clocks = k }
  pub read : (c : Core) (k : Clocks) (port : ℕ) → Unlisted c → read_reply c k port ≡ record { answered = refused 1; core = c; clocks = k }
  pub speed : (c : Core) (k : Clocks) (code : ℕ) → Unlisted c → speed_reply c k code ≡ record { answered = refused 1; core = c; clocks = k }
  pub granted : {M : Type 0} (σ : Store M) (s : System M) (n : ℕ) → Unlisted s.world.core → grant σ s n ≡ record { answered = refused 1; system = s }

-- ---- blocks

-- a block has as many bytes as its length, in Zilog mode one more, and is finished exactly where the counter has come to it
pub record BlockExact (b : Block) : Type 0 where
  pub zxn : b.zilog ≡ false → block_count b ≡ b.length
  pub zilog : b.zilog ≡ true → block_count b ≡ b.length + 1
  pub end : Exactly (finished b ≡ true) (block_count b ≤ b.counter)

-- ---- reading back

-- so many registers on from k, going round
unfoldable pub onward : ℕ → ℕ → ℕ
onward zero k = k
onward (suc n) k = onward n (after k)

-- the register chosen by a read lies so many on from the read position, it is in the mask, and none from the position up to
-- it is
pub record ChosenRead (mask position : ℕ) : Type 0 where
  pub steps : ℕ
  pub few : steps < 7
  pub there : chosen mask position ≡ onward steps position
  pub in_mask : bit (chosen mask position) mask ≡ true
  pub first : (i : ℕ) → i < steps → bit (onward i position) mask ≡ false

abbrev pub ChosenExact : Type 0
ChosenExact = (mask position : ℕ) → mask ≤ 127 → (mask ≡ 0 → ⊥) → position ≤ 6 → ChosenRead mask position

-- what is read are bytes, and a number is read low byte first
pub record LowFirst (c : Core) : Type 0 where
  pub bytes : (k : ℕ) → register_byte k c < 256
  pub counter : register_byte 1 c + 256 * register_byte 2 c ≡ c.block.counter % 65536
  pub a : register_byte 3 c + 256 * register_byte 4 c ≡ c.a.pointer % 65536
  pub b : register_byte 5 c + 256 * register_byte 6 c ≡ c.b.pointer % 65536

-- ---- the 24 bytes that select no register

-- how many of the tests hold
unfoldable pub holding : List Bool → ℕ
holding [] = 0
holding (t ∷ ts) = pick t 1 0 + holding ts

-- how many registers a byte selects
abbrev pub selected : ℕ → ℕ
selected byte = holding (selections byte)

-- how many bytes below n select k registers
unfoldable pub selecting : ℕ → ℕ → ℕ
selecting k zero = 0
selecting k (suc n) = selecting k n + pick (eqb (selected n) k) 1 0

pub record SelectionExact : Type 0 where
  -- of the 256 bytes 232 select one register and 24 select none
  pub one : selecting 1 256 ≡ 232
  pub none : selecting 0 256 ≡ 24
  -- WR0 is 0xxxxxAA with AA not 00, WR4 is 1xxxxx01
  pub wr0 : (byte : ℕ) → Exactly (selects byte ≡ 0) ((byte < 128) × (byte % 4 ≡ 0 → ⊥))
  pub wr4 : (byte : ℕ) → Exactly (selects byte ≡ 4) ((128 ≤ byte) × (byte % 4 ≡ 1))
  -- these change nothing but the compatibility mode, while no parameter is pending
  pub idle : (port byte : ℕ) (c : Core) → selected byte ≡ 0 → is_pending c.pending ≡ false → written port byte c ≡ in_mode port c
