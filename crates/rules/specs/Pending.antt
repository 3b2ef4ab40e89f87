-- The pending parameters (document 01: awaited): one number, a bit for each, the lowest set bit the next one.
-- All that steers the number stands here: what is next, what is pending after a byte, and which numbers are valid.
-- Assumes nothing.
use Rattle.std.specs.Prelude.{ℕ, ◌+◌, ◌-◌, ◌%◌, Bool, not, List, [], ◌∷◌, ltb, eqb}
use Rattle.rules.specs.Choice.{pick, Row, ◌⇒◌, first_of, every, any}
use Rattle.rules.specs.Bytes.{bit}
use Rattle.rules.specs.Selection.{selects}

-- the parameters, bits 0 to 9 in the order of document 01's table
abbrev pub a_low : ℕ
a_low = 1

abbrev pub a_high : ℕ
a_high = 2

abbrev pub length_low : ℕ
length_low = 4

abbrev pub length_high : ℕ
length_high = 8

abbrev pub a_timing : ℕ
a_timing = 16

abbrev pub b_timing : ℕ
b_timing = 32

abbrev pub prescaler : ℕ
prescaler = 64

abbrev pub b_low : ℕ
b_low = 128

abbrev pub b_high : ℕ
b_high = 256

abbrev pub read_mask : ℕ
read_mask = 512

-- nothing is pending
abbrev pub nothing : ℕ
nothing = 0

-- the bits from the lowest up, and the parameter of each
abbrev pub lowest_first : ℕ → List (Row ℕ)
lowest_first p =
    bit 0 p ⇒ a_low
    ∷ bit 1 p ⇒ a_high
    ∷ bit 2 p ⇒ length_low
    ∷ bit 3 p ⇒ length_high
    ∷ bit 4 p ⇒ a_timing
    ∷ bit 5 p ⇒ b_timing
    ∷ bit 6 p ⇒ prescaler
    ∷ bit 7 p ⇒ b_low
    ∷ bit 8 p ⇒ b_high
    ∷ bit 9 p ⇒ read_mask
    ∷ []

-- the next one, the lowest bit that is set; 0 for none
unfoldable pub next : ℕ → ℕ
next p = first_of (lowest_first p) nothing

-- a parameter, and not none
abbrev pub is_one : ℕ → Bool
is_one parameter = not (eqb parameter nothing)

abbrev pub is_pending : ℕ → Bool
is_pending p = is_one (next p)

-- those after the next one
abbrev pub rest : ℕ → ℕ
rest p = p - next p

-- with one more where the test holds
unfoldable pub ask : Bool → ℕ → ℕ → ℕ
ask t parameter p = pick t (parameter + p) p

-- the parameters that each register's byte asks for
abbrev pub wr0_asks : ℕ → ℕ
wr0_asks byte = ask (bit 3 byte) a_low (ask (bit 4 byte) a_high (ask (bit 5 byte) length_low (ask (bit 6 byte) length_high nothing)))

-- WR1 or WR2, for the timing of its port
abbrev pub timing_asks : ℕ → ℕ → ℕ
timing_asks timing byte = ask (bit 6 byte) timing nothing

abbrev pub wr4_asks : ℕ → ℕ
wr4_asks byte = ask (bit 2 byte) b_low (ask (bit 3 byte) b_high nothing)

-- a byte that selects a register: those that it asks for, after BB the read mask; WR3, WR5, the other commands and the bytes
-- that select none leave what is pending as it is
unfoldable pub asked : ℕ → ℕ → ℕ
asked byte p =
    first_of
    (eqb (selects byte) 0 ⇒ wr0_asks byte
    ∷ eqb (selects byte) 1 ⇒ timing_asks a_timing byte
    ∷ eqb (selects byte) 2 ⇒ timing_asks b_timing byte
    ∷ eqb (selects byte) 4 ⇒ wr4_asks byte
    ∷ eqb byte 0xBB ⇒ read_mask
    ∷ [])
    p

-- a byte that is this parameter uses it up, and B timing with bit 5 set asks for the prescaler; in a valid number B timing is
-- alone
unfoldable pub used_up : ℕ → ℕ → ℕ → ℕ
used_up parameter byte p = pick (every (eqb parameter b_timing ∷ bit 5 byte ∷ [])) prescaler (p - parameter)

-- what is pending after a byte, by what is next
unfoldable pub pending_after_as : ℕ → ℕ → ℕ → ℕ
pending_after_as next byte p = pick (is_one next) (used_up next byte p) (asked byte p)

abbrev pub pending_after : ℕ → ℕ → ℕ
pending_after byte p = pending_after_as (next p) byte p

-- any of WR0's four, or A timing alone, B timing alone, the prescaler alone, any of WR4's two, or the read mask alone
unfoldable pub valid_pending : ℕ → Bool
valid_pending p =
    any
    (ltb p a_timing
    ∷ eqb p a_timing
    ∷ eqb p b_timing
    ∷ eqb p prescaler
    ∷ every (eqb (p % b_low) 0 ∷ ltb p read_mask ∷ [])
    ∷ eqb p read_mask
    ∷ [])
