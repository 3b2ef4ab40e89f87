-- The pending parameters as they were kept before the number, and as document 01 was first written: a sequence of codes, the
-- next one first, 0 behind the last. All that steers the sequence, and a device that keeps one; all else is the rules' own.
-- Assumes nothing.
use Rattle.std.specs.Prelude.{ℕ, ◌+◌, ◌-◌, ◌^◌, Bool, not, [], ◌∷◌, leb, ltb, eqb}
use Rattle.rules.specs.Choice.{pick, ◌⇒◌, first_of, every, any}
use Rattle.rules.specs.Bytes.{bit}
use Rattle.rules.specs.Parts.{with_pending}
use Rattle.rules.specs.Selection.{selects}
use Rattle.rules.specs.Pending.{a_low, a_high, length_low, length_high, a_timing, b_timing, prescaler, b_low, b_high, read_mask, nothing}
use Rattle.rules.specs.PowerOn.{power_on}
use Rattle.rules.specs.Validity.{valid_core_if}
use Rattle.rules.specs.Steering.{Steering}
use Rattle.rules.specs.declared.Core.{Core}

pub record Sequence : Type 0 where
  pub first : ℕ
  pub second : ℕ
  pub third : ℕ
  pub fourth : ℕ

-- the sequence of these codes
abbrev pub codes : ℕ → ℕ → ℕ → ℕ → Sequence
codes x y z w = record { first = x; second = y; third = z; fourth = w }

-- the empty one
abbrev pub empty : Sequence
empty = codes 0 0 0 0

-- those after the first
abbrev pub after_first : Sequence → Sequence
after_first q = codes q.second q.third q.fourth 0

-- with one more in front where the test holds
unfoldable pub in_front : Bool → ℕ → Sequence → Sequence
in_front t code q = pick t (codes code q.first q.second q.third) q

-- the sequences that each register's byte asks for
abbrev pub wr0_sequence : ℕ → Sequence
wr0_sequence byte = in_front (bit 3 byte) 1 (in_front (bit 4 byte) 2 (in_front (bit 5 byte) 3 (in_front (bit 6 byte) 4 empty)))

abbrev pub timing_sequence : ℕ → ℕ → Sequence
timing_sequence code byte = in_front (bit 6 byte) code empty

abbrev pub wr4_sequence : ℕ → Sequence
wr4_sequence byte = in_front (bit 2 byte) 8 (in_front (bit 3 byte) 9 empty)

-- a byte that selects a register: the sequence that it asks for, after BB the read mask; the others leave the sequence as it is
unfoldable pub sequence_asked : ℕ → Sequence → Sequence
sequence_asked byte q =
    first_of
    (eqb (selects byte) 0 ⇒ wr0_sequence byte
    ∷ eqb (selects byte) 1 ⇒ timing_sequence 5 byte
    ∷ eqb (selects byte) 2 ⇒ timing_sequence 6 byte
    ∷ eqb (selects byte) 4 ⇒ wr4_sequence byte
    ∷ eqb byte 0xBB ⇒ codes 10 0 0 0
    ∷ [])
    q

-- a parameter: the first one is used up, and B timing with bit 5 set puts the prescaler in front
unfoldable pub sequence_used_up : ℕ → Sequence → Sequence
sequence_used_up byte q = in_front (every (eqb q.first 6 ∷ bit 5 byte ∷ [])) 7 (after_first q)

-- the sequence after a byte
unfoldable pub sequence_after : ℕ → Sequence → Sequence
sequence_after byte q = pick (not (eqb q.first 0)) (sequence_used_up byte q) (sequence_asked byte q)

-- y may stand right behind x: nothing more, or a later parameter of the same register, WR0 or WR4
unfoldable pub follows : ℕ → ℕ → Bool
follows x y =
    any (eqb y 0 ∷ every (leb 1 x ∷ ltb x y ∷ leb y 4 ∷ []) ∷ every (leb 8 x ∷ ltb x y ∷ leb y 9 ∷ []) ∷ [])

-- a tail of a sequence in document 01's table: every selection of a register's parameters in their order
unfoldable pub valid_sequence : Sequence → Bool
valid_sequence q =
    every
    (leb q.first 10 ∷ follows q.first q.second ∷ follows q.second q.third ∷ follows q.third q.fourth ∷ [])

-- the parameter with this code
unfoldable pub parameter_of : ℕ → ℕ
parameter_of code =
    first_of
    (eqb code 1 ⇒ a_low
    ∷ eqb code 2 ⇒ a_high
    ∷ eqb code 3 ⇒ length_low
    ∷ eqb code 4 ⇒ length_high
    ∷ eqb code 5 ⇒ a_timing
    ∷ eqb code 6 ⇒ b_timing
    ∷ eqb code 7 ⇒ prescaler
    ∷ eqb code 8 ⇒ b_low
    ∷ eqb code 9 ⇒ b_high
    ∷ eqb code 10 ⇒ read_mask
    ∷ [])
    nothing

-- ---- a sequence as a number

-- a code's bit: code 1 is bit 0, and 0 stands for none
unfoldable pub bit_of : ℕ → ℕ
bit_of code = pick (eqb code 0) 0 (2 ^ (code - 1))

-- the number of a sequence: the bits of its codes
abbrev pub number_of : Sequence → ℕ
number_of q = bit_of q.first + bit_of q.second + bit_of q.third + bit_of q.fourth

-- ---- a device that keeps a sequence

-- the sequence, and all else that a core has; the number in it is not looked at
pub record SequenceCore : Type 0 where
  pub pending : Sequence
  pub others : Core

abbrev pub sequences : Steering SequenceCore
sequences =
    record {
      core = λ d. d.others;
      with = λ c d. record { pending = d.pending; others = c };
      next = λ d. parameter_of d.pending.first;
      after = λ byte c d. record { pending = sequence_after byte d.pending; others = c };
      valid = λ d. valid_core_if (valid_sequence d.pending) d.others;
    }

abbrev pub sequence_power_on : SequenceCore
sequence_power_on = record { pending = empty; others = power_on }

-- the core with the number in place of the sequence
abbrev pub numbered : SequenceCore → Core
numbered d = with_pending (number_of d.pending) d.others
