-- What a byte written to the port does: what each register and each parameter does, and which of them it is by what is next.
-- Assumes nothing.
use Rattle.std.specs.Prelude.{ℕ, ◌/◌, ◌%◌, [], ◌∷◌, eqb}
use Rattle.rules.specs.Choice.{pick, ◌⇒◌, first_of}
use Rattle.rules.specs.Bytes.{bit, with_low, with_high}
use Rattle.rules.specs.Parts.{with_length, with_zilog, with_forward, with_prescaler, with_burst, with_restart, with_a, with_b, with_block, with_control, with_readback}
use Rattle.rules.specs.Ports.{configured, timed, addressed_low, addressed_high}
use Rattle.rules.specs.Selection.{selects}
use Rattle.rules.specs.Pending.{a_low, a_high, length_low, length_high, a_timing, b_timing, prescaler, b_low, b_high, is_one}
use Rattle.rules.specs.Steering.{Steering, bits}
use Rattle.rules.specs.Commands.{enable, disable, command}
use Rattle.rules.specs.declared.Core.{Core}

-- WR0: bit 2 set is A to B, clear is B to A; AA of 01, 10 and 11 all transfer
abbrev pub wr0 : ℕ → Core → Core
wr0 byte c = with_control (with_forward (bit 2 byte) c.control) c

-- WR1: port A
abbrev pub wr1 : ℕ → Core → Core
wr1 byte c = with_a (configured byte c.a) c

-- WR2: port B
abbrev pub wr2 : ℕ → Core → Core
wr2 byte c = with_b (configured byte c.b) c

-- WR3: bit 6 set acts as Enable, clear as Disable
unfoldable pub wr3 : ℕ → Core → Core
wr3 byte c = pick (bit 6 byte) (enable c) (disable c)

-- WR4: bits 6-5 of 10 are burst, all else is continuous (11: ours)
abbrev pub wr4 : ℕ → Core → Core
wr4 byte c = with_control (with_burst (eqb (byte / 32 % 4) 2) c.control) c

-- WR5: bit 5 is auto restart; bits 4 and 3 are ignored
abbrev pub wr5 : ℕ → Core → Core
wr5 byte c = with_control (with_restart (bit 5 byte) c.control) c

-- the register with this number is written; the 24 bytes that select none change nothing
unfoldable pub register : ℕ → ℕ → Core → Core
register number byte c =
    first_of
    (eqb number 0 ⇒ wr0 byte c
    ∷ eqb number 1 ⇒ wr1 byte c
    ∷ eqb number 2 ⇒ wr2 byte c
    ∷ eqb number 3 ⇒ wr3 byte c
    ∷ eqb number 4 ⇒ wr4 byte c
    ∷ eqb number 5 ⇒ wr5 byte c
    ∷ eqb number 6 ⇒ command byte c
    ∷ [])
    c

-- the read mask: bit 7 is dropped, and reading goes to the start (ours)
abbrev pub masked : ℕ → Core → Core
masked byte c =
    with_readback (record { mask = byte % 128; position = 0; waiting = c.readback.waiting }) c

-- a parameter takes effect; each leaves the other byte of its number as it was. The last is the read mask
unfoldable pub parameter : ℕ → ℕ → Core → Core
parameter which byte c =
    first_of
    (eqb which a_low ⇒ with_a (addressed_low byte c.a) c
    ∷ eqb which a_high ⇒ with_a (addressed_high byte c.a) c
    ∷ eqb which length_low ⇒ with_block (with_length (with_low byte c.block.length) c.block) c
    ∷ eqb which length_high ⇒ with_block (with_length (with_high byte c.block.length) c.block) c
    ∷ eqb which a_timing ⇒ with_a (timed byte c.a) c
    ∷ eqb which b_timing ⇒ with_b (timed byte c.b) c
    ∷ eqb which prescaler ⇒ with_control (with_prescaler byte c.control) c
    ∷ eqb which b_low ⇒ with_b (addressed_low byte c.b) c
    ∷ eqb which b_high ⇒ with_b (addressed_high byte c.b) c
    ∷ [])
    (masked byte c)

-- a byte is carried out by what is next: as that parameter or, where none is pending, by the register that it selects. What
-- is pending stays as it is
unfoldable pub carried_out_as : ℕ → ℕ → Core → Core
carried_out_as next byte c = pick (is_one next) (parameter next byte c) (register (selects byte) byte c)

-- the port's low byte sets the compatibility mode: 0B Zilog, 6B zxn
abbrev pub in_mode : ℕ → Core → Core
in_mode port c = with_block (with_zilog (eqb (port % 256) 0x0B) c.block) c

-- by what the calls go by
module _ {D : Type 0} (δ : Steering D) where
  -- an accepted byte: what it does to the rest of the core, and what is pending after it
  unfoldable pub effect_over : ℕ → D → D
  effect_over byte d = δ.after byte (carried_out_as (δ.next d) byte (δ.core d)) d

  -- an accepted write: the mode is set before the byte takes effect
  abbrev pub written_over : ℕ → ℕ → D → D
  written_over port byte d = effect_over byte (δ.with (in_mode port (δ.core d)) d)

-- by the number in the core
abbrev pub carried_out : ℕ → Core → Core
carried_out byte c = carried_out_as (bits.next c) byte c

abbrev pub effect : ℕ → Core → Core
effect byte c = effect_over bits byte c

abbrev pub written : ℕ → ℕ → Core → Core
written port byte c = written_over bits port byte c
