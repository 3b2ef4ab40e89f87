-- Reading back: seven registers, status, counter low and high, A low and high, B low and high.
-- Assumes nothing.
use Rattle.std.specs.Prelude.{ℕ, zero, suc, ◌+◌, false, [], ◌∷◌, ltb, eqb}
use Rattle.rules.specs.Choice.{pick, ◌⇒◌, first_of}
use Rattle.rules.specs.Bytes.{bit, low_byte, high_byte}
use Rattle.rules.specs.Parts.{with_position, with_waiting, with_readback}
use Rattle.rules.specs.declared.Status.{Status}
use Rattle.rules.specs.declared.Core.{Core}

-- the status byte, 00E1101T
unfoldable pub status_byte : Status → ℕ
status_byte s = 0x1A + pick s.e 32 0 + pick s.t 1 0

-- register k: low comes before high, and the counter is read modulo 65,536
unfoldable pub register_byte : ℕ → Core → ℕ
register_byte k c =
    first_of
    (eqb k 0 ⇒ status_byte c.status
    ∷ eqb k 1 ⇒ low_byte c.block.counter
    ∷ eqb k 2 ⇒ high_byte c.block.counter
    ∷ eqb k 3 ⇒ low_byte c.a.pointer
    ∷ eqb k 4 ⇒ high_byte c.a.pointer
    ∷ eqb k 5 ⇒ low_byte c.b.pointer
    ∷ [])
    (high_byte c.b.pointer)

-- the register after k, going round
unfoldable pub after : ℕ → ℕ
after k = pick (ltb k 6) (k + 1) 0

-- the first register in the mask among so many from k on, going round; where there is none, the one after them
unfoldable pub seek : ℕ → ℕ → ℕ → ℕ
seek zero mask k = k
seek (suc n) mask k = pick (bit k mask) k (seek n mask (after k))

-- the first register in the mask at or after the read position
abbrev pub chosen : ℕ → ℕ → ℕ
chosen mask position = seek 7 mask position

-- what an accepted read gives, and the core after it
pub record Byte : Type 0 where
  pub byte : ℕ
  pub core : Core

abbrev pub gives : ℕ → Core → Byte
gives b c = record { byte = b; core = c }

-- register k is read, and the position moves to the one after it
abbrev pub read_register : ℕ → Core → Byte
read_register k c = gives (register_byte k c) (with_readback (with_position (after k) c.readback) c)

-- a waiting status read comes first and leaves the position; an empty mask gives the status and moves nothing (ours)
unfoldable pub read_byte : Core → Byte
read_byte c =
    first_of
    (c.readback.waiting ⇒ gives (status_byte c.status) (with_readback (with_waiting false c.readback) c)
    ∷ eqb c.readback.mask 0 ⇒ gives (status_byte c.status) c
    ∷ [])
    (read_register (chosen c.readback.mask c.readback.position) c)
