-- Bytes, the bits of one, and the two bytes of a 16-bit number.
-- Assumes nothing.
use Rattle.std.specs.Prelude.{ℕ, ◌+◌, ◌*◌, ◌/◌, ◌%◌, ◌^◌, ◌<◌, Bool, List, [], ◌∷◌, eqb}

-- each of these numbers is a byte: the one hypothesis about lists of calls and about sessions
unfoldable pub AreBytes : List ℕ → Type 0
AreBytes [] = Unit {0}
AreBytes (x ∷ xs) = (x < 256) × AreBytes xs

-- bit k of a byte is set
abbrev pub bit : ℕ → ℕ → Bool
bit k byte = eqb (byte / 2 ^ k % 2) 1

abbrev pub low_byte : ℕ → ℕ
low_byte n = n % 256

abbrev pub high_byte : ℕ → ℕ
high_byte n = n / 256 % 256

-- the number with its low byte replaced and its high byte as it was
abbrev pub with_low : ℕ → ℕ → ℕ
with_low byte n = n / 256 * 256 + byte

-- the number with its high byte replaced and its low byte as it was
abbrev pub with_high : ℕ → ℕ → ℕ
with_high byte n = byte * 256 + n % 256
