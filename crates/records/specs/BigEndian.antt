-- Numbers in bytes, the high byte first: one rule for any count of bytes.
-- Assumes nothing.
use Rattle.std.specs.Prelude.{ℕ, zero, suc, ◌+◌, ◌*◌, ◌/◌, ◌%◌, List, [], ◌∷◌, ◌++◌, get_or}

-- the number of so many bytes from place p on
unfoldable pub number_at : ℕ → List ℕ → ℕ → ℕ
number_at zero xs p = 0
number_at (suc count) xs p = 256 * number_at count xs p + get_or xs (p + count) 0

-- a number in so many bytes
unfoldable pub bytes_of : ℕ → ℕ → List ℕ
bytes_of zero n = []
bytes_of (suc count) n = bytes_of count (n / 256) ++ (n % 256 ∷ [])

-- how many numbers have room in so many bytes
unfoldable pub numbers_in : ℕ → ℕ
numbers_in zero = 1
numbers_in (suc count) = 256 * numbers_in count

-- two bytes, and four
abbrev pub word : List ℕ → ℕ → ℕ
word xs p = number_at 2 xs p

abbrev pub quad : List ℕ → ℕ → ℕ
quad xs p = number_at 4 xs p

abbrev pub two_bytes : ℕ → List ℕ
two_bytes n = bytes_of 2 n

abbrev pub four_bytes : ℕ → List ℕ
four_bytes n = bytes_of 4 n
