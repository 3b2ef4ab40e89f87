-- Lists of bytes: their elements, their parts, and what they are joined to.
-- Assumes nothing.
use Prim.Native.Nat.{ℕ, zero, suc, ◌<◌}
use native.Mathlib.Omega.{arith}
use mathlib.Core.List.{List, [], ◌∷◌, ◌++◌}
use lib.ListN.{get_or, take, drop}
use Rattle.rules.specs.Bytes.{AreBytes}

-- the byte at any place, 0 behind the last
pub byte_small : (xs : List ℕ) → AreBytes xs → (i : ℕ) → get_or xs i 0 < 256
unfolding AreBytes
byte_small [] h i = omega arith
byte_small (x ∷ xs) h zero = h.0
byte_small (x ∷ xs) h (suc i) = byte_small xs h.1 i

pub bytes_join : (xs ys : List ℕ) → AreBytes xs → AreBytes ys → AreBytes (xs ++ ys)
unfolding AreBytes
bytes_join [] ys h g = g
bytes_join (x ∷ xs) ys h g = (h.0, bytes_join xs ys h.1 g)

pub bytes_take : (n : ℕ) (xs : List ℕ) → AreBytes xs → AreBytes (take n xs)
unfolding AreBytes
bytes_take zero xs h = tt
bytes_take (suc n) [] h = tt
bytes_take (suc n) (x ∷ xs) h = (h.0, bytes_take n xs h.1)

pub bytes_drop : (n : ℕ) (xs : List ℕ) → AreBytes xs → AreBytes (drop n xs)
unfolding AreBytes
bytes_drop zero xs h = h
bytes_drop (suc n) [] h = tt
bytes_drop (suc n) (x ∷ xs) h = bytes_drop n xs h.1
