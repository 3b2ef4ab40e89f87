-- Which register a byte selects: seven tests, and the number of the register. Of the 256 bytes 24 pass none of the tests, and
-- none passes two.
-- Assumes nothing.
use Rattle.std.specs.Prelude.{ℕ, ◌%◌, Bool, not, List, [], ◌∷◌, leb, ltb, eqb}
use Rattle.rules.specs.Choice.{◌⇒◌, first_of, every}

-- 0xxxxxAA with AA not 00
abbrev pub is_wr0 : ℕ → Bool
is_wr0 byte = every (ltb byte 128 ∷ not (eqb (byte % 4) 0) ∷ [])

-- 0xxxx100
abbrev pub is_wr1 : ℕ → Bool
is_wr1 byte = every (ltb byte 128 ∷ eqb (byte % 8) 4 ∷ [])

-- 0xxxx000
abbrev pub is_wr2 : ℕ → Bool
is_wr2 byte = every (ltb byte 128 ∷ eqb (byte % 8) 0 ∷ [])

-- 1xxxxx00
abbrev pub is_wr3 : ℕ → Bool
is_wr3 byte = every (leb 128 byte ∷ eqb (byte % 4) 0 ∷ [])

-- 1xxxxx01
abbrev pub is_wr4 : ℕ → Bool
is_wr4 byte = every (leb 128 byte ∷ eqb (byte % 4) 1 ∷ [])

-- 10xxx010
abbrev pub is_wr5 : ℕ → Bool
is_wr5 byte = every (leb 128 byte ∷ ltb byte 192 ∷ eqb (byte % 8) 2 ∷ [])

-- 1xxxxx11
abbrev pub is_wr6 : ℕ → Bool
is_wr6 byte = every (leb 128 byte ∷ eqb (byte % 4) 3 ∷ [])

-- the seven tests of a byte
abbrev pub selections : ℕ → List Bool
selections byte = is_wr0 byte ∷ is_wr1 byte ∷ is_wr2 byte ∷ is_wr3 byte ∷ is_wr4 byte ∷ is_wr5 byte ∷ is_wr6 byte ∷ []

-- the number of the register, 0 to 6; 7 for none
unfoldable pub selects : ℕ → ℕ
selects byte =
    first_of
    (is_wr0 byte ⇒ 0 ∷ is_wr1 byte ⇒ 1 ∷ is_wr2 byte ⇒ 2 ∷ is_wr3 byte ⇒ 3 ∷ is_wr4 byte ⇒ 4 ∷ is_wr5 byte ⇒ 5 ∷ is_wr6 byte ⇒ 6 ∷ [])
    7
