-- The registers found at the pairs of a list, summed.
-- Assumes nothing.
use Rattle.std.specs.Prelude.{◌≡◌, ℕ, ◌/◌, ◌%◌, List, sum_by}
use Rattle.rules.specs.Readback.{chosen}

-- a pair is a mask times 256, plus a position
abbrev pub found : ℕ → ℕ
found pair = chosen (pair / 256 % 256) (pair % 256)

abbrev pub sum : List ℕ → ℕ
sum pairs = sum_by found pairs

-- what a search gives at a mask and a position is the first register in the mask at or after the position
abbrev pub FindsChosen : (ℕ → ℕ → ℕ → Type 0) → Type 0
FindsChosen gives = (mask position register : ℕ) → gives mask position register → register ≡ chosen mask position
