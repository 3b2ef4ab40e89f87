-- The processor's speed, by the code that the device holds: 0 to 3 for 3.5, 7, 14 and 28 MHz. The clocks that are granted and
-- counted are of 28 MHz at every speed.
-- Assumes nothing.
use Rattle.std.specs.Prelude.{ℕ, Bool, List, [], ◌∷◌, leb, get_or}
use Rattle.rules.specs.Choice.{pick}
use Rattle.rules.specs.Parts.{with_speed, with_control}
use Rattle.rules.specs.declared.Core.{Core}

-- the largest code, 28 MHz
abbrev pub full_speed : ℕ
full_speed = 3

abbrev pub is_speed : ℕ → Bool
is_speed code = leb code full_speed

-- how many clocks each clock of a cycle takes, by the code
abbrev pub factors : List ℕ
factors = 8 ∷ 4 ∷ 2 ∷ 1 ∷ []

-- the factor of a code; one above 3, as no valid core has, counts as 28 MHz
unfoldable pub factor : ℕ → ℕ
factor code = pick (is_speed code) (get_or factors code 0) 1

-- the core at another speed; all else, a running slot too, stays
abbrev pub at_speed : ℕ → Core → Core
at_speed code c = with_control (with_speed code c.control) c
