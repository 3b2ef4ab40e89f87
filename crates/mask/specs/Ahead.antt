-- The registers at or after a position.
-- Assumes nothing.
use Rattle.std.specs.Prelude.{ℕ, ◌-◌, ◌^◌}

-- as a mask: all seven are 127, and those before the position 2 to its power, less 1; this is the difference
unfoldable pub at_or_after : ℕ → ℕ
at_or_after position = 128 - 2 ^ position
