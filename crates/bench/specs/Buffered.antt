-- The input buffer: the bytes at hand lie at its front, and those not taken move there before more are read.
-- Assumes nothing.
use Rattle.std.specs.Prelude.{ℕ, List, ◌++◌, length, take, drop}

-- so many bytes are at hand
abbrev pub at_hand : ℕ → List ℕ → List ℕ
at_hand have buffer = take have buffer

-- those of them that are not taken, from a place on
abbrev pub not_taken : ℕ → ℕ → List ℕ → List ℕ
not_taken at have buffer = drop at (at_hand have buffer)

-- the buffer with the bytes not taken at its front, in order; behind them it is as it was
unfoldable pub kept : ℕ → ℕ → List ℕ → List ℕ
kept at have buffer = not_taken at have buffer ++ drop (length (not_taken at have buffer)) buffer
