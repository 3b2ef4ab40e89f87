-- Warnings (document 02: marks): a byte holds a value that programs should not use. What it does to the device stays the rules'
-- own; the warning is answered beside it.
-- Assumes nothing.
use Rattle.std.specs.Prelude.{ℕ, ◌/◌, ◌%◌, Bool, [], ◌∷◌, eqb}
use Rattle.rules.specs.Choice.{◌⇒◌, first_of, every, any}
use Rattle.rules.specs.Selection.{selects}
use Rattle.rules.specs.Pending.{a_timing, b_timing, nothing, next}

abbrev pub no_warning : ℕ
no_warning = 0

abbrev pub operation_warning : ℕ
operation_warning = 1

abbrev pub timing_warning : ℕ
timing_warning = 2

abbrev pub mode_warning : ℕ
mode_warning = 3

-- no parameter is next, and the byte selects the register with this number
abbrev pub selects_now : ℕ → ℕ → ℕ → Bool
selects_now number next byte = every (eqb next nothing ∷ eqb (selects byte) number ∷ [])

-- WR0 with AA, bits 1-0, of 10 or 11
abbrev pub discouraged_operation : ℕ → ℕ → Bool
discouraged_operation next byte = every (selects_now 0 next byte ∷ any (eqb (byte % 4) 2 ∷ eqb (byte % 4) 3 ∷ []) ∷ [])

-- a timing byte, A's or B's, with bits 1-0 of 11
abbrev pub discouraged_timing : ℕ → ℕ → Bool
discouraged_timing next byte = every (any (eqb next a_timing ∷ eqb next b_timing ∷ []) ∷ eqb (byte % 4) 3 ∷ [])

-- WR4 with a mode, bits 6-5, of 00 or 11
abbrev pub discouraged_mode : ℕ → ℕ → Bool
discouraged_mode next byte = every (selects_now 4 next byte ∷ any (eqb (byte / 32 % 4) 0 ∷ eqb (byte / 32 % 4) 3 ∷ []) ∷ [])

-- the warning of a byte, by what is next
unfoldable pub warning_as : ℕ → ℕ → ℕ
warning_as next byte =
    first_of
    (discouraged_operation next byte ⇒ operation_warning
    ∷ discouraged_timing next byte ⇒ timing_warning
    ∷ discouraged_mode next byte ⇒ mode_warning
    ∷ [])
    no_warning

-- by what is pending
abbrev pub warning : ℕ → ℕ → ℕ
warning p byte = warning_as (next p) byte
