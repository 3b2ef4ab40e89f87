-- The lines that a session writes, as ASCII bytes. Every line ends with one line feed.
-- Assumes nothing.
use Rattle.std.specs.Prelude.{ℕ, zero, suc, ◌+◌, ◌/◌, ◌%◌, ◌≤◌, ◌<◌, ◌≡◌, List, [], ◌∷◌, ◌++◌, eqb, ltb, length}
use Rattle.rules.specs.Choice.{pick}
use Rattle.rules.specs.Buffers.{placed}
use Rattle.rules.specs.declared.Clocks.{Clocks}
use Rattle.records.specs.Records.{write_kind, read_kind, grant_kind}

-- the decimal digits of a number that has at most so many, without zeros in front
unfoldable pub decimal_to : ℕ → ℕ → List ℕ
decimal_to zero n = []
decimal_to (suc most) n = pick (ltb n 10) ((48 + n) ∷ []) (decimal_to most (n / 10) ++ ((48 + n % 10) ∷ []))

-- a number of 64 bits has at most 20 digits
abbrev pub decimal : ℕ → List ℕ
decimal n = decimal_to 20 n

-- the capital hex digit of a number below 16
unfoldable pub hex_digit : ℕ → ℕ
hex_digit d = pick (ltb d 10) (48 + d) (55 + d)

-- a number and the byte behind it
abbrev pub number_then : ℕ → ℕ → List ℕ
number_then n byte = decimal n ++ (byte ∷ [])

-- a letter, a space, a number
abbrev pub number_line : ℕ → ℕ → List ℕ
number_line letter number = letter ∷ 32 ∷ number_then number 10

-- a port write: W and its number; where there is a warning, a space and an exclamation mark behind it
unfoldable pub write_line : ℕ → ℕ → List ℕ
write_line number warning =
    pick (eqb warning 0) (number_line 87 number) (87 ∷ 32 ∷ (number_then number 32 ++ (33 ∷ 10 ∷ [])))

-- a port read: R and its number; an accepted one with the byte in two capital hex digits
unfoldable pub read_line : ℕ → ℕ → List ℕ
read_line number byte =
    pick (eqb number 0)
    (82 ∷ 32 ∷ 48 ∷ 32 ∷ hex_digit (byte / 16) ∷ hex_digit (byte % 16) ∷ 10 ∷ [])
    (number_line 82 number)

-- a record's line by its kind: W, R, G or M
unfoldable pub record_line : ℕ → ℕ → ℕ → ℕ → List ℕ
record_line kind number byte warning =
    pick (eqb kind write_kind) (write_line number warning)
    (pick (eqb kind read_kind) (read_line number byte)
    (pick (eqb kind grant_kind) (number_line 71 number) (number_line 77 number)))

-- W, a space, 0, a space, an exclamation mark and a line feed
abbrev pub marked_line : List ℕ
marked_line = 87 ∷ 32 ∷ 48 ∷ 32 ∷ 33 ∷ 10 ∷ []

-- a record's line as it was before there were warnings
unfoldable pub plain_line : ℕ → ℕ → ℕ → List ℕ
plain_line kind number byte =
    pick (eqb kind write_kind) (number_line 87 number)
    (pick (eqb kind read_kind) (read_line number byte)
    (pick (eqb kind grant_kind) (number_line 71 number) (number_line 77 number)))

-- where a line has the mark, and that no other line has changed
pub record LinesMarked : Type 0 where
  -- a port write that is accepted with a warning
  pub marked : (byte warning : ℕ) → (warning ≡ 0 → ⊥) → record_line write_kind 0 byte warning ≡ marked_line
  -- without a warning, and of every other kind whatever it is handed, the line of before
  pub unmarked : (kind number byte : ℕ) → record_line kind number byte 0 ≡ plain_line kind number byte
  pub others : (kind number byte warning : ℕ) → (kind ≡ write_kind → ⊥) → record_line kind number byte warning ≡ plain_line kind number byte

-- the last line of a session without a fault: B and the clock counts, bus, held, CPU
abbrev pub counts_line : Clocks → List ℕ
counts_line k = 66 ∷ 32 ∷ (number_then k.bus 32 ++ (number_then k.held 32 ++ number_then k.cpu 10))

-- the last line of a session with a fault: S and its number
abbrev pub fault_line : ℕ → List ℕ
fault_line number = number_line 83 number

-- these bytes were put into a list from this place on, and the next place is the one behind them; the length follows from
-- the first part, and is stated so that proofs find it
pub record Put (l : List ℕ) (at : ℕ) (bytes after : List ℕ) (next : ℕ) : Type 0 where
  pub list : after ≡ placed at bytes l
  pub place : next ≡ at + length bytes
  pub size : length after ≡ length l

-- the bytes that a list must have for a line; the longest, of three counts with 20 digits each, has 65
abbrev pub room : ℕ
room = 72

-- a line was put at the front of a list with room for one, and the answer is its length; a shorter list stays as it was, and
-- the answer is 0
pub record PutLine (l bytes after : List ℕ) (next : ℕ) : Type 0 where
  pub put : room ≤ length l → Put l 0 bytes after next
  pub short : length l < room → (after ≡ l) × (next ≡ 0)
  pub size : length after ≡ length l
