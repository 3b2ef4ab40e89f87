-- Sessions worked out by hand, under one statement: document 01's sample, P1 of its bench sheet, each warning and its near
-- misses, each fault and cut, and a memory record that wraps.
-- Assumes nothing.
use Rattle.std.specs.Prelude.{ℕ, zero, suc, ◌+◌, ◌≡◌, List, [], ◌∷◌, ◌++◌, get_or, replicate}
use Prim.Native.Char.{code}
use Prim.Native.String.{String, len, char_at}
use Rattle.runs.specs.Sessions.{session}

-- a text of ASCII as bytes
unfoldable pub ascii_from : ℕ → ℕ → String → List ℕ
ascii_from zero at text = []
ascii_from (suc count) at text = code (char_at text at) ∷ ascii_from count (at + 1) text

abbrev pub ascii : String → List ℕ
ascii text = ascii_from (len text) 0 text

-- what is seen of a session: the lines, the fault, the first and the last byte of memory
pub record Seen : Type 0 where
  pub lines : List ℕ
  pub fault : ℕ
  pub first : ℕ
  pub last : ℕ

pub record Example : Type 0 where
  pub bytes : List ℕ
  pub lines : String
  pub fault : ℕ
  pub first : ℕ
  pub last : ℕ

abbrev pub example : List ℕ → String → ℕ → Example
example bytes lines fault = record { bytes = bytes; lines = lines; fault = fault; first = 0; last = 0 }

-- records: a port write on a port below 256, and on 006B; a port read of a port whose low byte is 6B; a grant of fewer than
-- 256 clocks
abbrev pub write_to : ℕ → ℕ → List ℕ
write_to port byte = 0 ∷ 4 ∷ 1 ∷ 0 ∷ port ∷ byte ∷ []

abbrev pub write : ℕ → List ℕ
write byte = write_to 0x6B byte

abbrev pub read : ℕ → List ℕ
read high = 0 ∷ 3 ∷ 2 ∷ high ∷ 0x6B ∷ []

abbrev pub grant : ℕ → List ℕ
grant clocks = 0 ∷ 5 ∷ 3 ∷ 0 ∷ 0 ∷ 0 ∷ clocks ∷ []

unfoldable pub writes : List ℕ → List ℕ
writes [] = []
writes (byte ∷ bytes) = write byte ++ writes bytes

abbrev pub examples : List Example
examples =
    example (1 ∷ grant 10 ++ read 0) "G 0\nR 0 3A\nB 0 0 10\n" 0
    -- P1: four bytes, and the seven registers
    ∷ example
    (1
    ∷ writes (0x83 ∷ 0x7D ∷ 0x00 ∷ 0x10 ∷ 0x04 ∷ 0x00 ∷ 0x54 ∷ 0x02 ∷ 0x50 ∷ 0x02 ∷ 0xAD ∷ 0x00 ∷ 0x20 ∷ 0x82 ∷ 0xCF ∷ 0x87 ∷ [])
    ++ write 0x83
    ++ grant 16
    ++ read 0
    ++ read 1
    ++ read 2
    ++ read 0
    ++ read 0
    ++ read 0
    ++ read 0xFF)
    "W 0\nW 0\nW 0\nW 0\nW 0\nW 0\nW 0\nW 0\nW 0\nW 0\nW 0\nW 0\nW 0\nW 0\nW 0\nW 0\nW 3\nG 0\nR 0 1B\nR 0 04\nR 0 00\nR 0 04\nR 0 10\nR 0 04\nR 0 20\nB 16 0 0\n"
    0
    -- AA of 10, 11 and 01, by both ports; with a parameter behind it
    ∷ example (1 ∷ writes (0x02 ∷ 0x03 ∷ 0x01 ∷ []) ++ write_to 0x0B 0x03) "W 0 !\nW 0 !\nW 0\nW 0 !\nB 0 0 0\n" 0
    ∷ example (1 ∷ writes (0x0E ∷ 0x02 ∷ 0x0F ∷ 0x03 ∷ 0x0D ∷ 0x03 ∷ [])) "W 0 !\nW 0\nW 0 !\nW 0\nW 0\nW 0\nB 0 0 0\n" 0
    -- A's timing of 11, 10, 01 and 00; B's of 11 with the prescaler 3 behind it, without one, and of 10
    ∷ example (1 ∷ writes (0x44 ∷ 0x03 ∷ 0x44 ∷ 0x02 ∷ 0x44 ∷ 0x01 ∷ 0x44 ∷ 0x00 ∷ [])) "W 0\nW 0 !\nW 0\nW 0\nW 0\nW 0\nW 0\nW 0\nB 0 0 0\n" 0
    ∷ example (1 ∷ writes (0x40 ∷ 0x23 ∷ 0x03 ∷ 0x40 ∷ 0xDF ∷ 0x40 ∷ 0x02 ∷ [])) "W 0\nW 0 !\nW 0\nW 0\nW 0 !\nW 0\nW 0\nB 0 0 0\n" 0
    -- WR4's modes 00, 01, 10 and 11; 00 and 11 in its other bits
    ∷ example (1 ∷ writes (0x81 ∷ 0xA1 ∷ 0xC1 ∷ 0xE1 ∷ 0xB1 ∷ 0xD1 ∷ [])) "W 0 !\nW 0\nW 0\nW 0 !\nW 0\nW 0\nB 0 0 0\n" 0
    -- 03, 81 and E1 as addresses, E1 and 03 as a length; 03, 81 and E1 as the mask
    ∷ example (1 ∷ writes (0x79 ∷ 0x03 ∷ 0x81 ∷ 0xE1 ∷ 0x03 ∷ 0xAD ∷ 0x81 ∷ 0xE1 ∷ [])) "W 0\nW 0\nW 0\nW 0\nW 0\nW 0\nW 0\nW 0\nB 0 0 0\n" 0
    ∷ example (1 ∷ writes (0xBB ∷ 0x03 ∷ 0xBB ∷ 0x81 ∷ 0xBB ∷ 0xE1 ∷ [])) "W 0\nW 0\nW 0\nW 0\nW 0\nW 0\nB 0 0 0\n" 0
    -- WR3, WR5 and WR6 with the same bits, and bytes that select no register
    ∷ example (1 ∷ writes (0x80 ∷ 0x82 ∷ 0x83 ∷ 0xE3 ∷ 0x86 ∷ 0xE2 ∷ [])) "W 0\nW 0\nW 0\nW 0\nW 0\nW 0\nB 0 0 0\n" 0
    -- refused for its port, and while the bus is held
    ∷ example (1 ∷ write_to 0x6C 0x03 ++ write_to 0x0B 0x87 ++ write 0x03) "W 2\nW 0\nW 3\nB 0 0 0\n" 0
    -- a wrong port, and a count of more than one digit
    ∷ example (1 ∷ 0 ∷ 3 ∷ 2 ∷ 0 ∷ 0x6C ∷ grant 200) "R 2\nG 0\nB 0 0 200\n" 0
    -- no record; no version; another version, whatever comes behind it
    ∷ example (1 ∷ []) "B 0 0 0\n" 0
    ∷ example [] "S 20\n" 20
    ∷ example (2 ∷ grant 10) "S 20\n" 20
    -- cut short in the length, behind it, and before the last byte, behind a record that is not
    ∷ example (1 ∷ 0 ∷ []) "S 21\n" 21
    ∷ example (1 ∷ 0 ∷ 4 ∷ []) "S 21\n" 21
    ∷ example (1 ∷ grant 1 ++ (0 ∷ 4 ∷ 1 ∷ 0 ∷ 0x6B ∷ [])) "G 0\nS 21\n" 21
    -- cut short, and of a length or a kind that is wrong: 21 comes first
    ∷ example (1 ∷ 0 ∷ 9 ∷ 1 ∷ 0 ∷ 0x6B ∷ 0 ∷ []) "S 21\n" 21
    ∷ example (1 ∷ 0xFF ∷ 0xFF ∷ 9 ∷ []) "S 21\n" 21
    -- no kind; kinds that are none; lengths that are wrong
    ∷ example (1 ∷ 0 ∷ 0 ∷ []) "S 22\n" 22
    ∷ example (1 ∷ 0 ∷ 1 ∷ 0 ∷ []) "S 22\n" 22
    ∷ example (1 ∷ 0 ∷ 4 ∷ 5 ∷ 0 ∷ 0x6B ∷ 0 ∷ []) "S 22\n" 22
    ∷ example (1 ∷ 0 ∷ 3 ∷ 1 ∷ 0 ∷ 0x6B ∷ []) "S 22\n" 22
    ∷ example (1 ∷ 0 ∷ 4 ∷ 2 ∷ 0 ∷ 0x6B ∷ 0 ∷ []) "S 22\n" 22
    ∷ example (1 ∷ 0 ∷ 4 ∷ 3 ∷ 0 ∷ 0 ∷ 1 ∷ []) "S 22\n" 22
    ∷ example (1 ∷ 0 ∷ 3 ∷ 4 ∷ 0 ∷ 0 ∷ []) "S 22\n" 22
    -- a memory record of 255 bytes, and one of 256: too long, or cut short
    ∷ example (1 ∷ 1 ∷ 2 ∷ 4 ∷ 0 ∷ 1 ∷ replicate 255 9) "M 0\nB 0 0 0\n" 0
    ∷ example (1 ∷ 1 ∷ 3 ∷ 4 ∷ 0 ∷ 1 ∷ replicate 256 9) "S 22\n" 22
    ∷ example (1 ∷ 1 ∷ 3 ∷ 4 ∷ 0 ∷ 1 ∷ replicate 255 9) "S 21\n" 21
    -- a memory record that wraps at 65,536, before a fault that ends the session
    ∷ record {
      bytes = 1 ∷ 0 ∷ 5 ∷ 4 ∷ 0xFF ∷ 0xFF ∷ 7 ∷ 8 ∷ 0 ∷ 0 ∷ [] ++ grant 10;
      lines = "M 0\nS 22\n";
      fault = 22;
      first = 8;
      last = 7;
    }
    ∷ []

-- what is seen of each, and what must be
unfoldable pub seen : List Example → List Seen
seen [] = []
seen (e ∷ es) =
    record {
      lines = (session e.bytes).lines;
      fault = (session e.bytes).fault;
      first = get_or (session e.bytes).system.world.buffers.memory 0 0;
      last = get_or (session e.bytes).system.world.buffers.memory 65535 0;
    }
    ∷ seen es

unfoldable pub must : List Example → List Seen
must [] = []
must (e ∷ es) = record { lines = ascii e.lines; fault = e.fault; first = e.first; last = e.last } ∷ must es

abbrev pub ExamplesHold : Type 0
ExamplesHold = seen examples ≡ must examples
