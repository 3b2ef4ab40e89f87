-- The worked examples (document 01: bench sheet). The rows whose names begin with P stand in document 01; the others are
-- ours, each for a rule that those would let slip.
-- Assumes nothing.
use Rattle.std.specs.Prelude.{ℕ, ◌*◌, ◌-◌, ◌≡◌, Bool, true, false, List, [], ◌∷◌, ◌++◌}
use Prim.Native.String.{String}
use Rattle.rules.specs.Parts.{with_cycle, with_counter, with_mask, with_position, with_a, with_b, with_block, with_readback, with_pending, in_slot}
use Rattle.rules.specs.declared.Core.{Core}
use Rattle.rules.specs.Speed.{at_speed}
use Rattle.rules.specs.Slots.{slot_length}
use Rattle.rules.specs.Floored.{in_burst}
use Rattle.rules.specs.Bytes.{low_byte, high_byte}
use Rattle.examples.specs.Rows.{Action, Row, row, fill, latch, send, send_warned, send_refused, expect, expect_refused, speed, speed_refused, clocks, borrow, counts, memory, latches, pointers, counter, status, enabled, count, suppose, suppose_core, suppose_counts, clocks_refused, floor, figure, changed, next_move, start, failures}

-- the bytes of P1: port A at 1000, four bytes, to port B at 2000, cycles of 2 clocks, continuous
abbrev pub sheet : List ℕ
sheet = 0x83 ∷ 0x7D ∷ 0x00 ∷ 0x10 ∷ 0x04 ∷ 0x00 ∷ 0x54 ∷ 0x02 ∷ 0x50 ∷ 0x02 ∷ 0xAD ∷ 0x00 ∷ 0x20 ∷ 0x82 ∷ 0xCF ∷ 0x87 ∷ []

-- the same bytes for a block from a of n bytes to b, with other bytes after WR2, another WR4 and another WR5
abbrev pub program : ℕ → ℕ → List ℕ → ℕ → ℕ → ℕ → List ℕ
program a n timing wr4 b wr5 =
    0x83 ∷ 0x7D ∷ low_byte a ∷ high_byte a ∷ low_byte n ∷ high_byte n ∷ 0x54 ∷ 0x02 ∷ 0x50
    ∷ (timing ++ (wr4 ∷ low_byte b ∷ high_byte b ∷ wr5 ∷ 0xCF ∷ 0x87 ∷ []))

-- the 24 bytes that select no register, and the commands that do nothing
abbrev pub idle : List ℕ
idle =
    0x86 ∷ 0x8E ∷ 0x96 ∷ 0x9E ∷ 0xA6 ∷ 0xAE ∷ 0xB6 ∷ 0xBE ∷ 0xC2 ∷ 0xC6 ∷ 0xCA ∷ 0xCE ∷ 0xD2 ∷ 0xD6 ∷ 0xDA ∷ 0xDE
    ∷ 0xE2 ∷ 0xE6 ∷ 0xEA ∷ 0xEE ∷ 0xF2 ∷ 0xF6 ∷ 0xFA ∷ 0xFE
    ∷ 0x8F ∷ 0x93 ∷ 0x97 ∷ 0x9B ∷ 0x9F ∷ 0xA3 ∷ 0xAB ∷ 0xAF ∷ 0xB3 ∷ 0xB7 ∷ 0xD7 ∷ 0xDB ∷ 0xDF ∷ 0xE3 ∷ 0xE7 ∷ 0xEB
    ∷ 0xEF ∷ 0xF3 ∷ 0xF7 ∷ 0xFB ∷ 0xFF ∷ []

-- the number of the pending parameters
abbrev pub pending_number : Core → ℕ
pending_number c = c.pending

-- in a burst wait with 22 clocks of its slot left: they run on, and with the last of them the block ends and the device is
-- disabled
abbrev pub ends_with_the_slot : List Action
ends_with_the_slot = clocks 21 ∷ enabled true ∷ status 0x3B ∷ clocks 1 ∷ enabled false ∷ status 0x1B ∷ []

-- the speed code
abbrev pub speed_code : Core → ℕ
speed_code c = c.control.speed

-- P1 at a speed: a byte in so many clocks, all of them on the bus
abbrev pub slowed : String → ℕ → ℕ → Row
slowed name code bus =
    row name
    (speed code
    ∷ send 0x6B sheet
    ∷ figure speed_code code
    ∷ clocks (bus - 1)
    ∷ counter 0
    ∷ memory 0x2000 (0xE1 ∷ [])
    ∷ clocks 1
    ∷ counter 1
    ∷ memory 0x2000 (0xA1 ∷ 0xE2 ∷ [])
    ∷ counts bus 0 0
    ∷ clocks (3 * bus - 1)
    ∷ enabled true
    ∷ clocks 1
    ∷ enabled false
    ∷ counts (4 * bus) 0 0
    ∷ [])

-- P4 at a speed: of the 32 clocks of a byte so many are on the bus, and so many are the processor's
abbrev pub slowed_with_prescaler : String → ℕ → ℕ → ℕ → Row
slowed_with_prescaler name code bus cpu =
    row name
    (speed code
    ∷ send 0x6B (program 0x1000 3 (0x22 ∷ 0x01 ∷ []) 0xCD 0x2000 0x82)
    ∷ clocks 32
    ∷ counter 1
    ∷ counts bus 0 cpu
    ∷ clocks 63
    ∷ enabled true
    ∷ clocks 1
    ∷ enabled false
    ∷ counts (3 * bus) 0 (3 * cpu)
    ∷ [])

-- cycles of 4 + 4 at 3.5 MHz, which are 64 clocks, with a prescaler, in burst: the slot's length, and what comes of this many
-- clocks more
abbrev pub slowest : String → ℕ → ℕ → ℕ → Bool → Row
slowest name prescaler length more on =
    row name
    (speed 0
    ∷ send 0x0B (0xC1 ∷ 0x50 ∷ 0x20 ∷ prescaler ∷ 0x87 ∷ [])
    ∷ clocks 63
    ∷ counter 0
    ∷ figure (λ c. c.slot.bus) 64
    ∷ figure (λ c. c.slot.length) length
    ∷ clocks 1
    ∷ counter 1
    ∷ clocks more
    ∷ enabled on
    ∷ counts 64 0 more
    ∷ [])

-- P3: three clocks move nothing, and the bus is held; the fourth moves the byte
abbrev pub three_clocks : Row
three_clocks =
    row "P3"
    (send 0x6B sheet
    ∷ clocks 3
    ∷ memory 0x2000 (0xE1 ∷ 0xE2 ∷ 0xE3 ∷ 0xE4 ∷ 0xE5 ∷ 0xE6 ∷ [])
    ∷ counter 0
    ∷ status 0x3A
    ∷ pointers 0x1000 0x2000
    ∷ send_refused 0x6B 0x83 3
    ∷ expect_refused 0x6B 3
    ∷ counts 3 0 0
    ∷ clocks 1
    ∷ memory 0x2000 (0xA1 ∷ 0xE2 ∷ [])
    ∷ counter 1
    ∷ status 0x3B
    ∷ [])

-- compatibility mode by a parameter: a parameter's port sets the mode; a read's does not
abbrev pub mode_by_parameter : Row
mode_by_parameter =
    row "compatibility mode by a parameter"
    (send 0x6B (0x65 ∷ [])
    ∷ send 0x0B (0x05 ∷ [])
    ∷ count 6
    ∷ send 0x6B (0x01 ∷ [])
    ∷ count 0x105
    ∷ send 0x0B (0x83 ∷ [])
    ∷ count 0x106
    ∷ expect 0x6B (0x3A ∷ [])
    ∷ count 0x106
    ∷ [])

-- P8: an overlap: each byte is read after the one before it was written
abbrev pub overlap : Row
overlap =
    row "P8"
    (fill 0x1000 (0x11 ∷ 0x22 ∷ 0x33 ∷ 0x44 ∷ 0x55 ∷ 0x66 ∷ [])
    ∷ send 0x6B (program 0x1000 4 (0x02 ∷ []) 0xAD 0x1001 0x82)
    ∷ clocks 15
    ∷ enabled true
    ∷ clocks 1
    ∷ enabled false
    ∷ memory 0x1000 (0x11 ∷ 0x11 ∷ 0x11 ∷ 0x11 ∷ 0x11 ∷ 0x66 ∷ [])
    ∷ counts 16 0 0
    ∷ [])

abbrev pub table : List Row
table =
    -- P1: four bytes in 16 clocks, then all seven registers
    row "P1"
    (send 0x6B sheet
    ∷ enabled true
    ∷ clocks 16
    ∷ enabled false
    ∷ counts 16 0 0
    ∷ memory 0x2000 (0xA1 ∷ 0xA2 ∷ 0xA3 ∷ 0xA4 ∷ 0xE5 ∷ 0xE6 ∷ [])
    ∷ memory 0x1000 (0xA1 ∷ 0xA2 ∷ 0xA3 ∷ 0xA4 ∷ 0xA5 ∷ 0xA6 ∷ [])
    ∷ pointers 0x1004 0x2004
    ∷ expect 0x6B (0x1B ∷ 0x04 ∷ 0x00 ∷ 0x04 ∷ 0x10 ∷ 0x04 ∷ 0x20 ∷ [])
    ∷ [])
    -- P2: the same bytes in Zilog mode: one byte more
    ∷ row "P2"
    (send 0x0B sheet
    ∷ clocks 20
    ∷ enabled false
    ∷ counts 20 0 0
    ∷ memory 0x2000 (0xA1 ∷ 0xA2 ∷ 0xA3 ∷ 0xA4 ∷ 0xA5 ∷ 0xE6 ∷ [])
    ∷ pointers 0x1005 0x2005
    ∷ expect 0x0B (0x1B ∷ 0x05 ∷ 0x00 ∷ 0x05 ∷ 0x10 ∷ 0x05 ∷ 0x20 ∷ [])
    ∷ [])
    ∷ three_clocks
    -- P4: prescaler 1 in burst: 32 clocks for each byte, of which the processor has 28
    ∷ row "P4"
    (send 0x6B (program 0x1000 3 (0x22 ∷ 0x01 ∷ []) 0xCD 0x2000 0x82)
    ∷ clocks 96
    ∷ counts 12 0 84
    ∷ enabled false
    ∷ status 0x1B
    ∷ memory 0x2000 (0xA1 ∷ 0xA2 ∷ 0xA3 ∷ 0xE4 ∷ [])
    ∷ pointers 0x1003 0x2003
    ∷ [])
    -- P5: P4 in continuous: the wait is held, also after the last byte
    ∷ row "P5"
    (send 0x6B (program 0x1000 3 (0x22 ∷ 0x01 ∷ []) 0xAD 0x2000 0x82)
    ∷ clocks 96
    ∷ counts 12 84 0
    ∷ enabled false
    ∷ status 0x1B
    ∷ memory 0x2000 (0xA1 ∷ 0xA2 ∷ 0xA3 ∷ 0xE4 ∷ [])
    ∷ [])
    -- P6: a block of no bytes in zxn mode
    ∷ row "P6"
    (send 0x6B (program 0x1000 0 (0x02 ∷ []) 0xAD 0x2000 0x82)
    ∷ enabled false
    ∷ clocks 10
    ∷ status 0x1A
    ∷ counts 0 0 10
    ∷ memory 0x2000 (0xE1 ∷ 0xE2 ∷ 0xE3 ∷ 0xE4 ∷ 0xE5 ∷ 0xE6 ∷ [])
    ∷ counter 0
    ∷ expect 0x6B (0x1A ∷ 0x00 ∷ 0x00 ∷ 0x00 ∷ 0x10 ∷ 0x00 ∷ 0x20 ∷ [])
    ∷ [])
    -- P7: a length of 0 in Zilog mode: one byte
    ∷ row "P7"
    (send 0x0B (program 0x1000 0 (0x02 ∷ []) 0xAD 0x2000 0x82)
    ∷ clocks 3
    ∷ enabled true
    ∷ memory 0x2000 (0xE1 ∷ 0xE2 ∷ 0xE3 ∷ 0xE4 ∷ 0xE5 ∷ 0xE6 ∷ [])
    ∷ clocks 1
    ∷ enabled false
    ∷ counts 4 0 0
    ∷ memory 0x2000 (0xA1 ∷ 0xE2 ∷ [])
    ∷ counter 1
    ∷ [])
    ∷ overlap
    -- P9: the pointer goes from FFFF to 0000
    ∷ row "P9"
    (fill 0xFFFF (0xC1 ∷ [])
    ∷ fill 0 (0xC2 ∷ 0xC3 ∷ [])
    ∷ send 0x6B (program 0xFFFF 2 (0x02 ∷ []) 0xAD 0x2000 0x82)
    ∷ clocks 7
    ∷ enabled true
    ∷ clocks 1
    ∷ enabled false
    ∷ memory 0x2000 (0xC1 ∷ 0xC2 ∷ 0xE3 ∷ [])
    ∷ pointers 0x0001 0x2002
    ∷ expect 0x6B (0x1B ∷ 0x02 ∷ 0x00 ∷ 0x01 ∷ 0x00 ∷ 0x02 ∷ 0x20 ∷ [])
    ∷ [])
    -- P10: the longest block: its count, and the counter read modulo 65,536 (not run)
    ∷ row "P10"
    (send 0x0B (program 0x1000 0xFFFF (0x02 ∷ []) 0xAD 0x2000 0x82)
    ∷ count 65536
    ∷ suppose 65535
    ∷ send 0x0B (0x87 ∷ [])
    ∷ enabled true
    ∷ clocks 4
    ∷ enabled false
    ∷ counter 65536
    ∷ send 0x0B (0x87 ∷ [])
    ∷ enabled false
    ∷ expect 0x0B (0x1B ∷ 0x00 ∷ 0x00 ∷ [])
    ∷ suppose 0x1234
    ∷ send 0x0B (0xA7 ∷ [])
    ∷ expect 0x0B (0x1B ∷ 0x34 ∷ 0x12 ∷ [])
    ∷ [])
    -- P11: Enable after a finished block moves nothing
    ∷ row "P11"
    (send 0x6B sheet
    ∷ clocks 16
    ∷ send 0x6B (0x87 ∷ [])
    ∷ enabled false
    ∷ status 0x1B
    ∷ clocks 16
    ∷ counts 16 0 16
    ∷ memory 0x2000 (0xA1 ∷ 0xA2 ∷ 0xA3 ∷ 0xA4 ∷ 0xE5 ∷ 0xE6 ∷ [])
    ∷ pointers 0x1004 0x2004
    ∷ counter 4
    ∷ [])
    -- P12: a port that is not the device's, also while the bus is held
    ∷ row "P12"
    (send_refused 0x006C 0x83 2
    ∷ expect_refused 0x006C 2
    ∷ send 0x6B sheet
    ∷ send_refused 0x6B 0x83 3
    ∷ send_refused 0x006C 0x83 2
    ∷ expect_refused 0x006C 2
    ∷ enabled true
    ∷ [])
    -- auto restart: the pointers reload, the counter becomes 0, E falls and the block begins again
    ∷ row "auto restart"
    (send 0x6B (program 0x1000 2 (0x02 ∷ []) 0xAD 0x2000 0xA2)
    ∷ clocks 7
    ∷ status 0x3B
    ∷ clocks 1
    ∷ enabled true
    ∷ status 0x1B
    ∷ pointers 0x1000 0x2000
    ∷ counter 0
    ∷ fill 0x1000 (0xB1 ∷ 0xB2 ∷ [])
    ∷ clocks 8
    ∷ memory 0x2000 (0xB1 ∷ 0xB2 ∷ 0xE3 ∷ [])
    ∷ counts 16 0 0
    ∷ enabled true
    ∷ [])
    -- prescaler in a wait: a new prescaler leaves the running slot and sets the next one
    ∷ row "prescaler in a wait"
    (send 0x6B (program 0x1000 3 (0x22 ∷ 0x02 ∷ []) 0xCD 0x2000 0x82)
    ∷ clocks 10
    ∷ send 0x6B (0x50 ∷ 0x22 ∷ 0x01 ∷ [])
    ∷ clocks 54
    ∷ counts 4 0 60
    ∷ clocks 4
    ∷ memory 0x2000 (0xA1 ∷ 0xA2 ∷ 0xE3 ∷ [])
    ∷ counts 8 0 60
    ∷ clocks 28
    ∷ counts 8 0 88
    ∷ clocks 4
    ∷ counts 12 0 88
    ∷ memory 0x2000 (0xA1 ∷ 0xA2 ∷ 0xA3 ∷ 0xE4 ∷ [])
    ∷ [])
    -- addresses and length in a wait: the pointers stay until Load; the length counts at the end of the slot
    ∷ row "addresses and length in a wait"
    (send 0x6B (program 0x1000 3 (0x22 ∷ 0x01 ∷ []) 0xCD 0x2000 0x82)
    ∷ clocks 10
    ∷ send 0x6B (0x7D ∷ 0x00 ∷ 0x30 ∷ 0x01 ∷ 0x00 ∷ [])
    ∷ pointers 0x1001 0x2001
    ∷ (ends_with_the_slot ++
    (counts 4 0 28
    ∷ memory 0x2000 (0xA1 ∷ 0xE2 ∷ [])
    ∷ expect 0x6B (0x1B ∷ 0x01 ∷ 0x00 ∷ 0x01 ∷ 0x10 ∷ 0x01 ∷ 0x20 ∷ [])
    ∷ [])))
    -- mode in a wait: after WR4 the slot stays burst, and the next is continuous
    ∷ row "mode in a wait"
    (send 0x6B (program 0x1000 2 (0x22 ∷ 0x01 ∷ []) 0xCD 0x2000 0x82)
    ∷ clocks 10
    ∷ send 0x6B (0xA1 ∷ [])
    ∷ clocks 22
    ∷ counts 4 0 28
    ∷ clocks 32
    ∷ counts 8 28 28
    ∷ enabled false
    ∷ [])
    -- Load in a wait: the counter becomes 0, the pointers reload, and the wait runs on
    ∷ row "Load in a wait"
    (send 0x6B (program 0x1000 3 (0x22 ∷ 0x01 ∷ []) 0xCD 0x2000 0x82)
    ∷ clocks 10
    ∷ send 0x6B (0xCF ∷ [])
    ∷ counter 0
    ∷ pointers 0x1000 0x2000
    ∷ clocks 117
    ∷ enabled true
    ∷ clocks 1
    ∷ enabled false
    ∷ counts 16 0 112
    ∷ memory 0x2000 (0xA1 ∷ 0xA2 ∷ 0xA3 ∷ 0xE4 ∷ [])
    ∷ expect 0x6B (0x1B ∷ 0x03 ∷ 0x00 ∷ 0x03 ∷ 0x10 ∷ 0x03 ∷ 0x20 ∷ [])
    ∷ [])
    -- Continue in a wait: the counter becomes 0, the pointers stay, and the wait runs on
    ∷ row "Continue in a wait"
    (send 0x6B (program 0x1000 3 (0x22 ∷ 0x01 ∷ []) 0xCD 0x2000 0x82)
    ∷ clocks 10
    ∷ send 0x6B (0xD3 ∷ [])
    ∷ counter 0
    ∷ pointers 0x1001 0x2001
    ∷ clocks 117
    ∷ enabled true
    ∷ clocks 1
    ∷ enabled false
    ∷ counts 16 0 112
    ∷ memory 0x2000 (0xA1 ∷ 0xA2 ∷ 0xA3 ∷ 0xA4 ∷ 0xE5 ∷ [])
    ∷ [])
    -- Disable in a wait: the wait is dropped; Enable goes on with a slot of its own
    ∷ row "Disable in a wait"
    (send 0x6B (program 0x1000 3 (0x22 ∷ 0x01 ∷ []) 0xCD 0x2000 0x82)
    ∷ clocks 10
    ∷ send 0x6B (0x83 ∷ [])
    ∷ enabled false
    ∷ status 0x3B
    ∷ clocks 54
    ∷ counts 4 0 60
    ∷ memory 0x2000 (0xA1 ∷ 0xE2 ∷ [])
    ∷ send 0x6B (0x87 ∷ [])
    ∷ enabled true
    ∷ status 0x3B
    ∷ clocks 4
    ∷ memory 0x2000 (0xA1 ∷ 0xA2 ∷ 0xE3 ∷ [])
    ∷ counts 8 0 60
    ∷ expect 0x6B (0x3B ∷ 0x02 ∷ [])
    ∷ [])
    -- Disable in the last wait: E stays set until an Enable clears it
    ∷ row "Disable in the last wait"
    (send 0x6B (program 0x1000 1 (0x22 ∷ 0x01 ∷ []) 0xCD 0x2000 0x82)
    ∷ clocks 31
    ∷ status 0x3B
    ∷ enabled true
    ∷ send 0x6B (0x83 ∷ [])
    ∷ enabled false
    ∷ status 0x3B
    ∷ send 0x6B (0x87 ∷ [])
    ∷ enabled false
    ∷ status 0x1B
    ∷ expect 0x6B (0x1B ∷ 0x01 ∷ [])
    ∷ [])
    -- Reset in a wait: disabled, cycles 4, prescaler 0, no restart, status 3A, mask 7F; pointers, counter and length stay
    ∷ row "Reset in a wait"
    (send 0x6B (program 0x1000 3 (0x22 ∷ 0x01 ∷ []) 0xCD 0x2000 0xA2)
    ∷ clocks 10
    ∷ send 0x6B (0xBB ∷ 0x02 ∷ 0xBF ∷ 0xC3 ∷ [])
    ∷ enabled false
    ∷ status 0x3A
    ∷ pointers 0x1001 0x2001
    ∷ counter 1
    ∷ expect 0x6B (0x3A ∷ 0x01 ∷ 0x00 ∷ 0x01 ∷ 0x10 ∷ 0x01 ∷ 0x20 ∷ [])
    ∷ send 0x6B (0x87 ∷ [])
    ∷ clocks 7
    ∷ counter 1
    ∷ clocks 1
    ∷ counter 2
    ∷ clocks 7
    ∷ enabled true
    ∷ clocks 1
    ∷ enabled false
    ∷ status 0x1B
    ∷ counts 20 0 6
    ∷ memory 0x2000 (0xA1 ∷ 0xA2 ∷ 0xA3 ∷ 0xE4 ∷ [])
    ∷ [])
    -- compatibility mode in a wait: an ignored byte on the other port makes the block one longer
    ∷ row "compatibility mode in a wait"
    (send 0x6B (program 0x1000 1 (0x22 ∷ 0x01 ∷ []) 0xCD 0x2000 0x82)
    ∷ clocks 10
    ∷ count 1
    ∷ send 0x0B (0x86 ∷ [])
    ∷ count 2
    ∷ clocks 22
    ∷ enabled true
    ∷ clocks 31
    ∷ enabled true
    ∷ clocks 1
    ∷ enabled false
    ∷ counts 8 0 56
    ∷ memory 0x2000 (0xA1 ∷ 0xA2 ∷ 0xE3 ∷ [])
    ∷ [])
    ∷ mode_by_parameter
    -- length 0 in a wait: auto restart with a block count of 0 disables at the end of the slot
    ∷ row "length 0 in a wait"
    (send 0x6B (program 0x1000 2 (0x22 ∷ 0x01 ∷ []) 0xCD 0x2000 0xA2)
    ∷ clocks 10
    ∷ send 0x6B (0x65 ∷ 0x00 ∷ 0x00 ∷ [])
    ∷ (ends_with_the_slot ++
    (counts 4 0 28
    ∷ counter 1
    ∷ expect 0x6B (0x1B ∷ 0x01 ∷ [])
    ∷ send 0x6B (0x65 ∷ 0x01 ∷ 0x00 ∷ 0xD3 ∷ 0x87 ∷ [])
    ∷ clocks 32
    ∷ enabled true
    ∷ counter 0
    ∷ [])))
    -- length 0 in a wait without auto restart: the same end
    ∷ row "length 0 without auto restart"
    (send 0x6B (program 0x1000 2 (0x22 ∷ 0x01 ∷ []) 0xCD 0x2000 0x82)
    ∷ clocks 10
    ∷ send 0x6B (0x65 ∷ 0x00 ∷ 0x00 ∷ [])
    ∷ count 0
    ∷ (ends_with_the_slot ++
    (clocks 5
    ∷ counter 1
    ∷ pointers 0x1001 0x2001
    ∷ counts 4 0 33
    ∷ [])))
    -- length lowered to the counter in a wait: the wait goes on, and the slot's last clock ends the block
    ∷ row "length lowered to the counter"
    (send 0x6B (program 0x1000 4 (0x22 ∷ 0x01 ∷ []) 0xCD 0x2000 0x82)
    ∷ clocks 42
    ∷ counter 2
    ∷ send 0x6B (0x65 ∷ 0x02 ∷ 0x00 ∷ [])
    ∷ count 2
    ∷ status 0x3B
    ∷ (ends_with_the_slot ++
    (clocks 5
    ∷ counter 2
    ∷ counts 8 0 61
    ∷ memory 0x2000 (0xA1 ∷ 0xA2 ∷ 0xE3 ∷ [])
    ∷ [])))
    -- length lowered below the counter: the same, and Enable finds the block finished
    ∷ row "length lowered below the counter"
    (send 0x6B (program 0x1000 4 (0x22 ∷ 0x01 ∷ []) 0xCD 0x2000 0x82)
    ∷ clocks 42
    ∷ send 0x6B (0x65 ∷ 0x01 ∷ 0x00 ∷ [])
    ∷ count 1
    ∷ (ends_with_the_slot ++
    (counter 2
    ∷ send 0x6B (0x8B ∷ 0x87 ∷ [])
    ∷ enabled false
    ∷ status 0x1A
    ∷ clocks 5
    ∷ counter 2
    ∷ counts 8 0 61
    ∷ memory 0x2000 (0xA1 ∷ 0xA2 ∷ 0xE3 ∷ [])
    ∷ [])))
    -- length lowered below the counter under auto restart: the block begins again with its new length
    ∷ row "length lowered under auto restart"
    (send 0x6B (program 0x1000 4 (0x22 ∷ 0x01 ∷ []) 0xCD 0x2000 0xA2)
    ∷ clocks 42
    ∷ send 0x6B (0x65 ∷ 0x01 ∷ 0x00 ∷ [])
    ∷ clocks 22
    ∷ enabled true
    ∷ status 0x1B
    ∷ counter 0
    ∷ pointers 0x1000 0x2000
    ∷ clocks 4
    ∷ counter 1
    ∷ pointers 0x1001 0x2001
    ∷ clocks 28
    ∷ enabled true
    ∷ counter 0
    ∷ pointers 0x1000 0x2000
    ∷ counts 12 0 84
    ∷ memory 0x2000 (0xA1 ∷ 0xA2 ∷ 0xE3 ∷ [])
    ∷ [])
    -- length lowered and raised again in the same wait: the block goes on
    ∷ row "length lowered and raised in a wait"
    (send 0x6B (program 0x1000 2 (0x22 ∷ 0x01 ∷ []) 0xCD 0x2000 0x82)
    ∷ clocks 10
    ∷ send 0x6B (0x65 ∷ 0x00 ∷ 0x00 ∷ [])
    ∷ count 0
    ∷ clocks 21
    ∷ send 0x6B (0x65 ∷ 0x02 ∷ 0x00 ∷ [])
    ∷ clocks 1
    ∷ enabled true
    ∷ status 0x3B
    ∷ counter 1
    ∷ clocks 32
    ∷ enabled false
    ∷ counts 8 0 56
    ∷ memory 0x2000 (0xA1 ∷ 0xA2 ∷ 0xE3 ∷ [])
    ∷ [])
    -- length 0 and Load in a wait: counter and block count are both 0, and the slot's last clock ends the block
    ∷ row "length 0 and Load in a wait"
    (send 0x6B (program 0x1000 2 (0x22 ∷ 0x01 ∷ []) 0xCD 0x2000 0x82)
    ∷ clocks 10
    ∷ send 0x6B (0x65 ∷ 0x00 ∷ 0x00 ∷ 0xCF ∷ [])
    ∷ count 0
    ∷ counter 0
    ∷ (ends_with_the_slot ++
    (pointers 0x1000 0x2000
    ∷ clocks 5
    ∷ counts 4 0 33
    ∷ memory 0x2000 (0xA1 ∷ 0xE2 ∷ [])
    ∷ [])))
    -- length 0 and Continue in a wait under auto restart: the same, since there is no byte to begin again with
    ∷ row "length 0 and Continue in a wait"
    (send 0x6B (program 0x1000 2 (0x22 ∷ 0x01 ∷ []) 0xCD 0x2000 0xA2)
    ∷ clocks 10
    ∷ send 0x6B (0x65 ∷ 0x00 ∷ 0x00 ∷ 0xD3 ∷ [])
    ∷ count 0
    ∷ counter 0
    ∷ (ends_with_the_slot ++
    (pointers 0x1001 0x2001
    ∷ clocks 5
    ∷ counts 4 0 33
    ∷ memory 0x2000 (0xA1 ∷ 0xE2 ∷ [])
    ∷ [])))
    -- back to zxn mode in a wait: an ignored byte on 6B makes the block one shorter, and its last byte has moved
    ∷ row "back to zxn mode in a wait"
    (send 0x0B (program 0x1000 1 (0x22 ∷ 0x01 ∷ []) 0xCD 0x2000 0x82)
    ∷ clocks 10
    ∷ count 2
    ∷ counter 1
    ∷ send 0x6B (0x86 ∷ [])
    ∷ count 1
    ∷ (ends_with_the_slot ++
    (clocks 5
    ∷ counts 4 0 33
    ∷ memory 0x2000 (0xA1 ∷ 0xE2 ∷ [])
    ∷ [])))
    -- Disable and Enable behind a lowered length: Enable looks at the block, and the device stays disabled
    ∷ row "Enable behind a lowered length"
    (send 0x6B (program 0x1000 3 (0x22 ∷ 0x01 ∷ []) 0xCD 0x2000 0x82)
    ∷ clocks 10
    ∷ send 0x6B (0x65 ∷ 0x01 ∷ 0x00 ∷ 0x83 ∷ [])
    ∷ status 0x3B
    ∷ send 0x6B (0x87 ∷ [])
    ∷ enabled false
    ∷ status 0x1B
    ∷ clocks 5
    ∷ counts 4 0 11
    ∷ send 0x0B (0x87 ∷ [])
    ∷ enabled true
    ∷ clocks 4
    ∷ counter 2
    ∷ counts 8 0 11
    ∷ memory 0x2000 (0xA1 ∷ 0xA2 ∷ 0xE3 ∷ [])
    ∷ [])
    -- writes to I/O: the latch at the port's address is set, also the device's own, and nothing else
    ∷ row "writes to I/O"
    (latch 0x6A (0xE1 ∷ 0xE2 ∷ 0xE3 ∷ [])
    ∷ fill 0x6A (0xD1 ∷ 0xD2 ∷ 0xD3 ∷ [])
    ∷ send 0x6B (0x83 ∷ 0x7D ∷ 0x00 ∷ 0x10 ∷ 0x02 ∷ 0x00 ∷ 0x54 ∷ 0x02 ∷ 0x68 ∷ 0x02 ∷ 0xAD ∷ 0x6B ∷ 0x00 ∷ 0x82 ∷ 0xCF ∷ 0x87 ∷ [])
    ∷ clocks 4
    ∷ latches 0x6A (0xE1 ∷ 0xA1 ∷ 0xE3 ∷ [])
    ∷ clocks 4
    ∷ latches 0x6A (0xE1 ∷ 0xA2 ∷ 0xE3 ∷ [])
    ∷ memory 0x6A (0xD1 ∷ 0xD2 ∷ 0xD3 ∷ [])
    ∷ pointers 0x1002 0x006B
    ∷ enabled false
    ∷ counts 8 0 0
    ∷ [])
    -- B to A, I/O to memory: B is the source and increments; A is the destination and decrements
    ∷ row "B to A, I/O to memory"
    (latch 0x2FFE (0xD1 ∷ 0xD2 ∷ 0xD3 ∷ 0xD4 ∷ [])
    ∷ latch 0x1000 (0xF1 ∷ 0xF2 ∷ 0xF3 ∷ [])
    ∷ send 0x6B (0x83 ∷ 0x79 ∷ 0x02 ∷ 0x10 ∷ 0x03 ∷ 0x00 ∷ 0x44 ∷ 0x02 ∷ 0x58 ∷ 0x02 ∷ 0xAD ∷ 0xFE ∷ 0x2F ∷ 0x82 ∷ 0xCF ∷ 0x87 ∷ [])
    ∷ clocks 12
    ∷ memory 0x1000 (0xD3 ∷ 0xD2 ∷ 0xD1 ∷ 0xA4 ∷ [])
    ∷ latches 0x2FFE (0xD1 ∷ 0xD2 ∷ 0xD3 ∷ 0xD4 ∷ [])
    ∷ latches 0x1000 (0xF1 ∷ 0xF2 ∷ 0xF3 ∷ [])
    ∷ pointers 0x0FFF 0x3001
    ∷ enabled false
    ∷ expect 0x6B (0x1B ∷ 0x03 ∷ 0x00 ∷ 0xFF ∷ 0x0F ∷ 0x01 ∷ 0x30 ∷ [])
    ∷ [])
    -- decrement and fixed: a pointer goes from 0000 to FFFF; bits 11 keep it fixed
    ∷ row "decrement and fixed"
    (fill 0 (0xC1 ∷ [])
    ∷ fill 0xFFFF (0xC2 ∷ [])
    ∷ send 0x6B (0x83 ∷ 0x7D ∷ 0x00 ∷ 0x00 ∷ 0x02 ∷ 0x00 ∷ 0x44 ∷ 0x02 ∷ 0x70 ∷ 0x02 ∷ 0xAD ∷ 0x00 ∷ 0x20 ∷ 0x82 ∷ 0xCF ∷ 0x87 ∷ [])
    ∷ clocks 4
    ∷ memory 0x2000 (0xC1 ∷ 0xE2 ∷ [])
    ∷ pointers 0xFFFF 0x2000
    ∷ clocks 4
    ∷ memory 0x2000 (0xC2 ∷ 0xE2 ∷ [])
    ∷ pointers 0xFFFE 0x2000
    ∷ send 0x6B (0x0D ∷ 0x05 ∷ 0xCF ∷ [])
    ∷ pointers 0x0005 0x2000
    ∷ [])
    -- reading by mask: bit 7 of the mask is dropped, reading goes round, and an empty mask gives the status
    ∷ row "reading by mask"
    (send 0x6B sheet
    ∷ clocks 16
    ∷ send 0x6B (0xBB ∷ 0x8A ∷ [])
    ∷ expect 0x6B (0x04 ∷ 0x04 ∷ 0x04 ∷ [])
    ∷ send 0x6B (0xBB ∷ 0x16 ∷ [])
    ∷ expect 0x6B (0x04 ∷ 0x00 ∷ [])
    ∷ send 0x6B (0xA7 ∷ [])
    ∷ expect 0x6B (0x04 ∷ 0x00 ∷ 0x10 ∷ 0x04 ∷ [])
    ∷ send 0x6B (0xBB ∷ 0x80 ∷ [])
    ∷ expect 0x6B (0x1B ∷ 0x1B ∷ [])
    ∷ send 0x6B (0x8B ∷ [])
    ∷ expect 0x6B (0x3A ∷ [])
    ∷ [])
    -- a status read waiting: it comes once and leaves the position, survives A7, BB and the mask, and is used up by an empty one
    ∷ row "a status read waiting"
    (send 0x6B sheet
    ∷ clocks 16
    ∷ expect 0x6B (0x1B ∷ 0x04 ∷ [])
    ∷ send 0x6B (0xBF ∷ [])
    ∷ expect 0x6B (0x1B ∷ 0x00 ∷ 0x04 ∷ [])
    ∷ send 0x6B (0xBF ∷ 0xA7 ∷ [])
    ∷ expect 0x6B (0x1B ∷ 0x1B ∷ 0x04 ∷ [])
    ∷ send 0x6B (0xBF ∷ 0xBB ∷ 0x18 ∷ [])
    ∷ expect 0x6B (0x1B ∷ 0x04 ∷ 0x10 ∷ 0x04 ∷ [])
    ∷ send 0x6B (0xBF ∷ 0xBB ∷ 0x00 ∷ [])
    ∷ expect 0x6B (0x1B ∷ [])
    ∷ send 0x6B (0xBB ∷ 0x02 ∷ [])
    ∷ expect 0x6B (0x04 ∷ 0x04 ∷ [])
    ∷ [])
    -- timing: codes 11 and 01 with other bits set, WR1 and WR2 without a timing byte, C7 and CB; the prescaler stays
    ∷ row "timing"
    (send 0x6B (0x83 ∷ 0x7D ∷ 0x00 ∷ 0x10 ∷ 0x04 ∷ 0x00 ∷ 0x54 ∷ [])
    ∷ send_warned 0x6B 0xFF 2
    ∷ send 0x6B (0x50 ∷ 0x5D ∷ 0xAD ∷ 0x00 ∷ 0x20 ∷ 0x82 ∷ 0xCF ∷ 0x87 ∷ [])
    ∷ clocks 6
    ∷ counter 0
    ∷ clocks 1
    ∷ counter 1
    ∷ send_refused 0x6B 0x83 3
    ∷ clocks 21
    ∷ enabled false
    ∷ counts 28 0 0
    ∷ send 0x6B (0x54 ∷ 0xFE ∷ 0x50 ∷ 0x22 ∷ 0x01 ∷ 0x14 ∷ 0x10 ∷ 0xD3 ∷ 0x87 ∷ [])
    ∷ clocks 4
    ∷ counter 1
    ∷ clocks 28
    ∷ counter 1
    ∷ clocks 96
    ∷ enabled false
    ∷ counts 44 112 0
    ∷ send 0x6B (0xC7 ∷ 0xD3 ∷ 0x87 ∷ [])
    ∷ clocks 5
    ∷ counter 0
    ∷ clocks 1
    ∷ counter 1
    ∷ clocks 122
    ∷ enabled false
    ∷ send 0x6B (0xCB ∷ 0xD3 ∷ 0x87 ∷ [])
    ∷ clocks 7
    ∷ counter 0
    ∷ clocks 1
    ∷ counter 1
    ∷ clocks 24
    ∷ counts 76 240 0
    ∷ [])
    -- WR3 and WR4: bit 6 of WR3 enables or disables whatever its other bits are; WR4 of 11 and of 00 is continuous
    ∷ row "WR3 and WR4"
    (send 0x6B (0x83 ∷ 0x7D ∷ 0x00 ∷ 0x10 ∷ 0x01 ∷ 0x00 ∷ 0x54 ∷ 0x02 ∷ 0x50 ∷ 0x22 ∷ 0x01 ∷ [])
    ∷ send_warned 0x6B 0xED 3
    ∷ send 0x6B (0x00 ∷ 0x20 ∷ 0x82 ∷ 0xCF ∷ 0x87 ∷ [])
    ∷ send_refused 0x6B 0x83 3
    ∷ clocks 4
    ∷ send_refused 0x6B 0x83 3
    ∷ clocks 28
    ∷ counts 4 28 0
    ∷ send_warned 0x6B 0x91 3
    ∷ send 0x6B (0xD3 ∷ 0xFC ∷ [])
    ∷ enabled true
    ∷ clocks 32
    ∷ counts 8 56 0
    ∷ send 0x6B (0xCD ∷ 0x00 ∷ 0x20 ∷ 0xCF ∷ 0xC0 ∷ [])
    ∷ clocks 4
    ∷ enabled true
    ∷ send 0x6B (0xBC ∷ [])
    ∷ enabled false
    ∷ counter 1
    ∷ status 0x1B
    ∷ [])
    -- one byte of a number: each parameter leaves the other byte as it was
    ∷ row "one byte of a number"
    (send 0x6B (0x7D ∷ 0x34 ∷ 0x12 ∷ 0x78 ∷ 0x56 ∷ [])
    ∷ send_warned 0x6B 0x8D 3
    ∷ send 0x6B (0xBC ∷ 0x9A ∷ 0xCF ∷ [])
    ∷ pointers 0x1234 0x9ABC
    ∷ count 0x5678
    ∷ send_warned 0x6B 0x0E 1
    ∷ send 0x6B (0xFF ∷ 0xCF ∷ [])
    ∷ pointers 0x12FF 0x9ABC
    ∷ send_warned 0x6B 0x17 1
    ∷ send 0x6B (0xEE ∷ 0xCF ∷ [])
    ∷ pointers 0xEEFF 0x9ABC
    ∷ send 0x6B (0x25 ∷ 0xDD ∷ [])
    ∷ count 0x56DD
    ∷ send 0x6B (0x45 ∷ 0xCC ∷ [])
    ∷ count 0xCCDD
    ∷ send_warned 0x6B 0x85 3
    ∷ send 0x6B (0xBB ∷ 0xCF ∷ [])
    ∷ pointers 0xEEFF 0x9ABB
    ∷ send_warned 0x6B 0x89 3
    ∷ send 0x6B (0xAA ∷ 0xCF ∷ [])
    ∷ pointers 0xEEFF 0xAABB
    ∷ send 0x6B (0x4D ∷ 0x00 ∷ 0x00 ∷ 0xCF ∷ [])
    ∷ pointers 0xEE00 0xAABB
    ∷ count 0x00DD
    ∷ [])
    -- refused grants: 4 comes before 5 and 5 before 6; the sum of the counts may reach its limit and not pass it
    ∷ row "refused grants"
    (borrow 65535 65536 1 4
    ∷ borrow 65537 65536 0 4
    ∷ borrow 0 0 1 4
    ∷ borrow 65536 65535 1 5
    ∷ borrow 65536 65537 0 5
    ∷ suppose_counts 18446744073709551600 10 5
    ∷ borrow 65536 65536 0 0
    ∷ borrow 65536 65536 1 6
    ∷ borrow 65536 0 1 5
    ∷ clocks 0
    ∷ counts 18446744073709551600 10 5
    ∷ send 0x6B sheet
    ∷ clocks_refused 16 6
    ∷ borrow 65535 65536 16 4
    ∷ borrow 65536 65535 16 5
    ∷ counts 18446744073709551600 10 5
    ∷ counter 0
    ∷ memory 0x2000 (0xE1 ∷ [])
    ∷ suppose_counts 18446744073709551600 10 6
    ∷ borrow 65535 0 1 1
    ∷ send_refused 0x006C 0x83 1
    ∷ expect_refused 0x6B 1
    ∷ suppose_counts 18446744073709551600 10 2
    ∷ borrow 65536 65536 4 6
    ∷ borrow 65536 65536 3 0
    ∷ [])
    -- power-on: the seven registers, and a byte moved with no register written but WR4
    ∷ row "power-on"
    (fill 0 (0xA1 ∷ 0xA2 ∷ [])
    ∷ fill 0x2000 (0xE1 ∷ 0xE2 ∷ [])
    ∷ count 0
    ∷ counts 0 0 0
    ∷ expect 0x6B (0x3A ∷ 0x00 ∷ 0x00 ∷ 0x00 ∷ 0x00 ∷ 0x00 ∷ 0x00 ∷ 0x3A ∷ [])
    ∷ send_warned 0x0B 0x8D 3
    ∷ send 0x0B (0x00 ∷ 0x20 ∷ 0xCF ∷ 0x87 ∷ [])
    ∷ pointers 0x0000 0x2000
    ∷ clocks 7
    ∷ counter 0
    ∷ clocks 1
    ∷ enabled false
    ∷ counts 8 0 0
    ∷ memory 0x2000 (0xA1 ∷ 0xE2 ∷ [])
    ∷ pointers 0x0001 0x2001
    ∷ [])
    -- power-on: continuous, with no WR4 written
    ∷ row "power-on: continuous"
    (send 0x0B (0x50 ∷ 0x20 ∷ 0x01 ∷ 0x87 ∷ [])
    ∷ clocks 32
    ∷ counts 8 24 0
    ∷ [])
    -- Enable in a wait: nothing, also after the last byte; a finished block stays so whatever auto restart says
    ∷ row "Enable in a wait"
    (send 0x6B (program 0x1000 1 (0x22 ∷ 0x01 ∷ []) 0xCD 0x2000 0x82)
    ∷ clocks 10
    ∷ send 0x6B (0x87 ∷ [])
    ∷ status 0x3B
    ∷ enabled true
    ∷ clocks 22
    ∷ enabled false
    ∷ counts 4 0 28
    ∷ send 0x6B (0xA2 ∷ 0x87 ∷ [])
    ∷ enabled false
    ∷ status 0x1B
    ∷ counter 1
    ∷ send 0x6B (0xD3 ∷ [])
    ∷ status 0x1B
    ∷ expect 0x6B (0x1B ∷ 0x00 ∷ [])
    ∷ [])
    -- Enable in the other mode: the mode is set before Enable looks at the block
    ∷ row "Enable in the other mode"
    (send 0x6B (program 0x1000 0 (0x02 ∷ []) 0xAD 0x2000 0x82)
    ∷ enabled false
    ∷ send 0x0B (0x87 ∷ [])
    ∷ enabled true
    ∷ clocks 4
    ∷ expect 0x0B (0x1B ∷ 0x01 ∷ [])
    ∷ [])
    -- auto restart in burst: one byte; the new slot holds the bus
    ∷ row "auto restart in burst"
    (send 0x6B (program 0x1000 1 (0x22 ∷ 0x01 ∷ []) 0xCD 0x2000 0xA2)
    ∷ clocks 31
    ∷ counter 1
    ∷ pointers 0x1001 0x2001
    ∷ status 0x3B
    ∷ clocks 1
    ∷ enabled true
    ∷ counter 0
    ∷ pointers 0x1000 0x2000
    ∷ status 0x1B
    ∷ send_refused 0x6B 0x83 3
    ∷ expect_refused 0x6B 3
    ∷ [])
    -- timing in a wait: the slot keeps its bus time, the next has the new one; code 00 is 4 clocks
    ∷ row "timing in a wait"
    (send 0x6B (program 0x1000 2 (0x22 ∷ 0x01 ∷ []) 0xCD 0x2000 0x82)
    ∷ clocks 4
    ∷ send 0x6B (0x54 ∷ 0x00 ∷ 0x50 ∷ 0x00 ∷ [])
    ∷ send 0x6B (0x8B ∷ 0xA7 ∷ 0xBF ∷ 0xBB ∷ 0x7F ∷ 0xC7 ∷ 0xCB ∷ [])
    ∷ status 0x3A
    ∷ clocks 28
    ∷ counter 1
    ∷ counts 4 0 28
    ∷ clocks 7
    ∷ counter 1
    ∷ clocks 1
    ∷ counter 2
    ∷ counts 12 0 28
    ∷ [])
    -- Reset after a block from B to A, I/O, in burst and in Zilog mode: all that it does not name stays
    ∷ row "Reset after a block"
    (fill 0x3000 (0xD1 ∷ 0xD2 ∷ 0xD3 ∷ [])
    ∷ latch 0x1000 (0xE1 ∷ 0xE2 ∷ 0xE3 ∷ [])
    ∷ send 0x0B (0x83 ∷ 0x79 ∷ 0x02 ∷ 0x10 ∷ 0x01 ∷ 0x00 ∷ 0x4C ∷ 0x02 ∷ 0x60 ∷ 0x22 ∷ 0x01 ∷ 0xCD ∷ 0x00 ∷ 0x30 ∷ 0x82 ∷ 0xCF ∷ 0x87 ∷ [])
    ∷ clocks 64
    ∷ enabled false
    ∷ expect 0x0B (0x1B ∷ [])
    ∷ send 0x0B (0xC3 ∷ [])
    ∷ count 2
    ∷ expect 0x0B (0x3A ∷ 0x02 ∷ 0x00 ∷ 0x00 ∷ 0x10 ∷ 0x00 ∷ 0x30 ∷ [])
    ∷ fill 0x3000 (0xD4 ∷ [])
    ∷ send 0x0B (0xCF ∷ 0x87 ∷ [])
    ∷ pointers 0x1002 0x3000
    ∷ clocks 8
    ∷ latches 0x1000 (0xE1 ∷ 0xD1 ∷ 0xD4 ∷ [])
    ∷ pointers 0x1001 0x3000
    ∷ clocks 8
    ∷ enabled false
    ∷ send 0x0B (0x60 ∷ 0x20 ∷ 0x01 ∷ 0xD3 ∷ 0x87 ∷ [])
    ∷ clocks 8
    ∷ send 0x0B (0x83 ∷ [])
    ∷ [])
    -- bytes that do nothing: the 24 that select no register, and the commands not listed, disabled and in a wait
    ∷ row "bytes that do nothing"
    (send 0x6B (program 0x1000 3 (0x22 ∷ 0x01 ∷ []) 0xCD 0x2000 0x9A)
    ∷ clocks 10
    ∷ send 0x6B (0xBA ∷ [])
    ∷ expect 0x6B (0x3B ∷ [])
    ∷ send 0x6B idle
    ∷ enabled true
    ∷ expect 0x6B (0x01 ∷ [])
    ∷ send 0x6B (0x83 ∷ [])
    ∷ send 0x6B idle
    ∷ enabled false
    ∷ expect 0x6B (0x00 ∷ 0x01 ∷ 0x10 ∷ 0x01 ∷ 0x20 ∷ 0x3B ∷ [])
    ∷ send 0x6B (0x87 ∷ [])
    ∷ clocks 64
    ∷ enabled true
    ∷ counts 12 0 62
    ∷ counter 0
    ∷ [])
    -- ports: only the low byte counts; a refused call sets no mode and moves no position
    ∷ row "ports"
    (send_refused 0x6B00 0x83 2
    ∷ expect_refused 0x0B0C 2
    ∷ send 0x126B sheet
    ∷ count 4
    ∷ send_refused 0x0B 0x83 3
    ∷ expect_refused 0x0B 3
    ∷ count 4
    ∷ clocks 16
    ∷ expect 0xFF6B (0x1B ∷ [])
    ∷ expect_refused 0x006C 2
    ∷ expect 0xFF0B (0x04 ∷ [])
    ∷ send 0x340B (0x83 ∷ [])
    ∷ count 5
    ∷ [])
    -- pending parameters: the number after each byte. WR0's four in one go, the lowest bit first
    ∷ row "WR0 in one go"
    (figure pending_number 0
    ∷ send 0x6B (0x7D ∷ [])
    ∷ figure pending_number 15
    ∷ send 0x6B (0x34 ∷ [])
    ∷ figure pending_number 14
    ∷ figure (λ c. c.a.address) 0x34
    ∷ send 0x6B (0x12 ∷ [])
    ∷ figure pending_number 12
    ∷ figure (λ c. c.a.address) 0x1234
    ∷ send 0x6B (0x78 ∷ [])
    ∷ figure pending_number 8
    ∷ figure (λ c. c.block.length) 0x78
    ∷ send 0x6B (0x56 ∷ [])
    ∷ figure pending_number 0
    ∷ figure (λ c. c.block.length) 0x5678
    ∷ [])
    -- one by one, the last first
    ∷ row "WR0 one by one"
    (send 0x6B (0x45 ∷ [])
    ∷ figure pending_number 8
    ∷ send 0x6B (0x56 ∷ [])
    ∷ figure pending_number 0
    ∷ figure (λ c. c.block.length) 0x5600
    ∷ send 0x6B (0x25 ∷ [])
    ∷ figure pending_number 4
    ∷ send 0x6B (0x78 ∷ [])
    ∷ figure pending_number 0
    ∷ figure (λ c. c.block.length) 0x5678
    ∷ send 0x6B (0x15 ∷ [])
    ∷ figure pending_number 2
    ∷ send 0x6B (0x12 ∷ [])
    ∷ figure pending_number 0
    ∷ figure (λ c. c.a.address) 0x1200
    ∷ send 0x6B (0x0D ∷ [])
    ∷ figure pending_number 1
    ∷ send 0x6B (0x34 ∷ [])
    ∷ figure pending_number 0
    ∷ figure (λ c. c.a.address) 0x1234
    ∷ [])
    -- every other one of the four
    ∷ row "WR0 with gaps"
    (send 0x6B (0x55 ∷ [])
    ∷ figure pending_number 10
    ∷ send 0x6B (0x12 ∷ [])
    ∷ figure pending_number 8
    ∷ send 0x6B (0x56 ∷ 0x2D ∷ [])
    ∷ figure pending_number 5
    ∷ send 0x6B (0x34 ∷ [])
    ∷ figure pending_number 4
    ∷ send 0x6B (0x78 ∷ [])
    ∷ figure pending_number 0
    ∷ figure (λ c. c.a.address) 0x1234
    ∷ figure (λ c. c.block.length) 0x5678
    ∷ [])
    -- WR4's two, and each of them
    ∷ row "WR4's parameters"
    (send 0x6B (0xCD ∷ [])
    ∷ figure pending_number 384
    ∷ send 0x6B (0xBC ∷ [])
    ∷ figure pending_number 256
    ∷ figure (λ c. c.b.address) 0xBC
    ∷ send 0x6B (0x9A ∷ [])
    ∷ figure pending_number 0
    ∷ figure (λ c. c.b.address) 0x9ABC
    ∷ send 0x6B (0xC5 ∷ [])
    ∷ figure pending_number 128
    ∷ send 0x6B (0x01 ∷ 0xC9 ∷ [])
    ∷ figure pending_number 256
    ∷ send 0x6B (0x02 ∷ [])
    ∷ figure pending_number 0
    ∷ figure (λ c. c.b.address) 0x0201
    ∷ [])
    -- a B timing byte with bit 5 set asks for the prescaler, one without it does not, and A timing never does
    ∷ row "prescaler after B timing"
    (send 0x6B (0x44 ∷ [])
    ∷ figure pending_number 16
    ∷ send 0x6B (0x22 ∷ [])
    ∷ figure pending_number 0
    ∷ figure (λ c. c.a.cycle) 2
    ∷ send 0x6B (0x50 ∷ [])
    ∷ figure pending_number 32
    ∷ send 0x6B (0x21 ∷ [])
    ∷ figure pending_number 64
    ∷ figure (λ c. c.b.cycle) 3
    ∷ send 0x6B (0x37 ∷ [])
    ∷ figure pending_number 0
    ∷ figure (λ c. c.control.prescaler) 55
    ∷ send 0x6B (0x50 ∷ 0x02 ∷ [])
    ∷ figure pending_number 0
    ∷ figure (λ c. c.b.cycle) 2
    ∷ figure (λ c. c.control.prescaler) 55
    ∷ [])
    -- a mask; a register's byte, and a command, are a mask as well
    ∷ row "read mask pending"
    (send 0x6B (0xBB ∷ [])
    ∷ figure pending_number 512
    ∷ send 0x6B (0x7D ∷ [])
    ∷ figure pending_number 0
    ∷ figure (λ c. c.readback.mask) 0x7D
    ∷ send 0x6B (0xBB ∷ 0xBB ∷ [])
    ∷ figure pending_number 0
    ∷ figure (λ c. c.readback.mask) 0x3B
    ∷ [])
    -- bytes that ask for nothing leave the number, while nothing is pending; reads, grants and refused calls leave it
    ∷ row "number left alone"
    (send 0x6B (0x05 ∷ 0x04 ∷ 0x00 ∷ 0x80 ∷ [])
    ∷ send_warned 0x6B 0x81 3
    ∷ send 0x6B (0x82 ∷ 0x83 ∷ 0x86 ∷ 0xC3 ∷ [])
    ∷ figure pending_number 0
    ∷ send 0x6B (0x7D ∷ 0x34 ∷ [])
    ∷ expect_refused 0x006C 2
    ∷ send_refused 0x006C 0x55 2
    ∷ borrow 65535 65536 1 4
    ∷ clocks 40
    ∷ expect 0x6B (0x3A ∷ [])
    ∷ figure pending_number 14
    ∷ [])
    -- parameters asked for in a burst wait: while the next slot's byte moves they cannot come, and the wait after it takes them
    ∷ row "pending from wait to wait"
    (send 0x6B (program 0x1000 3 (0x22 ∷ 0x01 ∷ []) 0xCD 0x2000 0x82)
    ∷ figure pending_number 0
    ∷ clocks 8
    ∷ send 0x6B (0x3D ∷ [])
    ∷ figure pending_number 7
    ∷ send 0x6B (0x34 ∷ [])
    ∷ figure pending_number 6
    ∷ clocks 25
    ∷ send_refused 0x6B 0x12 3
    ∷ figure pending_number 6
    ∷ clocks 8
    ∷ send 0x6B (0x12 ∷ [])
    ∷ figure pending_number 4
    ∷ send 0x6B (0x02 ∷ [])
    ∷ figure pending_number 0
    ∷ figure (λ c. c.a.address) 0x1234
    ∷ figure (λ c. c.block.length) 2
    ∷ counter 2
    ∷ clocks 23
    ∷ enabled false
    ∷ [])
    -- what the core holds: the step as written, the read position
    ∷ row "what the core holds"
    (send 0x6B (0x7D ∷ 0x00 ∷ 0x00 ∷ 0x00 ∷ 0x00 ∷ 0x74 ∷ [])
    ∷ figure (λ c. c.a.step) 3
    ∷ send 0x6B (0x00 ∷ 0x60 ∷ [])
    ∷ figure (λ c. c.b.step) 2
    ∷ send 0x6B (0x20 ∷ [])
    ∷ send 0x6B (0xFF ∷ 0x50 ∷ 0x02 ∷ 0xCB ∷ 0x54 ∷ 0x02 ∷ 0xCB ∷ 0x54 ∷ 0x01 ∷ [])
    ∷ send_warned 0x6B 0x8D 3
    ∷ figure (λ c. slot_length c.control.prescaler 4) 8160
    ∷ figure (λ c. c.a.cycle) 3
    ∷ figure (λ c. c.b.cycle) 4
    ∷ send 0x6B (0x00 ∷ 0x00 ∷ [])
    ∷ expect 0x6B (0x3A ∷ 0x00 ∷ [])
    ∷ send 0x6B (0xBB ∷ [])
    ∷ figure (λ c. c.readback.position) 2
    ∷ send 0x6B (0x00 ∷ [])
    ∷ figure (λ c. c.readback.position) 0
    ∷ expect 0x6B (0x3A ∷ [])
    ∷ figure (λ c. c.readback.position) 0
    ∷ [])
    -- moves: the fourth clock of a slot
    ∷ row "moves"
    (fill 0x3000 (0xD1 ∷ [])
    ∷ send 0x0B (0x83 ∷ 0x79 ∷ 0x02 ∷ 0x10 ∷ 0x00 ∷ 0x00 ∷ 0x4C ∷ 0x02 ∷ 0x60 ∷ 0x02 ∷ 0xAD ∷ 0x00 ∷ 0x30 ∷ 0x82 ∷ 0xCF ∷ 0x87 ∷ [])
    ∷ clocks 3
    ∷ next_move 0x3000 false 0x1002 true 0xD1
    ∷ [])
    -- validity of a core with no slot: each bound from both sides
    ∷ row "validity"
    (changed (λ c. with_a (with_cycle 1 c.a) c) false
    ∷ changed (λ c. with_a (with_cycle 2 c.a) c) true
    ∷ changed (λ c. with_a (with_cycle 5 c.a) c) false
    ∷ changed (λ c. with_b (with_cycle 1 c.b) c) false
    ∷ changed (λ c. with_b (with_cycle 5 c.b) c) false
    ∷ changed (λ c. with_block (with_counter 65536 c.block) c) true
    ∷ changed (λ c. with_block (with_counter 65537 c.block) c) false
    ∷ changed (λ c. with_readback (with_mask 127 c.readback) c) true
    ∷ changed (λ c. with_readback (with_mask 128 c.readback) c) false
    ∷ changed (λ c. with_readback (with_position 6 c.readback) c) true
    ∷ changed (λ c. with_readback (with_position 7 c.readback) c) false
    ∷ changed (at_speed 0) true
    ∷ changed (at_speed 1) true
    ∷ changed (at_speed 2) true
    ∷ changed (at_speed 4) false
    ∷ changed (at_speed 255) false
    ∷ changed (with_pending 15) true
    ∷ changed (with_pending 13) true
    ∷ changed (with_pending 10) true
    ∷ changed (with_pending 1) true
    ∷ changed (with_pending 16) true
    ∷ changed (with_pending 32) true
    ∷ changed (with_pending 64) true
    ∷ changed (with_pending 128) true
    ∷ changed (with_pending 256) true
    ∷ changed (with_pending 384) true
    ∷ changed (with_pending 512) true
    ∷ changed (with_pending 17) false
    ∷ changed (with_pending 24) false
    ∷ changed (with_pending 48) false
    ∷ changed (with_pending 96) false
    ∷ changed (with_pending 80) false
    ∷ changed (with_pending 129) false
    ∷ changed (with_pending 136) false
    ∷ changed (with_pending 192) false
    ∷ changed (with_pending 320) false
    ∷ changed (with_pending 448) false
    ∷ changed (with_pending 513) false
    ∷ changed (with_pending 640) false
    ∷ changed (with_pending 768) false
    ∷ changed (with_pending 896) false
    ∷ changed (with_pending 1024) false
    ∷ changed (with_pending 1025) false
    ∷ changed (with_pending 2048) false
    ∷ changed (with_pending 16384) false
    ∷ changed (with_pending 32768) false
    ∷ changed (with_pending 65535) false
    ∷ changed (in_slot 0 4 0 false) false
    ∷ changed (in_slot 0 0 4 false) false
    ∷ changed (in_slot 0 0 0 true) false
    ∷ changed (in_slot 4 4 32 true) false
    ∷ [])
    -- validity of an enabled core: the slot's figures, and the counter below the count until the byte has moved
    ∷ row "validity in a slot"
    (send 0x6B (program 0x1000 3 (0x02 ∷ []) 0xAD 0x2000 0x82)
    ∷ changed (in_slot 0 4 0 false) false
    ∷ changed (in_slot 1 4 4 false) true
    ∷ changed (in_slot 1 8 8 true) true
    ∷ changed (in_slot 1 3 3 false) false
    ∷ changed (in_slot 1 9 9 false) true
    ∷ changed (in_slot 1 64 64 true) true
    ∷ changed (in_slot 1 65 65 false) false
    ∷ changed (in_slot 1 65 96 false) false
    ∷ changed (in_slot 1 4 5 false) false
    ∷ changed (in_slot 1 4 0 false) false
    ∷ changed (in_slot 1 4 48 false) false
    ∷ changed (in_slot 31 4 32 false) true
    ∷ changed (in_slot 32 4 32 false) false
    ∷ changed (in_slot 8159 8 8160 true) true
    ∷ changed (in_slot 1 4 8192 false) false
    ∷ changed (in_slot 1 32 32 false) true
    ∷ changed (in_slot 1 33 32 false) false
    ∷ changed (in_slot 1 33 64 false) true
    ∷ changed (in_slot 1 64 32 false) false
    ∷ changed (in_slot 1 64 96 true) true
    ∷ changed (in_slot 8159 64 8160 true) true
    ∷ changed (λ c. with_block (with_counter 3 c.block) c) false
    ∷ changed (λ c. with_block (with_counter 3 c.block) (in_slot 3 4 32 false c)) false
    ∷ changed (λ c. with_block (with_counter 3 c.block) (in_slot 4 4 32 false c)) true
    ∷ [])
    -- auto restart turned off in a wait: the block ends
    ∷ row "auto restart turned off"
    (send 0x6B (program 0x1000 1 (0x22 ∷ 0x01 ∷ []) 0xCD 0x2000 0xA2)
    ∷ clocks 10
    ∷ send 0x6B (0x82 ∷ [])
    ∷ clocks 21
    ∷ enabled true
    ∷ clocks 1
    ∷ enabled false
    ∷ counter 1
    ∷ expect 0x6B (0x1B ∷ 0x01 ∷ [])
    ∷ [])
    -- registers in another order: WR4 before WR0, a high address, and a read position that a block leaves
    ∷ row "registers in another order"
    (expect 0x6B (0x3A ∷ 0x00 ∷ [])
    ∷ send 0x6B (0x83 ∷ 0xAD ∷ 0xFF ∷ 0xA0 ∷ 0x54 ∷ 0x02 ∷ 0x50 ∷ 0x22 ∷ 0x01 ∷ 0x7D ∷ 0x00 ∷ 0x10 ∷ 0x01 ∷ 0x00 ∷ 0x82 ∷ 0xCF ∷ 0x87 ∷ [])
    ∷ clocks 31
    ∷ enabled true
    ∷ clocks 1
    ∷ enabled false
    ∷ counts 4 28 0
    ∷ memory 0xA0FF (0xA1 ∷ 0x00 ∷ [])
    ∷ pointers 0x1001 0xA100
    ∷ expect 0x6B (0x00 ∷ 0x01 ∷ 0x10 ∷ 0x00 ∷ 0xA1 ∷ [])
    ∷ [])
    -- each speed without a prescaler and with one
    ∷ slowed "3.5 MHz" 0 32
    ∷ slowed "7 MHz" 1 16
    ∷ slowed "14 MHz" 2 8
    ∷ slowed "28 MHz" 3 4
    ∷ slowed_with_prescaler "3.5 MHz, prescaler 1: as long as the bus time" 0 32 0
    ∷ slowed_with_prescaler "7 MHz, prescaler 1" 1 16 16
    ∷ slowed_with_prescaler "14 MHz, prescaler 1" 2 8 24
    ∷ slowed_with_prescaler "28 MHz, prescaler 1" 3 4 28
    -- the largest bus time: above 32 clocks, a tie at 64, below 96 and below 8,160
    ∷ slowest "64 clocks, prescaler 1" 1 64 0 false
    ∷ slowest "64 clocks, prescaler 2" 2 64 0 false
    ∷ slowest "64 clocks, prescaler 3" 3 96 32 false
    ∷ slowest "64 clocks, prescaler 255" 255 8160 33 true
    -- 7 MHz in continuous mode: the wait is held
    ∷ row "7 MHz, continuous"
    (speed 1
    ∷ send 0x6B (program 0x1000 3 (0x22 ∷ 0x01 ∷ []) 0xAD 0x2000 0x82)
    ∷ clocks 96
    ∷ enabled false
    ∷ counts 48 48 0
    ∷ [])
    -- a new speed in mid slot, while the bus is held and in the wait: the slot keeps its figures, the next one has new ones
    ∷ row "speed in mid slot"
    (send 0x6B (program 0x1000 3 (0x22 ∷ 0x01 ∷ []) 0xCD 0x2000 0x82)
    ∷ clocks 2
    ∷ send_refused 0x6B 0x83 3
    ∷ speed 0
    ∷ figure speed_code 0
    ∷ figure (λ c. c.slot.bus) 4
    ∷ figure (λ c. c.slot.length) 32
    ∷ clocks 1
    ∷ counter 0
    ∷ clocks 1
    ∷ counter 1
    ∷ counts 4 0 0
    ∷ clocks 6
    ∷ speed 1
    ∷ clocks 22
    ∷ counts 4 0 28
    ∷ clocks 15
    ∷ counter 1
    ∷ figure (λ c. c.slot.bus) 16
    ∷ speed 3
    ∷ clocks 1
    ∷ counter 2
    ∷ clocks 16
    ∷ counts 20 0 44
    ∷ clocks 32
    ∷ enabled false
    ∷ counts 24 0 72
    ∷ [])
    -- a new speed between Enable and the first clock, and between two slots
    ∷ row "speed before a slot"
    (send 0x6B sheet
    ∷ speed 2
    ∷ clocks 7
    ∷ counter 0
    ∷ clocks 1
    ∷ counter 1
    ∷ speed 1
    ∷ clocks 15
    ∷ counter 1
    ∷ clocks 1
    ∷ counter 2
    ∷ counts 24 0 0
    ∷ [])
    -- refused speeds, whoever has the bus; the code, what is pending and the rest stay
    ∷ row "refused speeds"
    (figure speed_code 3
    ∷ speed_refused 4 7
    ∷ speed_refused 255 7
    ∷ figure speed_code 3
    ∷ send 0x6B (0x7D ∷ 0x34 ∷ [])
    ∷ speed 2
    ∷ speed_refused 4 7
    ∷ speed_refused 131 7
    ∷ figure speed_code 2
    ∷ figure pending_number 14
    ∷ send 0x6B (0x12 ∷ 0x01 ∷ 0x00 ∷ 0xCF ∷ 0x87 ∷ [])
    ∷ pointers 0x1234 0x0000
    ∷ speed_refused 5 7
    ∷ clocks 15
    ∷ enabled true
    ∷ speed_refused 4 7
    ∷ clocks 1
    ∷ enabled false
    ∷ counts 16 0 0
    ∷ [])
    -- a device that is not valid: 1, and not 7
    ∷ row "speed of an invalid device"
    (suppose_counts 18446744073709551615 0 1
    ∷ speed_refused 0 1
    ∷ speed_refused 3 1
    ∷ speed_refused 4 1
    ∷ suppose_counts 18446744073709551615 0 0
    ∷ speed 1
    ∷ speed_refused 255 7
    ∷ suppose_core (at_speed 4)
    ∷ speed_refused 3 1
    ∷ speed_refused 4 1
    ∷ send_refused 0x6B 0xC3 1
    ∷ expect_refused 0x6B 1
    ∷ clocks_refused 0 1
    ∷ figure speed_code 4
    ∷ [])
    -- Reset, other commands, register bytes and reads leave the speed
    ∷ row "speed through Reset"
    (speed 1
    ∷ send 0x6B (0xC3 ∷ [])
    ∷ figure speed_code 1
    ∷ send 0x6B (0x83 ∷ 0xC7 ∷ 0xCB ∷ 0xCF ∷ 0xD3 ∷ 0x8B ∷ 0xA7 ∷ 0xBF ∷ 0x05 ∷ 0x14 ∷ 0x10 ∷ [])
    ∷ send_warned 0x6B 0x81 3
    ∷ send 0x6B (0x82 ∷ [])
    ∷ figure speed_code 1
    ∷ expect 0x6B (0x3A ∷ 0x3A ∷ [])
    ∷ figure speed_code 1
    ∷ send 0x6B (0xC3 ∷ sheet)
    ∷ clocks 16
    ∷ counter 1
    ∷ counts 16 0 0
    ∷ figure speed_code 1
    ∷ [])
    -- warnings. AA of 10 and 11, by both ports, with parameters and without: they transfer as 01 does, which has none
    ∷ row "discouraged operations"
    (send_warned 0x6B 0x02 1
    ∷ send_warned 0x0B 0x02 1
    ∷ send_warned 0x6B 0x03 1
    ∷ send_warned 0x0B 0x03 1
    ∷ send 0x6B (0x01 ∷ 0x05 ∷ [])
    ∷ send_warned 0x6B 0x7E 1
    ∷ send 0x6B (0x00 ∷ 0x10 ∷ 0x04 ∷ 0x00 ∷ 0x54 ∷ 0x02 ∷ 0x50 ∷ 0x02 ∷ 0xAD ∷ 0x00 ∷ 0x20 ∷ 0x82 ∷ [])
    ∷ send_warned 0x6B 0x07 1
    ∷ send 0x6B (0xCF ∷ 0x87 ∷ [])
    ∷ clocks 16
    ∷ enabled false
    ∷ memory 0x2000 (0xA1 ∷ 0xA2 ∷ 0xA3 ∷ 0xA4 ∷ 0xE5 ∷ [])
    ∷ counts 16 0 0
    ∷ [])
    -- timing of 11, A's and B's, whatever the other bits are: a cycle of 4, and the prescaler behind B's; none for 00, 01 and
    -- 10, nor for WR1 and WR2 themselves
    ∷ row "discouraged timing"
    (send 0x6B (0x44 ∷ 0x02 ∷ 0x44 ∷ [])
    ∷ send_warned 0x6B 0x03 2
    ∷ figure (λ c. c.a.cycle) 4
    ∷ send 0x6B (0x40 ∷ 0x02 ∷ 0x40 ∷ [])
    ∷ send_warned 0x0B 0xDF 2
    ∷ figure (λ c. c.b.cycle) 4
    ∷ figure pending_number 0
    ∷ send 0x6B (0x40 ∷ [])
    ∷ send_warned 0x6B 0x23 2
    ∷ figure pending_number 64
    ∷ send 0x6B (0x03 ∷ [])
    ∷ figure (λ c. c.control.prescaler) 3
    ∷ send 0x6B (0x44 ∷ 0xFC ∷ 0x44 ∷ 0xFD ∷ 0x44 ∷ 0xFE ∷ 0x40 ∷ 0xDC ∷ 0x40 ∷ 0xDD ∷ 0x40 ∷ 0xDE ∷ 0x7C ∷ 0x00 ∷ 0x78 ∷ 0x00 ∷ [])
    ∷ [])
    -- WR4's modes of 00 and 11, whatever its other bits are; none for 01 and 10, also with 00 or 11 in the other bits
    ∷ row "discouraged modes"
    (send_warned 0x6B 0x81 3
    ∷ send_warned 0x6B 0xE1 3
    ∷ send_warned 0x0B 0x91 3
    ∷ send_warned 0x6B 0xF5 3
    ∷ send 0x6B (0x00 ∷ [])
    ∷ send_warned 0x6B 0x9D 3
    ∷ send 0x6B (0x00 ∷ 0x20 ∷ [])
    ∷ send 0x6B (0xA1 ∷ 0xC1 ∷ 0xB1 ∷ 0xD1 ∷ 0xA5 ∷ 0x00 ∷ 0xC9 ∷ 0x00 ∷ 0xBD ∷ 0x00 ∷ 0x00 ∷ 0xDD ∷ 0x00 ∷ 0x00 ∷ [])
    ∷ [])
    -- bytes that would have a warning elsewhere: as an address, as a length, as the prescaler, as the mask, and as a timing of 01;
    -- those of WR1 to WR3, of WR5 and of WR6 with the same bits, and some that select none
    ∷ row "no warning"
    (send 0x6B (0x79 ∷ 0x02 ∷ 0x03 ∷ 0x81 ∷ 0xE1 ∷ 0x79 ∷ 0x81 ∷ 0xE1 ∷ 0x03 ∷ 0x02 ∷ [])
    ∷ send 0x6B (0xAD ∷ 0x02 ∷ 0x03 ∷ 0xAD ∷ 0x81 ∷ 0xE1 ∷ [])
    ∷ send 0x6B (0x40 ∷ 0x20 ∷ 0x02 ∷ 0x40 ∷ 0x20 ∷ 0x03 ∷ 0x40 ∷ 0x20 ∷ 0x81 ∷ 0x40 ∷ 0x20 ∷ 0xE1 ∷ [])
    ∷ send 0x6B (0xBB ∷ 0x02 ∷ 0xBB ∷ 0x03 ∷ 0xBB ∷ 0x81 ∷ 0xBB ∷ 0xE1 ∷ [])
    ∷ send 0x6B (0x44 ∷ 0x81 ∷ 0x44 ∷ 0xE1 ∷ 0x40 ∷ 0x81 ∷ 0x40 ∷ 0xE1 ∷ 0xE1 ∷ [])
    ∷ send 0x6B (0x04 ∷ 0x00 ∷ 0x80 ∷ 0x82 ∷ 0x83 ∷ 0xE3 ∷ 0xA2 ∷ 0x86 ∷ 0xE2 ∷ 0xE6 ∷ [])
    ∷ figure pending_number 0
    ∷ [])
    -- a refused write has none, whatever is pending; the same byte has it once it is accepted, in a wait too
    ∷ row "warnings and refusals"
    (send_refused 0x006C 0x03 2
    ∷ send 0x6B (0x44 ∷ [])
    ∷ send_refused 0x006C 0x03 2
    ∷ send_warned 0x6B 0x03 2
    ∷ send 0x6B (program 0x1000 3 (0x22 ∷ 0x01 ∷ []) 0xCD 0x2000 0x82)
    ∷ send_refused 0x6B 0x03 3
    ∷ send_refused 0x6B 0x81 3
    ∷ clocks 10
    ∷ send_warned 0x6B 0x81 3
    ∷ send_warned 0x6B 0x03 1
    ∷ send 0x6B (0x50 ∷ [])
    ∷ clocks 22
    ∷ send_refused 0x6B 0x03 3
    ∷ suppose_counts 18446744073709551615 1 0
    ∷ send_refused 0x6B 0x03 1
    ∷ [])
    -- P4 with two bytes: among any five clocks one is the processor's; four clocks of a byte have none, and the block's end changes
    -- nothing, as disabled the device leaves it all clocks; with counts that do not fit there is no floor
    ∷ row "floor at 28 MHz"
    (send 0x6B (program 0x1000 2 (0x22 ∷ 0x01 ∷ []) 0xCD 0x2000 0x82)
    ∷ floor 5
    ∷ clocks 4
    ∷ counts 4 0 0
    ∷ floor 5
    ∷ clocks 1
    ∷ counts 4 0 1
    ∷ clocks 27
    ∷ floor 5
    ∷ clocks 4
    ∷ counts 8 0 28
    ∷ clocks 27
    ∷ enabled true
    ∷ clocks 2
    ∷ enabled false
    ∷ counts 8 0 57
    ∷ floor 5
    ∷ clocks 5
    ∷ counts 8 0 62
    ∷ suppose_counts 18446744073709551615 0 0
    ∷ floor 5
    ∷ suppose_counts 18446744073709551615 1 0
    ∷ floor 0
    ∷ [])
    -- the largest: cycles of 4 + 4 at 3.5 MHz, prescaler 3; with prescaler 2 the slot is no longer than its bus time
    ∷ row "floor at 3.5 MHz"
    (speed 0
    ∷ send 0x0B (0xC1 ∷ 0x50 ∷ 0x20 ∷ 0x03 ∷ 0x87 ∷ [])
    ∷ floor 65
    ∷ clocks 64
    ∷ counts 64 0 0
    ∷ clocks 1
    ∷ counts 64 0 1
    ∷ floor 65
    ∷ send 0x0B (0x50 ∷ 0x20 ∷ 0x02 ∷ [])
    ∷ floor 0
    ∷ clocks 31
    ∷ enabled false
    ∷ send 0x0B (0xCF ∷ 0xA2 ∷ 0x87 ∷ [])
    ∷ floor 0
    ∷ clocks 192
    ∷ counts 256 0 32
    ∷ [])
    -- disabled, the device is asked for the slot that its registers would start: not one that is continuous, nor one without a
    -- prescaler; the speed counts; at the end an enabled one, and one that is not valid
    ∷ row "floor of a disabled device"
    (floor 0
    ∷ send 0x6B (0x50 ∷ 0x20 ∷ 0x01 ∷ [])
    ∷ floor 0
    ∷ send 0x6B (0xC1 ∷ [])
    ∷ floor 9
    ∷ clocks 100
    ∷ counts 0 0 100
    ∷ floor 9
    ∷ speed 2
    ∷ floor 17
    ∷ speed 1
    ∷ floor 0
    ∷ send 0x6B (0x50 ∷ 0x20 ∷ 0xFF ∷ [])
    ∷ floor 33
    ∷ speed 0
    ∷ floor 65
    ∷ send 0x6B (0x50 ∷ 0x20 ∷ 0x00 ∷ [])
    ∷ floor 0
    ∷ enabled false
    ∷ suppose_core (λ c. in_burst 3 2 1 1)
    ∷ floor 5
    ∷ suppose_core (with_pending 0x11)
    ∷ floor 0
    ∷ [])
    -- blocks of one byte that restart: each is a slot like any other
    ∷ row "floor across restarts"
    (send 0x6B (program 0x1000 1 (0x22 ∷ 0x01 ∷ []) 0xCD 0x2000 0xA2)
    ∷ floor 5
    ∷ clocks 31
    ∷ counts 4 0 27
    ∷ clocks 1
    ∷ enabled true
    ∷ counter 0
    ∷ floor 5
    ∷ clocks 4
    ∷ counts 8 0 28
    ∷ clocks 1
    ∷ counts 8 0 29
    ∷ clocks 31
    ∷ floor 5
    ∷ counts 12 0 56
    ∷ clocks 1
    ∷ counts 12 0 57
    ∷ [])
    -- the speed raised in a slot: its own bus time still counts, and once it is over the registers' alone
    ∷ row "floor, speed raised in a slot"
    (speed 0
    ∷ send 0x6B (program 0x1000 2 (0x22 ∷ 0x02 ∷ []) 0xCD 0x2000 0x82)
    ∷ floor 33
    ∷ clocks 1
    ∷ speed 3
    ∷ floor 33
    ∷ clocks 31
    ∷ counts 32 0 0
    ∷ clocks 1
    ∷ counts 32 0 1
    ∷ floor 33
    ∷ clocks 31
    ∷ floor 5
    ∷ clocks 4
    ∷ counts 36 0 32
    ∷ clocks 1
    ∷ counts 36 0 33
    ∷ [])
    -- raised in a slot that has no wait: as long as it runs there is no floor, and its clocks and those of the next slot have none
    -- of the processor
    ∷ row "floor, speed raised in a slot without a wait"
    (speed 0
    ∷ send 0x6B (program 0x1000 2 (0x22 ∷ 0x01 ∷ []) 0xCD 0x2000 0x82)
    ∷ floor 0
    ∷ clocks 1
    ∷ speed 3
    ∷ floor 0
    ∷ clocks 30
    ∷ floor 0
    ∷ clocks 1
    ∷ floor 5
    ∷ clocks 4
    ∷ counts 36 0 0
    ∷ clocks 1
    ∷ counts 36 0 1
    ∷ [])
    -- the speed lowered in a slot: the slots to come count, and with a prescaler too small for them there is no floor
    ∷ row "floor, speed lowered in a slot"
    (send 0x6B (program 0x1000 4 (0x22 ∷ 0x02 ∷ []) 0xCD 0x2000 0x82)
    ∷ floor 5
    ∷ clocks 10
    ∷ speed 0
    ∷ floor 33
    ∷ clocks 54
    ∷ counts 4 0 60
    ∷ floor 33
    ∷ clocks 32
    ∷ counts 36 0 60
    ∷ clocks 1
    ∷ counts 36 0 61
    ∷ send 0x6B (0x50 ∷ 0x22 ∷ 0x01 ∷ [])
    ∷ floor 0
    ∷ clocks 31
    ∷ counts 36 0 92
    ∷ clocks 64
    ∷ counts 100 0 92
    ∷ [])
    -- a prescaler set in a wait counts for the slots to come, the wait being burst and long as it is
    ∷ row "floor, prescaler in a wait"
    (send 0x6B (program 0x1000 40 (0x22 ∷ 0x01 ∷ []) 0xCD 0x2000 0x82)
    ∷ clocks 10
    ∷ floor 5
    ∷ send 0x6B (0x50 ∷ 0x22 ∷ 0x00 ∷ [])
    ∷ floor 0
    ∷ clocks 21
    ∷ send 0x6B (0x50 ∷ 0x22 ∷ 0xFF ∷ [])
    ∷ floor 5
    ∷ send 0x6B (0x50 ∷ 0x22 ∷ 0x00 ∷ [])
    ∷ floor 0
    ∷ clocks 1
    ∷ counts 4 0 28
    ∷ clocks 66
    ∷ counts 70 0 28
    ∷ [])
    -- continuous chosen in a wait: the wait is burst, and the slots to come are not
    ∷ row "floor, mode in a wait"
    (send 0x6B (program 0x1000 3 (0x22 ∷ 0x01 ∷ []) 0xCD 0x2000 0x82)
    ∷ clocks 10
    ∷ floor 5
    ∷ send 0x6B (0xA1 ∷ [])
    ∷ floor 0
    ∷ clocks 22
    ∷ counts 4 0 28
    ∷ floor 0
    ∷ clocks 64
    ∷ counts 12 56 28
    ∷ [])
    -- a slot that runs and has not the registers' figures, as a host may put it: continuous, no longer than its bus time, with the
    -- largest one, and with one too large to be valid
    ∷ row "floor, a slot of its own"
    (send 0x6B (program 0x1000 3 (0x22 ∷ 0x01 ∷ []) 0xCD 0x2000 0x82)
    ∷ floor 5
    ∷ suppose_core (in_slot 1 4 32 false)
    ∷ floor 0
    ∷ suppose_core (in_slot 10 4 32 false)
    ∷ floor 0
    ∷ suppose_core (in_slot 1 4 4 true)
    ∷ floor 0
    ∷ suppose_core (in_slot 1 64 96 true)
    ∷ floor 65
    ∷ clocks 63
    ∷ counts 63 0 0
    ∷ clocks 1
    ∷ counts 63 0 1
    ∷ suppose_core (in_slot 1 65 96 true)
    ∷ floor 0
    ∷ [])
    -- cycles that differ, and a timing set in a wait: both ports count, in the running slot too
    ∷ row "floor, cycles in a wait"
    (send 0x6B (program 0x1000 3 (0x21 ∷ 0x01 ∷ []) 0xCD 0x2000 0x82)
    ∷ floor 6
    ∷ clocks 5
    ∷ counts 5 0 0
    ∷ clocks 1
    ∷ counts 5 0 1
    ∷ send 0x6B (0xC7 ∷ [])
    ∷ floor 8
    ∷ clocks 26
    ∷ counts 5 0 27
    ∷ clocks 7
    ∷ counts 12 0 27
    ∷ clocks 1
    ∷ counts 12 0 28
    ∷ send 0x6B (0xCB ∷ [])
    ∷ floor 9
    ∷ clocks 24
    ∷ counts 12 0 52
    ∷ clocks 8
    ∷ counts 20 0 52
    ∷ clocks 1
    ∷ counts 20 0 53
    ∷ [])
    -- parameters that are pending do not count until they are written; lengths of 256 and 4,096 clocks
    ∷ row "floor, parameters pending"
    (send 0x6B (0x54 ∷ 0x02 ∷ 0xC1 ∷ 0x50 ∷ 0x20 ∷ 0x01 ∷ [])
    ∷ floor 7
    ∷ send 0x6B (0x54 ∷ 0x01 ∷ 0x50 ∷ [])
    ∷ floor 8
    ∷ send 0x6B (0x22 ∷ [])
    ∷ floor 6
    ∷ send 0x6B (0x00 ∷ [])
    ∷ floor 0
    ∷ send 0x6B (0x50 ∷ 0x20 ∷ 0x08 ∷ [])
    ∷ floor 8
    ∷ send 0x6B (0x50 ∷ 0x20 ∷ 0x80 ∷ [])
    ∷ floor 8
    ∷ [])
    -- in a block's last slot too the registers count, though without auto restart no slot follows
    ∷ row "floor, speed lowered in the last slot"
    (send 0x6B (program 0x1000 1 (0x22 ∷ 0x02 ∷ []) 0xCD 0x2000 0x82)
    ∷ floor 5
    ∷ clocks 10
    ∷ speed 0
    ∷ floor 33
    ∷ clocks 53
    ∷ enabled true
    ∷ floor 33
    ∷ clocks 1
    ∷ enabled false
    ∷ counts 4 0 60
    ∷ floor 33
    ∷ clocks 33
    ∷ counts 4 0 93
    ∷ [])
    -- a slot that runs counts until its last clock, or until Disable or Reset drops it
    ∷ row "floor, a running slot dropped"
    (speed 0
    ∷ send 0x6B (program 0x1000 3 (0x22 ∷ 0x02 ∷ []) 0xCD 0x2000 0x82)
    ∷ clocks 32
    ∷ speed 3
    ∷ clocks 31
    ∷ enabled true
    ∷ floor 33
    ∷ send 0x6B (0x83 ∷ [])
    ∷ floor 5
    ∷ clocks 10
    ∷ counts 32 0 41
    ∷ send 0x6B (0x87 ∷ [])
    ∷ clocks 10
    ∷ floor 5
    ∷ send 0x6B (0xC3 ∷ [])
    ∷ floor 0
    ∷ send 0x6B (0x50 ∷ 0x20 ∷ 0x01 ∷ [])
    ∷ floor 9
    ∷ [])
    -- refused calls and bytes put into memory, between the clocks of a slot
    ∷ row "floor, refused calls in between"
    (send 0x6B (program 0x1000 3 (0x22 ∷ 0x01 ∷ []) 0xCD 0x2000 0x82)
    ∷ floor 5
    ∷ clocks 2
    ∷ send_refused 0x6B 0x83 3
    ∷ expect_refused 0x6B 3
    ∷ speed_refused 4 7
    ∷ borrow 0 65536 9 4
    ∷ fill 0x1000 (0xB1 ∷ [])
    ∷ floor 5
    ∷ clocks 2
    ∷ counts 4 0 0
    ∷ clocks 1
    ∷ counts 4 0 1
    ∷ [])
    -- the largest floor across slots, a block's end and its restart
    ∷ row "floor of 65 across a restart"
    (speed 0
    ∷ send 0x6B (0x83 ∷ 0x7D ∷ 0x00 ∷ 0x10 ∷ 0x02 ∷ 0x00 ∷ 0x54 ∷ 0x00 ∷ 0x50 ∷ 0x20 ∷ 0x03 ∷ 0xCD ∷ 0x00 ∷ 0x20 ∷ 0xA2 ∷ 0xCF ∷ 0x87 ∷ [])
    ∷ floor 65
    ∷ clocks 64
    ∷ counts 64 0 0
    ∷ clocks 1
    ∷ counts 64 0 1
    ∷ clocks 31
    ∷ floor 65
    ∷ clocks 64
    ∷ counts 128 0 32
    ∷ clocks 1
    ∷ counts 128 0 33
    ∷ clocks 31
    ∷ enabled true
    ∷ counter 0
    ∷ floor 65
    ∷ clocks 64
    ∷ counts 192 0 64
    ∷ clocks 1
    ∷ counts 192 0 65
    ∷ [])
    -- a sample player at 16 kHz, memory to I/O, 1,760 clocks a byte: its floor at each speed, and none in continuous
    ∷ row "floor of a sample player"
    (send 0x6B (0x83 ∷ 0x7D ∷ 0x00 ∷ 0x10 ∷ 0x00 ∷ 0x01 ∷ 0x54 ∷ 0x02 ∷ 0x68 ∷ 0x22 ∷ 0x37 ∷ 0xCD ∷ 0xDF ∷ 0x00 ∷ 0x82 ∷ 0xCF ∷ [])
    ∷ floor 5
    ∷ speed 2
    ∷ floor 9
    ∷ speed 1
    ∷ floor 17
    ∷ speed 0
    ∷ floor 33
    ∷ send 0x6B (0xA1 ∷ [])
    ∷ floor 0
    ∷ [])
    ∷ []

-- every action of every row is answered and seen as the table says
abbrev pub Right : Type 0
Right = failures start table ≡ []
