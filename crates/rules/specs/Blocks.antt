-- The block count, the bytes left, and whether a block is finished.
-- Assumes nothing.
use Rattle.std.specs.Prelude.{ℕ, ◌+◌, ◌-◌, ◌%◌, Bool, leb}
use Rattle.rules.specs.Choice.{pick}
use Rattle.rules.specs.declared.Block.{Block}

-- the bytes of a block: the length in zxn mode, one more in Zilog mode, so 0 to 65,536
unfoldable pub block_count : Block → ℕ
block_count b = pick b.zilog (b.length + 1) b.length

-- the bytes that the counter is short of the block count, modulo 2^32
abbrev pub bytes_left : Block → ℕ
bytes_left b = (block_count b + (4294967296 - b.counter)) % 4294967296

-- the counter is at or above the block count
unfoldable pub finished : Block → Bool
finished b = leb (block_count b) b.counter
