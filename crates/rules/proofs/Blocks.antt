-- A block has at most 65,536 bytes, so that one that is not finished has room for one more.
-- Assumes nothing.
use Prim.Native.Nat.{◌+◌, ◌≤◌, ◌<◌}
use native.Mathlib.Omega.{arith}
use mathlib.Core.Path.{◌≡◌}
use mathlib.Core.Bool.{false}
use borrow.Author.Tests.{leb-true, leb-false, le-leb, lt-leb}
use Rattle.rules.specs.Parts.{with_counter}
use Rattle.rules.specs.Blocks.{block_count, finished}
use Rattle.rules.specs.Exactly.{BlockExact}
use Rattle.rules.specs.declared.Block.{Block}
use Rattle.rules.proofs.Choice.{pick_true, pick_false, pick_both}

-- a block has at most 65,536 bytes
pub count_most : (b : Block) → b.length < 65536 → block_count b ≤ 65536
unfolding block_count
count_most b h = pick_both (λ n. n ≤ 65536) _ _ _ (omega arith) (omega arith)

pub block_exact : (b : Block) → BlockExact b
unfolding block_count finished
block_exact b =
    record {
      zxn = λ e. pick_false _ _ _ e;
      zilog = λ e. pick_true _ _ _ e;
      end = record { to = λ e. leb-true _ _ e; from = λ h. le-leb _ _ h };
    }

-- an unfinished block has room for one more byte
pub unfinished_room : (b : Block) → b.length < 65536 → finished b ≡ false → b.counter + 1 ≤ 65536
unfolding finished
unfinished_room b h e = omega (arith, leb-false (block_count b) b.counter e, count_most b h)

-- a block of some bytes is unfinished once the counter is 0
pub reloaded_unfinished : (b : Block) → 0 < block_count b → finished (with_counter 0 b) ≡ false
unfolding finished block_count
reloaded_unfinished b h = lt-leb _ _ h
