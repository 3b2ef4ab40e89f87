-- The two buffers that a caller lends, behind the references that hold them.
-- Assumes nothing.
use Rattle.std.specs.Prelude.{ℕ, List, length, ◌≡◌}
use Rattle.rules.specs.Buffers.{Buffers}
use Rattle.clocking.specs.declared.transfer.Lent.{Lent}

-- the buffers as they are
abbrev pub buffers_of : Lent → Buffers (List ℕ)
buffers_of x = record { memory = x.memory.now; latches = x.latches.now }

-- both references are still those of before
abbrev pub SameLent : Lent → Lent → Type 0
SameLent before after =
    (after.memory.ghost_name ≡ before.memory.ghost_name) × (after.latches.ghost_name ≡ before.latches.ghost_name)

-- buffers as long as others: a reference within `Lent` may come to lend another length, as one that is a parameter may not
pub record AsLong (b d : Buffers (List ℕ)) : Type 0 where
  pub memory : length b.memory ≡ length d.memory
  pub latches : length b.latches ≡ length d.latches
