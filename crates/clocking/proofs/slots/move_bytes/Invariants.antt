-- Ports and buffers are those after so many bytes, the buffers behind the references that came. Left are the bytes up to k.
-- Assumes nothing.
use Prim.Native.Nat.{◌-◌}
use Rattle.clocking.specs.Lent.{buffers_of, SameLent}
use Rattle.clocking.proofs.WholeSlots.{Carrying}
use Rattle.clocking.proofs.slots.move_bytes.Given as goal

abbrev pub invariant-loop : goal.invariant-loop
invariant-loop l =
    record {
      carrying : Carrying l.c l.k (buffers_of l.initial.lent) (buffers_of l.lent) l.a l.b l.counter;
      same : SameLent l.initial.lent l.lent;
    }

abbrev pub decreases-loop : goal.decreases-loop
decreases-loop l = l.k - l.counter
