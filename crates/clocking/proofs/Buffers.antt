-- A byte that is put, and a clock, keep the lengths of the buffers: a fact of the definitions, for lists of any length.
-- Assumes nothing.
use Prim.Native.Nat.{ℕ, zero, suc}
use mathlib.Core.Path.{◌≡◌, refl, sym, ◌∙◌, subst}
use mathlib.Core.Bool.{Bool}
use mathlib.Core.List.{List}
use lib.ListN.{length, length-set}
use Rattle.rules.specs.Clock.{clock_of}
use Rattle.rules.specs.Buffers.{Buffers, flat, put, byte_at, source, destination, transfer}
use Rattle.rules.specs.World.{System, buffers_after, clocked}
use Rattle.rules.specs.WholeSlots.{moved_by, transferred}
use Rattle.rules.specs.declared.Place.{Place}
use Rattle.rules.specs.declared.Port.{Port}
use Rattle.rules.specs.declared.Core.{Core}
use Rattle.rules.proofs.Choice.{pick_both}
use Rattle.rules.proofs.World.{clocked_keeps}
use Rattle.clocking.specs.Answers.{BytesMoved}
use Rattle.clocking.specs.Lent.{AsLong}

as_long : (b : Buffers (List ℕ)) → AsLong b b
as_long b = record { memory = refl; latches = refl }

then : {b d e : Buffers (List ℕ)} → AsLong b d → AsLong d e → AsLong b e
then p q = record { memory = p.memory ∙ q.memory; latches = p.latches ∙ q.latches }

put_lengths : (p : Place) (byte : ℕ) (b : Buffers (List ℕ)) → AsLong (put flat p byte b) b
unfolding put
put_lengths p byte b =
    pick_both (λ (x : Buffers (List ℕ)). AsLong x b) _ _ _
    (record { memory = refl; latches = length-set b.latches _ _ })
    (record { memory = length-set b.memory _ _; latches = refl })

pub transfer_lengths : (from to : Place) {before after : Buffers (List ℕ)} → after ≡ transfer flat from to before → AsLong after before
transfer_lengths from to {before} e =
    subst (λ (x : Buffers (List ℕ)). AsLong x before) (sym e) (put_lengths to (byte_at flat from before) before)

after_lengths : (moves : Bool) (from to : Place) (b : Buffers (List ℕ)) → AsLong (buffers_after flat moves from to b) b
unfolding buffers_after
after_lengths moves from to b = pick_both (λ (x : Buffers (List ℕ)). AsLong x b) moves _ _ (put_lengths _ _ _) (as_long _)

pub transferred_lengths : (k : ℕ) (c : Core) (b : Buffers (List ℕ)) → AsLong (transferred flat k c b) b
unfolding transferred
transferred_lengths zero c b = as_long b
transferred_lengths (suc k) c b = then (put_lengths (destination (moved_by k c)) (byte_at flat (source (moved_by k c)) (transferred flat k c b)) (transferred flat k c b)) (transferred_lengths k c b)

pub moved_lengths : {c : Core} {k : ℕ} {before after : Buffers (List ℕ)} {a b : Port} → BytesMoved c k before after a b → AsLong after before
moved_lengths {c} {k} {before} m =
    subst (λ (x : Buffers (List ℕ)). AsLong x before) (sym m.buffers) (transferred_lengths k c before)

pub clocked_lengths : (n : ℕ) (s : System (List ℕ)) → AsLong (clocked flat n s).world.buffers s.world.buffers
clocked_lengths n s =
    clocked_keeps flat (λ (t : System (List ℕ)). AsLong t.world.buffers s.world.buffers)
    (λ t h. then (after_lengths _ _ _ _) h)
    n s (as_long s.world.buffers)
