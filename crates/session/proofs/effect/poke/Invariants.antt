-- The bytes from the one at hand on, put into the memory as it is, make of it what all of them make of the memory as it was.
-- Assumes nothing.
use Rattle.std.proofs.Common.{◌≡◌, ◌-◌, length}
use Rattle.rules.specs.Entries.{poked}
use Rattle.session.specs.Effects.{pokes}
use Rattle.session.proofs.effect.poke.Given as goal

abbrev pub invariant-loop-byte : goal.invariant-loop-byte
invariant-loop-byte l =
    poked (pokes (length l.given - l.byte-index) l.given l.byte-index l.to) l.memory ≡ poked (pokes (length l.given) l.given 0 l.address) l.initial.memory
