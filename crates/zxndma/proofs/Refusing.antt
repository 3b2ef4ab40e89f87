-- Where a device is valid and the buffers have their lengths, only the sum of the clocks can refuse a grant.
-- Assumes nothing.
use Prim.Native.Nat.{ℕ, ◌+◌, ◌≤◌, ◌<◌}
use native.Mathlib.Omega.{arith}
use mathlib.Core.Path.{◌≡◌, sym, ◌∙◌}
use mathlib.Core.Bool.{true}
use mathlib.Core.List.{[], ◌∷◌}
use lib.Dec.{ltb}
use borrow.Author.Tests.{eq-eqb, lt-ltb, le-ltb}
use Rattle.rules.specs.Choice.{pick, test, first_hit}
use Rattle.rules.specs.Validity.{valid, most64}
use Rattle.rules.specs.Buffers.{length_refusal}
use Rattle.rules.specs.Refusals.{lent_refusal, lent_refusal_if}
use Rattle.rules.specs.declared.Core.{Core}
use Rattle.parts.specs.Numbers.{reason_number}
use Rattle.parts.specs.declared.refusal.Refusal.{Refusal}
use Rattle.parts.specs.declared.refusal.Refusal.TheVariants.{InvalidDevice, WrongPort, BusHeld, MemoryLength, LatchesLength, TooManyClocks, NoSpeed}

sum_alone : (c : Core) (sum m l n : ℕ) → valid c sum ≡ true → m ≡ 65536 → l ≡ 65536 → lent_refusal c sum (length_refusal m) l n ≡ first_hit (test 6 (ltb most64 (sum + n)) ∷ [])
unfolding lent_refusal_if first_hit pick
sum_alone c sum m l n v d e = simp (v, eq-eqb _ _ d, eq-eqb _ _ e)

pub sum_refused : (c : Core) (sum m l n : ℕ) → valid c sum ≡ true → m ≡ 65536 → l ≡ 65536 → most64 < sum + n → 6 ≡ lent_refusal c sum (length_refusal m) l n
unfolding first_hit pick
sum_refused c sum m l n v d e h = sym (sum_alone c sum m l n v d e ∙ simp (lt-ltb _ _ h))

pub sum_accepted : (c : Core) (sum m l n : ℕ) → valid c sum ≡ true → m ≡ 65536 → l ≡ 65536 → sum + n ≤ most64 → 0 ≡ lent_refusal c sum (length_refusal m) l n
unfolding first_hit pick
sum_accepted c sum m l n v d e h = sym (sum_alone c sum m l n v d e ∙ simp (le-ltb _ _ h))

-- no refusal has the number 0
pub reason_some : (refusal : Refusal) → reason_number refusal ≡ 0 → ⊥
reason_some InvalidDevice e = omega arith
reason_some WrongPort e = omega arith
reason_some BusHeld e = omega arith
reason_some MemoryLength e = omega arith
reason_some LatchesLength e = omega arith
reason_some TooManyClocks e = omega arith
reason_some NoSpeed e = omega arith
