-- The next parameter is the one of the lowest bit that is set, where that is one of the ten.
-- Assumes nothing.
use Rattle.std.proofs.Common.{◌≡◌, ℕ, zero, suc, ◌+◌, ◌^◌, ◌<◌, ◌≤◌, eqb, ltb, List, [], ◌∷◌, sym, refl, ap, ◌∙◌, arith, eq-eqb, ne_eqb, eqb-true, lt-ltb, le-ltb}
use Rattle.std.specs.Int.{bit_at, w16}
use Rattle.std.specs.Int.Count.{count_trailing_zeros, trailing_of_zero}
use Rattle.std.proofs.lemmas.Nat.Bits.{bit_at-trailing_zeros}
use Rattle.rules.specs.Choice.{pick, Row, ◌⇒◌, first_of}
use Rattle.rules.specs.Bytes.{bit}
use Rattle.rules.specs.Pending.{next}
use Rattle.rules.proofs.Choice.{either, pick_true, pick_false}
use Rattle.std.proofs.lemmas.Bool.{eqb-false}

-- n bits from bit k on, and the number of each
abbrev bits_from : ℕ → ℕ → ℕ → List (Row ℕ)
bits_from zero k p = []
bits_from (suc n) k p = (bit k p ⇒ 2 ^ k) ∷ bits_from n (suc k) p

-- the lowest bit that is set is among them or above them
lowest_from : (n k p low end : ℕ) → k + n ≡ end → k ≤ low → bit_at p low ≡ 1 → ((i : ℕ) → i < low → bit_at p i ≡ 0) → first_of (bits_from n k p) 0 ≡ pick (ltb low end) (2 ^ low) 0
unfolding first_of
lowest_from zero k p low end e h set clear = sym (pick_false _ _ _ (le-ltb _ _ (omega (arith, e, h))))
lowest_from (suc n) k p low end e h set clear =
    either (eqb k low)
    (λ t. let d = eqb-true _ _ t in pick_true _ _ _ (eq-eqb _ _ (rw d set)) ∙ ap (λ (x : ℕ). 2 ^ x) d ∙ sym (pick_true _ _ _ (lt-ltb _ _ (omega (arith, d, e)))))
    (λ t. let l : k < low = omega (arith, h, eqb-false _ _ t) in pick_false _ _ _ (ne_eqb _ _ (omega (arith, clear k l))) ∙ lowest_from n (suc k) p low end (omega (arith, e)) (omega (arith, l)) set clear)

pub lowest : (p : ℕ) → p < 65536 → next p ≡ pick (ltb (count_trailing_zeros 16 p) 10) (2 ^ count_trailing_zeros 16 p) 0
unfolding next first_of pick
lowest zero h = simp (trailing_of_zero 16)
lowest (suc p) h = let s = bit_at-trailing_zeros w16 (suc p) (omega arith) h in lowest_from 10 0 (suc p) _ 10 refl (omega arith) s.1 s.2
