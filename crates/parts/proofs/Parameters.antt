-- From A timing on the valid numbers are the divisors of the read mask's, and WR4's two together: neither these nor the valid ones
-- go beyond 512, and all up to there are tried.
-- Assumes nothing.
use Rattle.std.proofs.Common.{◌≡◌, ℕ, ◌+◌, ◌%◌, ◌<◌, ◌≤◌, Bool, true, false, ◌||◌, eqb, ltb, [], ◌∷◌, sym, refl, ◌∙◌, mod-eq_of_lt, arith, ltb-false, ltb-true, lt-ltb, le-ltb, eqb-true}
use Rattle.rules.specs.Choice.{pick, any, means}
use Rattle.rules.specs.Pending.{a_timing, b_low, b_high, read_mask, valid_pending}
use Rattle.rules.specs.Opened.{opened}
use Rattle.rules.proofs.Choice.{clash, either, any_cases, any_none, means_so, strict}
use Rattle.rules.proofs.Trying.{all_below, below_at}
use Rattle.rules.proofs.Parameters.{each_number}

-- a divisor of the read mask's number, or WR4's two together
unfoldable pub divisor_or_both : ℕ → Bool
divisor_or_both p = any (eqb (read_mask % p) 0 ∷ eqb p (b_low + b_high) ∷ [])

no_divisor : (p : ℕ) → read_mask < p → read_mask % p ≡ 0 → p < 513
no_divisor p h e = absurd (omega (arith, mod-eq_of_lt h, e))

divisor_small : (p : ℕ) → divisor_or_both p ≡ true → p < 513
unfolding divisor_or_both
divisor_small p e =
    any_cases _ _ e
    (λ d. either (ltb p 513) (ltb-true _ _) (λ h. no_divisor p (omega (arith, ltb-false p 513 h)) (eqb-true _ _ d)))
    (λ e. any_cases _ _ e (λ d. omega (arith, eqb-true p 384 d)) any_none)

divisor_valid : (p : ℕ) → divisor_or_both p ≡ true → valid_pending p ≡ true
unfolding opened all_below divisor_or_both
divisor_valid p e = means_so _ _ (below_at 513 (λ p. means (divisor_or_both p) (valid_pending p)) refl p (divisor_small p e)) e

valid_divisor : (p : ℕ) → valid_pending p ≡ true → any (ltb p a_timing ∷ divisor_or_both p ∷ []) ≡ true
unfolding opened all_below divisor_or_both
valid_divisor p e = each_number (λ p. any (ltb p a_timing ∷ divisor_or_both p ∷ [])) refl p e

-- two tests of which each means the other
same_test : (s t : Bool) → (s ≡ true → t ≡ true) → (t ≡ true → s ≡ true) → s ≡ t
same_test true t f g = sym (f refl)
same_test false true f g = g refl
same_test false false f g = refl

pub of_wr0 : (p : ℕ) → p < a_timing → valid_pending p ≡ true
unfolding valid_pending any pick
of_wr0 p h = simp (lt-ltb _ _ h)

pub from_timing_on : (p : ℕ) → a_timing ≤ p → valid_pending p ≡ (eqb (read_mask % p) 0 || eqb p (b_low + b_high))
unfolding divisor_or_both
from_timing_on p h =
    sym
    (same_test _ _ (divisor_valid p)
    (λ e. any_cases _ _ (valid_divisor p e) (λ d. clash (sym (le-ltb _ _ h) ∙ d)) (λ d. any_cases _ _ d (λ t. t) any_none)))
    ∙ simp strict
