-- The bytes not taken, copied to the front of the buffer, are kept.
-- Assumes nothing.
use Rattle.std.proofs.Common.{◌≡◌, ℕ, ◌+◌, ◌-◌, ◌≤◌, min, List, ◌++◌, length, take, drop, sym, ap, ◌∙◌, inl, inr, arith}
use Rattle.std.proofs.Math.ListN.{drop_of_length-le}
use Rattle.std.proofs.lemmas.Bool.{cases_lt}
use Rattle.std.proofs.lemmas.Slice.{between_is}
use Rattle.std.specs.List.{copy_within}
use lib.Seq.{length-slice}
use lib.ListN.{length-take}
use Rattle.bench.specs.Buffered.{not_taken, kept}

-- a place behind the end is as good as the end
dropped : (at n : ℕ) (l : List ℕ) → length l ≤ n → drop (min at n) l ≡ drop at l
dropped at n l h =
    elim (cases_lt at n) [
      | inl e ↦ ap (λ (k : ℕ). drop k l) (let z : min at n ≡ at = omega arith in z)
      | inr e ↦ drop_of_length-le l {i = min at n} (omega arith) ∙ sym (drop_of_length-le l {i = at} (omega arith))
    ]

module _ (at have : ℕ) (l : List ℕ) (fits : have ≤ length l) where
  not_taken_is : take (have - min at have) (drop (min at have) l) ≡ not_taken at have l
  not_taken_is = between_is l (min at have) have ∙ dropped at have (take have l) (omega (arith, length-take have l))

  pub keeping : (n : ℕ) (l' : List ℕ) → n ≡ min at have → l' ≡ copy_within l n have 0 → (have - n ≡ have - at) × (l' ≡ kept at have l)
  unfolding kept
  keeping n l' e f =
      let count : 0 + (have - n) ≡ length (not_taken at have l) = omega (arith, e, length-slice at have l fits) in (
        omega (arith, e),
        f
            ∙ ap (λ (k : ℕ). take (have - n) (drop n l) ++ drop k l) count
            ∙ ap (λ (k : ℕ). take (have - k) (drop k l) ++ drop (length (not_taken at have l)) l) e
            ∙ ap (λ (x : List ℕ). x ++ drop (length (not_taken at have l)) l) not_taken_is,
      )
