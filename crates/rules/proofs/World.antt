-- n clocks, by induction on n: clocks of m + n are n after m, each is counted once, and what each keeps they keep, validity
-- among it.
-- Assumes nothing.
use Prim.Native.Nat.{ℕ, zero, suc, ◌+◌}
use native.Mathlib.Omega.{arith}
use native.Mathlib.Nat.{add-zero, add-suc}
use mathlib.Core.Path.{◌≡◌, refl, sym, ◌∙◌, ap, subst}
use Rattle.rules.specs.Validity.{total}
use Rattle.rules.specs.Facts.{Kept}
use Rattle.rules.specs.Clock.{bus_clock, held_clock, cpu_clock, counted_by, clock_of}
use Rattle.rules.specs.declared.at_once.Kind.{Kind}
use Rattle.rules.specs.Buffers.{Store}
use Rattle.rules.specs.World.{System, step_counted, clocked, clocked_by}
use Rattle.rules.specs.declared.Clocks.{Clocks}
use Rattle.rules.proofs.Clock.{clock_kept}

-- n clocks of a kind add n to the sum of the counts
pub total_counted : (k : Kind) (n : ℕ) (x : Clocks) → total (counted_by k n x) ≡ total x + n
total_counted bus_clock n x = omega arith
total_counted held_clock n x = omega arith
total_counted cpu_clock n x = omega arith

module _ {M : Type 0} (σ : Store M) where
  pub clocked_zero : (s : System M) → clocked σ 0 s ≡ s
  unfolding clocked_by
  clocked_zero s = refl

  pub clocked_suc : (n : ℕ) (s : System M) → clocked σ (suc n) s ≡ step_counted σ (clocked σ n s)
  unfolding clocked_by
  clocked_suc n s = refl

  -- clocks of m + n are n after m
  pub clocked_add : (m n : ℕ) (s : System M) → clocked σ (m + n) s ≡ clocked σ n (clocked σ m s)
  clocked_add m zero s = ap (λ k. clocked σ k s) (add-zero m) ∙ sym (clocked_zero (clocked σ m s))
  clocked_add m (suc n) s =
      ap (λ k. clocked σ k s) (add-suc m n)
      ∙ clocked_suc (m + n) s
      ∙ ap (step_counted σ) (clocked_add m n s)
      ∙ sym (clocked_suc n (clocked σ m s))

  -- n clocks add n to the sum of the counts
  pub clocked_total : (n : ℕ) (s : System M) → total (clocked σ n s).clocks ≡ total s.clocks + n
  clocked_total zero s = ap (λ (t : System M). total t.clocks) (clocked_zero s) ∙ sym (add-zero _)
  clocked_total (suc n) s =
      ap (λ (t : System M). total t.clocks) (clocked_suc n s)
      ∙ total_counted (clock_of (clocked σ n s).world.core).kind 1 (clocked σ n s).clocks
      ∙ (let h = clocked_total n s in omega arith)

  -- what each clock keeps, n clocks keep
  pub clocked_keeps : (P : System M → Type 0) → ((t : System M) → P t → P (step_counted σ t)) → (n : ℕ) (s : System M) → P s → P (clocked σ n s)
  clocked_keeps P f zero s p = subst P (sym (clocked_zero s)) p
  clocked_keeps P f (suc n) s p = subst P (sym (clocked_suc n s)) (f (clocked σ n s) (clocked_keeps P f n s p))

  -- a valid core stays valid
  pub clocked_kept : (n : ℕ) (s : System M) → Kept s.world.core → Kept (clocked σ n s).world.core
  clocked_kept = clocked_keeps (λ (t : System M). Kept t.world.core) (λ t k. clock_kept t.world.core k)
