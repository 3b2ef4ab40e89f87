-- What the code takes of a stretch is what the definitions take, its test of a wait is theirs, and a wait that was taken is one
-- of the definition.
-- Assumes nothing.
use Prim.Native.Nat.{ℕ, ◌+◌, ◌-◌, ◌<◌, min, max}
use native.Mathlib.Omega.{arith}
use mathlib.Core.Path.{◌≡◌, sym, ◌∙◌, ap, subst}
use mathlib.Core.Bool.{Bool, true, false, ◌&&◌}
use mathlib.Core.List.{[]}
use lib.Dec.{ltb}
use borrow.Author.Tests.{ltb-true, ltb-false}
use Rattle.std.specs.Prelude.{Some, None}
use Rattle.rules.specs.Slots.{slot_of}
use Rattle.rules.specs.Stretches.{least, slot_rest, stretch_rest, quiet, elapsed_by}
use Rattle.rules.specs.declared.Slot.{Slot}
use Rattle.rules.specs.declared.Core.{Core}
use Rattle.rules.proofs.Choice.{pick_true, pick_false, pick_cases, either, every_last, every_step, clash}
use Rattle.rules.proofs.Stretches.{quiet_facts}
use Rattle.clocking.specs.Answers.{Wait, wait_answer, wait_of}

-- the smaller of two numbers
pub least_min : (x y : ℕ) → least x y ≡ min x y
unfolding least
least_min x y = pick_cases (λ (n : ℕ). n ≡ min x y) (ltb x y) x y (λ e. omega (arith, ltb-true x y e)) (λ e. omega (arith, ltb-false x y e))

pub rest_max : (s : Slot) → slot_rest s ≡ max (s.length - s.elapsed) 1
unfolding slot_rest
rest_max s =
    pick_cases (λ (n : ℕ). n ≡ max (s.length - s.elapsed) 1) (ltb s.elapsed s.length) _ _
    (λ e. omega (arith, ltb-true s.elapsed s.length e))
    (λ e. omega (arith, ltb-false s.elapsed s.length e))

module _ (c : Core) (n : ℕ) {rest : ℕ} {s : Slot} (a : s ≡ slot_of c) (b : rest ≡ stretch_rest s) where
  -- the code's test is the definition's
  tested : quiet n (slot_of c) ≡ ltb 0 n && ltb n rest
  unfolding quiet
  tested =
      every_step (ltb 0 n) (ltb n (stretch_rest (slot_of c))) []
      ∙ ap (λ (t : Bool). ltb 0 n && t)
      (every_last (ltb n (stretch_rest (slot_of c)))
      ∙ ap (λ (x : Slot). ltb n (stretch_rest x)) (sym a)
      ∙ ap (ltb n) (sym b))

  pub wait_fits : ltb 0 n && ltb n rest ≡ true → s.length < 65536 → s.elapsed + n < 65536
  wait_fits t h = let q = quiet_facts n s (subst (λ (x : Slot). quiet n x ≡ true) (sym a) (tested ∙ t)) in omega (arith, q.length)

  pub waits : ltb 0 n && ltb n rest ≡ true → wait_of (slot_of c) (Some (elapsed_by n s)) ≡ wait_answer n c
  unfolding wait_answer
  waits t = ap (λ (x : Slot). record { quiet = true; slot = elapsed_by n x }) a ∙ sym (pick_true _ _ _ (tested ∙ t))

  pub waits_not : ltb 0 n && ltb n rest ≡ false → wait_of (slot_of c) None ≡ wait_answer n c
  unfolding wait_answer
  waits_not t = sym (pick_false _ _ _ (tested ∙ t))

-- a wait that was taken is one of the definition
pub wait_facts : (c : Core) (n : ℕ) {s : Slot} → wait_of (slot_of c) (Some s) ≡ wait_answer n c → (quiet n (slot_of c) ≡ true) × (s ≡ elapsed_by n (slot_of c))
unfolding wait_answer
wait_facts c n {s} e =
    either (quiet n (slot_of c))
    (λ t. (t, ap (λ (x : Wait). x.slot) (e ∙ pick_true _ _ _ t)))
    (λ t. clash (sym (ap (λ (x : Wait). x.quiet) (e ∙ pick_false _ _ _ t))))
