-- Grants split because n clocks keep a valid device valid and its buffers' lengths, and clocks of m + n are n after m.
-- Assumes nothing.
use Prim.Native.Nat.{ℕ, ◌+◌}
use native.Mathlib.Omega.{arith}
use mathlib.Core.Path.{◌≡◌, refl, sym, ◌∙◌, ap, subst}
use mathlib.Core.List.{List, [], ◌∷◌}
use lib.ListN.{length, length-set}
use borrow.Author.Tests.{eqb-true}
use Rattle.rules.specs.Validity.{total}
use Rattle.rules.specs.Facts.{InRange}
use Rattle.rules.specs.Buffers.{Store, Buffers, put}
use Rattle.rules.specs.World.{World, System, buffers_after, step, clocked}
use Rattle.rules.specs.Calls.{Answer, grant_number, grant, grant_over}
use Rattle.rules.specs.Splitting.{sum_of, AcceptedInTurn, Splits}
use Rattle.rules.specs.declared.Place.{Place}
use Rattle.rules.proofs.Choice.{pick_cases, pick_both}
use Rattle.rules.proofs.World.{clocked_zero, clocked_add, clocked_total, clocked_keeps, clocked_kept}
use Rattle.rules.proofs.Calls.{Granted, granted, grantable, grant_accepts, valid_device, device_valid}

module _ {M : Type 0} (σ : Store M) where
  -- what a grant asks of the buffers, a clock keeps
  pub record SameBuffers (b d : Buffers M) : Type 0 where
    pub memory : σ.refusal d.memory ≡ σ.refusal b.memory
    pub latches : length d.latches ≡ length b.latches

  put_same : (p : Place) (byte : ℕ) (b : Buffers M) → SameBuffers b (put σ p byte b)
  unfolding put
  put_same p byte b =
      pick_both (SameBuffers b) _ _ _
      (record { memory = refl; latches = length-set b.latches _ _ })
      (record { memory = σ.refusal_kept b.memory _ _; latches = refl })

  step_same : (w : World M) → SameBuffers w.buffers (step σ w).buffers
  unfolding buffers_after
  step_same w =
      pick_both (SameBuffers w.buffers) _ _ _ (put_same _ _ w.buffers) (record { memory = refl; latches = refl })

  clocked_same : (n : ℕ) (s : System M) → SameBuffers s.world.buffers (clocked σ n s).world.buffers
  clocked_same n s =
      clocked_keeps σ (λ (t : System M). SameBuffers s.world.buffers t.world.buffers)
      (λ t h. let k = step_same t.world in record { memory = k.memory ∙ h.memory; latches = k.latches ∙ h.latches })
      n s (record { memory = refl; latches = refl })

  pub grant_same : (s : System M) (n : ℕ) → SameBuffers s.world.buffers (grant σ s n).system.world.buffers
  unfolding grant_over
  grant_same s n =
      pick_both (λ (a : Answer M). SameBuffers s.world.buffers a.system.world.buffers) _ _ _ (clocked_same n s) (record { memory = refl; latches = refl })

  -- a grant of fewer clocks is accepted too, and so is the rest after it
  granted_fewer : (s : System M) (k n : ℕ) → Granted σ s.world.core (total s.clocks) s.world.buffers (k + n) → Granted σ s.world.core (total s.clocks) s.world.buffers k
  granted_fewer s k n g = record { state = g.state; memory = g.memory; latches = g.latches; room = omega (arith, g.room) }

  granted_rest : (s : System M) (k n : ℕ) → InRange s.world.core → Granted σ s.world.core (total s.clocks) s.world.buffers (k + n) → Granted σ (clocked σ k s).world.core (total (clocked σ k s).clocks) (clocked σ k s).world.buffers n
  granted_rest s k n r g =
      let v = valid_device s.world.core s.clocks r g.state in
      let t = clocked_total σ k s in
      let b = clocked_same k s in
      record {
        state = device_valid (clocked σ k s).world.core (clocked σ k s).clocks (record { core = clocked_kept σ k s v.core; sum = omega (arith, g.room) });
        memory = b.memory ∙ g.memory;
        latches = b.latches ∙ g.latches;
        room = omega (arith, g.room);
      }

  accepted_in_turn : (ns : List ℕ) (s : System M) → InRange s.world.core → Granted σ s.world.core (total s.clocks) s.world.buffers (sum_of ns) → AcceptedInTurn σ ns s (clocked σ (sum_of ns) s)
  unfolding AcceptedInTurn sum_of
  accepted_in_turn [] s r g = sym (clocked_zero σ s)
  accepted_in_turn (n ∷ ns) s r g =
      let e = grantable σ _ _ _ n (granted_fewer s n (sum_of ns) g) in
      let a = grant_accepts σ s (clocked σ n s) n e refl in
      let v = valid_device s.world.core s.clocks r g.state in (
        sym (ap (λ (x : Answer M). x.answered.number) a),
        subst (λ (x : Answer M). AcceptedInTurn σ ns x.system (clocked σ (n + sum_of ns) s)) a
            (subst (λ (t : System M). AcceptedInTurn σ ns (clocked σ n s) t) (sym (clocked_add σ n (sum_of ns) s))
            (accepted_in_turn ns (clocked σ n s) (clocked_kept σ n s v.core).range (granted_rest s n (sum_of ns) r g))),
      )

  -- an accepted grant has no refusal number, and ends after its clocks
  pub accepted_number : (s : System M) (n : ℕ) → (grant σ s n).answered.number ≡ 0 → grant_number σ s n ≡ 0
  unfolding grant_over
  accepted_number s n =
      pick_cases (λ (a : Answer M). a.answered.number ≡ 0 → grant_number σ s n ≡ 0) _ _ _ (λ e h. eqb-true _ _ e) (λ e h. h)

  pub grant_splits : Splits σ
  grant_splits s r n e ns q =
      let z = accepted_number s n e in
      subst (λ (t : System M). AcceptedInTurn σ ns s t)
      (ap (λ (k : ℕ). clocked σ k s) q ∙ ap (λ (a : Answer M). a.system) (grant_accepts σ s (clocked σ n s) n z refl))
      (accepted_in_turn ns s r (granted σ _ _ _ _ (ap (λ (k : ℕ). grant_number σ s k) q ∙ z)))
