-- Another test ν of validity and another clock κ, in place of the rules' own: where the tests agree of a core, and where the
-- clocks agree of whatever a grant from it comes to, every entry is answered and noted alike.
-- Assumes nothing.
use Prim.Native.Nat.{ℕ, zero, suc}
use mathlib.Core.Path.{◌≡◌, refl, ◌∙◌, ap}
use mathlib.Core.Bool.{Bool, true}
use lib.Dec.{eqb}
use borrow.Author.Tests.{eqb-true}
use Rattle.rules.specs.Validity.{valid_core}
use Rattle.rules.specs.Steering.{bits_by}
use Rattle.rules.specs.Registers.{effect_over}
use Rattle.rules.specs.Clock.{Clock, clock_of}
use Rattle.rules.specs.Buffers.{Store, Buffers}
use Rattle.rules.specs.World.{System, step_counted_by, clocked, clocked_by}
use Rattle.rules.specs.Refusals.{grant_refusal}
use Rattle.rules.specs.Calls.{Answer, Reply, accepted, beside, write_reply_over, write_reply, read_reply_over, read_reply, speed_reply_over, speed_reply, grant_number, grant_over, grant}
use Rattle.rules.specs.Entries.{Outside, Entry, port_write, port_read, speed_call, clock_grant, other_grant, outside_change, beside_buffers, enter_over, enter}
use Rattle.rules.specs.History.{Past, noted_unless, grant_noted_by, clock_passed_by, clocks_passed_by, clocks_passed, note_entry_by, note_entry}
use Rattle.rules.specs.declared.Clocks.{Clocks}
use Rattle.rules.specs.declared.Core.{Core}
use Rattle.rules.proofs.Choice.{both_picked}
use Rattle.rules.proofs.World.{clocked_keeps}
use Rattle.rules.proofs.Calls.{granted, valid_core_lem}

-- what each clock keeps, the clocks of a grant keep as they are noted
pub passed_keeps : {M : Type 0} (σ : Store M) (P : Core → Type 0) → ((c : Core) → P c → P (clock_of c).next) → (n : ℕ) (p : Past M) → P p.world.core → P (clocks_passed σ n p).world.core
unfolding clocks_passed_by
passed_keeps σ P f zero p h = h
passed_keeps σ P f (suc n) p h = f _ (passed_keeps σ P f n p h)

-- Q is what the clocks need to agree, and what each clock keeps
module _
    (ν : Core → Bool) (κ : Core → Clock) (Q : Core → Type 0)
    (clock-same : (c : Core) → Q c → κ c ≡ clock_of c)
    (clock_kept : (c : Core) → Q c → Q (clock_of c).next)
  where
    -- the tests agree of a core, and if it is valid the clocks do
    pub record Agrees (c : Core) : Type 0 where
      pub tests : ν c ≡ valid_core c
      pub clocks : valid_core c ≡ true → Q c

    -- ---- a port write, a port read, and a speed call

    pub write_same : (c : Core) (k : Clocks) (port byte : ℕ) → Agrees c → write_reply_over (bits_by ν) c k port byte ≡ write_reply c k port byte
    unfolding write_reply_over effect_over
    write_same c k port byte a = rw a.tests refl

    pub read_same : (c : Core) (k : Clocks) (port : ℕ) → Agrees c → read_reply_over (bits_by ν) c k port ≡ read_reply c k port
    unfolding read_reply_over
    read_same c k port a = rw a.tests refl

    pub speed_same : (c : Core) (k : Clocks) (code : ℕ) → Agrees c → speed_reply_over (bits_by ν) c k code ≡ speed_reply c k code
    unfolding speed_reply_over
    speed_same c k code a = rw a.tests refl

    -- ---- a grant

    module _ {M : Type 0} (σ : Store M) where
      -- it is accepted of a valid core alone
      accepted_clocks : (c : Core) (sum : ℕ) (b : Buffers M) (n : ℕ) → Agrees c → eqb (grant_refusal σ c sum b n) 0 ≡ true → Q c
      accepted_clocks c sum b n a e = a.clocks (valid_core_lem c sum (granted σ c sum b n (eqb-true _ _ e)).state)

      clocked_same : (n : ℕ) (s : System M) → Q s.world.core → clocked_by κ σ n s ≡ clocked σ n s
      unfolding clocked_by
      clocked_same zero s q = refl
      clocked_same (suc n) s q =
          ap (step_counted_by κ σ) (clocked_same n s q)
          ∙ ap (λ (x : Clock). step_counted_by (λ c. x) σ (clocked σ n s))
          (clock-same _ (clocked_keeps σ (λ (t : System M). Q t.world.core) (λ t. clock_kept t.world.core) n s q))

      pub grant_same : (s : System M) (n : ℕ) → Agrees s.world.core → grant_over (bits_by ν) κ σ s n ≡ grant σ s n
      unfolding grant_over
      grant_same s n a =
          rw a.tests
          (both_picked ◌≡◌ (eqb (grant_number σ s n) 0) _ _ _ _
          (λ e. ap (λ (t : System M). record { answered = accepted 0; system = t }) (clocked_same n s (accepted_clocks _ _ _ n a e)))
          (λ e. refl))

    -- ---- an entry, answered and noted

    module _ {M C : Type 0} (σ : Store M) (ω : Outside M C) where
      pub entry_same : (e : Entry σ C) (s : System M) → Agrees s.world.core → enter_over (bits_by ν) κ σ ω e s ≡ enter σ ω e s
      entry_same (port_write port byte) s a =
          ap (λ (r : Reply). beside s.world.buffers r) (write_same s.world.core s.clocks port byte a)
      entry_same (port_read port) s a =
          ap (λ (r : Reply). beside s.world.buffers r) (read_same s.world.core s.clocks port a)
      entry_same (speed_call code) s a =
          ap (λ (r : Reply). beside s.world.buffers r) (speed_same s.world.core s.clocks code a)
      entry_same (clock_grant n) s a = grant_same σ s n a
      entry_same (other_grant n b wrong) s a =
          ap (λ (x : Answer M). record { answered = x.answered; system = beside_buffers s.world.buffers x.system })
          (grant_same σ (beside_buffers b s) n a)
      entry_same (outside_change x) s a = refl

    module _ {M : Type 0} (σ : Store M) where
      passed_same : (n : ℕ) (p : Past M) → Q p.world.core → clocks_passed_by κ σ n p ≡ clocks_passed σ n p
      unfolding clocks_passed_by
      passed_same zero p q = refl
      passed_same (suc n) p q =
          ap (clock_passed_by κ σ) (passed_same n p q)
          ∙ ap (λ (x : Clock). clock_passed_by (λ c. x) σ (clocks_passed σ n p)) (clock-same _ (passed_keeps σ Q clock_kept n p q))

      noted_same : (b : Buffers M) (n : ℕ) (p : Past M) → Agrees p.world.core → grant_noted_by ν κ σ b n p ≡ grant_noted_by valid_core clock_of σ b n p
      unfolding noted_unless
      noted_same b n p a =
          rw a.tests
          (ap (λ (x : Past M). record { number = grant_refusal σ p.world.core p.sum b n; past = x })
          (both_picked ◌≡◌ (eqb (grant_refusal σ p.world.core p.sum b n) 0) _ _ _ _
          (λ e. passed_same n _ (accepted_clocks σ p.world.core p.sum b n a e))
          (λ e. refl)))

    module _ {M C : Type 0} (σ : Store M) (ω : Outside M C) where
      pub note_same : (e : Entry σ C) (p : Past M) → Agrees p.world.core → note_entry_by ν κ σ ω e p ≡ note_entry σ ω e p
      note_same (port_write port byte) p a = rw a.tests refl
      note_same (port_read port) p a = rw a.tests refl
      note_same (speed_call code) p a = rw a.tests refl
      note_same (clock_grant n) p a = noted_same σ p.world.buffers n p a
      note_same (other_grant n b wrong) p a = noted_same σ b n p a
      note_same (outside_change x) p a = refl
