-- The calls: power-on is valid, every call keeps a valid device valid, and a refused call hands everything back.
-- Assumes nothing.
use Prim.Native.Nat.{ℕ, suc, ◌+◌, ◌≤◌, ◌<◌}
use native.Mathlib.Omega.{arith}
use mathlib.Core.Path.{◌≡◌, refl, sym, ◌∙◌, ap}
use mathlib.Core.Bool.{Bool, true, false, not}
use mathlib.Core.List.{List, ◌∷◌}
use lib.ListN.{length}
use borrow.Author.Tests.{leb-true, le-leb, le-ltb, ltb-false, eqb-true, eqb-false, eq-eqb, ne_eqb, not-false, not-true}
use Rattle.rules.specs.Choice.{pick, Test, test, first_hit}
use Rattle.rules.specs.Parts.{with_speed}
use Rattle.rules.specs.Speed.{full_speed, at_speed}
use Rattle.rules.specs.Slots.{bus_held}
use Rattle.rules.specs.PowerOn.{power_on, no_clocks}
use Rattle.rules.specs.Validity.{valid_core, valid, total, most64, valid_if}
use Rattle.rules.specs.Facts.{ValidParts, InRange, Kept}
use Rattle.rules.specs.Buffers.{Store, flat, Buffers}
use Rattle.rules.specs.World.{System, clocked}
use Rattle.rules.specs.Refusals.{wrong_port, access_refusal, speed_refusal, lent_refusal, grant_refusal, grant_refusal_if, access_refusal_if, speed_refusal_if, lent_refusal_if}
use Rattle.rules.specs.Calls.{Reply, Answer, accepted, refused, unless_refused, write_reply, read_reply, speed_reply, grant_number, grant, read_reply_over, speed_reply_over, grant_over, write_reply_over}
use Rattle.rules.specs.Keeping.{ValidDevice, StaysValid, StaysValidByTest, HandsBack}
use Rattle.rules.specs.Opened.{opened}
use Rattle.rules.specs.declared.Clocks.{Clocks}
use Rattle.rules.specs.declared.Core.{Core}
use Rattle.rules.proofs.Choice.{pick_cases, pick_both, pick_true, pick_false, either, all_true, true_all}
use Rattle.rules.proofs.Validity.{core_parts, parts_core}
use Rattle.rules.proofs.Steady.{steady_control, kept_from, kept_steady, kept_slot, kept_progress}
use Rattle.rules.proofs.Writing.{write_kept}
use Rattle.rules.proofs.Reading.{read_kept}
use Rattle.rules.proofs.Clock.{clock_kept}
use Rattle.rules.proofs.World.{clocked_kept, clocked_total}

-- ---- the first test that hits

-- a test that hits gives a number other than 0
abbrev Tells : Test → Type 0
Tells t = t.hit ≡ true → t.number ≡ 0 → ⊥

-- where no number is given, the first test did not hit, and the rest gives no number
missed : (t : Test) (ts : List Test) → Tells t → first_hit (t ∷ ts) ≡ 0 → (t.hit ≡ false) × (first_hit ts ≡ 0)
unfolding first_hit
missed t ts n e =
    either t.hit (λ h. absurd (n h (sym (pick_true _ _ _ h) ∙ e))) (λ h. (h, sym (pick_false _ _ _ h) ∙ e))

tells : (k : ℕ) (t : Bool) → Tells (test (suc k) t)
tells k t h e = omega arith

-- ---- what an accepted call has passed, and nothing more

pub record Access (c : Core) (sum port : ℕ) : Type 0 where
  pub state : valid c sum ≡ true
  pub known : wrong_port port ≡ false
  pub free : bus_held c ≡ false

pub access : (c : Core) (sum port : ℕ) → access_refusal c sum port ≡ 0 → Access c sum port
unfolding access_refusal_if
access c sum port e =
    let h = missed _ _ (tells 0 _) e in
    let i = missed _ _ (tells 1 _) h.1 in
    let j = missed _ _ (tells 2 _) i.1 in
    record { state = not-false _ h.0; known = i.0; free = j.0 }

-- a speed call of a valid device, by a code
pub record Speeds (c : Core) (sum code : ℕ) : Type 0 where
  pub state : valid c sum ≡ true
  pub known : code ≤ full_speed

pub speeds : (c : Core) (sum code : ℕ) → speed_refusal c sum code ≡ 0 → Speeds c sum code
unfolding speed_refusal_if
speeds c sum code e =
    let h = missed _ _ (tells 0 _) e in
    let i = missed _ _ (tells 6 _) h.1 in
    record { state = not-false _ h.0; known = leb-true _ _ (not-false _ i.0) }

pub record Granted {M : Type 0} (σ : Store M) (c : Core) (sum : ℕ) (b : Buffers M) (n : ℕ) : Type 0 where
  pub state : valid c sum ≡ true
  pub memory : σ.refusal b.memory ≡ 0
  pub latches : length b.latches ≡ 65536
  pub room : sum + n ≤ most64

module _ {M : Type 0} (σ : Store M) where
  pub granted : (c : Core) (sum : ℕ) (b : Buffers M) (n : ℕ) → grant_refusal σ c sum b n ≡ 0 → Granted σ c sum b n
  unfolding grant_refusal_if lent_refusal_if
  granted c sum b n e =
      let h = missed _ _ (tells 0 _) e in
      let i = missed _ _ (λ t z. eqb-false _ _ (not-true _ t) z) h.1 in
      let j = missed _ _ (tells 4 _) i.1 in
      let k = missed _ _ (tells 5 _) j.1 in
      record {
        state = not-false _ h.0;
        memory = eqb-true _ _ (not-false _ i.0);
        latches = eqb-true _ _ (not-false _ j.0);
        room = ltb-false _ _ k.0;
      }

  pub grantable : (c : Core) (sum : ℕ) (b : Buffers M) (n : ℕ) → Granted σ c sum b n → grant_refusal σ c sum b n ≡ 0
  unfolding grant_refusal_if lent_refusal_if first_hit
  grantable c sum b n g =
      pick_false _ _ _ (ap not g.state)
      ∙ pick_false _ _ _ (ap not (eq-eqb _ _ g.memory))
      ∙ pick_false _ _ _ (ap not (eq-eqb _ _ g.latches))
      ∙ pick_false _ _ _ (le-ltb _ _ g.room)

-- ---- a valid device stays valid

-- the test of validity is true of it, and false of no other core within its types
pub device_valid : (c : Core) (k : Clocks) → ValidDevice c k → valid c (total k) ≡ true
unfolding valid_if
device_valid c k s = true_all _ (parts_core c s.core.valid, (le-leb _ _ s.sum, tt))

pub valid_device : (c : Core) (k : Clocks) → InRange c → valid c (total k) ≡ true → ValidDevice c k
unfolding valid_if
valid_device c k r e =
    let h = all_true _ e in record { core = record { valid = core_parts c h.0; range = r }; sum = leb-true _ _ h.1.0 }

power_on_valid : ValidDevice power_on no_clocks
unfolding opened
power_on_valid =
    record {
      core =
          record {
            valid = core_parts power_on refl;
            range = record { a = omega arith; b = omega arith; length = omega arith; prescaler = omega arith };
          };
      sum = omega arith;
    }

-- ---- a write or a read, unless it is refused

unless_valid : (number byte warning : ℕ) (next c : Core) (k : Clocks) → (number ≡ 0 → Kept next) → ValidDevice c k → ValidDevice (unless_refused number byte warning next c k).core (unless_refused number byte warning next c k).clocks
unfolding unless_refused
unless_valid number byte warning next c k f s =
    pick_cases (λ (r : Reply). ValidDevice r.core r.clocks) _ _ _
    (λ e. record { core = f (eqb-true _ _ e); sum = s.sum }) (λ e. s)

-- what holds of the core before it, and after it if it is accepted
pub unless_core : (P : Core → Type 0) (number byte warning : ℕ) (next c : Core) (k : Clocks) → (number ≡ 0 → P next) → P c → P (unless_refused number byte warning next c k).core
unfolding unless_refused
unless_core P number byte warning next c k f h = pick_cases (λ (r : Reply). P r.core) _ _ _ (λ e. f (eqb-true _ _ e)) (λ e. h)

pub unless_number : (number byte warning : ℕ) (next c : Core) (k : Clocks) → (unless_refused number byte warning next c k).answered.number ≡ number
unfolding unless_refused
unless_number number byte warning next c k =
    pick_cases (λ (r : Reply). r.answered.number ≡ number) _ _ _ (λ e. sym (eqb-true _ _ e)) (λ e. refl)

unless_refused_lem : (number byte warning : ℕ) (next c : Core) (k : Clocks) → ((unless_refused number byte warning next c k).answered.number ≡ 0 → ⊥) → unless_refused number byte warning next c k ≡ record { answered = refused number; core = c; clocks = k }
unfolding unless_refused
unless_refused_lem number byte warning next c k =
    pick_cases
    (λ (r : Reply). (r.answered.number ≡ 0 → ⊥) → r ≡ record { answered = refused number; core = c; clocks = k })
    _ _ _ (λ e n. absurd (n refl)) (λ e n. refl)

write_valid : (c : Core) (k : Clocks) (port byte : ℕ) → byte < 256 → ValidDevice c k → ValidDevice (write_reply c k port byte).core (write_reply c k port byte).clocks
unfolding write_reply_over
write_valid c k port byte h s =
    unless_valid _ _ _ _ c k (λ e. write_kept port byte c h (access c (total k) port e).free s.core) s

read_valid : (c : Core) (k : Clocks) (port : ℕ) → ValidDevice c k → ValidDevice (read_reply c k port).core (read_reply c k port).clocks
unfolding read_reply_over
read_valid c k port s = unless_valid _ _ _ _ c k (λ e. read_kept c s.core) s

speed_kept : (c : Core) (code : ℕ) → code ≤ full_speed → Kept c → Kept (at_speed code c)
speed_kept c code h k =
    let s = kept_steady c k in
    kept_from _ (steady_control s (with_speed code c.control) s.prescaler h) (kept_slot c k) (kept_progress c k)

speed_valid : (c : Core) (k : Clocks) (code : ℕ) → ValidDevice c k → ValidDevice (speed_reply c k code).core (speed_reply c k code).clocks
unfolding speed_reply_over
speed_valid c k code s = unless_valid _ _ _ _ c k (λ e. speed_kept c code (speeds c (total k) code e).known s.core) s

abbrev pub ValidSystem : {M : Type 0} → System M → Type 0
ValidSystem s = ValidDevice s.world.core s.clocks

module _ {M : Type 0} (σ : Store M) where
  grant_valid : (s : System M) (n : ℕ) → ValidSystem s → ValidSystem (grant σ s n).system
  unfolding grant_over
  grant_valid s n h =
      pick_cases (λ (a : Answer M). ValidSystem a.system) _ _ _
      (λ e.
      let g = granted σ _ _ _ n (eqb-true _ _ e) in
      record { core = clocked_kept σ n s h.core; sum = (let t = clocked_total σ n s in omega (arith, g.room)) })
      (λ e. h)

  -- neither a byte nor a warning
  pub grant_plain : (s : System M) (n : ℕ) → ((grant σ s n).answered.byte ≡ 0) × ((grant σ s n).answered.warning ≡ 0)
  unfolding grant_over
  grant_plain s n = pick_both (λ (a : Answer M). (a.answered.byte ≡ 0) × (a.answered.warning ≡ 0)) _ _ _ (refl, refl) (refl, refl)

  -- a refused one hands everything back
  grant_refused : (s : System M) (n : ℕ) → ((grant σ s n).answered.number ≡ 0 → ⊥) → grant σ s n ≡ record { answered = refused (grant_number σ s n); system = s }
  unfolding grant_over
  grant_refused s n =
      pick_cases
      (λ (a : Answer M). (a.answered.number ≡ 0 → ⊥) → a ≡ record { answered = refused (grant_number σ s n); system = s })
      _ _ _ (λ e n. absurd (n refl)) (λ e n. refl)

write_refused : (c : Core) (k : Clocks) (port byte : ℕ) → ((write_reply c k port byte).answered.number ≡ 0 → ⊥) → write_reply c k port byte ≡ record { answered = refused (access_refusal c (total k) port); core = c; clocks = k }
unfolding write_reply_over
write_refused c k port byte = unless_refused_lem _ _ _ _ c k

read_refused : (c : Core) (k : Clocks) (port : ℕ) → ((read_reply c k port).answered.number ≡ 0 → ⊥) → read_reply c k port ≡ record { answered = refused (access_refusal c (total k) port); core = c; clocks = k }
unfolding read_reply_over
read_refused c k port = unless_refused_lem _ _ _ _ c k

speed_refused_lem : (c : Core) (k : Clocks) (code : ℕ) → ((speed_reply c k code).answered.number ≡ 0 → ⊥) → speed_reply c k code ≡ record { answered = refused (speed_refusal c (total k) code); core = c; clocks = k }
unfolding speed_reply_over
speed_refused_lem c k code = unless_refused_lem _ _ _ _ c k

-- ---- a grant by its number

module _ {M : Type 0} (σ : Store M) where
  pub grant_accepts : (s t : System M) (n : ℕ) → grant_number σ s n ≡ 0 → t ≡ clocked σ n s → ◌≡◌ {A = Answer M} (record { answered = accepted 0; system = t }) (grant σ s n)
  unfolding grant_over
  grant_accepts s t n e h = sym (pick_true _ _ _ (eq-eqb _ _ e) ∙ (λ i. record { answered = accepted 0; system = sym h i }))

  pub grant_refuses : (s : System M) (n k : ℕ) → grant_number σ s n ≡ k → (k ≡ 0 → ⊥) → ◌≡◌ {A = Answer M} (record { answered = refused k; system = s }) (grant σ s n)
  unfolding grant_over
  grant_refuses s n k e h =
      sym
      (pick_false _ _ _ (ne_eqb _ _ (λ z. h (sym e ∙ z))) ∙ (λ i. record { answered = refused (e i); system = s }))

-- ---- a device that is not valid is refused with 1 by every call

pub invalid_access : (c : Core) (sum port : ℕ) → not (valid c sum) ≡ true → access_refusal c sum port ≡ 1
unfolding access_refusal_if first_hit
invalid_access c sum port e = pick_true _ _ _ e

pub invalid_speed : (c : Core) (sum code : ℕ) → not (valid c sum) ≡ true → speed_refusal c sum code ≡ 1
unfolding speed_refusal_if first_hit
invalid_speed c sum code e = pick_true _ _ _ e

pub invalid_lent : (c : Core) (sum memory latches n : ℕ) → not (valid c sum) ≡ true → lent_refusal c sum memory latches n ≡ 1
unfolding lent_refusal_if first_hit
invalid_lent c sum memory latches n e = pick_true _ _ _ e

-- unless the number is 1
unless_one : (number byte warning : ℕ) (next c : Core) (k : Clocks) → number ≡ 1 → unless_refused number byte warning next c k ≡ record { answered = refused 1; core = c; clocks = k }
unfolding unless_refused pick
unless_one number byte warning next c k e = rw e refl

pub invalid_write : (c : Core) (k : Clocks) (port byte : ℕ) → not (valid c (total k)) ≡ true → write_reply c k port byte ≡ record { answered = refused 1; core = c; clocks = k }
unfolding write_reply_over
invalid_write c k port byte e = unless_one _ _ _ _ c k (invalid_access c (total k) port e)

pub invalid_read : (c : Core) (k : Clocks) (port : ℕ) → not (valid c (total k)) ≡ true → read_reply c k port ≡ record { answered = refused 1; core = c; clocks = k }
unfolding read_reply_over
invalid_read c k port e = unless_one _ _ _ _ c k (invalid_access c (total k) port e)

pub invalid_set_speed : (c : Core) (k : Clocks) (code : ℕ) → not (valid c (total k)) ≡ true → speed_reply c k code ≡ record { answered = refused 1; core = c; clocks = k }
unfolding speed_reply_over
invalid_set_speed c k code e = unless_one _ _ _ _ c k (invalid_speed c (total k) code e)

pub invalid_grant : {M : Type 0} (σ : Store M) (s : System M) (n : ℕ) → not (valid s.world.core (total s.clocks)) ≡ true → grant σ s n ≡ record { answered = refused 1; system = s }
unfolding grant_refusal_if
invalid_grant σ s n e = sym (grant_refuses σ s n 1 (invalid_lent s.world.core (total s.clocks) _ _ n e) (λ z. omega (arith, z)))

-- a flat memory that is not refused has 65,536 bytes
pub flat_memory : (m : List ℕ) → flat.refusal m ≡ 0 → length m ≡ 65536
flat_memory m e = let h = missed _ _ (tells 3 _) e in eqb-true _ _ (not-false _ h.0)

-- a valid device has a valid core, and the sum of its clock counts fits
pub valid_core_lem : (c : Core) (sum : ℕ) → valid c sum ≡ true → valid_core c ≡ true
unfolding valid_if
valid_core_lem c sum e = (all_true _ e).0

pub valid_parts : (c : Core) (sum : ℕ) → valid c sum ≡ true → ValidParts c
valid_parts c sum e = core_parts c (valid_core_lem c sum e)

pub valid_fits : (c : Core) (sum : ℕ) → valid c sum ≡ true → sum ≤ most64
unfolding valid_if
valid_fits c sum e = leb-true _ _ (all_true _ e).1.0

-- ---- what every call keeps

module _ {M : Type 0} (σ : Store M) where
  pub stays_valid : StaysValid σ
  stays_valid =
      record {
        power_on_lem = power_on_valid;
        write = write_valid;
        read = read_valid;
        speed = speed_valid;
        clock = clock_kept;
        granted = grant_valid σ;
      }

  pub stays_valid_by_test : StaysValidByTest σ
  stays_valid_by_test =
      record {
        power_on_lem = device_valid _ _ power_on_valid;
        write = λ c k port byte b r v. device_valid _ _ (write_valid c k port byte b (valid_device c k r v));
        read = λ c k port r v. device_valid _ _ (read_valid c k port (valid_device c k r v));
        speed = λ c k code r v. device_valid _ _ (speed_valid c k code (valid_device c k r v));
        clock = λ c r v. parts_core _ (clock_kept c (record { valid = core_parts c v; range = r })).valid;
        granted = λ s n r v. device_valid _ _ (grant_valid σ s n (valid_device _ _ r v));
      }

  pub hands_back : HandsBack σ
  hands_back = record { write = write_refused; read = read_refused; speed = speed_refused_lem; granted = grant_refused σ }
