-- The speed: every call but an accepted speed call leaves it, and a slot that runs does not see it.
-- Assumes nothing.
use Prim.Native.Nat.{ℕ, ◌+◌, ◌*◌, ◌≤◌, ◌<◌}
use native.Mathlib.Omega.{arith}
use mathlib.Core.Path.{◌≡◌, refl, sym, ◌∙◌, ap}
use mathlib.Core.Bool.{Bool, true, not}
use mathlib.Core.List.{[], ◌∷◌}
use lib.Dec.{eqb}
use borrow.Author.Tests.{eq-eqb, ne_eqb, le-leb, lt-leb}
use Rattle.rules.specs.Choice.{pick, first_hit, any}
use Rattle.rules.specs.Parts.{with_speed, with_control, with_slot}
use Rattle.rules.specs.Speed.{factor, at_speed}
use Rattle.rules.specs.Slots.{bus_time_of, larger, slot_length, new_slot}
use Rattle.rules.specs.Validity.{valid_core, valid, total}
use Rattle.rules.specs.Clock.{Clock, clock_of, slot_clock}
use Rattle.rules.specs.Buffers.{Store}
use Rattle.rules.specs.World.{System}
use Rattle.rules.specs.Refusals.{speed_refusal, speed_refusal_if}
use Rattle.rules.specs.Calls.{Answer, accepted, refused, unless_refused, write_reply, read_reply, speed_reply, grant, write_reply_over, read_reply_over, speed_reply_over, grant_over}
use Rattle.rules.specs.Entries.{Outside, speed_call}
use Rattle.rules.specs.History.{Past, with_core, noted_unless, note_entry}
use Rattle.rules.specs.Slowing.{clock_at_speed, LargerOf, SpeedExact}
use Rattle.rules.specs.declared.Slot.{Slot}
use Rattle.rules.specs.declared.Clocks.{Clocks}
use Rattle.rules.specs.declared.Core.{Core}
use Rattle.rules.proofs.Choice.{pick_true, pick_false, pick_both, both_picked, any_first, any_more, either, not_of_false}
use Rattle.rules.proofs.Validity.{valid_bus}
use Rattle.rules.proofs.Slots.{slot_runs, larger_left, larger_right, larger_cases}
use Rattle.rules.proofs.Clock.{new_length}
use Rattle.rules.proofs.World.{clocked_keeps}
use Rattle.rules.proofs.Calls.{unless_core, invalid_set_speed}
use Rattle.rules.proofs.Aside.{slot_speed}
use Rattle.rules.proofs.Framing.{written_framed, read_framed, clock_timed}

-- ---- what leaves the speed

-- of any slot
abbrev Any : Slot → Type 0
Any s = Unit {0}

-- this core has the speed of that one
abbrev SpeedOf : Core → Core → Type 0
SpeedOf c d = d.control.speed ≡ c.control.speed

write_speed : (c : Core) (k : Clocks) (port byte : ℕ) → (write_reply c k port byte).core.control.speed ≡ c.control.speed
unfolding write_reply_over
write_speed c k port byte = unless_core (SpeedOf c) _ _ _ _ c k (λ e. (written_framed _ Any tt port byte c (refl, tt)).0) refl

read_speed : (c : Core) (k : Clocks) (port : ℕ) → (read_reply c k port).core.control.speed ≡ c.control.speed
unfolding read_reply_over
read_speed c k port = unless_core (SpeedOf c) _ _ _ _ c k (λ e. (read_framed _ Any tt c (refl, tt)).0) refl

clock_speed : (c : Core) → (clock_of c).next.control.speed ≡ c.control.speed
clock_speed c = (clock_timed (λ a b control pending. control.speed ≡ c.control.speed) Any tt c (refl, tt) tt).0

grant_speed : {M : Type 0} (σ : Store M) (s : System M) (n : ℕ) → (grant σ s n).system.world.core.control.speed ≡ s.world.core.control.speed
unfolding grant_over
grant_speed σ s n =
    pick_both (λ (a : Answer _). a.system.world.core.control.speed ≡ s.world.core.control.speed) _ _ _
    (clocked_keeps σ (λ (t : System _). t.world.core.control.speed ≡ s.world.core.control.speed)
    (λ t e. clock_speed t.world.core ∙ e) n s refl)
    refl

-- ---- a speed call

accepts : (c : Core) (k : Clocks) (code : ℕ) → valid c (total k) ≡ true → code ≤ 3 → speed_reply c k code ≡ record { answered = accepted 0; core = with_control (with_speed code c.control) c; clocks = k }
unfolding speed_reply_over unless_refused speed_refusal_if first_hit
accepts c k code v h =
    pick_true _ _ _
    (eq-eqb _ _ (pick_false _ _ _ (ap not v) ∙ pick_false _ _ _ (ap not (le-leb code 3 h))))

refuses : (c : Core) (k : Clocks) (code : ℕ) → valid c (total k) ≡ true → 3 < code → speed_reply c k code ≡ record { answered = refused 7; core = c; clocks = k }
unfolding speed_reply_over unless_refused speed_refusal_if first_hit
refuses c k code v h =
    let e : speed_refusal c (total k) code ≡ 7 = pick_false _ _ _ (ap not v) ∙ pick_true _ _ _ (ap not (lt-leb code 3 h)) in
    pick_false _ _ _ (ne_eqb (speed_refusal c (total k) code) 0 (λ z. omega (arith, e, z))) ∙ (λ i. record { answered = refused (e i); core = c; clocks = k })

-- ---- its note

module _ {M C : Type 0} (σ : Store M) (ω : Outside M C) (p : Past M) (code : ℕ) where
  notes : valid p.world.core p.sum ≡ true → code ≤ 3 → note_entry σ ω (speed_call code) p ≡ record { number = 0; past = with_core (at_speed code p.world.core) p }
  unfolding noted_unless speed_refusal_if first_hit
  notes v h =
      let e : speed_refusal p.world.core p.sum code ≡ 0 = pick_false _ _ _ (ap not v) ∙ pick_false _ _ _ (ap not (le-leb code 3 h)) in
      (λ i. record { number = e i; past = pick_true _ (with_core (at_speed code p.world.core) p) p (eq-eqb _ 0 e) i })

  leaves : ((note_entry σ ω (speed_call code) p).number ≡ 0 → ⊥) → (note_entry σ ω (speed_call code) p).past ≡ p
  unfolding noted_unless
  leaves n = pick_false _ _ _ (ne_eqb _ _ n)

-- ---- a slot that runs

-- each clock of it is the same but for the speed after it
running : (c : Core) (code : ℕ) → (c.slot.elapsed ≡ 0 → ⊥) → clock_of (at_speed code c) ≡ clock_at_speed code (clock_of c)
unfolding clock_of
running c code h =
    both_picked (λ (x y : Clock). y ≡ clock_at_speed code x) c.enabled _ _ _ _
    (λ on.
    ap (λ (s : Slot). slot_clock (c.slot.elapsed + 1) (with_slot s (at_speed code c))) (slot_runs (at_speed code c) h)
    ∙ slot_speed code (c.slot.elapsed + 1) c
    ∙ ap (λ (s : Slot). clock_at_speed code (slot_clock (c.slot.elapsed + 1) (with_slot s c))) (sym (slot_runs c h)))
    (λ off. refl)

-- ---- the slot that begins

plain_length : (c : Core) → c.control.prescaler ≡ 0 → (new_slot c).length ≡ (new_slot c).bus
unfolding slot_length
plain_length c e = pick_true _ _ _ (eq-eqb _ _ e)

larger_of : (prescaler bus elapsed : ℕ) (burst : Bool) → LargerOf prescaler (record { elapsed = elapsed; bus = bus; length = larger bus (32 * prescaler); burst = burst })
larger_of prescaler bus elapsed burst =
    record {
      bus = larger_left _ _;
      units = larger_right bus (32 * prescaler);
      one =
          larger_cases (λ n. any (eqb n bus ∷ eqb n (32 * prescaler) ∷ []) ≡ true) bus (32 * prescaler)
          (any_first _ _ (eq-eqb bus bus refl)) (any_more _ _ (any_first _ _ (eq-eqb (32 * prescaler) (32 * prescaler) refl)));
    }

prescaled_length_lem : (c : Core) → (c.control.prescaler ≡ 0 → ⊥) → LargerOf c.control.prescaler (new_slot c)
unfolding slot_length
prescaled_length_lem c h =
    rw (pick_false _ (new_slot c).bus (larger (new_slot c).bus (32 * c.control.prescaler)) (ne_eqb c.control.prescaler 0 h))
    (larger_of c.control.prescaler (new_slot c).bus 0 c.control.burst)

-- ---- its bus time

range : (c : Core) → valid_core c ≡ true → (4 ≤ (new_slot c).bus) × ((new_slot c).bus ≤ 64)
range c v = let r = valid_bus c v in (r.least, r.most)

-- ---- the claim

four_factors : (factor 0 ≡ 8) × (factor 1 ≡ 4) × (factor 2 ≡ 2) × (factor 3 ≡ 1)
unfolding factor pick
four_factors = (refl, refl, refl, refl)

factor_above : (code : ℕ) → 3 < code → factor code ≡ 1
unfolding factor
factor_above code h = pick_false _ _ _ (lt-leb code 3 h)

new_bus_time : (c : Core) → (new_slot c).bus ≡ factor c.control.speed * (c.a.cycle + c.b.cycle)
unfolding bus_time_of
new_bus_time c = refl

pub speed_exact : SpeedExact
speed_exact =
    record {
      power_on = refl;
      write = write_speed;
      read = read_speed;
      clock = clock_speed;
      granted = grant_speed;
      accepted = accepts;
      sets = λ c code. refl;
      back = λ c code. refl;
      seven = refuses;
      one = λ c k code h. invalid_set_speed c k code (either (valid c (total k)) (λ v. absurd (h v)) (not_of_false _));
      noted = notes;
      unnoted = leaves;
      running = running;
      factors = four_factors;
      above = factor_above;
      bus = new_bus_time;
      range = range;
      plain = plain_length;
      prescaled = prescaled_length_lem;
      length = λ c k. new_length c k.range.prescaler;
    }
