-- The speed: what sets it, what leaves it, and what it makes of the slots that begin.
-- Assumes nothing.
use Rattle.std.specs.Prelude.{ℕ, ◌+◌, ◌*◌, ◌≤◌, ◌<◌, ◌≡◌, true, [], ◌∷◌, eqb}
use Rattle.rules.specs.Choice.{any}
use Rattle.rules.specs.Parts.{with_speed, with_control}
use Rattle.rules.specs.Speed.{factor, at_speed}
use Rattle.rules.specs.Slots.{new_slot}
use Rattle.rules.specs.PowerOn.{power_on}
use Rattle.rules.specs.Validity.{valid_core, valid, total}
use Rattle.rules.specs.Facts.{SlotLength, Kept}
use Rattle.rules.specs.Clock.{Clock, clock, clock_of}
use Rattle.rules.specs.Buffers.{Store}
use Rattle.rules.specs.World.{System}
use Rattle.rules.specs.Calls.{accepted, refused, write_reply, read_reply, speed_reply, grant}
use Rattle.rules.specs.Entries.{Outside, speed_call}
use Rattle.rules.specs.History.{Past, note_entry}
use Rattle.rules.specs.declared.Slot.{Slot}
use Rattle.rules.specs.declared.Clocks.{Clocks}
use Rattle.rules.specs.declared.Core.{Core}

-- the same clock, and the core after it at another speed
abbrev pub clock_at_speed : ℕ → Clock → Clock
clock_at_speed code x = clock x.kind x.moves x.zeroed (at_speed code x.next)

-- with a prescaler, a slot has 32 clocks for each unit, or its bus time if that is longer
pub record LargerOf (prescaler : ℕ) (s : Slot) : Type 0 where
  pub bus : s.bus ≤ s.length
  pub units : 32 * prescaler ≤ s.length
  pub one : any (eqb s.length s.bus ∷ eqb s.length (32 * prescaler) ∷ []) ≡ true

pub record SpeedExact : Type 1 where
  -- power-on is code 3
  pub power_on : power_on.control.speed ≡ 3
  -- every write leaves the speed, Reset too, and so do every read, every clock and every grant, refused ones as well
  pub write : (c : Core) (k : Clocks) (port byte : ℕ) → (write_reply c k port byte).core.control.speed ≡ c.control.speed
  pub read : (c : Core) (k : Clocks) (port : ℕ) → (read_reply c k port).core.control.speed ≡ c.control.speed
  pub clock : (c : Core) → (clock_of c).next.control.speed ≡ c.control.speed
  pub granted : {M : Type 0} (σ : Store M) (s : System M) (n : ℕ) → (grant σ s n).system.world.core.control.speed ≡ s.world.core.control.speed
  -- a speed call of a valid device is accepted for codes 0 to 3, whoever has the bus, and sets the speed and nothing else
  pub accepted :
      (c : Core) (k : Clocks) (code : ℕ) → valid c (total k) ≡ true → code ≤ 3
      → speed_reply c k code ≡ record { answered = accepted 0; core = with_control (with_speed code c.control) c; clocks = k }
  -- so that its code is this one, and with the former code set again all is as it was
  pub sets : (c : Core) (code : ℕ) → (at_speed code c).control.speed ≡ code
  pub back : (c : Core) (code : ℕ) → at_speed c.control.speed (at_speed code c) ≡ c
  -- any other code is refused with 7, of a device that is not valid every code with 1, and nothing changes
  pub seven :
      (c : Core) (k : Clocks) (code : ℕ) → valid c (total k) ≡ true → 3 < code
      → speed_reply c k code ≡ record { answered = refused 7; core = c; clocks = k }
  pub one :
      (c : Core) (k : Clocks) (code : ℕ) → (valid c (total k) ≡ true → ⊥)
      → speed_reply c k code ≡ record { answered = refused 1; core = c; clocks = k }
  -- an accepted one sets the history's speed and adds no note; a refused one leaves the history as it was
  pub noted :
      {M C : Type 0} (σ : Store M) (ω : Outside M C) (p : Past M) (code : ℕ) → valid p.world.core p.sum ≡ true → code ≤ 3
      → note_entry σ ω (speed_call code) p
      ≡ record {
        number = 0;
        past =
            record {
              world = record { core = at_speed code p.world.core; buffers = p.world.buffers };
              sum = p.sum;
              events = p.events;
            };
      }
  pub unnoted :
      {M C : Type 0} (σ : Store M) (ω : Outside M C) (p : Past M) (code : ℕ) → ((note_entry σ ω (speed_call code) p).number ≡ 0 → ⊥)
      → (note_entry σ ω (speed_call code) p).past ≡ p
  -- each clock of a slot that runs is what it was at the speed before, but for the speed itself
  pub running : (c : Core) (code : ℕ) → (c.slot.elapsed ≡ 0 → ⊥) → clock_of (at_speed code c) ≡ clock_at_speed code (clock_of c)
  -- the factors; what is no code, as no valid core has, counts as 28 MHz
  pub factors : (factor 0 ≡ 8) × (factor 1 ≡ 4) × (factor 2 ≡ 2) × (factor 3 ≡ 1)
  pub above : (code : ℕ) → 3 < code → factor code ≡ 1
  -- the bus time of a slot that begins, and that of a valid core is 4 to 64
  pub bus : (c : Core) → (new_slot c).bus ≡ factor c.control.speed * (c.a.cycle + c.b.cycle)
  pub range : (c : Core) → valid_core c ≡ true → (4 ≤ (new_slot c).bus) × ((new_slot c).bus ≤ 64)
  -- its length, without a prescaler and with one; that of a valid core within its types is one that validity allows
  pub plain : (c : Core) → c.control.prescaler ≡ 0 → (new_slot c).length ≡ (new_slot c).bus
  pub prescaled : (c : Core) → (c.control.prescaler ≡ 0 → ⊥) → LargerOf c.control.prescaler (new_slot c)
  pub length : (c : Core) → Kept c → SlotLength (new_slot c)
