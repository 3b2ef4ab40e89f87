-- What every call keeps: a valid device stays valid, and a refused call hands everything back.
-- Assumes nothing.
use Rattle.std.specs.Prelude.{ℕ, ◌≤◌, ◌<◌, ◌≡◌, true}
use Rattle.rules.specs.PowerOn.{power_on, no_clocks}
use Rattle.rules.specs.Validity.{valid_core, valid, total, most64}
use Rattle.rules.specs.Facts.{InRange, Kept}
use Rattle.rules.specs.Clock.{clock_of}
use Rattle.rules.specs.Buffers.{Store}
use Rattle.rules.specs.World.{System}
use Rattle.rules.specs.Refusals.{access_refusal, speed_refusal}
use Rattle.rules.specs.Calls.{write_reply, read_reply, speed_reply, grant_number, grant}
use Rattle.rules.specs.declared.Clocks.{Clocks}
use Rattle.rules.specs.declared.Core.{Core}

-- a valid core within its types, and a sum of clock counts that fits
pub record ValidDevice (c : Core) (k : Clocks) : Type 0 where
  pub core : Kept c
  pub sum : total k ≤ most64

pub record StaysValid {M : Type 0} (σ : Store M) : Type 0 where
  pub power_on_lem : ValidDevice power_on no_clocks
  pub write : (c : Core) (k : Clocks) (port byte : ℕ) → byte < 256 → ValidDevice c k → ValidDevice (write_reply c k port byte).core (write_reply c k port byte).clocks
  pub read : (c : Core) (k : Clocks) (port : ℕ) → ValidDevice c k → ValidDevice (read_reply c k port).core (read_reply c k port).clocks
  pub speed : (c : Core) (k : Clocks) (code : ℕ) → ValidDevice c k → ValidDevice (speed_reply c k code).core (speed_reply c k code).clocks
  pub clock : (c : Core) → Kept c → Kept (clock_of c).next
  pub granted : (s : System M) (n : ℕ) → ValidDevice s.world.core s.clocks → ValidDevice (grant σ s n).system.world.core (grant σ s n).system.clocks

-- the same of the test that refusal 1 uses, for a device whose fields lie within their types
abbrev pub Passes : Core → Clocks → Type 0
Passes c k = valid c (total k) ≡ true

pub record StaysValidByTest {M : Type 0} (σ : Store M) : Type 0 where
  pub power_on_lem : Passes power_on no_clocks
  pub write : (c : Core) (k : Clocks) (port byte : ℕ) → byte < 256 → InRange c → Passes c k → Passes (write_reply c k port byte).core (write_reply c k port byte).clocks
  pub read : (c : Core) (k : Clocks) (port : ℕ) → InRange c → Passes c k → Passes (read_reply c k port).core (read_reply c k port).clocks
  pub speed : (c : Core) (k : Clocks) (code : ℕ) → InRange c → Passes c k → Passes (speed_reply c k code).core (speed_reply c k code).clocks
  pub clock : (c : Core) → InRange c → valid_core c ≡ true → valid_core (clock_of c).next ≡ true
  pub granted : (s : System M) (n : ℕ) → InRange s.world.core → Passes s.world.core s.clocks → Passes (grant σ s n).system.world.core (grant σ s n).system.clocks

-- a refused call answers its number, no byte, no warning, and all that it was handed
pub record HandsBack {M : Type 0} (σ : Store M) : Type 0 where
  pub write : (c : Core) (k : Clocks) (port byte : ℕ) → ((write_reply c k port byte).answered.number ≡ 0 → ⊥) → write_reply c k port byte ≡ record { answered = record { number = access_refusal c (total k) port; byte = 0; warning = 0 }; core = c; clocks = k }
  pub read : (c : Core) (k : Clocks) (port : ℕ) → ((read_reply c k port).answered.number ≡ 0 → ⊥) → read_reply c k port ≡ record { answered = record { number = access_refusal c (total k) port; byte = 0; warning = 0 }; core = c; clocks = k }
  pub speed : (c : Core) (k : Clocks) (code : ℕ) → ((speed_reply c k code).answered.number ≡ 0 → ⊥) → speed_reply c k code ≡ record { answered = record { number = speed_refusal c (total k) code; byte = 0; warning = 0 }; core = c; clocks = k }
  pub granted : (s : System M) (n : ℕ) → ((grant σ s n).answered.number ≡ 0 → ⊥) → grant σ s n ≡ record { answered = record { number = grant_number σ s n; byte = 0; warning = 0 }; system = s }
