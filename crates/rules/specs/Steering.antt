-- What the calls go by, over a way D to keep a device: its core, which parameter is next, what is pending after a byte, and
-- whether the device is valid. The rules have a number in the core; Sequences has another way to keep what is pending, and
-- At28 another validity.
-- Assumes nothing.
use Rattle.std.specs.Prelude.{ℕ, Bool}
use Rattle.rules.specs.Parts.{with_pending}
use Rattle.rules.specs.Pending.{next, pending_after}
use Rattle.rules.specs.Validity.{valid_if, valid_core}
use Rattle.rules.specs.declared.Core.{Core}

pub record Steering (D : Type 0) : Type 0 where
  -- the device's core, and the device after what leaves the pending parameters alone: this core in place of its own
  pub core : D → Core
  pub with : Core → D → D
  -- the next parameter, 0 for none
  pub next : D → ℕ
  -- the device after a byte: this core in place of its own, and what is pending then
  pub after : ℕ → Core → D → D
  -- the core is valid, and so is what is pending
  pub valid : D → Bool

-- the number in the core, by which cores are valid
abbrev pub bits_by : (Core → Bool) → Steering Core
bits_by ν =
    record {
      core = λ c. c;
      with = λ c d. c;
      next = λ d. next d.pending;
      after = λ byte c d. with_pending (pending_after byte d.pending) c;
      valid = ν;
    }

-- the rules' own
abbrev pub bits : Steering Core
bits = bits_by valid_core

-- with a sum of clock counts
abbrev pub valid_over : {D : Type 0} → Steering D → D → ℕ → Bool
valid_over δ d sum = valid_if (δ.valid d) sum
