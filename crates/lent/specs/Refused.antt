-- What the promises of the calls in place say of a refused call: the device, and the buffers that were lent, are as they were.
-- Assumes nothing.
use Rattle.std.specs.Prelude.{ℕ, ◌≡◌, List}
use Rattle.rules.specs.Buffers.{flat}
use Rattle.rules.specs.Calls.{write_reply, read_reply, speed_reply, grant}
use Rattle.zxndma.specs.Answers.{write_answer, read_answer, speed_answer, system_of, grant_answer}
use Rattle.zxndma.specs.declared.Device.{Device}
use Rattle.lent.specs.Answers.{as_write_answer, as_read_answer, as_speed_answer, as_grant_answer}
use Rattle.lent.specs.declared.Written.{Written}
use Rattle.lent.specs.declared.Given.{Given}

-- whatever is answered, and left in place of d, by a call that keeps its promise
pub record RefusedLeavesAll : Type 0 where
  pub write :
      (r : Written) (d d' : Device) (port byte : ℕ) → as_write_answer r d' ≡ write_answer (write_reply d.core d.clocks port byte)
      → (r.number ≡ 0 → ⊥) → (d' ≡ d) × (r.warning ≡ 0)
  pub read :
      (r : Given) (d d' : Device) (port : ℕ) → as_read_answer r d' ≡ read_answer (read_reply d.core d.clocks port)
      → (r.number ≡ 0 → ⊥) → (d' ≡ d) × (r.byte ≡ 0)
  pub speed :
      (r : ℕ) (d d' : Device) (code : ℕ) → as_speed_answer r d' ≡ speed_answer (speed_reply d.core d.clocks code)
      → (r ≡ 0 → ⊥) → d' ≡ d
  pub granted :
      (r : ℕ) (d d' : Device) (m m' l l' : List ℕ) (clocks : ℕ)
      → grant_answer (as_grant_answer r d') m' l' ≡ grant flat (system_of d m l) clocks
      → (r ≡ 0 → ⊥) → (d' ≡ d) × (m' ≡ m) × (l' ≡ l)
