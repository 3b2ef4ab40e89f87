-- The calls in place and those by value, side by side: whatever each answers and leaves, if both keep their promises for the same
-- device and arguments, the answers, the devices and the buffers are the same, refused calls included.
-- Assumes nothing.
use Rattle.std.specs.Prelude.{ℕ, ◌≡◌, List}
use Rattle.rules.specs.Buffers.{flat}
use Rattle.rules.specs.Calls.{write_reply, read_reply, speed_reply, grant}
use Rattle.zxndma.specs.Answers.{write_answer, read_answer, speed_answer, system_of, grant_answer}
use Rattle.zxndma.specs.declared.Device.{Device}
use Rattle.zxndma.specs.declared.WriteAnswer.{WriteAnswer}
use Rattle.zxndma.specs.declared.ReadAnswer.{ReadAnswer}
use Rattle.zxndma.specs.declared.SpeedAnswer.{SpeedAnswer}
use Rattle.zxndma.specs.declared.GrantAnswer.{GrantAnswer}
use Rattle.lent.specs.Answers.{as_write_answer, as_read_answer, as_speed_answer, as_grant_answer}
use Rattle.lent.specs.declared.Written.{Written}
use Rattle.lent.specs.declared.Given.{Given}

-- r and d' are answered and left in place, v is answered by value; m' and l' are left in the buffers in place, m'' and l'' by value
pub record SameAsByValue : Type 0 where
  pub write :
      (r : Written) (v : WriteAnswer) (d d' : Device) (port byte : ℕ)
      → as_write_answer r d' ≡ write_answer (write_reply d.core d.clocks port byte)
      → v ≡ write_answer (write_reply d.core d.clocks port byte)
      → (r.number ≡ v.number) × (r.warning ≡ v.warning) × (d' ≡ v.device)
  pub read :
      (r : Given) (v : ReadAnswer) (d d' : Device) (port : ℕ)
      → as_read_answer r d' ≡ read_answer (read_reply d.core d.clocks port)
      → v ≡ read_answer (read_reply d.core d.clocks port)
      → (r.number ≡ v.number) × (r.byte ≡ v.byte) × (d' ≡ v.device)
  pub speed :
      (r : ℕ) (v : SpeedAnswer) (d d' : Device) (code : ℕ)
      → as_speed_answer r d' ≡ speed_answer (speed_reply d.core d.clocks code)
      → v ≡ speed_answer (speed_reply d.core d.clocks code)
      → (r ≡ v.number) × (d' ≡ v.device)
  pub granted :
      (r : ℕ) (v : GrantAnswer) (d d' : Device) (m m' m'' l l' l'' : List ℕ) (clocks : ℕ)
      → grant_answer (as_grant_answer r d') m' l' ≡ grant flat (system_of d m l) clocks
      → grant_answer v m'' l'' ≡ grant flat (system_of d m l) clocks
      → (r ≡ v.number) × (d' ≡ v.device) × (m' ≡ m'') × (l' ≡ l'')
