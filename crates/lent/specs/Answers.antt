-- What a call in place answers and the device that it leaves, put together as the answer of the call by value.
-- Assumes nothing.
use Rattle.std.specs.Prelude.{ℕ}
use Rattle.zxndma.specs.declared.Device.{Device}
use Rattle.zxndma.specs.declared.WriteAnswer.{WriteAnswer}
use Rattle.zxndma.specs.declared.ReadAnswer.{ReadAnswer}
use Rattle.zxndma.specs.declared.SpeedAnswer.{SpeedAnswer}
use Rattle.zxndma.specs.declared.GrantAnswer.{GrantAnswer}
use Rattle.lent.specs.declared.Written.{Written}
use Rattle.lent.specs.declared.Given.{Given}

abbrev pub as_write_answer : Written → Device → WriteAnswer
as_write_answer r d = record { number = r.number; warning = r.warning; device = d }

abbrev pub as_read_answer : Given → Device → ReadAnswer
as_read_answer r d = record { number = r.number; byte = r.byte; device = d }

abbrev pub as_speed_answer : ℕ → Device → SpeedAnswer
as_speed_answer n d = record { number = n; device = d }

abbrev pub as_grant_answer : ℕ → Device → GrantAnswer
as_grant_answer n d = record { number = n; device = d }
