-- The answer to a write as it was before it had a warning.
-- Assumes nothing.
use Rattle.std.specs.Prelude.{ℕ, ◌≡◌}
use Rattle.rules.specs.Calls.{write_reply}
use Rattle.rules.specs.Steering.{bits}
use Rattle.rules.specs.Unwarned.{BareReplyOf, bare_write_reply_over}
use Rattle.rules.specs.declared.Core.{Core}
use Rattle.zxndma.specs.Answers.{device, write_answer}
use Rattle.zxndma.specs.declared.Device.{Device}
use Rattle.zxndma.specs.declared.WriteAnswer.{WriteAnswer}

pub record BareWriteAnswer : Type 0 where
  pub number : ℕ
  pub device : Device

abbrev pub bare_write_answer : BareReplyOf Core → BareWriteAnswer
bare_write_answer r = record { number = r.answered.number; device = device r.core r.clocks }

abbrev pub without_warning : WriteAnswer → BareWriteAnswer
without_warning a = record { number = a.number; device = a.device }

-- number and device of the answer that a write promises are those that it promised before
abbrev pub WriteAsBefore : Type 0
WriteAsBefore =
    (d : Device) (port byte : ℕ)
    → without_warning (write_answer (write_reply d.core d.clocks port byte))
    ≡ bare_write_answer (bare_write_reply_over bits d.core d.clocks port byte)
