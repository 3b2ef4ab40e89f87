-- The device and the answers of its calls, as the rules name them.
-- Assumes nothing.
use Rattle.std.specs.Prelude.{ℕ, List}
use Rattle.rules.specs.PowerOn.{power_on, no_clocks}
use Rattle.rules.specs.World.{System, system}
use Rattle.rules.specs.Calls.{Reply, Answer}
use Rattle.rules.specs.declared.Clocks.{Clocks}
use Rattle.rules.specs.declared.Core.{Core}
use Rattle.clocking.specs.declared.transfer.Lent.{Lent}
use Rattle.zxndma.specs.declared.Device.{Device}
use Rattle.zxndma.specs.declared.WriteAnswer.{WriteAnswer}
use Rattle.zxndma.specs.declared.ReadAnswer.{ReadAnswer}
use Rattle.zxndma.specs.declared.SpeedAnswer.{SpeedAnswer}
use Rattle.zxndma.specs.declared.GrantAnswer.{GrantAnswer}

abbrev pub device : Core → Clocks → Device
device c k = record { core = c; clocks = k }

abbrev pub device_at_power_on : Device
device_at_power_on = device power_on no_clocks

-- the answer to a write: the reply's number, warning, core and clock counts
abbrev pub write_answer : Reply → WriteAnswer
write_answer r =
    record { number = r.answered.number; warning = r.answered.warning; device = device r.core r.clocks }

-- the answer to a read: the byte too
abbrev pub read_answer : Reply → ReadAnswer
read_answer r = record { number = r.answered.number; byte = r.answered.byte; device = device r.core r.clocks }

-- the answer to a speed call
abbrev pub speed_answer : Reply → SpeedAnswer
speed_answer r = record { number = r.answered.number; device = device r.core r.clocks }

-- a device beside the two buffers that a caller lends
abbrev pub system_of : Device → List ℕ → List ℕ → System (List ℕ)
system_of d m l = system d.core (record { memory = m; latches = l }) d.clocks

-- a device beside the buffers that are lent
abbrev pub lent_system : Device → Lent → System (List ℕ)
lent_system d x = system_of d x.memory.now x.latches.now

-- the answer to a grant, without a byte and without a warning, with both buffers as the call leaves them
abbrev pub grant_answer : GrantAnswer → List ℕ → List ℕ → Answer (List ℕ)
grant_answer r m l = record { answered = record { number = r.number; byte = 0; warning = 0 }; system = system_of r.device m l }
