-- What fits no pattern is of no kind, or not as long as its kind is.
-- Assumes nothing.
use Rattle.std.proofs.Common.{arith}
use Rattle.records.proofs.Reading.{reads_wrong}
use Rattle.records.proofs.record_of.Goals as goal

pub returns-in_default-clause-reads : goal.returns-in_default-clause-reads
returns-in_default-clause-reads c =
    reads_wrong _ (record { write = λ n k. grind arith; read = λ n k. grind arith; grant = λ n k. grind arith; memory = λ l m k. grind arith })
