-- What is all there is as its bytes are read.
-- Assumes nothing.
use Rattle.std.proofs.lemmas.Result.{err_from_is_err_and}
use Rattle.records.proofs.Reading.{record_there}
use Rattle.records.proofs.record_at.Goals as goal

pub returns-in_err-found-in-Some-clause-stands : goal.returns-in_err-found-in-Some-clause-stands
returns-in_err-found-in-Some-clause-stands c =
    let p = err_from_is_err_and c.from_residual.result c.from_residual.ensures.1 in
    rw (p.1, p.2) (record_there _ _ _ c.in-Some.ensures c.in_err-found-in-Some.ensures.reads _)

pub returns-in_ok-found-in-Some-clause-stands : goal.returns-in_ok-found-in-Some-clause-stands
returns-in_ok-found-in-Some-clause-stands c =
    record_there _ _ _ c.in-Some.ensures c.in_ok-found-in-Some.ensures.reads _
