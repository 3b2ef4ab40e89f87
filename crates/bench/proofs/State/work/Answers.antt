-- A step goes behind the lines that have gathered, and where it goes on it takes bytes.
-- Assumes nothing.
use Rattle.std.proofs.Common.{◌≡◌, refl, ap, ◌∙◌, rules}
use lib.ListN.{take}
use Rattle.clocking.specs.Answers.{borrowed}
use Rattle.session.specs.Numbers.{in_numbers, progress_number}
use Rattle.session.specs.declared.step.Progress.TheVariants.{GoesOn}
use Rattle.bench.specs.Working.{gathered, left_by}
use Rattle.bench.proofs.Turning.{not_going}
use Rattle.bench.proofs.Working.{going_start, going_on, going_more, going_less, going_end}
use Rattle.bench.proofs.State.work.Goals as goal

pub loop-state-init : goal.loop-state-init
loop-state-init c =
    record { fits = c.requires; have = refl; ended = refl; going = going_start _ _ _ _ _ _ _ }

pub returns-then-ne : goal.returns-then-ne
returns-then-ne c =
    let a = c.args in
    let s = a.self in
    let inv = c.loop-state.invariant in
    let kept = c.step-done.auto in
    going_end _ _ _ _ _ _ _ (going_on _ _ _ _ _ _ _ inv.going c.step-done.ensures kept.output kept.memory kept.latches) (let h : c.step-done.result.progress ≡ GoesOn → ⊥ = search rules in not_going _ h)
    ∙ (λ i. left_by (gathered (in_numbers s.session) (take (inv.have i) a.input.now) s.at (inv.ended i) a.output.now (borrowed a.memory.now a.latches.now)))

pub loop-state-smaller : goal.loop-state-smaller
loop-state-smaller c =
    going_less _ _ _ _ _ _ _ c.loop-state.invariant.going c.step-done.ensures (let h : c.step-done.result.progress ≡ GoesOn = search rules in ap progress_number h)

pub loop-state-preserved : goal.loop-state-preserved
loop-state-preserved c =
    let inv = c.loop-state.invariant in
    let kept = c.step-done.auto in
    let next = going_on _ _ _ _ _ _ _ inv.going c.step-done.ensures kept.output kept.memory kept.latches in
    record { fits = inv.fits; have = inv.have; ended = inv.ended; going = going_more _ _ _ _ _ _ _ next (let h : c.step-done.result.progress ≡ GoesOn = search rules in ap progress_number h) }
