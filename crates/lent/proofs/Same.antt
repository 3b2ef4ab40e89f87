-- Two answers that meet one equation are the same, part by part.
-- Assumes nothing.
use mathlib.Core.Path.{◌∙◌, ap, sym}
use Rattle.zxndma.specs.Answers.{device}
use Rattle.lent.specs.Same.{SameAsByValue}

pub same_as_by_value : SameAsByValue
same_as_by_value = record {
  write = λ r v d d' port byte e f.
      let s = e ∙ sym f in (ap (λ a. a.number) s, ap (λ a. a.warning) s, ap (λ a. a.device) s);
  read = λ r v d d' port e f.
      let s = e ∙ sym f in (ap (λ a. a.number) s, ap (λ a. a.byte) s, ap (λ a. a.device) s);
  speed = λ r v d d' code e f.
      let s = e ∙ sym f in (ap (λ a. a.number) s, ap (λ a. a.device) s);
  granted = λ r v d d' m m' m'' l l' l'' clocks e f.
      let s = e ∙ sym f in (
        ap (λ a. a.answered.number) s,
        ap (λ a. device a.system.world.core a.system.clocks) s,
        ap (λ a. a.system.world.buffers.memory) s,
        ap (λ a. a.system.world.buffers.latches) s,
      );
}
