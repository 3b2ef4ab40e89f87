-- A refused call in place leaves everything: its promise has the answer of the call by value, and a refused one hands back what
-- it was handed (`hands-back`, of the rules).
-- Assumes nothing.
use Prim.Native.Nat.{ℕ}
use mathlib.Core.Path.{◌≡◌, ◌∙◌, ap}
use Rattle.rules.specs.Buffers.{flat}
use Rattle.rules.specs.Calls.{Reply}
use Rattle.rules.proofs.Calls.{hands_back}
use Rattle.zxndma.specs.Answers.{device, system_of}
use Rattle.zxndma.specs.declared.Device.{Device}
use Rattle.lent.specs.Refused.{RefusedLeavesAll}

-- a number that is not 0, answered by another name
not_zero : {m n : ℕ} → m ≡ n → (m ≡ 0 → ⊥) → n ≡ 0 → ⊥
not_zero e nonzero zero = nonzero (e ∙ zero)

-- core and clock counts of a reply, as a device
abbrev of : Reply → Device
of r = device r.core r.clocks

pub refused_leaves_all : RefusedLeavesAll
refused_leaves_all = record {
  write = λ r d d' port byte e refused.
      let back = (hands_back flat).write d.core d.clocks port byte (not_zero (ap (λ a. a.number) e) refused) in
      (ap (λ a. a.device) e ∙ ap of back, ap (λ a. a.warning) e ∙ ap (λ a. a.answered.warning) back);
  read = λ r d d' port e refused.
      let back = (hands_back flat).read d.core d.clocks port (not_zero (ap (λ a. a.number) e) refused) in
      (ap (λ a. a.device) e ∙ ap of back, ap (λ a. a.byte) e ∙ ap (λ a. a.answered.byte) back);
  speed = λ r d d' code e refused.
      let back = (hands_back flat).speed d.core d.clocks code (not_zero (ap (λ a. a.number) e) refused) in
      ap (λ a. a.device) e ∙ ap of back;
  granted = λ r d d' m m' l l' clocks e refused.
      let back = e ∙ (hands_back flat).granted (system_of d m l) clocks (not_zero (ap (λ a. a.answered.number) e) refused) in (
        ap (λ a. device a.system.world.core a.system.clocks) back,
        ap (λ a. a.system.world.buffers.memory) back,
        ap (λ a. a.system.world.buffers.latches) back,
      );
}
