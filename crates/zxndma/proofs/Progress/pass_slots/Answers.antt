-- The run is as many slots as the definition says, and its parts are put together as the definition puts them.
-- Assumes nothing.
use native.Mathlib.Omega.{arith}
use Rattle.rules.proofs.Turns.{ready_counter}
use Rattle.zxndma.proofs.Turns.{slots_ready, passed_on, slots_fit, slots_put, slots_left, slots_passed_lem}
use Rattle.zxndma.proofs.Progress.pass_slots.Goals as goal

pub overflow_cast-result : goal.overflow_cast-result
overflow_cast-result c =
    let r = slots_ready c.args.self.kept c.args.self.room c.requires.0 c.requires.1 in omega (arith, slots_fit r c.requires.0 c.requires.1 c.new_slot-slot.ensures c.clocks_of-spent.ensures)

pub overflow_sub-result : goal.overflow_sub-result
overflow_sub-result c =
    let r = slots_ready c.args.self.kept c.args.self.room c.requires.0 c.requires.1 in slots_fit r c.requires.0 c.requires.1 c.new_slot-slot.ensures c.clocks_of-spent.ensures

pub overflow_add-core : goal.overflow_add-core
overflow_add-core c =
    let r = slots_ready c.args.self.kept c.args.self.room c.requires.0 c.requires.1 in omega (arith, ready_counter r c.requires.0 c.requires.1)

pub returns-clause-passed : goal.returns-clause-passed
returns-clause-passed c =
    let r = slots_ready c.args.self.kept c.args.self.room c.requires.0 c.requires.1 in slots_put
    r
    c.requires.0
    c.requires.1
    c.new_slot-slot.ensures
    c.move_bytes-ports.ensures.moved
    c.end_slot-next.ensures
    c.count_slots-counted.ensures

pub returns-clause-left : goal.returns-clause-left
returns-clause-left c =
    slots_left c.args.self.device.core _ _ c.new_slot-slot.ensures c.clocks_of-spent.ensures

pub invariant_of-result : goal.invariant_of-result
invariant_of-result c =
    let r = slots_ready c.args.self.kept c.args.self.room c.requires.0 c.requires.1 in
    let on =
    passed_on c.args.self.kept c.args.self.room (
    slots_passed_lem
    r
    c.requires.0
    c.requires.1
    (slots_put r c.requires.0 c.requires.1 c.new_slot-slot.ensures c.move_bytes-ports.ensures.moved c.end_slot-next.ensures c.count_slots-counted.ensures)
    (slots_left c.args.self.device.core _ _ c.new_slot-slot.ensures c.clocks_of-spent.ensures)
    )
    in
    record { kept = on.0; room = on.1 }
