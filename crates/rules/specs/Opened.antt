-- All definitions that branch, opened at once: a proof that computes says `unfolding opened`.
-- Assumes nothing.
use Rattle.rules.specs.Choice.{pick, first_of, every, any, means, first_hit}
use Rattle.rules.specs.Ports.{cycle_of, stepped}
use Rattle.rules.specs.Blocks.{block_count, finished}
use Rattle.rules.specs.Speed.{factor}
use Rattle.rules.specs.Slots.{waiting, bus_held, unmoved, bus_time_of, larger, slot_length, slot_of}
use Rattle.rules.specs.Selection.{selects}
use Rattle.rules.specs.Pending.{next, ask, asked, used_up, pending_after_as, valid_pending}
use Rattle.rules.specs.Warnings.{warning_as}
use Rattle.rules.specs.Validity.{valid_port, valid_readback, resting_slot, prescaled_length, valid_length, running_slot, valid_slot, valid_progress, valid_core_if, valid_if}
use Rattle.rules.specs.Floor.{shared, all_shared, floor_of, cpu_floor}
use Rattle.rules.specs.Commands.{enable, reading_command, command}
use Rattle.rules.specs.Registers.{wr3, register, parameter, carried_out_as, effect_over}
use Rattle.rules.specs.Readback.{status_byte, register_byte, after, seek, read_byte}
use Rattle.rules.specs.Clock.{moved_at, kind_at, slot_end, clock_end, slot_clock, clock_of}
use Rattle.rules.specs.Buffers.{placed, source, destination, byte_at, put}
use Rattle.rules.specs.World.{buffers_after, clocked_by}
use Rattle.rules.specs.Refusals.{access_refusal_if, speed_refusal_if, lent_refusal_if, grant_refusal_if}
use Rattle.rules.specs.Calls.{unless_refused, write_reply_over, read_reply_over, speed_reply_over, grant_over}
use Rattle.rules.specs.Entries.{poked, run_over}
use Rattle.rules.specs.History.{zeroing, write_passed, noted_unless, clocks_passed_by, history_by}

-- choices and the parts of the core
unfoldable parts_opened : Unit {0}
unfolding pick first_of every any means first_hit cycle_of stepped block_count finished factor bus_time_of larger slot_length slot_of waiting bus_held unmoved
parts_opened = tt

-- what bytes do, and what they read
unfoldable bytes_opened : Unit {0}
unfolding selects next ask asked used_up pending_after_as valid_pending warning_as enable reading_command command wr3 register parameter carried_out_as effect_over status_byte register_byte after seek read_byte
bytes_opened = tt

-- which devices are valid, and of how many clocks the processor has one
unfoldable valid_opened : Unit {0}
unfolding valid_port valid_readback resting_slot prescaled_length valid_length running_slot valid_slot valid_progress valid_core_if valid_if shared all_shared floor_of cpu_floor
valid_opened = tt

-- clocks, and the buffers that they work on
unfoldable clocks_opened : Unit {0}
unfolding moved_at kind_at slot_end clock_end slot_clock clock_of placed source destination byte_at put buffers_after clocked_by
clocks_opened = tt

-- calls, their lists and histories
unfoldable calls_opened : Unit {0}
unfolding access_refusal_if speed_refusal_if lent_refusal_if grant_refusal_if unless_refused write_reply_over read_reply_over speed_reply_over grant_over poked run_over zeroing write_passed noted_unless clocks_passed_by history_by
calls_opened = tt

unfoldable pub opened : Unit {0}
unfolding parts_opened bytes_opened valid_opened clocks_opened calls_opened
opened = tt
