-- The recheck: a look at the block on a slot's first clock, which document 01 has and the rules do not. The clock with it, and
-- that no call can tell it from the rules' clock.
-- Assumes nothing.
use Rattle.std.specs.Prelude.{ℕ, ◌+◌, ◌≡◌, Bool, true, false, List, [], ◌∷◌, eqb}
use Rattle.std.proofs.Math.Option.{none}
use Rattle.rules.specs.Choice.{pick, every}
use Rattle.rules.specs.Parts.{with_counter, with_restart, with_block, with_control, with_enabled, with_slot, in_slot}
use Rattle.rules.specs.Blocks.{finished}
use Rattle.rules.specs.Slots.{new_slot}
use Rattle.rules.specs.PowerOn.{power_on}
use Rattle.rules.specs.Validity.{valid_core}
use Rattle.rules.specs.Commands.{block_ended, disable}
use Rattle.rules.specs.Registers.{written}
use Rattle.rules.specs.Clock.{cpu_clock, Clock, clock, stopped, slot_clock, clock_of}
use Rattle.rules.specs.Buffers.{Store}
use Rattle.rules.specs.World.{System, clocked}
use Rattle.rules.specs.Refusals.{access_refusal, speed_refusal, lent_refusal}
use Rattle.rules.specs.Calls.{grant_by, grant}
use Rattle.rules.specs.Entries.{Outside, Entry, run_by, run, system_at_power_on}
use Rattle.rules.specs.History.{Past, history_by, history}
use Rattle.rules.specs.declared.Core.{Core}

-- a slot's first clock with the recheck: a finished block disables the device, on a clock of the processor
unfoldable pub first_clock_with_recheck : Core → Clock
first_clock_with_recheck c =
    pick (finished c.block) (clock cpu_clock false none (stopped c)) (slot_clock 1 (with_slot (new_slot c) c))

-- one clock with the recheck
unfoldable pub clock_with_recheck : Core → Clock
clock_with_recheck c =
    pick c.enabled
    (pick (eqb c.slot.elapsed 0) (first_clock_with_recheck c) (slot_clock (c.slot.elapsed + 1) c))
    (clock cpu_clock false none c)

-- it hits: the device is enabled, no clock of a slot has elapsed, and the counter is at or above the block count
unfoldable pub recheck_hits : Core → Bool
recheck_hits c = every (c.enabled ∷ eqb c.slot.elapsed 0 ∷ finished c.block ∷ [])

-- it never hits
pub record RecheckNeverHits : Type 1 where
  -- at a valid core, nor after any number of clocks from one
  pub valid : (c : Core) → valid_core c ≡ true → recheck_hits c ≡ false
  pub granted : {M : Type 0} (σ : Store M) (s : System M) (n : ℕ) → valid_core s.world.core ≡ true → recheck_hits (clocked σ n s).world.core ≡ false
  -- after a clock, of any core whatsoever
  pub clock : (c : Core) → recheck_hits (clock_of c).next ≡ false
  -- where a list of calls from power-on ends, writes in a wait among them, nor after any number of clocks from there
  pub reached :
      (M C : Type 0) (σ : Store M) (ω : Outside M C) (m : M) (l : List ℕ) (es : List (Entry σ C)) (n : ℕ)
      → recheck_hits (clocked σ n (run σ ω es (system_at_power_on m l)).system).world.core ≡ false
  -- and so from any system at which it does not hit
  pub kept :
      {M C : Type 0} (σ : Store M) (ω : Outside M C) (es : List (Entry σ C)) (s : System M) (n : ℕ)
      → recheck_hits s.world.core ≡ false
      → recheck_hits (clocked σ n (run σ ω es s).system).world.core ≡ false
  -- a core at which it hits is refused with 1 by every call, whatever is asked
  pub access : (c : Core) (sum port : ℕ) → recheck_hits c ≡ true → access_refusal c sum port ≡ 1
  pub speed : (c : Core) (sum code : ℕ) → recheck_hits c ≡ true → speed_refusal c sum code ≡ 1
  pub grant : (c : Core) (sum memory latches n : ℕ) → recheck_hits c ≡ true → lent_refusal c sum memory latches n ≡ 1

-- not valid: power-on, but enabled, so that a slot would begin with a block of no bytes
abbrev pub enabled_on_empty_block : Core
enabled_on_empty_block = with_enabled true power_on

-- in the wait of a slot of 32 clocks, n of which have elapsed: its byte has moved, and the block's length is 0 now
abbrev pub in_wait : ℕ → Bool → Core
in_wait n restart =
    with_enabled true
    (in_slot n 4 32 true
    (with_block (with_counter 1 power_on.block) (with_control (with_restart restart power_on.control) power_on)))

-- worked out at the edge
pub record RecheckNearest : Type 0 where
  -- Enable has looked at a block of no bytes
  pub enable : recheck_hits (written 0x6B 0x87 power_on) ≡ false
  -- a slot's last clock has looked at such a block, without auto restart and with it
  pub valid : (restart : Bool) → valid_core (in_wait 31 restart) ≡ true
  pub slot_end : (restart : Bool) → recheck_hits (clock_of (in_wait 31 restart)).next ≡ false
  -- within a slot the recheck does not look, finished as the block may be
  pub within : (restart : Bool) → clock_with_recheck (in_wait 30 restart) ≡ clock_of (in_wait 30 restart)
  -- it hits here, with a clock of the processor, and every call refuses the device
  pub hits : recheck_hits enabled_on_empty_block ≡ true
  pub kind : (clock_with_recheck enabled_on_empty_block).kind ≡ cpu_clock
  pub access : (sum port : ℕ) → access_refusal enabled_on_empty_block sum port ≡ 1
  pub grant : (sum memory latches n : ℕ) → lent_refusal enabled_on_empty_block sum memory latches n ≡ 1

-- with it and without it every answer is the same
pub record RecheckUnseen : Type 1 where
  -- where it does not hit, the clock is the rules' clock; where it does, one of the processor, with which the device is
  -- disabled and E cleared
  pub clock : (c : Core) → recheck_hits c ≡ false → clock_with_recheck c ≡ clock_of c
  pub hit : (c : Core) → recheck_hits c ≡ true → clock_with_recheck c ≡ record { kind = cpu_clock; moves = false; zeroed = none; next = disable (block_ended c) }
  -- a grant, of any system whatsoever: an invalid one is refused before any clock
  pub grants : {M : Type 0} (σ : Store M) (s : System M) (n : ℕ) → grant_by clock_with_recheck σ s n ≡ grant σ s n
  -- the run of any list from any system, and its history from any past
  pub runs : {M C : Type 0} (σ : Store M) (ω : Outside M C) (es : List (Entry σ C)) (s : System M) → run_by clock_with_recheck σ ω es s ≡ run σ ω es s
  pub histories : {M C : Type 0} (σ : Store M) (ω : Outside M C) (es : List (Entry σ C)) (p : Past M) → history_by valid_core clock_with_recheck σ ω es p ≡ history σ ω es p
