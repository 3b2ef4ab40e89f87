-- The calls and the runs of lists as they were before there were warnings, said as then but for their names. Refusals, effects
-- and clocks are the rules' own.
-- Assumes nothing.
use Rattle.std.specs.Prelude.{ℕ, List, [], ◌∷◌, eqb}
use Rattle.rules.specs.Choice.{pick}
use Rattle.rules.specs.Steering.{Steering}
use Rattle.rules.specs.Validity.{total}
use Rattle.rules.specs.Speed.{at_speed}
use Rattle.rules.specs.Registers.{written_over}
use Rattle.rules.specs.Readback.{Byte, read_byte}
use Rattle.rules.specs.Clock.{Clock}
use Rattle.rules.specs.Buffers.{Store, Buffers}
use Rattle.rules.specs.World.{SystemOf, system}
use Rattle.rules.specs.Refusals.{access_refusal_over, speed_refusal_over}
use Rattle.rules.specs.Calls.{grant_number_over, clocked_over}
use Rattle.rules.specs.Entries.{Outside, Entry, port_write, port_read, speed_call, clock_grant, other_grant, outside_change, beside_buffers, changed_outside}
use Rattle.rules.specs.declared.Clocks.{Clocks}
use Rattle.rules.specs.declared.Core.{Core}

-- ---- the calls

-- what a call is answered with: its number, and a byte, 0 for all but an accepted read
pub record BareAnswered : Type 0 where
  pub number : ℕ
  pub byte : ℕ

-- the answer to a port write, a port read or a speed call, and core, kept as D, and clock counts after it
pub record BareReplyOf (D : Type 0) : Type 0 where
  pub answered : BareAnswered
  pub core : D
  pub clocks : Clocks

-- the answer to any call over memory M, and the system after it
pub record BareAnswerOf (D M : Type 0) : Type 0 where
  pub answered : BareAnswered
  pub system : SystemOf D M

-- accepted with a byte, and refused with a number
abbrev pub bare_accepted : ℕ → BareAnswered
bare_accepted byte = record { number = 0; byte = byte }

abbrev pub bare_refused : ℕ → BareAnswered
bare_refused number = record { number = number; byte = 0 }

-- a port write, a port read or a speed call: unless it is refused, it gives this byte and leaves the core so; a refused one
-- leaves everything as it came
unfoldable pub bare_unless_refused : {D : Type 0} → ℕ → ℕ → D → D → Clocks → BareReplyOf D
bare_unless_refused number byte next d k =
    pick (eqb number 0)
    (record { answered = bare_accepted byte; core = next; clocks = k })
    (record { answered = bare_refused number; core = d; clocks = k })

-- a reply beside buffers that the call does not touch
abbrev pub bare_beside : {D M : Type 0} → Buffers M → BareReplyOf D → BareAnswerOf D M
bare_beside b r = record { answered = r.answered; system = system r.core b r.clocks }

-- by what the calls go by
module _ {D : Type 0} (δ : Steering D) where
  unfoldable pub bare_write_reply_over : D → Clocks → ℕ → ℕ → BareReplyOf D
  bare_write_reply_over d k port byte =
      bare_unless_refused (access_refusal_over δ d (total k) port) 0 (written_over δ port byte d) d k

  unfoldable pub bare_read_reply_over : D → Clocks → ℕ → BareReplyOf D
  bare_read_reply_over d k port =
      let r : Byte = read_byte (δ.core d) in
      bare_unless_refused (access_refusal_over δ d (total k) port) r.byte (δ.with r.core d) d k

  unfoldable pub bare_speed_reply_over : D → Clocks → ℕ → BareReplyOf D
  bare_speed_reply_over d k code =
      bare_unless_refused (speed_refusal_over δ d (total k) code) 0 (δ.with (at_speed code (δ.core d)) d) d k

module _ {D M : Type 0} (δ : Steering D) where
  abbrev pub bare_write_over : SystemOf D M → ℕ → ℕ → BareAnswerOf D M
  bare_write_over s port byte = bare_beside s.world.buffers (bare_write_reply_over δ s.world.core s.clocks port byte)

  abbrev pub bare_read_over : SystemOf D M → ℕ → BareAnswerOf D M
  bare_read_over s port = bare_beside s.world.buffers (bare_read_reply_over δ s.world.core s.clocks port)

  abbrev pub bare_set_speed_over : SystemOf D M → ℕ → BareAnswerOf D M
  bare_set_speed_over s code = bare_beside s.world.buffers (bare_speed_reply_over δ s.world.core s.clocks code)

  -- a grant by a clock κ of the core: all of its clocks, one after the other
  unfoldable pub bare_grant_over : (Core → Clock) → Store M → SystemOf D M → ℕ → BareAnswerOf D M
  bare_grant_over κ σ s n =
      pick (eqb (grant_number_over δ σ s n) 0)
      (record { answered = bare_accepted 0; system = clocked_over δ κ σ n s })
      (record { answered = bare_refused (grant_number_over δ σ s n); system = s })

-- ---- lists

-- the answers to a list's entries, in order, and the system after them
pub record BareRunOf (D M : Type 0) : Type 0 where
  pub answers : List BareAnswered
  pub system : SystemOf D M

-- by what the calls go by, and a clock κ of the core
module _ {D M : Type 0} (δ : Steering D) (κ : Core → Clock) (σ : Store M) where
  -- a grant of other buffers: the list keeps its own
  abbrev pub bare_grant_other_over : SystemOf D M → ℕ → Buffers M → BareAnswerOf D M
  bare_grant_other_over s n b =
      let a : BareAnswerOf D M = bare_grant_over δ κ σ (beside_buffers b s) n in
      record { answered = a.answered; system = beside_buffers s.world.buffers a.system }

module _ {D M C : Type 0} (δ : Steering D) (κ : Core → Clock) (σ : Store M) (ω : Outside M C) where
  -- one entry, by the calls' own definitions; an outside change is answered with 0
  abbrev pub bare_enter_over : Entry σ C → SystemOf D M → BareAnswerOf D M
  bare_enter_over (port_write port byte) s = bare_write_over δ s port byte
  bare_enter_over (port_read port) s = bare_read_over δ s port
  bare_enter_over (speed_call code) s = bare_set_speed_over δ s code
  bare_enter_over (clock_grant n) s = bare_grant_over δ κ σ s n
  bare_enter_over (other_grant n b wrong) s = bare_grant_other_over δ κ σ s n b
  bare_enter_over (outside_change x) s = record { answered = bare_accepted 0; system = changed_outside ω x s }

  -- a list of entries
  unfoldable pub bare_run_over : List (Entry σ C) → SystemOf D M → BareRunOf D M
  bare_run_over [] s = record { answers = []; system = s }
  bare_run_over (e ∷ es) s =
      record {
        answers = (bare_enter_over e s).answered ∷ (bare_run_over es (bare_enter_over e s).system).answers;
        system = (bare_run_over es (bare_enter_over e s).system).system;
      }
