-- The calls in full: what each answers and leaves, for every device content and every argument.
-- Assumes nothing.
use Rattle.std.specs.Prelude.{ℕ, eqb}
use Rattle.rules.specs.Choice.{pick}
use Rattle.rules.specs.Warnings.{no_warning, warning_as}
use Rattle.rules.specs.Steering.{Steering, bits}
use Rattle.rules.specs.Validity.{total}
use Rattle.rules.specs.Speed.{at_speed}
use Rattle.rules.specs.Registers.{written_over}
use Rattle.rules.specs.Readback.{Byte, read_byte}
use Rattle.rules.specs.Clock.{Clock, clock_of}
use Rattle.rules.specs.Buffers.{Store, Buffers}
use Rattle.rules.specs.World.{SystemOf, System, system, clocked_by}
use Rattle.rules.specs.Refusals.{access_refusal_over, speed_refusal_over, grant_refusal_over}
use Rattle.rules.specs.declared.Clocks.{Clocks}
use Rattle.rules.specs.declared.Core.{Core}

-- what a call is answered with: its number, a byte, 0 for all but an accepted read, and a warning, 0 for all but an accepted
-- write
pub record Answered : Type 0 where
  pub number : ℕ
  pub byte : ℕ
  pub warning : ℕ

-- the answer to a port write, a port read or a speed call, and core, kept as D, and clock counts after it
pub record ReplyOf (D : Type 0) : Type 0 where
  pub answered : Answered
  pub core : D
  pub clocks : Clocks

-- the answer to any call over memory M, and the system after it
pub record AnswerOf (D M : Type 0) : Type 0 where
  pub answered : Answered
  pub system : SystemOf D M

-- accepted with a byte and refused with a number, without a warning
abbrev pub accepted : ℕ → Answered
accepted byte = record { number = 0; byte = byte; warning = no_warning }

abbrev pub refused : ℕ → Answered
refused number = record { number = number; byte = 0; warning = no_warning }

-- a port write, a port read or a speed call: unless it is refused, it gives this byte and this warning and leaves the core so;
-- a refused one leaves everything as it came
unfoldable pub unless_refused : {D : Type 0} → ℕ → ℕ → ℕ → D → D → Clocks → ReplyOf D
unless_refused number byte warning next d k =
    pick (eqb number 0)
    (record { answered = record { number = 0; byte = byte; warning = warning }; core = next; clocks = k })
    (record { answered = refused number; core = d; clocks = k })

-- a reply beside buffers that the call does not touch
abbrev pub beside : {D M : Type 0} → Buffers M → ReplyOf D → AnswerOf D M
beside b r = record { answered = r.answered; system = system r.core b r.clocks }

-- by what the calls go by
module _ {D : Type 0} (δ : Steering D) where
  unfoldable pub write_reply_over : D → Clocks → ℕ → ℕ → ReplyOf D
  write_reply_over d k port byte =
      unless_refused (access_refusal_over δ d (total k) port) 0 (warning_as (δ.next d) byte) (written_over δ port byte d) d k

  unfoldable pub read_reply_over : D → Clocks → ℕ → ReplyOf D
  read_reply_over d k port =
      let r : Byte = read_byte (δ.core d) in
      unless_refused (access_refusal_over δ d (total k) port) r.byte no_warning (δ.with r.core d) d k

  unfoldable pub speed_reply_over : D → Clocks → ℕ → ReplyOf D
  speed_reply_over d k code =
      unless_refused (speed_refusal_over δ d (total k) code) 0 no_warning (δ.with (at_speed code (δ.core d)) d) d k

module _ {D M : Type 0} (δ : Steering D) where
  abbrev pub write_over : SystemOf D M → ℕ → ℕ → AnswerOf D M
  write_over s port byte = beside s.world.buffers (write_reply_over δ s.world.core s.clocks port byte)

  abbrev pub read_over : SystemOf D M → ℕ → AnswerOf D M
  read_over s port = beside s.world.buffers (read_reply_over δ s.world.core s.clocks port)

  abbrev pub set_speed_over : SystemOf D M → ℕ → AnswerOf D M
  set_speed_over s code = beside s.world.buffers (speed_reply_over δ s.world.core s.clocks code)

  -- why a grant of n clocks is refused, 0 for accepted
  abbrev pub grant_number_over : Store M → SystemOf D M → ℕ → ℕ
  grant_number_over σ s n = grant_refusal_over δ σ s.world.core (total s.clocks) s.world.buffers n

  -- n clocks by a clock κ of the core, which leaves the pending parameters alone
  abbrev pub clocked_over : (Core → Clock) → Store M → ℕ → SystemOf D M → SystemOf D M
  clocked_over κ σ n s =
      let t : System M = clocked_by κ σ n (system (δ.core s.world.core) s.world.buffers s.clocks) in
      system (δ.with t.world.core s.world.core) t.world.buffers t.clocks

  -- a grant by a clock κ of the core: all of its clocks, one after the other
  unfoldable pub grant_over : (Core → Clock) → Store M → SystemOf D M → ℕ → AnswerOf D M
  grant_over κ σ s n =
      pick (eqb (grant_number_over σ s n) 0)
      (record { answered = accepted 0; system = clocked_over κ σ n s })
      (record { answered = refused (grant_number_over σ s n); system = s })

-- with the number in the core
abbrev pub Reply : Type 0
Reply = ReplyOf Core

abbrev pub Answer : Type 0 → Type 0
Answer M = AnswerOf Core M

abbrev pub write_reply : Core → Clocks → ℕ → ℕ → Reply
write_reply c k port byte = write_reply_over bits c k port byte

abbrev pub read_reply : Core → Clocks → ℕ → Reply
read_reply c k port = read_reply_over bits c k port

abbrev pub speed_reply : Core → Clocks → ℕ → Reply
speed_reply c k code = speed_reply_over bits c k code

module _ {M : Type 0} where
  abbrev pub write : System M → ℕ → ℕ → Answer M
  write s port byte = write_over bits s port byte

  abbrev pub read : System M → ℕ → Answer M
  read s port = read_over bits s port

  abbrev pub set_speed : System M → ℕ → Answer M
  set_speed s code = set_speed_over bits s code

module _ {M : Type 0} (σ : Store M) where
  abbrev pub grant_number : System M → ℕ → ℕ
  grant_number s n = grant_number_over bits σ s n

-- by a clock κ of the core, and by the rules' clock
abbrev pub grant_by : {M : Type 0} → (Core → Clock) → Store M → System M → ℕ → Answer M
grant_by κ σ s n = grant_over bits κ σ s n

abbrev pub grant : {M : Type 0} → Store M → System M → ℕ → Answer M
grant σ s n = grant_by clock_of σ s n
