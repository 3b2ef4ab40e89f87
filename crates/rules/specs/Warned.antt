-- Warnings: which bytes have which; which calls answer one, also within a list; and that all else is answered as it was
-- before there were warnings.
-- Assumes nothing.
use Rattle.std.specs.Prelude.{ℕ, zero, suc, ◌+◌, ◌/◌, ◌%◌, ◌≤◌, ◌<◌, ◌≡◌, ◌⊎◌, List, [], ◌∷◌, eqb}
use Rattle.rules.specs.Choice.{pick}
use Rattle.rules.specs.Selection.{selects}
use Rattle.rules.specs.Pending.{a_low, a_high, length_low, length_high, a_timing, b_timing, prescaler, b_low, b_high, read_mask, nothing, next}
use Rattle.rules.specs.Warnings.{warning_as, warning}
use Rattle.rules.specs.Validity.{total}
use Rattle.rules.specs.Steering.{Steering}
use Rattle.rules.specs.Clock.{Clock}
use Rattle.rules.specs.Buffers.{Store}
use Rattle.rules.specs.World.{SystemOf, System}
use Rattle.rules.specs.Refusals.{access_refusal}
use Rattle.rules.specs.Calls.{Answered, ReplyOf, AnswerOf, write_reply_over, write_reply, read_reply_over, read_reply, speed_reply_over, speed_reply, grant_over, grant}
use Rattle.rules.specs.Exactly.{Exactly, selected}
use Rattle.rules.specs.Entries.{Outside, Entry, port_write, port_read, speed_call, clock_grant, other_grant, outside_change, RunOf, run_over, run, system_at_power_on}
use Rattle.rules.specs.Unwarned.{BareAnswered, BareReplyOf, BareAnswerOf, BareRunOf, bare_write_reply_over, bare_read_reply_over, bare_speed_reply_over, bare_grant_over, bare_run_over}
use Rattle.rules.specs.History.{Past, note_entry, past_at_power_on}
use Rattle.rules.specs.declared.Clocks.{Clocks}
use Rattle.rules.specs.declared.Core.{Core}

-- ---- which byte has which warning, whatever is pending

-- how many bytes below n have this warning, by what is next
unfoldable pub warned_below : ℕ → ℕ → ℕ → ℕ
warned_below next w zero = 0
warned_below next w (suc n) = warned_below next w n + pick (eqb (warning_as next n) w) 1 0

-- how many of the 256 have none, and how many 1, 2 and 3
abbrev pub unwarned : ℕ → ℕ
unwarned next = warned_below next 0 256

abbrev pub warned_bytes : ℕ → List ℕ
warned_bytes next = warned_below next 1 256 ∷ warned_below next 2 256 ∷ warned_below next 3 256 ∷ []

pub record WarningExact : Type 0 where
  -- 1: no parameter is next, and the byte is 0xxxxxAA, WR0, with AA of 10 or 11
  pub operation : (p byte : ℕ) → Exactly (warning p byte ≡ 1) ((next p ≡ 0) × (byte < 128) × ((byte % 4 ≡ 2) ⊎ (byte % 4 ≡ 3)))
  -- 2: A's or B's timing is next, bit 4 or bit 5 of what is pending, and bits 1-0 are 11
  pub timing : (p byte : ℕ) → Exactly (warning p byte ≡ 2) (((next p ≡ 16) ⊎ (next p ≡ 32)) × (byte % 4 ≡ 3))
  -- 3: no parameter is next, and the byte is 1xxxxx01, WR4, with bits 6-5 of 00 or 11
  pub mode : (p byte : ℕ) → Exactly (warning p byte ≡ 3) ((next p ≡ 0) × (128 ≤ byte) × (byte % 4 ≡ 1) × ((byte / 32 % 4 ≡ 0) ⊎ (byte / 32 % 4 ≡ 3)))
  -- there is no other
  pub most : (p byte : ℕ) → warning p byte ≤ 3
  -- so none for a parameter of another kind, for a byte that selects another register, for AA of 01, or for one of the 24
  -- bytes that select none
  pub parameter : (p byte : ℕ) → (next p ≡ 0 → ⊥) → (next p ≡ 16 → ⊥) → (next p ≡ 32 → ⊥) → warning p byte ≡ 0
  pub register : (p byte : ℕ) → next p ≡ 0 → (selects byte ≡ 0 → ⊥) → (selects byte ≡ 4 → ⊥) → warning p byte ≡ 0
  pub plain : (p byte : ℕ) → next p ≡ 0 → selects byte ≡ 0 → byte % 4 ≡ 1 → warning p byte ≡ 0
  pub idle : (p byte : ℕ) → next p ≡ 0 → selected byte ≡ 0 → warning p byte ≡ 0
  -- counted over the 256 bytes: while no parameter is next; as A timing and as B timing; those without a warning as each of the
  -- other parameters
  pub registers : warned_bytes nothing ≡ 64 ∷ 0 ∷ 16 ∷ []
  pub timings : (warned_bytes a_timing ≡ 0 ∷ 64 ∷ 0 ∷ []) × (warned_bytes b_timing ≡ 0 ∷ 64 ∷ 0 ∷ [])
  pub others :
      unwarned a_low ∷ unwarned a_high ∷ unwarned length_low ∷ unwarned length_high ∷ unwarned prescaler ∷ unwarned b_low ∷ unwarned b_high ∷ unwarned read_mask ∷ []
      ≡ 256 ∷ 256 ∷ 256 ∷ 256 ∷ 256 ∷ 256 ∷ 256 ∷ 256 ∷ []

-- ---- which calls answer one

pub record WarningAnswered : Type 1 where
  -- an accepted write that of its byte, by what is pending as it comes, whatever the port and the rest of the core
  pub write : (c : Core) (k : Clocks) (port byte : ℕ) → access_refusal c (total k) port ≡ 0 → (write_reply c k port byte).answered.warning ≡ warning c.pending byte
  -- a refused one none
  pub refused : (c : Core) (k : Clocks) (port byte : ℕ) → (access_refusal c (total k) port ≡ 0 → ⊥) → (write_reply c k port byte).answered.warning ≡ 0
  -- so a write answers a warning exactly where its number is 0 and its byte has that warning
  pub exact :
      (c : Core) (k : Clocks) (port byte w : ℕ) → (w ≡ 0 → ⊥)
      → Exactly ((write_reply c k port byte).answered.warning ≡ w) (((write_reply c k port byte).answered.number ≡ 0) × (warning c.pending byte ≡ w))
  -- every other call none
  pub read : (c : Core) (k : Clocks) (port : ℕ) → (read_reply c k port).answered.warning ≡ 0
  pub speed : (c : Core) (k : Clocks) (code : ℕ) → (speed_reply c k code).answered.warning ≡ 0
  pub granted : {M : Type 0} (σ : Store M) (s : System M) (n : ℕ) → (grant σ s n).answered.warning ≡ 0

-- ---- within a list

-- the warnings of answers
unfoldable pub warnings_of : List Answered → List ℕ
warnings_of [] = []
warnings_of (a ∷ as') = a.warning ∷ warnings_of as'

module _ {M C : Type 0} (σ : Store M) (ω : Outside M C) where
  -- the warning of an entry by the history before it: that of a write's byte, where the history gives it the number 0
  abbrev pub entry_warning : Entry σ C → Past M → ℕ
  entry_warning (port_write port byte) p =
      pick (eqb (note_entry σ ω (port_write port byte) p).number 0) (warning p.world.core.pending byte) 0
  entry_warning (port_read port) p = 0
  entry_warning (speed_call code) p = 0
  entry_warning (clock_grant n) p = 0
  entry_warning (other_grant n b wrong) p = 0
  entry_warning (outside_change x) p = 0

  -- those of a list's entries, in order
  unfoldable pub warnings_along : List (Entry σ C) → Past M → List ℕ
  warnings_along [] p = []
  warnings_along (e ∷ es) p = entry_warning e p ∷ warnings_along es (note_entry σ ω e p).past

-- the warnings that a run answers are those by the list's history
abbrev pub WarningsNoted : Type 1
WarningsNoted =
    (M C : Type 0) (σ : Store M) (ω : Outside M C) (m : M) (l : List ℕ) (es : List (Entry σ C))
    → warnings_of (run σ ω es (system_at_power_on m l)).answers ≡ warnings_along σ ω es (past_at_power_on m l)

-- ---- all else as before

-- answers without their warnings
abbrev pub bare_answered : Answered → BareAnswered
bare_answered a = record { number = a.number; byte = a.byte }

abbrev pub bare_reply : {D : Type 0} → ReplyOf D → BareReplyOf D
bare_reply r = record { answered = bare_answered r.answered; core = r.core; clocks = r.clocks }

abbrev pub bare_answer : {D M : Type 0} → AnswerOf D M → BareAnswerOf D M
bare_answer a = record { answered = bare_answered a.answered; system = a.system }

unfoldable pub bare_answers : List Answered → List BareAnswered
bare_answers [] = []
bare_answers (a ∷ as') = bare_answered a ∷ bare_answers as'

abbrev pub bare_run : {D M : Type 0} → RunOf D M → BareRunOf D M
bare_run r = record { answers = bare_answers r.answers; system = r.system }

-- numbers, bytes, core, clock counts and buffers are those of before: of every call and of every list, of any content and over
-- any memory, whatever the calls go by
pub record WarningsAside : Type 1 where
  pub write : {D : Type 0} (δ : Steering D) (d : D) (k : Clocks) (port byte : ℕ) → bare_reply (write_reply_over δ d k port byte) ≡ bare_write_reply_over δ d k port byte
  pub read : {D : Type 0} (δ : Steering D) (d : D) (k : Clocks) (port : ℕ) → bare_reply (read_reply_over δ d k port) ≡ bare_read_reply_over δ d k port
  pub speed : {D : Type 0} (δ : Steering D) (d : D) (k : Clocks) (code : ℕ) → bare_reply (speed_reply_over δ d k code) ≡ bare_speed_reply_over δ d k code
  pub granted : {D M : Type 0} (δ : Steering D) (κ : Core → Clock) (σ : Store M) (s : SystemOf D M) (n : ℕ) → bare_answer (grant_over δ κ σ s n) ≡ bare_grant_over δ κ σ s n
  pub runs :
      {D M C : Type 0} (δ : Steering D) (κ : Core → Clock) (σ : Store M) (ω : Outside M C) (es : List (Entry σ C)) (s : SystemOf D M)
      → bare_run (run_over δ κ σ ω es s) ≡ bare_run_over δ κ σ ω es s
