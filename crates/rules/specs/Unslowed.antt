-- What document 01 says, which is of 28 MHz, still holds at code 3: the rules there are those of At28.
-- Assumes nothing.
use Rattle.std.specs.Prelude.{ℕ, ◌≡◌, Bool, true, false, List, [], ◌∷◌, eqb}
use Rattle.rules.specs.Choice.{pick, every, any}
use Rattle.rules.specs.Slots.{new_slot}
use Rattle.rules.specs.PowerOn.{power_on}
use Rattle.rules.specs.Validity.{valid_core}
use Rattle.rules.specs.Clock.{clock_of}
use Rattle.rules.specs.Buffers.{Store}
use Rattle.rules.specs.World.{System}
use Rattle.rules.specs.Calls.{write_reply_over, write_reply, read_reply_over, read_reply, grant_over, grant}
use Rattle.rules.specs.Entries.{Outside, Entry, port_write, port_read, speed_call, clock_grant, other_grant, outside_change, Run, run_over, run}
use Rattle.rules.specs.History.{Past, History, history_by, history}
use Rattle.rules.specs.At28.{new_slot_at28, clock_at28, running_slot_at28, valid_core_at28, at28}
use Rattle.rules.specs.declared.Slot.{Slot}
use Rattle.rules.specs.declared.Clocks.{Clocks}
use Rattle.rules.specs.declared.Core.{Core}

-- the running slot, if there is one, is one that document 01 allows
unfoldable pub allowed_at28 : Slot → Bool
allowed_at28 s = any (eqb s.elapsed 0 ∷ running_slot_at28 s ∷ [])

-- a core at code 3 which, if it is valid, has such a slot
pub record Unslowed (c : Core) : Type 0 where
  pub speed : c.control.speed ≡ 3
  pub slot : valid_core c ≡ true → allowed_at28 c.slot ≡ true

-- ---- lists

abbrev pub is_speed_call : {M C : Type 0} {σ : Store M} → Entry σ C → Bool
is_speed_call (port_write port byte) = false
is_speed_call (port_read port) = false
is_speed_call (speed_call code) = true
is_speed_call (clock_grant n) = false
is_speed_call (other_grant n b wrong) = false
is_speed_call (outside_change x) = false

-- the entries that are no speed calls
unfoldable pub others : {M C : Type 0} {σ : Store M} → List (Entry σ C) → List (Entry σ C)
others [] = []
others (e ∷ es) = pick (is_speed_call e) (others es) (e ∷ others es)

-- of what a list's entries were answered, one each, that of these
unfoldable pub to_others : {M C X : Type 0} {σ : Store M} → List (Entry σ C) → List X → List X
to_others [] as' = []
to_others (e ∷ es) [] = []
to_others (e ∷ es) (a ∷ as') = pick (is_speed_call e) (to_others es as') (a ∷ to_others es as')

-- a speed call of code 3, or another entry
abbrev pub AsksThree : {M C : Type 0} {σ : Store M} → Entry σ C → Type 0
AsksThree (port_write port byte) = Unit {0}
AsksThree (port_read port) = Unit {0}
AsksThree (speed_call code) = code ≡ 3
AsksThree (clock_grant n) = Unit {0}
AsksThree (other_grant n b wrong) = Unit {0}
AsksThree (outside_change x) = Unit {0}

-- none of the entries is a speed call
unfoldable pub NoSpeedCall : {M C : Type 0} {σ : Store M} → List (Entry σ C) → Type 0
NoSpeedCall [] = Unit {0}
NoSpeedCall (e ∷ es) = (is_speed_call e ≡ false) × NoSpeedCall es

-- the speed calls that were accepted, by the numbers of the answers, are all of code 3
unfoldable pub OnlyThree : {M C A : Type 0} {σ : Store M} → (A → ℕ) → List (Entry σ C) → List A → Type 0
OnlyThree number [] as' = Unit {0}
OnlyThree number (e ∷ es) [] = Unit {0}
OnlyThree number (e ∷ es) (a ∷ as') = (number a ≡ 0 → AsksThree e) × OnlyThree number es as'

-- what a list's entries were answered and the state after them, beside those of its entries that are no speed calls: the same
-- state, and the same answers to these
pub record SameButSpeed {M C A X : Type 0} {σ : Store M} (es : List (Entry σ C)) (as' : List A) (x : X) (bs : List A) (y : X) : Type 0 where
  pub state : x ≡ y
  pub answers : to_others es as' ≡ bs

-- ---- the claim

pub record FullSpeedStands : Type 1 where
  -- power-on is such a core
  pub power_on : Unslowed power_on
  -- valid at 28 MHz alone is a core of code 3 exactly where it is valid and its running slot, if any, is allowed
  pub validity : (c : Core) → c.control.speed ≡ 3 → valid_core_at28 c ≡ every (valid_core c ∷ allowed_at28 c.slot ∷ [])
  -- of a valid one the slot that begins and the clock are those at 28 MHz
  pub slot : (c : Core) → c.control.speed ≡ 3 → valid_core c ≡ true → new_slot c ≡ new_slot_at28 c
  pub clock : (c : Core) → c.control.speed ≡ 3 → valid_core c ≡ true → clock_of c ≡ clock_at28 c
  -- every write, read and grant is answered alike, also of a core that is not valid
  pub write : (c : Core) (k : Clocks) (port byte : ℕ) → Unslowed c → write_reply c k port byte ≡ write_reply_over at28 c k port byte
  pub read : (c : Core) (k : Clocks) (port : ℕ) → Unslowed c → read_reply c k port ≡ read_reply_over at28 c k port
  pub granted : {M : Type 0} (σ : Store M) (s : System M) (n : ℕ) → Unslowed s.world.core → grant σ s n ≡ grant_over at28 clock_at28 σ s n
  -- every list without a speed call has the run and the history at 28 MHz
  pub plain_run :
      {M C : Type 0} (σ : Store M) (ω : Outside M C) (es : List (Entry σ C)) (s : System M)
      → Unslowed s.world.core → NoSpeedCall es → run σ ω es s ≡ run_over at28 clock_at28 σ ω es s
  pub plain_history :
      {M C : Type 0} (σ : Store M) (ω : Outside M C) (es : List (Entry σ C)) (p : Past M)
      → Unslowed p.world.core → NoSpeedCall es → history σ ω es p ≡ history_by valid_core_at28 clock_at28 σ ω es p
  -- and every list whose accepted speed calls are all of code 3 has those of its other entries
  pub runs :
      {M C : Type 0} (σ : Store M) (ω : Outside M C) (es : List (Entry σ C)) (s : System M)
      → Unslowed s.world.core
      → OnlyThree (λ a. a.number) es (run σ ω es s).answers
      → (let old : Run M = run_over at28 clock_at28 σ ω (others es) s in
      SameButSpeed es (run σ ω es s).answers (run σ ω es s).system old.answers old.system)
  pub histories :
      {M C : Type 0} (σ : Store M) (ω : Outside M C) (es : List (Entry σ C)) (p : Past M)
      → Unslowed p.world.core
      → OnlyThree (λ n. n) es (history σ ω es p).numbers
      → (let old : History M = history_by valid_core_at28 clock_at28 σ ω (others es) p in
      SameButSpeed es (history σ ω es p).numbers (history σ ω es p).past old.numbers old.past)
