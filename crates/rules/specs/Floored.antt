-- The floor under the processor's time: when there is one, and which; that it holds, over single clocks and over lists of calls;
-- that it is at most 65; and that it is reached: a device about to begin a slot has one clock fewer without the processor.
-- Assumes nothing.
use Rattle.std.specs.Prelude.{ℕ, ◌+◌, ◌≤◌, ◌<◌, ◌≡◌, refl, true, false, List, [], ◌∷◌, ◌++◌, length, replicate}
use Rattle.std.proofs.Math.Option.{none}
use Rattle.rules.specs.Bytes.{AreBytes}
use Rattle.rules.specs.Parts.{with_cycle, with_length, with_prescaler, with_burst, with_speed, with_a, with_b, with_block, with_control, with_enabled, in_slot}
use Rattle.rules.specs.Slots.{new_slot}
use Rattle.rules.specs.PowerOn.{power_on, no_clocks}
use Rattle.rules.specs.Validity.{valid_core, valid, total}
use Rattle.rules.specs.Facts.{InRange}
use Rattle.rules.specs.Clock.{bus_clock, cpu_clock, clock_of}
use Rattle.rules.specs.declared.at_once.Kind.{Kind}
use Rattle.rules.specs.Buffers.{Store, flat}
use Rattle.rules.specs.World.{System, system, clocked}
use Rattle.rules.specs.Calls.{Answered, accepted, grant}
use Rattle.rules.specs.Entries.{Outside, Entry, port_write, port_read, speed_call, clock_grant, other_grant, outside_change, bytes_written, run, system_at_power_on}
use Rattle.rules.specs.History.{Event, clock_noted, counter_zeroed, still_clock, moving_clock, history, past_at_power_on}
use Rattle.rules.specs.Accounts.{clocks_noted, clocks_accepted, numbers_of}
use Rattle.rules.specs.Floor.{all_shared, floor_of, cpu_floor}
use Rattle.rules.specs.declared.Slot.{Slot}
use Rattle.rules.specs.declared.Clocks.{Clocks}
use Rattle.rules.specs.declared.Core.{Core}

-- ---- when there is a floor, and which

-- the processor has clocks of this slot
pub record Shared (s : Slot) : Type 0 where
  pub burst : s.burst ≡ true
  pub longer : s.bus < s.length

-- it has clocks of every slot that runs or is to come
pub record AllShared (c : Core) : Type 0 where
  -- of the one that the present registers start, enabled or not
  pub registers : Shared (new_slot c)
  -- of the one that runs, if clocks of it have elapsed
  pub running : (c.slot.elapsed ≡ 0 → ⊥) → Shared c.slot

-- one more than the bus time of one of them
pub data OneOf (c : Core) (n : ℕ) : Type 0 where
  of_registers : n ≡ (new_slot c).bus + 1 → OneOf c n
  of_running : (c.slot.elapsed ≡ 0 → ⊥) → n ≡ c.slot.bus + 1 → OneOf c n

-- one more than the largest of their bus times
pub record OneMore (c : Core) (n : ℕ) : Type 0 where
  pub registers : (new_slot c).bus < n
  pub running : (c.slot.elapsed ≡ 0 → ⊥) → c.slot.bus < n
  pub one : OneOf c n

pub record FloorExact : Type 0 where
  -- the condition, and the bound, of any core whatsoever
  pub met : (c : Core) → AllShared c → all_shared c ≡ true
  pub meets : (c : Core) → all_shared c ≡ true → AllShared c
  pub bound : (c : Core) → OneMore c (floor_of c)
  -- what is answered: the bound of a valid device that meets the condition, 0 of every other
  pub answered : (c : Core) (sum : ℕ) → valid c sum ≡ true → AllShared c → cpu_floor c sum ≡ floor_of c
  pub invalid : (c : Core) (sum : ℕ) → (valid c sum ≡ true → ⊥) → cpu_floor c sum ≡ 0
  pub unmet : (c : Core) (sum : ℕ) → (AllShared c → ⊥) → cpu_floor c sum ≡ 0
  -- of a valid core the bound is at most 65, and so is the answer, which is 0 or 5 at least
  pub most : (c : Core) → valid_core c ≡ true → floor_of c ≤ 65
  pub most_answered : (c : Core) (sum : ℕ) → cpu_floor c sum ≤ 65
  pub least_answered : (c : Core) (sum : ℕ) → (cpu_floor c sum ≡ 0 → ⊥) → 5 ≤ cpu_floor c sum

-- ---- over clocks

-- the kind of the clock that comes after n others
abbrev pub kind_after : {M : Type 0} → Store M → ℕ → System M → Kind
kind_after σ n s = (clock_of (clocked σ n s).world.core).kind

-- among n clocks in a row, with so many before them, one is the processor's
pub record CpuAmong {M : Type 0} (σ : Store M) (s : System M) (before n : ℕ) : Type 0 where
  pub offset : ℕ
  pub within : offset < n
  pub kind : kind_after σ (before + offset) s ≡ cpu_clock

-- what is answered for the device of a system
abbrev pub floor_at : {M : Type 0} → System M → ℕ
floor_at s = cpu_floor s.world.core (total s.clocks)

pub record FloorHolds : Type 1 where
  -- wherever there is a floor: among any so many clocks in a row, the next one or any later one being the first of them
  pub clocks : {M : Type 0} (σ : Store M) (s : System M) (before : ℕ) → (floor_at s ≡ 0 → ⊥) → CpuAmong σ s before (floor_at s)
  -- and among any 65
  pub ever : {M : Type 0} (σ : Store M) (s : System M) (before : ℕ) → (floor_at s ≡ 0 → ⊥) → CpuAmong σ s before 65
  -- in the counts: over so many clocks, or more, the processor's grows
  pub counts :
      {M : Type 0} (σ : Store M) (s : System M) (before n : ℕ) → (floor_at s ≡ 0 → ⊥) → floor_at s ≤ n
      → (clocked σ before s).clocks.cpu < (clocked σ (before + n) s).clocks.cpu
  -- the clocks need the condition alone: so it is of any core whatsoever that meets it, valid or not
  pub unchecked : {M : Type 0} (σ : Store M) (s : System M) (before : ℕ) → AllShared s.world.core → CpuAmong σ s before (floor_of s.world.core)
  -- after any clocks the condition is met, and the bound is no larger
  pub kept :
      {M : Type 0} (σ : Store M) (s : System M) (n : ℕ) → AllShared s.world.core
      → AllShared (clocked σ n s).world.core × (floor_of (clocked σ n s).world.core ≤ floor_of s.world.core)
  -- so a device whose fields lie within their types answers a floor after every grant, refused or not, and no larger one
  pub granted :
      {M : Type 0} (σ : Store M) (s : System M) (n : ℕ) → InRange s.world.core → (floor_at s ≡ 0 → ⊥)
      → (floor_at (grant σ s n).system ≡ 0 → ⊥) × (floor_at (grant σ s n).system ≤ floor_at s)
  -- of an enabled device with no clock elapsed, one clock fewer has none of the processor; of others a smaller number may do
  pub tight :
      {M : Type 0} (σ : Store M) (s : System M) (n : ℕ) → AllShared s.world.core
      → s.world.core.enabled ≡ true → s.world.core.slot.elapsed ≡ 0
      → n + 1 < floor_of s.world.core → kind_after σ n s ≡ bus_clock

-- ---- over lists

-- what may be accepted in between: a grant or an outside change of memory, no port access, be it a read, and no speed call; a
-- grant that lends other buffers is refused in any case
abbrev pub MayPass : {M C : Type 0} {σ : Store M} → Entry σ C → Type 0
MayPass (port_write port byte) = ⊥
MayPass (port_read port) = ⊥
MayPass (speed_call code) = ⊥
MayPass (clock_grant n) = Unit {0}
MayPass (other_grant n b wrong) = Unit {0}
MayPass (outside_change x) = Unit {0}

-- nothing else is accepted of a list, by the answers to its entries, one for each
unfoldable pub Undisturbed : {M C : Type 0} {σ : Store M} → List (Entry σ C) → List Answered → Type 0
Undisturbed [] as' = Unit {0}
Undisturbed (e ∷ es) [] = Unit {0}
Undisturbed (e ∷ es) (a ∷ as') = (a.number ≡ 0 → MayPass e) × Undisturbed es as'

-- only clocks are noted
unfoldable pub OnlyClocks : List Event → Type 0
OnlyClocks [] = Unit {0}
OnlyClocks (clock_noted n ∷ es) = OnlyClocks es
OnlyClocks (counter_zeroed held ∷ es) = ⊥

-- wherever n events in a row stand among these, of which the latest is the first, one is a clock of the processor
abbrev pub CpuNoted : ℕ → List Event → Type 0
CpuNoted n es = (later these earlier : List Event) → es ≡ later ++ (these ++ earlier) → length these ≡ n → 1 ≤ clocks_noted cpu_clock these

-- from power-on, with a memory and latches: a list, and another behind it
module _ {M C : Type 0} (σ : Store M) (ω : Outside M C) (m : M) (l : List ℕ) (before : List (Entry σ C)) where
  -- where the first ends
  abbrev pub end_of : System M
  end_of = (run σ ω before (system_at_power_on m l)).system

  -- the answers to the second
  abbrev pub answers_behind : List (Entry σ C) → List Answered
  answers_behind after = (run σ ω after end_of).answers

  pub record FloorBehind (after : List (Entry σ C)) (n : ℕ) : Type 0 where
    -- what the second notes, in front of what the first has noted: the clocks of its accepted grants, one by one
    pub noted : List Event
    pub events : (history σ ω (before ++ after) (past_at_power_on m l)).past.events ≡ noted ++ (history σ ω before (past_at_power_on m l)).past.events
    pub only : OnlyClocks noted
    pub each : length noted ≡ clocks_accepted after (answers_behind after)
    -- among any n of them in a row one is the processor's
    pub floor : CpuNoted n noted

pub record FloorHoldsInLists : Type 1 where
  -- for every list whose end meets the condition, and every list behind it of which nothing but grants and outside changes is
  -- accepted
  pub lists :
      (M C : Type 0) (σ : Store M) (ω : Outside M C) (m : M) (l : List ℕ) (before after : List (Entry σ C))
      → AllShared (end_of σ ω m l before).world.core
      → Undisturbed after (answers_behind σ ω m l before after)
      → FloorBehind σ ω m l before after (floor_of (end_of σ ω m l before).world.core)
  -- for every list at whose end a floor is answered, with this one
  pub answered :
      (M C : Type 0) (σ : Store M) (ω : Outside M C) (m : M) (l : List ℕ) (before after : List (Entry σ C))
      → (floor_at (end_of σ ω m l before) ≡ 0 → ⊥)
      → Undisturbed after (answers_behind σ ω m l before after)
      → FloorBehind σ ω m l before after (floor_at (end_of σ ω m l before))
  -- and it is answered wherever a list's end meets the condition
  pub reached :
      (M C : Type 0) (σ : Store M) (ω : Outside M C) (m : M) (l : List ℕ) (before : List (Entry σ C))
      → AreBytes (bytes_written before)
      → AllShared (end_of σ ω m l before).world.core
      → floor_at (end_of σ ω m l before) ≡ floor_of (end_of σ ω m l before).world.core

-- ---- worked out

-- enabled in burst, at a speed, with cycles of so many clocks, a prescaler and a block of this length
abbrev pub in_burst : ℕ → ℕ → ℕ → ℕ → Core
in_burst speed cycle prescaler n =
    with_enabled true
    (with_block (with_length n power_on.block)
    (with_a (with_cycle cycle power_on.a)
    (with_b (with_cycle cycle power_on.b)
    (with_control (with_speed speed (with_prescaler prescaler (with_burst true power_on.control))) power_on))))

-- the clock counts of a core after n clocks, with no memory to speak of
abbrev pub counts_after : ℕ → Core → Clocks
counts_after n c = (clocked flat n (system c (record { memory = []; latches = [] }) no_clocks)).clocks

-- as many clocks as this bus time have none of the processor, and with one more there is one
pub record TightAt (bus : ℕ) (c : Core) : Type 0 where
  pub valid : valid_core c ≡ true
  pub floor : cpu_floor c 0 ≡ bus + 1
  pub fewer : counts_after bus c ≡ record { bus = bus; held = 0; cpu = 0 }
  pub enough : counts_after (bus + 1) c ≡ record { bus = bus; held = 0; cpu = 1 }

-- the same, but continuous
abbrev pub in_continuous : Core → Core
in_continuous c = with_control (with_burst false c.control) c

-- no floor, and so many clocks, more than 65, with none of the processor
pub record NoFloor (bus held : ℕ) (c : Core) : Type 0 where
  pub valid : valid_core c ≡ true
  pub floor : cpu_floor c 0 ≡ 0
  pub many : 65 < bus + held
  pub none : counts_after (bus + held) c ≡ record { bus = bus; held = held; cpu = 0 }

pub record FloorNearest : Type 0 where
  -- factor 8 with cycles of 4 + 4, prescaler 3, and factor 1 with 2 + 2, prescaler 1
  pub slowest : TightAt 64 (in_burst 0 4 3 1)
  pub quickest : TightAt 4 (in_burst 3 2 1 1)
  -- slots no longer than their bus time; continuous ones
  pub not_longer : NoFloor 128 0 (in_burst 0 4 2 2)
  pub continuous : NoFloor 12 84 (in_continuous (in_burst 3 2 1 3))
  -- a slot that runs counts with its own figures: one clock of the largest bus time has elapsed, and the registers' is 4
  pub running : cpu_floor (in_slot 1 64 96 true (in_burst 3 2 1 1)) 0 ≡ 65
  pub rest : counts_after 63 (in_slot 1 64 96 true (in_burst 3 2 1 1)) ≡ record { bus = 63; held = 0; cpu = 0 }
  -- and one that has no wait: no floor, though the processor has clocks of every other slot
  pub no_wait : NoFloor 67 0 (in_slot 1 64 64 true (in_burst 3 2 1 2))
  -- the slots behind it count as well: its wait goes on for 28 clocks, and the registers' bus time is the largest
  pub behind : cpu_floor (in_slot 4 4 32 true (in_burst 0 4 3 2)) 0 ≡ 65
  pub next : counts_after 92 (in_slot 4 4 32 true (in_burst 0 4 3 2)) ≡ record { bus = 64; held = 0; cpu = 28 }
  -- and where they have no wait there is no floor, though this one has
  pub valid : valid_core (in_slot 4 4 32 true (in_burst 3 2 0 20)) ≡ true
  pub no_wait_behind : cpu_floor (in_slot 4 4 32 true (in_burst 3 2 0 20)) 0 ≡ 0
  pub next_ones : counts_after 94 (in_slot 4 4 32 true (in_burst 3 2 0 20)) ≡ record { bus = 66; held = 0; cpu = 28 }

-- ---- a list, worked out

-- a memory of which no byte is kept, and latches of the right length
abbrev pub blank : Store (Unit {0})
blank = record { load = λ m address. 0; store = λ m address byte. m; refusal = λ m. 0; refusal_kept = λ m address byte. refl }

abbrev pub nothing_outside : Outside (Unit {0}) (Unit {0})
nothing_outside = record { change = λ x m. m }

abbrev pub zero_latches : List ℕ
zero_latches = replicate 65536 0

-- in Zilog mode a block of one byte in burst with prescaler 1: 8 clocks on the bus, 24 for the processor
abbrev pub one_byte : List (Entry blank (Unit {0}))
one_byte = port_write 0x0B 0xC1 ∷ port_write 0x0B 0x50 ∷ port_write 0x0B 0x20 ∷ port_write 0x0B 0x01 ∷ port_write 0x0B 0x87 ∷ []

-- what is noted of eleven clocks: three of the processor behind the byte's eight
abbrev pub three_of_cpu : List Event
three_of_cpu = still_clock cpu_clock ∷ still_clock cpu_clock ∷ still_clock cpu_clock ∷ []

abbrev pub eight_on_bus : List Event
eight_on_bus = moving_clock 0 0 0 none ∷ replicate 7 (still_clock bus_clock)

-- empty latches are of a wrong length
module _ (wrong : length {A = ℕ} [] ≡ 65536 → ⊥) where
  -- three grants, and between them every kind of entry that may stand there
  abbrev pub eleven_clocks : List (Entry blank (Unit {0}))
  eleven_clocks =
      clock_grant 3
      ∷ port_write 0x0B 0x83
      ∷ port_read 0x0B
      ∷ speed_call 4
      ∷ other_grant 1 (record { memory = tt; latches = [] }) (λ e. wrong)
      ∷ outside_change tt
      ∷ clock_grant 5
      ∷ clock_grant 3
      ∷ []

  abbrev end_of_one_byte : System (Unit {0})
  end_of_one_byte = end_of blank nothing_outside tt zero_latches one_byte

  abbrev answers_to_eleven : List Answered
  answers_to_eleven = answers_behind blank nothing_outside tt zero_latches one_byte eleven_clocks

  pub record FloorWorked : Type 0 where
    -- the claim is about this list
    pub shared : AllShared end_of_one_byte.world.core
    pub undisturbed : Undisturbed eleven_clocks answers_to_eleven
    pub numbers : numbers_of answers_to_eleven ≡ 0 ∷ 3 ∷ 3 ∷ 7 ∷ 5 ∷ 0 ∷ 0 ∷ 0 ∷ []
    -- its floor is 9, and of eight clocks in a row, be it not the latest, there may be none of the processor
    pub floor : floor_at end_of_one_byte ≡ 9
    pub noted :
        (history blank nothing_outside (one_byte ++ eleven_clocks) (past_at_power_on tt zero_latches)).past.events
        ≡ (three_of_cpu ++ eight_on_bus) ++ (history blank nothing_outside one_byte (past_at_power_on tt zero_latches)).past.events
    pub eight : CpuNoted 8 (three_of_cpu ++ eight_on_bus) → ⊥
    -- an accepted access, or speed call, disturbs
    pub write : (port byte : ℕ) → Undisturbed {C = Unit {0}} {σ = blank} (port_write port byte ∷ []) (accepted 0 ∷ []) → ⊥
    pub read : (port byte : ℕ) → Undisturbed {C = Unit {0}} {σ = blank} (port_read port ∷ []) (accepted byte ∷ []) → ⊥
    pub speed : (code : ℕ) → Undisturbed {C = Unit {0}} {σ = blank} (speed_call code ∷ []) (accepted 0 ∷ []) → ⊥
