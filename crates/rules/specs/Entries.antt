-- Lists of calls, and their run: the calls' own definitions, one after the other.
-- Assumes nothing.
use Rattle.std.specs.Prelude.{ℕ, ◌≡◌, List, [], ◌∷◌, length, set}
use Rattle.rules.specs.Steering.{Steering, bits}
use Rattle.rules.specs.PowerOn.{power_on, no_clocks}
use Rattle.rules.specs.Clock.{Clock, clock_of}
use Rattle.rules.specs.Buffers.{Store, Buffers}
use Rattle.rules.specs.World.{SystemOf, System, system}
use Rattle.rules.specs.Calls.{Answered, AnswerOf, Answer, accepted, write_over, read_over, set_speed_over, grant_over}
use Rattle.rules.specs.declared.Core.{Core}

-- the changes of a memory from outside: each kind of change, and what it makes of the memory
pub record Outside (M C : Type 0) : Type 0 where
  pub change : C → M → M

-- a byte that is put at an address from outside
pub record Poke : Type 0 where
  pub address : ℕ
  pub byte : ℕ

-- the flat memory with bytes put anywhere; its length stays
unfoldable pub poked : List Poke → List ℕ → List ℕ
poked [] m = m
poked (p ∷ ps) m = poked ps (set m p.address p.byte)

-- an outside change keeps the length of the flat memory
abbrev pub PokesKeepLength : Type 0
PokesKeepLength = (ps : List Poke) (m : List ℕ) → length (poked ps m) ≡ length m

abbrev pub flat_outside : Outside (List ℕ) (List Poke)
flat_outside = record { change = poked }

-- an entry of a list: a port write (port, byte), a port read (port), a speed call (code), a grant of the list's own buffers
-- (clocks), a grant that lends others in their place (clocks, the buffers), a memory that is refused or latches of a wrong
-- length, or an outside change of memory
pub data Entry {M : Type 0} (σ : Store M) (C : Type 0) : Type 0 where
  port_write : ℕ → ℕ → Entry σ C
  port_read : ℕ → Entry σ C
  speed_call : ℕ → Entry σ C
  clock_grant : ℕ → Entry σ C
  other_grant : ℕ → (b : Buffers M) → (σ.refusal b.memory ≡ 0 → length b.latches ≡ 65536 → ⊥) → Entry σ C
  outside_change : C → Entry σ C

-- the bytes that a list writes to ports
unfoldable pub bytes_written : {M C : Type 0} {σ : Store M} → List (Entry σ C) → List ℕ
bytes_written [] = []
bytes_written (port_write port byte ∷ es) = byte ∷ bytes_written es
bytes_written (port_read port ∷ es) = bytes_written es
bytes_written (speed_call code ∷ es) = bytes_written es
bytes_written (clock_grant n ∷ es) = bytes_written es
bytes_written (other_grant n b wrong ∷ es) = bytes_written es
bytes_written (outside_change x ∷ es) = bytes_written es

-- the answers to a list's entries, in order, and the system after them
pub record RunOf (D M : Type 0) : Type 0 where
  pub answers : List Answered
  pub system : SystemOf D M

abbrev pub Run : Type 0 → Type 0
Run M = RunOf Core M

-- the same device beside other buffers
abbrev pub beside_buffers : {D M : Type 0} → Buffers M → SystemOf D M → SystemOf D M
beside_buffers b s = system s.world.core b s.clocks

-- the memory changed from outside; the latches stay
abbrev pub changed_outside : {D M C : Type 0} → Outside M C → C → SystemOf D M → SystemOf D M
changed_outside ω x s =
    beside_buffers (record { memory = ω.change x s.world.buffers.memory; latches = s.world.buffers.latches }) s

-- by what the calls go by, and a clock κ of the core
module _ {D M : Type 0} (δ : Steering D) (κ : Core → Clock) (σ : Store M) where
  -- a grant of other buffers: the list keeps its own
  abbrev pub grant_other_over : SystemOf D M → ℕ → Buffers M → AnswerOf D M
  grant_other_over s n b =
      let a : AnswerOf D M = grant_over δ κ σ (beside_buffers b s) n in
      record { answered = a.answered; system = beside_buffers s.world.buffers a.system }

module _ {D M C : Type 0} (δ : Steering D) (κ : Core → Clock) (σ : Store M) (ω : Outside M C) where
  -- one entry, by the calls' own definitions; an outside change is answered with 0
  abbrev pub enter_over : Entry σ C → SystemOf D M → AnswerOf D M
  enter_over (port_write port byte) s = write_over δ s port byte
  enter_over (port_read port) s = read_over δ s port
  enter_over (speed_call code) s = set_speed_over δ s code
  enter_over (clock_grant n) s = grant_over δ κ σ s n
  enter_over (other_grant n b wrong) s = grant_other_over δ κ σ s n b
  enter_over (outside_change x) s = record { answered = accepted 0; system = changed_outside ω x s }

  -- a list of entries
  unfoldable pub run_over : List (Entry σ C) → SystemOf D M → RunOf D M
  run_over [] s = record { answers = []; system = s }
  run_over (e ∷ es) s =
      record {
        answers = (enter_over e s).answered ∷ (run_over es (enter_over e s).system).answers;
        system = (run_over es (enter_over e s).system).system;
      }

-- with the number in the core, by a clock κ
module _ {M C : Type 0} (κ : Core → Clock) (σ : Store M) (ω : Outside M C) where
  abbrev pub enter_by : Entry σ C → System M → Answer M
  enter_by e s = enter_over bits κ σ ω e s

  abbrev pub run_by : List (Entry σ C) → System M → Run M
  run_by es s = run_over bits κ σ ω es s

-- and by the rules' clock
module _ {M C : Type 0} (σ : Store M) (ω : Outside M C) where
  abbrev pub enter : Entry σ C → System M → Answer M
  enter e s = enter_by clock_of σ ω e s

  abbrev pub run : List (Entry σ C) → System M → Run M
  run es s = run_by clock_of σ ω es s

-- power-on with a memory and latches
abbrev pub system_at_power_on : {M : Type 0} → M → List ℕ → System M
system_at_power_on m l = system power_on (record { memory = m; latches = l }) no_clocks
