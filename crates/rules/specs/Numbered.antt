-- The number of the pending parameters stands for a sequence: a device that keeps sequences (Sequences) and the one that has
-- their numbers answer every list of calls alike.
-- Assumes nothing.
use Rattle.std.specs.Prelude.{ℕ, ◌≤◌, ◌≡◌, true, List}
use Rattle.rules.specs.PowerOn.{power_on}
use Rattle.rules.specs.Pending.{valid_pending}
use Rattle.rules.specs.Validity.{total, valid}
use Rattle.rules.specs.Steering.{valid_over}
use Rattle.rules.specs.Clock.{clock_of}
use Rattle.rules.specs.Buffers.{Store}
use Rattle.rules.specs.World.{SystemOf, System, system}
use Rattle.rules.specs.Entries.{Outside, Entry, RunOf, Run, run_over, run}
use Rattle.rules.specs.Exactly.{Exactly}
use Rattle.rules.specs.Sequences.{Sequence, valid_sequence, parameter_of, bit_of, number_of, SequenceCore, sequences, sequence_power_on, numbered}
use Rattle.rules.specs.declared.Core.{Core}

-- the system with the number in place of the sequence, all else the same
abbrev pub numbered_system : {M : Type 0} → SystemOf SequenceCore M → System M
numbered_system s = system (numbered s.world.core) s.world.buffers s.clocks

-- two runs of a list: the same answers, and the same buffers, clock counts and core but for the number in place of a valid
-- sequence; the one is a valid device exactly where the other is
pub record SameRun {M : Type 0} (old : RunOf SequenceCore M) (new : Run M) : Type 0 where
  pub answers : new.answers ≡ old.answers
  pub system : new.system ≡ numbered_system old.system
  pub sequence : valid_sequence old.system.world.core.pending ≡ true
  pub validity :
      valid new.system.world.core (total new.system.clocks)
      ≡ valid_over sequences old.system.world.core (total old.system.clocks)

-- a valid sequence with this number
pub record StandsFor (p : ℕ) : Type 0 where
  pub sequence : Sequence
  pub valid : valid_sequence sequence ≡ true
  pub number : number_of sequence ≡ p

-- a valid device that keeps a sequence and, with the number in its place, is this core
pub record FromSequence (c : Core) (sum : ℕ) : Type 0 where
  pub device : SequenceCore
  pub valid : valid_over sequences device sum ≡ true
  pub same : numbered device ≡ c

pub record SequencesNumbered : Type 1 where
  -- code k is bit k - 1, and that is its parameter
  pub codes : (code : ℕ) → code ≤ 10 → bit_of code ≡ parameter_of code
  -- a number is valid exactly where it stands for a valid sequence
  pub stands : (p : ℕ) → Exactly (valid_pending p ≡ true) (StandsFor p)
  -- no two valid sequences have one number
  pub once : (p q : Sequence) → valid_sequence p ≡ true → valid_sequence q ≡ true → number_of p ≡ number_of q → p ≡ q
  -- a valid device that keeps a sequence is valid with the number
  pub also_valid : (d : SequenceCore) (sum : ℕ) → valid_over sequences d sum ≡ true → valid (numbered d) sum ≡ true
  -- and each device that is valid with its number comes from one
  pub from : (c : Core) (sum : ℕ) → valid c sum ≡ true → FromSequence c sum
  -- from a device with a valid sequence, valid or not in all else, every list runs alike
  pub runs :
      {M C : Type 0} (σ : Store M) (ω : Outside M C) (es : List (Entry σ C)) (s : SystemOf SequenceCore M)
      → valid_sequence s.world.core.pending ≡ true
      → SameRun (run_over sequences clock_of σ ω es s) (run σ ω es (numbered_system s))
  -- such a device is the one at power-on
  pub empty : valid_sequence sequence_power_on.pending ≡ true
  pub power_on : numbered sequence_power_on ≡ power_on
