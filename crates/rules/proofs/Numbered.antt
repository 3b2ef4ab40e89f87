-- A device that keeps a sequence and the one that has its number: what is next is the same, after each byte the number is that
-- of the sequence, and all else stands aside; so each call answers alike, and by the number of entries each list.
-- Assumes nothing.
use Prim.Native.Nat.{ℕ, ◌≤◌}
use native.Mathlib.Omega.{arith}
use mathlib.Core.Path.{◌≡◌, refl, sym, ◌∙◌, ap}
use mathlib.Core.Bool.{Bool, true}
use mathlib.Core.List.{List, [], ◌∷◌}
use lib.Dec.{eqb}
use borrow.Author.Tests.{eqb-true}
use Rattle.rules.specs.Parts.{with_pending}
use Rattle.rules.specs.Pending.{next, pending_after, valid_pending}
use Rattle.rules.specs.Speed.{at_speed}
use Rattle.rules.specs.Validity.{total, valid_core_if, valid_core, valid_if, valid}
use Rattle.rules.specs.Warnings.{warning_as}
use Rattle.rules.specs.Steering.{valid_over}
use Rattle.rules.specs.Registers.{carried_out_as, in_mode, effect_over, written_over, written}
use Rattle.rules.specs.Readback.{Byte}
use Rattle.rules.specs.Clock.{clock_of}
use Rattle.rules.specs.Buffers.{Store, Buffers}
use Rattle.rules.specs.World.{SystemOf, system}
use Rattle.rules.specs.Refusals.{access_refusal_if, access_refusal_over, access_refusal, speed_refusal_if, grant_refusal_if}
use Rattle.rules.specs.Calls.{ReplyOf, Reply, AnswerOf, Answer, unless_refused, beside, write_reply_over, write_reply, read_reply_over, read_reply, speed_reply_over, speed_reply, grant_number_over, grant_number, grant_over, grant}
use Rattle.rules.specs.Entries.{Outside, Entry, port_write, port_read, speed_call, clock_grant, other_grant, outside_change, beside_buffers, enter_over, enter, run_over, run}
use Rattle.rules.specs.Sequences.{empty, follows, valid_sequence, parameter_of, bit_of, number_of, SequenceCore, sequences, numbered}
use Rattle.rules.specs.Numbered.{numbered_system, SameRun, FromSequence, SequencesNumbered}
use Rattle.rules.specs.Opened.{opened}
use Rattle.rules.specs.declared.Clocks.{Clocks}
use Rattle.rules.specs.declared.Core.{Core}
use Rattle.rules.proofs.Choice.{both_picked, all_true}
use Rattle.rules.proofs.Trying.{all_below, below_at}
use Rattle.rules.proofs.Aside.{valid_aside, access_aside, carried_aside, read_aside, clocked_aside}
use Rattle.rules.proofs.Sequences.{number_valid, next_same, after_stands, number_once, sequence_of, sequence_stands}

abbrev Valid : SequenceCore → Type 0
Valid d = valid_sequence d.pending ≡ true

-- ---- validity

-- the number is valid as the sequence is
valid_same : (d : SequenceCore) → Valid d → valid_pending (number_of d.pending) ≡ valid_sequence d.pending
valid_same d e = number_valid _ e ∙ sym e

core_alike : (d : SequenceCore) → Valid d → valid_core (numbered d) ≡ sequences.valid d
core_alike d e = ap (λ (t : Bool). valid_core_if t (numbered d)) (valid_same d e) ∙ valid_aside _ _ d.others

valid_alike : (d : SequenceCore) (sum : ℕ) → Valid d → valid (numbered d) sum ≡ valid_over sequences d sum
valid_alike d sum e = ap (λ (t : Bool). valid_if t sum) (core_alike d e)

-- a valid core has valid parameters
if_valid : (t : Bool) (c : Core) (sum : ℕ) → valid_if (valid_core_if t c) sum ≡ true → t ≡ true
unfolding valid_if valid_core_if
if_valid t c sum e = (all_true _ (all_true _ e).0).1.1.1.1.1.0

also_valid_lem : (d : SequenceCore) (sum : ℕ) → valid_over sequences d sum ≡ true → valid (numbered d) sum ≡ true
also_valid_lem d sum e = valid_alike d sum (if_valid _ _ _ e) ∙ e

from_sequence : (c : Core) (sum : ℕ) → valid c sum ≡ true → FromSequence c sum
from_sequence c sum e =
    let v : valid_pending c.pending ≡ true = if_valid _ c sum e in
    let s = sequence_stands c.pending v in
    record {
      device = record { pending = sequence_of c.pending; others = c };
      valid = ap (λ (t : Bool). valid_if (valid_core_if t c) sum) (s.0 ∙ sym v) ∙ e;
      same = ap (λ (n : ℕ). with_pending n c) s.1;
    }

-- ---- a port write, a port read, and a speed call

-- the same answer, but for the number in place of a valid sequence
record SameAnswer {M : Type 0} (a : AnswerOf SequenceCore M) (b : Answer M) : Type 0 where
  answered : b.answered ≡ a.answered
  system : b.system ≡ numbered_system a.system
  sequence : Valid a.system.world.core

access_same : (d : SequenceCore) (sum port : ℕ) → Valid d → access_refusal (numbered d) sum port ≡ access_refusal_over sequences d sum port
access_same d sum port e =
    ap (λ (t : Bool). access_refusal_if t (numbered d) sum port) (core_alike d e) ∙ access_aside _ _ d.others sum port

written_same : (port byte : ℕ) (d : SequenceCore) → Valid d → written port byte (numbered d) ≡ numbered (written_over sequences port byte d)
unfolding effect_over
written_same port byte d e =
    let n = number_of d.pending in
    ap (λ (c : Core). with_pending (pending_after byte n) c) (carried_aside n (next n) byte (in_mode port d.others))
    ∙ ap (λ (x : ℕ). with_pending (pending_after byte n) (carried_out_as x byte (in_mode port d.others))) (next_same _ e)
    ∙ ap (λ (m : ℕ). with_pending m (carried_out_as (parameter_of d.pending.first) byte (in_mode port d.others))) (sym (after_stands byte _ e).1)

written_valid : (port byte : ℕ) (d : SequenceCore) → Valid d → Valid (written_over sequences port byte d)
unfolding effect_over
written_valid port byte d e = (after_stands byte _ e).0

module _ {M : Type 0} where
  -- replies beside buffers
  abbrev SameReply : Buffers M → ReplyOf SequenceCore → Reply → Type 0
  SameReply b r s = SameAnswer (beside b r) (beside b s)

  unless_same : (b : Buffers M) (number byte warning : ℕ) (x d : SequenceCore) (k : Clocks) → Valid x → Valid d → SameReply b (unless_refused number byte warning x d k) (unless_refused number byte warning (numbered x) (numbered d) k)
  unfolding unless_refused
  unless_same b number byte warning x d k v e =
      both_picked (SameReply b) _ _ _ _ _
      (λ h. record { answered = refl; system = refl; sequence = v })
      (λ h. record { answered = refl; system = refl; sequence = e })

  -- by equal numbers, bytes, warnings and cores
  reply_same :
      (b : Buffers M) (number other byte another warning third : ℕ) (x d : SequenceCore) (c : Core) (k : Clocks)
      → other ≡ number
      → another ≡ byte
      → third ≡ warning
      → c ≡ numbered x
      → Valid x
      → Valid d
      → SameReply b (unless_refused number byte warning x d k) (unless_refused other another third c (numbered d) k)
  reply_same b number other byte another warning third x d c k f g w h v e =
      rw f (rw g (rw w (rw h (unless_same b number byte warning x d k v e))))

  write_same : (b : Buffers M) (d : SequenceCore) (k : Clocks) (port byte : ℕ) → Valid d → SameReply b (write_reply_over sequences d k port byte) (write_reply (numbered d) k port byte)
  unfolding write_reply_over
  write_same b d k port byte e =
      reply_same b _ _ _ _ _ _ _ _ _ k (access_same d (total k) port e) refl (ap (λ (n : ℕ). warning_as n byte) (next_same _ e))
      (written_same port byte d e) (written_valid port byte d e) e

  read_same : (b : Buffers M) (d : SequenceCore) (k : Clocks) (port : ℕ) → Valid d → SameReply b (read_reply_over sequences d k port) (read_reply (numbered d) k port)
  unfolding read_reply_over
  read_same b d k port e =
      let r = read_aside (number_of d.pending) d.others in
      reply_same b _ _ _ _ _ _ _ _ _ k (access_same d (total k) port e) (ap (λ (b : Byte). b.byte) r) refl (ap (λ (b : Byte). b.core) r) e e

  speed_same : (b : Buffers M) (d : SequenceCore) (k : Clocks) (code : ℕ) → Valid d → SameReply b (speed_reply_over sequences d k code) (speed_reply (numbered d) k code)
  unfolding speed_reply_over
  speed_same b d k code e =
      reply_same b _ _ _ _ _ _ _ _ (at_speed code (numbered d)) k
      (ap (λ (t : Bool). speed_refusal_if t (total k) code) (core_alike d e)) refl refl refl e e

-- ---- a grant

module _ {M : Type 0} (σ : Store M) where
  number_same : (s : SystemOf SequenceCore M) (n : ℕ) → Valid s.world.core → grant_number σ (numbered_system s) n ≡ grant_number_over sequences σ s n
  number_same s n e =
      ap (λ (t : Bool). grant_refusal_if t σ (total s.clocks) s.world.buffers n) (core_alike s.world.core e)

  grant_same : (s : SystemOf SequenceCore M) (n : ℕ) → Valid s.world.core → SameAnswer (grant_over sequences clock_of σ s n) (grant σ (numbered_system s) n)
  unfolding grant_over
  grant_same s n e =
      rw (number_same s n e)
      (both_picked SameAnswer _ _ _ _ _
      (λ z.
      record {
        answered = refl;
        system = clocked_aside (number_of s.world.core.pending) σ n (system s.world.core.others s.world.buffers s.clocks);
        sequence = e;
      })
      (λ z. record { answered = refl; system = refl; sequence = e }))

-- ---- lists of calls

module _ {M C : Type 0} (σ : Store M) (ω : Outside M C) where
  entry_same : (x : Entry σ C) (s : SystemOf SequenceCore M) → Valid s.world.core → SameAnswer (enter_over sequences clock_of σ ω x s) (enter σ ω x (numbered_system s))
  entry_same (port_write port byte) s e =
      write_same s.world.buffers s.world.core s.clocks port byte e
  entry_same (port_read port) s e =
      read_same s.world.buffers s.world.core s.clocks port e
  entry_same (speed_call code) s e =
      speed_same s.world.buffers s.world.core s.clocks code e
  entry_same (clock_grant n) s e = grant_same σ s n e
  entry_same (other_grant n b wrong) s e =
      let h = grant_same σ (beside_buffers b s) n e in
      record {
        answered = h.answered;
        system = ap (beside_buffers s.world.buffers) h.system;
        sequence = h.sequence;
      }
  entry_same (outside_change x) s e = record { answered = refl; system = refl; sequence = e }

  runs_same : (es : List (Entry σ C)) (s : SystemOf SequenceCore M) → Valid s.world.core → SameRun (run_over sequences clock_of σ ω es s) (run σ ω es (numbered_system s))
  unfolding run_over
  runs_same [] s e = record { answers = refl; system = refl; sequence = e; validity = valid_alike s.world.core (total s.clocks) e }
  runs_same (x ∷ es) s e =
      let h = entry_same x s e in
      let r = runs_same es _ h.sequence in
      record {
        answers = (λ i. h.answered i ∷ (run σ ω es (h.system i)).answers) ∙ ap (λ l. (enter_over sequences clock_of σ ω x s).answered ∷ l) r.answers;
        system = (λ i. (run σ ω es (h.system i)).system) ∙ r.system;
        sequence = r.sequence;
        validity = (λ i. valid (run σ ω es (h.system i)).system.world.core (total (run σ ω es (h.system i)).system.clocks)) ∙ r.validity;
      }

empty_valid : valid_sequence empty ≡ true
unfolding opened valid_sequence follows
empty_valid = refl

codes_are_bits : (code : ℕ) → code ≤ 10 → bit_of code ≡ parameter_of code
unfolding opened all_below parameter_of bit_of
codes_are_bits code h =
    eqb-true _ _ (below_at 11 (λ code. eqb (bit_of code) (parameter_of code)) refl code (omega (arith, h)))

pub sequences_numbered : SequencesNumbered
unfolding opened bit_of
sequences_numbered =
    record {
      codes = codes_are_bits;
      stands =
          λ p.
          record {
            to = λ e. let s = sequence_stands p e in record { sequence = sequence_of p; valid = s.0; number = s.1 };
            from = λ s. rw (sym s.number) (number_valid s.sequence s.valid);
          };
      once = number_once;
      also_valid = also_valid_lem;
      from = from_sequence;
      runs = runs_same;
      empty = empty_valid;
      power_on = refl;
    }
