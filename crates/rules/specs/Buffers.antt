-- The two borrowed buffers (document 01: lent), memory and I/O latches, and a byte that moves between two places in them.
-- The memory is a parameter: whatever can load and store a byte at an address and say when a grant must refuse it.
-- Assumes nothing.
use Rattle.std.specs.Prelude.{ℕ, ◌+◌, ◌≡◌, not, List, [], ◌∷◌, eqb, length, get_or, set}
use Rattle.std.proofs.Common.{ap, length-set}
use Rattle.rules.specs.Choice.{pick, test, first_hit}
use Rattle.rules.specs.declared.Port.{Port}
use Rattle.rules.specs.declared.Place.{Place}
use Rattle.rules.specs.declared.Core.{Core}

-- the list with these bytes from this place on; the rest, and the length, as they were
unfoldable pub placed : ℕ → List ℕ → List ℕ → List ℕ
placed at [] l = l
placed at (x ∷ xs) l = placed (at + 1) xs (set l at x)

-- a kind of memory: the byte at an address, the memory with a byte stored at one, and the number with which a grant refuses
-- the memory, 0 where it does not; it comes with the law that storing a byte leaves this number
pub record Store (M : Type 0) : Type 0 where
  pub load : M → ℕ → ℕ
  pub store : M → ℕ → ℕ → M
  pub refusal : M → ℕ
  pub refusal_kept : (m : M) (address byte : ℕ) → refusal (store m address byte) ≡ refusal m

-- a grant refuses a flat memory of this length with 4 where it is not 65,536
abbrev pub length_refusal : ℕ → ℕ
length_refusal n = first_hit (test 4 (not (eqb n 65536)) ∷ [])

-- the flat memory is its list of bytes
abbrev pub flat : Store (List ℕ)
flat =
    record {
      load = λ m address. get_or m address 0;
      store = λ m address byte. set m address byte;
      refusal = λ m. length_refusal (length m);
      refusal_kept = λ m address byte. ap length_refusal (length-set m address byte);
    }

pub record Buffers (M : Type 0) : Type 0 where
  pub memory : M
  pub latches : List ℕ

-- where a port's next byte lies
abbrev pub place_of : Port → Place
place_of p = record { address = p.pointer; io = p.io }

-- the port that is read
unfoldable pub source : Core → Place
source c = pick c.control.forward (place_of c.a) (place_of c.b)

-- the port that is written
unfoldable pub destination : Core → Place
destination c = pick c.control.forward (place_of c.b) (place_of c.a)

module _ {M : Type 0} (σ : Store M) where
  -- an I/O read gives the latch at the address; reading changes nothing
  unfoldable pub byte_at : Place → Buffers M → ℕ
  byte_at p b = pick p.io (get_or b.latches p.address 0) (σ.load b.memory p.address)

  -- an I/O write sets the latch and does nothing else, also at the DMA's own port (ours)
  unfoldable pub put : Place → ℕ → Buffers M → Buffers M
  put p byte b =
      pick p.io
      (record { memory = b.memory; latches = set b.latches p.address byte })
      (record { memory = σ.store b.memory p.address byte; latches = b.latches })

  -- one byte moves
  abbrev pub transfer : Place → Place → Buffers M → Buffers M
  transfer from to b = put to (byte_at from b) b
