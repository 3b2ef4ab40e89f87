-- Refusals: for each call the ordered list of tests, of which the first that hits gives its number.
-- Assumes nothing.
use Rattle.std.specs.Prelude.{ℕ, ◌+◌, ◌%◌, Bool, not, [], ◌∷◌, ltb, eqb, length}
use Rattle.rules.specs.Choice.{every, test, first_hit}
use Rattle.rules.specs.Speed.{is_speed}
use Rattle.rules.specs.Slots.{bus_held}
use Rattle.rules.specs.Steering.{Steering, bits}
use Rattle.rules.specs.Validity.{valid_if, most64}
use Rattle.rules.specs.Buffers.{Store, Buffers}
use Rattle.rules.specs.declared.Core.{Core}

-- the low byte of the port number is neither 6B nor 0B
abbrev pub wrong_port : ℕ → Bool
wrong_port port = every (not (eqb (port % 256) 0x6B) ∷ not (eqb (port % 256) 0x0B) ∷ [])

-- a port write or a port read, by whether the core is valid; `sum` is the clocks counted so far
unfoldable pub access_refusal_if : Bool → Core → ℕ → ℕ → ℕ
access_refusal_if valid c sum port =
    first_hit (test 1 (not (valid_if valid sum)) ∷ test 2 (wrong_port port) ∷ test 3 (bus_held c) ∷ [])

-- a speed call, whoever has the bus
unfoldable pub speed_refusal_if : Bool → ℕ → ℕ → ℕ
speed_refusal_if valid sum code = first_hit (test 1 (not (valid_if valid sum)) ∷ test 7 (not (is_speed code)) ∷ [])

-- a grant of n clocks, by the number with which the memory is refused, if it is, and the length of the latches
unfoldable pub lent_refusal_if : Bool → ℕ → ℕ → ℕ → ℕ → ℕ
lent_refusal_if valid sum memory latches n =
    first_hit
    (test 1 (not (valid_if valid sum))
    ∷ test memory (not (eqb memory 0))
    ∷ test 5 (not (eqb latches 65536))
    ∷ test 6 (ltb most64 (sum + n))
    ∷ [])

-- the memory has its own number, 4 for the flat one
unfoldable pub grant_refusal_if : {M : Type 0} → Bool → Store M → ℕ → Buffers M → ℕ → ℕ
grant_refusal_if valid σ sum b n = lent_refusal_if valid sum (σ.refusal b.memory) (length b.latches) n

-- by what the calls go by
module _ {D : Type 0} (δ : Steering D) where
  abbrev pub access_refusal_over : D → ℕ → ℕ → ℕ
  access_refusal_over d sum port = access_refusal_if (δ.valid d) (δ.core d) sum port

  abbrev pub speed_refusal_over : D → ℕ → ℕ → ℕ
  speed_refusal_over d sum code = speed_refusal_if (δ.valid d) sum code

  abbrev pub grant_refusal_over : {M : Type 0} → Store M → D → ℕ → Buffers M → ℕ → ℕ
  grant_refusal_over σ d sum b n = grant_refusal_if (δ.valid d) σ sum b n

-- with the number in the core
abbrev pub access_refusal : Core → ℕ → ℕ → ℕ
access_refusal c sum port = access_refusal_over bits c sum port

abbrev pub speed_refusal : Core → ℕ → ℕ → ℕ
speed_refusal c sum code = speed_refusal_over bits c sum code

abbrev pub lent_refusal : Core → ℕ → ℕ → ℕ → ℕ → ℕ
lent_refusal c sum memory latches n = lent_refusal_if (bits.valid c) sum memory latches n

abbrev pub grant_refusal : {M : Type 0} → Store M → Core → ℕ → Buffers M → ℕ → ℕ
grant_refusal σ c sum b n = grant_refusal_over bits σ c sum b n
