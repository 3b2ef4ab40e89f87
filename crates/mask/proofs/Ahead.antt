-- A table's rule is a test of each entry, computed. With such a table the search by bits is the rules' search: at the seven
-- positions that a register has by a test of every mask and position, computed; at 7, with bit 7 in the mask, because it ends
-- there; at any other because it goes on at register 0 with six places left, by a test of every mask.
-- Assumes nothing.
use Prim.Native.Nat.{ℕ, ◌*◌, ◌/◌, ◌%◌, ◌^◌, ◌<◌, ◌≤◌}
use native.Mathlib.Omega.{arith}
use mathlib.Core.Path.{◌≡◌, refl, sym, ◌∙◌, ap}
use mathlib.Core.Bool.{Bool, true, false}
use lib.Dec.{eqb}
use lib.Bits.{bit_and, bit_or}
use lib.Count.{count_trailing_zeros}
use borrow.Author.Tests.{le-ltb, eqb-true, eqb-false, eq-eqb, ne_eqb}
use Rattle.rules.specs.Choice.{pick, every}
use Rattle.rules.specs.Bytes.{bit}
use Rattle.rules.specs.Readback.{after, seek, chosen}
use Rattle.rules.proofs.Choice.{either, pick_true, pick_false}
use Rattle.rules.proofs.Bytes.{bit_above}
use Rattle.rules.proofs.Reading.{seek_here, seek_on}
use Rattle.rules.proofs.Trying.{all_below, below_at}
use Rattle.mask.specs.Ahead.{at_or_after}

-- ---- the table

is_entry : ℕ → ℕ → Bool
is_entry table position = eqb (table / 2 ^ (8 * position) % 256) (at_or_after position)

-- each entry is the registers at or after its position
unfoldable pub ruled : ℕ → Bool
unfolding is_entry
ruled table = all_below 7 (is_entry table)

pub entry : (table : ℕ) → ruled table ≡ true → (position : ℕ) → position < 7 → table / 2 ^ (8 * position) % 256 ≡ at_or_after position
unfolding ruled is_entry
entry table e position p = eqb-true _ _ (below_at 7 (is_entry table) e position p)

-- ---- at a position that a register has

-- the lowest of the bits ahead; where there is none, the lowest of all; where there is none at all, the position
unfoldable found : ℕ → ℕ → ℕ → ℕ
found mask position bits =
    pick (eqb (bit_and mask bits) 0) (pick (eqb (mask % 128) 0) position (count_trailing_zeros 8 (mask % 128))) (count_trailing_zeros 8 (bit_and mask bits))

is_chosen : ℕ → ℕ → Bool
is_chosen mask position = eqb (found mask position (at_or_after position)) (chosen mask position)

all_chosen : all_below 256 (λ mask. all_below 7 (is_chosen mask)) ≡ true
unfolding all_below every pick is_chosen found at_or_after count_trailing_zeros seek after
all_chosen = refl

found_chosen : (mask position bits : ℕ) → mask < 256 → position < 7 → bits ≡ at_or_after position → found mask position bits ≡ chosen mask position
unfolding is_chosen
found_chosen mask position bits m p e =
    ap (found mask position) e
    ∙ eqb-true _ _ (below_at 7 (is_chosen mask) (below_at 256 (λ mask. all_below 7 (is_chosen mask)) all_chosen mask m) position p)

pub found_ahead : (mask position bits : ℕ) → mask < 256 → position < 7 → bits ≡ at_or_after position → (bit_and mask bits ≡ 0 → ⊥) → count_trailing_zeros 8 (bit_and mask bits) ≡ chosen mask position
unfolding found
found_ahead mask position bits m p e some = sym (pick_false _ _ _ (ne_eqb _ _ some)) ∙ found_chosen mask position bits m p e

pub found_behind : (mask position bits : ℕ) → mask < 256 → position < 7 → bits ≡ at_or_after position → bit_and mask bits ≡ 0 → (mask % 128 ≡ 0 → ⊥) → count_trailing_zeros 8 (mask % 128) ≡ chosen mask position
unfolding found
found_behind mask position bits m p e none some =
    sym (pick_false _ _ _ (ne_eqb _ _ some)) ∙ sym (pick_true _ _ _ (eq-eqb _ _ none)) ∙ found_chosen mask position bits m p e

pub found_nowhere : (mask position bits : ℕ) → mask < 256 → position < 7 → bits ≡ at_or_after position → bit_and mask bits ≡ 0 → mask % 128 ≡ 0 → position ≡ chosen mask position
unfolding found
found_nowhere mask position bits m p e none empty =
    sym (pick_true _ _ _ (eq-eqb _ _ empty)) ∙ sym (pick_true _ _ _ (eq-eqb _ _ none)) ∙ found_chosen mask position bits m p e

-- ---- at a position that no register has

-- of these only 7 can be in a mask
pub found_at_7 : (mask position : ℕ) → mask < 256 → 127 < mask → position ≡ 7 → 7 ≡ chosen mask position
found_at_7 mask position m h is =
    sym is ∙ sym (seek_here 7 mask position (ap (λ (k : ℕ). bit k mask) is ∙ eq-eqb (mask / 128 % 2) 1 (omega (arith, m, h))))

unset : (mask position : ℕ) → mask < 256 → 7 ≤ position → (position ≡ 7 → mask ≤ 127) → bit position mask ≡ false
unset mask position m p h =
    either (eqb position 7)
    (λ e.
    let is : position ≡ 7 = eqb-true position 7 e in
    let low : mask ≤ 127 = h is in
    ap (λ (k : ℕ). bit k mask) is ∙ ne_eqb (mask / 128 % 2) 1 (λ one. omega (arith, one, low)))
    (λ e. let other = eqb-false position 7 e in bit_above position mask (omega (arith, p, other)) m)

is_sought : ℕ → Bool
is_sought mask = eqb (count_trailing_zeros 8 (bit_or (mask % 128) 64)) (seek 6 mask 0)

all_sought : all_below 256 is_sought ≡ true
unfolding all_below every pick is_sought count_trailing_zeros seek after
all_sought = refl

found_sought : (mask : ℕ) → mask < 256 → count_trailing_zeros 8 (bit_or (mask % 128) 64) ≡ seek 6 mask 0
unfolding is_sought
found_sought mask m = eqb-true _ _ (below_at 256 is_sought all_sought mask m)

after_last : (position : ℕ) → 7 ≤ position → after position ≡ 0
unfolding after
after_last position p = pick_false _ _ _ (le-ltb position 6 (omega (arith, p)))

pub found_beyond : (mask position : ℕ) → mask < 256 → 7 ≤ position → (position ≡ 7 → mask ≤ 127) → count_trailing_zeros 8 (bit_or (mask % 128) 64) ≡ chosen mask position
found_beyond mask position m p h =
    found_sought mask m
    ∙ sym (seek_on 7 mask position (λ z. omega (arith, z)) (unset mask position m p h) ∙ ap (seek 6 mask) (after_last position p))
