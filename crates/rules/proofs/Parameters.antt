-- What is pending after a byte is valid where what was pending is: a valid number is at most 512, and all of these are tried.
-- What a register's byte asks for is a part of the byte, moved to its bits.
-- Assumes nothing.
use Prim.Native.Nat.{ℕ, zero, suc, ◌+◌, ◌*◌, ◌/◌, ◌%◌, ◌<◌}
use native.Mathlib.Nat.{add-zero}
use native.Mathlib.Omega.{arith}
use mathlib.Core.Path.{◌≡◌, refl, ◌∙◌, ap}
use mathlib.Core.Bool.{Bool, true}
use lib.Dec.{eqb}
use borrow.Author.Tests.{ltb-true, eqb-true}
use Rattle.rules.specs.Choice.{means}
use Rattle.rules.specs.Bytes.{bit}
use Rattle.rules.specs.Pending.{a_low, a_high, length_low, length_high, a_timing, b_timing, prescaler, b_low, b_high, read_mask, nothing, next, rest, ask, wr0_asks, timing_asks, wr4_asks, asked, used_up, pending_after_as, pending_after, valid_pending}
use Rattle.rules.specs.Opened.{opened}
use Rattle.rules.proofs.Choice.{pick_both, below, ◌⨾◌, table, all_true, any_cases, any_none, means_so}
use Rattle.rules.proofs.Trying.{all_below, below_at}

abbrev Valid : ℕ → Type 0
Valid p = valid_pending p ≡ true

valid_small : (p : ℕ) → Valid p → p < 513
unfolding valid_pending
valid_small p e =
    any_cases _ _ e (λ h. let z : p < 16 = ltb-true _ _ h in omega (arith, z))
    (λ e. any_cases _ _ e (λ h. let z : p ≡ 16 = eqb-true _ _ h in omega (arith, z))
    (λ e. any_cases _ _ e (λ h. let z : p ≡ 32 = eqb-true _ _ h in omega (arith, z))
    (λ e. any_cases _ _ e (λ h. let z : p ≡ 64 = eqb-true _ _ h in omega (arith, z))
    (λ e. any_cases _ _ e (λ h. let z : p < 512 = ltb-true _ _ (all_true _ h).1.0 in omega (arith, z))
    (λ e. any_cases _ _ e (λ h. let z : p ≡ 512 = eqb-true _ _ h in omega (arith, z)) any_none)))))

-- a test that holds of every valid number up to 512 holds of every valid number
pub each_number : (f : ℕ → Bool) → all_below 513 (λ p. means (valid_pending p) (f p)) ≡ true → (p : ℕ) → Valid p → f p ≡ true
each_number f t p e = means_so _ _ (below_at 513 (λ p. means (valid_pending p) (f p)) t p (valid_small p e)) e

-- ---- the parameters that a register's byte asks for

-- a bit asks for its parameter or for none
ask_bit : (x parameter p : ℕ) → x < 2 → ask (eqb x 1) parameter p ≡ x * parameter + p
unfolding opened
ask_bit zero parameter p h = omega arith
ask_bit (suc zero) parameter p h = omega arith
ask_bit (suc (suc x)) parameter p h = absurd (omega (arith, h))

-- a number of two bits, and of four
two_bits : (x y : ℕ) → y ≡ x / 2 → x % 4 ≡ x % 2 * 1 + y % 2 * 2
two_bits x y e = omega (arith, e)

four_bits : (x y : ℕ) → y ≡ x / 4 → x % 16 ≡ x % 4 + 4 * (y % 4)
four_bits x y e = omega (arith, e)

together : (a b c d x y z : ℕ) → x ≡ y + 4 * z → y ≡ a * 1 + b * 2 → z ≡ c * 1 + d * 2 → a * a_low + (b * a_high + (c * length_low + (d * length_high + 0))) ≡ x
together a b c d x y z e f g = omega (arith, e, f, g)

pub wr0_number : (byte : ℕ) → wr0_asks byte ≡ byte / 8 % 16
wr0_number byte =
    let d = ask_bit (byte / 64 % 2) length_high nothing (omega arith) in
    let c = ask_bit (byte / 32 % 2) length_low (ask (bit 6 byte) length_high nothing) (omega arith) in
    let b = ask_bit (byte / 16 % 2) a_high (ask (bit 5 byte) length_low (ask (bit 6 byte) length_high nothing)) (omega arith) in
    let a = ask_bit (byte / 8 % 2) a_low (ask (bit 4 byte) a_high (ask (bit 5 byte) length_low (ask (bit 6 byte) length_high nothing))) (omega arith) in
    let e = four_bits (byte / 8) (byte / 32) (omega arith) in
    let f = two_bits (byte / 8) (byte / 16) (omega arith) in
    let g = two_bits (byte / 32) (byte / 64) (omega arith) in
    a ∙ ap (λ x. byte / 8 % 2 * a_low + x) (b ∙ ap (λ x. byte / 16 % 2 * a_high + x) (c ∙ ap (λ x. byte / 32 % 2 * length_low + x) d)) ∙ together (byte / 8 % 2) (byte / 16 % 2) (byte / 32 % 2) (byte / 64 % 2) _ _ _ e f g

pair : (a b x : ℕ) → x ≡ a * 1 + b * 2 → a * b_low + (b * b_high + 0) ≡ x * b_low
pair a b x e = omega (arith, e)

pub wr4_number : (byte : ℕ) → wr4_asks byte ≡ byte / 4 % 4 * b_low
wr4_number byte =
    let b = ask_bit (byte / 8 % 2) b_high nothing (omega arith) in
    let a = ask_bit (byte / 4 % 2) b_low (ask (bit 3 byte) b_high nothing) (omega arith) in
    let e = two_bits (byte / 4) (byte / 8) (omega arith) in
    a ∙ ap (λ x. byte / 4 % 2 * b_low + x) b ∙ pair (byte / 4 % 2) (byte / 8 % 2) _ e

-- a number below n, moved to its bits by f, is valid where all of these are
scaled_valid : (n x : ℕ) (f : ℕ → ℕ) → all_below n (λ y. valid_pending (f y)) ≡ true → x < n → Valid (f x)
scaled_valid n x f t h = below_at n (λ y. valid_pending (f y)) t x h

pub wr0_valid : (byte : ℕ) → Valid (wr0_asks byte)
unfolding opened all_below
wr0_valid byte = rw (wr0_number byte) (scaled_valid 16 (byte / 8 % 16) (λ y. y) refl (omega arith))

pub wr4_valid : (byte : ℕ) → Valid (wr4_asks byte)
unfolding opened all_below
wr4_valid byte = rw (wr4_number byte) (scaled_valid 4 (byte / 4 % 4) (λ y. y * b_low) refl (omega arith))

pub nothing_valid : Valid nothing
unfolding opened
nothing_valid = refl

pub timing_valid : (timing : ℕ) → Valid timing → (byte : ℕ) → Valid (timing_asks timing byte)
unfolding ask
timing_valid timing v byte = pick_both Valid _ _ _ (rw (add-zero timing) v) nothing_valid

pub a_timing_valid : Valid a_timing
unfolding opened
a_timing_valid = refl

pub b_timing_valid : Valid b_timing
unfolding opened
b_timing_valid = refl

pub prescaler_valid : Valid prescaler
unfolding opened
prescaler_valid = refl

pub mask_valid : Valid read_mask
unfolding opened
mask_valid = refl

-- ---- the next one, and those after it

-- bit 0 tells odd from even
pub odd : (p : ℕ) → bit 0 p ≡ eqb (p % 2) 1
odd p = ap (λ (x : ℕ). eqb (x % 2) 1) (let z : p / 1 ≡ p = omega arith in z)

pub rest_valid : (p : ℕ) → Valid p → Valid (rest p)
unfolding opened all_below
rest_valid p e = each_number (λ p. valid_pending (rest p)) refl p e

-- ---- what is pending after a byte

used_valid : (byte p : ℕ) → Valid p → Valid (used_up (next p) byte p)
unfolding used_up
used_valid byte p e = pick_both Valid _ _ _ prescaler_valid (rest_valid p e)

asked_valid : (byte p : ℕ) → Valid p → Valid (asked byte p)
unfolding asked
asked_valid byte p e =
    table Valid
    (wr0_valid byte
    ⨾ timing_valid a_timing a_timing_valid byte
    ⨾ timing_valid b_timing b_timing_valid byte
    ⨾ wr4_valid byte
    ⨾ mask_valid
    ⨾ below e)

pub after_valid : (byte p : ℕ) → Valid p → Valid (pending_after byte p)
unfolding pending_after_as
after_valid byte p e = pick_both Valid _ _ _ (used_valid byte p e) (asked_valid byte p e)
