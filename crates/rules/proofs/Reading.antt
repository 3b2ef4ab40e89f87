-- Reading back: the search for the next register step by step, and an accepted read keeps a valid core valid.
-- Assumes nothing.
use Prim.Native.Nat.{ℕ, zero, suc, ◌-◌, ◌≤◌, ◌<◌}
use native.Mathlib.Omega.{arith}
use mathlib.Core.Path.{◌≡◌, refl, sym, ◌∙◌, ap}
use mathlib.Core.Bool.{Bool, true, false}
use mathlib.Core.List.{List, [], ◌∷◌}
use lib.Dec.{ltb, eqb}
use borrow.Author.Tests.{ltb-true, eqb-true}
use Rattle.rules.specs.Choice.{pick, any}
use Rattle.rules.specs.Bytes.{bit}
use Rattle.rules.specs.Readback.{status_byte, register_byte, after, seek, Byte, read_byte}
use Rattle.rules.specs.Facts.{Kept}
use Rattle.rules.specs.Exactly.{onward, ChosenRead, ChosenExact, LowFirst}
use Rattle.rules.specs.Opened.{opened}
use Rattle.rules.specs.declared.Status.{Status}
use Rattle.rules.specs.declared.Core.{Core}
use Rattle.rules.proofs.Choice.{clash, pick_cases, below, ◌⨾◌, table, pick_true, pick_false, either, any_cases, any_none, pick_both}
use Rattle.rules.proofs.Trying.{all_below, below_at}
use Rattle.rules.proofs.Steady.{steady_readback, kept_from, kept_steady, kept_slot, kept_progress}

after_small : (k : ℕ) → after k ≤ 6
unfolding after
after_small k = pick_cases (λ n. n ≤ 6) _ _ _ (λ (e : ltb k 6 ≡ true). omega (arith, ltb-true k 6 e)) (λ e. omega arith)

-- the search, one place after the other
pub seek_end : (n mask k : ℕ) → n ≡ 0 → seek n mask k ≡ k
unfolding seek
seek_end zero mask k e = refl
seek_end (suc n) mask k e = absurd (omega arith)

pub seek_here : (n mask k : ℕ) → bit k mask ≡ true → seek n mask k ≡ k
unfolding seek
seek_here zero mask k e = refl
seek_here (suc n) mask k e = pick_true _ _ _ e

pub seek_on : (n mask k : ℕ) → (n ≡ 0 → ⊥) → bit k mask ≡ false → seek n mask k ≡ seek (n - 1) mask (after k)
unfolding seek
seek_on zero mask k h e = absurd (h refl)
seek_on (suc n) mask k h e =
    pick_false _ _ _ e ∙ ap (λ (m : ℕ). seek m mask (after k)) (let z : n ≡ suc n - 1 = omega arith in z)

-- ---- the register chosen

onward_zero : (k : ℕ) → onward 0 k ≡ k
unfolding onward
onward_zero k = refl

onward_suc : (n k : ℕ) → onward (suc n) k ≡ onward n (after k)
unfolding onward
onward_suc n k = refl

seek_suc : (n mask k : ℕ) → bit k mask ≡ false → seek (suc n) mask k ≡ seek n mask (after k)
unfolding seek
seek_suc n mask k e = pick_false _ _ _ e

-- the search finds the first register in the mask among so many, or none of them is in it
data Sought (n mask k : ℕ) : Type 0 where
  found : (j : ℕ) → j < n → seek n mask k ≡ onward j k → bit (onward j k) mask ≡ true → ((i : ℕ) → i < j → bit (onward i k) mask ≡ false) → Sought n mask k
  missing : ((i : ℕ) → i < n → bit (onward i k) mask ≡ false) → Sought n mask k

-- the first of them is not in it, nor any of those after it
first_too : (mask k : ℕ) → bit k mask ≡ false → (j : ℕ) → ((i : ℕ) → i < j → bit (onward i (after k)) mask ≡ false) → (i : ℕ) → i < suc j → bit (onward i k) mask ≡ false
first_too mask k e j f zero h = ap (λ (r : ℕ). bit r mask) (onward_zero k) ∙ e
first_too mask k e j f (suc i) h = ap (λ (r : ℕ). bit r mask) (onward_suc i k) ∙ f i (omega (arith, h))

sought_on : (n mask k : ℕ) → bit k mask ≡ false → Sought n mask (after k) → Sought (suc n) mask k
sought_on n mask k e (found j h s b f) =
    found (suc j) (omega (arith, h)) (seek_suc n mask k e ∙ s ∙ sym (onward_suc j k))
    (ap (λ (r : ℕ). bit r mask) (onward_suc j k) ∙ b)
    (first_too mask k e j f)
sought_on n mask k e (missing f) = missing (first_too mask k e n f)

sought : (n mask k : ℕ) → Sought n mask k
sought zero mask k = missing (λ i h. absurd (omega (arith, h)))
sought (suc n) mask k =
    either (bit k mask)
    (λ e.
    found 0 (omega arith) (seek_here (suc n) mask k e ∙ sym (onward_zero k))
    (ap (λ (r : ℕ). bit r mask) (onward_zero k) ∙ e)
    (λ i h. absurd (omega (arith, h))))
    (λ e. sought_on n mask k e (sought n mask (after k)))

-- a mask with none of its seven bits set is empty
some_bit : ℕ → Bool
some_bit mask =
    any (eqb mask 0 ∷ bit 0 mask ∷ bit 1 mask ∷ bit 2 mask ∷ bit 3 mask ∷ bit 4 mask ∷ bit 5 mask ∷ bit 6 mask ∷ [])

masks_tried : all_below 128 some_bit ≡ true
unfolding opened all_below some_bit
masks_tried = refl

-- where a test does not hold, another of the list does
any_but : (t : Bool) (ts : List Bool) → t ≡ false → any (t ∷ ts) ≡ true → any ts ≡ true
any_but t ts e h = any_cases t ts h (λ d. clash (sym e ∙ d)) (λ d. d)

no_bits : (mask : ℕ) → mask ≤ 127 → bit 0 mask ≡ false → bit 1 mask ≡ false → bit 2 mask ≡ false → bit 3 mask ≡ false → bit 4 mask ≡ false → bit 5 mask ≡ false → bit 6 mask ≡ false → mask ≡ 0
unfolding some_bit
no_bits mask m b0 b1 b2 b3 b4 b5 b6 =
    any_cases _ _ (below_at 128 some_bit masks_tried mask (omega (arith, m))) (λ e. eqb-true mask 0 e)
    (λ h. any_none (any_but _ _ b6 (any_but _ _ b5 (any_but _ _ b4 (any_but _ _ b3 (any_but _ _ b2 (any_but _ _ b1 (any_but _ _ b0 h))))))))

-- seven registers, going round, are all of them
all_missing : (mask position : ℕ) → mask ≤ 127 → position ≤ 6 → ((i : ℕ) → i < 7 → bit (onward i position) mask ≡ false) → mask ≡ 0
unfolding onward after pick
all_missing mask zero m p f = no_bits mask m (f 0 (omega arith)) (f 1 (omega arith)) (f 2 (omega arith)) (f 3 (omega arith)) (f 4 (omega arith)) (f 5 (omega arith)) (f 6 (omega arith))
all_missing mask (suc zero) m p f = no_bits mask m (f 6 (omega arith)) (f 0 (omega arith)) (f 1 (omega arith)) (f 2 (omega arith)) (f 3 (omega arith)) (f 4 (omega arith)) (f 5 (omega arith))
all_missing mask (suc (suc zero)) m p f = no_bits mask m (f 5 (omega arith)) (f 6 (omega arith)) (f 0 (omega arith)) (f 1 (omega arith)) (f 2 (omega arith)) (f 3 (omega arith)) (f 4 (omega arith))
all_missing mask (suc (suc (suc zero))) m p f = no_bits mask m (f 4 (omega arith)) (f 5 (omega arith)) (f 6 (omega arith)) (f 0 (omega arith)) (f 1 (omega arith)) (f 2 (omega arith)) (f 3 (omega arith))
all_missing mask (suc (suc (suc (suc zero)))) m p f = no_bits mask m (f 3 (omega arith)) (f 4 (omega arith)) (f 5 (omega arith)) (f 6 (omega arith)) (f 0 (omega arith)) (f 1 (omega arith)) (f 2 (omega arith))
all_missing mask (suc (suc (suc (suc (suc zero))))) m p f = no_bits mask m (f 2 (omega arith)) (f 3 (omega arith)) (f 4 (omega arith)) (f 5 (omega arith)) (f 6 (omega arith)) (f 0 (omega arith)) (f 1 (omega arith))
all_missing mask (suc (suc (suc (suc (suc (suc zero)))))) m p f = no_bits mask m (f 1 (omega arith)) (f 2 (omega arith)) (f 3 (omega arith)) (f 4 (omega arith)) (f 5 (omega arith)) (f 6 (omega arith)) (f 0 (omega arith))
all_missing mask (suc (suc (suc (suc (suc (suc (suc k))))))) m p f = absurd (omega (arith, p))

pub chosen_exact : ChosenExact
chosen_exact mask position m n p = from (sought 7 mask position)
  where
    from : Sought 7 mask position → ChosenRead mask position
    from (found j h s b f) =
        record { steps = j; few = h; there = s; in_mask = ap (λ (r : ℕ). bit r mask) s ∙ b; first = f }
    from (missing f) = absurd (n (all_missing mask position m p f))

status_small : (s : Status) → status_byte s < 256
unfolding status_byte
status_small s =
    let e = pick_both {X = ℕ} (λ n. n ≤ 32) s.e 32 0 (omega arith) (omega arith) in
    let t = pick_both {X = ℕ} (λ n. n ≤ 1) s.t 1 0 (omega arith) (omega arith) in
    omega (arith, e, t)

register_small : (k : ℕ) (c : Core) → register_byte k c < 256
unfolding register_byte
register_small k c =
    table (λ (n : ℕ). n < 256)
    (status_small c.status ⨾ omega arith ⨾ omega arith ⨾ omega arith ⨾ omega arith ⨾ omega arith ⨾ below (omega arith))

pub low_first : (c : Core) → LowFirst c
unfolding opened
low_first c =
    record { bytes = λ k. register_small k c; counter = omega arith; a = omega arith; b = omega arith }

-- an accepted read keeps a valid core valid
pub read_kept : (c : Core) → Kept c → Kept (read_byte c).core
unfolding read_byte
read_kept c k =
    let s = kept_steady c k in
    let v = kept_slot c k in
    let p = kept_progress c k in
    table (λ (b : Byte). Kept b.core)
    (kept_from _ (steady_readback s _ (record { mask = s.readback.mask; position = s.readback.position })) v p
    ⨾ k
    ⨾ below (kept_from _ (steady_readback s _ (record { mask = s.readback.mask; position = after_small _ })) v p))
