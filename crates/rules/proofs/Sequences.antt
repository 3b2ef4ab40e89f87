-- Sequences and their numbers: a valid sequence has codes of at most 10, and all of these are tried, as are all valid numbers;
-- what a register's byte asks for is tried bit by bit.
-- Assumes nothing.
use Prim.Native.Nat.{ℕ, ◌≤◌}
use native.Mathlib.Omega.{arith}
use mathlib.Core.Path.{◌≡◌, refl, sym, ◌∙◌, ap}
use mathlib.Core.Bool.{Bool, true, false, not}
use mathlib.Core.List.{[], ◌∷◌}
use lib.Dec.{eqb}
use borrow.Author.Tests.{leb-true, eqb-true}
use Rattle.rules.specs.Choice.{pick, ◌⇒◌, first_of, every, means}
use Rattle.rules.specs.Bytes.{bit}
use Rattle.rules.specs.Pending.{a_low, a_high, length_low, length_high, a_timing, b_timing, prescaler, b_low, b_high, nothing, next, is_pending, rest, ask, wr0_asks, timing_asks, wr4_asks, asked, used_up, pending_after_as, pending_after, valid_pending}
use Rattle.rules.specs.Sequences.{Sequence, codes, empty, after_first, in_front, wr0_sequence, timing_sequence, wr4_sequence, sequence_asked, sequence_used_up, sequence_after, follows, valid_sequence, parameter_of, bit_of, number_of}
use Rattle.rules.specs.Opened.{opened}
use Rattle.rules.proofs.Choice.{clash, both_picked, ends, ◌∥◌, tables, all_true, any_cases, any_none, means_so}
use Rattle.rules.proofs.Trying.{all_below, below_at}
use Rattle.rules.proofs.Parameters.{each_number}

abbrev Valid : Sequence → Type 0
Valid q = valid_sequence q ≡ true

-- ---- all valid sequences

-- what stands behind x has a code of at most 10
follows_small : (x y : ℕ) → follows x y ≡ true → y ≤ 10
unfolding follows
follows_small x y e =
    any_cases _ _ e (λ h. let z : y ≡ 0 = eqb-true _ _ h in omega (arith, z))
    (λ e. any_cases _ _ e (λ h. let z : y ≤ 4 = leb-true _ _ (all_true _ h).1.1.0 in omega (arith, z))
    (λ e. any_cases _ _ e (λ h. let z : y ≤ 9 = leb-true _ _ (all_true _ h).1.1.0 in omega (arith, z)) any_none))

-- a test of every sequence of codes up to 10, each following the one before it
tried4 : (Sequence → Bool) → ℕ → ℕ → ℕ → ℕ → Bool
tried4 f x y z w = means (follows z w) (f (codes x y z w))

tried3 : (Sequence → Bool) → ℕ → ℕ → ℕ → Bool
tried3 f x y z = means (follows y z) (all_below 11 (tried4 f x y z))

tried2 : (Sequence → Bool) → ℕ → ℕ → Bool
tried2 f x y = means (follows x y) (all_below 11 (tried3 f x y))

tried1 : (Sequence → Bool) → ℕ → Bool
tried1 f x = all_below 11 (tried2 f x)

-- holds of every valid sequence
each_sequence : (f : Sequence → Bool) → all_below 11 (tried1 f) ≡ true → (q : Sequence) → Valid q → f q ≡ true
unfolding valid_sequence tried4 tried3 tried2 tried1
each_sequence f t q e =
    let h = all_true _ e in
    let x : q.first ≤ 10 = leb-true _ _ h.0 in
    let y : q.second ≤ 10 = follows_small _ _ h.1.0 in
    let z : q.third ≤ 10 = follows_small _ _ h.1.1.0 in
    let w : q.fourth ≤ 10 = follows_small _ _ h.1.1.1.0 in
    let t1 = below_at 11 (tried1 f) t q.first (omega (arith, x)) in
    let t2 = means_so _ _ (below_at 11 (tried2 f q.first) t1 q.second (omega (arith, y))) h.1.0 in
    let t3 = means_so _ _ (below_at 11 (tried3 f q.first q.second) t2 q.third (omega (arith, z))) h.1.1.0 in
    means_so _ _ (below_at 11 (tried4 f q.first q.second q.third) t3 q.fourth (omega (arith, w))) h.1.1.1.0

unfoldable sequences_opened : Unit {0}
unfolding opened all_below tried4 tried3 tried2 tried1 in_front sequence_asked sequence_used_up sequence_after follows valid_sequence parameter_of bit_of
sequences_opened = tt

-- ---- the number, and what is next

pub number_valid : (q : Sequence) → Valid q → valid_pending (number_of q) ≡ true
unfolding sequences_opened
number_valid q e = each_sequence (λ q. valid_pending (number_of q)) refl q e

pub next_same : (q : Sequence) → Valid q → next (number_of q) ≡ parameter_of q.first
unfolding sequences_opened
next_same q e = eqb-true _ _ (each_sequence (λ q. eqb (next (number_of q)) (parameter_of q.first)) refl q e)

-- two tests that mean each other
same_test : (s t : Bool) → every (means s t ∷ means t s ∷ []) ≡ true → s ≡ t
unfolding opened
same_test true true e = refl
same_test true false e = clash e
same_test false true e = clash e
same_test false false e = refl

pending_same : (q : Sequence) → Valid q → is_pending (number_of q) ≡ not (eqb q.first 0)
unfolding sequences_opened
pending_same q e =
    same_test _ _
    (each_sequence (λ q. every (means (is_pending (number_of q)) (not (eqb q.first 0)) ∷ means (not (eqb q.first 0)) (is_pending (number_of q)) ∷ [])) refl q e)

-- ---- what a register's byte asks for

-- a test that holds at true and at false holds at every Bool
abbrev anyway : (Bool → Bool) → Bool
anyway f = every (f true ∷ f false ∷ [])

anyway_at : (f : Bool → Bool) → anyway f ≡ true → (t : Bool) → f t ≡ true
anyway_at f e true = (all_true _ e).0
anyway_at f e false = (all_true _ e).1.0

-- a valid sequence and its number
abbrev stands : Sequence → ℕ → Bool
stands q p = every (valid_sequence q ∷ eqb (number_of q) p ∷ [])

-- q is valid, and p is its number
abbrev pub Stands : Sequence → ℕ → Type 0
Stands q p = (valid_sequence q ≡ true) × (number_of q ≡ p)

it_stands : (q : Sequence) (p : ℕ) → stands q p ≡ true → Stands q p
it_stands q p e = ((all_true _ e).0, eqb-true _ _ (all_true _ e).1.0)

wr0_ways : Bool → Bool → Bool → Bool → Bool
wr0_ways s t u v =
    stands (in_front s 1 (in_front t 2 (in_front u 3 (in_front v 4 empty)))) (ask s a_low (ask t a_high (ask u length_low (ask v length_high nothing))))

wr0_all : (s t u v : Bool) → wr0_ways s t u v ≡ true
unfolding sequences_opened wr0_ways
wr0_all s t u v =
    anyway_at (wr0_ways s t u)
    (anyway_at (λ u. anyway (wr0_ways s t u))
    (anyway_at (λ t. anyway (λ u. anyway (wr0_ways s t u)))
    (anyway_at (λ s. anyway (λ t. anyway (λ u. anyway (wr0_ways s t u)))) refl s) t) u) v

wr0_stands : (byte : ℕ) → Stands (wr0_sequence byte) (wr0_asks byte)
unfolding wr0_ways
wr0_stands byte = it_stands (wr0_sequence byte) _ (wr0_all (bit 3 byte) (bit 4 byte) (bit 5 byte) (bit 6 byte))

wr4_ways : Bool → Bool → Bool
wr4_ways s t = stands (in_front s 8 (in_front t 9 empty)) (ask s b_low (ask t b_high nothing))

wr4_stands : (byte : ℕ) → Stands (wr4_sequence byte) (wr4_asks byte)
unfolding sequences_opened wr4_ways
wr4_stands byte =
    it_stands (wr4_sequence byte) _ (anyway_at (wr4_ways (bit 2 byte)) (anyway_at (λ s. anyway (wr4_ways s)) refl (bit 2 byte)) (bit 3 byte))

timing_ways : ℕ → ℕ → Bool → Bool
timing_ways code timing t = stands (in_front t code empty) (ask t timing nothing)

timing_stands : (code timing : ℕ) → anyway (timing_ways code timing) ≡ true → (byte : ℕ) → Stands (timing_sequence code byte) (timing_asks timing byte)
unfolding timing_ways
timing_stands code timing e byte =
    it_stands (timing_sequence code byte) _ (anyway_at (timing_ways code timing) e (bit 6 byte))

a_timing_stands : anyway (timing_ways 5 a_timing) ≡ true
unfolding sequences_opened timing_ways
a_timing_stands = refl

b_timing_stands : anyway (timing_ways 6 b_timing) ≡ true
unfolding sequences_opened timing_ways
b_timing_stands = refl

mask_stands : Stands (codes 10 0 0 0) 512
unfolding sequences_opened
mask_stands = it_stands (codes 10 0 0 0) _ refl

asked_stands : (byte : ℕ) (q : Sequence) → Valid q → Stands (sequence_asked byte q) (asked byte (number_of q))
unfolding sequence_asked asked
asked_stands byte q e =
    tables Stands
    (wr0_stands byte
    ∥ timing_stands 5 a_timing a_timing_stands byte
    ∥ timing_stands 6 b_timing b_timing_stands byte
    ∥ wr4_stands byte
    ∥ mask_stands
    ∥ ends (e, refl))

-- ---- what a parameter leaves

used_ways : Bool → Sequence → Bool
used_ways t q =
    stands (in_front (every (eqb q.first 6 ∷ t ∷ [])) 7 (after_first q)) (pick (every (eqb (next (number_of q)) b_timing ∷ t ∷ [])) prescaler (rest (number_of q)))

used_all : (t : Bool) (q : Sequence) → Valid q → used_ways t q ≡ true
unfolding sequences_opened used_ways
used_all true q e = each_sequence (used_ways true) refl q e
used_all false q e = each_sequence (used_ways false) refl q e

used_stands : (byte : ℕ) (q : Sequence) → Valid q → Stands (sequence_used_up byte q) (used_up (next (number_of q)) byte (number_of q))
unfolding sequence_used_up used_up used_ways
used_stands byte q e = it_stands (sequence_used_up byte q) _ (used_all (bit 5 byte) q e)

-- ---- after a byte

pub after_stands : (byte : ℕ) (q : Sequence) → Valid q → Stands (sequence_after byte q) (pending_after byte (number_of q))
unfolding sequence_after pending_after_as
after_stands byte q e =
    rw (pending_same q e)
    (both_picked Stands _ _ _ _ _ (λ d. used_stands byte q e) (λ d. asked_stands byte q e))

-- ---- from a number back to its sequence

-- the code of a bit, 0 for none
code_of : ℕ → ℕ
code_of b =
    first_of
    (eqb b 1 ⇒ 1 ∷ eqb b 2 ⇒ 2 ∷ eqb b 4 ⇒ 3 ∷ eqb b 8 ⇒ 4 ∷ eqb b 16 ⇒ 5 ∷ eqb b 32 ⇒ 6 ∷ eqb b 64 ⇒ 7 ∷ eqb b 128 ⇒ 8 ∷ eqb b 256 ⇒ 9 ∷ eqb b 512 ⇒ 10 ∷ [])
    0

pub sequence_of : ℕ → Sequence
sequence_of p =
    codes (code_of (next p)) (code_of (next (rest p))) (code_of (next (rest (rest p)))) (code_of (next (rest (rest (rest p)))))

same_codes : Sequence → Sequence → Bool
same_codes p q =
    every (eqb p.first q.first ∷ eqb p.second q.second ∷ eqb p.third q.third ∷ eqb p.fourth q.fourth ∷ [])

same_codes_lem : (p q : Sequence) → same_codes p q ≡ true → p ≡ q
unfolding same_codes
same_codes_lem p q e =
    let h = all_true _ e in
    let x : p.first ≡ q.first = eqb-true _ _ h.0 in
    let y : p.second ≡ q.second = eqb-true _ _ h.1.0 in
    let z : p.third ≡ q.third = eqb-true _ _ h.1.1.0 in
    let w : p.fourth ≡ q.fourth = eqb-true _ _ h.1.1.1.0 in
    λ i. codes (x i) (y i) (z i) (w i)

back : (q : Sequence) → Valid q → sequence_of (number_of q) ≡ q
unfolding sequences_opened code_of sequence_of same_codes
back q e = same_codes_lem _ _ (each_sequence (λ q. same_codes (sequence_of (number_of q)) q) refl q e)

pub number_once : (p q : Sequence) → Valid p → Valid q → number_of p ≡ number_of q → p ≡ q
number_once p q d e h = sym (back p d) ∙ ap sequence_of h ∙ back q e

pub sequence_stands : (p : ℕ) → valid_pending p ≡ true → Stands (sequence_of p) p
unfolding sequences_opened code_of sequence_of
sequence_stands p e = it_stands (sequence_of p) p (each_number (λ p. stands (sequence_of p) p) refl p e)
