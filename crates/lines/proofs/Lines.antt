-- A line at the front of a slice is its bytes and the rest of the slice, and what was put there is what is taken from there. The
-- library's digits of a number are those of the definition; a number has no more of them than are allowed, so that every line
-- has room in 72 bytes. By kind and warning a line has the mark or is the one of before.
-- Assumes nothing.
use Rattle.std.proofs.Common.{◌≡◌, ℕ, zero, suc, ◌+◌, ◌/◌, ◌%◌, ◌^◌, ◌≤◌, ◌<◌, List, [], ◌∷◌, ◌++◌, length, take, drop, refl, sym, ap, ◌∙◌, add-one, arith, length-append}
use Rattle.std.proofs.Math.Seq.{sets, length-sets}
use Rattle.std.proofs.lemmas.Fmt.{decimal_from_appends, length-decimal-le}
use Rattle.std.proofs.lemmas.List.{take_at}
use Rattle.std.proofs.lemmas.List.Edits.{sets-eq}
use Rattle.std.specs.Fmt as printed
use borrow.Author.Tests.{lt-ltb, le-ltb, ne_eqb}
use lib.Dec.{eqb, ltb}
use lib.ListN.{set}
use Rattle.rules.specs.Choice.{pick}
use Rattle.rules.specs.Buffers.{placed}
use Rattle.rules.proofs.Choice.{pick_true, pick_false, pick_both}
use Rattle.rules.specs.declared.Clocks.{Clocks}
use Rattle.lines.specs.Lines.{decimal_to, decimal, number_line, write_line, read_line, record_line, marked_line, plain_line, LinesMarked, counts_line, PutLine}

-- ---- a line at the front of a slice

placed_sets : (at : ℕ) (bytes l : List ℕ) → placed at bytes l ≡ sets l at bytes
unfolding placed
placed_sets at [] l = refl
placed_sets at (x ∷ bytes) l =
    placed_sets (at + 1) bytes (set l at x) ∙ ap (λ (n : ℕ). sets (set l at x) n bytes) (add-one at)

placed_front : (bytes l : List ℕ) → length bytes ≤ length l → placed 0 bytes l ≡ bytes ++ drop (length bytes) l
placed_front bytes l h =
    placed_sets 0 bytes l
    ∙ sets-eq bytes l 0 (omega arith)
    ∙ ap (λ (n : ℕ). bytes ++ drop n l) (let z : 0 + length bytes ≡ length bytes = omega arith in z)

pub put_taken : (bytes out : List ℕ) → length bytes ≤ length out → take (length bytes) (placed 0 bytes out) ≡ bytes
put_taken bytes out h = ap (take (length bytes)) (placed_front bytes out h) ∙ take_at bytes _ _ refl

pub placed_size : (at : ℕ) (bytes l : List ℕ) → length (placed at bytes l) ≡ length l
placed_size at bytes l = ap length (placed_sets at bytes l) ∙ length-sets l at bytes

-- a line in its room is put at the front
pub line_put : (l bytes front : List ℕ) (n : ℕ) → 72 ≤ length l → n ≤ 72 → front ≡ bytes → n ≡ length bytes → PutLine l bytes (front ++ drop n l) n
line_put l bytes front n room fits e f =
    let same : front ++ drop n l ≡ placed 0 bytes l = (λ i. e i ++ drop (f i) l) ∙ sym (placed_front bytes l (omega arith)) in
    let size : length (front ++ drop n l) ≡ length l = ap length same ∙ placed_size 0 bytes l in
    record { put = λ _. record { list = same; place = omega arith; size = size }; short = λ g. absurd (omega arith); size = size }

-- ---- digits

pub decimal_most : (most n : ℕ) → length (decimal_to most n) ≤ most
unfolding decimal_to
decimal_most zero n = omega arith
decimal_most (suc most) n =
    pick_both (λ (xs : List ℕ). length xs ≤ suc most) (ltb n 10) _ _ (omega arith)
    (omega (arith, decimal_most most (n / 10), length-append (decimal_to most (n / 10)) ((48 + n % 10) ∷ [])))

decimal_one : (most n : ℕ) → n < 10 → decimal_to (suc most) n ≡ (48 + n) ∷ []
unfolding decimal_to
decimal_one most n h = pick_true (ltb n 10) _ _ (lt-ltb _ _ h)

pub decimal_digit : (n : ℕ) → n < 10 → decimal n ≡ (48 + n) ∷ []
decimal_digit n h = decimal_one 19 n h

decimal_more : (most n : ℕ) → 10 ≤ n → decimal_to (suc most) n ≡ decimal_to most (n / 10) ++ ((48 + n % 10) ∷ [])
unfolding decimal_to
decimal_more most n h = pick_false (ltb n 10) _ _ (le-ltb _ _ h)

-- the digits that the library writes
pub decimal_printed : (n : ℕ) → n < 2 ^ 64 → printed.decimal n ≡ decimal n
decimal_printed n h =
    sym
    (decimal_from_appends decimal_to (record { one = decimal_one; more = decimal_more }) 20 n h
    (length-decimal-le 20 n (omega arith) (omega arith) h))

-- ---- every line has room

pub number_room : (letter n : ℕ) → length (number_line letter n) ≤ 72
number_room letter n = omega (arith, length-append (decimal n) (10 ∷ []), decimal_most 20 n)

write_room : (number warning : ℕ) → length (write_line number warning) ≤ 72
unfolding write_line
write_room number warning =
    pick_both (λ (xs : List ℕ). length xs ≤ 72) (eqb warning 0) _ _ (number_room 87 number)
    (simp length-append (omega (arith, decimal_most 20 number)))

pub record_room : (kind number byte warning : ℕ) → length (record_line kind number byte warning) ≤ 72
unfolding record_line read_line
record_room kind number byte warning =
    pick_both (λ (xs : List ℕ). length xs ≤ 72) (eqb kind 1) _ _ (write_room number warning)
    (pick_both (λ (xs : List ℕ). length xs ≤ 72) (eqb kind 2) _ _
    (pick_both (λ (xs : List ℕ). length xs ≤ 72) (eqb number 0) _ _ (omega arith) (number_room 82 number))
    (pick_both (λ (xs : List ℕ). length xs ≤ 72) (eqb kind 3) _ _ (number_room 71 number) (number_room 77 number)))

pub counts_room : (k : Clocks) → length (counts_line k) ≤ 72
counts_room k =
    simp length-append (omega (arith, decimal_most 20 k.bus, decimal_most 20 k.held, decimal_most 20 k.cpu))

-- ---- the mark

mark_warned : (byte warning : ℕ) → (warning ≡ 0 → ⊥) → record_line 1 0 byte warning ≡ marked_line
unfolding record_line write_line decimal_to pick
mark_warned byte warning f = simp (ne_eqb _ _ f)

mark_none : (kind number byte : ℕ) → record_line kind number byte 0 ≡ plain_line kind number byte
unfolding record_line plain_line write_line pick
mark_none kind number byte = refl

mark_others : (kind number byte warning : ℕ) → (kind ≡ 1 → ⊥) → record_line kind number byte warning ≡ plain_line kind number byte
unfolding record_line plain_line
mark_others kind number byte warning f = pick_false _ _ _ (ne_eqb _ _ f) ∙ sym (pick_false _ _ _ (ne_eqb _ _ f))

pub lines_marked : LinesMarked
lines_marked = record { marked = mark_warned; unmarked = mark_none; others = mark_others }
