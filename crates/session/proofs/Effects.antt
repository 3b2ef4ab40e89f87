-- A record that is carried out, kind by kind: what it is answered is what its line says, and its entry is the one that a record
-- in numbers stands for. Of a memory record's bytes those that are left, put into the memory as it is, make of it what all make
-- of the memory as it was.
-- Assumes nothing.
use Rattle.std.proofs.Common.{◌≡◌, ℕ, zero, suc, ◌+◌, ◌-◌, ◌%◌, ◌<◌, ◌≤◌, List, [], ◌∷◌, length, get_or, set, drop, sym, refl, ap, ◌∙◌, arith, ne_eqb}
use Rattle.std.proofs.lemmas.List.{get_or-take, get_or-drop, length-take}
use Rattle.rules.specs.Buffers.{flat}
use Rattle.rules.specs.Calls.{Answer, Reply, accepted, unless_refused, write_reply, read_reply, write_reply_over}
use Rattle.rules.specs.Entries.{Poke, poked, flat_outside, Entry, outside_change, enter}
use Rattle.rules.specs.Choice.{pick}
use Rattle.rules.specs.declared.Clocks.{Clocks}
use Rattle.rules.specs.declared.Core.{Core}
use Rattle.rules.proofs.Choice.{pick_both}
use Rattle.rules.proofs.Warned.{warning_answered}
use Rattle.zxndma.specs.Answers.{system_of, write_answer, read_answer}
use Rattle.zxndma.specs.declared.Device.{Device}
use Rattle.zxndma.specs.declared.WriteAnswer.{WriteAnswer}
use Rattle.zxndma.specs.declared.ReadAnswer.{ReadAnswer}
use Rattle.records.specs.Records.{Record as RecordInNumbers}
use Rattle.records.specs.Found.{record_before, LentBefore}
use Rattle.records.specs.declared.Record.{Record}
use Rattle.records.specs.declared.Record.TheVariants.{Write, Read, Grant, Memory}
use Rattle.lines.specs.Lines.{record_line}
use Rattle.session.specs.Effects.{pokes, entry_of, effect}
use Rattle.session.specs.Numbers.{entry_found}

-- ---- the line

-- a write gives no byte
write_byte : (c : Core) (k : Clocks) (port byte : ℕ) → (write_reply c k port byte).answered.byte ≡ 0
unfolding write_reply_over unless_refused
write_byte c k port byte = pick_both (λ (r : Reply). r.answered.byte ≡ 0) _ _ _ refl refl

pub write_said :
    (c : Core) (k : Clocks) (port byte : ℕ) {a : WriteAnswer} → a ≡ write_answer (write_reply c k port byte)
    → record_line 1 a.number 0 a.warning ≡ (let r = (write_reply c k port byte).answered in record_line 1 r.number r.byte r.warning)
write_said c k port byte h = λ i. record_line 1 (h i).number (sym (write_byte c k port byte) i) (h i).warning

pub read_said :
    (c : Core) (k : Clocks) (port : ℕ) {a : ReadAnswer} → a ≡ read_answer (read_reply c k port)
    → record_line 2 a.number a.byte 0 ≡ (let r = (read_reply c k port).answered in record_line 2 r.number r.byte r.warning)
read_said c k port h = λ i. record_line 2 (h i).number (h i).byte (sym (warning_answered.read c k port) i)

-- ---- a memory record's bytes on their way into memory

-- the first of the bytes that are left
first : (n : ℕ) (xs : List ℕ) (at to : ℕ) (m : List ℕ) → poked (pokes (suc n) xs at to) m ≡ poked (pokes n xs (at + 1) ((to + 1) % 65536)) (set m to (get_or xs at 0))
unfolding poked pokes
first n xs at to m = refl

pub poking_more :
    (xs m : List ℕ) (at to : ℕ) → at < length xs
    → poked (pokes (length xs - (at + 1)) xs (at + 1) ((to + 1) % 65536)) (set m to (get_or xs at 0)) ≡ poked (pokes (length xs - at) xs at to) m
poking_more xs m at to h =
    sym (first (length xs - (at + 1)) xs at to m)
    ∙ ap (λ (n : ℕ). poked (pokes n xs at to) m) (let z : suc (length xs - (at + 1)) ≡ length xs - at = omega arith in z)

pub poking_end : (xs m : List ℕ) (at to : ℕ) → length xs ≤ at → m ≡ poked (pokes (length xs - at) xs at to) m
unfolding poked pokes
poking_end xs m at to h = ap (λ (n : ℕ). poked (pokes n xs at to) m) (let z : 0 ≡ length xs - at = omega arith in z)

-- ---- the entry

-- the same bytes at another place
pokes_same :
    (n : ℕ) (xs ys : List ℕ) (p q address : ℕ) → ((i j k : ℕ) → i < n → j ≡ p + i → k ≡ q + i → get_or xs j 0 ≡ get_or ys k 0)
    → pokes n xs p address ≡ pokes n ys q address
unfolding pokes
pokes_same zero xs ys p q address h = refl
pokes_same (suc n) xs ys p q address h =
    let byte : get_or xs p 0 ≡ get_or ys q 0 = h 0 p q (omega arith) (omega arith) (omega arith) in
    let rest : pokes n xs (p + 1) ((address + 1) % 65536) ≡ pokes n ys (q + 1) ((address + 1) % 65536) =
    pokes_same n xs ys (p + 1) (q + 1) ((address + 1) % 65536) (λ i j k l e f. h (i + 1) j k (omega arith) (omega (arith, e)) (omega (arith, f)))
    in
    λ i. record { address = address; byte = byte i } ∷ rest i

pub entry_same : (xs : List ℕ) (next : ℕ) (r : Record) → LentBefore xs next r → entry_found r ≡ entry_of xs (record_before next r)
unfolding entry_of pick
entry_same xs next (Write port byte) h = refl
entry_same xs next (Read port) h = refl
entry_same xs next (Grant clocks) h = refl
entry_same xs next (Memory address b) h =
    let l : ℕ = length b.now in
    let s : ℕ = next - l in
    let within : l ≤ next = omega (arith, ap length h, length-take (next - s) (drop s xs)) in
    ap outside_change
    (pokes_same l b.now xs 0 s address
    (λ i j k f e g. ap (λ (ys : List ℕ). get_or ys j 0) h
    ∙ get_or-take (next - s) (drop s xs) j 0 (omega (arith, e, f))
    ∙ get_or-drop s xs j 0
    ∙ ap (λ (n : ℕ). get_or xs n 0) (let z : s + j ≡ k = omega (arith, e, g) in z))
    ∙ ap (λ (n : ℕ). pokes n xs s address) (let z : l ≡ next - s = omega arith in z))

-- ---- a record in numbers of no kind

module _ (xs : List ℕ) (r : RecordInNumbers) where
  -- what is none of the first three kinds
  pub record Other : Type 0 where
    pub write : r.number ≡ 1 → ⊥
    pub read : r.number ≡ 2 → ⊥
    pub grant : r.number ≡ 3 → ⊥

  entry_none : Other → (r.number ≡ 4 → ⊥) → outside_change [] ≡ entry_of xs r
  unfolding entry_of pick
  entry_none o n = simp (ne_eqb _ _ o.write, ne_eqb _ _ o.read, ne_eqb _ _ o.grant, ne_eqb _ _ n)

  -- it is accepted and does nothing
  pub carried_none : (d : Device) (m l : List ℕ) → Other → (r.number ≡ 4 → ⊥) → ◌≡◌ {A = Answer (List ℕ)} (record { answered = accepted 0; system = system_of d m l }) (effect xs r (system_of d m l))
  unfolding poked
  carried_none d m l o n = ap (λ (e : Entry flat (List Poke)). enter flat flat_outside e (system_of d m l)) (entry_none o n)
