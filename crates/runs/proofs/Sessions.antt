-- A session is the run of its calls: what its records come to is told record by record. Its entries are of four kinds, and
-- the bytes that they write to ports are bytes of the session; so what holds of every list of calls holds of its own. A record
-- takes bytes, so that none is left; a fault is that of the version or what stands at a place, 21 or 22.
-- Assumes nothing.
use Prim.Native.Nat.{ℕ, zero, suc, ◌+◌, ◌<◌}
use native.Mathlib.Omega.{arith}
use mathlib.Core.Path.{◌≡◌, refl, ap, ◌∙◌}
use mathlib.Core.Bool.{true, false}
use mathlib.Core.Logic.{inl, inr, ⊎_elim}
use mathlib.Core.List.{List, ◌∷◌, append_assoc}
use borrow.Author.Tests.{leb-true, leb-false, eq-eqb, ne_eqb, eqb-false}
use lib.Dec.{eqb, leb}
use lib.ListN.{length, get_or, replicate}
use Rattle.rules.specs.Choice.{pick}
use Rattle.rules.specs.Bytes.{AreBytes}
use Rattle.rules.specs.Buffers.{flat}
use Rattle.rules.specs.World.{System}
use Rattle.rules.specs.Calls.{Answer}
use Rattle.rules.specs.Entries.{Poke, flat_outside, Entry, port_write, port_read, clock_grant, outside_change, bytes_written, run, run_over}
use Rattle.rules.proofs.Choice.{pick_both, pick_cases, pick_true}
use Rattle.rules.proofs.Accounts.{demand3}
use Rattle.rules.proofs.Warned.{warnings_noted}
use Rattle.rules.proofs.Reached.{every_reached}
use Rattle.records.specs.Records.{Record, record_at}
use Rattle.records.proofs.Choosing.{both}
use Rattle.records.proofs.Standing.{stands, at_end, small_byte}
use Rattle.lines.specs.Lines.{counts_line, fault_line}
use Rattle.session.specs.Effects.{entry_of, effect}
use Rattle.session.specs.Steps.{answer_line}
use Rattle.runs.specs.Sessions.{Decoded, ends_by, record_before, decoded_from, decoded, entries_of, session_entries, lines_of, last_line, Ended, printed, FaultNumber, FaultKnown, AllRead, SessionRuns}
use Rattle.runs.specs.Stepping.{ended_by, line_before}

-- ---- what records come to, from a system on

abbrev pub played : List ℕ → Decoded → System (List ℕ) → Ended
played xs d s = printed d (run flat flat_outside (entries_of xs d.records) s)

-- a record that was answered: its line, and what follows it
abbrev pub followed : ℕ → List ℕ → Record → Answer (List ℕ) → Ended
followed most xs r a = line_before (answer_line r a.answered) (played xs (decoded_from most xs r.next) a.system)

-- by a record, or by what stands in place of one
unfoldable pub after : ℕ → List ℕ → Record → System (List ℕ) → Ended
after most xs r s =
    pick (eqb r.number 5) (ended_by (counts_line s.clocks) 0 s)
    (pick (leb 20 r.number) (ended_by (fault_line r.number) r.number s)
    (followed most xs r (effect xs r s)))

module _ (xs : List ℕ) (s : System (List ℕ)) where
  -- no record, and no fault
  pub played_end : played xs (ends_by 0) s ≡ ended_by (counts_line s.clocks) 0 s
  unfolding entries_of run_over lines_of last_line pick
  played_end = refl

  -- no record, and a fault
  pub played_fault : (fault : ℕ) → eqb fault 0 ≡ false → played xs (ends_by fault) s ≡ ended_by (fault_line fault) fault s
  unfolding entries_of run_over lines_of last_line pick
  played_fault fault e = simp e

  -- one record more
  played_more : (r : Record) (d : Decoded) → played xs (record_before r d) s ≡ line_before (answer_line r (effect xs r s).answered) (played xs d (effect xs r s).system)
  unfolding entries_of run_over lines_of
  played_more r d =
      ap (λ (l : List ℕ). ended_by l d.fault (played xs d (effect xs r s).system).system)
      (append_assoc (answer_line r (effect xs r s).answered) _ _)

  -- by what stands at a place
  pub played_from : (most p : ℕ) → played xs (decoded_from (suc most) xs p) s ≡ after most xs (record_at xs p true) s
  unfolding decoded_from after
  played_from most p =
      let r : Record = record_at xs p true in
      both (λ (d : Decoded) (e : Ended). played xs d s ≡ e) (eqb r.number 5) _ _ _ _ (λ e. played_end)
      (λ e. both (λ (d : Decoded) (e : Ended). played xs d s ≡ e) (leb 20 r.number) _ _ _ _
      (λ f. played_fault r.number (ne_eqb r.number 0 (λ z. omega (arith, leb-true 20 r.number f, z))))
      (λ f. played_more r (decoded_from most xs r.next)))

-- ---- the entries of a session

module _ (xs : List ℕ) where
  -- what holds of the four kinds of entries that a session makes holds of a record's entry
  pub each_kind : (P : Entry flat (List Poke) → Type 0) (r : Record) → P (port_write r.word r.byte) → P (port_read r.word) → P (clock_grant r.clocks) → ((ps : List Poke) → P (outside_change ps)) → P (entry_of xs r)
  unfolding entry_of
  each_kind P r w d g m = pick_both P _ _ _ w (pick_both P _ _ _ d (pick_both P _ _ _ g (pick_both P _ _ _ (m _) (m _))))

  Write : List (Entry flat (List Poke)) → Type 0
  Write es = AreBytes (bytes_written es)

  Writes : Decoded → Type 0
  Writes d = Write (entries_of xs d.records)

  entry_writes : (r : Record) (es : List (Entry flat (List Poke))) → r.byte < 256 → Write es → Write (entry_of xs r ∷ es)
  unfolding bytes_written AreBytes Write
  entry_writes r es h g = each_kind (λ (e : Entry flat (List Poke)). Write (e ∷ es)) r (h, g) g g (λ ps. g)

  none_writes : (fault : ℕ) → Writes (ends_by fault)
  unfolding entries_of bytes_written AreBytes Write Writes
  none_writes fault = tt

  module _ (small : AreBytes xs) where
    decoded_writes : (most p : ℕ) → Writes (decoded_from most xs p)
    unfolding decoded_from entries_of Writes
    decoded_writes zero p = none_writes 0
    decoded_writes (suc most) p =
        pick_both Writes (eqb (record_at xs p true).number 5) _ _ (none_writes 0)
        (pick_both Writes (leb 20 (record_at xs p true).number) _ _ (none_writes (record_at xs p true).number)
        (entry_writes (record_at xs p true) _ (small_byte xs small p) (decoded_writes most (record_at xs p true).next)))

    -- the bytes that a session of bytes writes to ports are bytes
    pub session_writes : AreBytes (bytes_written (session_entries xs))
    unfolding decoded Write Writes
    session_writes = pick_both Writes (eqb (get_or xs 0 0) 1) _ _ (decoded_writes (length xs) 1) (none_writes 20)

pub session_runs : (xs : List ℕ) → SessionRuns xs
session_runs xs =
    let zeros : List ℕ = replicate 65536 0 in
    let accounted = demand3 (List ℕ) (List Poke) flat flat_outside zeros zeros (session_entries xs) in
    record {
      accounted = accounted;
      reached = λ b. every_reached (List ℕ) (List Poke) flat flat_outside zeros zeros (session_entries xs) (session_writes xs b);
      splits = λ b. accounted.splits (session_writes xs b);
      warnings = warnings_noted (List ℕ) (List Poke) flat flat_outside zeros zeros (session_entries xs);
    }

-- ---- the fault of a session

Known : Decoded → Type 0
Known d = FaultNumber d.fault

known_from : (most : ℕ) (xs : List ℕ) (p : ℕ) → Known (decoded_from most xs p)
unfolding decoded_from Known
known_from zero xs p = inl refl
known_from (suc most) xs p =
    pick_both Known (eqb (record_at xs p true).number 5) _ _ (inl refl)
    (pick_cases Known (leb 20 (record_at xs p true).number) _ _
    (λ e. ⊎_elim (λ f. inr (inr (inl f))) (λ f. inr (inr (inr f))) ((stands xs p).fault (leb-true 20 (record_at xs p true).number e)))
    (λ e. known_from most xs (record_at xs p true).next))

pub fault_known : (xs : List ℕ) → FaultKnown xs
unfolding decoded Known
fault_known xs = pick_both Known (eqb (get_or xs 0 0) 1) _ _ (known_from (length xs) xs 1) (inr (inl refl))

-- ---- no record is left behind

module _ (xs : List ℕ) where
  one_more : (most p : ℕ) → length xs < p + most → decoded_from (suc most) xs p ≡ decoded_from most xs p
  unfolding decoded_from
  one_more zero p h = pick_true _ _ _ (eq-eqb (record_at xs p true).number 5 (ap (λ (r : Record). r.number) (at_end xs p (omega arith))))
  one_more (suc most) p h =
      let r : Record = record_at xs p true in
      both (λ (c d : Decoded). c ≡ d) (eqb r.number 5) _ _ _ _ (λ e. refl)
      (λ e. both (λ (c d : Decoded). c ≡ d) (leb 20 r.number) _ _ _ _ (λ f. refl)
      (λ f. ap (record_before r)
      (one_more most r.next
      (omega (arith, h, (stands xs p).takes (eqb-false r.number 5 e) (λ z. omega (arith, leb-false 20 r.number f, z)))))))

pub all_read : (xs : List ℕ) → AllRead xs
all_read xs zero = ap (λ (n : ℕ). decoded_from n xs 1) (let z : 0 + length xs ≡ length xs = omega arith in z)
all_read xs (suc more) =
    ap (λ (n : ℕ). decoded_from n xs 1) (let z : suc more + length xs ≡ suc (more + length xs) = omega arith in z)
    ∙ one_more xs (more + length xs) 1 (omega arith)
    ∙ all_read xs more
