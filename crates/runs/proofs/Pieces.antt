-- What a step does before the input has ended stands, whatever comes: a record that is whole stays the record that it is.
-- Assumes nothing.
use Prim.Native.Nat.{ℕ, zero, suc, ◌+◌, ◌-◌, ◌%◌, ◌≤◌, ◌<◌}
use native.Mathlib.Omega.{arith}
use mathlib.Core.Path.{◌≡◌, refl, sym, ap, subst, ◌∙◌}
use mathlib.Core.Bool.{Bool, true, false}
use mathlib.Core.List.{List, ◌∷◌, ◌++◌}
use borrow.Author.Tests.{le-leb, lt-leb, leb-true, leb-false, ltb-false, eq-eqb, ne_eqb, eqb-true, eqb-false}
use lib.Dec.{eqb, leb, ltb}
use lib.ListN.{length, get_or}
use Rattle.rules.specs.Choice.{pick}
use Rattle.rules.specs.Buffers.{Buffers, flat}
use Rattle.rules.specs.Entries.{Poke, flat_outside, Entry, outside_change, enter}
use Rattle.rules.proofs.Choice.{pick_true, pick_false, pick_both, pick_cases, either}
use Rattle.records.specs.Records.{Record, none, of_kind, record_at, long_length}
use Rattle.records.specs.BigEndian.{word}
use Rattle.session.specs.Effects.{pokes, entry_of}
use Rattle.session.specs.Steps.{Session, Said, Outcome, in_phase, without_line, buffers_kept, last_fault, last_counts, carried, system_with, version_step, long_step, by_record, record_step, step_of}
use Rattle.runs.specs.Pieces.{next, StepStands}
use Rattle.session.proofs.Steps.{without_room, at_version_lem, at_record_lem, at_long, at_over}
use Rattle.records.proofs.Choosing.{same}
use Rattle.records.proofs.Standing.{stands_kind, long_there}
use Rattle.records.proofs.BigEndian.{byte_stays}
use Rattle.records.proofs.Pieces.{longer, waits_behind, waits_length, waits_bytes, whole, record_is, record_stays, long_stays, Within, within}

module _ (xs ys : List ℕ) where
  pokes_stay : (n i a : ℕ) → i + n ≤ length xs → pokes n (xs ++ ys) i a ≡ pokes n xs i a
  unfolding pokes
  pokes_stay zero i a h = refl
  pokes_stay (suc n) i a h =
      ap (λ (byte : ℕ). record { address = a; byte = byte } ∷ pokes n (xs ++ ys) (i + 1) ((a + 1) % 65536)) (byte_stays xs ys i (omega arith))
      ∙ ap (λ (ps : List Poke). record { address = a; byte = get_or xs i 0 } ∷ ps) (pokes_stay n (i + 1) ((a + 1) % 65536) (omega arith))

  entry_stays : (r : Record) → Within xs r → entry_of (xs ++ ys) r ≡ entry_of xs r
  unfolding entry_of Within
  entry_stays r w =
      same (eqb r.number 1) _ _ _ _ (λ e. refl)
      (λ e. same (eqb r.number 2) _ _ _ _ (λ f. refl)
      (λ f. same (eqb r.number 3) _ _ _ _ (λ g. refl)
      (λ g. same (eqb r.number 4) _ _ _ _
      (λ h. let
      i = w (eqb-true r.number 4 h)
      in
      ap outside_change (pokes_stay (r.next - r.start) r.start r.word (omega (arith, i.0, i.1))))
      (λ h. refl))))

-- ---- a step as a function of the bytes

module _ (s : Session) (out : List ℕ) (b : Buffers (List ℕ)) where
  module _ (xs ys : List ℕ) (p : ℕ) (ended : Bool) where
    -- a step that is some function of the bytes stands where that function does
    by_function :
        (F : List ℕ → Bool → Outcome) → ((zs : List ℕ) (e : Bool) → step_of s zs p e out b ≡ F zs e)
        → (((F xs false).said.step.progress ≡ 1 → ⊥) → F (xs ++ ys) ended ≡ F xs false)
        → ((F xs false).said.step.progress ≡ 1 → next (F xs false) (xs ++ ys) ended ≡ F (xs ++ ys) ended)
        → StepStands s xs p out b ys ended
    by_function F e f g =
        record {
          stands = λ n. e (xs ++ ys) ended ∙ f (λ z. n (ap (λ (o : Outcome). o.said.step.progress) (e xs false) ∙ z)) ∙ sym (e xs false);
          waits = λ n. ap (λ (o : Outcome). next o (xs ++ ys) ended) (e xs false)
              ∙ g (sym (ap (λ (o : Outcome). o.said.step.progress) (e xs false)) ∙ n)
              ∙ sym (e (xs ++ ys) ended);
        }

    -- a step that does not look at the bytes
    by_none : (o : Outcome) → (o.said.step.progress ≡ 1 → ⊥) → ((zs : List ℕ) (e : Bool) → step_of s zs p e out b ≡ o) → StepStands s xs p out b ys ended
    by_none o n e = by_function (λ zs f. o) e (λ m. refl) (λ m. absurd (n m))

    -- ---- the version

    version_waits : length xs ≤ p → version_step s xs p false out ≡ without_line 1 p s out
    unfolding version_step pick
    version_waits h = simp (le-leb (length xs) p h)

    version_is : (zs : List ℕ) (e : Bool) → p < length zs → version_step s zs p e out ≡ pick (eqb (get_or zs p 0) 1) (without_line 0 (p + 1) (in_phase 1 0 s.device) out) (last_fault 20 (p + 1) s.device out)
    unfolding version_step
    version_is zs e h = pick_false _ _ _ (lt-leb (length zs) p h)

    version_stays : p < length xs → version_step s (xs ++ ys) p ended out ≡ version_step s xs p false out
    version_stays h =
        version_is (xs ++ ys) ended (omega (arith, longer xs ys))
        ∙ ap (λ (n : ℕ). pick (eqb n 1) (without_line 0 (p + 1) (in_phase 1 0 s.device) out) (last_fault 20 (p + 1) s.device out)) (byte_stays xs ys p h)
        ∙ sym (version_is xs false h)

    -- a version that is there does not wait
    version_goes : p < length xs → (version_step s xs p false out).step.progress ≡ 1 → ⊥
    version_goes h n = goes (ap (λ (x : Said). x.step.progress) (sym (version_is xs false h)) ∙ n)
      where
        goes : (pick (eqb (get_or xs p 0) 1) (without_line 0 (p + 1) (in_phase 1 0 s.device) out) (last_fault 20 (p + 1) s.device out)).step.progress ≡ 1 → ⊥
        goes = pick_both (λ (x : Said). x.step.progress ≡ 1 → ⊥) _ _ _ (λ e. omega (arith, e)) (λ e. omega (arith, e))

    version : ltb (length out) 72 ≡ false → eqb s.phase 0 ≡ true → StepStands s xs p out b ys ended
    version r f =
        by_function (λ zs e. buffers_kept b (version_step s zs p e out)) (λ zs e. at_version_lem s out b r f zs p e)
        (λ n. either (leb (length xs) p)
        (λ e. absurd (n (ap (λ (x : Said). x.step.progress) (version_waits (leb-true (length xs) p e)))))
        (λ e. ap (buffers_kept b) (version_stays (leb-false (length xs) p e))))
        (λ n. either (leb (length xs) p)
        (λ e. ap (λ (x : Said). next (buffers_kept b x) (xs ++ ys) ended) (version_waits (leb-true (length xs) p e))
        ∙ at_version_lem s out b r f (xs ++ ys) p ended)
        (λ e. absurd (version_goes (leb-false (length xs) p e) n)))

-- ---- within a record that is too long

module _ (s : Session) (out : List ℕ) where
  long_whole : (zs : List ℕ) (p : ℕ) (e : Bool) → s.left ≤ length zs - p → long_step s zs p e out ≡ last_fault 22 (p + s.left) s.device out
  unfolding long_step
  long_whole zs p e h = pick_true _ _ _ (le-leb s.left (length zs - p) h)

  -- what follows where bytes are still to come: by the place behind those at hand, and how many are left then
  rest : Bool → ℕ → ℕ → Said
  rest e q left = pick e (last_fault 21 q s.device out) (without_line 1 q (in_phase 2 left s.device) out)

  long_rest : (zs : List ℕ) (p : ℕ) (e : Bool) → length zs - p < s.left → long_step s zs p e out ≡ rest e (p + (length zs - p)) (s.left - (length zs - p))
  unfolding long_step rest
  long_rest zs p e h = pick_false _ _ _ (lt-leb s.left (length zs - p) h)

  rest_waits : (q left : ℕ) → rest false q left ≡ without_line 1 q (in_phase 2 left s.device) out
  unfolding rest pick
  rest_waits q left = refl

-- counting the bytes in two goes comes to the same
long_moves : (s : Session) (out xs ys : List ℕ) (p : ℕ) (e : Bool) → length xs - p < s.left → long_step (in_phase 2 (s.left - (length xs - p)) s.device) (xs ++ ys) (p + (length xs - p)) e out ≡ long_step s (xs ++ ys) p e out
unfolding rest
long_moves s out xs ys p e h =
    either (leb s.left (length (xs ++ ys) - p))
    (λ f. long_whole (in_phase 2 (s.left - (length xs - p)) s.device) out (xs ++ ys) (p + (length xs - p)) e
    (omega (arith, leb-true s.left (length (xs ++ ys) - p) f, longer xs ys))
    ∙ ap (λ (n : ℕ). last_fault 22 n s.device out) (let z : p + (length xs - p) + (s.left - (length xs - p)) ≡ p + s.left = omega arith in z)
    ∙ sym (long_whole s out (xs ++ ys) p e (leb-true s.left (length (xs ++ ys) - p) f)))
    (λ f. long_rest (in_phase 2 (s.left - (length xs - p)) s.device) out (xs ++ ys) (p + (length xs - p)) e
    (omega (arith, leb-false s.left (length (xs ++ ys) - p) f, longer xs ys))
    ∙ ap
    (λ (n : ℕ). rest s out e n (s.left - (length xs - p) - (length (xs ++ ys) - (p + (length xs - p)))))
    (let
    z : p + (length xs - p) + (length (xs ++ ys) - (p + (length xs - p))) ≡ p + (length (xs ++ ys) - p) = omega (arith, longer xs ys)
    in
    z)
    ∙ ap
    (rest s out e (p + (length (xs ++ ys) - p)))
    (let
    z : s.left - (length xs - p) - (length (xs ++ ys) - (p + (length xs - p))) ≡ s.left - (length (xs ++ ys) - p) = omega (arith, longer xs ys)
    in
    z)
    ∙ sym (long_rest s out (xs ++ ys) p e (leb-false s.left (length (xs ++ ys) - p) f)))

module _ (s : Session) (out : List ℕ) (b : Buffers (List ℕ)) (xs ys : List ℕ) (p : ℕ) (ended : Bool) where
  long_step_lem : ltb (length out) 72 ≡ false → eqb s.phase 0 ≡ false → eqb s.phase 1 ≡ false → eqb s.phase 2 ≡ true → StepStands s xs p out b ys ended
  long_step_lem r f g h =
      by_function s out b xs ys p ended (λ zs e. buffers_kept b (long_step s zs p e out)) (λ zs e. at_long s out b r f g h zs p e)
      (λ n. either (leb s.left (length xs - p))
      (λ e. let
      k : s.left ≤ length xs - p = leb-true s.left (length xs - p) e
      in
      ap (buffers_kept b)
      (long_whole s out (xs ++ ys) p ended (omega (arith, k, longer xs ys)) ∙ sym (long_whole s out xs p false k)))
      (λ e. absurd (n (ap (λ (x : Said). x.step.progress) (waiting (leb-false s.left (length xs - p) e))))))
      (λ n. either (leb s.left (length xs - p))
      (λ e. absurd (two (sym (ap (λ (x : Said). x.step.progress) (long_whole s out xs p false (leb-true s.left (length xs - p) e))) ∙ n)))
      (λ e. ap (λ (x : Said). next (buffers_kept b x) (xs ++ ys) ended) (waiting (leb-false s.left (length xs - p) e))
      ∙ at_long (in_phase 2 (s.left - (length xs - p)) s.device) out b r refl refl refl (xs ++ ys) (p + (length xs - p)) ended
      ∙ ap (buffers_kept b) (long_moves s out xs ys p ended (leb-false s.left (length xs - p) e))))
    where
      waiting : length xs - p < s.left → long_step s xs p false out ≡ without_line 1 (p + (length xs - p)) (in_phase 2 (s.left - (length xs - p)) s.device) out
      waiting k = long_rest s out xs p false k ∙ rest_waits s out _ _

      two : ◌≡◌ {A = ℕ} 2 1 → ⊥
      two e = omega (arith, e)

-- ---- a record

module _ (s : Session) (out : List ℕ) (b : Buffers (List ℕ)) where
  step_short : (zs : List ℕ) (p : ℕ) (e : Bool) → long_length zs p ≡ 0 → record_step s zs p e out b ≡ by_record (record_at zs p e) s zs out b
  unfolding record_step
  step_short zs p e h = pick_true _ _ _ (eq-eqb (long_length zs p) 0 h)

  step_long : (zs : List ℕ) (p : ℕ) (e : Bool) → (long_length zs p ≡ 0 → ⊥) → record_step s zs p e out b ≡ buffers_kept b (without_line 0 (p + 2) (in_phase 2 (long_length zs p) s.device) out)
  unfolding record_step
  step_long zs p e h = pick_false _ _ _ (ne_eqb (long_length zs p) 0 h)

  -- nothing but a record that is not all there waits
  by_record_waits : (zs : List ℕ) (p : ℕ) → by_record (none 0 p) s zs out b ≡ buffers_kept b (without_line 1 p s out)
  unfolding by_record pick
  by_record_waits zs p = refl

  by_record_goes : (r : Record) (zs : List ℕ) → (r.number ≡ 0 → ⊥) → (by_record r s zs out b).said.step.progress ≡ 1 → ⊥
  unfolding by_record
  by_record_goes r zs h =
      pick_cases (λ (o : Outcome). o.said.step.progress ≡ 1 → ⊥) (eqb r.number 0) _ _
      (λ e. absurd (h (eqb-true r.number 0 e)))
      (λ e. pick_both (λ (o : Outcome). o.said.step.progress ≡ 1 → ⊥) _ _ _ (λ z. omega (arith, z))
      (pick_both (λ (o : Outcome). o.said.step.progress ≡ 1 → ⊥) _ _ _ (λ z. omega (arith, z)) (λ z. omega (arith, z))))

  -- a record does the same with any bytes that give the same entry
  by_record_stays : (r : Record) (zs xs : List ℕ) → entry_of zs r ≡ entry_of xs r → by_record r s zs out b ≡ by_record r s xs out b
  unfolding by_record
  by_record_stays r zs xs e =
      ap
      (λ (x : Entry flat (List Poke)). pick (eqb r.number 0) (buffers_kept b (without_line 1 r.next s out))
      (pick (eqb r.number 5) (buffers_kept b (last_counts r.next s.device out))
      (pick (leb 20 r.number) (buffers_kept b (last_fault r.number r.next s.device out))
      (carried r (enter flat flat_outside x (system_with s.device b)) out))))
      e

  module _ (xs ys : List ℕ) (p : ℕ) (ended : Bool) where
    -- what is not all there is nothing yet
    waits_here : (record_at xs p false).number ≡ 0 → record_at xs p false ≡ none 0 p
    waits_here n =
        either (leb (length xs) p) (waits_behind xs ys p)
        (λ e. either (leb (length xs) (p + 1)) (waits_length xs ys p e)
        (λ f. either (ltb (length xs - (p + 2)) (word xs p)) (waits_bytes xs ys p e f)
        (λ g. let
        h : p + 2 + word xs p ≤ length xs = omega (arith, leb-false (length xs) (p + 1) f, ltb-false (length xs - (p + 2)) (word xs p) g)
        in
        absurd (omega (arith, subst (λ (r : Record). 0 < r.number) (sym (record_is xs ys p xs false h)) some, n)))))
      where
        some : 0 < (pick (eqb (word xs p) 0) (none 22 p) (of_kind xs p (word xs p) (get_or xs (p + 2) 0))).number
        some = pick_both (λ (r : Record). 0 < r.number) _ _ _ (omega arith) (stands_kind xs p (word xs p) (get_or xs (p + 2) 0)).some

    short_stands : long_length xs p ≡ 0 → ((record_at xs p false).number ≡ 0 → ⊥) → record_step s (xs ++ ys) p ended out b ≡ record_step s xs p false out b
    short_stands l n =
        let w = whole xs ys p n in
        step_short (xs ++ ys) p ended (long_stays xs ys p w.length_there ∙ l)
        ∙ ap (λ (r : Record). by_record r s (xs ++ ys) out b) (record_stays xs ys p w ended)
        ∙ by_record_stays (record_at xs p false) (xs ++ ys) xs (entry_stays xs ys (record_at xs p false) (within xs ys p w))
        ∙ sym (step_short xs p false l)

    long_stands : (long_length xs p ≡ 0 → ⊥) → record_step s (xs ++ ys) p ended out b ≡ record_step s xs p false out b
    long_stands l =
        let e = long_stays xs ys p (long_there xs p l) in
        step_long (xs ++ ys) p ended (λ z. l (sym e ∙ z))
        ∙ ap (λ (n : ℕ). buffers_kept b (without_line 0 (p + 2) (in_phase 2 n s.device) out)) e
        ∙ sym (step_long xs p false l)

    record_step_lem : ltb (length out) 72 ≡ false → eqb s.phase 0 ≡ false → eqb s.phase 1 ≡ true → StepStands s xs p out b ys ended
    record_step_lem r f g =
        by_function s out b xs ys p ended (λ zs e. record_step s zs p e out b) (λ zs e. at_record_lem s out b r f g zs p e)
        (λ n. either (eqb (long_length xs p) 0)
        (λ l. short_stands (eqb-true (long_length xs p) 0 l)
        (λ z. n (ap (λ (o : Outcome). o.said.step.progress) (waiting (eqb-true (long_length xs p) 0 l) z))))
        (λ l. long_stands (eqb-false (long_length xs p) 0 l)))
        (λ n. either (eqb (long_length xs p) 0)
        (λ l. either (eqb (record_at xs p false).number 0)
        (λ z. ap (λ (o : Outcome). next o (xs ++ ys) ended) (waiting (eqb-true (long_length xs p) 0 l) (eqb-true (record_at xs p false).number 0 z))
        ∙ at_record_lem s out b r f g (xs ++ ys) p ended)
        (λ z. absurd (by_record_goes (record_at xs p false) xs (eqb-false (record_at xs p false).number 0 z)
        (sym (ap (λ (o : Outcome). o.said.step.progress) (step_short xs p false (eqb-true (long_length xs p) 0 l))) ∙ n))))
        (λ l. absurd (zero_one (sym (ap (λ (o : Outcome). o.said.step.progress) (step_long xs p false (eqb-false (long_length xs p) 0 l))) ∙ n))))
      where
        waiting : long_length xs p ≡ 0 → (record_at xs p false).number ≡ 0 → record_step s xs p false out b ≡ buffers_kept b (without_line 1 p s out)
        waiting l z =
            step_short xs p false l
            ∙ ap (λ (x : Record). by_record x s xs out b) (waits_here z)
            ∙ by_record_waits xs p

        zero_one : ◌≡◌ {A = ℕ} 0 1 → ⊥
        zero_one e = omega (arith, e)

pub step_stands : (s : Session) (xs : List ℕ) (p : ℕ) (out : List ℕ) (b : Buffers (List ℕ)) (ys : List ℕ) (ended : Bool) → StepStands s xs p out b ys ended
step_stands s xs p out b ys ended =
    either (ltb (length out) 72) (λ r. by_none s out b xs ys p ended _ (λ e. omega (arith, e)) (λ zs e. without_room s out b r zs p e))
    (λ r. either (eqb s.phase 0) (version s out b xs ys p ended r)
    (λ f. either (eqb s.phase 1) (record_step_lem s out b xs ys p ended r f)
    (λ g. either (eqb s.phase 2) (long_step_lem s out b xs ys p ended r f g)
    (λ h. by_none s out b xs ys p ended _ (λ e. omega (arith, e)) (λ zs e. at_over s out b r f g h zs p e)))))
