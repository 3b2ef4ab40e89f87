-- Warnings: by the table's rows, one after the other, and counted over all bytes; by the two cases of a call; along a list by
-- the history that its run agrees with, and entry by entry.
-- Assumes nothing.
use Prim.Native.Nat.{ℕ, ◌/◌, ◌%◌, ◌≤◌, ◌<◌}
use native.Mathlib.Omega.{arith}
use mathlib.Core.Path.{◌≡◌, refl, sym, ◌∙◌, ap}
use mathlib.Core.Bool.{Bool, true, false}
use mathlib.Core.Logic.{◌⊎◌, inl, inr, ⊎_elim}
use mathlib.Core.List.{List, [], ◌∷◌}
use lib.Dec.{eqb}
use borrow.Author.Tests.{eqb-true, eqb-false, eq-eqb, ne_eqb}
use Rattle.rules.specs.Choice.{pick, every, any}
use Rattle.rules.specs.Selection.{selects}
use Rattle.rules.specs.Pending.{a_low, a_high, length_low, length_high, a_timing, b_timing, prescaler, b_low, b_high, read_mask, nothing, next}
use Rattle.rules.specs.Warnings.{discouraged_operation, discouraged_timing, discouraged_mode, warning_as, warning}
use Rattle.rules.specs.Validity.{total}
use Rattle.rules.specs.Steering.{Steering}
use Rattle.rules.specs.Clock.{Clock}
use Rattle.rules.specs.Buffers.{Store}
use Rattle.rules.specs.World.{SystemOf, System}
use Rattle.rules.specs.Refusals.{access_refusal}
use Rattle.rules.specs.Calls.{ReplyOf, Reply, AnswerOf, unless_refused, write_reply, read_reply, speed_reply, write_reply_over, read_reply_over, speed_reply_over, grant_over}
use Rattle.rules.specs.Exactly.{Exactly, selected}
use Rattle.rules.specs.Entries.{Outside, Entry, port_write, port_read, speed_call, clock_grant, other_grant, outside_change, enter_over, run_over, run, enter, beside_buffers, system_at_power_on}
use Rattle.rules.specs.History.{Past, noted_unless, note_entry, past_at_power_on}
use Rattle.rules.specs.Unwarned.{BareReplyOf, BareAnswerOf, bare_unless_refused, bare_write_reply_over, bare_read_reply_over, bare_speed_reply_over, bare_grant_over, bare_enter_over, bare_run_over, bare_beside}
use Rattle.rules.specs.Warned.{warned_below, unwarned, warned_bytes, WarningExact, WarningAnswered, warnings_of, entry_warning, warnings_along, WarningsNoted, bare_reply, bare_answer, bare_answers, bare_run, WarningsAside}
use Rattle.rules.specs.Opened.{opened}
use Rattle.rules.specs.declared.Clocks.{Clocks}
use Rattle.rules.specs.declared.Core.{Core}
use Rattle.rules.proofs.Choice.{pick_true, pick_false, pick_both, pick_ap, both_picked, either, table, below, ◌⨾◌, row_passed, row_taken, shows, every_at, all_true, true_all, any_first, any_more, any_cases, any_none}
use Rattle.rules.proofs.Selection.{idle, wr0_exact, wr4_exact}
use Rattle.rules.proofs.Calls.{grant_plain}
use Rattle.rules.proofs.Refusing.{write_number}
use Rattle.rules.proofs.Accounts.{Agree, entry_step, start_agrees}

-- ---- two values

-- one of two numbers, as a test and as a fact
one_of : (n x y : ℕ) → any (eqb n x ∷ eqb n y ∷ []) ≡ true → (n ≡ x) ⊎ (n ≡ y)
one_of n x y e =
    any_cases _ _ e (λ d. inl (eqb-true _ _ d)) (λ r. any_cases _ _ r (λ d. inr (eqb-true _ _ d)) any_none)

of_one : (n x y : ℕ) → (n ≡ x) ⊎ (n ≡ y) → any (eqb n x ∷ eqb n y ∷ []) ≡ true
of_one n x y (inl e) = any_first _ _ (eq-eqb _ _ e)
of_one n x y (inr e) = any_more _ _ (any_first _ _ (eq-eqb _ _ e))

neither : (n x y : ℕ) → (n ≡ x → ⊥) → (n ≡ y → ⊥) → any (eqb n x ∷ eqb n y ∷ []) ≡ false
unfolding any
neither n x y f g = pick_false _ _ _ (ne_eqb _ _ f) ∙ pick_false _ _ _ (ne_eqb _ _ g)

-- ---- the three tests as facts, by what is next

operation_facts : (n byte : ℕ) → discouraged_operation n byte ≡ true → (n ≡ 0) × (byte < 128) × ((byte % 4 ≡ 2) ⊎ (byte % 4 ≡ 3))
operation_facts n byte e =
    let h = all_true _ e in
    let i = all_true _ h.0 in
    (eqb-true _ _ i.0, ((wr0_exact byte).to (eqb-true _ _ i.1.0)).0, one_of (byte % 4) 2 3 h.1.0)

facts_operation : (n byte : ℕ) → n ≡ 0 → byte < 128 → (byte % 4 ≡ 2) ⊎ (byte % 4 ≡ 3) → discouraged_operation n byte ≡ true
facts_operation n byte e l h =
    let s = (wr0_exact byte).from (l, ⊎_elim (λ d z. omega (arith, d, z)) (λ d z. omega (arith, d, z)) h) in
    true_all _ (true_all _ (eq-eqb _ _ e, (eq-eqb _ _ s, tt)), (of_one (byte % 4) 2 3 h, tt))

timing_facts : (n byte : ℕ) → discouraged_timing n byte ≡ true → ((n ≡ 16) ⊎ (n ≡ 32)) × (byte % 4 ≡ 3)
timing_facts n byte e = let h = all_true _ e in (one_of n 16 32 h.0, eqb-true _ _ h.1.0)

mode_facts : (n byte : ℕ) → discouraged_mode n byte ≡ true → (n ≡ 0) × (128 ≤ byte) × (byte % 4 ≡ 1) × ((byte / 32 % 4 ≡ 0) ⊎ (byte / 32 % 4 ≡ 3))
mode_facts n byte e =
    let h = all_true _ e in
    let i = all_true _ h.0 in
    let s = (wr4_exact byte).to (eqb-true _ _ i.1.0) in
    (eqb-true _ _ i.0, s.0, s.1, one_of (byte / 32 % 4) 0 3 h.1.0)

-- ---- which rows a byte passes by

-- those of the registers where a parameter is next, or another register is selected; that of the timing where none is
not_next : (number n byte : ℕ) (t : Bool) → (n ≡ 0 → ⊥) → every (every (eqb n 0 ∷ eqb (selects byte) number ∷ []) ∷ t ∷ []) ≡ false
not_next number n byte t h = every_at 0 _ (every_at 0 _ (ne_eqb _ _ h))

not_selected : (number n byte : ℕ) (t : Bool) → (selects byte ≡ number → ⊥) → every (every (eqb n 0 ∷ eqb (selects byte) number ∷ []) ∷ t ∷ []) ≡ false
not_selected number n byte t h = every_at 0 _ (every_at 1 _ (ne_eqb _ _ h))

not_timing : (n byte : ℕ) → n ≡ 0 → discouraged_timing n byte ≡ false
not_timing n byte e = every_at 0 _ (neither n 16 32 (λ z. omega (arith, e, z)) (λ z. omega (arith, e, z)))

-- all three
none_of : (n byte : ℕ) → discouraged_operation n byte ≡ false → discouraged_timing n byte ≡ false → discouraged_mode n byte ≡ false → warning_as n byte ≡ 0
unfolding warning_as
none_of n byte c d e = row_passed _ _ _ c ∙ row_passed _ _ _ d ∙ row_passed _ _ _ e ∙ table (λ (w : ℕ). w ≡ 0) (below refl)

-- ---- each warning, in both directions

operation_exact : (p byte : ℕ) → Exactly (warning p byte ≡ 1) ((next p ≡ 0) × (byte < 128) × ((byte % 4 ≡ 2) ⊎ (byte % 4 ≡ 3)))
unfolding warning_as
operation_exact p byte =
    record {
      to = λ e. shows 1 _ _ e (operation_facts (next p) byte, tt);
      from = λ h. row_taken _ _ _ (facts_operation (next p) byte h.0 h.1 h.2);
    }

timing_exact : (p byte : ℕ) → Exactly (warning p byte ≡ 2) (((next p ≡ 16) ⊎ (next p ≡ 32)) × (byte % 4 ≡ 3))
unfolding warning_as
timing_exact p byte =
    record {
      to = λ e. shows 2 _ _ e (timing_facts (next p) byte, tt);
      from =
          λ h.
          row_passed _ _ _ (not_next 0 (next p) byte _ (λ z. ⊎_elim (λ d. omega (arith, d, z)) (λ d. omega (arith, d, z)) h.0))
          ∙ row_taken _ _ _ (true_all _ (of_one (next p) 16 32 h.0, (eq-eqb _ _ h.1, tt)));
    }

mode_exact : (p byte : ℕ) → Exactly (warning p byte ≡ 3) ((next p ≡ 0) × (128 ≤ byte) × (byte % 4 ≡ 1) × ((byte / 32 % 4 ≡ 0) ⊎ (byte / 32 % 4 ≡ 3)))
unfolding warning_as
mode_exact p byte =
    record {
      to = λ e. shows 3 _ _ e (mode_facts (next p) byte, tt);
      from =
          λ h.
          let s = (wr4_exact byte).from (h.1, h.2) in
          row_passed _ _ _ (not_selected 0 (next p) byte _ (λ z. omega (arith, s, z)))
          ∙ row_passed _ _ _ (not_timing (next p) byte h.0)
          ∙ row_taken _ _ _ (true_all _ (true_all _ (eq-eqb _ _ h.0, (eq-eqb _ _ s, tt)), (of_one (byte / 32 % 4) 0 3 h.3, tt)));
    }

at_most : (p byte : ℕ) → warning p byte ≤ 3
unfolding warning_as
at_most p byte = table (λ (w : ℕ). w ≤ 3) (omega arith ⨾ omega arith ⨾ omega arith ⨾ below (omega arith))

-- ---- near misses

no_parameter : (p byte : ℕ) → (next p ≡ 0 → ⊥) → (next p ≡ 16 → ⊥) → (next p ≡ 32 → ⊥) → warning p byte ≡ 0
no_parameter p byte f g h =
    none_of (next p) byte (not_next 0 (next p) byte _ f) (every_at 0 _ (neither (next p) 16 32 g h)) (not_next 4 (next p) byte _ f)

no_register : (p byte : ℕ) → next p ≡ 0 → (selects byte ≡ 0 → ⊥) → (selects byte ≡ 4 → ⊥) → warning p byte ≡ 0
no_register p byte e f g =
    none_of (next p) byte (not_selected 0 (next p) byte _ f) (not_timing (next p) byte e) (not_selected 4 (next p) byte _ g)

plain_operation : (p byte : ℕ) → next p ≡ 0 → selects byte ≡ 0 → byte % 4 ≡ 1 → warning p byte ≡ 0
plain_operation p byte e s a =
    none_of (next p) byte (every_at 1 _ (neither (byte % 4) 2 3 (λ z. omega (arith, a, z)) (λ z. omega (arith, a, z)))) (not_timing (next p) byte e)
    (not_selected 4 (next p) byte _ (λ z. omega (arith, s, z)))

no_selection : (p byte : ℕ) → next p ≡ 0 → selected byte ≡ 0 → warning p byte ≡ 0
no_selection p byte e s =
    let n = idle byte s in no_register p byte e (λ z. omega (arith, n, z)) (λ z. omega (arith, n, z))

-- ---- counted

of_registers_lem : warned_bytes nothing ≡ 64 ∷ 0 ∷ 16 ∷ []
unfolding opened warned_below
of_registers_lem = refl

of_timings : (warned_bytes a_timing ≡ 0 ∷ 64 ∷ 0 ∷ []) × (warned_bytes b_timing ≡ 0 ∷ 64 ∷ 0 ∷ [])
unfolding opened warned_below
of_timings = (refl, refl)

of_others :
    unwarned a_low ∷ unwarned a_high ∷ unwarned length_low ∷ unwarned length_high ∷ unwarned prescaler ∷ unwarned b_low ∷ unwarned b_high ∷ unwarned read_mask ∷ []
    ≡ 256 ∷ 256 ∷ 256 ∷ 256 ∷ 256 ∷ 256 ∷ 256 ∷ 256 ∷ []
unfolding opened warned_below
of_others = refl

pub warning_exact : WarningExact
warning_exact =
    record {
      operation = operation_exact;
      timing = timing_exact;
      mode = mode_exact;
      most = at_most;
      parameter = no_parameter;
      register = no_register;
      plain = plain_operation;
      idle = no_selection;
      registers = of_registers_lem;
      timings = of_timings;
      others = of_others;
    }

-- ---- calls

-- the warning of a write by core and sum alone
abbrev write_warning : Core → ℕ → ℕ → ℕ → ℕ
write_warning c sum port byte = pick (eqb (access_refusal c sum port) 0) (warning c.pending byte) 0

write_warned : (c : Core) (k : Clocks) (port byte : ℕ) → (write_reply c k port byte).answered.warning ≡ write_warning c (total k) port byte
unfolding write_reply_over unless_refused
write_warned c k port byte = pick_ap (λ (r : Reply). r.answered.warning) _ _ _

write_warning_lem : (c : Core) (k : Clocks) (port byte : ℕ) → access_refusal c (total k) port ≡ 0 → (write_reply c k port byte).answered.warning ≡ warning c.pending byte
write_warning_lem c k port byte e = write_warned c k port byte ∙ pick_true _ _ _ (eq-eqb _ _ e)

write_none : (c : Core) (k : Clocks) (port byte : ℕ) → (access_refusal c (total k) port ≡ 0 → ⊥) → (write_reply c k port byte).answered.warning ≡ 0
write_none c k port byte f = write_warned c k port byte ∙ pick_false _ _ _ (ne_eqb _ _ f)

write_exact :
    (c : Core) (k : Clocks) (port byte w : ℕ) → (w ≡ 0 → ⊥)
    → Exactly ((write_reply c k port byte).answered.warning ≡ w) (((write_reply c k port byte).answered.number ≡ 0) × (warning c.pending byte ≡ w))
write_exact c k port byte w f =
    record {
      to =
          λ e.
          either (eqb (access_refusal c (total k) port) 0)
          (λ t. let z = eqb-true _ _ t in (write_number c k port byte ∙ z, sym (write_warning_lem c k port byte z) ∙ e))
          (λ t. absurd (f (sym e ∙ write_none c k port byte (eqb-false _ _ t))));
      from = λ h. write_warning_lem c k port byte (sym (write_number c k port byte) ∙ h.0) ∙ h.1;
    }

-- a call that has none if it is accepted
unless_none : (number byte : ℕ) (next c : Core) (k : Clocks) → (unless_refused number byte 0 next c k).answered.warning ≡ 0
unfolding unless_refused
unless_none number byte next c k = pick_both (λ (r : Reply). r.answered.warning ≡ 0) _ _ _ refl refl

read_none : (c : Core) (k : Clocks) (port : ℕ) → (read_reply c k port).answered.warning ≡ 0
unfolding read_reply_over
read_none c k port = unless_none _ _ _ c k

speed_none : (c : Core) (k : Clocks) (code : ℕ) → (speed_reply c k code).answered.warning ≡ 0
unfolding speed_reply_over
speed_none c k code = unless_none _ _ _ c k

pub warning_answered : WarningAnswered
warning_answered =
    record {
      write = write_warning_lem;
      refused = write_none;
      exact = write_exact;
      read = read_none;
      speed = speed_none;
      granted = λ σ s n. (grant_plain σ s n).1;
    }

-- ---- lists

module _ {M C : Type 0} (σ : Store M) (ω : Outside M C) where
  -- an entry's warning is that by a history which agrees with the system
  entry_warned : (e : Entry σ C) (s : System M) (p : Past M) → Agree s p → (enter σ ω e s).answered.warning ≡ entry_warning σ ω e p
  unfolding noted_unless
  entry_warned (port_write port byte) s p a =
      write_warned s.world.core s.clocks port byte
      ∙ (λ i. write_warning (a.world i).core (a.sum i) port byte)
  entry_warned (port_read port) s p a = read_none s.world.core s.clocks port
  entry_warned (speed_call code) s p a = speed_none s.world.core s.clocks code
  entry_warned (clock_grant n) s p a = (grant_plain σ s n).1
  entry_warned (other_grant n b wrong) s p a = (grant_plain σ (beside_buffers b s) n).1
  entry_warned (outside_change x) s p a = refl

  warnings_same : (es : List (Entry σ C)) (s : System M) (p : Past M) → Agree s p → warnings_of (run σ ω es s).answers ≡ warnings_along σ ω es p
  unfolding run_over warnings_of warnings_along
  warnings_same [] s p a = refl
  warnings_same (e ∷ es) s p a =
      let w = entry_warned e s p a in
      let r = warnings_same es (enter σ ω e s).system (note_entry σ ω e p).past (entry_step σ ω e s p a).agree in
      λ i. w i ∷ r i

pub warnings_noted : WarningsNoted
warnings_noted M C σ ω m l es = warnings_same σ ω es (system_at_power_on m l) (past_at_power_on m l) (start_agrees m l)

-- ---- without warnings

module _ {D : Type 0} where
  unless_bare : (number byte warning : ℕ) (next d : D) (k : Clocks) → bare_reply (unless_refused number byte warning next d k) ≡ bare_unless_refused number byte next d k
  unfolding unless_refused bare_unless_refused
  unless_bare number byte warning next d k =
      both_picked (λ (r : ReplyOf D) (b : BareReplyOf D). bare_reply r ≡ b) _ _ _ _ _ (λ e. refl) (λ e. refl)

  write_bare : (δ : Steering D) (d : D) (k : Clocks) (port byte : ℕ) → bare_reply (write_reply_over δ d k port byte) ≡ bare_write_reply_over δ d k port byte
  unfolding write_reply_over bare_write_reply_over
  write_bare δ d k port byte = unless_bare _ _ _ _ d k

  read_bare : (δ : Steering D) (d : D) (k : Clocks) (port : ℕ) → bare_reply (read_reply_over δ d k port) ≡ bare_read_reply_over δ d k port
  unfolding read_reply_over bare_read_reply_over
  read_bare δ d k port = unless_bare _ _ _ _ d k

  speed_bare : (δ : Steering D) (d : D) (k : Clocks) (code : ℕ) → bare_reply (speed_reply_over δ d k code) ≡ bare_speed_reply_over δ d k code
  unfolding speed_reply_over bare_speed_reply_over
  speed_bare δ d k code = unless_bare _ _ _ _ d k

module _ {D M : Type 0} (δ : Steering D) (κ : Core → Clock) (σ : Store M) where
  grant_bare : (s : SystemOf D M) (n : ℕ) → bare_answer (grant_over δ κ σ s n) ≡ bare_grant_over δ κ σ s n
  unfolding grant_over bare_grant_over
  grant_bare s n =
      both_picked (λ (a : AnswerOf D M) (b : BareAnswerOf D M). bare_answer a ≡ b) _ _ _ _ _ (λ e. refl) (λ e. refl)

module _ {D M C : Type 0} (δ : Steering D) (κ : Core → Clock) (σ : Store M) (ω : Outside M C) where
  entry_bare : (e : Entry σ C) (s : SystemOf D M) → bare_answer (enter_over δ κ σ ω e s) ≡ bare_enter_over δ κ σ ω e s
  entry_bare (port_write port byte) s = ap (bare_beside s.world.buffers) (write_bare δ s.world.core s.clocks port byte)
  entry_bare (port_read port) s = ap (bare_beside s.world.buffers) (read_bare δ s.world.core s.clocks port)
  entry_bare (speed_call code) s = ap (bare_beside s.world.buffers) (speed_bare δ s.world.core s.clocks code)
  entry_bare (clock_grant n) s = grant_bare δ κ σ s n
  entry_bare (other_grant n b wrong) s =
      ap (λ (a : BareAnswerOf D M). record { answered = a.answered; system = beside_buffers s.world.buffers a.system })
      (grant_bare δ κ σ (beside_buffers b s) n)
  entry_bare (outside_change x) s = refl

  run_bare : (es : List (Entry σ C)) (s : SystemOf D M) → bare_run (run_over δ κ σ ω es s) ≡ bare_run_over δ κ σ ω es s
  unfolding run_over bare_run_over bare_answers
  run_bare [] s = refl
  run_bare (e ∷ es) s =
      let h = entry_bare e s in
      let r = run_bare es (enter_over δ κ σ ω e s).system ∙ ap (λ (t : SystemOf D M). bare_run_over δ κ σ ω es t) (λ i. (h i).system) in
      λ i. record { answers = (h i).answered ∷ (r i).answers; system = (r i).system }

pub warnings_aside : WarningsAside
warnings_aside =
    record {
      write = write_bare;
      read = read_bare;
      speed = speed_bare;
      granted = grant_bare;
      runs = run_bare;
    }
