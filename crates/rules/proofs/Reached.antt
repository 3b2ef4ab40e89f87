-- Every entry keeps a valid device valid, so every list from power-on does; a clock that puts the counter to zero finds it
-- at most 65,536, since a byte moves only while the block is not finished.
-- Assumes nothing.
use Prim.Native.Nat.{ℕ, zero, suc, ◌+◌, ◌≤◌}
use native.Mathlib.Omega.{arith}
use mathlib.Core.Path.{◌≡◌, sym, ◌∙◌, ap, subst}
use mathlib.Core.Bool.{true, false, not}
use mathlib.Core.List.{List, [], ◌∷◌}
use lib.Dec.{eqb}
use lib.ListN.{length}
use borrow.Author.Tests.{leb-false, eqb-true, eqb-false, eq-eqb, not-true}
use Rattle.rules.specs.Choice.{first_hit}
use Rattle.rules.specs.Bytes.{AreBytes}
use Rattle.rules.specs.Slots.{slot_of, unmoved}
use Rattle.rules.specs.Facts.{Kept}
use Rattle.rules.specs.Clock.{Clock, slot_clock, clock_of}
use Rattle.rules.specs.Buffers.{Store, length_refusal, flat, Buffers}
use Rattle.rules.specs.World.{World, System}
use Rattle.rules.specs.Refusals.{access_refusal, speed_refusal, grant_refusal}
use Rattle.rules.specs.Entries.{Outside, Poke, flat_outside, Entry, port_write, port_read, speed_call, clock_grant, other_grant, outside_change, bytes_written, enter, run, run_over}
use Rattle.rules.specs.History.{Past, write_passed, noted_unless, clocks_passed, note_entry, history, clocks_passed_by, history_by}
use Rattle.rules.specs.Accounts.{held_before}
use Rattle.rules.specs.Reached.{CountersNoted, EveryReached, NoneIs, Lends, WrongMemory, WrongLatches, OwnServe, AsksAbove, OnlyAbove, AnswersReached}
use Rattle.rules.specs.declared.Slot.{Slot}
use Rattle.rules.specs.declared.Core.{Core}
use Rattle.rules.proofs.Choice.{clash, pick_true, pick_false, pick_cases, pick_both, either, all_true, any_cases, any_none}
use Rattle.rules.proofs.Slots.{slot_runs, unmoved_first, unmoved_below}
use Rattle.rules.proofs.Steady.{kept_progress}
use Rattle.rules.proofs.Blocks.{unfinished_room}
use Rattle.rules.proofs.Clock.{clock_kept}
use Rattle.rules.proofs.Calls.{device_valid, ValidSystem, flat_memory, stays_valid}
use Rattle.rules.proofs.Refusing.{access_exact, speed_exact, grant_exact, refusals_exact}
use Rattle.rules.proofs.Counter.{clock_balanced}
use Rattle.rules.proofs.Entries.{entry_valid, reached_valid, pokes_keep_length}
use Rattle.rules.proofs.Splitting.{grant_same}
use Rattle.rules.proofs.Accounts.{Agree, entry_step, start_agrees}

-- ---- counters

-- before the clock on which the byte moves it has not moved
move_unmoved : (c : Core) → c.slot.elapsed + 1 ≡ (slot_of c).bus → unmoved c.slot ≡ true
move_unmoved c e =
    either (eqb c.slot.elapsed 0)
    (λ z. unmoved_first c.slot (eqb-true _ _ z))
    (λ z.
    let at : c.slot.elapsed + 1 ≡ c.slot.bus = e ∙ ap (λ (s : Slot). s.bus) (slot_runs c (eqb-false _ _ z)) in
    unmoved_below c.slot (omega arith))

-- where a byte moves on a clock, the counter has room for it
move_room : (c : Core) → Kept c → (clock_of c).moves ≡ true → c.block.counter + 1 ≤ 65536
unfolding clock_of slot_clock
move_room c k =
    pick_cases (λ (x : Clock). x.moves ≡ true → c.block.counter + 1 ≤ 65536) _ _ _
    (λ on m. unfinished_room _ k.range.length (kept_progress c k on (move_unmoved c (eqb-true _ _ m))))
    (λ e m. clash m)

-- what the counter held, if a clock puts it to zero
zeroed_most : (c : Core) → Kept c → held_before (clock_of c).zeroed ≤ 65536
zeroed_most c k =
    let h = clock_balanced c in
    either (clock_of c).moves
    (λ m. let p = pick_true {X = ℕ} (clock_of c).moves 1 0 m in let r = move_room c k m in omega (arith, h, p, r))
    (λ m. let p = pick_false {X = ℕ} (clock_of c).moves 1 0 m in omega (arith, h, p, k.valid.counter))

module _ {M : Type 0} (σ : Store M) where
  clocks_noted_lem : (n : ℕ) (p : Past M) → Kept p.world.core → CountersNoted p.events → CountersNoted (clocks_passed σ n p).events × Kept (clocks_passed σ n p).world.core
  unfolding clocks_passed_by CountersNoted
  clocks_noted_lem zero p k h = (h, k)
  clocks_noted_lem (suc n) p k h =
      let i = clocks_noted_lem n p k h in ((zeroed_most _ i.1, i.0), clock_kept _ i.1)

module _ {M C : Type 0} (σ : Store M) (ω : Outside M C) where
  -- one entry
  entry_noted : (e : Entry σ C) (p : Past M) → Kept p.world.core → CountersNoted p.events → CountersNoted (note_entry σ ω e p).past.events
  unfolding noted_unless write_passed CountersNoted
  entry_noted (port_write port byte) p k h =
      pick_both (λ (q : Past M). CountersNoted q.events) _ _ _
      (pick_both (λ (q : Past M). CountersNoted q.events) _ _ _ (k.valid.counter, h) h) h
  entry_noted (port_read port) p k h = pick_both (λ (q : Past M). CountersNoted q.events) _ _ _ h h
  entry_noted (speed_call code) p k h = pick_both (λ (q : Past M). CountersNoted q.events) _ _ _ h h
  entry_noted (clock_grant n) p k h =
      pick_both (λ (q : Past M). CountersNoted q.events) _ _ _ (clocks_noted_lem σ n _ k h).0 h
  entry_noted (other_grant n b wrong) p k h =
      pick_both (λ (q : Past M). CountersNoted q.events) _ _ _ (clocks_noted_lem σ n _ k h).0 h
  entry_noted (outside_change x) p k h = h

  -- a list of entries
  list_noted : (es : List (Entry σ C)) (s : System M) (p : Past M) → AreBytes (bytes_written es) → ValidSystem s → Agree s p → CountersNoted p.events → CountersNoted (history σ ω es p).past.events
  unfolding history_by
  list_noted [] s p b v a h = h
  list_noted (e ∷ es) s p b v a h =
      let n = entry_valid σ ω e es s b v in
      list_noted es _ _ n.1 n.0 (entry_step σ ω e s p a).agree
      (entry_noted e p (subst (λ (w : World M). Kept w.core) a.world v.core) h)

pub every_reached : EveryReached
unfolding CountersNoted
every_reached M C σ ω m l es b =
    let v = reached_valid σ ω m l es b in
    record {
      facts = v;
      test = device_valid _ _ v;
      counter = v.core.valid.counter;
      noted = list_noted σ ω es _ _ b (stays_valid σ).power_on_lem (start_agrees m l) tt;
    }

-- ---- the numbers of the answers

-- a test that is false of a number
not_number : (n k : ℕ) → eqb n k ≡ false → n ≡ k → ⊥
not_number n k e h = clash (sym e ∙ eq-eqb _ _ h)

-- an entry is not answered with 1, where the device is valid
entry_answered : (e : Entry flat (List Poke)) (s : System (List ℕ)) → ValidSystem s → (enter flat flat_outside e s).answered.number ≡ 1 → ⊥
entry_answered (port_write port byte) s v h =
    not_number _ 1 ((access_exact _ _ port).one ∙ ap not (device_valid _ _ v)) (sym (refusals_exact.write _ _ port byte) ∙ h)
entry_answered (port_read port) s v h =
    not_number _ 1 ((access_exact _ _ port).one ∙ ap not (device_valid _ _ v)) (sym (refusals_exact.read _ _ port) ∙ h)
entry_answered (speed_call code) s v h =
    not_number _ 1 ((speed_exact _ _ code).one ∙ ap not (device_valid _ _ v)) (sym (refusals_exact.speed _ _ code) ∙ h)
entry_answered (clock_grant n) s v h =
    not_number _ 1 ((grant_exact _ _ _ n).one ∙ ap not (device_valid _ _ v)) (sym (refusals_exact.granted _ n) ∙ h)
entry_answered (other_grant n b wrong) s v h =
    not_number _ 1 ((grant_exact _ _ _ n).one ∙ ap not (device_valid _ _ v)) (sym (refusals_exact.granted _ n) ∙ h)
entry_answered (outside_change x) s v h = absurd (omega (arith, h))

none_is_one : (es : List (Entry flat (List Poke))) (s : System (List ℕ)) → AreBytes (bytes_written es) → ValidSystem s → NoneIs 1 (run flat flat_outside es s).answers
unfolding run_over NoneIs
none_is_one [] s b v = tt
none_is_one (e ∷ es) s b v =
    let n = entry_valid flat flat_outside e es s b v in (entry_answered e s v, none_is_one es _ n.1 n.0)

-- the list's own buffers are not refused
record Own (b : Buffers (List ℕ)) : Type 0 where
  memory : flat.refusal b.memory ≡ 0
  latches : length b.latches ≡ 65536

entry_own : (e : Entry flat (List Poke)) (s : System (List ℕ)) → Own s.world.buffers → Own (enter flat flat_outside e s).system.world.buffers
entry_own (port_write port byte) s o = o
entry_own (port_read port) s o = o
entry_own (speed_call code) s o = o
entry_own (clock_grant n) s o =
    let h = grant_same flat s n in record { memory = h.memory ∙ o.memory; latches = h.latches ∙ o.latches }
entry_own (other_grant n b wrong) s o = o
entry_own (outside_change x) s o =
    record { memory = ap length_refusal (pokes_keep_length x _) ∙ o.memory; latches = o.latches }

-- no access is answered with 4 or more
access_small : (c : Core) (sum port n k : ℕ) → n ≡ access_refusal c sum port → n ≡ k → 4 ≤ k → ⊥
access_small c sum port n k e h l = let m = (access_exact c sum port).most in omega (arith, e, h, l, m)

-- nor is a speed call with 4 or 5
speed_apart : (c : Core) (sum code n k : ℕ) → n ≡ speed_refusal c sum code → n ≡ k → 4 ≤ k → k ≤ 5 → ⊥
speed_apart c sum code n k e h l m =
    any_cases _ _ (speed_exact c sum code).other (λ z. let d = eqb-true (speed_refusal c sum code) 0 z in omega (arith, e, h, l, d))
    (λ r.
    any_cases _ _ r (λ z. let d = eqb-true (speed_refusal c sum code) 1 z in omega (arith, e, h, l, d))
    (λ q. any_cases _ _ q (λ z. let d = eqb-true (speed_refusal c sum code) 7 z in omega (arith, e, h, m, d)) any_none))

-- a grant of an own memory is not answered with 4, and one of own latches not with 5
grant_not_four : (c : Core) (sum : ℕ) (b : Buffers (List ℕ)) (n : ℕ) → length b.memory ≡ 65536 → grant_refusal flat c sum b n ≡ 4 → ⊥
grant_not_four c sum b n m e =
    let h = all_true _ (sym (grant_exact c sum b n).four ∙ eq-eqb _ 4 e) in
    clash (sym (not-true _ h.1.0) ∙ eq-eqb _ _ m)

grant_not_five : (c : Core) (sum : ℕ) (b : Buffers (List ℕ)) (n : ℕ) → length b.latches ≡ 65536 → grant_refusal flat c sum b n ≡ 5 → ⊥
grant_not_five c sum b n l e =
    let h = all_true _ (sym (grant_exact c sum b n).five ∙ eq-eqb _ 5 e) in
    clash (sym (not-true _ h.1.1.0) ∙ eq-eqb _ _ l)

-- 4 and 5 are answered to a grant that lends buffers of a wrong length
entry_four : (e : Entry flat (List Poke)) (s : System (List ℕ)) → Own s.world.buffers → (enter flat flat_outside e s).answered.number ≡ 4 → Lends WrongMemory e
entry_four (port_write port byte) s o h = access_small _ _ port _ 4 (refusals_exact.write _ _ port byte) h (omega arith)
entry_four (port_read port) s o h = access_small _ _ port _ 4 (refusals_exact.read _ _ port) h (omega arith)
entry_four (speed_call code) s o h = speed_apart _ _ code _ 4 (refusals_exact.speed _ _ code) h (omega arith) (omega arith)
entry_four (clock_grant n) s o h =
    grant_not_four _ _ _ n (flat_memory s.world.buffers.memory o.memory) (sym (refusals_exact.granted _ n) ∙ h)
entry_four (other_grant n b wrong) s o h = λ m. grant_not_four _ _ b n m (sym (refusals_exact.granted _ n) ∙ h)
entry_four (outside_change x) s o h = absurd (omega (arith, h))

entry_five : (e : Entry flat (List Poke)) (s : System (List ℕ)) → Own s.world.buffers → (enter flat flat_outside e s).answered.number ≡ 5 → Lends WrongLatches e
entry_five (port_write port byte) s o h = access_small _ _ port _ 5 (refusals_exact.write _ _ port byte) h (omega arith)
entry_five (port_read port) s o h = access_small _ _ port _ 5 (refusals_exact.read _ _ port) h (omega arith)
entry_five (speed_call code) s o h = speed_apart _ _ code _ 5 (refusals_exact.speed _ _ code) h (omega arith) (omega arith)
entry_five (clock_grant n) s o h = grant_not_five _ _ _ n o.latches (sym (refusals_exact.granted _ n) ∙ h)
entry_five (other_grant n b wrong) s o h = λ l. grant_not_five _ _ b n l (sym (refusals_exact.granted _ n) ∙ h)
entry_five (outside_change x) s o h = absurd (omega (arith, h))

own_serve : (es : List (Entry flat (List Poke))) (s : System (List ℕ)) → Own s.world.buffers → OwnServe es (run flat flat_outside es s).answers
unfolding run_over OwnServe
own_serve [] s o = tt
own_serve (e ∷ es) s o = (entry_four e s o, entry_five e s o, own_serve es _ (entry_own e s o))

full_memory : (n : ℕ) → n ≡ 65536 → length_refusal n ≡ 0
unfolding first_hit
full_memory n e = pick_false _ _ _ (ap not (eq-eqb _ _ e))

-- 7 is answered to a speed call of a code above 3
grant_not_seven : (c : Core) (sum : ℕ) (b : Buffers (List ℕ)) (n k : ℕ) → k ≡ grant_refusal flat c sum b n → k ≡ 7 → ⊥
grant_not_seven c sum b n k e h = let m = (grant_exact c sum b n).other.2 in omega (arith, e, h, m)

entry_seven : (e : Entry flat (List Poke)) (s : System (List ℕ)) → (enter flat flat_outside e s).answered.number ≡ 7 → AsksAbove e
entry_seven (port_write port byte) s h = access_small _ _ port _ 7 (refusals_exact.write _ _ port byte) h (omega arith)
entry_seven (port_read port) s h = access_small _ _ port _ 7 (refusals_exact.read _ _ port) h (omega arith)
entry_seven (speed_call code) s h =
    let d = all_true _ (sym (speed_exact _ _ code).seven ∙ eq-eqb _ 7 (sym (refusals_exact.speed _ _ code) ∙ h)) in
    leb-false code 3 (not-true _ d.1.0)
entry_seven (clock_grant n) s h = grant_not_seven _ _ _ n _ (refusals_exact.granted _ n) h
entry_seven (other_grant n b wrong) s h = grant_not_seven _ _ b n _ (refusals_exact.granted _ n) h
entry_seven (outside_change x) s h = absurd (omega (arith, h))

only_above : (es : List (Entry flat (List Poke))) (s : System (List ℕ)) → OnlyAbove es (run flat flat_outside es s).answers
unfolding run_over OnlyAbove
only_above [] s = tt
only_above (e ∷ es) s = (entry_seven e s, only_above es _)

pub answers_reached : AnswersReached
answers_reached m l es b = (
  none_is_one es _ b (stays_valid flat).power_on_lem,
  only_above es _,
  λ p q. own_serve es _ (record { memory = full_memory _ p; latches = q }),
)
