-- The floor under the processor's time. Until its next clock the processor waits for the rest of a slot's bus time: each of
-- these clocks makes it one less, and with none left the clock is the processor's. It is never more than the largest bus time,
-- since clocks leave the registers as they are. Over a list, what was noted since the processor's last clock and what is left are
-- together no more.
-- Assumes nothing.
use Prim.Native.Nat.{ℕ, zero, suc, ◌+◌, ◌-◌, ◌≤◌, ◌<◌}
use native.Mathlib.Omega.{arith}
use native.Mathlib.Nat.{add-zero, zero-add, add-suc, suc-add, add_assoc, le_refl, le_trans}
use mathlib.Core.Path.{◌≡◌, refl, sym, ◌∙◌, ap, subst}
use mathlib.Core.Bool.{Bool, true, false}
use mathlib.Core.List.{List, [], ◌∷◌, ◌++◌}
use mathlib.Core.Option.{none}
use lib.Dec.{ltb, eqb}
use lib.ListN.{length}
use borrow.Author.Tests.{ltb-true, eqb-true, eqb-false, lt-ltb, le-leb, lt-leb}
use Rattle.rules.specs.Choice.{pick}
use Rattle.rules.specs.Speed.{at_speed}
use Rattle.rules.specs.Slots.{bus_time_of, larger, slot_length, new_slot, slot_of}
use Rattle.rules.specs.Validity.{valid_core, valid, total}
use Rattle.rules.specs.Facts.{InRange, ValidSlot, resting, running}
use Rattle.rules.specs.Readback.{read_byte}
use Rattle.rules.specs.Clock.{bus_clock, held_clock, cpu_clock, counted, Clock, clock, moved, with_elapsed, moves_at, moved_at, kind_at, ending, slot_end, clock_end, slot_clock, begun, clock_of}
use Rattle.rules.specs.declared.at_once.Kind.{Kind}
use Rattle.rules.specs.Buffers.{Store}
use Rattle.rules.specs.World.{World, System, note, step_counted, clocked}
use Rattle.rules.specs.Calls.{Answer, grant, grant_over}
use Rattle.rules.specs.Entries.{Outside, Entry, port_write, port_read, speed_call, clock_grant, other_grant, outside_change, enter, run, run_over}
use Rattle.rules.specs.History.{Event, clock_noted, counter_zeroed, Past, with_core, write_passed, clock_passed, clocks_passed, grant_passed, change_passed, noted_unless, note_entry, history, past_at_power_on, clocks_passed_by, history_by}
use Rattle.rules.specs.Accounts.{of_kind, clocks_noted, clocks_asked, clocks_accepted, numbers_of}
use Rattle.rules.specs.Floor.{shared, all_shared, floor_of, cpu_floor}
use Rattle.rules.specs.Floored.{Shared, AllShared, OneOf, of_registers, of_running, OneMore, FloorExact, kind_after, CpuAmong, floor_at, FloorHolds, MayPass, Undisturbed, OnlyClocks, CpuNoted, end_of, answers_behind, FloorBehind, FloorHoldsInLists, FloorNearest, three_of_cpu, eight_on_bus, FloorWorked}
use Rattle.rules.specs.Opened.{opened}
use Rattle.rules.specs.declared.Slot.{Slot}
use Rattle.rules.specs.declared.Clocks.{Clocks}
use Rattle.rules.specs.declared.Core.{Core}
use Rattle.rules.proofs.Choice.{pick_true, pick_false, pick_cases, pick_both, both_picked, either, all_true, true_all}
use Rattle.rules.proofs.Speed.{BusTime}
use Rattle.rules.proofs.Validity.{core_parts, slot_facts, valid_bus}
use Rattle.rules.proofs.Slots.{slot_begins, slot_runs, slot_cases, larger_left, larger_right, larger_cases}
use Rattle.rules.proofs.Framing.{clock_timed}
use Rattle.rules.proofs.World.{clocked_zero, clocked_suc, clocked_add, clocked_keeps}
use Rattle.rules.proofs.Calls.{valid_core_lem, device_valid, stays_valid_by_test}
use Rattle.rules.proofs.Entries.{reached_valid, empty_wrong}
use Rattle.rules.proofs.Accounts.{Agree, no_clocks_lem, entry_step, start_agrees, ends}
use Rattle.rules.proofs.SplittingLists.{history_behind}

-- ---- the condition

shared_facts : (s : Slot) → shared s ≡ true → Shared s
unfolding shared
shared_facts s e = let h = all_true _ e in record { burst = h.0; longer = ltb-true s.bus s.length h.1.0 }

facts_shared : (s : Slot) → Shared s → shared s ≡ true
unfolding shared
facts_shared s f = true_all (s.burst ∷ ltb s.bus s.length ∷ []) (f.burst, (lt-ltb _ _ f.longer, tt))

met : (c : Core) → AllShared c → all_shared c ≡ true
unfolding all_shared
met c f =
    true_all (shared (new_slot c) ∷ shared (slot_of c) ∷ [])
    (facts_shared _ f.registers, (facts_shared _ (slot_cases Shared c (λ e. f.registers) f.running), tt))

meets : (c : Core) → all_shared c ≡ true → AllShared c
unfolding all_shared
meets c e =
    let h = all_true _ e in
    record {
      registers = shared_facts (new_slot c) h.0;
      running = λ n. subst Shared (slot_runs c n) (shared_facts (slot_of c) h.1.0);
    }

-- ---- the bound

-- with no clock elapsed, the registers' bus time is the one that counts
alone : (c : Core) → c.slot.elapsed ≡ 0 → floor_of c ≡ (new_slot c).bus + 1
unfolding floor_of
alone c e =
    ap (λ (s : Slot). larger (new_slot c).bus s.bus + 1) (slot_begins c e) ∙ ap (λ n. n + 1) (larger_cases (λ n. n ≡ (new_slot c).bus) _ _ refl refl)

bound : (c : Core) → OneMore c (floor_of c)
unfolding floor_of
bound c =
    record {
      registers = let h = larger_left (new_slot c).bus (slot_of c).bus in omega (arith, h);
      running =
          λ n.
          subst (λ (s : Slot). s.bus < larger (new_slot c).bus (slot_of c).bus + 1) (slot_runs c n)
          (let h = larger_right (new_slot c).bus (slot_of c).bus in omega (arith, h));
      one =
          larger_cases (λ n. OneOf c (n + 1)) (new_slot c).bus (slot_of c).bus (of_registers refl)
          (slot_cases (λ (s : Slot). OneOf c (s.bus + 1)) c (λ e. of_registers refl) (λ n. of_running n refl));
    }

floor_larger : (c : Core) → larger (new_slot c).bus (slot_of c).bus + 1 ≡ floor_of c
unfolding floor_of
floor_larger c = refl

-- ---- the answer

answered : (c : Core) (sum : ℕ) → valid c sum ≡ true → AllShared c → cpu_floor c sum ≡ floor_of c
unfolding cpu_floor
answered c sum v f = pick_true _ _ _ v ∙ pick_true _ _ _ (met c f)

invalid : (c : Core) (sum : ℕ) → (valid c sum ≡ true → ⊥) → cpu_floor c sum ≡ 0
unfolding cpu_floor
invalid c sum n = either (valid c sum) (λ v. absurd (n v)) (λ v. pick_false _ _ _ v)

unmet : (c : Core) (sum : ℕ) → (AllShared c → ⊥) → cpu_floor c sum ≡ 0
unfolding cpu_floor
unmet c sum n =
    pick_both (λ (k : ℕ). k ≡ 0) (valid c sum) _ _ (either (all_shared c) (λ e. absurd (n (meets c e))) (λ e. pick_false _ _ _ e)) refl

-- what holds of 0, and of the bound of a valid core that meets the condition, holds of the answer
floor_cases : (P : ℕ → Type 0) (c : Core) (sum : ℕ) → P 0 → (valid c sum ≡ true → AllShared c → P (floor_of c)) → P (cpu_floor c sum)
unfolding cpu_floor
floor_cases P c sum z f =
    pick_cases P (valid c sum) _ _ (λ v. pick_cases P (all_shared c) _ _ (λ e. f v (meets c e)) (λ e. z)) (λ v. z)

-- the bus time of the slot that runs or begins
running_range : (t : Bool) (s : Slot) → ValidSlot t s → (s.elapsed ≡ 0 → ⊥) → BusTime s.bus
running_range t s (resting r) n = absurd (n r.elapsed)
running_range t s (running on r) n = record { least = r.least; most = r.most }

slot_range : (c : Core) → valid_core c ≡ true → BusTime (slot_of c).bus
slot_range c v =
    slot_cases (λ (s : Slot). BusTime s.bus) c (λ e. valid_bus c v)
    (running_range c.enabled c.slot (slot_facts _ _ (core_parts c v).slot))

-- the larger of the two
largest_bus : (c : Core) → valid_core c ≡ true → BusTime (larger (new_slot c).bus (slot_of c).bus)
largest_bus c v = larger_cases BusTime (new_slot c).bus (slot_of c).bus (valid_bus c v) (slot_range c v)

floor_most : (c : Core) → valid_core c ≡ true → floor_of c ≤ 65
unfolding floor_of
floor_most c v = let h = (largest_bus c v).most in omega (arith, h)

floor_least : (c : Core) → valid_core c ≡ true → 5 ≤ floor_of c
unfolding floor_of
floor_least c v = let h = (largest_bus c v).least in omega (arith, h)

pub floor_exact : FloorExact
floor_exact =
    record {
      met = met;
      meets = meets;
      bound = bound;
      answered = answered;
      invalid = invalid;
      unmet = unmet;
      most = floor_most;
      most_answered = λ c sum. floor_cases (λ n. n ≤ 65) c sum (omega arith) (λ v f. floor_most c (valid_core_lem c sum v));
      least_answered =
          λ c sum.
          floor_cases (λ n. (n ≡ 0 → ⊥) → 5 ≤ n) c sum (λ n. absurd (n refl))
          (λ v f n. floor_least c (valid_core_lem c sum v));
    }

-- ---- the slots to come, within a bound

record Within (most : ℕ) (s : Slot) : Type 0 where
  facts : Shared s
  bus : s.bus ≤ most

record AllWithin (most : ℕ) (c : Core) : Type 0 where
  registers : Within most (new_slot c)
  running : (c.slot.elapsed ≡ 0 → ⊥) → Within most c.slot

of_slot : (most : ℕ) (c : Core) → AllWithin most c → Within most (slot_of c)
of_slot most c w = slot_cases (Within most) c (λ e. w.registers) w.running

all_within : (c : Core) → AllShared c → AllWithin (larger (new_slot c).bus (slot_of c).bus) c
all_within c f =
    record {
      registers = record { facts = f.registers; bus = larger_left _ _ };
      running =
          λ n.
          record {
            facts = f.running n;
            bus = subst (λ (s : Slot). s.bus ≤ larger (new_slot c).bus (slot_of c).bus) (slot_runs c n) (larger_right (new_slot c).bus (slot_of c).bus);
          };
    }

-- so they are shared, and the bound is this one at most
within_shared : (most : ℕ) (c : Core) → AllWithin most c → AllShared c × (floor_of c ≤ most + 1)
unfolding floor_of
within_shared most c w = (
  record { registers = w.registers.facts; running = λ n. (w.running n).facts },
  larger_cases (λ n. n + 1 ≤ most + 1) (new_slot c).bus (slot_of c).bus (let h = w.registers.bus in omega (arith, h))
      (let h = (of_slot most c w).bus in omega (arith, h)),
)

-- a clock leaves the registers, and the figures of the slot that runs or begins
clock_within : (most : ℕ) (c : Core) → AllWithin most c → AllWithin most (clock_of c).next
clock_within most c w =
    let h =
    clock_timed
    (λ a b control pending.
    Within most
    (record {
      elapsed = 0;
      bus = bus_time_of control.speed a b;
      length = slot_length control.prescaler (bus_time_of control.speed a b);
      burst = control.burst;
    }))
    (λ (s : Slot). (s.elapsed ≡ 0 → ⊥) → Within most s)
    (λ n. absurd (n refl)) c (w.registers, w.running)
    (λ n. let o = of_slot most c w in record { facts = record { burst = o.facts.burst; longer = o.facts.longer }; bus = o.bus }) in
    record { registers = h.0; running = h.1 }

-- ---- the clocks left on the bus

-- of the slot that runs or begins; none of a disabled device
unfoldable left : Core → ℕ
left c = pick c.enabled ((slot_of c).bus - c.slot.elapsed) 0

left_on : (c : Core) → c.enabled ≡ true → left c ≡ (slot_of c).bus - c.slot.elapsed
unfolding left
left_on c on = pick_true _ _ _ on

left_off : (c : Core) → c.enabled ≡ false → left c ≡ 0
unfolding left
left_off c off = pick_false _ _ _ off

left_most : (most : ℕ) (c : Core) → AllWithin most c → left c ≤ most
unfolding left
left_most most c w =
    pick_both (λ n. n ≤ most) c.enabled _ _ (let o = of_slot most c w in omega (arith, o.bus)) (omega arith)

-- with none left the clock is the processor's
left_none : (c : Core) → Shared (slot_of c) → left c ≡ 0 → (clock_of c).kind ≡ cpu_clock
unfolding clock_of slot_clock kind_at
left_none c f e =
    either c.enabled
    (λ on.
    let z : (slot_of c).bus - c.slot.elapsed ≡ 0 = sym (left_on c on) ∙ e in
    ap (λ (x : Clock). x.kind) (pick_true c.enabled _ _ on)
    ∙ pick_false _ _ _ (lt-leb (c.slot.elapsed + 1) (slot_of c).bus (omega (arith, z)))
    ∙ pick_true _ _ _ f.burst)
    (λ off. ap (λ (x : Clock). x.kind) (pick_false c.enabled _ _ off))

-- a clock that does not end its slot
end_left : (n : ℕ) (d : Core) → d.enabled ≡ true → 0 < n → n < d.slot.length → left (clock_end n d).core ≡ d.slot.bus - n
unfolding clock_end
end_left n d on h l =
    rw (pick_true _ (ending none (with_elapsed n d)) (slot_end d) (lt-ltb n d.slot.length l))
    (left_on (with_elapsed n d) on ∙ ap (λ (s : Slot). s.bus - n) (slot_runs (with_elapsed n d) (λ e. omega (arith, e, h))))

-- each clock on the bus makes it one less
slot_some :
    (c : Core) (k : ℕ) → Shared (slot_of c) → c.enabled ≡ true → (slot_of c).bus - c.slot.elapsed ≡ suc k
    → ((slot_clock (c.slot.elapsed + 1) (begun c)).kind ≡ bus_clock) × (left (slot_clock (c.slot.elapsed + 1) (begun c)).next ≡ k)
unfolding slot_clock kind_at moved_at
slot_some c k f on z =
    let n = c.slot.elapsed + 1 in
    let less : (slot_of c).bus - n ≡ k = omega (arith, z) in
    let h : n < (slot_of c).length = (let l = f.longer in omega (arith, z, l)) in (
      pick_true _ _ _ (le-leb n (slot_of c).bus (omega (arith, z))),
      pick_both (λ (d : Core). left (clock_end n d).core ≡ k) (moves_at n (begun c)) (moved (begun c)) (begun c)
          (end_left n (moved (begun c)) on (omega arith) h ∙ less)
          (end_left n (begun c) on (omega arith) h ∙ less),
    )

left_some : (c : Core) (k : ℕ) → Shared (slot_of c) → left c ≡ suc k → ((clock_of c).kind ≡ bus_clock) × (left (clock_of c).next ≡ k)
unfolding clock_of
left_some c k f e =
    either c.enabled
    (λ on.
    rw (pick_true c.enabled (slot_clock (c.slot.elapsed + 1) (begun c)) (clock cpu_clock false none c) on)
    (slot_some c k f on (sym (left_on c on) ∙ e)))
    (λ off. absurd (let z : 0 ≡ suc k = sym (left_off c off) ∙ e in omega (arith, z)))

-- ---- over clocks

module _ {M : Type 0} (σ : Store M) where
  -- a clock of a system, and clocks after it
  clocked_one : (n : ℕ) (s : System M) → clocked σ (suc n) s ≡ clocked σ n (step_counted σ s)
  clocked_one n s =
      ap (λ k. clocked σ k s) (let e : suc n ≡ 1 + n = omega arith in e)
      ∙ clocked_add σ 1 n s
      ∙ ap (clocked σ n) (clocked_suc σ 0 s ∙ ap (step_counted σ) (clocked_zero σ s))

  -- the clock after those left is the processor's, and those left are on the bus
  after_left : (most k : ℕ) (s : System M) → AllWithin most s.world.core → left s.world.core ≡ k → kind_after σ k s ≡ cpu_clock
  after_left most zero s w e =
      ap (λ (t : System M). (clock_of t.world.core).kind) (clocked_zero σ s) ∙ left_none _ (of_slot most _ w).facts e
  after_left most (suc k) s w e =
      let h = left_some s.world.core k (of_slot most _ w).facts e in
      ap (λ (t : System M). (clock_of t.world.core).kind) (clocked_one k s)
      ∙ after_left most k (step_counted σ s) (clock_within most _ w) h.1

  on_bus : (most n k : ℕ) (s : System M) → AllWithin most s.world.core → left s.world.core ≡ n + suc k → kind_after σ n s ≡ bus_clock
  on_bus most zero k s w e =
      ap (λ (t : System M). (clock_of t.world.core).kind) (clocked_zero σ s)
      ∙ (left_some s.world.core k (of_slot most _ w).facts (e ∙ zero-add _)).0
  on_bus most (suc n) k s w e =
      let h = left_some s.world.core (n + suc k) (of_slot most _ w).facts (e ∙ suc-add n _) in
      ap (λ (t : System M). (clock_of t.world.core).kind) (clocked_one n s)
      ∙ on_bus most n k (step_counted σ s) (clock_within most _ w) h.1

  -- what holds after n clocks, and of the system as it was, holds after a grant
  grant_cases : (P : System M → Type 0) (s : System M) (n : ℕ) → P (clocked σ n s) → P s → P (grant σ s n).system
  unfolding grant_over
  grant_cases P s n p q = pick_both (λ (a : Answer M). P a.system) _ _ _ p q

  -- what holds of the slots to come holds after any clocks
  clocked_within : (most n : ℕ) (s : System M) → AllWithin most s.world.core → AllWithin most (clocked σ n s).world.core
  clocked_within most = clocked_keeps σ (λ (t : System M). AllWithin most t.world.core) (λ t v. clock_within most _ v)

  -- any clocks in a row
  among : (most : ℕ) (s : System M) (before : ℕ) → AllWithin most s.world.core → CpuAmong σ s before (most + 1)
  among most s before w =
      let t = clocked σ before s in
      let v = clocked_within most before s w in
      record {
        offset = left t.world.core;
        within = let l = left_most most _ v in omega (arith, l);
        kind =
            ap (λ (u : System M). (clock_of u.world.core).kind) (clocked_add σ before (left t.world.core) s)
            ∙ after_left most (left t.world.core) t v refl;
      }

  kept : (s : System M) (n : ℕ) → AllShared s.world.core → AllShared (clocked σ n s).world.core × (floor_of (clocked σ n s).world.core ≤ floor_of s.world.core)
  kept s n f =
      subst (λ k. AllShared (clocked σ n s).world.core × (floor_of (clocked σ n s).world.core ≤ k)) (floor_larger s.world.core)
      (within_shared _ _ (clocked_within _ n s (all_within s.world.core f)))

  unchecked : (s : System M) (before : ℕ) → AllShared s.world.core → CpuAmong σ s before (floor_of s.world.core)
  unfolding floor_of
  unchecked s before f = among _ s before (all_within s.world.core f)

  -- a device that answers a floor is valid and meets the condition
  floored : (s : System M) → (floor_at s ≡ 0 → ⊥) → (valid s.world.core (total s.clocks) ≡ true) × AllShared s.world.core
  floored s =
      floor_cases
      (λ n. (n ≡ 0 → ⊥) → (valid s.world.core (total s.clocks) ≡ true) × AllShared s.world.core)
      s.world.core (total s.clocks) (λ n. absurd (n refl)) (λ v f n. (v, f))

  granted : (s : System M) (n : ℕ) → InRange s.world.core → (floor_at s ≡ 0 → ⊥) → (floor_at (grant σ s n).system ≡ 0 → ⊥) × (floor_at (grant σ s n).system ≤ floor_at s)
  granted s n i z =
      let h = floored s z in
      let k =
      grant_cases (λ (t : System M). AllShared t.world.core × (floor_of t.world.core ≤ floor_of s.world.core)) s n
      (kept s n h.1) (h.1, le_refl _) in
      let v = (stays_valid_by_test σ).granted s n i h.0 in
      let e = answered (grant σ s n).system.world.core _ v k.0 in
      let g = answered s.world.core _ h.0 h.1 in
      let l = floor_least (grant σ s n).system.world.core (valid_core_lem _ _ v) in
      let m = k.1 in
      (λ y. omega (arith, l, e, y), omega (arith, e, g, m))

  floor_clocks : (s : System M) (before : ℕ) → (floor_at s ≡ 0 → ⊥) → CpuAmong σ s before (floor_at s)
  floor_clocks s before =
      floor_cases (λ n. (n ≡ 0 → ⊥) → CpuAmong σ s before n) s.world.core (total s.clocks)
      (λ n. absurd (n refl)) (λ v f n. unchecked s before f)

  -- ---- in the counts

  -- no clock takes from the processor's count, and its own add one
  kept_count : (k : Kind) (x : Clocks) → x.cpu ≤ (counted k x).cpu
  kept_count bus_clock x = le_refl _
  kept_count held_clock x = le_refl _
  kept_count cpu_clock x = omega arith

  cpu_grows : (m n : ℕ) (s : System M) → (clocked σ m s).clocks.cpu ≤ (clocked σ (m + n) s).clocks.cpu
  cpu_grows m n s =
      subst (λ (t : System M). (clocked σ m s).clocks.cpu ≤ t.clocks.cpu) (sym (clocked_add σ m n s))
      (clocked_keeps σ (λ (t : System M). (clocked σ m s).clocks.cpu ≤ t.clocks.cpu)
      (λ t h. le_trans h (kept_count (clock_of t.world.core).kind t.clocks)) n (clocked σ m s) (le_refl _))

  cpu_counted : (n : ℕ) (s : System M) → kind_after σ n s ≡ cpu_clock → (clocked σ (n + 1) s).clocks.cpu ≡ (clocked σ n s).clocks.cpu + 1
  cpu_counted n s e =
      ap (λ (t : System M). t.clocks.cpu) (ap (λ k. clocked σ k s) (let e : n + 1 ≡ suc n = omega arith in e) ∙ clocked_suc σ n s)
      ∙ ap (λ (k : Kind). (counted k (clocked σ n s).clocks).cpu) e

  among_counts : (s : System M) (before n m : ℕ) → CpuAmong σ s before n → n ≤ m → (clocked σ before s).clocks.cpu < (clocked σ (before + m) s).clocks.cpu
  among_counts s before n m a h =
      let o = a.offset in
      let first = cpu_grows before o s in
      let one = cpu_counted (before + o) s a.kind in
      let rest = cpu_grows (before + o + 1) (m - (o + 1)) s in
      let e : before + o + 1 + (m - (o + 1)) ≡ before + m = (let l = a.within in omega (arith, l, h)) in
      let last = subst (λ k. (clocked σ (before + o + 1) s).clocks.cpu ≤ (clocked σ k s).clocks.cpu) e rest in
      omega (arith, first, one, last)

  -- ---- no smaller number would do

  tight : (s : System M) (n : ℕ) → AllShared s.world.core → s.world.core.enabled ≡ true → s.world.core.slot.elapsed ≡ 0 → n + 1 < floor_of s.world.core → kind_after σ n s ≡ bus_clock
  tight s n f on e h =
      let c = s.world.core in
      let b = alone c e in
      let z : left c ≡ (new_slot c).bus - c.slot.elapsed = left_on c on ∙ ap (λ (t : Slot). t.bus - c.slot.elapsed) (slot_begins c e) in
      on_bus _ n ((new_slot c).bus - suc n) s (all_within c f) (z ∙ omega (arith, b, h, e))

pub floor_holds : FloorHolds
floor_holds =
    record {
      clocks = floor_clocks;
      ever =
          λ σ s before z.
          let a = floor_clocks σ s before z in
          let h = floor_exact.most_answered s.world.core (total s.clocks) in
          record { offset = a.offset; within = (let l = a.within in omega (arith, l, h)); kind = a.kind };
      counts = λ σ s before n z h. among_counts σ s before (floor_at s) n (floor_clocks σ s before z) h;
      unchecked = unchecked;
      kept = kept;
      granted = granted;
      tight = tight;
    }

-- ---- what is noted

-- how much was noted since the processor's last clock
abbrev since : Kind → ℕ → ℕ
since bus_clock n = suc n
since held_clock n = suc n
since cpu_clock n = 0

unfoldable since_cpu : List Event → ℕ
since_cpu [] = 0
since_cpu (clock_noted n ∷ es) = since n.kind (since_cpu es)
since_cpu (counter_zeroed held ∷ es) = suc (since_cpu es)

-- at no time more than this
unfoldable Never : ℕ → List Event → Type 0
Never most [] = Unit {0}
Never most (e ∷ es) = (since_cpu (e ∷ es) ≤ most) × Never most es

never_first : (most : ℕ) (es : List Event) → Never most es → since_cpu es ≤ most
unfolding since_cpu Never
never_first most [] n = omega arith
never_first most (e ∷ es) n = n.0

never_behind : (most : ℕ) (xs ys : List Event) → Never most (xs ++ ys) → Never most ys
unfolding Never
never_behind most [] ys n = n
never_behind most (x ∷ xs) ys n = never_behind most xs ys n.1

-- events of which none is a clock of the processor are no more than were noted since its last one
none_of : (k : Kind) (cpu n m : ℕ) → (cpu ≡ 0 → n ≤ m) → of_kind cpu_clock k + cpu ≡ 0 → suc n ≤ since k m
none_of bus_clock cpu n m f e = let h = f (sym (zero-add _) ∙ e) in omega (arith, h)
none_of held_clock cpu n m f e = let h = f (sym (zero-add _) ∙ e) in omega (arith, h)
none_of cpu_clock cpu n m f e = absurd (omega (arith, e))

none_noted : (xs ys : List Event) → clocks_noted cpu_clock xs ≡ 0 → length xs ≤ since_cpu (xs ++ ys)
unfolding since_cpu clocks_noted
none_noted [] ys e = omega arith
none_noted (clock_noted n ∷ xs) ys e = none_of n.kind (clocks_noted cpu_clock xs) (length xs) (since_cpu (xs ++ ys)) (none_noted xs ys) e
none_noted (counter_zeroed held ∷ xs) ys e = let h = none_noted xs ys e in omega (arith, h)

cpu_noted : (most : ℕ) (es : List Event) → Never most es → CpuNoted (most + 1) es
cpu_noted most es n later these earlier e l =
    let h = never_first most (these ++ earlier) (never_behind most later (these ++ earlier) (subst (Never most) e n)) in
    either (eqb (clocks_noted cpu_clock these) 0)
    (λ z. absurd (let k = none_noted these earlier (eqb-true _ _ z) in omega (arith, h, k, l)))
    (λ z. let k = eqb-false (clocks_noted cpu_clock these) 0 z in omega (arith, k))

-- ---- over lists

-- what is noted in front of these events, n clocks; with what is left on the bus at no time more than this
record Behind {M : Type 0} (most : ℕ) (first : List Event) (n : ℕ) (p : Past M) : Type 0 where
  noted : List Event
  events : p.events ≡ noted ++ first
  only : OnlyClocks noted
  each : length noted ≡ n
  never : Never most noted
  room : since_cpu noted + left p.world.core ≤ most
  slots : AllWithin most p.world.core

-- the note of a clock, of this kind
since_clock : (most since' : ℕ) (c : Core) → AllWithin most c → since' + left c ≤ most → since (clock_of c).kind since' + left (clock_of c).next ≤ most
since_clock most n c w h = by_left (left c) refl
  where
    by_left : (k : ℕ) → left c ≡ k → since (clock_of c).kind n + left (clock_of c).next ≤ most
    by_left zero e =
        subst (λ (k : Kind). since k n + left (clock_of c).next ≤ most) (sym (left_none c (of_slot most c w).facts e))
        (let l = left_most most (clock_of c).next (clock_within most c w) in omega (arith, l))
    by_left (suc k) e =
        let s = left_some c k (of_slot most c w).facts e in
        subst (λ (x : Kind). since x n + left (clock_of c).next ≤ most) (sym s.0) (let z = s.1 in omega (arith, h, e, z))

module _ {M C : Type 0} (σ : Store M) (ω : Outside M C) (most : ℕ) (first : List Event) where
  clock_behind : (n : ℕ) (p : Past M) → Behind most first n p → Behind most first (suc n) (clock_passed σ p)
  unfolding OnlyClocks since_cpu Never
  clock_behind n p b =
      let r = since_clock most (since_cpu b.noted) p.world.core b.slots b.room in
      record {
        noted = clock_noted (note σ p.world) ∷ b.noted;
        events = ap (λ (es : List Event). clock_noted (note σ p.world) ∷ es) b.events;
        only = b.only;
        each = ap suc b.each;
        never = (omega (arith, r), b.never);
        room = r;
        slots = clock_within most p.world.core b.slots;
      }

  clocks_behind : (m n : ℕ) (p : Past M) → Behind most first m p → Behind most first (m + n) (clocks_passed σ n p)
  unfolding clocks_passed_by
  clocks_behind m zero p b = subst (λ k. Behind most first k p) (sym (add-zero m)) b
  clocks_behind m (suc n) p b =
      subst (λ k. Behind most first k (clock_passed σ (clocks_passed σ n p))) (sym (add-suc m n))
      (clock_behind (m + n) (clocks_passed σ n p) (clocks_behind m n p b))

  -- the same events and core
  same_behind : (n : ℕ) (p q : Past M) → p.events ≡ q.events → p.world.core ≡ q.world.core → Behind most first n p → Behind most first n q
  same_behind n p q e d b =
      record {
        noted = b.noted;
        events = sym e ∙ b.events;
        only = b.only;
        each = b.each;
        never = b.never;
        room = subst (λ (c : Core). since_cpu b.noted + left c ≤ most) d b.room;
        slots = subst (AllWithin most) d b.slots;
      }

  -- a refused call
  refused_behind : (number n : ℕ) (q p : Past M) → (number ≡ 0 → ⊥) → Behind most first n p → Behind most first (n + pick (eqb number 0) 0 0) (noted_unless number q p).past
  unfolding noted_unless
  refused_behind number n q p h b =
      both_picked (λ (k : ℕ) (x : Past M). Behind most first (n + k) x) (eqb number 0) 0 0 q p
      (λ e. absurd (h (eqb-true _ _ e))) (λ e. subst (λ k. Behind most first k p) (sym (add-zero n)) b)

  -- a grant, refused or not
  grant_behind : (number m n : ℕ) (p : Past M) → Behind most first n p → Behind most first (n + pick (eqb number 0) m 0) (noted_unless number (grant_passed σ m p) p).past
  unfolding noted_unless
  grant_behind number m n p b =
      both_picked (λ (k : ℕ) (x : Past M). Behind most first (n + k) x) (eqb number 0) m 0 (grant_passed σ m p) p
      (λ e. clocks_behind n m _ (same_behind n p _ refl refl b)) (λ e. subst (λ k. Behind most first k p) (sym (add-zero n)) b)

  -- one entry
  entry_behind : (e : Entry σ C) (n : ℕ) (p : Past M) → ((note_entry σ ω e p).number ≡ 0 → MayPass e) → Behind most first n p → Behind most first (n + pick (eqb (note_entry σ ω e p).number 0) (clocks_asked e) 0) (note_entry σ ω e p).past
  unfolding noted_unless
  entry_behind (port_write port byte) n p r b =
      refused_behind (note_entry σ ω (port_write port byte) p).number n (write_passed port byte p) p r b
  entry_behind (port_read port) n p r b =
      refused_behind (note_entry σ ω (port_read port) p).number n (with_core (read_byte p.world.core).core p) p r b
  entry_behind (speed_call code) n p r b =
      refused_behind (note_entry σ ω (speed_call code) p).number n (with_core (at_speed code p.world.core) p) p r b
  entry_behind (clock_grant m) n p r b = grant_behind (note_entry σ ω (clock_grant m) p).number m n p b
  entry_behind (other_grant m o wrong) n p r b = grant_behind (note_entry σ ω (other_grant m o wrong) p).number m n p b
  entry_behind (outside_change x) n p r b =
      subst (λ k. Behind most first k (change_passed ω x p)) (no_clocks_lem (eqb 0 0) n)
      (same_behind n p (change_passed ω x p) refl refl b)

  -- a list of entries
  list_behind : (es : List (Entry σ C)) (n : ℕ) (s : System M) (p : Past M) → Agree s p → Undisturbed es (run σ ω es s).answers → Behind most first n p → Behind most first (n + clocks_accepted es (run σ ω es s).answers) (history σ ω es p).past
  unfolding run_over history_by clocks_accepted Undisturbed
  list_behind [] n s p a r b = subst (λ k. Behind most first k p) (sym (add-zero n)) b
  list_behind (e ∷ es) n s p a r b =
      let t = entry_step σ ω e s p a in
      subst (λ k. Behind most first k (history σ ω es (note_entry σ ω e p).past).past)
      (ap (λ k. n + pick (eqb k 0) (clocks_asked e) 0 + clocks_accepted es (run σ ω es (enter σ ω e s).system).answers) (sym t.number) ∙ add_assoc n _ _)
      (list_behind es _ (enter σ ω e s).system (note_entry σ ω e p).past t.agree r.1
      (entry_behind e n p (λ z. r.0 (t.number ∙ z)) b))

module _ {M C : Type 0} (σ : Store M) (ω : Outside M C) (m : M) (l : List ℕ) (before after : List (Entry σ C)) where
  abbrev end_core : Core
  end_core = (end_of σ ω m l before).world.core

  -- nothing is noted yet
  start_behind : AllShared end_core → Behind (larger (new_slot end_core).bus (slot_of end_core).bus) (history σ ω before (past_at_power_on m l)).past.events 0 (history σ ω before (past_at_power_on m l)).past
  unfolding OnlyClocks since_cpu Never
  start_behind f =
      let w = subst (λ (x : World M). AllWithin (larger (new_slot end_core).bus (slot_of end_core).bus) x.core) (ends σ ω before _ _ (start_agrees m l)).agree.world (all_within end_core f) in
      record {
        noted = [];
        events = refl;
        only = tt;
        each = refl;
        never = tt;
        room = let h = left_most _ _ w in omega (arith, h);
        slots = w;
      }

  floor_lists : AllShared end_core → Undisturbed after (answers_behind σ ω m l before after) → FloorBehind σ ω m l before after (floor_of end_core)
  unfolding floor_of
  floor_lists f r =
      let b = list_behind σ ω _ _ after 0 _ _ (ends σ ω before _ _ (start_agrees m l)).agree r (start_behind f) in
      record {
        noted = b.noted;
        events = ap (λ (p : Past M). p.events) (history_behind σ ω before after (past_at_power_on m l)) ∙ b.events;
        only = b.only;
        each = b.each ∙ zero-add _;
        floor = cpu_noted _ b.noted b.never;
      }

pub floor_holds_in_lists : FloorHoldsInLists
floor_holds_in_lists =
    record {
      lists = λ M C σ ω m l before after f r. floor_lists σ ω m l before after f r;
      answered =
          λ M C σ ω m l before after z r.
          floor_cases (λ n. (n ≡ 0 → ⊥) → FloorBehind σ ω m l before after n) _ _ (λ n. absurd (n refl))
          (λ v f n. floor_lists σ ω m l before after f r) z;
      reached = λ M C σ ω m l before b f. answered _ _ (device_valid _ _ (reached_valid σ ω m l before b)) f;
    }

-- ---- worked out

pub floor_nearest : FloorNearest
unfolding opened
floor_nearest =
    record {
      slowest = record { valid = refl; floor = refl; fewer = refl; enough = refl };
      quickest = record { valid = refl; floor = refl; fewer = refl; enough = refl };
      not_longer = record { valid = refl; floor = refl; many = omega arith; none = refl };
      continuous = record { valid = refl; floor = refl; many = omega arith; none = refl };
      running = refl;
      rest = refl;
      no_wait = record { valid = refl; floor = refl; many = omega arith; none = refl };
      behind = refl;
      next = refl;
      valid = refl;
      no_wait_behind = refl;
      next_ones = refl;
    }

-- a refusal's number
refused : (n : ℕ) → suc n ≡ 0 → ⊥
refused n e = omega (arith, e)

pub floor_worked : FloorWorked empty_wrong
unfolding opened Undisturbed clocks_noted numbers_of
floor_worked =
    record {
      shared = record { registers = record { burst = refl; longer = omega arith }; running = λ n. absurd (n refl) };
      undisturbed = (
        λ e. tt,
        (
          λ e. absurd (refused 2 e),
          (
            λ e. absurd (refused 2 e),
            (λ e. absurd (refused 6 e), (λ e. tt, (λ e. tt, (λ e. tt, (λ e. tt, tt))))),
          ),
        ),
      );
      numbers = refl;
      floor = refl;
      noted = refl;
      eight = λ f. let h = f three_of_cpu eight_on_bus [] refl refl in omega (arith, h);
      write = λ port byte u. u.0 refl;
      read = λ port byte u. u.0 refl;
      speed = λ code u. u.0 refl;
    }
