-- At code 3 the rules are those at 28 MHz: a slot whose bus time is at most 8 is valid by both tests or by neither, the slot
-- that two valid cycles begin is one such, and so what the calls go by stays the same along every list.
-- Assumes nothing.
use Prim.Native.Nat.{ℕ, ◌+◌, ◌*◌, ◌≤◌}
use native.Mathlib.Omega.{arith}
use mathlib.Core.Path.{◌≡◌, refl, sym, ◌∙◌, ap}
use mathlib.Core.Bool.{Bool, true, false}
use mathlib.Core.List.{List, [], ◌∷◌}
use lib.Dec.{leb, ltb, eqb}
use borrow.Author.Tests.{eqb-true, eqb-false, le-leb, leb-true, lt-ltb}
use Rattle.rules.specs.Choice.{pick, every, any}
use Rattle.rules.specs.Parts.{with_slot}
use Rattle.rules.specs.Speed.{at_speed}
use Rattle.rules.specs.Slots.{no_slot, bus_time_of, larger, slot_length, new_slot, slot_of}
use Rattle.rules.specs.Validity.{prescaled_length, valid_length, running_slot, valid_slot, valid_core, valid_core_if, total}
use Rattle.rules.specs.Steering.{bits}
use Rattle.rules.specs.Clock.{slot_clock, clock_of}
use Rattle.rules.specs.Buffers.{Store, Buffers}
use Rattle.rules.specs.World.{System, system}
use Rattle.rules.specs.Refusals.{access_refusal}
use Rattle.rules.specs.Calls.{Reply, Answer, Answered, unless_refused, beside, write_reply, read_reply, grant, write_reply_over, read_reply_over, speed_reply_over, grant_over}
use Rattle.rules.specs.Entries.{Outside, Entry, port_write, port_read, speed_call, clock_grant, other_grant, outside_change, beside_buffers, enter_over, enter, run_over, run}
use Rattle.rules.specs.History.{Past, EntryNoted, with_core, write_passed, noted_unless, grant_noted_by, note_entry_by, note_entry, history_by, history}
use Rattle.rules.specs.At28.{slot_length_at28, new_slot_at28, slot_of_at28, clock_at28, valid_length_at28, running_slot_at28, valid_slot_at28, valid_core_at28, at28}
use Rattle.rules.specs.Unslowed.{allowed_at28, Unslowed, is_speed_call, others, NoSpeedCall, OnlyThree, SameButSpeed, FullSpeedStands}
use Rattle.rules.specs.Opened.{opened}
use Rattle.rules.specs.declared.Control.{Control}
use Rattle.rules.specs.declared.Slot.{Slot}
use Rattle.rules.specs.declared.Clocks.{Clocks}
use Rattle.rules.specs.declared.Core.{Core}
use Rattle.rules.proofs.Choice.{clash, pick_true, pick_false, pick_cases, pick_both, both_picked, either, all_true, true_all, every_stop, every_stop_later, every_at, any_first, any_more, any_cases, any_none}
use Rattle.rules.proofs.Slots.{slot_cases}
use Rattle.rules.proofs.Speed.{bus_full}
use Rattle.rules.proofs.Validity.{core_parts, port_cycle, prescaled_facts}
use Rattle.rules.proofs.Calls.{access, granted, unless_core, valid_core_lem}
use Rattle.rules.proofs.World.{clocked_keeps}
use Rattle.rules.proofs.Framing.{written_framed, read_framed, clock_timed}
use Rattle.rules.proofs.Along.{enters, notes, run_along, history_along, runs_agree, histories_agree, along_others}
use Rattle.rules.proofs.Alike.{Agrees, write_same, read_same, grant_same, entry_same, note_same, passed_keeps}

-- ---- a running slot with a bus time of at most 8

abbrev Short : Slot → Type 0
Short s = (s.elapsed ≡ 0 → ⊥) → s.bus ≤ 8

rest_short : Short no_slot
rest_short n = absurd (n refl)

allowed_short : (s : Slot) → allowed_at28 s ≡ true → Short s
unfolding allowed_at28 running_slot_at28
allowed_short s e n =
    any_cases _ _ e (λ z. absurd (n (eqb-true _ _ z)))
    (λ r. any_cases _ _ r (λ d. leb-true _ _ (all_true _ d).1.0) any_none)

-- its length is valid by both tests or by neither
length_alike : (s : Slot) → s.bus ≤ 8 → valid_length_at28 s ≡ valid_length s
unfolding valid_length_at28 valid_length prescaled_length
length_alike s h =
    ap (λ (t : Bool). any (eqb s.length s.bus ∷ t ∷ []))
    (either (prescaled_length s.length)
    (λ e.
    let l = (prescaled_facts s.length e).0 in
    e ∙ sym (true_all (prescaled_length s.length ∷ leb s.bus s.length ∷ []) (e, (le-leb s.bus s.length (omega arith), tt))))
    (λ e. e ∙ sym (every_stop _ _ e)))

running_alike : (s : Slot) → s.bus ≤ 8 → running_slot_at28 s ≡ running_slot s
unfolding running_slot_at28 running_slot
running_alike s h =
    ap (λ (t : Bool). every (leb 4 s.bus ∷ leb s.bus 8 ∷ t ∷ ltb s.elapsed s.length ∷ [])) (length_alike s h)
    ∙ ap (λ (t : Bool). every (leb 4 s.bus ∷ t ∷ valid_length s ∷ ltb s.elapsed s.length ∷ []))
    (le-leb s.bus 8 h ∙ sym (le-leb s.bus 64 (omega arith)))

slot_alike : (t : Bool) (s : Slot) → Short s → valid_slot_at28 t s ≡ valid_slot t s
unfolding valid_slot_at28 valid_slot
slot_alike t s h =
    both_picked ◌≡◌ (eqb s.elapsed 0) _ _ _ _ (λ e. refl)
    (λ e. ap (λ (r : Bool). every (t ∷ r ∷ [])) (running_alike s (h (eqb-false _ _ e))))

-- ---- a core at code 3

short_alike : (c : Core) → c.control.speed ≡ 3 → Short c.slot → valid_core_at28 c ≡ valid_core c
unfolding valid_core_at28 valid_core_if every pick
short_alike c e h = rw (slot_alike c.enabled c.slot h) (rw e refl)

-- a running slot that is not allowed is not valid at 28 MHz
not_allowed : (c : Core) → allowed_at28 c.slot ≡ false → valid_core_at28 c ≡ false
unfolding valid_core_at28 valid_slot_at28 allowed_at28
not_allowed c a =
    every_at 5 _
    (either (eqb c.slot.elapsed 0)
    (λ z. clash (sym a ∙ any_first _ _ z))
    (λ z.
    pick_false _ _ _ z
    ∙ every_stop_later c.enabled _
    (every_stop _ []
    (either (running_slot_at28 c.slot) (λ r. clash (sym a ∙ any_more _ _ (any_first _ _ r))) (λ r. r)))))

every_true : (t : Bool) → every (t ∷ true ∷ []) ≡ t
unfolding every pick
every_true true = refl
every_true false = refl

valid_at28_lem : (c : Core) → c.control.speed ≡ 3 → valid_core_at28 c ≡ every (valid_core c ∷ allowed_at28 c.slot ∷ [])
valid_at28_lem c e =
    either (allowed_at28 c.slot)
    (λ a.
    short_alike c e (allowed_short c.slot a)
    ∙ sym (ap (λ (t : Bool). every (valid_core c ∷ t ∷ [])) a ∙ every_true (valid_core c)))
    (λ a. not_allowed c a ∙ sym (every_stop_later (valid_core c) _ (every_stop _ [] a)))

-- at code 3 and, if it is valid, with a short slot
abbrev At3 : Core → Type 0
At3 c = (c.control.speed ≡ 3) × (valid_core c ≡ true → Short c.slot)

core_alike : (c : Core) → At3 c → valid_core_at28 c ≡ valid_core c
core_alike c f =
    either (valid_core c) (λ v. short_alike c f.0 (f.1 v))
    (λ v. valid_at28_lem c f.0 ∙ every_stop _ _ v ∙ sym v)

-- ---- the clock

-- cycles of at most 4, and code 3
abbrev Cycles : ℕ → ℕ → Control → ℕ → Type 0
Cycles a b control pending = (a ≤ 4) × (b ≤ 4) × (control.speed ≡ 3)

abbrev Timed3 : Core → Type 0
Timed3 c = Cycles c.a.cycle c.b.cycle c.control c.pending

bus_alike : (c : Core) → c.control.speed ≡ 3 → (new_slot c).bus ≡ c.a.cycle + c.b.cycle
bus_alike c e = ap (λ (n : ℕ). bus_time_of n c.a.cycle c.b.cycle) e ∙ bus_full c.a.cycle c.b.cycle

-- with a prescaler 32 clocks and more contain the bus time
slot_length_alike : (prescaler bus : ℕ) → bus ≤ 8 → slot_length_at28 prescaler bus ≡ slot_length prescaler bus
unfolding slot_length_at28 slot_length larger
slot_length_alike prescaler bus h =
    both_picked ◌≡◌ (eqb prescaler 0) _ _ _ _ (λ e. refl)
    (λ e. let n = eqb-false prescaler 0 e in sym (pick_true _ _ _ (lt-ltb bus (32 * prescaler) (omega (arith, n)))))

new_alike : (c : Core) → Timed3 c → new_slot_at28 c ≡ new_slot c
new_alike c p =
    let b = bus_alike c p.2 in
    ap (λ (n : ℕ). record { elapsed = 0; bus = c.a.cycle + c.b.cycle; length = n; burst = c.control.burst })
    (slot_length_alike c.control.prescaler (c.a.cycle + c.b.cycle) (omega (arith, p.0, p.1)))
    ∙ sym (ap (λ (n : ℕ). record { elapsed = 0; bus = n; length = slot_length c.control.prescaler n; burst = c.control.burst }) b)

slot_of_alike : (c : Core) → Timed3 c → slot_of_at28 c ≡ slot_of c
unfolding slot_of_at28 slot_of
slot_of_alike c k = both_picked ◌≡◌ (eqb c.slot.elapsed 0) _ _ _ _ (λ e. new_alike c k) (λ e. refl)

clock_alike : (c : Core) → Timed3 c → clock_at28 c ≡ clock_of c
unfolding clock_at28 clock_of
clock_alike c k =
    both_picked ◌≡◌ c.enabled _ _ _ _
    (λ e. ap (λ (s : Slot). slot_clock (c.slot.elapsed + 1) (with_slot s c)) (slot_of_alike c k))
    (λ e. refl)

clock_timed3 : (c : Core) → Timed3 c → Timed3 (clock_of c).next
clock_timed3 c k = (clock_timed Cycles (λ s. Unit {0}) tt c (k, tt) tt).0

-- and from a short slot, short ones
of_short : (c : Core) → Timed3 c → Short c.slot → (slot_of c).bus ≤ 8
of_short c k h = slot_cases (λ (s : Slot). s.bus ≤ 8) c (λ e. let b = bus_alike c k.2 in omega (arith, b, k.0, k.1)) h

-- both together
abbrev TimedShort : Core → Type 0
TimedShort c = Timed3 c × Short c.slot

clock_short : (c : Core) → TimedShort c → TimedShort (clock_of c).next
clock_short c k = clock_timed Cycles Short rest_short c k (λ n. of_short c k.0 k.1)

-- ---- every entry is answered and noted alike

valid_timed : (c : Core) → c.control.speed ≡ 3 → valid_core c ≡ true → Timed3 c
valid_timed c e v = let p = core_parts c v in ((port_cycle _ p.a).most, (port_cycle _ p.b).most, e)

agrees : (c : Core) → At3 c → Agrees valid_core_at28 clock_at28 Timed3 clock_alike clock_timed3 c
agrees c f = record { tests = core_alike c f; clocks = valid_timed c f.0 }

unslowed_at3 : (c : Core) → Unslowed c → At3 c
unslowed_at3 c u = (u.speed, λ v. allowed_short c.slot (u.slot v))

-- ---- what an entry leaves

-- an accepted one is valid, so that its slot is short
framed : (c : Core) → At3 c → valid_core c ≡ true → (c.control.speed ≡ 3) × Short c.slot
framed c f v = (f.0, f.1 v)

short_at3 : (c : Core) → (c.control.speed ≡ 3) × Short c.slot → At3 c
short_at3 c f = (f.0, λ v. f.1)

-- a port write or a port read that is accepted
access_framed : (c : Core) (sum port : ℕ) → At3 c → access_refusal c sum port ≡ 0 → (c.control.speed ≡ 3) × Short c.slot
access_framed c sum port f e = framed c f (valid_core_lem c sum (access c sum port e).state)

write_at3 : (c : Core) (k : Clocks) (port byte : ℕ) → At3 c → At3 (write_reply c k port byte).core
unfolding write_reply_over
write_at3 c k port byte f =
    unless_core At3 _ _ _ _ c k (λ e. short_at3 _ (written_framed 3 Short rest_short port byte c (access_framed c (total k) port f e))) f

read_at3 : (c : Core) (k : Clocks) (port : ℕ) → At3 c → At3 (read_reply c k port).core
unfolding read_reply_over
read_at3 c k port f =
    unless_core At3 _ _ _ _ c k (λ e. short_at3 _ (read_framed 3 Short rest_short c (access_framed c (total k) port f e))) f

grant_at3 : {M : Type 0} (σ : Store M) (s : System M) (n : ℕ) → At3 s.world.core → At3 (grant σ s n).system.world.core
unfolding grant_over
grant_at3 σ s n f =
    pick_cases (λ (a : Answer _). At3 a.system.world.core) _ _ _
    (λ e.
    let g = granted σ _ _ _ n (eqb-true _ _ e) in
    let v = valid_core_lem _ _ g.state in
    let k = clocked_keeps σ (λ (t : System _). TimedShort t.world.core) (λ t. clock_short t.world.core) n s (valid_timed _ f.0 v, f.1 v) in
    (k.0.2, λ w. k.1))
    (λ e. f)

-- so do the clocks of an accepted grant, noted
passed_at3 : {M : Type 0} (σ : Store M) (b : Buffers M) (n : ℕ) (p : Past M) → At3 p.world.core → At3 (grant_noted_by valid_core clock_of σ b n p).past.world.core
unfolding noted_unless
passed_at3 σ b n p f =
    pick_cases (λ (q : Past _). At3 q.world.core) _ _ _
    (λ e.
    let g = granted σ p.world.core p.sum b n (eqb-true _ _ e) in
    let v = valid_core_lem _ _ g.state in
    let k = passed_keeps σ TimedShort clock_short n (record { world = p.world; sum = p.sum + n; events = p.events }) (valid_timed _ f.0 v, f.1 v) in
    (k.0.2, λ w. k.1))
    (λ e. f)

-- a speed call of code 3 leaves a core at code 3 as it is
same_speed : (c : Core) (code : ℕ) → c.control.speed ≡ 3 → code ≡ 3 → at_speed code c ≡ c
same_speed c code e d = ap (λ (n : ℕ). at_speed n c) (d ∙ sym e)

module _ {M C : Type 0} (σ : Store M) (ω : Outside M C) where
  entry_at3 : (e : Entry σ C) (s : System M) → is_speed_call e ≡ false → At3 s.world.core → At3 (enter σ ω e s).system.world.core
  entry_at3 (port_write port byte) s n f = write_at3 s.world.core s.clocks port byte f
  entry_at3 (port_read port) s n f = read_at3 s.world.core s.clocks port f
  entry_at3 (speed_call code) s n f = clash (sym n)
  entry_at3 (clock_grant n) s m f = grant_at3 σ s n f
  entry_at3 (other_grant n b wrong) s m f = grant_at3 σ (beside_buffers b s) n f
  entry_at3 (outside_change x) s n f = f

  speed_stays : (code : ℕ) (s : System M) → s.world.core.control.speed ≡ 3 → ((enter σ ω (speed_call code) s).answered.number ≡ 0 → code ≡ 3) → (enter σ ω (speed_call code) s).system ≡ s
  unfolding speed_reply_over unless_refused
  speed_stays code s e =
      pick_cases
      (λ (r : Reply). (r.answered.number ≡ 0 → code ≡ 3) → (beside s.world.buffers r).system ≡ s)
      _ _ _
      (λ z h. ap (λ (c : Core). system c s.world.buffers s.clocks) (same_speed s.world.core code e (h refl)))
      (λ z h. refl)

  noted_stays : (code : ℕ) (p : Past M) → p.world.core.control.speed ≡ 3 → ((note_entry σ ω (speed_call code) p).number ≡ 0 → code ≡ 3) → (note_entry σ ω (speed_call code) p).past ≡ p
  unfolding noted_unless
  noted_stays code p e h =
      pick_cases (λ (q : Past M). q ≡ p) _ _ _
      (λ z. ap (λ (c : Core). with_core c p) (same_speed p.world.core code e (h (eqb-true _ _ z))))
      (λ z. refl)

  note_at3 : (e : Entry σ C) (p : Past M) → is_speed_call e ≡ false → At3 p.world.core → At3 (note_entry σ ω e p).past.world.core
  unfolding noted_unless write_passed
  note_at3 (port_write port byte) p n f =
      pick_cases (λ (q : Past M). At3 q.world.core) _ _ _
      (λ e.
      let a = access_framed p.world.core p.sum port f (eqb-true _ _ e) in
      let w = short_at3 _ (written_framed 3 Short rest_short port byte p.world.core a) in
      pick_both (λ (q : Past M). At3 q.world.core) _ _ _ w w)
      (λ e. f)
  note_at3 (port_read port) p n f =
      pick_cases (λ (q : Past M). At3 q.world.core) _ _ _
      (λ e.
      let a = access_framed p.world.core p.sum port f (eqb-true _ _ e) in
      short_at3 _ (read_framed 3 Short rest_short p.world.core a))
      (λ e. f)
  note_at3 (speed_call code) p n f = clash (sym n)
  note_at3 (clock_grant n) p m f = passed_at3 σ p.world.buffers n p f
  note_at3 (other_grant n b wrong) p m f = passed_at3 σ b n p f
  note_at3 (outside_change x) p n f = f

  -- ---- lists, by the steps of runs and histories

  run_step : (e : Entry σ C) (s : System M) → is_speed_call e ≡ false → At3 s.world.core → (enter_over at28 clock_at28 σ ω e s ≡ enter σ ω e s) × At3 (enter σ ω e s).system.world.core
  run_step e s n f = (entry_same _ _ _ _ _ σ ω e s (agrees s.world.core f), entry_at3 e s n f)

  note_step : (e : Entry σ C) (p : Past M) → is_speed_call e ≡ false → At3 p.world.core → (note_entry_by valid_core_at28 clock_at28 σ ω e p ≡ note_entry σ ω e p) × At3 (note_entry σ ω e p).past.world.core
  note_step e p n f = (note_same _ _ _ _ _ σ ω e p (agrees p.world.core f), note_at3 e p n f)

  -- of a list without speed calls
  first_plain : (e : Entry σ C) (es : List (Entry σ C)) → NoSpeedCall (e ∷ es) → (is_speed_call e ≡ false) × NoSpeedCall es
  unfolding NoSpeedCall
  first_plain e es n = n

  plain_runs : (es : List (Entry σ C)) (s : System M) → At3 s.world.core → NoSpeedCall es → run σ ω es s ≡ run_over at28 clock_at28 σ ω es s
  plain_runs es s f n =
      sym
      (runs_agree σ ω NoSpeedCall bits at28 clock_of clock_at28 (λ (t : System M). At3 t.world.core)
      (λ e es t q p. let h = first_plain e es q in let r = run_step e t h.0 p in (r.0, r.1, h.1)) es s n f)

  plain_histories : (es : List (Entry σ C)) (p : Past M) → At3 p.world.core → NoSpeedCall es → history σ ω es p ≡ history_by valid_core_at28 clock_at28 σ ω es p
  plain_histories es p f n =
      sym
      (histories_agree σ ω NoSpeedCall valid_core valid_core_at28 clock_of clock_at28 (λ (q : Past M). At3 q.world.core)
      (λ e es q n f. let h = first_plain e es n in let r = note_step e q h.0 f in (r.0, r.1, h.1)) es p n f)

  runs_alike :
      (es : List (Entry σ C)) (s : System M) → At3 s.world.core → OnlyThree (λ a. a.number) es (run σ ω es s).answers
      → SameButSpeed es (run σ ω es s).answers (run σ ω es s).system (run_over at28 clock_at28 σ ω (others es) s).answers (run_over at28 clock_at28 σ ω (others es) s).system
  runs_alike es s f o =
      rw (run_along σ ω bits clock_of es s)
      (rw (run_along σ ω at28 clock_at28 (others es) s)
      (along_others (enters σ ω bits clock_of) (enters σ ω at28 clock_at28) (λ (a : Answered). a.number) (λ (t : System M). At3 t.world.core)
      (λ e t n f. let r = run_step e t n f in (ap (λ (a : Answer M). (a.answered, a.system)) r.0, r.1))
      (λ code t f h. speed_stays code t f.0 h)
      es s f (rw (run_along σ ω bits clock_of es s) at o)))

  histories_alike :
      (es : List (Entry σ C)) (p : Past M) → At3 p.world.core → OnlyThree (λ n. n) es (history σ ω es p).numbers
      → SameButSpeed es (history σ ω es p).numbers (history σ ω es p).past (history_by valid_core_at28 clock_at28 σ ω (others es) p).numbers (history_by valid_core_at28 clock_at28 σ ω (others es) p).past
  histories_alike es p f o =
      rw (history_along σ ω valid_core clock_of es p)
      (rw (history_along σ ω valid_core_at28 clock_at28 (others es) p)
      (along_others (notes σ ω valid_core clock_of) (notes σ ω valid_core_at28 clock_at28) (λ (n : ℕ). n) (λ (q : Past M). At3 q.world.core)
      (λ e q n f. let r = note_step e q n f in (ap (λ (x : EntryNoted M). (x.number, x.past)) r.0, r.1))
      (λ code q f h. noted_stays code q f.0 h)
      es p f (rw (history_along σ ω valid_core clock_of es p) at o)))

-- ---- the claim

pub full_speed_stands : FullSpeedStands
unfolding opened allowed_at28
full_speed_stands =
    record {
      power_on = record { speed = refl; slot = λ v. refl };
      validity = valid_at28_lem;
      slot = λ c e v. sym (new_alike c (valid_timed c e v));
      clock = λ c e v. sym (clock_alike c (valid_timed c e v));
      write = λ c k port byte u. sym (write_same _ _ _ _ _ c k port byte (agrees c (unslowed_at3 c u)));
      read = λ c k port u. sym (read_same _ _ _ _ _ c k port (agrees c (unslowed_at3 c u)));
      granted = λ σ s n u. sym (grant_same _ _ _ _ _ σ s n (agrees s.world.core (unslowed_at3 s.world.core u)));
      plain_run = λ σ ω es s u n. plain_runs σ ω es s (unslowed_at3 s.world.core u) n;
      plain_history = λ σ ω es p u n. plain_histories σ ω es p (unslowed_at3 p.world.core u) n;
      runs = λ σ ω es s u o. runs_alike σ ω es s (unslowed_at3 s.world.core u) o;
      histories = λ σ ω es p u o. histories_alike σ ω es p (unslowed_at3 p.world.core u) o;
    }
