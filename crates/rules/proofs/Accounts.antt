-- Demand 3. The run and the history agree entry by entry: the same world, the counts as noted, the sum of the counts as the
-- history's sum; and the bytes noted balance the counter, clock by clock and write by write.
-- Assumes nothing.
use Prim.Native.Nat.{ℕ, zero, suc, ◌+◌}
use native.Mathlib.Omega.{arith}
use native.Mathlib.Nat.{add-zero, zero-add, add_assoc}
use mathlib.Core.Path.{◌≡◌, refl, sym, ◌∙◌, ap, subst}
use mathlib.Core.Bool.{Bool}
use mathlib.Core.List.{List, [], ◌∷◌}
use lib.Dec.{eqb}
use borrow.Author.Tests.{eqb-true, eqb-false, ne_eqb}
use Rattle.rules.specs.Choice.{pick}
use Rattle.rules.specs.Speed.{at_speed}
use Rattle.rules.specs.Validity.{total, valid_core}
use Rattle.rules.specs.Clock.{bus_clock, held_clock, cpu_clock, counted, clock_of}
use Rattle.rules.specs.declared.at_once.Kind.{Kind}
use Rattle.rules.specs.Registers.{written}
use Rattle.rules.specs.Readback.{read_byte}
use Rattle.rules.specs.Buffers.{Store, Buffers}
use Rattle.rules.specs.World.{World, System, Note, step, note, step_counted, clocked}
use Rattle.rules.specs.Refusals.{access_refusal, speed_refusal, grant_refusal}
use Rattle.rules.specs.Calls.{Reply, Answer, refused, unless_refused, beside, write, read, set_speed, grant_number, grant, read_reply_over, speed_reply_over, write_reply_over, grant_over}
use Rattle.rules.specs.Steering.{bits}
use Rattle.rules.specs.Entries.{Outside, Entry, port_write, port_read, speed_call, clock_grant, other_grant, outside_change, beside_buffers, grant_other_over, enter, run, system_at_power_on, run_over}
use Rattle.rules.specs.History.{Event, clock_noted, counter_zeroed, Past, with_core, write_passed, clock_passed, clocks_passed, grant_passed, noted_unless, note_entry, history, past_at_power_on, clocks_passed_by, grant_noted_by, history_by}
use Rattle.rules.specs.Accounts.{of_kind, clocks_noted, bytes_of, bytes_noted, held_before, zeroed_noted, clocks_asked, clocks_accepted, numbers_of, Demand3}
use Rattle.rules.specs.declared.Clocks.{Clocks}
use Rattle.rules.specs.declared.Core.{Core}
use Rattle.rules.proofs.Choice.{pick_cases, pick_both, both_picked, pick_true, pick_false, pick_ap}
use Rattle.rules.proofs.World.{clocked_zero, clocked_suc, clocked_total}
use Rattle.rules.proofs.Calls.{granted, grant_refuses}
use Rattle.rules.proofs.Counter.{write_zero, write_same, read_same, clock_balanced}
use Rattle.rules.proofs.Splitting.{grant_splits}
use Rattle.rules.proofs.Entries.{reached_valid}

-- ---- the counts and the counter against the events

pub record Counts (k : Clocks) (es : List Event) (counter : ℕ) : Type 0 where
  bus : k.bus ≡ clocks_noted bus_clock es
  held : k.held ≡ clocks_noted held_clock es
  cpu : k.cpu ≡ clocks_noted cpu_clock es
  bytes : bytes_noted es ≡ zeroed_noted es + counter

-- one clock counted and noted
counts_clock : (k : Clocks) (es : List Event) (before after : ℕ) (n : Note) → held_before n.zeroed + after ≡ before + bytes_of n.move → Counts k es before → Counts (counted n.kind k) (clock_noted n ∷ es) after
unfolding clocks_noted bytes_noted zeroed_noted
counts_clock k es before after n b c =
    record { bus = at_bus n.kind; held = at_held n.kind; cpu = at_cpu n.kind; bytes = omega (arith, c.bytes) }
  where
    at_bus : (x : Kind) → (counted x k).bus ≡ of_kind bus_clock x + clocks_noted bus_clock es
    at_bus bus_clock = omega (arith, c.bus)
    at_bus held_clock = omega (arith, c.bus)
    at_bus cpu_clock = omega (arith, c.bus)

    at_held : (x : Kind) → (counted x k).held ≡ of_kind held_clock x + clocks_noted held_clock es
    at_held bus_clock = omega (arith, c.held)
    at_held held_clock = omega (arith, c.held)
    at_held cpu_clock = omega (arith, c.held)

    at_cpu : (x : Kind) → (counted x k).cpu ≡ of_kind cpu_clock x + clocks_noted cpu_clock es
    at_cpu bus_clock = omega (arith, c.cpu)
    at_cpu held_clock = omega (arith, c.cpu)
    at_cpu cpu_clock = omega (arith, c.cpu)

-- a zeroing noted
counts_zeroed : (k : Clocks) (es : List Event) (before after : ℕ) → after ≡ 0 → Counts k es before → Counts k (counter_zeroed before ∷ es) after
unfolding clocks_noted bytes_noted zeroed_noted
counts_zeroed k es before after z c =
    record { bus = c.bus; held = c.held; cpu = c.cpu; bytes = omega (arith, c.bytes) }

counts_same : (k : Clocks) (es : List Event) (before after : ℕ) → after ≡ before → Counts k es before → Counts k es after
counts_same k es before after e c = record { bus = c.bus; held = c.held; cpu = c.cpu; bytes = omega (arith, c.bytes) }

-- ---- the run and the history

pub record Agree {M : Type 0} (s : System M) (p : Past M) : Type 0 where
  pub world : s.world ≡ p.world
  pub sum : total s.clocks ≡ p.sum
  pub counts : Counts s.clocks p.events s.world.core.block.counter

-- a history beside a system, with the same world and sum
abbrev past_of : {M : Type 0} → System M → List Event → Past M
past_of s es = record { world = s.world; sum = total s.clocks; events = es }

-- the counts and the counter of a system against events
abbrev CountsOf : {M : Type 0} → System M → List Event → Type 0
CountsOf s es = Counts s.clocks es s.world.core.block.counter

-- what one entry keeps, where it asks for some clocks and the history gives it this number
pub record Step {M : Type 0} (asked : ℕ) (s : System M) (a : Answer M) (given : ℕ) (p : Past M) : Type 0 where
  pub number : a.answered.number ≡ given
  pub agree : Agree a.system p
  pub sum : total a.system.clocks ≡ total s.clocks + pick (eqb a.answered.number 0) asked 0

-- an entry that asks for no clock, or is refused, adds none
pub no_clocks_lem : (t : Bool) (n : ℕ) → n ≡ n + pick t 0 0
no_clocks_lem t n = sym (ap (λ (k : ℕ). n + k) (pick_both (λ (k : ℕ). k ≡ 0) t 0 0 refl refl) ∙ add-zero n)

refused_clocks : (k asked n : ℕ) → (k ≡ 0 → ⊥) → n ≡ n + pick (eqb k 0) asked 0
refused_clocks k asked n h = sym (ap (λ (j : ℕ). n + j) (pick_false _ _ _ (ne_eqb _ _ h)) ∙ add-zero n)

granted_clocks : (asked n : ℕ) → n + asked ≡ n + pick (eqb 0 0) asked 0
granted_clocks asked n = ap (λ (j : ℕ). n + j) (sym (pick_true _ _ _ refl))

module _ {M : Type 0} (σ : Store M) where
  -- a clock's note balances the counter
  note_balanced : (w : World M) → held_before (note σ w).zeroed + (step σ w).core.block.counter ≡ w.core.block.counter + bytes_of (note σ w).move
  note_balanced w =
      clock_balanced w.core ∙ ap (λ (k : ℕ). w.core.block.counter + k) (sym (pick_ap bytes_of (clock_of w.core).moves _ _))

  -- n clocks
  record Clocked (s : System M) (p : Past M) : Type 0 where
    world : s.world ≡ p.world
    counts : Counts s.clocks p.events s.world.core.block.counter

  clock_agrees : (s : System M) (p : Past M) → Clocked s p → Clocked (step_counted σ s) (clock_passed σ p)
  clock_agrees s p c =
      record {
        world = ap (step σ) c.world;
        counts =
            subst (λ (w : World M). Counts (step_counted σ s).clocks (clock_noted (note σ w) ∷ p.events) (step_counted σ s).world.core.block.counter) c.world
            (counts_clock s.clocks p.events _ _ (note σ s.world) (note_balanced s.world) c.counts);
      }

  clocks_agree : (n : ℕ) (s : System M) (p : Past M) → Clocked s p → Clocked (clocked σ n s) (clocks_passed σ n p)
  unfolding clocks_passed_by
  clocks_agree zero s p c = rw (clocked_zero σ s) c
  clocks_agree (suc n) s p c =
      rw (clocked_suc σ n s) (clock_agrees (clocked σ n s) (clocks_passed σ n p) (clocks_agree n s p c))

  clocks_sum : (n : ℕ) (p : Past M) → (clocks_passed σ n p).sum ≡ p.sum
  unfolding clocks_passed_by
  clocks_sum zero p = refl
  clocks_sum (suc n) p = clocks_sum n p

  -- ---- a port write

  written_agrees : (s : System M) (es : List Event) (port byte : ℕ) → CountsOf s es → Agree (record { world = record { core = written port byte s.world.core; buffers = s.world.buffers }; clocks = s.clocks }) (write_passed port byte (past_of s es))
  unfolding write_passed
  written_agrees s es port byte c =
      pick_cases
      (λ (q : Past M). Agree (record { world = record { core = written port byte s.world.core; buffers = s.world.buffers }; clocks = s.clocks }) q)
      _ _ _
      (λ z. record { world = refl; sum = refl; counts = counts_zeroed _ es _ _ (write_zero port byte s.world.core z) c })
      (λ z. record { world = refl; sum = refl; counts = counts_same _ es _ _ (write_same port byte s.world.core z) c })

  -- nothing has changed
  as_before : (s : System M) (es : List Event) → CountsOf s es → Agree s (past_of s es)
  as_before s es c = record { world = refl; sum = refl; counts = c }

  write_step : (s : System M) (es : List Event) (port byte n : ℕ) → n ≡ access_refusal s.world.core (total s.clocks) port → CountsOf s es → Step 0 s (write s port byte) n (noted_unless n (write_passed port byte (past_of s es)) (past_of s es)).past
  unfolding write_reply_over unless_refused noted_unless
  write_step s es port byte n e c =
      rw e
      (both_picked (λ (r : Reply) (q : Past M). Step 0 s (beside s.world.buffers r) (access_refusal s.world.core (total s.clocks) port) q)
      _ _ _ _ _
      (λ d. record { number = sym (eqb-true _ _ d); agree = written_agrees s es port byte c; sum = no_clocks_lem _ _ })
      (λ d. record { number = refl; agree = as_before s es c; sum = no_clocks_lem _ _ }))

  -- ---- a port read, and a speed call

  -- a call that leaves the counter as it is
  uncounted_step :
      (s : System M) (es : List Event) (n byte warning : ℕ) (next : Core)
      → next.block.counter ≡ s.world.core.block.counter → CountsOf s es
      → Step 0 s (beside s.world.buffers (unless_refused n byte warning next s.world.core s.clocks)) n (noted_unless n (with_core next (past_of s es)) (past_of s es)).past
  unfolding unless_refused noted_unless
  uncounted_step s es n byte warning next e c =
      both_picked (λ (r : Reply) (q : Past M). Step 0 s (beside s.world.buffers r) n q)
      _ _ _ _ _
      (λ d.
      record {
        number = sym (eqb-true _ _ d);
        agree = record { world = refl; sum = refl; counts = counts_same _ es _ _ e c };
        sum = no_clocks_lem _ _;
      })
      (λ d. record { number = refl; agree = as_before s es c; sum = no_clocks_lem _ _ })

  read_step : (s : System M) (es : List Event) (port n : ℕ) → n ≡ access_refusal s.world.core (total s.clocks) port → CountsOf s es → Step 0 s (read s port) n (noted_unless n (with_core (read_byte s.world.core).core (past_of s es)) (past_of s es)).past
  unfolding read_reply_over
  read_step s es port n e c = rw e (uncounted_step s es _ _ _ _ (read_same s.world.core) c)

  speed_step : (s : System M) (es : List Event) (code n : ℕ) → n ≡ speed_refusal s.world.core (total s.clocks) code → CountsOf s es → Step 0 s (set_speed s code) n (noted_unless n (with_core (at_speed code s.world.core) (past_of s es)) (past_of s es)).past
  unfolding speed_reply_over
  speed_step s es code n e c = rw e (uncounted_step s es _ _ _ _ refl c)

  -- ---- a grant

  granted_agrees : (s : System M) (es : List Event) (n : ℕ) → CountsOf s es → Agree (clocked σ n s) (grant_passed σ n (past_of s es))
  granted_agrees s es n c =
      let p : Past M = record { world = s.world; sum = total s.clocks + n; events = es } in
      let k = clocks_agree n s p (record { world = refl; counts = c }) in
      record { world = k.world; sum = clocked_total σ n s ∙ sym (clocks_sum n p); counts = k.counts }

  own_step : (s : System M) (es : List Event) (n : ℕ) → CountsOf s es → Step n s (grant σ s n) (grant_number σ s n) (grant_noted_by valid_core clock_of σ s.world.buffers n (past_of s es)).past
  unfolding grant_over noted_unless
  own_step s es n c =
      both_picked (λ (a : Answer M) (q : Past M). Step n s a (grant_number σ s n) q) _ _ _ _ _
      (λ d. record { number = sym (eqb-true _ _ d); agree = granted_agrees s es n c; sum = clocked_total σ n s ∙ granted_clocks n _ })
      (λ d. record { number = refl; agree = as_before s es c; sum = refused_clocks (grant_number σ s n) n _ (eqb-false _ _ d) })

module _ {M C : Type 0} (σ : Store M) (ω : Outside M C) where
  -- the refusal number of a grant that lends other buffers
  abbrev other_number : System M → ℕ → Buffers M → ℕ
  other_number s n b = grant_refusal σ s.world.core (total s.clocks) b n

  -- it is refused, and nothing changes
  other_answer : (s : System M) (n : ℕ) (b : Buffers M) → (other_number s n b ≡ 0 → ⊥) → ◌≡◌ {A = Answer M} (record { answered = refused (other_number s n b); system = s }) (grant_other_over bits clock_of σ s n b)
  other_answer s n b wrong =
      ap (λ (a : Answer M). record { answered = a.answered; system = beside_buffers s.world.buffers a.system })
      (grant_refuses σ (beside_buffers b s) n (other_number s n b) refl wrong)

  other_step :
      (s : System M) (es : List Event) (n : ℕ) (b : Buffers M) → (other_number s n b ≡ 0 → ⊥) → CountsOf s es
      → Step n s (grant_other_over bits clock_of σ s n b) (other_number s n b) (grant_noted_by valid_core clock_of σ b n (past_of s es)).past
  unfolding noted_unless
  other_step s es n b wrong c =
      subst (λ (a : Answer M). Step n s a (other_number s n b) (grant_noted_by valid_core clock_of σ b n (past_of s es)).past)
      (other_answer s n b wrong)
      (subst (λ (p : Past M). Step n s (record { answered = refused (other_number s n b); system = s }) (other_number s n b) p)
      (sym (pick_false _ _ _ (ne_eqb _ _ wrong)))
      (record { number = refl; agree = as_before σ s es c; sum = refused_clocks (other_number s n b) n _ wrong }))

  -- ---- one entry

  entry_literal : (e : Entry σ C) (s : System M) (es : List Event) → CountsOf s es → Step (clocks_asked e) s (enter σ ω e s) (note_entry σ ω e (past_of s es)).number (note_entry σ ω e (past_of s es)).past
  unfolding noted_unless
  entry_literal (port_write port byte) s es c = write_step σ s es port byte _ refl c
  entry_literal (port_read port) s es c = read_step σ s es port _ refl c
  entry_literal (speed_call code) s es c = speed_step σ s es code _ refl c
  entry_literal (clock_grant n) s es c = own_step σ s es n c
  entry_literal (other_grant n b wrong) s es c =
      other_step s es n b (λ e. let g = granted σ _ _ b n e in wrong g.memory g.latches) c
  entry_literal (outside_change x) s es c =
      record { number = refl; agree = record { world = refl; sum = refl; counts = c }; sum = no_clocks_lem _ _ }

  pub entry_step : (e : Entry σ C) (s : System M) (p : Past M) → Agree s p → Step (clocks_asked e) s (enter σ ω e s) (note_entry σ ω e p).number (note_entry σ ω e p).past
  entry_step e s p a =
      subst (λ (q : Past M). Step (clocks_asked e) s (enter σ ω e s) (note_entry σ ω e q).number (note_entry σ ω e q).past)
      (λ i. record { world = a.world i; sum = a.sum i; events = p.events }) (entry_literal e s p.events a.counts)

  -- ---- a list of entries

  pub record Ends (es : List (Entry σ C)) (s : System M) (p : Past M) : Type 0 where
    pub agree : Agree (run σ ω es s).system (history σ ω es p).past
    sum : total (run σ ω es s).system.clocks ≡ total s.clocks + clocks_accepted es (run σ ω es s).answers
    numbers : numbers_of (run σ ω es s).answers ≡ (history σ ω es p).numbers

  pub ends : (es : List (Entry σ C)) (s : System M) (p : Past M) → Agree s p → Ends es s p
  unfolding run_over history_by clocks_accepted numbers_of
  ends [] s p a = record { agree = a; sum = sym (add-zero _); numbers = refl }
  ends (e ∷ es) s p a =
      let k = entry_step e s p a in
      let r = ends es (enter σ ω e s).system (note_entry σ ω e p).past k.agree in
      record {
        agree = r.agree;
        sum = r.sum ∙ ap (λ (x : ℕ). x + clocks_accepted es (run σ ω es (enter σ ω e s).system).answers) k.sum ∙ add_assoc _ _ _;
        numbers = λ i. k.number i ∷ r.numbers i;
      }

-- ---- the claim

pub start_agrees : {M : Type 0} (m : M) (l : List ℕ) → Agree (system_at_power_on m l) (past_at_power_on m l)
unfolding clocks_noted bytes_noted zeroed_noted
start_agrees m l =
    record { world = refl; sum = refl; counts = record { bus = refl; held = refl; cpu = refl; bytes = refl } }

pub demand3 : Demand3
demand3 M C σ ω m l es =
    let h = ends σ ω es (system_at_power_on m l) (past_at_power_on m l) (start_agrees m l) in
    record {
      bus = h.agree.counts.bus;
      held = h.agree.counts.held;
      cpu = h.agree.counts.cpu;
      sum = h.sum ∙ zero-add _;
      sum_noted = sym h.agree.sum ∙ h.sum ∙ zero-add _;
      bytes = h.agree.counts.bytes;
      splits = λ b. grant_splits σ _ (reached_valid σ ω m l es b).core.range;
      world = h.agree.world;
      numbers = h.numbers;
    }
