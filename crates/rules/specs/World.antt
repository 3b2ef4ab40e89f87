-- The core with its buffers, one clock of it, the note that a clock leaves, and n clocks.
-- Assumes nothing.
use Rattle.std.specs.Prelude.{ℕ, zero, suc, Bool}
use Rattle.std.proofs.Math.Option.{Option, none, some}
use Rattle.rules.specs.Choice.{pick}
use Rattle.rules.specs.Clock.{Clock, clock_of, counted}
use Rattle.rules.specs.declared.at_once.Kind.{Kind}
use Rattle.rules.specs.Buffers.{Store, Buffers, source, destination, byte_at, transfer}
use Rattle.rules.specs.declared.Place.{Place}
use Rattle.rules.specs.declared.Clocks.{Clocks}
use Rattle.rules.specs.declared.Core.{Core}

-- a core, kept as D, and the buffers it works on, without clock counts
pub record WorldOf (D M : Type 0) : Type 0 where
  pub core : D
  pub buffers : Buffers M

-- a world and its clock counts
pub record SystemOf (D M : Type 0) : Type 0 where
  pub world : WorldOf D M
  pub clocks : Clocks

-- with the core as the rules keep it
abbrev pub World : Type 0 → Type 0
World M = WorldOf Core M

abbrev pub System : Type 0 → Type 0
System M = SystemOf Core M

-- a system from its parts
abbrev pub system : {D M : Type 0} → D → Buffers M → Clocks → SystemOf D M
system c b k = record { world = record { core = c; buffers = b }; clocks = k }

-- a byte that moved: from where, to where, and which
pub record Move : Type 0 where
  pub from : Place
  pub to : Place
  pub byte : ℕ

-- what a clock leaves on record: its kind, the byte moved if one was, and what the counter held just before it was put to
-- zero, this clock's byte included
pub record Note : Type 0 where
  pub kind : Kind
  pub move : Option Move
  pub zeroed : Option ℕ

module _ {M : Type 0} (σ : Store M) where
  -- the buffers after one clock: where a byte moves, it is read at one place and written at the other
  unfoldable pub buffers_after : Bool → Place → Place → Buffers M → Buffers M
  buffers_after moves from to b = pick moves (transfer σ from to b) b

-- what follows from a clock κ of the core, the rules' own or another
module _ {M : Type 0} (κ : Core → Clock) (σ : Store M) where
  -- one clock
  abbrev pub step_by : World M → World M
  step_by w =
      record {
        core = (κ w.core).next;
        buffers = buffers_after σ (κ w.core).moves (source w.core) (destination w.core) w.buffers;
      }

  -- the note of one clock
  abbrev pub note_by : World M → Note
  note_by w =
      record {
        kind = (κ w.core).kind;
        move =
            pick (κ w.core).moves
            (some (record { from = source w.core; to = destination w.core; byte = byte_at σ (source w.core) w.buffers }))
            none;
        zeroed = (κ w.core).zeroed;
      }

  -- one clock, counted
  abbrev pub step_counted_by : System M → System M
  step_counted_by s = record { world = step_by s.world; clocks = counted (κ s.world.core).kind s.clocks }

  -- n clocks
  unfoldable pub clocked_by : ℕ → System M → System M
  clocked_by zero s = s
  clocked_by (suc n) s = step_counted_by (clocked_by n s)

-- by the rules' clock
module _ {M : Type 0} (σ : Store M) where
  abbrev pub step : World M → World M
  step w = step_by clock_of σ w

  abbrev pub note : World M → Note
  note w = note_by clock_of σ w

  abbrev pub step_counted : System M → System M
  step_counted s = step_counted_by clock_of σ s

  abbrev pub clocked : ℕ → System M → System M
  clocked n s = clocked_by clock_of σ n s
