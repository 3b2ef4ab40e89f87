-- Bytes that come in pieces: to keep what is not taken and to go on from there with more bytes behind it comes to the same
-- lines as to have all bytes at hand.
-- Assumes nothing.
use Rattle.std.specs.Prelude.{ℕ, ◌+◌, ◌≡◌, Bool, false, List, ◌++◌, drop}
use Rattle.rules.specs.Buffers.{Buffers}
use Rattle.session.specs.Steps.{Session, needs_bytes}
use Rattle.bench.specs.Working.{Gathered, lines_before, gathered}

-- what steps come to, with a next place that lies so much farther on
abbrev pub place_farther : ℕ → Gathered → Gathered
place_farther k g =
    record {
      progress = g.progress;
      session = g.session;
      next = k + g.next;
      lines = g.lines;
      unused = g.unused;
      buffers = g.buffers;
    }

-- of steps over the bytes xs, of which the last needs more: those that go on with further bytes ys, from the first byte not
-- taken, write the lines that follow
abbrev pub PiecesGathered : Session → List ℕ → ℕ → List ℕ → Buffers (List ℕ) → List ℕ → Bool → Type 0
PiecesGathered s xs p out b ys ended =
    let g : Gathered = gathered s xs p false out b in
    g.progress ≡ needs_bytes
    → gathered s (xs ++ ys) p ended out b
    ≡ lines_before g.lines (place_farther g.next (gathered g.session (drop g.next (xs ++ ys)) 0 ended g.unused g.buffers))
