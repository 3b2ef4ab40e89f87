-- A span with its kind by number is one with the kind of that number.
-- Assumes nothing.
use Prim.Native.Nat.{ℕ, ◌<◌}
use native.Mathlib.Omega.{arith}
use mathlib.Core.Path.{◌≡◌, sym, ◌∙◌, ap}
use Rattle.rules.specs.Buffers.{Store}
use Rattle.rules.specs.Spans.{kind_of, IsSpan, IsLongest}
use Rattle.rules.specs.Coded.{CodedSpan, IsCodedSpan, IsLongestCoded, CodedAreClocks, CodedSettled}
use Rattle.rules.specs.declared.Core.{Core}
use Rattle.rules.specs.declared.at_once.Span.{Span}
use Rattle.rules.proofs.Spans.{kind_of_code, spans_are_clocks, spans_settled}
use Rattle.rules.proofs.Turns.{turns_are_clocks}

-- the span with the kind itself
abbrev decoded : CodedSpan → Span
decoded x = record { kind = kind_of x.kind; clocks = x.clocks; moves = x.moves; from = x.from; to = x.to; next = x.next }

is_span : {c : Core} {budget : ℕ} {x : CodedSpan} → IsCodedSpan c budget x → IsSpan c budget (decoded x)
is_span p =
    record {
      within = p.within;
      some = p.some;
      kinds = λ i l. sym (kind_of_code _) ∙ ap kind_of (p.kinds i l);
      quiet = p.quiet;
      last = p.last;
      source = p.source;
      destination = p.destination;
      none = p.none;
      core = p.core;
    }

is_longest : {c : Core} {budget : ℕ} {x : CodedSpan} → IsLongestCoded c budget x → IsLongest c budget (decoded x)
is_longest p = record { inside = p.inside; reached = p.reached; idle = p.idle }

pub coded_are_clocks : {M : Type 0} (σ : Store M) → CodedAreClocks σ
coded_are_clocks σ =
    record {
      spans = λ s budget x p. (spans_are_clocks σ).spans s budget (decoded x) (is_span p);
      turn = λ s left x r p. (turns_are_clocks σ).span s left (decoded x) r (is_span p);
    }

settled :
    {c : Core} {budget : ℕ} {x y : CodedSpan} → IsCodedSpan c budget x → IsLongestCoded c budget x → IsCodedSpan c budget y → IsLongestCoded c budget y
    → (x.clocks ≡ y.clocks) × (x.next ≡ y.next) × (x.moves ≡ y.moves)
    × (0 < x.clocks → (x.kind ≡ y.kind) × (x.from ≡ y.from) × (x.to ≡ y.to))
settled p f q g =
    let s = spans_settled.settled (is_span p, is_longest f) (is_span q, is_longest g) in
    (s.0, s.1, s.2, λ h. (sym (p.kinds 0 h) ∙ q.kinds 0 (omega (arith, s.0, h)), (s.3 h).1, (s.3 h).2))

pub coded_settled : CodedSettled
coded_settled = record { settled = settled }
