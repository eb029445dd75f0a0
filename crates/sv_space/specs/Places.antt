-- Places of pieces that are listed so far.
use Rattle.std.specs.Prelude.{ℕ, ◌<◌, ◌≤◌, List, length, slice_index_or, Contains}
use Rattle.std.specs.List.{AllPairs}
use Rattle.sv_range.specs.Lines.{InSome}
use Rattle.sv_range.specs.Spans.{EndsBefore, InSpan}
use Rattle.sv_range.specs.declared.span.Span.{Span}
use Rattle.sv_rangemap.specs.declared.part.Part.{Part}
use Rattle.sv_space.specs.declared.known.Known.{Known}

-- the places below this one of the pieces with cells of the first so many spans
pub record AreListed (parts : List (Part Known)) (spans : List Span) (i next : ℕ)
    (places : List ℕ) : Type 0 where
  pub short : next ≤ length parts
  pub rising : AllPairs (λ (a b : ℕ). a < b) places
  pub below : (k : ℕ) → Contains places k → k < next
  pub has : (k : ℕ) (d : Part Known) → Contains places k → (n : ℕ)
      × InSpan (slice_index_or parts k d).span n × InSome spans n
  pub low : ℕ
  pub low_le : (j : ℕ) (e : Span) → i ≤ j → j < length spans → low ≤ (slice_index_or spans j e).start
  pub reach : (k n : ℕ) (d : Part Known) → k < next → InSpan (slice_index_or parts k d).span n → low ≤ n
      → Contains places k
  pub all : (k n j : ℕ) (d : Part Known) (e : Span) → k < length parts → j < i
      → InSpan (slice_index_or parts k d).span n → InSpan (slice_index_or spans j e) n → Contains places k
  pub ascending : AllPairs EndsBefore spans
  pub ordered : (j : ℕ) (e : Span) → j < length spans → (slice_index_or spans j e).start
      < (slice_index_or spans j e).end
