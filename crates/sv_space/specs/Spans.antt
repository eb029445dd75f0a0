-- The spans that an area has on a line.
use Rattle.std.specs.Prelude.{List, [], ◌∷◌}
use Rattle.sv_range.specs.declared.span.Span.{Span}
use Rattle.sv_space.specs.declared.spans.Spans.{Spans}
use Rattle.sv_space.specs.declared.spans.Spans.TheVariants.{One, Many}

-- these, in order
abbrev pub spans_in : Spans → List Span
spans_in (One span) = span ∷ []
spans_in (Many spans) = spans
