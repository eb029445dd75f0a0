use Rattle.std.proofs.Common.{◌+◌, ◌*◌, ◌<◌, ◌≤◌, ℕ, get_or}
use Rattle.sv_range.specs.declared.span.Span.{Span}
use Rattle.sv_rangemap.specs.Lines.{ArePartsOf}
use Rattle.sv_space.specs.Counts.{pieces_on}
use Rattle.sv_space.specs.Pieces.{IsSameLine}
use Rattle.sv_space.proofs.Cuts.{IsCutAt}
use Rattle.sv_space.proofs.cutting.cut.Given as goal

abbrev pub invariant-loop-span : goal.invariant-loop-span
invariant-loop-span l = record {
  same : IsSameLine l.initial.line l.line;
  parts : ArePartsOf l.line.pieces.parts.items l.initial.line.pieces.parts.items;
  cut : (j : ℕ) (e : Span) → j < l.span-index → IsCutAt l.line.pieces.size l.line.pieces.parts.items
      (get_or l.list j e);
  few : pieces_on l.line ≤ pieces_on l.initial.line + 2 * l.span-index;
}
