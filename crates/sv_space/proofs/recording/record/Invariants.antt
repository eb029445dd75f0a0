use Rattle.std.proofs.Common.{ℕ}
use Rattle.sv_rangemap.specs.Lines.{HaveSameSpans}
use Rattle.sv_space.specs.Pieces.{AreWithin, IsSameLine}
use Rattle.sv_space.proofs.Marking.{AreMarked}
use Rattle.sv_space.proofs.recording.record.Given as goal

abbrev pub invariant-loop-place : goal.invariant-loop-place
invariant-loop-place l = record {
  same : IsSameLine l.initial.line l.line;
  spans : HaveSameSpans l.initial.line.pieces.parts.items l.line.pieces.parts.items;
  within : (n : ℕ) → AreWithin n l.initial.line.pieces.parts.items → AreWithin n l.line.pieces.parts.items;
  marked : AreMarked l.accesses l.groups l.number l.initial.line.res l.initial.line.shape l.list
      l.place-index l.initial.line.pieces.parts.items l.line.pieces.parts.items;
}
