use Rattle.std.proofs.Common.{ℕ, ◌≡◌, ◌<◌, ◌⊎◌, List, Contains, length, get_or}
use Rattle.sv_model.specs.Reports.{AreNumbered}
use Rattle.sv_model.specs.declared.work.Step.{Step}
use Rattle.sv_rangemap.specs.declared.part.Part.{Part}
use Rattle.sv_rangemap.specs.Lines.{HaveSameSpans}
use Rattle.sv_space.specs.Known.{groups_in}
use Rattle.sv_space.specs.Pieces.{AreWithin, IsLineOf, IsSameLine}
use Rattle.sv_space.specs.declared.known.Known.{Known}
use Rattle.sv_space.proofs.line.Line.catch_up.Given as goal

abbrev pub invariant-loop-place : goal.invariant-loop-place
invariant-loop-place l = record {
  same : IsSameLine l.initial.self l.self;
  spans : HaveSameSpans l.initial.self.pieces.parts.items l.self.pieces.parts.items;
  within : AreWithin (length l.log) l.self.pieces.parts.items;
  stands : (work : List Step) → AreNumbered work → l.log ≡ groups_in work
      → IsLineOf work l.initial.self.res l.initial.self.shape l.initial.self.pieces.parts.items
      → IsLineOf work l.initial.self.res l.initial.self.shape l.self.pieces.parts.items;
  changed : (k : ℕ) (d : Part Known) → (get_or l.self.pieces.parts.items k d
      ≡ get_or l.initial.self.pieces.parts.items k d)
      ⊎ ((get_or l.self.pieces.parts.items k d).value.upto ≡ length l.log);
  others : (k : ℕ) (d : Part Known) → (Contains l.places k → ⊥) → get_or l.self.pieces.parts.items k d
      ≡ get_or l.initial.self.pieces.parts.items k d;
  none : ((k : ℕ) (d : Part Known) → Contains l.places k
      → (get_or l.initial.self.pieces.parts.items k d).value.upto ≡ length l.log) → l.given ≡ 0;
  caught : (j e : ℕ) (d : Part Known) → j < l.place-index
      → (get_or l.self.pieces.parts.items (get_or l.places j e) d).value.upto ≡ length l.log;
}
