-- One more step of the space, the layouts and the owners.
use Rattle.std.proofs.Common.{ℕ, ◌+◌, ◌≡◌, List, [], ◌∷◌, ◌++◌, length, sym, subst, arith, length-append}
use Rattle.std.proofs.lemmas.List.{length-map, map-append}
use Rattle.std.proofs.lemmas.List.Sums.{fold-append}
use Rattle.sv_model.specs.Places.{Bound}
use Rattle.sv_model.specs.Layouts.{moved_after}
use Rattle.sv_model.specs.Notes.{Before, nothing_before, with_step}
use Rattle.sv_model.specs.Owners.{acted_after}
use Rattle.sv_model.specs.ReplyLaws.{before_end}
use Rattle.sv_model.specs.Reports.{AreNumbered, AreReportsFrom, spots_of}
use Rattle.sv_model.specs.declared.line.Trace.{Trace}
use Rattle.sv_model.specs.declared.work.Area.TheVariants.{Bytes, Image}
use Rattle.sv_model.specs.declared.work.Report.{Report}
use Rattle.sv_model.specs.declared.work.Step.{Step}
use Rattle.sv_layout.specs.Layouts as layouts
use Rattle.sv_owner.specs.Owners as owners
use Rattle.sv_space.specs.Space as space
use Rattle.sv_space.specs.Steps.{AreInOrder, IsNext}
use Rattle.sv_space.proofs.Numbering.{in_order_push}
use Rattle.sv_replies.specs.Replying.{steps_in}
use Rattle.sv_steps.specs.Checked.{HaveAreas, StandForSteps}
use Rattle.sv_steps.specs.declared.checks.Checks.{Checks}

pub areas_kept : (t : Trace) (old new : Checks) → space.KeepsAreas old.space new.space
    → layouts.KeepsImages old.layouts new.layouts → owners.KeepsResources old.owners new.owners
    → HaveAreas t old → HaveAreas t new
areas_kept t old new s l o has = record {
  space = record {
    areas = λ a is. s.areas a (has.space.areas a is);
    lines = let kept = s.lines in let few = has.space.lines in omega (arith, kept, few);
  };
  layouts = λ res mips layers box e m n is. l (Image res box) (has.layouts res mips layers box e m n is);
  owners = record {
    spans = λ res size span e some within. o (Bytes res span) (has.owners.spans res size span e some within);
    boxes = λ res mips layers box e m n is. o (Image res box) (has.owners.boxes res mips layers box e m n is);
  };
}

module _ (t : Trace) (steps : List Bound) (b : Bound) where
  long : length (steps_in steps) ≡ length steps
  long = length-map steps (λ (x : Bound). x.step)

  grown : steps_in (steps ++ b ∷ []) ≡ steps_in steps ++ b.step ∷ []
  grown = map-append (λ (x : Bound). x.step) steps (b ∷ [])

  before_grown : before_end t (steps ++ b ∷ []) ≡ with_step t (before_end t steps) b
  before_grown = fold-append (with_step t) nothing_before steps (b ∷ [])

  pub is_here : IsNext (length steps) b.step → IsNext (length (steps_in steps)) b.step
  is_here is = subst (λ (n : ℕ). IsNext n b.step) (sym long) is

  pub steps_stand : (old new : Checks) → StandForSteps t steps old → IsNext (length steps) b.step
      → new.steps ≡ old.steps + 1
      → space.IsSpaceOf new.space (steps_in steps ++ b.step ∷ [])
      → layouts.IsLayoutsOf t (moved_after (before_end t steps).moved b.step) new.layouts
      → owners.IsOwnersOf t (acted_after t (before_end t steps).actions b.step) new.owners
      → StandForSteps t (steps ++ b ∷ []) new
  steps_stand old new stand is count s l o = record {
    count = let e = stand.count in let m = length-append steps (b ∷ []) in omega (arith, e, m, count);
    in_order = subst AreInOrder (sym grown) (in_order_push (steps_in steps) b.step stand.in_order
        (is_here is));
    space = subst (space.IsSpaceOf new.space) (sym grown) s;
    layouts = subst (λ (x : Before). layouts.IsLayoutsOf t x.moved new.layouts) (sym before_grown) l;
    owners = subst (λ (x : Before). owners.IsOwnersOf t x.actions new.owners) (sym before_grown) o;
  }

  pub reports_here : (reports : List Report) → AreReportsFrom (length (steps_in steps))
      (steps_in steps ++ b.step ∷ []) (spots_of reports)
      → AreReportsFrom (length steps) (steps_in steps ++ b.step ∷ []) (spots_of reports)
  reports_here reports is = subst (λ (n : ℕ). AreReportsFrom n (steps_in steps ++ b.step ∷ [])
      (spots_of reports)) long is

pub numbered_in : (work : List Step) → AreInOrder work → AreNumbered work
numbered_in work are k d lt = (are k d lt).numbered
