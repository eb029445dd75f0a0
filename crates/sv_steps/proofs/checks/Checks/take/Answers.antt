use Rattle.std.proofs.Common.{[], ◌∷◌, ◌++◌, sym, subst, length}
use Rattle.std.proofs.lemmas.Result.{on_ok_weaker}
use Rattle.sv_model.specs.Layouts.{layout_notes, moved_after}
use Rattle.sv_model.specs.Notes.{AreGreatestNotes}
use Rattle.sv_model.specs.Owners.{acted_after, owner_notes}
use Rattle.sv_model.specs.ReplyLaws.{before_end}
use Rattle.sv_model.specs.Reports.{AreReportsFrom, spots_of}
use Rattle.sv_model.specs.declared.work.Step.{Step}
use Rattle.sv_layout.specs.Layouts as layouts
use Rattle.sv_owner.specs.Owners as owners
use Rattle.sv_space.specs.Space as space
use Rattle.sv_space.specs.Steps.{IsNext}
use Rattle.sv_replies.specs.Replying.{steps_in}
use Rattle.sv_steps.proofs.Taken.{areas_kept, is_here, numbered_in, reports_here, steps_stand}
use Rattle.sv_steps.proofs.checks.Checks.take.Goals as goal

pub returns-clause-areas : goal.returns-clause-areas
returns-clause-areas c = on_ok_weaker c.add_step.result
    (λ added t has. areas_kept t c.args.self.now (record {
      space = c.touch.new.self;
      layouts = c.apply.new.self;
      owners = c.apply-2.new.self;
      steps = c.in_ok-self.field-0;
      reply = c.add_step.new.reply;
    }) c.in_ok-reports.ensures.areas
    c.apply.ensures.images c.apply-2.ensures.resources has) c.add_step.ensures

pub returns-clause-stands : goal.returns-clause-stands
returns-clause-stands c = on_ok_weaker c.add_step.result (λ added t steps b stand is same.
    let given = subst (λ (s : Step). IsNext (length (steps_in steps)) s) same (is_here t steps b is) in
    steps_stand t steps b c.args.self.now (record {
      space = c.touch.new.self;
      layouts = c.apply.new.self;
      owners = c.apply-2.new.self;
      steps = c.in_ok-self.field-0;
      reply = c.add_step.new.reply;
    }) stand is c.in_ok-self.ensures
    (subst (λ (s : Step). space.IsSpaceOf c.touch.new.self (steps_in steps ++ s ∷ [])) (sym same)
    (c.in_ok-reports.ensures.stands (steps_in steps) stand.space given))
    (subst (λ (s : Step). layouts.IsLayoutsOf t (moved_after (before_end t steps).moved s) c.apply.new.self)
    (sym same) (c.in_ok-layouts.ensures.stands t (before_end t steps).moved stand.layouts))
    (subst (λ (s : Step). owners.IsOwnersOf t (acted_after t (before_end t steps).actions s)
    c.apply-2.new.self) (sym same) (c.in_ok-owners.ensures.stands t
    (before_end t steps).actions stand.owners))) c.add_step.ensures

pub returns-clause-reply : goal.returns-clause-reply
returns-clause-reply c = on_ok_weaker c.add_step.result
    (λ added t event old more b stand so_far is same notes none e.
    let given = subst (λ (s : Step). IsNext (length (steps_in (old ++ more))) s) same
    (is_here t (old ++ more) b is) in
    let reports = subst (λ (s : Step). AreReportsFrom (length (steps_in (old ++ more)))
    (steps_in (old ++ more) ++ s ∷ []) (spots_of c.in_ok-reports.reports)) (sym same)
    (c.in_ok-reports.ensures.reports (steps_in (old ++ more)) stand.space given) in
    added t event old more b (numbered_in (steps_in (old ++ more)) stand.in_order) is.numbered
    (reports_here t (old ++ more) b c.in_ok-reports.reports reports) c.in_ok-reports.ensures.runs
    (subst (λ (s : Step). AreGreatestNotes (layout_notes t (before_end t (old ++ more)).moved s)
    c.in_ok-layouts.layouts) (sym same) (c.in_ok-layouts.ensures.notes t
    (before_end t (old ++ more)).moved stand.layouts))
    (subst (λ (s : Step). AreGreatestNotes (owner_notes t (before_end t (old ++ more)).actions s)
    c.in_ok-owners.owners) (sym same) (c.in_ok-owners.ensures.notes t
    (before_end t (old ++ more)).actions stand.owners))
    notes none e so_far) c.add_step.ensures
