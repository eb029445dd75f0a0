use Rattle.std.proofs.Common.{◌≡◌, sym, subst, ◌∙◌, arith}
use Rattle.sv_record.specs.Contexts.{Context, IsNext}
use Rattle.std.specs.Prelude.{unwrap_or}
use Rattle.std.proofs.Common.{ap, Option, List, ◌++◌}
use Rattle.sv_model.specs.declared.work.Step.{Step}
use Rattle.std.proofs.Common.{◌∷◌}
use Rattle.sv_model.specs.Recordings.{scope_after}
use Rattle.sv_record.specs.declared.scope.Open.{Open}
use Rattle.sv_record.specs.Contexts.{StandsFor, pushed_commands, subpass_after}
use Rattle.sv_record.proofs.Pushed.{pushed_by}
use Rattle.sv_record.proofs.Next.{next_fits, next_below}
use Rattle.sv_record.proofs.context.RecordContext.push.Goals as goal

pub steps_of-requires-clause-command : goal.steps_of-requires-clause-command
steps_of-requires-clause-command c = next_fits c.self.inside.of.value c.self.inside.number
    c.self.invariant.recording c.args.passes.now c.self.inside.pushed c.args.command.now
    c.self.invariant.lawful c.self.invariant.declared
    (subst (λ (k : Context). c.args.passes.now ≡ k.trace.passes) (sym c.self.view_is) c.requires.passes)
    (subst (λ (k : Context). IsNext k c.args.command.now) (sym c.self.view_is) c.requires.next)

pub steps_of-requires-clause-subpass : goal.steps_of-requires-clause-subpass
steps_of-requires-clause-subpass c =
    let below = (next_below c.self.inside.of.value c.self.inside.number c.self.invariant.recording
    c.self.inside.pushed c.args.command.now c.self.invariant.lawful c.self.invariant.declared
    (subst (λ (k : Context). IsNext k c.args.command.now) (sym c.self.view_is) c.requires.next)).1 in
    let few = c.self.invariant.few in
    omega arith

pub overflow_add-self : goal.overflow_add-self
overflow_add-self c =
    let below = (next_below c.self.inside.of.value c.self.inside.number c.self.invariant.recording
    c.self.inside.pushed c.args.command.now c.self.invariant.lawful c.self.invariant.declared
    (subst (λ (k : Context). IsNext k c.args.command.now) (sym c.self.view_is) c.requires.next)).1 in
    omega arith

pub subpass_after-subpass-requires : goal.subpass_after-subpass-requires
subpass_after-subpass-requires c =
    let below = (next_below c.self.inside.of.value c.self.inside.number c.self.invariant.recording
    c.self.inside.pushed c.args.command.now c.self.invariant.lawful c.self.invariant.declared
    (subst (λ (k : Context). IsNext k c.args.command.now) (sym c.self.view_is) c.requires.next)).1 in
    let few = c.self.invariant.few in
    omega arith

pub invariant_of-self-in-Some : goal.invariant_of-self-in-Some
invariant_of-self-in-Some c =
    let next = subst (λ (k : Context). IsNext k c.args.command.now) (sym c.self.view_is) c.requires.next in
    let same = sym (subst (λ (k : Context). c.args.passes.now ≡ k.trace.passes)
    (sym c.self.view_is) c.requires.passes) in
    let before = pushed_commands c.self.inside.of.value c.self.inside.number c.self.inside.pushed in
    pushed_by c.self.inside.of.value c.self.inside.number c.self.inside.family c.self.inside.pushed
    c.self.inside.begun c.self.inside.scope c.self.inside.subpass c.self.inside.steps.items
    c.args.command.now c.in-Some.scope c.in_ok-after.steps c.instance_at.result c.subpass_in.result
    c.len.result c.begins-begins.result c.begun_after-begun.result c.subpass_after-subpass.result
    c.append.new.self.items c.self.invariant next
    (c.instance_at.ensures c.self.inside.of.value
    (scope_after before) c.self.inside.subpass c.args.command.now before c.self.invariant.stands
    c.self.invariant.counted c.begins-begins.ensures)
    (c.subpass_in.ensures c.self.inside.of.value (scope_after before) c.self.invariant.stands)
    (c.len.ensures ∙ c.self.inside.steps.ok.0) (c.in_ok-after.ensures.steps c.self.inside.of.value
    (scope_after before) same c.self.invariant.stands)
    (subst (λ (o : Option Open). StandsFor c.self.inside.of.value (unwrap_or o c.self.inside.scope)
    (subpass_after c.args.command.now c.self.inside.subpass) (scope_after (c.args.command.now ∷ before)))
    c.in-Some.is (c.in_ok-after.ensures.scope c.self.inside.of.value before same c.self.invariant.stands))
    c.begins-begins.ensures c.begun_after-begun.ensures c.subpass_after-subpass.ensures
    (c.in_ok-append.ensures.items ∙ ap (λ (x : List Step). c.self.inside.steps.items ++ x)
    c.into_vec-steps.ensures)

pub invariant_of-self-in-Some-2 : goal.invariant_of-self-in-Some-2
invariant_of-self-in-Some-2 c =
    let next = subst (λ (k : Context). IsNext k c.args.command.now) (sym c.self.view_is) c.requires.next in
    let same = sym (subst (λ (k : Context). c.args.passes.now ≡ k.trace.passes)
    (sym c.self.view_is) c.requires.passes) in
    let before = pushed_commands c.self.inside.of.value c.self.inside.number c.self.inside.pushed in
    pushed_by c.self.inside.of.value c.self.inside.number c.self.inside.family c.self.inside.pushed
    c.self.inside.begun c.self.inside.scope c.self.inside.subpass c.self.inside.steps.items
    c.args.command.now c.in-Some.scope c.in_ok-after.steps c.instance_at.result c.subpass_in.result
    c.len.result c.begins-begins.result c.begun_after-begun.result c.subpass_after-subpass.result
    c.append.new.self.items c.self.invariant next
    (c.instance_at.ensures c.self.inside.of.value
    (scope_after before) c.self.inside.subpass c.args.command.now before c.self.invariant.stands
    c.self.invariant.counted c.begins-begins.ensures)
    (c.subpass_in.ensures c.self.inside.of.value (scope_after before) c.self.invariant.stands)
    (c.len.ensures ∙ c.self.inside.steps.ok.0) (c.in_ok-after.ensures.steps c.self.inside.of.value
    (scope_after before) same c.self.invariant.stands)
    (subst (λ (o : Option Open). StandsFor c.self.inside.of.value (unwrap_or o c.self.inside.scope)
    (subpass_after c.args.command.now c.self.inside.subpass) (scope_after (c.args.command.now ∷ before)))
    c.in-Some.is (c.in_ok-after.ensures.scope c.self.inside.of.value before same c.self.invariant.stands))
    c.begins-begins.ensures c.begun_after-begun.ensures c.subpass_after-subpass.ensures
    (c.in_ok-append.ensures.items ∙ ap (λ (x : List Step). c.self.inside.steps.items ++ x)
    c.into_vec-steps.ensures)

pub invariant_of-self-in-Some-3 : goal.invariant_of-self-in-Some-3
invariant_of-self-in-Some-3 c =
    let next = subst (λ (k : Context). IsNext k c.args.command.now) (sym c.self.view_is) c.requires.next in
    let same = sym (subst (λ (k : Context). c.args.passes.now ≡ k.trace.passes)
    (sym c.self.view_is) c.requires.passes) in
    let before = pushed_commands c.self.inside.of.value c.self.inside.number c.self.inside.pushed in
    pushed_by c.self.inside.of.value c.self.inside.number c.self.inside.family c.self.inside.pushed
    c.self.inside.begun c.self.inside.scope c.self.inside.subpass c.self.inside.steps.items
    c.args.command.now c.in-Some.scope c.in_ok-after.steps c.instance_at.result c.subpass_in.result
    c.len.result c.begins-begins.result c.begun_after-begun.result c.subpass_after-subpass.result
    c.append.new.self.items c.self.invariant next
    (c.instance_at.ensures c.self.inside.of.value
    (scope_after before) c.self.inside.subpass c.args.command.now before c.self.invariant.stands
    c.self.invariant.counted c.begins-begins.ensures)
    (c.subpass_in.ensures c.self.inside.of.value (scope_after before) c.self.invariant.stands)
    (c.len.ensures ∙ c.self.inside.steps.ok.0) (c.in_ok-after.ensures.steps c.self.inside.of.value
    (scope_after before) same c.self.invariant.stands)
    (subst (λ (o : Option Open). StandsFor c.self.inside.of.value (unwrap_or o c.self.inside.scope)
    (subpass_after c.args.command.now c.self.inside.subpass) (scope_after (c.args.command.now ∷ before)))
    c.in-Some.is (c.in_ok-after.ensures.scope c.self.inside.of.value before same c.self.invariant.stands))
    c.begins-begins.ensures c.begun_after-begun.ensures c.subpass_after-subpass.ensures
    (c.in_ok-append.ensures.items ∙ ap (λ (x : List Step). c.self.inside.steps.items ++ x)
    c.into_vec-steps.ensures)

pub invariant_of-self-in_default : goal.invariant_of-self-in_default
invariant_of-self-in_default c =
    let next = subst (λ (k : Context). IsNext k c.args.command.now) (sym c.self.view_is) c.requires.next in
    let same = sym (subst (λ (k : Context). c.args.passes.now ≡ k.trace.passes)
    (sym c.self.view_is) c.requires.passes) in
    let before = pushed_commands c.self.inside.of.value c.self.inside.number c.self.inside.pushed in
    pushed_by c.self.inside.of.value c.self.inside.number c.self.inside.family c.self.inside.pushed
    c.self.inside.begun c.self.inside.scope c.self.inside.subpass c.self.inside.steps.items
    c.args.command.now c.self.inside.scope c.in_ok-after.steps c.instance_at.result c.subpass_in.result
    c.len.result c.begins-begins.result c.begun_after-begun.result c.subpass_after-subpass.result
    c.append.new.self.items c.self.invariant next
    (c.instance_at.ensures c.self.inside.of.value
    (scope_after before) c.self.inside.subpass c.args.command.now before c.self.invariant.stands
    c.self.invariant.counted c.begins-begins.ensures)
    (c.subpass_in.ensures c.self.inside.of.value (scope_after before) c.self.invariant.stands)
    (c.len.ensures ∙ c.self.inside.steps.ok.0) (c.in_ok-after.ensures.steps c.self.inside.of.value
    (scope_after before) same c.self.invariant.stands)
    (subst (λ (o : Option Open). StandsFor c.self.inside.of.value (unwrap_or o c.self.inside.scope)
    (subpass_after c.args.command.now c.self.inside.subpass) (scope_after (c.args.command.now ∷ before)))
    c.in_default.is (c.in_ok-after.ensures.scope c.self.inside.of.value before same
    c.self.invariant.stands)) c.begins-begins.ensures c.begun_after-begun.ensures
    c.subpass_after-subpass.ensures (c.in_ok-append.ensures.items
    ∙ ap (λ (x : List Step). c.self.inside.steps.items ++ x) c.into_vec-steps.ensures)
