use Rattle.std.proofs.Common.{◌<◌, ◌∙◌, List, ap, drop, length, refl, subst, sym, take}
use Rattle.sv_model.specs.declared.line.Line.{Line}
use Rattle.sv_pass.specs.Begun.{pass_in}
use Rattle.sv_record.proofs.FirstPlaces.{said_there, found_at, found_nowhere}
use Rattle.sv_record.proofs.passes.Passes.find.Goals as goal

pub line_at-requires : goal.line_at-requires
line_at-requires c =
    let tells = sym (c.self.invariant c.args.pass) ∙ sym c.place_of.ensures ∙ c.in-Some.is in
    subst (λ (ls : List Line). c.in-Some.place < length ls) (sym c.as_slice.ensures)
    (said_there c.args.pass c.self.inside.lines c.in-Some.place tells).0

pub returns-in-Some : goal.returns-in-Some
returns-in-Some c =
    let tells = sym (c.self.invariant c.args.pass) ∙ sym c.place_of.ensures ∙ c.in-Some.is in
    found_at c.args.pass c.in-Some.place c.self.inside.lines c.line_at.result.now tells
    (c.line_at.ensures ∙ ap (λ (ls : List Line). take 1 (drop c.in-Some.place ls)) c.as_slice.ensures)
    ∙ ap (λ (ls : List Line). pass_in ls c.args.pass) c.self.view_is

pub returns-in-None : goal.returns-in-None
returns-in-None c =
    let tells = sym (c.self.invariant c.args.pass) ∙ sym c.place_of.ensures ∙ c.in-None.is in
    found_nowhere c.args.pass c.self.inside.lines _ tells refl
    ∙ ap (λ (ls : List Line). pass_in ls c.args.pass) c.self.view_is
