use Rattle.std.proofs.Common.{◌≡◌, ◌∷◌, ◌++◌, [], ◌∙◌, List, Contains, inl, inr, ap, arith, get_or, refl}
use Rattle.std.proofs.Common.{sym, subst, take}
use Rattle.std.proofs.lemmas.List.{take_all, take_more}
use Rattle.std.proofs.lemmas.List.Elements.{Contains-append_left, Contains-push}
use Rattle.sv_model.specs.Lawful.{declared_number}
use Rattle.sv_model.specs.declared.line.Line.{Line as Declared}
use Rattle.sv_space.specs.Resources.{HasLineFor}
use Rattle.sv_space.proofs.Once.{line_number, once_apart}
use Rattle.sv_space.proofs.Taken.{taken_cases}
use Rattle.sv_space.proofs.opening.open_all.Goals as goal

pub loop-declared-preserved : goal.loop-declared-preserved
loop-declared-preserved c =
    let was = c.loop-declared.invariant in
    let one = c.in_ok-declare.ensures in
    let rs = c.args.resources.now in
    let i = c.loop-declared.declared-index in
    let d = c.declared-item.result in
    let lt = c.loop-declared-test.true in
    let at : get_or rs i d ≡ d = sym c.declared-item.is in
    let new = c.declare.new.lines.items in
    let taken = take_more rs i d lt ∙ ap (λ (e : Declared). take i rs ++ e ∷ []) at in record {
      sorted = one.sorted;
      fresh = one.fresh was.fresh;
      from = λ m on. elim (one.only m on) [
        | inl old ↦ (let w = was.from m old in (
          w.0,
          subst (λ (es : List Declared). Contains es w.0) (sym taken)
              (Contains-append_left (take i rs) (d ∷ []) w.0 w.1),
          w.2,
        ))
        | inr now ↦ (
          d,
          subst (λ (es : List Declared). Contains es d) (sym taken)
              (Contains-push (take i rs) d),
          now,
        )
      ];
      has = λ once e on. elim (taken_cases rs i d lt at e on) [
        | inl before ↦ (let w = was.has once e before in (w.0, one.kept w.0 w.1, w.2))
        | inr same ↦ subst (λ (f : Declared). HasLineFor new f) same (one.has (λ l in_old is_number.
            let w = was.from l in_old in
            once_apart declared_number rs once i d w.0 lt at w.1 l.res l.res
            (line_number w.0 l w.2) is_number refl))
      ];
      few = let before = was.few in let more = one.few in omega (arith, before, more);
    }

pub returns-clause-has : goal.returns-clause-has
returns-clause-has c = λ once d on.
    c.loop-declared.invariant.has once d (subst (λ (es : List Declared). Contains es d)
    (sym (take_all c.loop-declared.declared-index c.args.resources.now (omega arith))) on)
