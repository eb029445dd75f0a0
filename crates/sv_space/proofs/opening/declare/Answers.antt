use Rattle.std.proofs.Common.{ℕ, arith, ◌*◌, ◌≡◌, ◌∙◌, Some, ap, inl, inr, subst, sym}
use Rattle.std.proofs.lemmas.Result.{on_ok_weaker}
use Rattle.sv_model.specs.Lawful.{IsLawfulResource}
use Rattle.sv_model.specs.declared.line.Line.{Line as Declared}
use Rattle.sv_space.specs.Resources.{IsLineFor}
use Rattle.sv_space.specs.declared.line.Line.{Line}
use Rattle.sv_space.proofs.Fresh.{some_cells}
use Rattle.sv_space.proofs.Once.{line_number}
use Rattle.sv_space.proofs.opening.declare.Goals as goal

pub returns-in_ok-line-in-Buffer-clause-only : goal.returns-in_ok-line-in-Buffer-clause-only
returns-in_ok-line-in-Buffer-clause-only c =
    let line = c.in_ok-line-in-Buffer.line in
    let is : IsLineFor c.args.declared.now line =
    subst (λ (d : Declared). IsLineFor d line) (sym c.in-Buffer.is)
    c.in_ok-line-in-Buffer.ensures.resource in
    on_ok_weaker c.insert.result (λ only l on. elim (only l on) [
      | inl old ↦ inl old
      | inr same ↦ inr (subst (λ (m : Line). IsLineFor c.args.declared.now m)
          (sym same) is)
    ]) c.insert.ensures.only

pub returns-in_ok-line-in-Buffer-clause-has : goal.returns-in_ok-line-in-Buffer-clause-has
returns-in_ok-line-in-Buffer-clause-has c =
    let line = c.in_ok-line-in-Buffer.line in
    let is : IsLineFor c.args.declared.now line =
    subst (λ (d : Declared). IsLineFor d line) (sym c.in-Buffer.is)
    c.in_ok-line-in-Buffer.ensures.resource in
    on_ok_weaker c.insert.result (λ has none. (
      line,
      has (λ l on same. none l on (line_number c.args.declared.now line is ∙ ap Some (sym same))),
      is,
    ))
    c.insert.ensures.has

pub returns-in_ok-line-in-Image-clause-only : goal.returns-in_ok-line-in-Image-clause-only
returns-in_ok-line-in-Image-clause-only c =
    let line = c.in_ok-line-in-Image.line in
    let r = c.in_ok-line-in-Image.ensures.resource in
    let size : line.pieces.size ≡ c.in-Image.mips * c.in-Image.layers = r.2
    ∙ ap (λ (n : ℕ). n * c.from-in-Image.result) c.from.ensures
    ∙ ap (λ (n : ℕ). c.in-Image.mips * n) c.from-in-Image.ensures in
    let is : IsLineFor c.args.declared.now line =
    subst (λ (d : Declared). IsLineFor d line) (sym c.in-Image.is) (r.0, r.1, size) in
    on_ok_weaker c.insert-in-Image.result (λ only l on. elim (only l on) [
      | inl old ↦ inl old
      | inr same ↦ inr (subst (λ (m : Line). IsLineFor c.args.declared.now m)
          (sym same) is)
    ]) c.insert-in-Image.ensures.only

pub returns-in_ok-line-in-Image-clause-has : goal.returns-in_ok-line-in-Image-clause-has
returns-in_ok-line-in-Image-clause-has c =
    let line = c.in_ok-line-in-Image.line in
    let r = c.in_ok-line-in-Image.ensures.resource in
    let size : line.pieces.size ≡ c.in-Image.mips * c.in-Image.layers = r.2
    ∙ ap (λ (n : ℕ). n * c.from-in-Image.result) c.from.ensures
    ∙ ap (λ (n : ℕ). c.in-Image.mips * n) c.from-in-Image.ensures in
    let is : IsLineFor c.args.declared.now line =
    subst (λ (d : Declared). IsLineFor d line) (sym c.in-Image.is) (r.0, r.1, size) in
    on_ok_weaker c.insert-in-Image.result (λ has none. (
      line,
      has (λ l on same. none l on (line_number c.args.declared.now line is ∙ ap Some (sym same))),
      is,
    )) c.insert-in-Image.ensures.has

pub new-requires-clause-some : goal.new-requires-clause-some
new-requires-clause-some c =
    let l = subst (λ (d : Declared). IsLawfulResource d) c.in-Buffer.is c.requires.lawful in
    let some = l.1 in
    omega (arith, some)

pub new-requires-in-Image-clause-some : goal.new-requires-in-Image-clause-some
new-requires-in-Image-clause-some c =
    let l = subst (λ (d : Declared). IsLawfulResource d) c.in-Image.is c.requires.lawful in
    rw (c.from.ensures, c.from-in-Image.ensures) (some_cells c.in-Image.mips c.in-Image.layers l.1 l.3)

pub new-requires-in-Image-clause-shaped : goal.new-requires-in-Image-clause-shaped
new-requires-in-Image-clause-shaped c =
    let l = subst (λ (d : Declared). IsLawfulResource d) c.in-Image.is c.requires.lawful in
    let mips = l.2 in
    let layers = l.4 in (
      l.3,
      (
        omega (arith, layers),
        (
          omega (arith, mips),
          (
            rw (c.from.ensures, c.from-in-Image.ensures) (omega arith),
            rw (c.from.ensures, c.from-in-Image.ensures) (omega arith),
          ),
        ),
      ),
    )
