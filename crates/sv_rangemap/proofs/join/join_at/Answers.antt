use Rattle.std.proofs.Common.{ℕ, List, inl, inr, arith, subst, sym, ap, refl, ◌∙◌, ◌≡◌, ◌<◌, ◌+◌, ◌-◌}
use Rattle.std.proofs.Common.{length, get_or}
use Rattle.std.specs.List.{remove}
use Rattle.std.proofs.Math.ListN.{set, length-set}
use Rattle.std.proofs.lemmas.List.Edits.{length-remove}
use Rattle.sv_rangemap.specs.declared.part.Part.{Part}
use Rattle.sv_rangemap.specs.Lines.{IsCut}
use Rattle.sv_rangemap.proofs.Joins.{two_to_one, read_at, unlike_as}
use Rattle.sv_rangemap.proofs.join.join_at.Goals as goal

pub returns-then-same-clause-long : goal.returns-then-same-clause-long
returns-then-same-clause-long g c =
    let now : Part g.row.V.Denot = record {
      span = record { start = c.get_mut.result.now.span.start; end = c.remove-part.result.span.end };
      value = c.get_mut.result.now.value;
    } in
    let one = ap length c.remove-part.ensures.items in
    let less = length-remove c.args.parts.now.items c.args.index c.requires.listed in
    let kept = length-set c.remove-part.new.self.items (c.args.index - 1) now in
    omega (arith, one, less, kept)

pub returns-then-same-clause-joined : goal.returns-then-same-clause-joined
returns-then-same-clause-joined g c = λ go_on.
    let old = c.args.parts.now.items in
    let k = c.args.index - 1 in
    let here : c.args.index ≡ k + 1 = (let s = c.requires.some in omega (arith, s)) in
    let first = c.get.result.now in
    let second = c.get-2.result.now in
    let whole = c.get_mut.result.now in
    let more = c.remove-part.result in
    let lt : k + 1 < length old = (let l = c.requires.listed in omega (arith, l, here)) in
    let left : c.remove-part.new.self.items ≡ remove old (k + 1) = c.remove-part.ensures.items
    ∙ ap (λ (n : ℕ). remove old n) here in
    let same = g.met.V.Piece.same_are_equal first.value second.value (sym c.same.ensures ∙ c.if-same.true) in
    inr (
      first.span.end,
      subst (λ (ps : List (Part g.row.V.Denot)). IsCut k first.span.end
          (set ps k (record {
            span = record { start = whole.span.start; end = more.span.end };
            value = whole.value;
          })) old) (sym left)
          (two_to_one old k lt go_on first second c.get.ensures
          (c.get-2.ensures ∙ ap (λ (n : ℕ). get_or old n second) here) same whole more
          (c.get_mut.ensures.value ∙ ap (λ (ps : List (Part g.row.V.Denot)). get_or ps k whole) left)
          (c.remove-part.ensures.value ∙ ap (λ (n : ℕ). get_or old n more) here)),
    )

pub returns-else-same-clause-joined : goal.returns-else-same-clause-joined
returns-else-same-clause-joined g c = λ go_on.
    let old = c.args.parts.now.items in
    let k = c.args.index - 1 in
    let here : c.args.index ≡ k + 1 = (let s = c.requires.some in omega (arith, s)) in
    let first = c.get.result.now in
    let second = c.get-2.result.now in
    let lt : k + 1 < length old = (let l = c.requires.listed in omega (arith, l, here)) in
    inl (
      refl,
      λ d. unlike_as g.V.Piece.is_same _ _ _ _ (ap (λ (p : Part g.row.V.Denot). p.value)
          (read_at old k first d (omega (arith, lt)) c.get.ensures))
          (ap (λ (p : Part g.row.V.Denot). p.value)
          (read_at old (k + 1) second d lt (c.get-2.ensures ∙ ap (λ (n : ℕ). get_or old n second) here)))
          (sym c.same.ensures ∙ c.if-same.false),
    )
