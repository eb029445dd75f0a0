use Rattle.std.proofs.Common.{◌≡◌, ◌∙◌, Option, Some, None, subst, sym}
use Rattle.std.proofs.lemmas.Result.{on_ok_weaker}
use Rattle.sv_model.specs.declared.work.Area.{Area}
use Rattle.sv_space.specs.AllLines.{AreAllCut}
use Rattle.sv_space.specs.Growth.{GrowBy}
use Rattle.sv_space.specs.Runs.{range_runs}
use Rattle.sv_space.proofs.Fewer.{grown_none}
use Rattle.sv_space.proofs.OneLine.{all_parts_same, lines_same}
use Rattle.sv_space.proofs.lines.cut_range.Goals as goal

no_area : (range : Option Area) (area : Area) → range ≡ None → range ≡ Some area → ⊥
no_area range area none some = let e : None ≡ Some area = sym none ∙ some in cc

one_area : (range : Option Area) (area other : Area) → range ≡ Some area → range ≡ Some other → area ≡ other
one_area range area other is some = let e : Some area ≡ Some other = sym is ∙ some in cc

pub returns-in-None : goal.returns-in-None
returns-in-None c = record {
  same = lines_same c.args.lines.now.items;
  parts = all_parts_same c.args.lines.now.items;
  cut = λ area is. absurd (no_area c.args.range area c.in-None.is is);
  few = grown_none (range_runs c.args.range) c.args.lines.now.items;
}

pub cut_area-requires-clause-lies : goal.cut_area-requires-clause-lies
cut_area-requires-clause-lies c = c.requires.lies c.in-Some.area c.in-Some.is

pub returns-in-Some : goal.returns-in-Some
returns-in-Some c = record {
  same = c.cut_area.ensures.same;
  parts = c.cut_area.ensures.parts;
  cut = on_ok_weaker c.cut_area.result (λ cut area is. subst
      (λ (a : Area). AreAllCut a c.cut_area.new.lines.items)
      (one_area c.args.range c.in-Some.area area c.in-Some.is is) cut) c.cut_area.ensures.cut;
  few = on_ok_weaker c.cut_area.result (λ few. subst
      (λ (o : Option Area). GrowBy (range_runs o) c.args.lines.now.items c.cut_area.new.lines.items)
      (sym c.in-Some.is) few) c.cut_area.ensures.few;
}
