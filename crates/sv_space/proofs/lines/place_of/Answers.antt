use Rattle.sv_space.proofs.AtLine.{found_line}
use Rattle.sv_space.proofs.lines.place_of.Goals as goal

pub returns : goal.returns
returns c =
    let found = found_line c.args.lines.now c.requires.sorted c.args.area c.res_of.result c.place_in.result
    c.res_of.ensures c.requires.lies (c.place_in.ensures.place c.requires.sorted) in record {
      listed = found.0;
      lies = found.1;
    }
