use Rattle.sv_name.proofs.TableLemmas.{text_at-plain}
use Rattle.sv_name.proofs.table.text_at.Goals as goal

pub returns : goal.returns
returns g c = text_at-plain (λ row. (row.0.now, row.1)) c.args.rows.now c.args.place
    c.index-rows-place.result c.requires
