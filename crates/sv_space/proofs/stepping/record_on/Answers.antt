use Rattle.std.proofs.Common.{◌∙◌, Bool, List, OnOk, subst, sym}
use Rattle.sv_model.specs.declared.work.Access.{Access}
use Rattle.sv_space.specs.Own.{own_of}
use Rattle.sv_space.specs.Recorded.{IsRecording}
use Rattle.sv_state.specs.Contents.{Contents, contents_of}
use Rattle.sv_space.proofs.Racing.{all_on_cell, own_on_cell}
use Rattle.sv_space.proofs.stepping.record_on.Goals as goal

pub returns-then-all_on : goal.returns-then-all_on
returns-then-all_on c =
    subst (λ (xs : List Access). OnOk c.record_these.result ((raced : Bool) × (mid : Contents)
    × IsRecording (own_of c.args.groups.now) xs raced (contents_of c.args.state.now) mid
    (contents_of c.record_these.new.state)))
    (sym (all_on_cell c.args.accesses.now c.args.cell (c.all_on.ensures.0 c.if-all_on.true)))
    c.record_these.ensures

pub record_these-requires-2 : goal.record_these-requires-2
record_these-requires-2 c = own_on_cell c.args.groups.now c.args.accesses.now c.args.cell c.requires
    c.as_slice.result.now (c.as_slice.ensures.value ∙ c.in_ok-list.ensures)
