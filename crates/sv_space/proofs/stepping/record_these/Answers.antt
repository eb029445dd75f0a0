use Rattle.std.proofs.Common.{refl}
use Rattle.std.proofs.lemmas.Result.{on_ok_weaker}
use Rattle.sv_model.specs.Order.{recorded}
use Rattle.sv_state.specs.Contents.{contents_of}
use Rattle.sv_space.proofs.Keeping.{stands_of}
use Rattle.sv_space.proofs.stepping.record_these.Goals as goal

pub returns : goal.returns
returns c = on_ok_weaker c.record.result (λ stands. (
  c.races-raced.result,
  contents_of c.restart_if.new.state,
  record {
    races = c.races-raced.ensures;
    step_mid = c.restart_if.ensures.step;
    kept = λ e story epoch st. stands_of story epoch c.restart_if.new.state
        (c.restart_if.ensures.kept e story epoch (st c.args.state.now refl));
    restarts = λ e story epoch next st before. stands_of story next c.restart_if.new.state
        (c.restart_if.ensures.restarts e story epoch next (st c.args.state.now refl) before);
    step_new = c.record.ensures.step;
    stands = λ story epoch are st. stands_of (recorded story c.args.here.now) epoch
        c.record.new.self (stands story epoch are (st c.restart_if.new.state refl));
  },
)) c.record.ensures.stands
