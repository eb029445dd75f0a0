-- Where a recording runs.
use Rattle.std.specs.Prelude.{ℕ}
use Rattle.sv_model.specs.Places as binding
use Rattle.sv_binding.specs.declared.run.Run.{Run}

-- the run, where that event released the batch
abbrev pub run_for : ℕ → Run → binding.Run
run_for released r = record {
  released = released;
  queue = r.queue;
  event = r.event;
  batch = r.batch;
  slot = r.slot;
  instance = r.instance;
}
