use Rattle.std.proofs.Common.{◌≡◌, ◌++◌, ◌*◌, ◌≤◌, string_bytes}
use Rattle.sv_gen.specs.Draws.{state_after}
use Rattle.sv_gen.specs.Generated.{opening_text, recordings_text}
use Rattle.sv_gen.proofs.trace.generate.Given as goal

-- the recordings so far, and the state after their draws
abbrev pub invariant-loop-rec : goal.invariant-loop-rec
invariant-loop-rec l = record {
  text : string_bytes l.text ≡ opening_text ++ recordings_text l.seed l.count l.rec;
  state : 100 * l.rec ≤ l.count → l.draws.state ≡ state_after l.seed (300 * l.rec);
}
