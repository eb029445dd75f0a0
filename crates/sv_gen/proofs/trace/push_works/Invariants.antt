use Rattle.std.proofs.Common.{◌≡◌, ◌++◌, ◌*◌, string_bytes}
use Rattle.sv_gen.specs.Draws.{state_after}
use Rattle.sv_gen.specs.Generated.{works_text}
use Rattle.sv_gen.proofs.trace.push_works.Given as goal

-- the works so far, and the state after their draws
abbrev pub invariant-loop : goal.invariant-loop
invariant-loop l = record {
  text : string_bytes l.text ≡ string_bytes l.fn.text ++ works_text l.rec l.fn.draws.state l.counter;
  state : l.draws.state ≡ state_after l.fn.draws.state (3 * l.counter);
}
