-- A gate before any event.
use Rattle.std.proofs.Common.{ℕ, zero, suc, ◌≡◌, List, [], refl, sym, ap, subst, arith, get_or, replicate}
use Rattle.std.proofs.Common.{map}
use Rattle.std.specs.Prelude.{All}
use Rattle.std.specs.List.{list_any}
use Rattle.std.specs.BTreeSet.{IsEmpty}
use Rattle.std.specs.BTreeMap.{is_at}
use Rattle.std.specs.Ordering.{nat_cmp}
use Rattle.std.proofs.lemmas.List.Elements.{All-nil}
use Rattle.sv_model.specs.declared.line.Trace.{Trace}
use Rattle.sv_model.specs.Holding.{start, held_count}
use Rattle.sv_gate.specs.declared.waiting.Waiting.{Waiting}
use Rattle.sv_gate.specs.declared.gate.Gate.{Gate}
use Rattle.sv_gate.specs.Calls.{call_in}
use Rattle.sv_gate.specs.Gates.{IsGateOf, IsWaiting, came_in}

none_there : (n lane : ℕ) → get_or (replicate n (let none : List Waiting = [] in none)) lane [] ≡ []
none_there zero lane = refl
none_there (suc n) zero = refl
none_there (suc n) (suc lane) = none_there n lane

pub opened : (t : Trace) (g : Gate) → g.scripts ≡ map (map call_in) t.lane_scripts → g.events.items ≡ []
    → IsEmpty g.published → g.lanes.items ≡ replicate 16 [] → g.queues.items ≡ replicate 16 [] → g.total ≡ 0
    → IsGateOf t start.holding g
opened t g scripts events empty lanes queues total = record {
  scripts = scripts;
  events = events;
  published = λ rec. ap (list_any (is_at (nat_cmp rec))) empty;
  lanes = ap (map came_in) lanes;
  waiting = λ lane. subst (λ (held : List (List Waiting)). All (IsWaiting t lane) (get_or held lane []))
      (sym lanes) (subst (λ (calls : List Waiting). All (IsWaiting t lane) calls) (sym (none_there 16 lane))
      (All-nil (IsWaiting t lane)));
  queues = queues;
  lane_count = refl;
  total = (let none : held_count t start.holding ≡ 0 = refl in omega arith);
  small = omega arith;
}
