-- How much is kept of a history, in a trace without render scopes.
use Rattle.std.proofs.Common.{ℕ, ◌≤◌, ◌+◌, ◌*◌, List, [], ◌∷◌, Option, Some, None, length, arith}
use Rattle.std.specs.Prelude.{filter_map}
use Rattle.std.specs.List.{cons_option}
use Rattle.std.proofs.lemmas.Nat.{mul-le}
use Rattle.sv_model.specs.Declarations.{queue_number, queues_of}
use Rattle.sv_model.specs.Lawful.{IsLawful}
use Rattle.sv_model.specs.Work.{work_steps}
use Rattle.sv_model.specs.declared.line.Mark.{Mark}
use Rattle.sv_model.specs.declared.line.Trace.{Trace}
use Rattle.sv_model.specs.declared.work.Step.{Step}
use Rattle.sv_space.specs.KeptLaws.{IsBoundedWork}
use Rattle.sv_space.specs.Space.{IsSpaceOf, pieces_in}
use Rattle.sv_space.specs.declared.space.Space.{Space}
use Rattle.sv_step_laws.specs.Bounded.{HasNoScopes}
use Rattle.sv_step_laws.proofs.BoundedWorks.{works_are_bounded}
use Rattle.sv_core.specs.State.{IsSpaceAfter}

few_said : {X Y : Type 0} (f : X → Option Y) (xs : List X) → length (filter_map f xs) ≤ length xs
few_said f [] = omega arith
few_said {X} {Y} f (x ∷ xs) = by_option (f x) (few_said f xs)
  where
    by_option : (o : Option Y) → length (filter_map f xs) ≤ length xs
        → length (cons_option o (filter_map f xs)) ≤ length (x ∷ xs)
    by_option None few = omega (arith, few)
    by_option (Some y) few = omega (arith, few)

-- what a space keeps of the work of a history, of which it has a bound for each bounded work
pub kept_few : (t : Trace) (history : List Mark) (space : Space) (kept : ℕ) → IsLawful t
    → IsSpaceAfter t history space → HasNoScopes t
    → ((work : List Step) (queues : List ℕ) (most : ℕ) → IsSpaceOf space work
    → IsBoundedWork queues most work → kept ≤ (most + 17 * length queues) * pieces_in space)
    → kept ≤ (64 + 17 * length t.queues) * pieces_in space
kept_few t history space kept lawful is none few =
    let here = few (work_steps t history) (queues_of t) 64 is.stands
    (works_are_bounded t history lawful none) in
    let queues = few_said queue_number t.queues in
    let all = mul-le (64 + 17 * length (queues_of t)) (pieces_in space) (64 + 17 * length t.queues)
    (pieces_in space) (omega (arith, queues)) (omega arith) in
    omega (arith, here, all)
