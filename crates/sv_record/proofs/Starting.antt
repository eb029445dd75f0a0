-- A context before its first command.
use Rattle.std.proofs.Common.{ℕ, ◌≡◌, true, false, Option, Some, None, List, [], refl, sym, subst, arith}
use Rattle.std.specs.Prelude.{IsTrue, is_some, option_map, unwrap_or}
use Rattle.sv_model.specs.declared.line.Trace.{Trace}
use Rattle.sv_model.specs.declared.line.Recording.{Recording}
use Rattle.sv_model.specs.declared.work.Step.{Step}
use Rattle.sv_model.specs.Declarations.{recording_of}
use Rattle.sv_model.specs.Recordings.{lowered}
use Rattle.sv_model.specs.Lawful.{IsLawful}
use Rattle.sv_record.specs.declared.scope.Open.TheVariants as opened
use Rattle.sv_record.specs.Contexts.{Stands}

nothing_lowered : (t : Trace) (r : Recording) → [] ≡ lowered t r []
unfolding lowered
nothing_lowered t r = refl

starts_with : (t : Trace) (number family : ℕ) (o : Option Recording) → IsLawful t → recording_of t number
    ≡ o → IsTrue (is_some o) → family ≡ unwrap_or (option_map (λ (r : Recording). r.family) o) 0
    → Stands t number family 0 0 opened.Outside 0 []
starts_with t number family None lawful is declared e = absurd (let n : false ≡ true = declared in cc)
starts_with t number family (Some r) lawful is declared e = record {
  lawful = lawful;
  recording = r;
  declared = is;
  same_family = sym e;
  within = omega arith;
  counted = refl;
  stands = refl;
  compiled = nothing_lowered t r;
  few = omega arith;
}

pub starts : (t u : Trace) (number family : ℕ) (steps : List Step) → u ≡ t → IsLawful t
    → IsTrue (is_some (recording_of t number)) → family
    ≡ unwrap_or (option_map (λ (r : Recording). r.family) (recording_of t number)) 0 → steps ≡ []
    → Stands u number family 0 0 opened.Outside 0 steps
starts t u number family steps same lawful declared e s =
    subst (λ (k : Trace). Stands k number family 0 0 opened.Outside 0 steps) (sym same)
    (subst (λ (k : List Step). Stands t number family 0 0 opened.Outside 0 k) (sym s)
    (starts_with t number family (recording_of t number) lawful refl declared e))
