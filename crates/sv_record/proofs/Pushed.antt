-- A context after one more command.
use Rattle.std.proofs.Common.{ℕ, ◌+◌, ◌≤◌, ◌≡◌, Bool, true, false, List, [], ◌∷◌, ◌++◌, Option, Some, None}
use Rattle.std.proofs.Common.{length, take, refl, sym, subst, ap, ◌∙◌, arith}
use Rattle.std.specs.Prelude.{count_by, slice_get, cond, find, ◌==◌, if◌then◌else◌}
use Rattle.std.proofs.lemmas.Bool.{eqb-true}
use Rattle.std.proofs.lemmas.List.Sums.{sum_by-cons}
use Rattle.std.proofs.lemmas.List.{length-reverse, length-take-le}
use Rattle.sv_model.specs.declared.line.Trace.{Trace}
use Rattle.sv_model.specs.declared.line.Recording.{Recording}
use Rattle.sv_model.specs.declared.line.Command.{Command}
use Rattle.sv_model.specs.declared.line.Command.TheVariants as command
use Rattle.sv_model.specs.declared.work.Here.{Here}
use Rattle.sv_model.specs.declared.work.Step.{Step}
use Rattle.sv_model.specs.Declarations.{recording_of, commands_of, commands_in}
use Rattle.sv_model.specs.Recordings.{begins, scope_after, instance_at, subpass_in, here_after, lower}
use Rattle.sv_model.specs.Recordings.{lowered}
use Rattle.sv_model.proofs.Growing.{lowering_grows}
use Rattle.sv_record.specs.declared.scope.Open.{Open}
use Rattle.sv_record.specs.Contexts.{StandsFor, Stands, pushed_commands, subpass_after}
use Rattle.sv_record.proofs.Next.{next_of, next_below}

one_if : (b : Bool) (n : ℕ) → (if b then n + 1 else n) ≡ cond b 1 0 + n
one_if true n = omega arith
one_if false n = omega arith

count_next : (c : Command) (before : List Command)
    → (if begins c then count_by begins before + 1 else count_by begins before)
    ≡ count_by begins (c ∷ before)
count_next c before = one_if (begins c) (count_by begins before)
    ∙ sym (sum_by-cons (λ (x : Command). cond (begins x) 1 0) c before)

few_after : (c : Command) (i : ℕ) → subpass_after c i ≤ i + 1
few_after (command.BeginRendering a) i = omega arith
few_after command.EndRendering i = omega arith
few_after (command.BeginPass p v) i = omega arith
few_after command.NextSubpass i = omega arith
few_after command.EndPass i = omega arith
few_after (command.Work a) i = omega arith
few_after (command.Barrier d) i = omega arith
few_after (command.SetEvent e d) i = omega arith
few_after (command.WaitEvent e) i = omega arith
few_after (command.ResetEvent e) i = omega arith

found_true_if : {X : Type 0} (b : Bool) (f : X → Bool) (x : X) (o : Option X) (r : X) → f x ≡ b
    → (o ≡ Some r → f r ≡ true) → cond b (Some x) o ≡ Some r → f r ≡ true
found_true_if true f x o r is later e = let same : x ≡ r = cc in subst (λ k. f k ≡ true) same is
found_true_if false f x o r is later e = later e

found_true : {X : Type 0} (f : X → Bool) (xs : List X) (r : X) → find f xs ≡ Some r → f r ≡ true
found_true f [] r e = absurd (let n : None ≡ Some r = e in cc)
found_true f (x ∷ xs) r e = found_true_if (f x) f x (find f xs) r refl (found_true f xs r) e

number_is : (t : Trace) (n : ℕ) (r : Recording) → recording_of t n ≡ Some r → r.rec ≡ n
number_is t n r e = eqb-true r.rec n (found_true (λ (r : Recording). r.rec == n) t.recordings r e)

-- the fields stand for one more command
pub pushed_stands : (t : Trace) (n family k begun : ℕ) (scope : Open) (i : ℕ) (steps : List Step)
    (c : Command) (next : Open) (more : List Step) (inst : ℕ) (sub : Option ℕ)
    → Stands t n family k begun scope i steps → slice_get (commands_of t n) k ≡ Some c → inst
    ≡ instance_at c (pushed_commands t n k) (scope_after (pushed_commands t n k)) → sub
    ≡ subpass_in (scope_after (pushed_commands t n k)) → more
    ≡ lower t (record {
      rec = n;
      family = family;
      cmd = k;
      step = length steps;
      instance = inst;
      subpass = sub;
    }) (scope_after (pushed_commands t n k)) c
    → StandsFor t next (subpass_after c i) (scope_after (c ∷ pushed_commands t n k))
    → Stands t n family (k + 1) (if begins c then begun + 1 else begun) next (subpass_after c i)
    (steps ++ more)
pushed_stands t n family k begun scope i steps c next more inst sub old e ie se me ne =
    let before : List Command = pushed_commands t n k in
    let r : Recording = old.recording in
    let grown : pushed_commands t n (k + 1) ≡ c ∷ before = next_of (commands_of t n) k c e in
    let below = next_below t n r k c old.lawful old.declared e in
    let below_all : k ≤ length (commands_of t n) =
    subst (λ (o : Option Recording). k ≤ length (commands_in o)) (sym old.declared) old.within in
    let many : k ≡ length before = sym (length-reverse (take k (commands_of t n))
    ∙ length-take-le k (commands_of t n) below_all) in
    let here : record {
      rec = n;
      family = family;
      cmd = k;
      step = length steps;
      instance = inst;
      subpass = sub;
    } ≡ here_after r c before (length steps) =
    ap (λ (x : ℕ). record {
      rec = x;
      family = family;
      cmd = k;
      step = length steps;
      instance = inst;
      subpass = sub;
    }) (sym (number_is t n r old.declared))
    ∙ ap (λ (x : ℕ). record {
      rec = r.rec;
      family = x;
      cmd = k;
      step = length steps;
      instance = inst;
      subpass = sub;
    }) (sym old.same_family)
    ∙ ap (λ (x : ℕ). record {
      rec = r.rec;
      family = r.family;
      cmd = x;
      step = length steps;
      instance = inst;
      subpass = sub;
    }) many
    ∙ ap (λ (x : ℕ). record {
      rec = r.rec;
      family = r.family;
      cmd = length before;
      step = length steps;
      instance = x;
      subpass = sub;
    }) ie
    ∙ ap (λ (x : Option ℕ). record {
      rec = r.rec;
      family = r.family;
      cmd = length before;
      step = length steps;
      instance = instance_at c before (scope_after before);
      subpass = x;
    }) se in
    let few_old = old.few in
    let few_new = few_after c i in
    record {
      lawful = old.lawful;
      recording = r;
      declared = old.declared;
      same_family = old.same_family;
      within = (let b = below.0 in omega arith);
      counted = ap (λ (x : ℕ). if begins c then x + 1 else x) old.counted ∙ count_next c before
          ∙ ap (count_by begins) (sym grown);
      stands = subst (λ (l : List Command). StandsFor t next (subpass_after c i) (scope_after l))
          (sym grown) ne;
      compiled = ap (λ (x : List Step). steps ++ x)
          (me ∙ ap (λ (h : Here). lower t h (scope_after before) c) here)
          ∙ ap (λ (x : List Step). x ++ lower t (here_after r c before (length x)) (scope_after before) c)
          old.compiled
          ∙ sym (lowering_grows t r c before)
          ∙ ap (lowered t r) (sym grown);
      few = omega arith;
    }

pub pushed_by : (t : Trace) (n family k begun : ℕ) (scope : Open) (i : ℕ) (steps : List Step) (c : Command)
    (next : Open) (more : List Step) (inst : ℕ) (sub : Option ℕ) (step : ℕ) (b : Bool) (begun' i' : ℕ)
    (all : List Step) → Stands t n family k begun scope i steps → slice_get (commands_of t n) k ≡ Some c
    → inst ≡ instance_at c (pushed_commands t n k) (scope_after (pushed_commands t n k)) → sub
    ≡ subpass_in (scope_after (pushed_commands t n k)) → step ≡ length steps → more
    ≡ lower t (record { rec = n; family = family; cmd = k; step = step; instance = inst; subpass = sub })
    (scope_after (pushed_commands t n k)) c → StandsFor t next (subpass_after c i)
    (scope_after (c ∷ pushed_commands t n k)) → b ≡ begins c → begun' ≡ (if b then begun + 1 else begun)
    → i' ≡ subpass_after c i → all ≡ steps ++ more → Stands t n family (k + 1) begun' next i' all
pushed_by t n family k begun scope i steps c next more inst sub step b begun' i' all old e ie se le me ne be
    ge je ae =
    let whole = pushed_stands t n family k begun scope i steps c next more inst sub old e ie se
    (me ∙ ap (λ (x : ℕ). lower t (record {
      rec = n;
      family = family;
      cmd = k;
      step = x;
      instance = inst;
      subpass = sub;
    }) (scope_after (pushed_commands t n k)) c) le) ne in
    subst (λ (x : ℕ). Stands t n family (k + 1) x next i' all)
    (sym (ge ∙ ap (λ (y : Bool). if y then begun + 1 else begun) be))
    (subst (λ (x : ℕ). Stands t n family (k + 1) (if begins c then begun + 1 else begun) next x all) (sym je)
    (subst (λ (x : List Step). Stands t n family (k + 1) (if begins c then begun + 1 else begun) next
    (subpass_after c i) x) (sym ae) whole))
