-- What rests on recordings that have ended stays as it is.
use Rattle.std.proofs.Common.{◌≡◌, ℕ, ◌+◌, List, [], ◌∷◌, Bool, false, not, refl, sym, ◌∙◌, ap, length}
use Rattle.std.proofs.Common.{sum_by}
use Rattle.std.proofs.lemmas.Bool.{or_parts}
use Rattle.std.proofs.lemmas.List.Sums.{sum_by-cons}
use Rattle.std.specs.List.{list_any}
use Rattle.sv_model.specs.declared.line.Batch.{Batch}
use Rattle.sv_model.specs.declared.line.Line.{Line}
use Rattle.sv_model.specs.declared.line.Line.TheVariants as line
use Rattle.sv_model.specs.declared.line.Trace.{Trace}
use Rattle.sv_model.specs.Declarations.{recording_of}
use Rattle.sv_model.specs.Size.{batch_size, call_size, fence_size, recording_size}
use Rattle.sv_rules.specs.Places.{are_same, batch_may_not_run, may_not_run, submits_wrongly}
use Rattle.sv_lines.specs.Sound.{KeepsEnded, sized_part}
use Rattle.sv_rules.specs.Taken.{family_of_queue, family_of_recording, has_ended}
use Rattle.sv_rules.proofs.Passing.{not_false}
use Rattle.sv_lines.proofs.Sized.{call_same, recording_same, same_passes}

-- sums of functions that agree where a test fails, over a list of which no item passes it
sums_where : {A : Type 0} (f g : A → ℕ) (p : A → Bool) → ((x : A) → p x ≡ false → f x ≡ g x) → (xs : List A)
    → list_any p xs ≡ false → sum_by f xs ≡ sum_by g xs
sums_where f g p same [] e = refl
sums_where f g p same (x ∷ xs) e =
    let parts = or_parts (p x) (list_any p xs) e in
    sum_by-cons f x xs ∙ ap (λ n. n + sum_by f xs) (same x parts.0)
    ∙ ap (λ n. g x + n) (sums_where f g p same xs parts.1) ∙ sym (sum_by-cons g x xs)

rec_ended : (t u : Trace) → KeepsEnded t u → (queue rec : ℕ) → may_not_run t queue rec ≡ false
    → recording_size u rec ≡ recording_size (sized_part t) rec
rec_ended t u keeps queue rec e =
    keeps rec (not_false (has_ended t rec) (or_parts (not (has_ended t rec))
    (not (are_same (family_of_recording t rec) (family_of_queue t queue))) e).0)

batch_ended : (t u : Trace) → KeepsEnded t u → (queue : ℕ) (b : Batch) → batch_may_not_run t queue b ≡ false
    → batch_size u b ≡ batch_size (sized_part t) b
batch_ended t u keeps queue b e =
    ap (λ n. 1 + length b.waits + n + length b.signals)
    (sums_where (recording_size u) (recording_size (sized_part t)) (may_not_run t queue)
    (rec_ended t u keeps queue) b.recs e)

size_ended : (t u : Trace) → KeepsEnded t u → (l : Line) → submits_wrongly t l ≡ false → call_size u l
    ≡ call_size (sized_part t) l
size_ended t u keeps (line.Submit lane queue batches fence) e =
    ap (λ n. n + fence_size fence) (sums_where (batch_size u) (batch_size (sized_part t))
    (batch_may_not_run t queue) (batch_ended t u keeps queue) batches e)
size_ended t u keeps (line.WaitFence lane fence) e = refl
size_ended t u keeps (line.WaitQueue lane queue) e = refl
size_ended t u keeps (line.WaitDevice lane) e = refl
size_ended t u keeps (line.ResetFence lane fence) e = refl
size_ended t u keeps _ e = refl

-- a call of recordings that have ended has one size
pub call_ended : (t u : Trace) → KeepsEnded t u → (l : Line) → submits_wrongly t l ≡ false → call_size u l
    ≡ call_size t l
call_ended t u keeps l e =
    size_ended t u keeps l e ∙ call_same t (sized_part t)
    (λ k. recording_same t (sized_part t) (same_passes t (sized_part t) refl) (recording_of t k)) l
