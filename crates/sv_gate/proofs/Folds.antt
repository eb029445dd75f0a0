-- What a batch leaves, part by part.
use Rattle.std.proofs.Common.{ℕ, ◌≡◌, ◌∙◌, List, [], ◌∷◌, Bool, true, false, cond, refl}
use Rattle.std.specs.List.{fold, enumerate_from}
use Rattle.std.specs.Prelude.{is_some}
use Rattle.sv_model.specs.declared.line.Trace.{Trace}
use Rattle.sv_model.specs.declared.line.Batch.{Batch}
use Rattle.sv_model.specs.declared.line.SemaphoreUse.{SemaphoreUse}
use Rattle.sv_model.specs.declared.work.Step.{Step}
use Rattle.sv_model.specs.declared.work.Step.TheVariants as part
use Rattle.sv_model.specs.Recordings.{compile}
use Rattle.sv_model.specs.Primitives.{Made}
use Rattle.sv_model.specs.Semaphores.{waited, raises, signaled, waits_made}
use Rattle.sv_model.specs.Events.{in_force}
use Rattle.sv_model.specs.Places.{Run}
use Rattle.sv_model.specs.Binding.{step_made, rec_made, run_at}
use Rattle.sv_model.specs.Batches.{batch_made, recs_made}

-- what each step of a fold leaves as it was, the fold does
pub fold_keeps : {S X Y : Type 0} (next : S → X → S) (said : S → Y)
    → ((s : S) (x : X) → said (next s x) ≡ said s) → (s : S) (xs : List X) → said (fold next s xs) ≡ said s
fold_keeps next said keeps s [] = refl
fold_keeps next said keeps s (x ∷ xs) = fold_keeps next said keeps (next s x) xs ∙ keeps s x

-- what events leave as it was

kept_by_set : {Y : Type 0} (said : Made → Y) (b : Bool) (m n : Made) → said n ≡ said m → said (cond b m n)
    ≡ said m
kept_by_set said true m n e = refl
kept_by_set said false m n e = e

step_fences : (r : Run) (m : Made) (s : Step) → (step_made r m s).fences ≡ m.fences
step_fences r m (part.Accesses list) = refl
step_fences r m (part.Groups list) = refl
step_fences r m (part.SetEvent event place groups) =
    kept_by_set (λ (k : Made). k.fences) (is_some (in_force m event)) m _ refl
step_fences r m (part.WaitEvent event place) = refl
step_fences r m (part.ResetEvent event place) = refl

step_signals : (r : Run) (m : Made) (s : Step) → (step_made r m s).signals ≡ m.signals
step_signals r m (part.Accesses list) = refl
step_signals r m (part.Groups list) = refl
step_signals r m (part.SetEvent event place groups) =
    kept_by_set (λ (k : Made). k.signals) (is_some (in_force m event)) m _ refl
step_signals r m (part.WaitEvent event place) = refl
step_signals r m (part.ResetEvent event place) = refl

step_waits : (r : Run) (m : Made) (s : Step) → (step_made r m s).waits ≡ m.waits
step_waits r m (part.Accesses list) = refl
step_waits r m (part.Groups list) = refl
step_waits r m (part.SetEvent event place groups) =
    kept_by_set (λ (k : Made). k.waits) (is_some (in_force m event)) m _ refl
step_waits r m (part.WaitEvent event place) = refl
step_waits r m (part.ResetEvent event place) = refl

-- what recordings leave as it was

rec_fences : (t : Trace) (r : Run) (m : Made) (x : ℕ × ℕ) → (rec_made t r m x).fences ≡ m.fences
rec_fences t r m x = fold_keeps (step_made (run_at r m x.0)) (λ (k : Made). k.fences)
    (step_fences (run_at r m x.0)) m (compile t x.1)

rec_signals : (t : Trace) (r : Run) (m : Made) (x : ℕ × ℕ) → (rec_made t r m x).signals ≡ m.signals
rec_signals t r m x = fold_keeps (step_made (run_at r m x.0)) (λ (k : Made). k.signals)
    (step_signals (run_at r m x.0)) m (compile t x.1)

rec_waits : (t : Trace) (r : Run) (m : Made) (x : ℕ × ℕ) → (rec_made t r m x).waits ≡ m.waits
rec_waits t r m x = fold_keeps (step_made (run_at r m x.0)) (λ (k : Made). k.waits)
    (step_waits (run_at r m x.0)) m (compile t x.1)

pub recs_fences : (t : Trace) (r : Run) (m : Made) (b : Batch) → (recs_made t r m b).fences ≡ m.fences
recs_fences t r m b =
    fold_keeps (rec_made t r) (λ (k : Made). k.fences) (rec_fences t r) (waits_made m b)
    (enumerate_from 0 b.recs)
    ∙ fold_keeps waited (λ (k : Made). k.fences) (λ k w. refl) m b.waits

pub recs_signals : (t : Trace) (r : Run) (m : Made) (b : Batch) → (recs_made t r m b).signals ≡ m.signals
recs_signals t r m b =
    fold_keeps (rec_made t r) (λ (k : Made). k.signals) (rec_signals t r) (waits_made m b)
    (enumerate_from 0 b.recs)
    ∙ fold_keeps waited (λ (k : Made). k.signals) (λ k w. refl) m b.waits

pub recs_waits : (t : Trace) (r : Run) (m : Made) (b : Batch) → (recs_made t r m b).waits
    ≡ (waits_made m b).waits
recs_waits t r m b = fold_keeps (rec_made t r) (λ (k : Made). k.waits) (rec_waits t r) (waits_made m b)
    (enumerate_from 0 b.recs)

kept_by_signal : {Y : Type 0} (said : Made → Y) (b : Bool) (m n : Made) → said n ≡ said m
    → said (cond b n m) ≡ said m
kept_by_signal said true m n e = e
kept_by_signal said false m n e = refl

signal_fences : (t : Trace) (m : Made) (u : SemaphoreUse) → (signaled t m u).fences ≡ m.fences
signal_fences t m u = kept_by_signal (λ (k : Made). k.fences) (raises t m u) m _ refl

pub signal_waits : (t : Trace) (m : Made) (u : SemaphoreUse) → (signaled t m u).waits ≡ m.waits
signal_waits t m u = kept_by_signal (λ (k : Made). k.waits) (raises t m u) m _ refl

pub batch_fences : (t : Trace) (r : Run) (m : Made) (b : Batch) → (batch_made t r m b).fences ≡ m.fences
batch_fences t r m b = fold_keeps (signaled t) (λ (k : Made). k.fences) (signal_fences t)
    (recs_made t r m b) b.signals ∙ recs_fences t r m b

pub batch_waits : (t : Trace) (r : Run) (m : Made) (b : Batch) → (batch_made t r m b).waits
    ≡ (waits_made m b).waits
batch_waits t r m b = fold_keeps (signaled t) (λ (k : Made). k.waits) (signal_waits t)
    (recs_made t r m b) b.signals ∙ recs_waits t r m b
