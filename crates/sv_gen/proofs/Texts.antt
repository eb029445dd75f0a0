-- Texts that grow by a work or a recording.
use Rattle.std.proofs.Common.{◌≡◌, ℕ, ◌+◌, ◌-◌, ◌*◌, min, zero, suc, List, [], ◌++◌, refl, add-one}
use Rattle.std.proofs.Common.{append_assoc, append-nil, sym}
use Rattle.std.specs.Int.{div_ceil}
use Rattle.sv_gen.specs.Draws.{state_after}
use Rattle.sv_gen.specs.Generated.{works_text, work_text, recordings_text, recording_text, opening_text}
use Rattle.sv_gen.specs.Generated.{generated}

pub no_works : (old : List ℕ) (rec x : ℕ) → old ≡ old ++ works_text rec x 0
unfolding works_text
no_works old rec x = sym (append-nil old)

works_text_more : (rec x n : ℕ) → works_text rec x (n + 1) ≡ works_text rec x n
    ++ work_text rec (state_after x (3 * n))
unfolding works_text
works_text_more rec x n = rw add-one refl

pub works_step : (start old new : List ℕ) (rec x s n : ℕ) → s ≡ state_after x (3 * n) → old ≡ start
    ++ works_text rec x n → new ≡ old ++ work_text rec s → new ≡ start ++ works_text rec x (n + 1)
works_step start old new rec x s n e p q = rw (q, p, e, works_text_more rec x n)
    (append_assoc start (works_text rec x n) (work_text rec (state_after x (3 * n))))

no_recordings : (old : List ℕ) (seed count : ℕ) → old ≡ old ++ recordings_text seed count 0
unfolding recordings_text
no_recordings old seed count = sym (append-nil old)

pub opened : (old new : List ℕ) (seed count : ℕ) → old ≡ [] → new ≡ old ++ opening_text → new ≡ opening_text
    ++ recordings_text seed count 0
opened old new seed count e q = rw (q, e) (no_recordings opening_text seed count)

-- the last recording
pub ended : (text : List ℕ) (seed count n : ℕ) → n ≡ div_ceil count 100 → text ≡ opening_text
    ++ recordings_text seed count n → text ≡ generated seed count
unfolding generated
ended text seed count n e q = rw (q, e)

recordings_text_more : (seed count n : ℕ) → recordings_text seed count (n + 1)
    ≡ recordings_text seed count n ++ recording_text n (state_after seed (300 * n))
    (min 100 (count - 100 * n))
unfolding recordings_text
recordings_text_more seed count n = rw add-one refl

pub recordings_step : (start old new : List ℕ) (seed count n s works : ℕ) → works
    ≡ min 100 (count - 100 * n) → s ≡ state_after seed (300 * n) → old ≡ start
    ++ recordings_text seed count n → new ≡ old ++ recording_text n s works → new ≡ start
    ++ recordings_text seed count (n + 1)
recordings_step start old new seed count n s works w e p q =
    rw (q, p, e, w, recordings_text_more seed count n)
    (append_assoc start (recordings_text seed count n)
    (recording_text n (state_after seed (300 * n)) (min 100 (count - 100 * n))))
