use Rattle.std.proofs.Common.{ℕ, ◌<◌, ◌+◌, ◌∙◌, List, ap, get_or, length, subst, take, take_all}
use Rattle.std.specs.List.{enumerate_from}
use Rattle.std.proofs.lemmas.List.Elements.{All-get_or}
use Rattle.sv_model.specs.Binding.{rec_given, rec_made}
use Rattle.sv_binding.specs.Runs.{run_for}
use Rattle.sv_batch.specs.Running.{IsThere, are_recordings_after}
use Rattle.sv_batch.proofs.OneMore.{at_one_more, next_enumerated}
use Rattle.sv_batch.proofs.recordings.take_recordings.Goals as goal

pub loop-rec-preserved : goal.loop-rec-preserved
loop-rec-preserved c =
    let recs = c.args.recs.now in
    let i = c.loop-rec.rec-index in
    let lt : i < length recs = c.loop-rec-test.true in
    let inv = c.loop-rec.invariant in
    let r = c.args.run in record {
      slot = c.in_ok-slot.ensures ∙ ap (λ (n : ℕ). n + 1) inv.slot;
      fits = λ t of fits. c.in_ok-take_slot.ensures.fits t of (inv.fits t of fits);
      at = λ t all event old more m is. at_one_more t event old more (rec_made t (run_for event r))
          (rec_given t (run_for event r)) m (enumerate_from 0 (take i recs))
          (enumerate_from 0 (take (i + 1) recs)) (c.loop-rec.slot, get_or recs i 0) c.loop-rec.work
          c.take_slot.new.work
          (next_enumerated recs i c.loop-rec.slot 0 lt inv.slot) (inv.at t all event old more m is)
          (λ later there. c.in_ok-take_slot.ensures.at t
          (All-get_or (IsThere t c.args.recordings.now) recs i 0 lt all) event old later _ there);
    }

pub returns-clause-at : goal.returns-clause-at
returns-clause-at c t all = subst (λ (list : List ℕ). are_recordings_after c.args.run list t c.args.work.now
    c.loop-rec.work) (take_all c.loop-rec.rec-index c.args.recs.now c.loop-rec-test.false)
    (c.loop-rec.invariant.at t all)
