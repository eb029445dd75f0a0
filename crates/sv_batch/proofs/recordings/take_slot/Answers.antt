use Rattle.std.proofs.lemmas.Result.{on_ok_weaker}
use Rattle.sv_batch.proofs.OneRecording.{found_is, publication_inside}
use Rattle.sv_batch.proofs.recordings.take_slot.Goals as goal

pub take_recording-requires : goal.take_recording-requires
take_recording-requires c =
    let t = c.requires.trace in
    let x = c.in-Some.published.now in record {
      trace = t;
      fits = c.requires.fits;
      steps = publication_inside t c.args.rec x c.requires.fits.lawful
          (found_is t c.args.rec x _ c.in-Some.ensures.value (c.requires.recordings c.args.rec));
    }

pub returns-in-Some-clause-fits : goal.returns-in-Some-clause-fits
returns-in-Some-clause-fits c =
    let x = c.in-Some.published.now in
    on_ok_weaker c.take_recording.result (λ after t of fits. after t
    (publication_inside t c.args.rec x fits.lawful
    (found_is t c.args.rec x _ c.in-Some.ensures.value (of c.args.rec))) fits)
    c.take_recording.ensures.fits
