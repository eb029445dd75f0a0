-- A name in a mask is a plain name or a further one.
use Rattle.std.proofs.Common.{ℕ, ◌≡◌, List, [], ◌∷◌, map, Some, None, refl}
use Rattle.sv_mask.specs.Names.{named, stage_named, plain_stage_named, plain_stages, further_stages}
use Rattle.sv_mask.specs.Names.{stage_word, access_named, plain_access_named, plain_accesses}
use Rattle.sv_mask.specs.Names.{further_accesses, access_word}
use Rattle.sv_mask.specs.Usages.{stage_number, access_number}
use Rattle.sv_mask.specs.declared.stage.Stage.{Stage}
use Rattle.sv_mask.specs.declared.access.Access16.{Access16}
use Rattle.sv_name.proofs.TableLemmas.{named-append, named-map}

pub stage_named-plain : (text : List ℕ) (s : Stage) → plain_stage_named text ≡ Some s → stage_named text
    ≡ Some (stage_word (stage_number s ∷ []))
unfolding stage_named plain_stage_named
stage_named-plain text s found =
    rw (named-append (map (λ row. (row.0, stage_word (stage_number row.1 ∷ []))) plain_stages)
    further_stages text)
    (rw (named-map (λ v. stage_word (stage_number v ∷ [])) plain_stages text) (rw found refl))

pub stage_named-further : (text : List ℕ) → plain_stage_named text ≡ None → stage_named text
    ≡ named further_stages text
unfolding stage_named plain_stage_named
stage_named-further text none =
    rw (named-append (map (λ row. (row.0, stage_word (stage_number row.1 ∷ []))) plain_stages)
    further_stages text)
    (rw (named-map (λ v. stage_word (stage_number v ∷ [])) plain_stages text) (rw none refl))

pub access_named-plain : (text : List ℕ) (a : Access16) → plain_access_named text ≡ Some a
    → access_named text ≡ Some (access_word (access_number a ∷ []))
unfolding access_named plain_access_named
access_named-plain text a found =
    rw (named-append (map (λ row. (row.0, access_word (access_number row.1 ∷ []))) plain_accesses)
    further_accesses text)
    (rw (named-map (λ v. access_word (access_number v ∷ [])) plain_accesses text) (rw found refl))

pub access_named-further : (text : List ℕ) → plain_access_named text ≡ None → access_named text
    ≡ named further_accesses text
unfolding access_named plain_access_named
access_named-further text none =
    rw (named-append (map (λ row. (row.0, access_word (access_number row.1 ∷ []))) plain_accesses)
    further_accesses text)
    (rw (named-map (λ v. access_word (access_number v ∷ [])) plain_accesses text) (rw none refl))
