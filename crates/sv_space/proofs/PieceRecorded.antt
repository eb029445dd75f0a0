-- A piece after a step of which the same accesses touch each of its cells.
use Rattle.std.proofs.Common.{ℕ, Bool, ◌≡◌, ◌<◌, List, [], ◌∷◌, ◌++◌, length, arith, refl, sym, ◌∙◌, ap}
use Rattle.std.proofs.Common.{subst}
use Rattle.sv_model.specs.Reports.{accesses_of, groups_of, on_cell}
use Rattle.sv_model.specs.declared.work.Access.{Access}
use Rattle.sv_model.specs.declared.work.Cell.{Cell}
use Rattle.sv_model.specs.declared.work.Group.{Group}
use Rattle.sv_model.specs.declared.work.Step.{Step}
use Rattle.sv_range.specs.declared.span.Span.{Span}
use Rattle.sv_rangemap.specs.declared.part.Part.{Part}
use Rattle.sv_state.specs.Contents.{Contents}
use Rattle.sv_space.specs.Known.{groups_in, AreKnown}
use Rattle.sv_space.specs.Lines.{IsOf, cell_on}
use Rattle.sv_space.specs.Own.{own_of}
use Rattle.sv_space.specs.Pieces.{IsPieceOf, IsUniform}
use Rattle.sv_space.specs.Recorded.{IsRecording}
use Rattle.sv_space.specs.Steps.{IsNext, AreInOrder}
use Rattle.sv_space.specs.declared.known.Known.{Known}
use Rattle.sv_space.specs.declared.shape.Shape.{Shape}
use Rattle.sv_space.proofs.OwnGroups.{leads_alike, own_at}
use Rattle.sv_space.proofs.PieceSpots.{whole_known}
use Rattle.sv_space.proofs.Recorded.{known_recorded}

pub piece_recorded : (work : List Step) (steps : AreInOrder work) (step : Step)
    (next : IsNext (length work) step) (res : ℕ) (s : Shape) (accesses : List Access) (groups : List Group)
    → accesses ≡ accesses_of step → groups ≡ groups_of step
    → (old new : Part Known) (span : Span) (had : Known) (now : Contents) (cell : Cell) (raced : Bool)
    (mid : Contents) → span.start < span.end → old ≡ record { span = span; value = had } → new
    ≡ record { span = old.span; value = record { state = now; upto = had.upto } } → cell
    ≡ cell_on res s span.start
    → IsRecording (own_of groups) (on_cell cell accesses) raced had.state mid now → old.value.upto
    ≡ length (groups_in work) → IsUniform step res s old.span → IsPieceOf work res s old
    → IsPieceOf (work ++ step ∷ []) res s new
piece_recorded work steps step next res s accesses groups is_accesses is_groups old new span had now cell
    raced mid some is_old is_new is_cell recording upto uniform of =
    let known : AreKnown work (IsOf res s span) (length (groups_in work)) had.state =
    whole_known work res s old span had is_old upto of in
    let same : IsUniform step res s span = subst (λ (p : Part Known). IsUniform step res s p.span) is_old
    uniform in
    let first : IsOf res s span (cell_on res s span.start) =
    record { number = span.start; inside = record { from = omega arith; before = some }; is = refl } in
    let xs : on_cell cell accesses ≡ on_cell (cell_on res s span.start) (accesses_of step) =
    ap (λ (c : Cell). on_cell c accesses) is_cell ∙ ap (on_cell (cell_on res s span.start)) is_accesses in
    let here : IsRecording (own_of (groups_of step))
    (on_cell (cell_on res s span.start) (accesses_of step)) raced had.state mid now =
    subst (λ (gs : List Group). IsRecording (own_of gs)
    (on_cell (cell_on res s span.start) (accesses_of step)) raced had.state mid now) is_groups
    (subst (λ (ys : List Access). IsRecording (own_of groups) ys raced had.state mid now) xs recording) in
    let done = known_recorded work steps step next (own_of (groups_of step)) (IsOf res s span)
    (on_cell (cell_on res s span.start) (accesses_of step))
    (λ c h. same.accesses c (cell_on res s span.start) h first)
    (λ c h x on. leads_alike work steps step next c x on)
    (λ x on d in_own. own_at work steps step next (cell_on res s span.start) x on d in_own)
    same.groups had.state mid now raced here known in
    let upto_is : had.upto ≡ length (groups_in work) = sym (ap (λ (p : Part Known). p.value.upto) is_old)
    ∙ upto in
    let whole : AreKnown (work ++ step ∷ []) (IsOf res s span) had.upto now =
    subst (λ (n : ℕ). AreKnown (work ++ step ∷ []) (IsOf res s span) n now) (sym upto_is) done in
    subst (λ (p : Part Known). IsPieceOf (work ++ step ∷ []) res s p)
    (sym (is_new ∙ ap (λ (p : Part Known). record
    { span = p.span; value = record { state = now; upto = had.upto } }) is_old)) whole
