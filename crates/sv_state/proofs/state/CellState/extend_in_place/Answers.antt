use Rattle.std.proofs.Common.{refl, subst, take, drop, length, ◌++◌}
use Rattle.sv_state.specs.States.{AreChangedFrom, HasGoneOn}
use Rattle.sv_state.proofs.Changes.{changed_whole}
use Rattle.sv_state.proofs.Fullness.{live_full}
use Rattle.sv_state.proofs.StateLaws.{state_grown_at}
use Rattle.sv_state.proofs.state.CellState.extend_in_place.Goals as goal

pub returns : goal.returns
returns c =
    let came = c.come_to.new.self in
    let at = c.cell_of-cell.result in
    let g = c.args.group.now in
    let first = changed_whole (HasGoneOn at g) c.first_live-first.result came.written.items
    c.deref_mut.result.now c.extend_from.new.entries came.written.len
    c.deref_mut.ensures.value c.deref_mut.ensures.len c.in_ok-extend_from.ensures in
    let second = changed_whole (HasGoneOn at g) 0 came.reads.items
    c.deref_mut-2.result.now c.extend_from-2.new.entries came.reads.len
    c.deref_mut-2.ensures.value c.deref_mut-2.ensures.len c.in_ok-extend_from-2.ensures in
    record {
      grows = λ cell only le. state_grown_at at cell (c.cell_of-cell.ensures cell only) g
          c.args.self.now came _ c.first_live-first.result c.first_live-first.ensures.place
          (c.in_ok-come_to.ensures.comes le) refl refl first second;
      keeps = λ outlines full. live_full (HasGoneOn at g) (λ e f h. h.access) (λ e f h. h.keeps) came.alike
          came.written.items came.reads.items _ _
          (subst (λ n. AreChangedFrom n (HasGoneOn at g) came.written.items
          (take came.written.len (c.extend_from.new.entries
          ++ drop (length c.extend_from.new.entries) came.written.items)))
          c.first_live-first.ensures.place first) second outlines
          (c.in_ok-come_to.ensures.keeps outlines full);
    }
