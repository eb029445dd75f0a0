-- How much a space keeps of a work whose steps have few accesses on each cell.
use Rattle.std.proofs.Common.{ℕ, zero, suc, ◌≡◌, ◌<◌, ◌≤◌, ◌+◌, ◌-◌, ◌*◌, ◌^◌, List, Contains, get_or, length}
use Rattle.std.proofs.Common.{min, take, arith, refl, subst, sym}
use Rattle.std.specs.Prelude.{sum_by}
use Rattle.std.proofs.lemmas.Nat.{mul-le}
use Rattle.std.proofs.lemmas.List.{take_all}
use Rattle.std.proofs.lemmas.List.Elements.{All-contains, All-weaker}
use Rattle.std.proofs.lemmas.List.Sums.{sum_by_more}
use Rattle.sv_model.specs.Cells.{covers}
use Rattle.sv_model.specs.Order.{Story}
use Rattle.sv_model.specs.Reports.{accesses_of, on_cell, story_of}
use Rattle.sv_model.specs.Size.{capped}
use Rattle.sv_model.specs.declared.work.Access.{Access}
use Rattle.sv_model.specs.declared.work.Cell.{Cell}
use Rattle.sv_model.specs.declared.work.Step.{Step}
use Rattle.sv_model.proofs.Lists.{in_filter, in_flat_map}
use Rattle.sv_rangemap.specs.declared.part.Part.{Part}
use Rattle.sv_state.specs.States.{IsBounded}
use Rattle.sv_space.specs.Counts.{pieces_on}
use Rattle.sv_space.specs.KeptLaws.{IsBoundedStep, IsBoundedWork}
use Rattle.sv_space.specs.Known.{cut_story}
use Rattle.sv_space.specs.Lines.{cell_on}
use Rattle.sv_space.specs.Meant.{StandsFor}
use Rattle.sv_space.specs.Pieces.{IsPieceOf}
use Rattle.sv_space.specs.Steps.{AreInOrder}
use Rattle.sv_space.specs.declared.known.Known.{Known}
use Rattle.sv_space.specs.declared.line.Line.{Line}
use Rattle.sv_space.specs.declared.shape.Shape.{Shape}
use Rattle.sv_space.proofs.StepParts.{few_at}

-- Products.

more_product : (bound i : ℕ) → bound * (i + 1) ≡ bound * i + bound
more_product bound i = omega arith

more_sum : (bound a b : ℕ) → bound * (a + b) ≡ bound * a + bound * b
more_sum bound a b = omega arith

pub one_piece_more : (bound all more i : ℕ) → all ≤ bound * i → more ≤ bound → min (all + more) (2 ^ 64 - 1)
    ≤ bound * (i + 1)
one_piece_more bound all more i le few = let e = more_product bound i in grind (arith, e)

-- of all pieces
pub all_pieces_few : (bound all i pieces : ℕ) → i ≤ pieces → all ≤ bound * i → all ≤ bound * pieces
all_pieces_few bound all i pieces within le = let e = mul-le bound i bound pieces (omega arith) within in
    omega (arith, le, e)

pub one_line_more : (bound all more pieces on : ℕ) → all ≤ bound * pieces → more ≤ bound * on
    → min (all + more) (2 ^ 64 - 1) ≤ bound * (pieces + on)
one_line_more bound all more pieces on le few = let e = more_sum bound pieces on in grind (arith, e)

-- a capped sum is bounded by the capped number of pieces too
pub by_capped : (bound all pieces : ℕ) → all ≤ bound * pieces → all ≤ 2 ^ 64 - 1 → all
    ≤ bound * min pieces (2 ^ 64 - 1)
by_capped zero all pieces le small = omega (arith, le)
by_capped (suc b) all pieces le small = grind (arith, le, small)

pub capped_more : (all more of_line : ℕ) → more ≡ capped of_line → min (all + more) (2 ^ 64 - 1)
    ≡ min (all + of_line) (2 ^ 64 - 1)
capped_more all more of_line is = grind (arith, is)

-- What a work whose steps are bounded does to a cell is bounded.

story_access : (work : List Step) (cell : Cell) (a : Access) → Contains (story_of work cell).accesses a
    → (s : Step) × Contains work s × Contains (accesses_of s) a
story_access work cell a on = in_flat_map accesses_of work a
    (in_filter (λ (x : Access). covers x.area cell) _ a on).0

pub story_bounded : (queues : List ℕ) (most : ℕ) (work : List Step) (cell : Cell) → AreInOrder work
    → IsBoundedWork queues most work → IsBounded (story_of work cell).accesses queues most
story_bounded queues most work cell order bounded = record {
  subpasses = λ a on. (let s = story_access work cell a on in
      (All-contains (IsBoundedStep queues most) work s.0 bounded s.1).subpasses a s.2);
  on_queues = λ a on. (let s = story_access work cell a on in
      (All-contains (IsBoundedStep queues most) work s.0 bounded s.1).on_queues a s.2);
  of_step = λ step. few_at accesses_of (λ (a : Access). a.step) (λ (a : Access). covers a.area cell) most step
      0 work (λ k d lt a on. (let e = (order k d lt).numbered.accesses a on in omega (arith, e)))
      (All-weaker (IsBoundedStep queues most)
      (λ (s : Step). length (on_cell cell (accesses_of s)) ≤ most) (λ s is. is.few cell) work bounded);
}

-- what is kept of a piece that stands for the work
pub piece_few : (queues : List ℕ) (most : ℕ) (work : List Step) (res : ℕ) (shape : Shape) (p : Part Known)
    (kept : ℕ) → AreInOrder work → IsBoundedWork queues most work → p.span.start < p.span.end
    → IsPieceOf work res shape p
    → ((story : Story) (epoch : ℕ) (queues : List ℕ) (most : ℕ) → StandsFor story epoch p.value.state
    → IsBounded story.accesses queues most → kept ≤ most + 17 * length queues)
    → kept ≤ most + 17 * length queues
piece_few queues most work res shape p kept order bounded some stands few =
    let cell : Cell = cell_on res shape p.span.start in
    let is = stands.each cell (record {
      number = p.span.start;
      inside = record { from = omega arith; before = some };
      is = refl;
    }) in
    few (cut_story work p.value.upto cell) is.epoch queues most is.stands
    (story_bounded queues most work cell order bounded)

-- of all lines
pub lines_few : (bound all i : ℕ) (lines : List Line) → all ≤ bound * sum_by pieces_on (take i lines)
    → length lines ≤ i → all ≤ 2 ^ 64 - 1 → all ≤ bound * capped (sum_by pieces_on lines)
lines_few bound all i lines le long small = by_capped bound all (sum_by pieces_on lines)
    (subst (λ (ls : List Line). all ≤ bound * sum_by pieces_on ls) (take_all i lines long) le) small

pub line_more : (bound all more i : ℕ) (lines : List Line) (d : Line) → i < length lines
    → all ≤ bound * sum_by pieces_on (take i lines) → more ≤ bound * pieces_on (get_or lines i d)
    → min (all + more) (2 ^ 64 - 1) ≤ bound * sum_by pieces_on (take (i + 1) lines)
line_more bound all more i lines d lt le few =
    subst (λ (n : ℕ). min (all + more) (2 ^ 64 - 1) ≤ bound * n) (sym (sum_by_more pieces_on lines i d lt))
    (one_line_more bound all more (sum_by pieces_on (take i lines)) (pieces_on (get_or lines i d)) le few)
