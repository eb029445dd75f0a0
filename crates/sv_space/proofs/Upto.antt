-- How many groups the states of cells were given.
use Rattle.std.proofs.Common.{ℕ, suc, ◌≡◌, ◌<◌, ◌≤◌, ◌+◌, ◌*◌, ◌^◌, ◌/◌, ◌%◌, ◌==◌, ◌&&◌, nat_le}
use Rattle.std.proofs.Common.{nat_lt, true, false, List, length, get_or, arith, sym}
use Rattle.std.proofs.Common.{◌∙◌, ap, subst}
use Rattle.std.proofs.lemmas.Bool.{eq-eqb, le-leb, leb-true}
use Rattle.std.proofs.lemmas.List.{get_or_default}
use Rattle.std.proofs.lemmas.Nat.{div-add-mod'}
use Rattle.sv_model.specs.Cells.{IsOnly, area_resource}
use Rattle.sv_model.specs.Size.{capped}
use Rattle.sv_model.specs.declared.work.Area.{Area}
use Rattle.sv_model.specs.declared.work.Area.TheVariants.{Bytes, Image}
use Rattle.sv_model.specs.declared.work.Cell.{Cell}
use Rattle.sv_model.specs.declared.work.Cell.TheVariants.{Byte, Texel}
use Rattle.sv_range.specs.Lines.{InBox}
use Rattle.sv_range.specs.Spans.{InSpan}
use Rattle.sv_rangemap.specs.Lines.{Cover, IsValueAt}
use Rattle.sv_rangemap.specs.declared.part.Part.{Part}
use Rattle.sv_rangemap.proofs.Pieces.{cell_piece, same_piece, some_part}
use Rattle.sv_space.specs.AllLines.{AreAllCaught, AreAllWithin, LiesAt}
use Rattle.sv_space.specs.Cut.{Covers}
use Rattle.sv_space.specs.Lines.{IsShaped, LiesOn, first_on}
use Rattle.sv_space.specs.Sorted.{AreSorted}
use Rattle.sv_space.specs.Space.{HasArea, HasCellsOf, IsUptoOf, given_in}
use Rattle.sv_space.specs.declared.known.Known.{Known}
use Rattle.sv_space.specs.declared.line.Line.{Line}
use Rattle.sv_space.specs.declared.shape.Shape.{Shape}
use Rattle.sv_space.specs.declared.shape.Shape.TheVariants as shape
use Rattle.sv_space.specs.declared.space.Space.{Space}
use Rattle.sv_space.proofs.AtLine.{first_below, lies_res, line_is}
use Rattle.sv_space.proofs.Areas.{in_mip_at}
use Rattle.sv_space.proofs.Fitting.{area_lies}
use Rattle.sv_space.proofs.SpansOf.{both, covers_box, together}
use Rattle.sv_space.proofs.Stepped.{covers_res}

pub upto_is : (space : Space) (area : Area) (n : ℕ) → AreAllCaught area n space.lines.items
    → IsUptoOf space area n
unfolding IsUptoOf
upto_is space area n caught = caught

pub caught_is : (space : Space) (area : Area) (n : ℕ) → IsUptoOf space area n
    → AreAllCaught area n space.lines.items
unfolding IsUptoOf
caught_is space area n upto = upto

-- an area inside another one
pub caught_inside : (lines : List Line) (at area : Area) (n : ℕ) → HasCellsOf at area
    → AreAllCaught area n lines → AreAllCaught at n lines
caught_inside lines at area n inside caught k d lt j m e j_lt has covered =
    caught k d lt j m e j_lt has (inside _ covered)

-- before any group
pub none_upto : (lines : List Line) → AreAllWithin 0 lines → (area : Area) → AreAllCaught area 0 lines
none_upto lines within area k d lt j m e j_lt has covered = let w = within k d lt j e j_lt in omega (arith, w)

-- an area of one cell has the number of its first cell alone
pub only_first : (res : ℕ) (s : Shape) (area : Area) (cell : Cell) → IsOnly area cell → (n : ℕ)
    → Covers area res s n → n ≡ first_on s area
only_first res shape.Bytes (Bytes r span) (Byte q at) only n covered =
    let inner = (both (r == res) (nat_le span.start n && nat_lt n span.end) covered).1 in
    let w = both (nat_le span.start n) (nat_lt n span.end) inner in
    let low : span.start ≤ n = leb-true span.start n w.0 in
    let high : n < span.end = leb-true (suc n) span.end w.1 in
    let a = only.1 in
    let b = only.2 in
    omega (arith, low, high, a, b)
only_first res (shape.Mips mips layers) (Image r box) (Texel q mip layer) only n covered =
    let same : res ≡ r = sym (covers_res (Image r box) res (shape.Mips mips layers) n covered) in
    let i : InBox box (n / layers) (n % layers) =
    (covers_box res r box (n / layers) (n % layers) same).1 covered in
    let a = i.mip_from in
    let b = i.mip_before in
    let c = i.layer_from in
    let d = i.layer_before in
    let one_mip = only.2 in
    let one_layer = only.4 in
    let m : n / layers ≡ box.mip = omega (arith, a, b, one_mip) in
    let l : n % layers ≡ box.layer = omega (arith, c, d, one_layer) in
    let e : n / layers * layers + n % layers ≡ n = div-add-mod' n layers in
    sym e ∙ ap (λ (k : ℕ). k * layers + n % layers) m ∙ ap (λ (k : ℕ). box.mip * layers + k) l
only_first res (shape.Mips mips layers) (Bytes r span) cell only n covered =
    absurd (let h : false ≡ true = covered in cc)
only_first res shape.Bytes (Image r box) cell only n covered = absurd (let h : false ≡ true = covered in cc)
only_first res shape.Bytes (Bytes r span) (Texel q mip layer) only n covered = absurd only
only_first res (shape.Mips mips layers) (Image r box) (Byte q at) only n covered = absurd only

-- the value at a cell is that of each piece that has it
pub value_is : (size : ℕ) (parts : List (Part Known)) → Cover size parts → (n : ℕ) (value : Known)
    → IsValueAt parts n value → (k : ℕ) (d : Part Known) → k < length parts
    → InSpan (get_or parts k d).span n → (get_or parts k d).value ≡ value
value_is size parts cover n value is k d lt has =
    let p = is.0 in
    let on = is.1.listed in
    let at : get_or parts on.0 d ≡ p = get_or_default parts on.0 d p on.1 ∙ on.2 in
    let same : k ≡ on.0 = same_piece size parts cover k on.0 n d lt on.1 has
    (subst (λ (q : Part Known). InSpan q.span n) (sym at) is.1.has) in
    ap (λ (j : ℕ). (get_or parts j d).value) same ∙ ap (λ (q : Part Known). q.value) at ∙ is.1.is

-- what the piece of the first cell was given
pub found_upto : (lines : List Line) → AreSorted lines → (place : ℕ) → place < length lines
    → (area : Area) (cell : Cell) → IsOnly area cell → ((d : Line) → LiesAt (get_or lines place d) area)
    → (line : Line) → ((d : Line) → get_or lines place d ≡ line) → (number : ℕ) (value : Known)
    → number ≡ first_on line.shape area → IsValueAt line.pieces.parts.items number value
    → AreAllCaught area value.upto lines
found_upto lines sorted place place_lt area cell only lies line is number value number_is at k d lt j m e
    j_lt has covered =
    let here : k ≡ place = line_is lines sorted k place lt place_lt (λ d. (
    covered_res d)) in
    on_line (subst (λ (n : ℕ). get_or lines n d ≡ line) (sym here) (is d))
  where
    covered_res : (f : Line) → (get_or lines k f).res ≡ (get_or lines place f).res
    covered_res f =
        let a : area_resource area ≡ (get_or lines k d).res =
        covers_res area (get_or lines k d).res (get_or lines k d).shape m covered in
        let b : (get_or lines place f).res ≡ area_resource area =
        lies_res (get_or lines place f).res (get_or lines place f).shape
        (get_or lines place f).pieces.size area (lies f) in
        let c : get_or lines k f ≡ get_or lines k d = get_or_default lines k f d lt in
        ap (λ (l : Line). l.res) c ∙ sym a ∙ sym b

    on_line : get_or lines k d ≡ line → (get_or (get_or lines k d).pieces.parts.items j e).value.upto
        ≡ value.upto
    on_line same =
        let covered_here : Covers area line.res line.shape m =
        subst (λ (l : Line). Covers area l.res l.shape m) same covered in
        let first : m ≡ number = only_first line.res line.shape area cell only m covered_here
        ∙ sym number_is in
        let j_in : j < length line.pieces.parts.items =
        subst (λ (l : Line). j < length l.pieces.parts.items) same j_lt in
        let has_here : InSpan (get_or line.pieces.parts.items j e).span number =
        subst (λ (n : ℕ). InSpan (get_or line.pieces.parts.items j e).span n) first
        (subst (λ (l : Line). InSpan (get_or l.pieces.parts.items j e).span m) same has) in
        ap (λ (l : Line). (get_or l.pieces.parts.items j e).value.upto) same
        ∙ ap (λ (v : Known). v.upto) (value_is line.pieces.size line.pieces.parts.items line.pieces.cover
        number value at j e j_in has_here)

-- the number of groups that were given
pub given_grows : (old new : Space) (given : ℕ) → old.caught_up < 2 ^ 64 → new.caught_up
    ≡ capped (old.caught_up + given) → given_in old ≤ given_in new
unfolding given_in
given_grows old new given small is = subst (λ (n : ℕ). old.caught_up ≤ n) (sym is)
    (more old.caught_up given small)
  where
    more : (n m : ℕ) → n < 2 ^ 64 → n ≤ capped (n + m)
    more n m lt = grind arith

pub given_same : (old new : Space) (given : ℕ) → given ≡ 0 → old.caught_up < 2 ^ 64 → new.caught_up
    ≡ capped (old.caught_up + given) → given_in new ≡ given_in old
unfolding given_in
given_same old new given none small is = is ∙ ap (λ (n : ℕ). capped (old.caught_up + n)) none
    ∙ same old.caught_up small
  where
    same : (n : ℕ) → n < 2 ^ 64 → capped (n + 0) ≡ n
    same n lt = grind arith
