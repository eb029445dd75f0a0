-- Lines before any work.
use Rattle.std.proofs.Common.{ℕ, zero, suc, ◌≡◌, ◌<◌, ◌≤◌, ◌*◌, List, [], ◌∷◌, ap, arith, length, sym}
use Rattle.std.proofs.Common.{subst}
use Rattle.std.proofs.Math.Nat.{mul-le-mul_right}
use Rattle.sv_model.specs.declared.work.Cell.{Cell}
use Rattle.sv_range.specs.declared.span.Span.{Span}
use Rattle.sv_rangemap.specs.declared.part.Part.{Part}
use Rattle.sv_space.specs.AllLines.{AreAllWithin, AreFresh, AreLinesOf}
use Rattle.sv_space.specs.Known.{AreKnown}
use Rattle.sv_space.specs.Lines.{IsOf}
use Rattle.sv_space.specs.Meant.{StandsFor}
use Rattle.sv_space.specs.Pieces.{AreWithin, IsLineOf, IsPieceOf}
use Rattle.sv_space.specs.declared.known.Known.{Known}
use Rattle.sv_space.specs.declared.line.Line.{Line}
use Rattle.sv_space.specs.declared.shape.Shape.{Shape}
use Rattle.sv_space.proofs.Keeping.{known_before}

-- one piece, of which nothing is known
module _ (res : ℕ) (s : Shape) (span : Span) (known : Known) (upto : known.upto ≡ 0)
    (step : known.state.step ≡ 0) (stands : (cell : Cell)
    → StandsFor (record { cell = cell; accesses = []; deps = [] }) 0 known.state) where
  abbrev piece : Part Known
  piece = record { span = span; value = known }

  of_piece : IsPieceOf [] res s piece
  of_piece = subst (λ (n : ℕ). AreKnown [] (IsOf res s span) n known.state) (sym upto)
      (known_before (IsOf res s span) known.state step stands)

  pub one_within : (parts : List (Part Known)) → parts ≡ piece ∷ [] → AreWithin 0 parts
  one_within parts is = subst (λ (ps : List (Part Known)). AreWithin 0 ps) (sym is) one
    where
      one : AreWithin 0 (piece ∷ [])
      one zero d lt = omega (arith, upto)
      one (suc k) d lt = absurd (omega (arith, lt))

  pub one_stands : (parts : List (Part Known)) → parts ≡ piece ∷ [] → IsLineOf [] res s parts
  one_stands parts is = subst (λ (ps : List (Part Known)). IsLineOf [] res s ps) (sym is) one
    where
      one : IsLineOf [] res s (piece ∷ [])
      one zero d lt = of_piece
      one (suc k) d lt = absurd (omega (arith, lt))

pub one_piece : (p : Part Known) (parts : List (Part Known)) → parts ≡ p ∷ [] → length parts ≡ 1
one_piece p parts is = ap length is

pub fresh_within : (lines : List Line) → AreFresh lines → AreAllWithin 0 lines
fresh_within lines fresh k d lt = (fresh k d lt).within

pub fresh_stands : (lines : List Line) → AreFresh lines → AreLinesOf [] lines
fresh_stands lines fresh k d lt = (fresh k d lt).stands

pub some_cells : (mips layers : ℕ) → 1 ≤ mips → 1 ≤ layers → 0 < mips * layers
some_cells mips layers some_mips some_layers = let m : 1 * layers ≤ mips * layers =
    mul-le-mul_right layers some_mips in omega (arith, m, some_layers)
