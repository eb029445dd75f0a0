-- The places of the lines that declare passes.
use Rattle.std.specs.Prelude.{◌≡◌, ℕ, suc, ◌==◌, List, [], ◌∷◌, Option, Some, None, option_map, if◌then◌else◌}
use Rattle.std.specs.Option.{option_or}
use Rattle.std.specs.BTreeMap.{BTreeMap, get}
use Rattle.std.specs.Ordering.{nat_cmp}
use Rattle.sv_model.specs.declared.line.Line.{Line}
use Rattle.sv_model.specs.declared.line.Line.TheVariants as line

-- the number of the pass that a line declares
abbrev pub declared_in : Line → Option ℕ
declared_in (line.RenderPass pass attachments subpasses deps) = Some pass
declared_in other = None

-- the place, where that pass is the one with this number
abbrev pub gives : ℕ → Option ℕ → ℕ → Option ℕ
gives n None place = None
gives n (Some pass) place = if pass == n then Some place else None

-- the place of the first line that declares the pass with this number
unfoldable pub first_place : ℕ → List Line → Option ℕ
first_place n [] = None
first_place n (l ∷ lines) = option_or (gives n (declared_in l) 0) (option_map suc (first_place n lines))

-- the table has the first place of each pass
abbrev pub ArePlaces : List Line → BTreeMap ℕ ℕ → Type 0
ArePlaces lines places = (n : ℕ) → get nat_cmp places n ≡ first_place n lines

-- a line is taken, where none before it declares the same pass
abbrev pub Declares : BTreeMap ℕ ℕ → BTreeMap ℕ ℕ → Option ℕ → ℕ → Type 0
Declares old new declared place =
    (n : ℕ) → get nat_cmp new n ≡ option_or (get nat_cmp old n) (gives n declared place)
