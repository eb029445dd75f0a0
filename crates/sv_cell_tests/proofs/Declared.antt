-- What the first line says that declares a resource.
use Rattle.std.proofs.Common.{ℕ, ◌≡◌, ◌∙◌, List, [], ◌∷◌, Option, Some, None, ap, refl, subst, sym}
use Rattle.std.specs.Prelude.{cond, find, is_some, slice_get}
use Rattle.std.specs.List.{cons_option, filter_map}
use Rattle.std.specs.Option.{option_and_then}
use Rattle.sv_model.specs.Declarations.{Resource, said, says_resource}
use Rattle.sv_model.specs.declared.line.Line.{Line}
use Rattle.sv_model.proofs.Said.{said_is}

-- the line that is found says what is said
pub says_first : (xs lines : List Line) (m n : ℕ) (x : Line) → xs ≡ lines → m ≡ n → Some x
    ≡ find (λ (l : Line). is_some (says_resource m l)) xs → said (says_resource n) lines ≡ says_resource n x
says_first xs lines m n x same number e =
    subst (λ (k : ℕ). said (says_resource k) lines ≡ says_resource k x) number
    (subst (λ (ls : List Line). said (says_resource m) ls ≡ says_resource m x) same
    (said_is (says_resource m) xs ∙ ap (option_and_then (says_resource m)) (sym e)))
