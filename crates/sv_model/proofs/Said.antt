-- What the first of some lines says that says something.
use Rattle.std.proofs.Common.{◌≡◌, List, [], ◌∷◌, ◌++◌, Option, Some, None, cond, refl, sym}
use Rattle.std.specs.Prelude.{filter_map, find, is_some, slice_get}
use Rattle.std.specs.List.{cons_option}
use Rattle.std.specs.Option.{option_and_then, option_or}
use Rattle.sv_model.specs.declared.line.Line.{Line}
use Rattle.sv_model.specs.Declarations.{said}

one_said : {X : Type 0} (o : Option X) → slice_get (cons_option o []) 0 ≡ o
one_said None = refl
one_said (Some x) = refl

before_said : {X : Type 0} (o : Option X) (longer shorter : List X) (new : Option X) → slice_get longer 0
    ≡ option_or (slice_get shorter 0) new → slice_get (cons_option o longer) 0
    ≡ option_or (slice_get (cons_option o shorter) 0) new
before_said None longer shorter new h = h
before_said (Some x) longer shorter new h = refl

-- one more line says something where none before it did
pub said_more : {X : Type 0} (says : Line → Option X) (lines : List Line) (x : Line)
    → said says (lines ++ x ∷ []) ≡ option_or (said says lines) (says x)
said_more says [] x = one_said (says x)
said_more says (y ∷ lines) x = before_said (says y) (filter_map says (lines ++ x ∷ []))
    (filter_map says lines) (says x) (said_more says lines x)

said_with : {X : Type 0} (says : Line → Option X) (x : Line) (xs : List Line) (o : Option X) → says x ≡ o
    → said says xs ≡ option_and_then says (find (λ (l : Line). is_some (says l)) xs)
    → slice_get (cons_option o (filter_map says xs)) 0
    ≡ option_and_then says (cond (is_some o) (Some x) (find (λ (l : Line). is_some (says l)) xs))
said_with says x xs None is e = e
said_with says x xs (Some p) is e = sym is

-- the first line that says something says it
pub said_is : {X : Type 0} (says : Line → Option X) (xs : List Line) → said says xs
    ≡ option_and_then says (find (λ (l : Line). is_some (says l)) xs)
said_is says [] = refl
said_is says (x ∷ xs) = said_with says x xs (says x) refl (said_is says xs)
