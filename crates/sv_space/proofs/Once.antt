-- Resources that are declared once, and their lines.
use Rattle.std.proofs.Common.{ℕ, zero, suc, ◌≡◌, ◌<◌, inl, inr, List, [], ◌∷◌, Contains, Option, Some, None}
use Rattle.std.proofs.Common.{length, get_or, take, arith, sym, ◌∙◌, ap, subst}
use Rattle.std.specs.List.{AllPairs, cons_option, filter_map}
use Rattle.std.proofs.lemmas.List.{get_or_default}
use Rattle.sv_model.specs.Lawful.{Differ, declared_number}
use Rattle.sv_model.proofs.Lists.{in_cons, in_cons_cases, in_first}
use Rattle.sv_model.specs.declared.line.Line.{Line as Declared}
use Rattle.sv_model.specs.declared.line.Line.TheVariants as declared
use Rattle.sv_model.specs.declared.work.Area.{Area}
use Rattle.sv_model.specs.declared.work.Area.TheVariants.{Bytes, Image}
use Rattle.sv_space.specs.AllLines.{LiesAt, LiesIn}
use Rattle.sv_space.specs.Lines.{LiesOn}
use Rattle.sv_space.specs.Resources.{HasLineFor, IsInsideOf, IsLineFor}
use Rattle.sv_space.specs.declared.line.Line.{Line}
use Rattle.sv_space.specs.declared.shape.Shape.{Shape}

number_kept : {X : Type 0} (f : X → Option ℕ) (rs : List X) (d : X) (m : ℕ) → Contains rs d → f d ≡ Some m
    → Contains (filter_map f rs) m
number_kept f [] d m on is = absurd (let h = on.1 in omega arith)
number_kept {X} f (r ∷ rs) d m on is = elim (in_cons_cases r rs d on) [
  | inl same ↦ subst (λ (o : Option ℕ). Contains (cons_option o (filter_map f rs)) m) (sym (ap f same ∙ is))
      (in_first m (filter_map f rs))
  | inr later ↦ behind (f r) (filter_map f rs) (number_kept f rs d m later is)
]
  where
    behind : (o : Option ℕ) (ns : List ℕ) → Contains ns m → Contains (cons_option o ns) m
    behind None ns h = h
    behind (Some n) ns h = in_cons n ns m h

-- an earlier one has another number
pub once_apart : {X : Type 0} (f : X → Option ℕ) (rs : List X) → AllPairs Differ (filter_map f rs)
    → (i : ℕ) (d e : X) → i < length rs → get_or rs i d ≡ d → Contains (take i rs) e → (n m : ℕ) → f e
    ≡ Some n → f d ≡ Some m → n ≡ m → ⊥
once_apart f [] once i d e lt at on n m f_e f_d same = omega (arith, lt)
once_apart f (r ∷ rs) once zero d e lt at on n m f_e f_d same = let h = on.1 in omega arith
once_apart {X} f (r ∷ rs) once (suc i) d e lt at on n m f_e f_d same =
    elim (in_cons_cases r (take i rs) e on) [
      | inl is_e ↦ (
          let now : AllPairs Differ (n ∷ filter_map f rs) =
          subst (λ (o : Option ℕ). AllPairs Differ (cons_option o (filter_map f rs)))
          (ap f is_e ∙ f_e) once in
          let k = number_kept f rs d m (i, omega (arith, lt), at) f_d in
          let k_lt = k.1 in
          now 0 (suc k.0) n (omega arith) (omega (arith, k_lt))
          (same ∙ sym (get_or_default (filter_map f rs) k.0 n m k.1 ∙ k.2)))
      | inr later ↦ once_apart f rs (tail (f r) (filter_map f rs) once) i d e
          (omega (arith, lt)) at later n m f_e f_d same
    ]
  where
    tail : (o : Option ℕ) (ns : List ℕ) → AllPairs Differ (cons_option o ns) → AllPairs Differ ns
    tail None ns h i j d lt len = h i j d lt len
    tail (Some k) ns h i j d lt len = h (suc i) (suc j) d (omega (arith, lt)) (omega (arith, len))

pub line_number : (d : Declared) (l : Line) → IsLineFor d l → declared_number d ≡ Some l.res
line_number (declared.Buffer res size sharing) l is = ap Some (sym is.0)
line_number (declared.Image res mips layers initial sharing) l is = ap Some (sym is.0)
line_number other l is = absurd is

pub lies_for : (d : Declared) (l : Line) (area : Area) → IsLineFor d l → IsInsideOf d area → LiesAt l area
lies_for (declared.Buffer res size sharing) l (Bytes r span) is inside =
    let size_is = is.2 in
    let end = inside.2 in
    subst (λ (s : Shape). LiesOn l.res s l.pieces.size (Bytes r span)) (sym is.1)
    (is.0 ∙ inside.0, inside.1, omega (arith, size_is, end))
lies_for (declared.Image res mips layers initial sharing) l (Image r box) is inside =
    subst (λ (s : Shape). LiesOn l.res s l.pieces.size (Image r box)) (sym is.1)
    (is.0 ∙ inside.0, inside.1, inside.2, inside.3, inside.4)
lies_for d l area is inside = absurd inside

pub lies_in : (lines : List Line) (d : Declared) (area : Area) → HasLineFor lines d → IsInsideOf d area
    → LiesIn lines area
lies_in lines d area (l, on, is) inside = (
  on.0,
  on.1,
  λ e. subst (λ (m : Line). LiesAt m area) (sym (get_or_default lines on.0 e l on.1 ∙ on.2))
      (lies_for d l area is inside),
)
