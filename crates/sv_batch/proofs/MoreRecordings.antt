-- The instances of some recordings, and of one more.
use Rattle.std.proofs.Common.{ℕ, ◌+◌, ◌≡◌, ◌<◌, ◌==◌, Bool, true, false, List, [], ◌∷◌, ◌++◌, Option, Some}
use Rattle.std.proofs.Common.{None, length, take, get_or, refl, sym, ◌∙◌, ap}
use Rattle.std.specs.Prelude.{if◌then◌else◌}
use Rattle.std.specs.Option.{option_map, option_or}
use Rattle.std.proofs.lemmas.List.{take_more}
use Rattle.std.proofs.lemmas.List.Folds.{find-append}
use Rattle.sv_model.specs.Declarations.{first_recording}
use Rattle.sv_model.specs.declared.line.Recording.{Recording}
use Rattle.sv_batch.specs.Begun.{begun_in}

map_first : (a b : Option Recording) → option_map begun_in (option_or a b)
    ≡ option_or (option_map begun_in a) (option_map begun_in b)
map_first (Some a) b = refl
map_first None b = refl

map_where : (test : Bool) (x : Recording) → option_map begun_in (if test then Some x else None)
    ≡ (if test then Some (begun_in x) else None)
map_where true x = refl
map_where false x = refl

begun_more : (rs : List Recording) (x : Recording) (n : ℕ)
    → option_map begun_in (first_recording (rs ++ x ∷ []) n)
    ≡ option_or (option_map begun_in (first_recording rs n)) (if x.rec == n then Some (begun_in x) else None)
begun_more rs x n =
    ap (option_map begun_in) (find-append (λ (r : Recording). r.rec == n) rs (x ∷ []))
    ∙ map_first (first_recording rs n) (if x.rec == n then Some x else None)
    ∙ ap (option_or (option_map begun_in (first_recording rs n))) (map_where (x.rec == n) x)

-- the table after one more recording
pub instances_more : (rs : List Recording) (i n count : ℕ) (x : Recording) (old new : Option ℕ) → i
    < length rs → x ≡ get_or rs i x → count ≡ begun_in x
    → old ≡ option_map begun_in (first_recording (take i rs) n) → new
    ≡ option_or old (if x.rec == n then Some count else None) → new
    ≡ option_map begun_in (first_recording (take (i + 1) rs) n)
instances_more rs i n count x old new lt at counted is made =
    let cut : take (i + 1) rs ≡ take i rs ++ x ∷ [] = take_more rs i x lt
    ∙ ap (λ (y : Recording). take i rs ++ y ∷ []) (sym at) in
    made
    ∙ ap (λ (k : ℕ). option_or old (if x.rec == n then Some k else None)) counted
    ∙ ap (λ (o : Option ℕ). option_or o (if x.rec == n then Some (begun_in x) else None)) is
    ∙ sym (begun_more (take i rs) x n)
    ∙ sym (ap (λ (list : List Recording). option_map begun_in (first_recording list n)) cut)
