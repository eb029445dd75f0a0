-- What a list comes to, one item after another.
use Rattle.std.proofs.Common.{◌≡◌, ℕ, ◌+◌, ◌<◌, ◌≤◌, List, [], ◌∷◌, ◌++◌, length, get_or, drop, refl, sym}
use Rattle.std.proofs.Common.{◌∙◌, ap, arith, append_assoc, append-nil}
use Rattle.std.proofs.lemmas.List.{drop_more, drop_all}
use Rattle.serde_json.specs.Data.{Data}
use Rattle.serde_json.specs.View.{view, items_view}
use Rattle.serde_json.specs.declared.value.Value.{Value}
use Rattle.sv_json.specs.declared.found.Found.{Found}
use Rattle.sv_json.specs.declared.found.Flaw.{Flaw}
use Rattle.sv_json.specs.declared.found.Flaw.TheVariants.{Shape, Name, Range, Fine}
use Rattle.sv_json.specs.Flaw.{least}
use Rattle.sv_json.specs.Form.{found, items_flaw, items_say, joined}

pub least_fine : (f : Flaw) → least f Fine ≡ f
unfolding least
least_fine Shape = refl
least_fine Name = refl
least_fine Range = refl
least_fine Fine = refl

pub fine_least : (f : Flaw) → least Fine f ≡ f
unfolding least
fine_least Shape = refl
fine_least Name = refl
fine_least Range = refl
fine_least Fine = refl

least_assoc : (f g h : Flaw) → least (least f g) h ≡ least f (least g h)
unfolding least
least_assoc f g h = grind arith

rest_is : (vs : List Value) (i : ℕ) (v : Value) → i < length vs → v ≡ get_or vs i v → drop i vs ≡ v
    ∷ drop (i + 1) vs
rest_is vs i v lt at = drop_more vs i v lt ∙ ap (λ u. u ∷ drop (i + 1) vs) (sym at)

-- one more item
pub flaw_step : {A : Type 0} (form : Data → Found A) (vs : List Value) (i : ℕ) (v : Value) (r : Found A)
    (a b w : Flaw) → i < length vs → v ≡ get_or vs i v → r ≡ form (view v) → b ≡ least a r.flaw
    → least a (items_flaw form (items_view (drop i vs))) ≡ w
    → least b (items_flaw form (items_view (drop (i + 1) vs))) ≡ w
flaw_step form vs i v r a b w lt at r_is b_is all =
    let rest = items_flaw form (items_view (drop (i + 1) vs)) in
    ap (λ z. least z rest) (b_is ∙ ap (λ z. least a z.flaw) r_is) ∙ least_assoc a (form (view v)).flaw rest
    ∙ sym (ap (λ us. least a (items_flaw form (items_view us))) (rest_is vs i v lt at)) ∙ all

pub parts_step : {A : Type 0} (form : Data → Found A) (vs : List Value) (i : ℕ) (v : Value) (r : Found A)
    (xs ys w : List A) → i < length vs → v ≡ get_or vs i v → r ≡ form (view v) → ys ≡ xs ++ r.value ∷ []
    → xs ++ items_say form (items_view (drop i vs)) ≡ w → ys
    ++ items_say form (items_view (drop (i + 1) vs)) ≡ w
parts_step form vs i v r xs ys w lt at r_is ys_is all =
    let rest = items_say form (items_view (drop (i + 1) vs)) in
    ap (λ z. z ++ rest) (ys_is ∙ ap (λ z. xs ++ z.value ∷ []) r_is)
    ∙ append_assoc xs ((form (view v)).value ∷ []) rest
    ∙ sym (ap (λ us. xs ++ items_say form (items_view us)) (rest_is vs i v lt at)) ∙ all

pub joined_step : {A : Type 0} (join : A → A → A) (form : Data → Found A) (vs : List Value) (i : ℕ)
    (v : Value) (r : Found A) (x y w : A) → i < length vs → v ≡ get_or vs i v → r ≡ form (view v) → y
    ≡ join x r.value
    → joined join x (items_say form (items_view (drop i vs))) ≡ w
    → joined join y (items_say form (items_view (drop (i + 1) vs))) ≡ w
joined_step join form vs i v r x y w lt at r_is y_is all =
    let rest = items_say form (items_view (drop (i + 1) vs)) in
    ap (λ z. joined join z rest) (y_is ∙ ap (λ z. join x z.value) r_is)
    ∙ sym (ap (λ us. joined join x (items_say form (items_view us))) (rest_is vs i v lt at)) ∙ all

-- no item is left
pub all_read : {A : Type 0} (form : Data → Found A) (vs : List Value) (i : ℕ) (a w : Flaw) (xs ys : List A)
    → length vs ≤ i
    → least a (items_flaw form (items_view (drop i vs))) ≡ w → xs ++ items_say form (items_view (drop i vs))
    ≡ ys → found a xs ≡ found w ys
all_read form vs i a w xs ys le flaw parts =
    let none = drop_all i vs le in
    let a_is : a ≡ w = sym (least_fine a) ∙ sym (ap (λ us. least a (items_flaw form (items_view us))) none)
    ∙ flaw in
    let xs_are : xs ≡ ys = sym (append-nil xs) ∙ sym (ap (λ us. xs ++ items_say form (items_view us)) none)
    ∙ parts in
    ap (λ z. found z xs) a_is ∙ ap (λ z. found w z) xs_are

pub all_joined : {A : Type 0} (join : A → A → A) (form : Data → Found A) (vs : List Value) (i : ℕ)
    (a w : Flaw) (x y : A) → length vs ≤ i
    → least a (items_flaw form (items_view (drop i vs))) ≡ w
    → joined join x (items_say form (items_view (drop i vs))) ≡ y → found a x ≡ found w y
all_joined join form vs i a w x y le flaw whole =
    let none = drop_all i vs le in
    let a_is : a ≡ w = sym (least_fine a) ∙ sym (ap (λ us. least a (items_flaw form (items_view us))) none)
    ∙ flaw in
    let x_is : x ≡ y = sym (ap (λ us. joined join x (items_say form (items_view us))) none) ∙ whole in
    ap (λ z. found z x) a_is ∙ ap (λ z. found w z) x_is
