-- What a value without a flaw says, form by form.
use Rattle.std.proofs.Common.{◌≡◌, ℕ, ◌≤◌, List, [], Bool, true, false, ◌&&◌, ◌||◌, cond, Option, None}
use Rattle.std.proofs.Common.{Some, refl, ap, arith, All, unwrap_or, nat_le}
use Rattle.std.specs.Option.{option_map_or}
use Rattle.std.proofs.lemmas.Bool.{and_parts}
use Rattle.std.proofs.lemmas.Bool.Decides.{nat_tests}
use Rattle.std.proofs.lemmas.List.Elements.{All-nil, All-cons}
use Rattle.serde_json.specs.Data.{Data, null, Items, no_items, item}
use Rattle.serde_json.specs.Find.{get, as_str, as_array}
use Rattle.sv_json.specs.declared.found.Found.{Found}
use Rattle.sv_json.specs.declared.found.Flaw.{Flaw}
use Rattle.sv_json.specs.declared.found.Flaw.TheVariants.{Shape, Name, Range, Fine}
use Rattle.sv_json.specs.Flaw.{least}
use Rattle.sv_json.specs.Form.{found, u64_of, between, word, list, items_flaw, items_say, member, maybe}
use Rattle.sv_json.specs.Form.{or_else, has, made, ◌and◌, both_or_neither, unless}

-- what holds of a value where there is one
abbrev pub Holds : {A : Type 0} → (A → Type 0) → Option A → Type 0
Holds P None = Unit {0}
Holds P (Some a) = P a

-- where the form has no flaw, what it says has the property
abbrev pub Says : {A : Type 0} → (A → Type 0) → (Data → Found A) → Type 0
Says P form = (d : Data) → (form d).flaw ≡ Fine → P (form d).value

-- whether a flaw is none
is_fine : Flaw → Bool
is_fine Fine = true
is_fine other = false

pub shape_is_flaw : Shape ≡ Fine → ⊥
unfolding is_fine
shape_is_flaw e = let h : false ≡ true = ap is_fine e in cc

pub name_is_flaw : Name ≡ Fine → ⊥
unfolding is_fine
name_is_flaw e = let h : false ≡ true = ap is_fine e in cc

pub range_is_flaw : Range ≡ Fine → ⊥
unfolding is_fine
range_is_flaw e = let h : false ≡ true = ap is_fine e in cc

pub both_fine : (f g : Flaw) → least f g ≡ Fine → (f ≡ Fine) × (g ≡ Fine)
unfolding least
both_fine Shape Shape e = absurd (shape_is_flaw e)
both_fine Shape Name e = absurd (shape_is_flaw e)
both_fine Shape Range e = absurd (shape_is_flaw e)
both_fine Shape Fine e = absurd (shape_is_flaw e)
both_fine Name Shape e = absurd (shape_is_flaw e)
both_fine Name Name e = absurd (name_is_flaw e)
both_fine Name Range e = absurd (name_is_flaw e)
both_fine Name Fine e = absurd (name_is_flaw e)
both_fine Range Shape e = absurd (shape_is_flaw e)
both_fine Range Name e = absurd (name_is_flaw e)
both_fine Range Range e = absurd (range_is_flaw e)
both_fine Range Fine e = absurd (range_is_flaw e)
both_fine Fine Shape e = absurd (shape_is_flaw e)
both_fine Fine Name e = absurd (name_is_flaw e)
both_fine Fine Range e = absurd (range_is_flaw e)
both_fine Fine Fine e = (refl, refl)

-- Values without parts.

pub says_any : {A : Type 0} (form : Data → Found A) → Says (λ a. Unit {0}) form
says_any form d e = tt

in_bounds : (lowest most n : ℕ) (b : Bool) → (nat_le lowest n && nat_le n most) ≡ b
    → (cond b (found Fine n) (found Range 0)).flaw ≡ Fine
    → (lowest ≤ (cond b (found Fine n) (found Range 0)).value)
    × ((cond b (found Fine n) (found Range 0)).value ≤ most)
in_bounds lowest most n true e fine = let parts = and_parts (nat_le lowest n) (nat_le n most) e in
    (least_is parts.0, most_is parts.1)
  where
    least_is : nat_le lowest n ≡ true → lowest ≤ n
    least_is h = grind (arith, nat_tests)

    most_is : nat_le n most ≡ true → n ≤ most
    most_is h = grind (arith, nat_tests)
in_bounds lowest most n false e fine = absurd (range_is_flaw fine)

abbrev pub IsBetween : ℕ → ℕ → ℕ → Type 0
IsBetween lowest most n = (lowest ≤ n) × (n ≤ most)

bounded : (lowest most : ℕ) (o : Option ℕ) → (option_map_or
    (λ n. cond (nat_le lowest n && nat_le n most) (found Fine n) (found Range 0)) o (found Shape 0)).flaw
    ≡ Fine
    → IsBetween lowest most (option_map_or (λ n. cond (nat_le lowest n && nat_le n most) (found Fine n)
    (found Range 0)) o (found Shape 0)).value
bounded lowest most None fine = absurd (shape_is_flaw fine)
bounded lowest most (Some n) fine = in_bounds lowest most n (nat_le lowest n && nat_le n most) refl fine

pub says_between : (lowest most : ℕ) → Says (IsBetween lowest most) (between lowest most)
unfolding between
says_between lowest most d fine = bounded lowest most (u64_of d) fine

-- a name of a table
named_value : {A : Type 0} (P : A → Type 0) (default : A) (o : Option A) → Holds P o
    → (option_map_or (found Fine) o (found Name default)).flaw ≡ Fine
    → P (option_map_or (found Fine) o (found Name default)).value
named_value P default None h fine = absurd (name_is_flaw fine)
named_value P default (Some a) h fine = h

word_value : {A : Type 0} (P : A → Type 0) (named : List ℕ → Option A) (default : A)
    → ((s : List ℕ) → Holds P (named s)) → (o : Option (List ℕ))
    → (option_map_or (λ s. option_map_or (found Fine) (named s) (found Name default)) o
    (found Shape default)).flaw ≡ Fine
    → P (option_map_or (λ s. option_map_or (found Fine) (named s) (found Name default)) o
    (found Shape default)).value
word_value P named default h None fine = absurd (shape_is_flaw fine)
word_value P named default h (Some s) fine = named_value P default (named s) (h s) fine

pub says_word : {A : Type 0} (P : A → Type 0) (named : List ℕ → Option A) (default : A)
    → ((s : List ℕ) → Holds P (named s)) → Says P (word named default)
unfolding word
says_word P named default h d fine = word_value P named default h (as_str d) fine

-- Lists.

items_value : {A : Type 0} (P : A → Type 0) (form : Data → Found A) → Says P form → (ds : Items)
    → items_flaw form ds ≡ Fine → All P (items_say form ds)
items_value P form says no_items fine = All-nil P
items_value P form says (item d ds) fine =
    let parts = both_fine (form d).flaw (items_flaw form ds) fine in
    All-cons P (form d).value (items_say form ds) (says d parts.0) (items_value P form says ds parts.1)

array_value : {A : Type 0} (P : A → Type 0) (form : Data → Found A) → Says P form → (o : Option Items)
    → (option_map_or (λ ds. found (items_flaw form ds) (items_say form ds)) o (found Shape [])).flaw ≡ Fine
    → All P (option_map_or (λ ds. found (items_flaw form ds) (items_say form ds)) o (found Shape [])).value
array_value P form says None fine = absurd (shape_is_flaw fine)
array_value P form says (Some ds) fine = items_value P form says ds fine

pub says_list : {A : Type 0} (P : A → Type 0) (form : Data → Found A) → Says P form → Says (All P) (list form)
unfolding list
says_list P form says d fine = array_value P form says (as_array d) fine

-- Members.

pub says_member : {A : Type 0} (P : A → Type 0) (name : List ℕ) (form : Data → Found A) → Says P form
    → Says P (member name form)
unfolding member
says_member P name form says d fine = says (unwrap_or (get name d) null) fine

or_else_value : {A : Type 0} (P : A → Type 0) (form : Data → Found A) (default : A) → Says P form
    → P default → (o : Option Data) → (option_map_or form o (found Fine default)).flaw ≡ Fine
    → P (option_map_or form o (found Fine default)).value
or_else_value P form default says h None fine = h
or_else_value P form default says h (Some d) fine = says d fine

pub says_or_else : {A : Type 0} (P : A → Type 0) (name : List ℕ) (form : Data → Found A) (default : A)
    → Says P form → P default → Says P (or_else name form default)
unfolding or_else
says_or_else P name form default says h d fine = or_else_value P form default says h (get name d) fine

-- Wholes.

pub unless_holds : (test : Bool) (flaw : Flaw) → (flaw ≡ Fine → ⊥) → unless test flaw ≡ Fine → test ≡ true
unfolding unless
unless_holds true flaw bad fine = refl
unless_holds false flaw bad fine = absurd (bad fine)

-- one of two forms
pub says_if : {A : Type 0} (P : A → Type 0) (b : Bool) (d : Data) (one other : Data → Found A) → Says P one
    → Says P other → (cond b (one d) (other d)).flaw ≡ Fine → P (cond b (one d) (other d)).value
says_if P true d one other says_one says_other fine = says_one d fine
says_if P false d one other says_one says_other fine = says_other d fine

both_value : {A B : Type 0} (P : A → Type 0) (Q : B → Type 0) (b : Bool) (d : Data)
    (one : Data → Found (Option (A × B))) → Says (Holds (λ (x : A × B). P x.0 × Q x.1)) one
    → (cond b (one d) (found Fine None)).flaw ≡ Fine
    → Holds (λ (x : A × B). P x.0 × Q x.1) (cond b (one d) (found Fine None)).value
both_value P Q true d one says fine = says d fine
both_value P Q false d one says fine = tt

pub says_both : {A B : Type 0} (P : A → Type 0) (Q : B → Type 0) (name : List ℕ) (form : Data → Found A)
    (other_name : List ℕ) (other_form : Data → Found B) → Says P form → Says Q other_form
    → Says (Holds (λ (x : A × B). P x.0 × Q x.1)) (both_or_neither name form other_name other_form)
unfolding both_or_neither
says_both P Q name form other_name other_form says other_says d fine =
    both_value P Q (has name d || has other_name d) d
    (made (λ a b. Some (a, b)) (member name form) and member other_name other_form)
    (λ e pair_fine. let parts = both_fine (member name form e).flaw
    (member other_name other_form e).flaw pair_fine in
    (says_member P name form says e parts.0, says_member Q other_name other_form other_says e parts.1))
    fine
