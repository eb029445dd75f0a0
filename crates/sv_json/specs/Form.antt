-- Forms. A form tells of each value of JSON the flaw that it has in that form, and what it says. Where it
-- has a flaw, what it says is of no account.
use Rattle.std.specs.Prelude.{ℕ, List, [], ◌∷◌, Bool, false, ◌&&◌, ◌||◌, nat_le, if◌then◌else◌, Option}
use Rattle.std.specs.Prelude.{None, Some, is_some, option_and_then, unwrap_or}
use Rattle.std.specs.Option.{option_map_or}
use Rattle.serde_json.specs.Data.{Data, null, Items, no_items, item}
use Rattle.serde_json.specs.Find.{get, as_number, as_u64, as_bool, as_str, as_array, as_object}
use Rattle.sv_json.specs.declared.found.Found.{Found}
use Rattle.sv_json.specs.declared.found.Flaw.{Flaw}
use Rattle.sv_json.specs.declared.found.Flaw.TheVariants.{Shape, Name, Range, Fine}
use Rattle.sv_json.specs.Flaw.{least}

abbrev pub found : {A : Type 0} → Flaw → A → Found A
found flaw value = record { flaw = flaw; value = value }

-- ---- a value that has no parts

-- a number in decimal digits alone that fits 64 bits: serde_json reads each other number as a negative or a
-- float
abbrev pub u64_of : Data → Option ℕ
u64_of d = option_and_then as_u64 (as_number d)

unfoldable pub any_number : Data → Found ℕ
any_number d = option_map_or (found Fine) (u64_of d) (found Shape 0)

-- a number with bounds
unfoldable pub between : ℕ → ℕ → Data → Found ℕ
between lowest most d = option_map_or (λ n. if nat_le lowest n && nat_le n most then found Fine n else found
    Range 0) (u64_of d) (found Shape 0)

unfoldable pub truth : Data → Found Bool
truth d = option_map_or (found Fine) (as_bool d) (found Shape false)

-- a text of a table of names
unfoldable pub word : {A : Type 0} → (List ℕ → Option A) → A → Data → Found A
word named default d = option_map_or (λ s. option_map_or (found Fine) (named s) (found Name default))
    (as_str d) (found Shape default)

-- ---- lists

abbrev pub items_flaw : {A : Type 0} → (Data → Found A) → Items → Flaw
items_flaw form no_items = Fine
items_flaw form (item d ds) = least (form d).flaw (items_flaw form ds)

abbrev pub items_say : {A : Type 0} → (Data → Found A) → Items → List A
items_say form no_items = []
items_say form (item d ds) = (form d).value ∷ items_say form ds

unfoldable pub list : {A : Type 0} → (Data → Found A) → Data → Found (List A)
list form d = option_map_or (λ ds. found (items_flaw form ds) (items_say form ds)) (as_array d)
    (found Shape [])

-- the values of a list as one, from the left
abbrev pub joined : {A : Type 0} → (A → A → A) → A → List A → A
joined join whole [] = whole
joined join whole (part ∷ parts) = joined join (join whole part) parts

unfoldable pub mask : {A : Type 0} → (A → A → A) → A → (Data → Found A) → Data → Found A
mask join none form d = option_map_or (λ ds. found (items_flaw form ds)
    (joined join none (items_say form ds))) (as_array d) (found Shape none)

-- ---- members

-- one that is missing is like null, which has a flaw in every form that a member can have
unfoldable pub member : {A : Type 0} → List ℕ → (Data → Found A) → Data → Found A
member name form d = form (unwrap_or (get name d) null)

-- one that may be missing
unfoldable pub maybe : {A : Type 0} → List ℕ → (Data → Found A) → Data → Found (Option A)
maybe name form d = option_map_or (λ e. found (form e).flaw (Some (form e).value)) (get name d)
    (found Fine None)

-- one that says this where it is missing
unfoldable pub or_else : {A : Type 0} → List ℕ → (Data → Found A) → A → Data → Found A
or_else name form default d = option_map_or form (get name d) (found Fine default)

unfoldable pub has : List ℕ → Data → Bool
has name d = is_some (get name d)

-- ---- wholes

abbrev join : {A B : Type 0} → Found (A → B) → Found A → Found B
join f a = record { flaw = least f.flaw a.flaw; value = f.value a.value }

-- a function of what parts say, one part after another
abbrev pub made : {A B : Type 0} → (A → B) → (Data → Found A) → Data → Found B
made f form d = found (form d).flaw (f (form d).value)

infixl 20 ◌and◌
abbrev pub ◌and◌ : {A B : Type 0} → (Data → Found (A → B)) → (Data → Found A) → Data → Found B
(fs and form) d = join (fs d) (form d)

-- two members that are both there or neither
unfoldable pub both_or_neither : {A B : Type 0} → List ℕ → (Data → Found A) → List ℕ → (Data → Found B)
    → Data → Found (Option (A × B))
both_or_neither name form other_name other_form d =
    if has name d || has other_name d
    then (made (λ a b. Some (a, b)) (member name form) and member other_name other_form) d
    else found Fine None

-- this flaw, unless the test holds
unfoldable pub unless : Bool → Flaw → Flaw
unless test flaw = if test then Fine else flaw

-- what is asked of the whole beyond its parts: it has this flaw, unless the test holds of what it says
abbrev pub checked : {A : Type 0} → Flaw → (A → Bool) → (Data → Found A) → Data → Found A
checked flaw test form d = found (least (form d).flaw (unless (test (form d).value) flaw)) (form d).value

-- an object, where no member need be there
abbrev pub object : {A : Type 0} → (Data → Found A) → Data → Found A
object form d = found (least (unless (is_some (as_object d)) Shape) (form d).flaw) (form d).value
