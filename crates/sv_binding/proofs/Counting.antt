-- Lists with one item more.
use Rattle.std.proofs.Common.{ℕ, suc, ◌+◌, ◌<◌, ◌≡◌, List, [], ◌∷◌, ◌++◌, length, get_or, take, sym, ap}
use Rattle.std.proofs.Common.{◌∙◌, arith}
use Rattle.std.proofs.lemmas.List.{length-take-le, take_more}
use Rattle.sv_model.specs.Events.{with_tokens}
use Rattle.sv_model.specs.Positions.{accesses_from, groups_from, numbered_group}
use Rattle.sv_model.specs.declared.work.Access.{Access}
use Rattle.sv_model.specs.declared.work.Group.{Group}

-- the number of transitions of some groups
abbrev pub count_of : List Group → ℕ
count_of [] = 0
count_of (g ∷ gs) = length g.transitions + count_of gs

pub count_snoc : (gs : List Group) (g : Group) → count_of (gs ++ g ∷ []) ≡ count_of gs + length g.transitions
count_snoc [] g = omega arith
count_snoc (h ∷ gs) g = let e = count_snoc gs g in omega (arith, e)

pub accesses_snoc : (n pos : ℕ) (xs : List Access) (x : Access) → accesses_from n pos (xs ++ x ∷ [])
    ≡ accesses_from n pos xs ++ record x { step = n; pos = pos + length xs } ∷ []
accesses_snoc n pos [] x = let e : pos ≡ pos + 0 = omega arith in
    ap (λ (k : ℕ). record x { step = n; pos = k } ∷ []) e
accesses_snoc n pos (y ∷ xs) x =
    let e : pos + 1 + length xs ≡ pos + suc (length xs) = omega arith in
    ap (λ (k : List Access). record y { step = n; pos = pos } ∷ k)
    (accesses_snoc n (pos + 1) xs x ∙ ap (λ (k : ℕ). accesses_from n (pos + 1) xs
    ++ record x { step = n; pos = k } ∷ []) e)

pub groups_snoc : (n pos : ℕ) (xs : List Group) (x : Group) → groups_from n pos (xs ++ x ∷ [])
    ≡ groups_from n pos xs ++ numbered_group n (pos + count_of xs) x ∷ []
groups_snoc n pos [] x = let e : pos ≡ pos + 0 = omega arith in ap (λ (k : ℕ). numbered_group n k x ∷ []) e
groups_snoc n pos (y ∷ xs) x =
    let e : pos + length y.transitions + count_of xs ≡ pos + (length y.transitions + count_of xs) =
    omega arith in
    ap (λ (k : List Group). numbered_group n pos y ∷ k)
    (groups_snoc n (pos + length y.transitions) xs x
    ∙ ap (λ (k : ℕ). groups_from n (pos + length y.transitions) xs ++ numbered_group n k x ∷ []) e)

pub tokens_snoc : (half : ℕ → Group → Group) (token : ℕ) (xs : List Group) (x : Group)
    → with_tokens half token (xs ++ x ∷ []) ≡ with_tokens half token xs ++ half (token + length xs) x ∷ []
tokens_snoc half token [] x = let e : token ≡ token + 0 = omega arith in ap (λ (k : ℕ). half k x ∷ []) e
tokens_snoc half token (y ∷ xs) x =
    let e : token + 1 + length xs ≡ token + suc (length xs) = omega arith in
    ap (λ (k : List Group). half token y ∷ k) (tokens_snoc half (token + 1) xs x
    ∙ ap (λ (k : ℕ). with_tokens half (token + 1) xs ++ half k x ∷ []) e)

pub tokens_pushed : (half : ℕ → Group → Group) (token : ℕ) (xs : List Group) (i : ℕ) (x : Group) (pos : ℕ)
    (old new : List Group) (h : Group) → i < length xs → x ≡ get_or xs i x → pos ≡ token + i → h
    ≡ half pos x → old ≡ with_tokens half token (take i xs) → new ≡ old ++ h ∷ [] → new
    ≡ with_tokens half token (take (i + 1) xs)
tokens_pushed half token xs i x pos old new h lt is at here before pushed =
    let more : take (i + 1) xs ≡ take i xs ++ x ∷ [] = take_more xs i x lt
    ∙ ap (λ (y : Group). take i xs ++ y ∷ []) (sym is) in
    let long : length (take i xs) ≡ i = length-take-le i xs (omega (arith, lt)) in
    pushed
    ∙ (λ j. before j ++ here j ∷ [])
    ∙ ap (λ (k : ℕ). with_tokens half token (take i xs) ++ half k x ∷ [])
    (at ∙ ap (λ (k : ℕ). token + k) (sym long))
    ∙ sym (tokens_snoc half token (take i xs) x)
    ∙ ap (with_tokens half token) (sym more)

pub accesses_pushed : (n first : ℕ) (xs : List Access) (i : ℕ) (d : Access) (pos : ℕ) (x : Access)
    (old new : List Access) → i < length xs → pos ≡ first + i → x
    ≡ record (get_or xs i d) { step = n; pos = pos } → old ≡ accesses_from n first (take i xs) → new ≡ old
    ++ x ∷ [] → new ≡ accesses_from n first (take (i + 1) xs)
accesses_pushed n first xs i d pos x old new lt at here before pushed =
    let long : length (take i xs) ≡ i = length-take-le i xs (omega (arith, lt)) in
    pushed
    ∙ (λ j. before j ++ here j ∷ [])
    ∙ ap (λ (k : ℕ). accesses_from n first (take i xs) ++ record (get_or xs i d) { step = n; pos = k } ∷ [])
    (at ∙ ap (λ (k : ℕ). first + k) (sym long))
    ∙ sym (accesses_snoc n first (take i xs) (get_or xs i d))
    ∙ ap (accesses_from n first) (sym (take_more xs i d lt))

pub groups_pushed : (n : ℕ) (xs : List Group) (x h : Group) (pos : ℕ) (old new : List Group) → pos
    ≡ count_of xs → h ≡ numbered_group n pos x → old ≡ groups_from n 0 xs → new ≡ old ++ h ∷ [] → new
    ≡ groups_from n 0 (xs ++ x ∷ [])
groups_pushed n xs x h pos old new at here before pushed =
    let zero_first : 0 + count_of xs ≡ count_of xs = omega arith in
    pushed
    ∙ (λ j. before j ++ here j ∷ [])
    ∙ ap (λ (k : ℕ). groups_from n 0 xs ++ numbered_group n k x ∷ []) (at ∙ sym zero_first)
    ∙ sym (groups_snoc n 0 xs x)
