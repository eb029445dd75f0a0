-- Steps that are added one after another.
use Rattle.std.proofs.Common.{ℕ, ◌≡◌, ◌+◌, ◌<◌, ◌∙◌, ◌++◌, List, [], ◌∷◌, add-one, ap, append_assoc}
use Rattle.std.proofs.Common.{append-nil, arith, get_or, length, length-append, sym, subst, take}
use Rattle.std.specs.List.{enumerate_from, fold}
use Rattle.std.proofs.Math.Seq.{take-suc}
use Rattle.std.proofs.Math.ListN.{length-take}
use Rattle.std.proofs.lemmas.List.Sums.{fold-append}
use Rattle.sv_model.specs.Places.{Bound}
use Rattle.sv_model.specs.Lists.{gather}
use Rattle.sv_model.specs.Primitives.{Made}
use Rattle.sv_model.specs.Work.{numbered}
use Rattle.sv_model.specs.declared.line.Trace.{Trace}
use Rattle.sv_model.proofs.NoteGrowth.{enumerated}
use Rattle.sv_model.proofs.Growing.{gather-append, length-numbered, numbered-append}
use Rattle.sv_processed.specs.Works.{IsAt}
use Rattle.sv_processed.specs.declared.work.Work.{Work}

pub next_taken : {X : Type 0} (xs : List X) (i : ℕ) (d : X) → i < length xs → take (i + 1) xs ≡ take i xs
    ++ get_or xs i d ∷ []
next_taken xs i d lt = rw add-one (take-suc xs i d lt)

pub next_item : {X : Type 0} (xs : List X) (i : ℕ) (x : X) → i < length xs → x ≡ get_or xs i x
    → take (i + 1) xs ≡ take i xs ++ x ∷ []
next_item {X} xs i x lt is = next_taken xs i x lt ∙ ap (λ (y : X). take i xs ++ y ∷ []) (sym is)

-- one more item with its number
pub next_enumerated : {X : Type 0} (xs : List X) (i n : ℕ) (d : X) → i < length xs → n ≡ i
    → enumerate_from 0 (take (i + 1) xs) ≡ enumerate_from 0 (take i xs) ++ (n, get_or xs i d) ∷ []
next_enumerated {X} xs i n d lt is =
    let long : 0 + length (take i xs) ≡ n = (let l = length-take i xs in omega (arith, l, lt, is)) in
    ap (enumerate_from 0) (next_taken xs i d lt) ∙ enumerated 0 (take i xs) (get_or xs i d ∷ [])
    ∙ ap (λ (k : ℕ). enumerate_from 0 (take i xs) ++ enumerate_from k (get_or xs i d ∷ [])) long

pub gathered_one : {S X Y : Type 0} (next : S → X → S) (gives : S → X → List Y) (s : S) (xs : List X)
    (x : X) → gather next gives s (xs ++ x ∷ []) ≡ gather next gives s xs ++ gives (fold next s xs) x
gathered_one {S} {X} {Y} next gives s xs x = gather-append next gives s xs (x ∷ [])
    ∙ ap (λ (ys : List Y). gather next gives s xs ++ ys) (append-nil (gives (fold next s xs) x))

-- what the items of a list give and leave, after one more
pub gathered_next : {S X Y : Type 0} (next : S → X → S) (gives : S → X → List Y) (s : S) (xs : List X)
    (i : ℕ) (d : X) (ys zs : List Y) → i < length xs → zs ≡ ys
    ++ gives (fold next s (take i xs)) (get_or xs i d) → ys ≡ gather next gives s (take i xs)
    → zs ≡ gather next gives s (take (i + 1) xs)
gathered_next {S} {X} {Y} next gives s xs i d ys zs lt is old =
    is ∙ ap (λ (k : List Y). k ++ gives (fold next s (take i xs)) (get_or xs i d)) old
    ∙ sym (ap (gather next gives s) (next_taken xs i d lt)
    ∙ gathered_one next gives s (take i xs) (get_or xs i d))

pub folded_next : {S X : Type 0} (next : S → X → S) (s : S) (xs : List X) (i : ℕ) (d : X) → i < length xs
    → next (fold next s (take i xs)) (get_or xs i d) ≡ fold next s (take (i + 1) xs)
folded_next next s xs i d lt = sym (ap (fold next s) (next_taken xs i d lt)
    ∙ fold-append next s (take i xs) (get_or xs i d ∷ []))

-- Numbers go on.
pub numbers_join : (old more xs ys : List Bound) → (more ++ numbered (length (old ++ more)) xs)
    ++ numbered (length (old ++ (more ++ numbered (length (old ++ more)) xs))) ys ≡ more
    ++ numbered (length (old ++ more)) (xs ++ ys)
numbers_join old more xs ys =
    ap (λ (k : ℕ). (more ++ numbered (length (old ++ more)) xs) ++ numbered k ys) long
    ∙ append_assoc more (numbered (length (old ++ more)) xs) (numbered (length (old ++ more) + length xs) ys)
    ∙ ap (λ (zs : List Bound). more ++ zs) (sym (numbered-append (length (old ++ more)) xs ys))
  where
    long : length (old ++ (more ++ numbered (length (old ++ more)) xs)) ≡ length (old ++ more) + length xs
    long =
        let whole = length-append old (more ++ numbered (length (old ++ more)) xs) in
        let late = length-append more (numbered (length (old ++ more)) xs) in
        let early = length-append old more in
        let same = length-numbered (length (old ++ more)) xs in
        omega arith

module _ (t : Trace) (event : ℕ) (old more : List Bound) where
  -- no step
  pub at_none : (m : Made) (w : Work) → IsAt t event old more m w
      → IsAt t event old (more ++ numbered (length (old ++ more)) []) m w
  at_none m w at = subst (λ (zs : List Bound). IsAt t event old zs m w) (sym (append-nil more)) at

  -- steps, and then others
  pub at_both : (xs ys : List Bound) (m k : Made) (w v : Work)
      → IsAt t event old (more ++ numbered (length (old ++ more)) xs) m w
      → ((later : List Bound) → IsAt t event old later m w
      → IsAt t event old (later ++ numbered (length (old ++ later)) ys) k v)
      → IsAt t event old (more ++ numbered (length (old ++ more)) (xs ++ ys)) k v
  at_both xs ys m k w v at go_on = subst (λ (zs : List Bound). IsAt t event old zs k v)
      (numbers_join old more xs ys) (go_on (more ++ numbered (length (old ++ more)) xs) at)

  -- one more item of a list that gives steps
  pub at_one_more : {X : Type 0} (next : Made → X → Made) (gives : Made → X → List Bound) (m : Made)
      (xs zs : List X) (x : X) (w v : Work) → zs ≡ xs ++ x ∷ []
      → IsAt t event old (more ++ numbered (length (old ++ more)) (gather next gives m xs)) (fold next m xs) w
      → ((later : List Bound) → IsAt t event old later (fold next m xs) w
      → IsAt t event old (later ++ numbered (length (old ++ later)) (gives (fold next m xs) x))
      (next (fold next m xs) x) v)
      → IsAt t event old (more ++ numbered (length (old ++ more)) (gather next gives m zs)) (fold next m zs) v
  at_one_more {X} next gives m xs zs x w v is at go_on =
      subst (λ (ys : List X). IsAt t event old (more
      ++ numbered (length (old ++ more)) (gather next gives m ys)) (fold next m ys) v) (sym is)
      (subst (λ (k : Made). IsAt t event old (more
      ++ numbered (length (old ++ more)) (gather next gives m (xs ++ x ∷ []))) k v)
      (sym (fold-append next m xs (x ∷ [])))
      (subst (λ (bs : List Bound). IsAt t event old (more ++ numbered (length (old ++ more)) bs)
      (next (fold next m xs) x) v) (sym (gathered_one next gives m xs x))
      (at_both (gather next gives m xs) (gives (fold next m xs) x) (fold next m xs)
      (next (fold next m xs) x) w v at go_on)))
