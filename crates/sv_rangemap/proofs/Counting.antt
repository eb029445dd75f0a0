-- Chunks of a list: where an item stands, and what a change of one chunk is to the whole.
use Rattle.std.proofs.Common.{ℕ, zero, suc, ◌≡◌, ◌<◌, ◌≤◌, ◌+◌, ◌-◌, ◌⊎◌, inl, inr, List, [], ◌∷◌, ◌++◌}
use Rattle.std.proofs.Common.{length, get_or, take, drop, arith, refl, sym, ◌∙◌, ap, subst, length-append}
use Rattle.std.proofs.Common.{append_assoc, Result, Ok, Err, OnErr}
use Rattle.std.proofs.Math.ListN.{set}
use Rattle.std.specs.List.{insert, remove}
use Rattle.std.proofs.lemmas.List.{append-nil, length-set, take_more, drop_more, take-append-drop, take_all}
use Rattle.std.proofs.lemmas.List.{set_split, set-append_left, set-append_right, get_or_default}
use Rattle.std.proofs.lemmas.List.{get_or-set_same, get_or-set_other, take-set-le, take-append-le}
use Rattle.std.proofs.lemmas.List.{take-take, take_more_set, drop-set-lt, length-take}
use Rattle.std.proofs.lemmas.List.Concat.{flat_map-append, get_or-flat_map}
use Rattle.std.proofs.lemmas.List.Edits.{insert-append_left, insert-append_right, remove-append_left}
use Rattle.std.proofs.lemmas.List.Edits.{remove-append_right, length-insert, get_or-insert_below}
use Rattle.sv_rangemap.specs.declared.chunk.Chunk.{Chunk}
use Rattle.sv_rangemap.specs.Chunking.{AreCounted, HaveSameItems, IsChunkOf, items_in}

below_or : (c n : ℕ) → (c < n) ⊎ (n ≤ c)
below_or c n = grind arith

at_or_not : (a b : ℕ) → (a ≡ b) ⊎ (a ≡ b → ⊥)
at_or_not a b = grind arith

-- what holds anyway holds at an error
pub on_err : {A E P : Type 0} (r : Result A E) → P → OnErr r P
on_err (Ok a) p = tt
on_err (Err e) p = p

module _ {T : Type 0} where
  items_append : (a b : List (Chunk T)) → items_in (a ++ b) ≡ items_in a ++ items_in b
  items_append a b = flat_map-append (λ (c : Chunk T). c.items.items) a b

  -- the items before a chunk, its own, and those behind it
  pub split_items : (chunks : List (Chunk T)) (at : ℕ) (e : Chunk T) → at < length chunks → items_in chunks
      ≡ items_in (take at chunks) ++ ((get_or chunks at e).items.items ++ items_in (drop (at + 1) chunks))
  split_items chunks at e lt =
      ap items_in (sym (take-append-drop at chunks)
      ∙ ap (λ (r : List (Chunk T)). take at chunks ++ r) (drop_more chunks at e lt))
      ∙ items_append (take at chunks) (get_or chunks at e ∷ drop (at + 1) chunks)

  -- another chunk stands there
  pub items_set : (chunks : List (Chunk T)) (at : ℕ) (c : Chunk T) → at < length chunks
      → items_in (set chunks at c) ≡ items_in (take at chunks)
      ++ (c.items.items ++ items_in (drop (at + 1) chunks))
  items_set chunks at c lt =
      ap items_in (set_split chunks at c lt)
      ∙ items_append (take at chunks) (c ∷ drop (suc at) chunks)
      ∙ ap (λ (n : ℕ). items_in (take at chunks) ++ (c.items.items ++ items_in (drop n chunks)))
      (let e : suc at ≡ at + 1 = omega arith in e)

  -- what stands before the next chunk
  pub next_count : (chunks : List (Chunk T)) (at : ℕ) (e : Chunk T) → at < length chunks
      → length (items_in (take (at + 1) chunks)) ≡ length (items_in (take at chunks))
      + length (get_or chunks at e).items.items
  next_count chunks at e lt =
      ap (λ (cs : List (Chunk T)). length (items_in cs)) (take_more chunks at e lt)
      ∙ ap length (items_append (take at chunks) (get_or chunks at e ∷ [])
      ∙ ap (λ (r : List T). items_in (take at chunks) ++ r) (append-nil (get_or chunks at e).items.items))
      ∙ length-append (items_in (take at chunks)) (get_or chunks at e).items.items

  -- some of the chunks have at most all items
  pub count_within : (chunks : List (Chunk T)) (k : ℕ) → length (items_in (take k chunks))
      ≤ length (items_in chunks)
  count_within chunks k =
      let whole : items_in chunks ≡ items_in (take k chunks) ++ items_in (drop k chunks) =
      ap items_in (sym (take-append-drop k chunks)) ∙ items_append (take k chunks) (drop k chunks) in
      let long = ap length whole ∙ length-append (items_in (take k chunks)) (items_in (drop k chunks)) in
      omega (arith, long)

  same_taken : (old new : List (Chunk T)) → HaveSameItems old new → (k : ℕ) → items_in (take k new)
      ≡ items_in (take k old)
  same_taken old new same zero = refl
  same_taken [] [] same (suc k) = refl
  same_taken [] (y ∷ ys) same (suc k) = absurd (let l = same.long in omega (arith, l))
  same_taken (x ∷ xs) [] same (suc k) = absurd (let l = same.long in omega (arith, l))
  same_taken (x ∷ xs) (y ∷ ys) same (suc k) =
      let here : y.items ≡ x.items = same.items 0 x in
      let there = same_taken xs ys (record {
        long = (let l = same.long in omega (arith, l));
        items = λ j d. same.items (suc j) d;
      }) k in
      ap (λ v. v.items ++ items_in (take k ys)) here ∙ ap (λ (r : List T). x.items.items ++ r) there

  -- the items of chunks that have the same items
  pub same_items : (old new : List (Chunk T)) → HaveSameItems old new → items_in new ≡ items_in old
  same_items old new same =
      ap items_in (sym (take_all (length new) new (omega arith)))
      ∙ same_taken old new same (length new)
      ∙ ap items_in (take_all (length new) old (let l = same.long in omega (arith, l)))

  -- counted by the items that were there before
  pub counted_same : (old new : List (Chunk T)) → HaveSameItems old new → (upto : ℕ)
      → ((k : ℕ) (d : Chunk T) → k < upto → (get_or new k d).first ≡ length (items_in (take k old)))
      → AreCounted upto new
  counted_same old new same upto counted k d lt = counted k d lt ∙ ap length (sym (same_taken old new same k))

  -- the count behind a chunk, from the one before it
  pub add_own : (old new : List (Chunk T)) → HaveSameItems old new → (k : ℕ) (x : Chunk T) → x
      ≡ get_or new k x → (first n : ℕ) → k < length new → first ≡ length (items_in (take k old)) → n
      ≡ length x.items.items → first + n ≡ length (items_in (take (k + 1) old))
  add_own old new same k x is_x first n lt first_is n_is =
      let here : length x.items.items ≡ length (get_or old k x).items.items =
      ap (λ (c : Chunk T). length c.items.items) is_x ∙ ap (λ v. length v.items) (same.items k x) in
      let next = next_count old k x (let l = same.long in omega (arith, l, lt)) in
      omega (arith, here, next, first_is, n_is)

  pub unchanged : (chunks : List (Chunk T)) → HaveSameItems chunks chunks
  unchanged chunks = record { long = refl; items = λ k d. refl }

  -- another chunk of the same items
  pub same_set : (old new : List (Chunk T)) → HaveSameItems old new → (at : ℕ) (x c : Chunk T) → at
      < length new → x ≡ get_or new at x → c.items ≡ x.items → HaveSameItems old (set new at c)
  same_set old new same at x c lt is_x is_c = record {
    long = length-set new at c ∙ same.long;
    items = λ k d. elim (at_or_not k at) [
      | inl e ↦ (
          let here : (get_or (set new at c) at d).items ≡ (get_or old at d).items =
          ap (λ (o : Chunk T). o.items) (get_or-set_same new at c d lt) ∙ is_c
          ∙ ap (λ (o : Chunk T). o.items) (is_x ∙ get_or_default new at x d lt) ∙ same.items at d in
          subst (λ (n : ℕ). (get_or (set new at c) n d).items ≡ (get_or old n d).items) (sym e) here)
      | inr ne ↦ ap (λ (o : Chunk T). o.items) (get_or-set_other new at k c d ne) ∙ same.items k d
    ];
  }

  -- one more chunk is counted
  pub counted_more : (old new : List (Chunk T)) (at : ℕ) (c : Chunk T) → at < length new → c.first
      ≡ length (items_in (take at old)) → ((k : ℕ) (d : Chunk T) → k < at → (get_or new k d).first
      ≡ length (items_in (take k old)))
      → (k : ℕ) (d : Chunk T) → k < at + 1 → (get_or (set new at c) k d).first
      ≡ length (items_in (take k old))
  counted_more old new at c lt first_is counted k d k_lt = elim (at_or_not k at) [
    | inl e ↦ (
        let here : (get_or (set new at c) at d).first ≡ length (items_in (take at old)) =
        ap (λ (o : Chunk T). o.first) (get_or-set_same new at c d lt) ∙ first_is in
        subst (λ (n : ℕ). (get_or (set new at c) n d).first ≡ length (items_in (take n old))) (sym e) here)
    | inr ne ↦ ap (λ (o : Chunk T). o.first) (get_or-set_other new at k c d ne)
        ∙ counted k d (below_at k at k_lt ne)
  ]
    where
      below_at : (a b : ℕ) → a < b + 1 → (a ≡ b → ⊥) → a < b
      below_at a b a_lt ne = grind arith

  -- nothing of the chunk's items changed
  pub items_kept : (chunks : List (Chunk T)) (at : ℕ) (x c : Chunk T) → at < length chunks → x
      ≡ get_or chunks at x → c.items.items ≡ x.items.items → items_in (set chunks at c) ≡ items_in chunks
  items_kept chunks at x c lt is_x is_c =
      items_set chunks at c lt
      ∙ ap (λ (r : List T). items_in (take at chunks) ++ (r ++ items_in (drop (at + 1) chunks)))
      (is_c ∙ ap (λ (o : Chunk T). o.items.items) is_x)
      ∙ sym (split_items chunks at x lt)

  module _ (chunks : List (Chunk T)) (counted : AreCounted (length chunks) chunks) (index at : ℕ)
      (is : IsChunkOf index chunks at) (e : Chunk T) where
    -- it begins behind the items before it
    pub first_is : (get_or chunks at e).first ≡ length (items_in (take at chunks))
    first_is = counted at e is.listed

    -- the place in the chunk
    pub place_at_most : index ≤ length (items_in chunks) → index - (get_or chunks at e).first
        ≤ length (get_or chunks at e).items.items
    place_at_most le =
        let f = first_is in
        let n = next_count chunks at e is.listed in
        elim (below_or (at + 1) (length chunks)) [
          | inl more ↦ (
              let b = is.before e more in
              let c = counted (at + 1) e more in
              omega (arith, f, n, b, c))
          | inr last ↦ (
              let all : length (items_in (take (at + 1) chunks)) ≡ length (items_in chunks) =
              ap (λ (cs : List (Chunk T)). length (items_in cs)) (take_all (at + 1) chunks last) in
              omega (arith, f, n, all, le))
        ]

    pub place_below : index < length (items_in chunks) → index - (get_or chunks at e).first
        < length (get_or chunks at e).items.items
    place_below lt =
        let f = first_is in
        let n = next_count chunks at e is.listed in
        elim (below_or (at + 1) (length chunks)) [
          | inl more ↦ (
              let b = is.before e more in
              let c = counted (at + 1) e more in
              let from = is.from e in
              omega (arith, f, n, b, c, from))
          | inr last ↦ (
              let all : length (items_in (take (at + 1) chunks)) ≡ length (items_in chunks) =
              ap (λ (cs : List (Chunk T)). length (items_in cs)) (take_all (at + 1) chunks last) in
              let from = is.from e in
              omega (arith, f, n, all, lt, from))
        ]

    -- the item at that place of the list
    pub item_at : index < length (items_in chunks) → (d : T) → get_or (items_in chunks) index d
        ≡ get_or (get_or chunks at e).items.items (index - (get_or chunks at e).first) d
    item_at lt d =
        let f = first_is in
        let from = is.from e in
        let sum : length (items_in (take at chunks)) + (index - (get_or chunks at e).first) ≡ index =
        omega (arith, f, from) in
        ap (λ (n : ℕ). get_or (items_in chunks) n d) (sym sum)
        ∙ get_or-flat_map (λ (c : Chunk T). c.items.items) chunks at
        (index - (get_or chunks at e).first) e d is.listed (place_below lt)

    -- a write in the chunk
    pub set_in : (c : Chunk T) (item : T) → index < length (items_in chunks) → c.items.items
        ≡ set (get_or chunks at e).items.items (index - (get_or chunks at e).first) item
        → items_in (set chunks at c) ≡ set (items_in chunks) index item
    set_in c item lt is_set =
        let before = items_in (take at chunks) in
        let own = (get_or chunks at e).items.items in
        let behind = items_in (drop (at + 1) chunks) in
        let f = first_is in
        let from = is.from e in
        let place : index - length before ≡ index - (get_or chunks at e).first = omega (arith, f) in
        items_set chunks at c is.listed
        ∙ ap (λ (r : List T). before ++ (r ++ behind)) is_set
        ∙ ap (λ (r : List T). before ++ r) (sym (set-append_left own behind
        (index - (get_or chunks at e).first) item (place_below lt)))
        ∙ ap (λ (n : ℕ). before ++ set (own ++ behind) n item) (sym place)
        ∙ sym (set-append_right before (own ++ behind) (length before) index item refl
        (omega (arith, f, from)))
        ∙ ap (λ (r : List T). set r index item) (sym (split_items chunks at e is.listed))

    -- an item put into the chunk
    pub insert_in : (c : Chunk T) (item : T) → index ≤ length (items_in chunks) → c.items.items
        ≡ insert (get_or chunks at e).items.items (index - (get_or chunks at e).first) item
        → items_in (set chunks at c) ≡ insert (items_in chunks) index item
    insert_in c item le is_put =
        let before = items_in (take at chunks) in
        let own = (get_or chunks at e).items.items in
        let behind = items_in (drop (at + 1) chunks) in
        let f = first_is in
        let from = is.from e in
        let place : index - length before ≡ index - (get_or chunks at e).first = omega (arith, f) in
        items_set chunks at c is.listed
        ∙ ap (λ (r : List T). before ++ (r ++ behind)) is_put
        ∙ ap (λ (r : List T). before ++ r) (sym (insert-append_left own behind
        (index - (get_or chunks at e).first) item (place_at_most le)))
        ∙ ap (λ (n : ℕ). before ++ insert (own ++ behind) n item) (sym place)
        ∙ sym (insert-append_right before (own ++ behind) (length before) index item refl
        (omega (arith, f, from)))
        ∙ ap (λ (r : List T). insert r index item) (sym (split_items chunks at e is.listed))

    -- an item taken out of the chunk
    pub remove_in : (c : Chunk T) → index < length (items_in chunks) → c.items.items
        ≡ remove (get_or chunks at e).items.items (index - (get_or chunks at e).first)
        → items_in (set chunks at c) ≡ remove (items_in chunks) index
    remove_in c lt is_out =
        let before = items_in (take at chunks) in
        let own = (get_or chunks at e).items.items in
        let behind = items_in (drop (at + 1) chunks) in
        let f = first_is in
        let from = is.from e in
        let place : index - length before ≡ index - (get_or chunks at e).first = omega (arith, f) in
        items_set chunks at c is.listed
        ∙ ap (λ (r : List T). before ++ (r ++ behind)) is_out
        ∙ ap (λ (r : List T). before ++ r) (sym (remove-append_left own behind
        (index - (get_or chunks at e).first) (place_below lt)))
        ∙ ap (λ (n : ℕ). before ++ remove (own ++ behind) n) (sym place)
        ∙ sym (remove-append_right before (own ++ behind) (length before) index refl (omega (arith, f, from)))
        ∙ ap (λ (r : List T). remove r index) (sym (split_items chunks at e is.listed))

  module _ (chunks : List (Chunk T)) (counted : AreCounted (length chunks) chunks) (index at : ℕ)
      (is : IsChunkOf index chunks at) (x : Chunk T) (is_x : x ≡ get_or chunks at x) where
    pub first_read : x.first ≡ length (items_in (take at chunks))
    first_read = ap (λ (c : Chunk T). c.first) is_x ∙ first_is chunks counted index at is x

    pub from_read : x.first ≤ index
    from_read = subst (λ (c : Chunk T). c.first ≤ index) (sym is_x) (is.from x)

    pub room_read : index ≤ length (items_in chunks) → index - x.first ≤ length x.items.items
    room_read le = subst (λ (c : Chunk T). index - c.first ≤ length c.items.items) (sym is_x)
        (place_at_most chunks counted index at is x le)

    pub place_read : index < length (items_in chunks) → index - x.first < length x.items.items
    place_read lt = subst (λ (c : Chunk T). index - c.first < length c.items.items) (sym is_x)
        (place_below chunks counted index at is x lt)

    pub item_read : index < length (items_in chunks) → (y : T) → y
        ≡ get_or x.items.items (index - x.first) y → y ≡ get_or (items_in chunks) index y
    item_read lt y is_y = is_y ∙ sym (subst (λ (c : Chunk T). get_or (items_in chunks) index y
        ≡ get_or c.items.items (index - c.first) y) (sym is_x) (item_at chunks counted index at is x lt y))

    pub set_read : (c : Chunk T) (item : T) → index < length (items_in chunks) → c.items.items
        ≡ set x.items.items (index - x.first) item → items_in (set chunks at c)
        ≡ set (items_in chunks) index item
    set_read c item lt is_set = set_in chunks counted index at is x c item lt
        (subst (λ (o : Chunk T). c.items.items ≡ set o.items.items (index - o.first) item) is_x is_set)

    pub insert_read : (c : Chunk T) (item : T) → index ≤ length (items_in chunks) → c.items.items
        ≡ insert x.items.items (index - x.first) item → items_in (set chunks at c)
        ≡ insert (items_in chunks) index item
    insert_read c item le is_put = insert_in chunks counted index at is x c item le
        (subst (λ (o : Chunk T). c.items.items ≡ insert o.items.items (index - o.first) item) is_x is_put)

    pub remove_read : (c : Chunk T) → index < length (items_in chunks) → c.items.items
        ≡ remove x.items.items (index - x.first) → items_in (set chunks at c) ≡ remove (items_in chunks) index
    remove_read c lt is_out = remove_in chunks counted index at is x c lt
        (subst (λ (o : Chunk T). c.items.items ≡ remove o.items.items (index - o.first)) is_x is_out)

  module _ (chunks : List (Chunk T)) (at : ℕ) (listed : at < length chunks)
      (counted : AreCounted (length chunks) chunks) (x : Chunk T) (is_x : x ≡ get_or chunks at x)
      (c : Chunk T) (same_first : c.first ≡ x.first) where
    first_after : (k : ℕ) (d : Chunk T) → k < length chunks → (get_or (set chunks at c) k d).first
        ≡ length (items_in (take k chunks))
    first_after k d lt = elim (at_or_not k at) [
      | inl same ↦ (
          let here : (get_or (set chunks at c) at d).first ≡ length (items_in (take at chunks)) =
          ap (λ (o : Chunk T). o.first) (get_or-set_same chunks at c d listed) ∙ same_first
          ∙ ap (λ (o : Chunk T). o.first) is_x ∙ counted at x listed in
          subst (λ (n : ℕ). (get_or (set chunks at c) n d).first ≡ length (items_in (take n chunks)))
          (sym same) here)
      | inr ne ↦ ap (λ (o : Chunk T). o.first) (get_or-set_other chunks at k c d ne) ∙ counted k d lt
    ]

    -- up to the changed chunk nothing else is before
    pub counted_upto : AreCounted (at + 1) (set chunks at c)
    counted_upto k d lt = first_after k d (omega (arith, lt, listed))
        ∙ ap (λ (cs : List (Chunk T)). length (items_in cs))
        (sym (take-set-le k chunks at c (omega (arith, lt))))

    -- with as many items nothing moves
    pub counted_all : length c.items.items ≡ length x.items.items
        → AreCounted (length (set chunks at c)) (set chunks at c)
    counted_all long k d lt = first_after k d (let l = length-set chunks at c in omega (arith, l, lt))
        ∙ sym (as_long chunks at k listed (long ∙ ap (λ (o : Chunk T). length o.items.items) is_x))
      where
        as_long : (cs : List (Chunk T)) (i n : ℕ) → i < length cs → length c.items.items
            ≡ length (get_or cs i x).items.items → length (items_in (take n (set cs i c)))
            ≡ length (items_in (take n cs))
        as_long [] i n lt e = absurd (omega (arith, lt))
        as_long (y ∷ ys) zero zero lt e = refl
        as_long (y ∷ ys) zero (suc n) lt e = length-append c.items.items (items_in (take n ys))
            ∙ ap (λ (m : ℕ). m + length (items_in (take n ys))) e
            ∙ sym (length-append y.items.items (items_in (take n ys)))
        as_long (y ∷ ys) (suc i) zero lt e = refl
        as_long (y ∷ ys) (suc i) (suc n) lt e = length-append y.items.items (items_in (take n (set ys i c)))
            ∙ ap (λ (m : ℕ). length y.items.items + m) (as_long ys i n (omega (arith, lt)) e)
            ∙ sym (length-append y.items.items (items_in (take n ys)))

  -- a chunk is cut in two: c has its front, and b the rest
  module _ (chunks : List (Chunk T)) (at half : ℕ) (listed : at < length chunks) (x : Chunk T)
      (is_x : x ≡ get_or chunks at x) (c b : Chunk T) (is_front : c.items.items ≡ take half x.items.items)
      (is_back : b.items.items ≡ drop half x.items.items) where
    pub cut_items : items_in (insert (set chunks at c) (at + 1) b) ≡ items_in chunks
    cut_items =
        ap (λ (cs : List (Chunk T)). items_in (cs ++ b ∷ drop (at + 1) (set chunks at c)))
        (take_more_set chunks at c listed)
        ∙ ap (λ (cs : List (Chunk T)). items_in ((take at chunks ++ c ∷ []) ++ b ∷ cs))
        (drop-set-lt (at + 1) chunks at c (omega arith))
        ∙ items_append (take at chunks ++ c ∷ []) (b ∷ behind)
        ∙ ap (λ (r : List T). r ++ (b.items.items ++ items_in behind))
        (items_append (take at chunks) (c ∷ [])
        ∙ ap (λ (r : List T). before ++ r) (append-nil c.items.items))
        ∙ append_assoc before c.items.items (b.items.items ++ items_in behind)
        ∙ ap (λ (r : List T). before ++ r) (sym (append_assoc c.items.items b.items.items (items_in behind)))
        ∙ ap (λ (r : List T). before ++ (r ++ items_in behind))
        (ap (λ (r : List T). r ++ b.items.items) is_front
        ∙ ap (λ (r : List T). take half x.items.items ++ r) is_back ∙ take-append-drop half x.items.items
        ∙ ap (λ (o : Chunk T). o.items.items) is_x)
        ∙ sym (split_items chunks at x listed)
      where
        before : List T
        before = items_in (take at chunks)

        behind : List (Chunk T)
        behind = drop (at + 1) chunks

    pub cut_counted : AreCounted (length chunks) chunks → c.first ≡ x.first
        → AreCounted (at + 1) (insert (set chunks at c) (at + 1) b)
    cut_counted counted same_first k d lt =
        let long : at + 1 ≤ length (set chunks at c) =
        (let l = length-set chunks at c in omega (arith, l, listed)) in
        let taken : take k (insert (set chunks at c) (at + 1) b) ≡ take k (set chunks at c) =
        take-append-le k (take (at + 1) (set chunks at c)) (b ∷ drop (at + 1) (set chunks at c))
        (let l = length-take (at + 1) (set chunks at c) in omega (arith, l, long, lt))
        ∙ take-take k (at + 1) (set chunks at c) (omega (arith, lt)) in
        ap (λ (o : Chunk T). o.first) (get_or-insert_below (set chunks at c) (at + 1) b d k lt long)
        ∙ counted_upto chunks at listed counted x is_x c same_first k d lt
        ∙ ap (λ (cs : List (Chunk T)). length (items_in cs)) (sym taken)

    pub cut_long : at + 1 ≤ length (insert (set chunks at c) (at + 1) b)
    cut_long =
        let l = length-set chunks at c in
        let n = length-insert (set chunks at c) (at + 1) b (omega (arith, l, listed)) in
        omega (arith, n, l, listed)
