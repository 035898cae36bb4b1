-- Entries in order: of one page, and of the children of a page.
use Rattle.std.proofs.Common.{◌≡◌, ℕ, zero, suc, ◌+◌, ◌-◌, ◌<◌, ◌≤◌, min, Bool, true, false, not, ◌&&◌, Option, None, Some, List, [], ◌∷◌, ◌++◌, length, map, flat_map, take, drop, slice_index_or, inl, inr, refl, sym, ap, ap₂, ◌∙◌, arith, append_assoc, length-drop}
use Rattle.std.proofs.lemmas.Bool.{cases_lt}
use Rattle.std.proofs.Math.Seq.{drop-cons, take-suc}
use Rattle.std.proofs.lemmas.List.{append-nil, drop-drop, get_or-drop, map-append, take-append-drop}
use Rattle.std.proofs.lemmas.Grind.{flat_map-append}
use Rattle.hy_trees.specs.Nodes.{Item, Node, no_item, node_at}
use Rattle.hy_trees.specs.Trees.{BeginsFrom, IsSubtree, entries_under, is_less_bytes}
use Rattle.hy_trees.specs.Searches.{between, first_from, is_between, is_from}
use Rattle.hy_trees.proofs.PartLaws.{IsFrom-trans}
use Rattle.hy_trees.proofs.PlaceLaws.{split_at}
use Rattle.hy_trees.proofs.RangeLaws.{between-children, between-no_child}
use Rattle.hy_trees.proofs.SearchLaws.{between-nothing}
use Rattle.hy_joins.specs.of_nodes.Nodes.{first_items, item_at, item_count, items_of, key_at}
use Rattle.hy_joins.specs.of_nodes.Places.{IsBound, IsSought, is_below_at}
use Rattle.hy_joins.proofs.of_nodes.SequenceLaws.{filter-run, find-first, find-none, first_items-more}

never : (b : Bool) → (b && false) ≡ false
never true = refl
never false = refl

-- the first item of a page from a key on
module _ (kw : ℕ) (page key : List ℕ) (place : ℕ) (is_there : Bool) (sought : IsSought kw page key place is_there) where
  pub first-in : place < item_count page → first_from key (items_of kw page) ≡ Some (item_at kw page place)
  first-in within = find-first (is_from key) (item_at kw page) (item_count page) place within (λ k before. ap not (sought.bound.before k before)) (ap not (sought.bound.behind place (omega arith) within))

  pub first-out : item_count page ≤ place → first_from key (items_of kw page) ≡ None
  first-out past = find-none (is_from key) (item_at kw page) (item_count page) (λ k within. ap not (sought.bound.before k (omega (arith, within, past))))

-- the items of a page between two keys
pub between-in : (kw : ℕ) (page low high : List ℕ) (from to : ℕ) (from_there : Bool) → IsSought kw page low from from_there → IsBound (is_below_at kw page high) (item_count page) to
    → between low high (items_of kw page) ≡ first_items (λ k. item_at kw page (from + k)) (to - from)
between-in kw page low high from to from_there first last =
    filter-run (is_between low high) (item_at kw page) from to (item_count page)
    (λ k within before. ap (λ (b : Bool). not b && is_less_bytes (key_at kw page k) high) (first.bound.before k before))
    (λ k within behind before. ap₂ (λ (b : Bool) (c : Bool). not b && c) (first.bound.behind k behind within) (last.before k before))
    (λ k within behind. ap (λ (c : Bool). is_from low (item_at kw page k) && c) (last.behind k behind within) ∙ never (is_from low (item_at kw page k)))
    ∙ ap (first_items (λ k. item_at kw page (from + k))) (let all : min to (item_count page) - from ≡ to - from = omega (arith, last.within) in all)

-- one more item was appended
pub pushed : {X Y : Type 0} (f : X → Y) (old now : List Y) (item : ℕ → X) (from k : ℕ) (y : Y) → from ≤ k → now ≡ old ++ map f (first_items (λ i. item (from + i)) (k - from)) → y ≡ f (item k)
    → now ++ (y ∷ []) ≡ old ++ map f (first_items (λ i. item (from + i)) (k + 1 - from))
pushed f old now item from k y within is_now is_y =
    let before = first_items (λ i. item (from + i)) (k - from) in
    ap₂ (λ front last. front ++ (last ∷ [])) is_now is_y
    ∙ append_assoc old (map f before) (f (item k) ∷ [])
    ∙ ap (λ all. old ++ all) (sym (map-append f before (item k ∷ [])) ∙ ap (map f) (first_items-more item from k before (item k) within refl refl))

-- what stands for the children from one place on, and for one more
pub one_child_more : {Y : Type 0} (h : Item → List Y) (items : List Item) (from k : ℕ) → from ≤ k → k < length items
    → flat_map h (take (k + 1 - from) (drop from items)) ≡ flat_map h (take (k - from) (drop from items)) ++ h (slice_index_or items k no_item)
one_child_more h items from k within below =
    let next : k + 1 - from ≡ suc (k - from) = omega (arith, within) in
    let place : from + (k - from) ≡ k = omega (arith, within) in
    ap (λ (count : ℕ). flat_map h (take count (drop from items))) next
    ∙ ap (flat_map h) (take-suc (drop from items) (k - from) no_item (omega (arith, length-drop from items, within, below)))
    ∙ flat_map-append h (take (k - from) (drop from items)) (slice_index_or (drop from items) (k - from) no_item ∷ [])
    ∙ ap (λ (last : List _). flat_map h (take (k - from) (drop from items)) ++ last) (append-nil (h (slice_index_or (drop from items) (k - from) no_item)) ∙ ap h (get_or-drop from items (k - from) no_item ∙ ap (λ (at : ℕ). slice_index_or items at no_item) place))

-- those of one more child were appended
pub more : {Y : Type 0} (f : Item → Y) (old now : List Y) (h : Item → List Item) (items : List Item) (from k : ℕ) → from ≤ k → k < length items → now ≡ old ++ map f (flat_map h (take (k - from) (drop from items)))
    → (here : List Item) → here ≡ h (slice_index_or items k no_item) → now ++ map f here ≡ old ++ map f (flat_map h (take (k + 1 - from) (drop from items)))
more f old now h items from k within below is_now here is_here =
    let before = flat_map h (take (k - from) (drop from items)) in
    ap₂ (λ front last. front ++ map f last) is_now is_here
    ∙ append_assoc old (map f before) (map f (h (slice_index_or items k no_item)))
    ∙ ap (λ all. old ++ all) (sym (map-append f before (h (slice_index_or items k no_item))) ∙ ap (map f) (sym (one_child_more h items from k within below)))

-- items behind a place begin from a key where the first of them does
begins-at : (items : List Item) (to : ℕ) (end : List ℕ) → (to < length items → is_less_bytes (slice_index_or items to no_item).key end ≡ false) → BeginsFrom end (drop to items)
begins-at [] zero end at_end = tt
begins-at [] (suc to) end at_end = tt
begins-at (item ∷ items) zero end at_end = at_end (omega arith)
begins-at (item ∷ items) (suc to) end at_end = begins-at items to end (λ within. at_end (omega (arith, within)))

-- from one place to another
run-is : (items : List Item) (from to : ℕ) → from < to → from < length items → take (to - from) (drop from items) ≡ slice_index_or items from no_item ∷ take (to - suc from) (drop (suc from) items)
run-is items from to before within =
    let more : to - from ≡ suc (to - suc from) = omega (arith, before) in
    ap (λ (count : ℕ). take count (drop from items)) more
    ∙ ap (take (suc (to - suc from))) (drop-cons items from no_item within)

run-whole : (items : List Item) (from to : ℕ) → from < to → from < length items → items ≡ take from items ++ (slice_index_or items from no_item ∷ (take (to - suc from) (drop (suc from) items) ++ drop to items))
run-whole items from to before within =
    let rest = drop (suc from) items in
    let at : suc from + (to - suc from) ≡ to = omega (arith, before) in
    split_at items from within
    ∙ ap (λ (all : List Item). take from items ++ (slice_index_or items from no_item ∷ all))
    (sym (take-append-drop (to - suc from) rest) ∙ ap (λ (behind : List Item). take (to - suc from) rest ++ behind) (drop-drop (to - suc from) (suc from) items ∙ ap (λ (n : ℕ). drop n items) at))

module _ (nodes : List Node) (fewest most : ℕ) (some : 0 < fewest) (depth top : ℕ) (low : List ℕ) (high : Option (List ℕ)) (page : ℕ) (tree : IsSubtree nodes fewest most (suc depth) top low high page) where
  abbrev items : List Item
  items = (node_at nodes page).items

  -- the entries between two keys are those of the children from the place of one to that of the other
  pub between-places : (start end : List ℕ) (from to : ℕ) → from < length items → to ≤ length items
      → (0 < from → is_less_bytes start (slice_index_or items from no_item).key ≡ false)
      → (to ≤ from → is_less_bytes (slice_index_or items from no_item).key end ≡ false)
      → (to < length items → is_less_bytes (slice_index_or items to no_item).key end ≡ false)
      → between start end (entries_under nodes (suc depth) page) ≡ flat_map (λ (i : Item). between start end (entries_under nodes depth i.number)) (take (to - from) (drop from items))
  between-places start end from to within bound from_start past at_end = elim (cases_lt from to) [
    | inl before ↦
        between-children nodes fewest most some depth top low high page tree start end (take from items) (slice_index_or items from no_item) (take (to - suc from) (drop (suc from) items)) (drop to items)
        (run-whole items from to before within)
        (λ front. from_start (some_place items from front))
        (begins-at items to end at_end)
        ∙ ap (flat_map (λ (i : Item). between start end (entries_under nodes depth i.number))) (sym (run-is items from to before within))
    | inr behind ↦
        nothing from behind from_start (past behind)
        ∙ ap (λ (count : ℕ). flat_map (λ (i : Item). between start end (entries_under nodes depth i.number)) (take count (drop from items))) (let none : 0 ≡ to - from = omega (arith, behind) in none)
  ]
    where
      some_place : (items : List Item) (place : ℕ) → 0 < length (take place items) → 0 < place
      some_place items zero front = absurd (omega (arith, front))
      some_place items (suc place) front = omega arith

      nothing : (at : ℕ) → to ≤ at → (0 < at → is_less_bytes start (slice_index_or items at no_item).key ≡ false) → is_less_bytes (slice_index_or items at no_item).key end ≡ false → between start end (entries_under nodes (suc depth) page) ≡ []
      nothing zero behind above beyond = between-no_child nodes fewest most some depth top low high page tree start end (begins-at items 0 end (λ within. beyond))
      nothing (suc at) behind above beyond = between-nothing start end (entries_under nodes (suc depth) page) (IsFrom-trans end (slice_index_or items (suc at) no_item).key start beyond (above (omega arith)))
