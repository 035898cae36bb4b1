-- The first entry from a key on under a page, and the entries between two keys, by those under its children.
use Rattle.std.proofs.Common.{◌≡◌, ℕ, zero, suc, ◌+◌, ◌-◌, ◌<◌, Bool, true, false, Option, None, Some, List, [], ◌∷◌, length, flat_map, take, drop, slice_index_or, refl, sym, ap, ◌∙◌, subst, arith}
use Rattle.std.specs.Prelude.{IsSome}
use Rattle.std.specs.Option.{is_some, option_map}
use Rattle.std.proofs.lemmas.Bool.{false≢true}
use Rattle.hy_space.specs.Space.{SpaceState, IsSound}
use Rattle.hy_trees.specs.Nodes.{Item, Node, capacity, least_items, no_item, node_at}
use Rattle.hy_trees.specs.Trees.{IsBelow, IsSubtree, entries_under, is_less_bytes, next_key}
use Rattle.hy_trees.specs.Searches.{between, first_from}
use Rattle.hy_trees.proofs.PlaceLaws.{next_key-at, split_at}
use Rattle.hy_trees.proofs.RangeLaws.{first_from-child, first_from-next, first_from-none}
use Rattle.hy_joins.specs.of_nodes.declared.pages.Tree.{Tree}
use Rattle.hy_joins.specs.of_nodes.Nodes.{item_at, item_count, number_at}
use Rattle.hy_joins.specs.of_nodes.Pages.{nodes_in, page_in}
use Rattle.hy_joins.specs.of_nodes.Places.{IsBound, IsChildPlace, is_below_at}
use Rattle.hy_joins.proofs.of_nodes.ReachLaws.{some_least}
use Rattle.hy_index.specs.Parts.{IsPartAt}
use Rattle.hy_index.proofs.PartLaws.{part-count, part-item}
use Rattle.hy_index.proofs.RunLaws.{between-places}

-- what a test of a result says
pub some-of : {X Y : Type 0} (f : X → Y) (found : Option X) (is : Bool) → is ≡ is_some (option_map f found) → is ≡ true → IsSome found
some-of f None is test is_here = absurd (false≢true (sym test ∙ is_here))
some-of f (Some x) is test is_here = refl

pub none-of : {X Y : Type 0} (f : X → Y) (found : Option X) (is : Bool) → is ≡ is_some (option_map f found) → is ≡ false → found ≡ None
none-of f None is test isnt = refl
none-of f (Some x) is test isnt = absurd (false≢true (sym isnt ∙ test))

module _ (nodes : List Node) (fewest most : ℕ) (some : 0 < fewest) (depth top : ℕ) (low : List ℕ) (high : Option (List ℕ)) (page : ℕ) (tree : IsSubtree nodes fewest most (suc depth) top low high page)
    (key : List ℕ) (place : ℕ) (within : place < length (node_at nodes page).items)
    (from : 0 < place → is_less_bytes key (slice_index_or (node_at nodes page).items place no_item).key ≡ false)
    (above : place + 1 < length (node_at nodes page).items → is_less_bytes key (slice_index_or (node_at nodes page).items (place + 1) no_item).key ≡ true) where
  abbrev items : List Item
  items = (node_at nodes page).items

  abbrev here : Option Item
  here = first_from key (entries_under nodes depth (slice_index_or items place no_item).number)

  below : IsBelow (next_key (drop (suc place) items) None) key
  below = next_key-at items (suc place) None key tt (λ more. ap (λ (at : ℕ). is_less_bytes key (slice_index_or items at no_item).key) (let same : suc place ≡ place + 1 = omega arith in same) ∙ above (omega (arith, more)))

  front : 0 < length (take place items) → is_less_bytes key (slice_index_or items place no_item).key ≡ false
  front some_front = from (by items place some_front)
    where
      by : (xs : List Item) (at : ℕ) → 0 < length (take at xs) → 0 < at
      by xs zero none = absurd (omega (arith, none))
      by xs (suc at) more = omega arith

  pub first-here : IsSome here → first_from key (entries_under nodes (suc depth) page) ≡ here
  first-here is = by here refl is
    where
      by : (found : Option Item) → here ≡ found → IsSome found → first_from key (entries_under nodes (suc depth) page) ≡ found
      by None same none = absurd (false≢true none)
      by (Some x) same is_here = first_from-child nodes fewest most some depth top low high page tree key (take place items) (slice_index_or items place no_item) (drop (suc place) items) (split_at items place within) front below x same

  pub first-last : place + 1 ≡ length items → here ≡ None → first_from key (entries_under nodes (suc depth) page) ≡ None
  first-last last none = first_from-none nodes fewest most some depth top low high page tree key (take place items) (slice_index_or items place no_item) (drop (suc place) items) (split_at items place within) front below (nothing items place last) none
    where
      nothing : (xs : List Item) (at : ℕ) → at + 1 ≡ length xs → drop (suc at) xs ≡ []
      nothing [] at same = absurd (omega (arith, same))
      nothing (x ∷ []) zero same = refl
      nothing (x ∷ y ∷ xs) zero same = absurd (omega (arith, same))
      nothing (x ∷ xs) (suc at) same = nothing xs at (omega (arith, same))

  pub first-next : place + 1 < length items → here ≡ None → first_from key (entries_under nodes (suc depth) page) ≡ first_from key (entries_under nodes depth (slice_index_or items (place + 1) no_item).number)
  first-next more none =
      let next : suc place ≡ place + 1 = omega arith in
      first_from-next nodes fewest most some depth top low high page tree key (take place items) (slice_index_or items place no_item) (drop (suc place) items) (split_at items place within) front below
      (slice_index_or items (suc place) no_item) (drop (suc (suc place)) items) (begins items (suc place) (omega (arith, more))) none
      ∙ ap (λ (at : ℕ). first_from key (entries_under nodes depth (slice_index_or items at no_item).number)) next
    where
      begins : (xs : List Item) (at : ℕ) → at < length xs → drop at xs ≡ slice_index_or xs at no_item ∷ drop (suc at) xs
      begins [] at inside = absurd (omega (arith, inside))
      begins (x ∷ xs) zero inside = refl
      begins (x ∷ xs) (suc at) inside = begins xs at (omega (arith, inside))

module _ (n : ℕ) (space : SpaceState) (tree : Tree) (there : tree.segment < length space.owner) (sound : IsSound n space) (page : ℕ) (whole : List ℕ) (is : whole ≡ page_in space tree page) where
  abbrev nodes : List Node
  nodes = nodes_in space tree

  module _ (key : List ℕ) (place : ℕ) (at : IsChildPlace tree.key_bytes whole key place) where
    module _ (depth : ℕ) (part : IsPartAt n space tree (suc depth) page) where
      count : length (node_at nodes page).items ≡ item_count whole
      count = part-count n space tree there sound (suc depth) page part whole is

      item : (k : ℕ) → k < item_count whole → slice_index_or (node_at nodes page).items k no_item ≡ item_at tree.key_bytes whole k
      item k within = part-item n space tree there sound (suc depth) page part whole is k within

      within : place < length (node_at nodes page).items
      within = omega (arith, at.within, count)

      from : 0 < place → is_less_bytes key (slice_index_or (node_at nodes page).items place no_item).key ≡ false
      from some = ap (λ (i : Item). is_less_bytes key i.key) (item place at.within) ∙ at.from some

      above : place + 1 < length (node_at nodes page).items → is_less_bytes key (slice_index_or (node_at nodes page).items (place + 1) no_item).key ≡ true
      above more = ap (λ (i : Item). is_less_bytes key i.key) (item (place + 1) (omega (arith, more, count))) ∙ at.behind (place + 1) (omega arith) (omega (arith, more, count))

      same : (k : ℕ) → k < item_count whole → first_from key (entries_under nodes depth (slice_index_or (node_at nodes page).items k no_item).number) ≡ first_from key (entries_under nodes depth (number_at tree.key_bytes whole k))
      same k inside = ap (λ (i : Item). first_from key (entries_under nodes depth i.number)) (item k inside)

      pub here-suc : IsSome (first_from key (entries_under nodes depth (number_at tree.key_bytes whole place))) → first_from key (entries_under nodes (suc depth) page) ≡ first_from key (entries_under nodes depth (number_at tree.key_bytes whole place))
      here-suc is_here =
          first-here nodes (least_items n tree.key_bytes) (capacity n tree.key_bytes) (some_least n tree.key_bytes) depth part.top part.low part.high page part.subtree key place within from above (subst IsSome (sym (same place at.within)) is_here)
          ∙ same place at.within

      pub last-suc : place + 1 ≡ item_count whole → first_from key (entries_under nodes depth (number_at tree.key_bytes whole place)) ≡ None → first_from key (entries_under nodes (suc depth) page) ≡ None
      last-suc last none =
          first-last nodes (least_items n tree.key_bytes) (capacity n tree.key_bytes) (some_least n tree.key_bytes) depth part.top part.low part.high page part.subtree key place within from above (omega (arith, last, count)) (same place at.within ∙ none)

      pub next-suc : place + 1 < item_count whole → first_from key (entries_under nodes depth (number_at tree.key_bytes whole place)) ≡ None → first_from key (entries_under nodes (suc depth) page) ≡ first_from key (entries_under nodes depth (number_at tree.key_bytes whole (place + 1)))
      next-suc more none =
          first-next nodes (least_items n tree.key_bytes) (capacity n tree.key_bytes) (some_least n tree.key_bytes) depth part.top part.low part.high page part.subtree key place within from above (omega (arith, more, count)) (same place at.within ∙ none)
          ∙ same (place + 1) more

    -- at any depth that isn't that of a leaf
    abbrev First : ℕ → ℕ → Option Item
    First depth q = first_from key (entries_under nodes depth q)

    pub under-here : (depth : ℕ) → 0 < depth → IsPartAt n space tree depth page → IsSome (First (depth - 1) (number_at tree.key_bytes whole place)) → First depth page ≡ First (depth - 1) (number_at tree.key_bytes whole place)
    under-here zero inner part is_here = absurd (omega (arith, inner))
    under-here (suc depth) inner part is_here =
        let less : suc depth - 1 ≡ depth = omega arith in
        here-suc depth part (subst (λ (d : ℕ). IsSome (First d (number_at tree.key_bytes whole place))) less is_here) ∙ ap (λ (d : ℕ). First d (number_at tree.key_bytes whole place)) (sym less)

    pub under-last : (depth : ℕ) → 0 < depth → IsPartAt n space tree depth page → place + 1 ≡ item_count whole → First (depth - 1) (number_at tree.key_bytes whole place) ≡ None → First depth page ≡ None
    under-last zero inner part last none = absurd (omega (arith, inner))
    under-last (suc depth) inner part last none =
        let less : depth ≡ suc depth - 1 = omega arith in
        last-suc depth part last (ap (λ (d : ℕ). First d (number_at tree.key_bytes whole place)) less ∙ none)

    pub under-next : (depth : ℕ) → 0 < depth → IsPartAt n space tree depth page → place + 1 < item_count whole → First (depth - 1) (number_at tree.key_bytes whole place) ≡ None → First depth page ≡ First (depth - 1) (number_at tree.key_bytes whole (place + 1))
    under-next zero inner part more none = absurd (omega (arith, inner))
    under-next (suc depth) inner part more none =
        let less : depth ≡ suc depth - 1 = omega arith in
        next-suc depth part more (ap (λ (d : ℕ). First d (number_at tree.key_bytes whole place)) less ∙ none) ∙ ap (λ (d : ℕ). First d (number_at tree.key_bytes whole (place + 1))) less

  -- the entries between two keys
  abbrev Between : List ℕ → List ℕ → ℕ → Item → List Item
  Between low high depth i = between low high (entries_under nodes depth i.number)

  pub under-between : (low high : List ℕ) (from to : ℕ) → IsChildPlace tree.key_bytes whole low from → IsBound (is_below_at tree.key_bytes whole high) (item_count whole) to → (depth : ℕ) → 0 < depth → IsPartAt n space tree depth page
      → between low high (entries_under nodes depth page) ≡ flat_map (Between low high (depth - 1)) (take (to - from) (drop from (node_at nodes page).items))
  under-between low high from to first last zero inner part = absurd (omega (arith, inner))
  under-between low high from to first last (suc depth) inner part =
      let less : depth ≡ suc depth - 1 = omega arith in
      let count = part-count n space tree there sound (suc depth) page part whole is in
      let item = part-item n space tree there sound (suc depth) page part whole is in
      between-places nodes (least_items n tree.key_bytes) (capacity n tree.key_bytes) (some_least n tree.key_bytes) depth part.top part.low part.high page part.subtree low high from to
      (omega (arith, first.within, count)) (omega (arith, last.within, count))
      (λ some. ap (λ (i : Item). is_less_bytes low i.key) (item from first.within) ∙ first.from some)
      (λ past. ap (λ (i : Item). is_less_bytes i.key high) (item from first.within) ∙ last.behind from past first.within)
      (λ more. ap (λ (i : Item). is_less_bytes i.key high) (item to (omega (arith, more, count))) ∙ last.behind to (omega arith) (omega (arith, more, count)))
      ∙ ap (λ (d : ℕ). flat_map (Between low high d) (take (to - from) (drop from (node_at nodes page).items))) less
