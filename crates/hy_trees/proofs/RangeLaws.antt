-- What the entries under a page have between two keys, and the first one from a key on, by the page's children.
use Rattle.std.proofs.Common.{◌≡◌, ℕ, suc, ◌<◌, List, [], ◌∷◌, ◌++◌, length, Option, None, Some, refl, ap, sym, subst, ◌∙◌, arith}
use Rattle.std.proofs.Math.Path.{ap₂}
use Rattle.std.specs.List.{AllByRecursion, find, flat_map}
use Rattle.std.proofs.lemmas.List.{append-nil, append_assoc}
use Rattle.hy_trees.specs.Nodes.{Item, Node, node_at}
use Rattle.hy_trees.specs.Trees.{BeginsFrom, HasParts, IsBelow, IsFrom, IsSubtree, entries_below, entries_under, next_key}
use Rattle.hy_trees.specs.Leaves.{AreBelow, LeadsToLeaf}
use Rattle.hy_trees.specs.Searches.{between, first_from, is_at, is_from, with_item, without}
use Rattle.hy_trees.proofs.OrderLaws.{less-one_way}
use Rattle.hy_trees.proofs.LiftLaws.{HasParts-behind, HasParts-front, entries_under-child}
use Rattle.hy_trees.proofs.GroupLaws.{entries_under-three}
use Rattle.hy_trees.proofs.PartLaws.{IsFrom-trans}
use Rattle.hy_trees.proofs.RiseLaws.{AllByRecursion-weaker, all-from, entries_below-begin, entries_below-rise, entries_under-some}
use Rattle.hy_trees.proofs.SearchLaws.{between-append, between-behind, between-below, between-flat_map, find-append_none, find-append_some, find-at, first_from-all, first_from-below, with_item-part, without-part}
use Rattle.hy_trees.proofs.LeafLaws.{AreBelow-before}

-- ---- one key

module _ (nodes : List Node) (fewest most depth top : ℕ) (low : List ℕ) (high : Option (List ℕ)) (page : ℕ)
    (key : List ℕ) (leaf : ℕ) (leads : LeadsToLeaf nodes fewest most depth top low high page key leaf) where
  -- a key is found in its leaf
  pub find-leaf : find (is_at key) (entries_under nodes depth page) ≡ find (is_at key) (node_at nodes leaf).items
  find-leaf =
      ap (find (is_at key)) leads.entries
      ∙ find-at key leads.front (node_at nodes leaf).items leads.behind leads.less leads.greater

  pub with_item-leaf : (number : ℕ) → with_item key number (entries_under nodes depth page)
      ≡ leads.front ++ (with_item key number (node_at nodes leaf).items ++ leads.behind)
  with_item-leaf number =
      ap (with_item key number) leads.entries
      ∙ with_item-part key number leads.front (node_at nodes leaf).items leads.behind leads.less leads.greater

  pub without-leaf : without key (entries_under nodes depth page)
      ≡ leads.front ++ (without key (node_at nodes leaf).items ++ leads.behind)
  without-leaf =
      ap (without key) leads.entries
      ∙ without-part key leads.front (node_at nodes leaf).items leads.behind leads.less leads.greater

-- ---- some children

module _ (nodes : List Node) (fewest most : ℕ) (some : 0 < fewest) (depth top : ℕ) (low : List ℕ)
    (high : Option (List ℕ)) (page : ℕ) (tree : IsSubtree nodes fewest most (suc depth) top low high page) where
  parts : (items : List Item) → (node_at nodes page).items ≡ items
      → HasParts (IsSubtree nodes fewest most depth fewest) items high
  parts items is = subst (λ i. HasParts (IsSubtree nodes fewest most depth fewest) i high) is tree.parts

  -- the entries under the children before one whose key isn't above another key are below that
  pub AreBelow-children : (key : List ℕ) (before : List Item) (item : Item) (behind : List Item)
      → (node_at nodes page).items ≡ before ++ (item ∷ behind) → (0 < length before → IsFrom item.key key)
      → AreBelow key (entries_below nodes depth before)
  AreBelow-children key [] item behind is above = tt
  AreBelow-children key (first ∷ before) item behind is above =
      AreBelow-before nodes fewest most some depth key (first ∷ before) item (above (omega arith))
      (HasParts-front (IsSubtree nodes fewest most depth fewest) (first ∷ before) (item ∷ behind) high
      (parts (first ∷ before ++ (item ∷ behind)) is))

  all-from_children : (bound : List ℕ) (before behind : List Item)
      → (node_at nodes page).items ≡ before ++ behind → BeginsFrom bound behind
      → AllByRecursion (λ (i : Item). IsFrom bound i.key) (entries_below nodes depth behind)
  all-from_children bound before [] is from = tt
  all-from_children bound before (item ∷ behind) is from =
      let subtrees = HasParts-behind (IsSubtree nodes fewest most depth fewest) before (item ∷ behind) high
      (parts (before ++ (item ∷ behind)) is) in
      AllByRecursion-weaker (λ (i : Item). IsFrom item.key i.key) (λ (i : Item). IsFrom bound i.key)
      (entries_below nodes depth (item ∷ behind)) (λ i is_from. IsFrom-trans bound item.key i.key from is_from)
      (all-from item.key (entries_below nodes depth (item ∷ behind)) high
      (entries_below-begin nodes fewest most some depth item behind high subtrees)
      (entries_below-rise nodes fewest most some depth (item ∷ behind) high subtrees))

  -- from the child for the lower key to the last one whose key is below the upper one
  pub between-children : (start end : List ℕ) (before : List Item) (item : Item) (middle behind : List Item)
      → (node_at nodes page).items ≡ before ++ (item ∷ middle ++ behind) → (0 < length before → IsFrom item.key start)
      → BeginsFrom end behind
      → between start end (entries_under nodes (suc depth) page)
      ≡ flat_map (λ (i : Item). between start end (entries_under nodes depth i.number)) (item ∷ middle)
  between-children start end before item middle behind is above from =
      ap (between start end) (entries_under-three nodes depth page before (item ∷ middle) behind is)
      ∙ between-append start end (entries_below nodes depth before)
      (entries_below nodes depth (item ∷ middle) ++ entries_below nodes depth behind)
      ∙ ap₂ (λ a b. a ++ b)
      (between-below start end (entries_below nodes depth before)
      (AreBelow-children start before item (middle ++ behind) is above))
      (between-append start end (entries_below nodes depth (item ∷ middle)) (entries_below nodes depth behind)
      ∙ ap₂ (λ a b. a ++ b)
      (between-flat_map start end (λ (i : Item). entries_under nodes depth i.number) (item ∷ middle))
      (between-behind start end (entries_below nodes depth behind) (all-behind before is))
      ∙ append-nil (flat_map (λ (i : Item). between start end (entries_under nodes depth i.number)) (item ∷ middle)))
    where
      all-behind : (front : List Item) → (node_at nodes page).items ≡ front ++ (item ∷ middle ++ behind)
          → AllByRecursion (λ (i : Item). IsFrom end i.key) (entries_below nodes depth behind)
      all-behind front at =
          all-from_children end (front ++ (item ∷ middle)) behind (at ∙ sym (append_assoc front (item ∷ middle) behind)) from

  -- where no child's key is below the upper key, no entry is
  pub between-no_child : (start end : List ℕ) → BeginsFrom end (node_at nodes page).items
      → between start end (entries_under nodes (suc depth) page) ≡ []
  between-no_child start end from =
      between-behind start end (entries_under nodes (suc depth) page)
      (all-from_children end [] (node_at nodes page).items refl from)

  -- ---- the first entry from a key on

  module _ (key : List ℕ) (before : List Item) (item : Item) (behind : List Item)
      (is : (node_at nodes page).items ≡ before ++ (item ∷ behind)) (above : 0 < length before → IsFrom item.key key)
      (below : IsBelow (next_key behind None) key) where
    from-child : first_from key (entries_under nodes (suc depth) page)
        ≡ first_from key (entries_under nodes depth item.number ++ entries_below nodes depth behind)
    from-child =
        ap (first_from key) (entries_under-child nodes depth page before item behind is)
        ∙ first_from-below key (entries_below nodes depth before)
        (entries_under nodes depth item.number ++ entries_below nodes depth behind)
        (AreBelow-children key before item behind is above)

    -- it stands under the child for the key
    pub first_from-child : (found : Item) → first_from key (entries_under nodes depth item.number) ≡ Some found
        → first_from key (entries_under nodes (suc depth) page) ≡ Some found
    first_from-child found here =
        from-child
        ∙ find-append_some (is_from key) (entries_under nodes depth item.number) (entries_below nodes depth behind) found here

    from-behind : first_from key (entries_under nodes depth item.number) ≡ None
        → first_from key (entries_under nodes (suc depth) page) ≡ first_from key (entries_below nodes depth behind)
    from-behind none =
        from-child
        ∙ find-append_none (is_from key) (entries_under nodes depth item.number) (entries_below nodes depth behind) none

    -- there is none, and no child behind it
    pub first_from-none : behind ≡ [] → first_from key (entries_under nodes depth item.number) ≡ None
        → first_from key (entries_under nodes (suc depth) page) ≡ None
    first_from-none last none = from-behind none ∙ ap (λ b. first_from key (entries_below nodes depth b)) last

    -- it is the first one under the next child
    pub first_from-next : (next : Item) (rest : List Item) → behind ≡ next ∷ rest
        → first_from key (entries_under nodes depth item.number) ≡ None
        → first_from key (entries_under nodes (suc depth) page) ≡ first_from key (entries_under nodes depth next.number)
    first_from-next next rest last none =
        from-behind none ∙ ap (λ b. first_from key (entries_below nodes depth b)) last
        ∙ first_from-all key (entries_under nodes depth next.number) (entries_below nodes depth rest) more.0
        (AllByRecursion-weaker (λ (i : Item). IsFrom next.key i.key) (λ (i : Item). IsFrom key i.key)
        (entries_under nodes depth next.number)
        (λ i from. IsFrom-trans key next.key i.key
        (less-one_way key next.key (subst (λ b. IsBelow (next_key b None) key) last below)) from)
        (all-from next.key (entries_under nodes depth next.number) (next_key rest high) more.1 more.2))
      where
        subtrees : HasParts (IsSubtree nodes fewest most depth fewest) (next ∷ rest) high
        subtrees =
            subst (λ b. HasParts (IsSubtree nodes fewest most depth fewest) b high) last
            (HasParts-behind (IsSubtree nodes fewest most depth fewest) before (item ∷ behind) high
            (parts (before ++ (item ∷ behind)) is)).1

        more : (0 < length (entries_under nodes depth next.number))
            × BeginsFrom next.key (entries_under nodes depth next.number)
            × HasParts (λ k n number. IsBelow n k) (entries_under nodes depth next.number) (next_key rest high)
        more = entries_under-some nodes fewest most some depth next.number next.key (next_key rest high) subtrees.0
