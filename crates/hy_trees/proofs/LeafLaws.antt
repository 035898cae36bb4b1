-- The leaf to which a key leads, and another leaf in its place.
use Rattle.std.proofs.Common.{◌≡◌, ◌≢◌, ℕ, zero, suc, ◌+◌, ◌<◌, ◌≤◌, true, false, cond, List, [], ◌∷◌, ◌++◌, length, Option, Some, refl, ap, sym, subst, ◌∙◌, arith}
use Rattle.std.proofs.lemmas.List.{append-nil, append_assoc}
use Rattle.hy_trees.specs.Nodes.{Item, Node, node_at}
use Rattle.hy_trees.specs.Trees.{BeginsWith, HasParts, IsBelow, IsFrom, IsLeaf, IsSubtree, KeepItems, child_for, times, entries_below, first_number, is_less_bytes, leaf_for, next_key, pages_below, pages_under, same_as}
use Rattle.hy_trees.specs.Leaves.{AreAbove, AreBelow, LeadsToLeaf, leaf_least}
use Rattle.hy_trees.proofs.CountLaws.{times-append, times-first, same_as-same}
use Rattle.hy_trees.proofs.LiftLaws.{HasParts-behind, HasParts-front, IsSubtree-child, IsSubtree-of_child, times-child, entries_under-child, entries_under-of_child, pages_under-of_child, times-split}
use Rattle.hy_trees.proofs.PartLaws.{IsBelow-from}
use Rattle.hy_trees.proofs.RiseLaws.{AllByRecursion-append, AllByRecursion-weaker, all-below, all-from, entries_below-begin, entries_below-rise}

-- ---- the child to which a key leads

pub record LeadsToChild (key : List ℕ) (items : List Item) (high : Option (List ℕ)) (child : ℕ) : Type 0 where
  pub before : List Item
  pub item : Item
  pub behind : List Item
  pub items_are : items ≡ before ++ (item ∷ behind)
  pub number : child ≡ item.number
  pub above : IsFrom item.key key
  pub below : IsBelow (next_key behind high) key

child-behind : (key : List ℕ) (first : Item) (items : List Item) (high : Option (List ℕ)) → IsFrom first.key key
    → IsBelow high key → LeadsToChild key (first ∷ items) high (child_for key first.number items)
child-behind key first [] high above below = record {
  before = [];
  item = first;
  behind = [];
  items_are = refl;
  number = refl;
  above = above;
  below = below;
}
child-behind key first (next ∷ items) high above below =
    elim (is_less_bytes key next.key) as (λ b. is_less_bytes key next.key ≡ b
    → LeadsToChild key (first ∷ (next ∷ items)) high (cond b first.number (child_for key next.number items))) [
      | true ↦ λ less. record {
        before = [];
        item = first;
        behind = next ∷ items;
        items_are = refl;
        number = refl;
        above = above;
        below = less;
      }
      | false ↦ λ not_less.
          let rest = child-behind key next items high not_less below in record {
            before = first ∷ rest.before;
            item = rest.item;
            behind = rest.behind;
            items_are = ap (λ i. first ∷ i) rest.items_are;
            number = rest.number;
            above = rest.above;
            below = rest.below;
          }
    ] refl

pub LeadsToChild-of : (key low : List ℕ) (items : List Item) (high : Option (List ℕ)) → 0 < length items
    → BeginsWith low items → IsFrom low key → IsBelow high key
    → LeadsToChild key items high (child_for key (first_number items) items)
LeadsToChild-of key low [] high some begin above below = absurd (omega (arith, some))
LeadsToChild-of key low (first ∷ items) high some begin above below =
    let from : IsFrom first.key key = subst (λ k. IsFrom k key) (sym begin) above in
    subst (LeadsToChild key (first ∷ items) high)
    (sym (ap (λ b. cond b first.number (child_for key first.number items)) from))
    (child-behind key first items high from below)

-- ---- what stands before a child and behind it

module _ (nodes : List Node) (fewest most : ℕ) (some : 0 < fewest) where
  pub AreBelow-before : (depth : ℕ) (key : List ℕ) (before : List Item) (item : Item) → IsFrom item.key key
      → HasParts (IsSubtree nodes fewest most depth fewest) before (Some item.key)
      → AreBelow key (entries_below nodes depth before)
  AreBelow-before depth key before item above parts =
      AllByRecursion-weaker (λ (i : Item). is_less_bytes i.key item.key ≡ true) (λ (i : Item). is_less_bytes i.key key ≡ true)
      (entries_below nodes depth before) (λ i less. IsBelow-from i.key item.key key less above)
      (all-below (entries_below nodes depth before) (Some item.key)
      (entries_below-rise nodes fewest most some depth before (Some item.key) parts))

  pub AreAbove-behind : (depth : ℕ) (key : List ℕ) (behind : List Item) (high : Option (List ℕ))
      → IsBelow (next_key behind high) key → HasParts (IsSubtree nodes fewest most depth fewest) behind high
      → AreAbove key (entries_below nodes depth behind)
  AreAbove-behind depth key [] high below parts = tt
  AreAbove-behind depth key (next ∷ behind) high below parts =
      AllByRecursion-weaker (λ (i : Item). IsFrom next.key i.key) (λ (i : Item). is_less_bytes key i.key ≡ true)
      (entries_below nodes depth (next ∷ behind)) (λ i from. IsBelow-from key next.key i.key below from)
      (all-from next.key (entries_below nodes depth (next ∷ behind)) high
      (entries_below-begin nodes fewest most some depth next behind high parts)
      (entries_below-rise nodes fewest most some depth (next ∷ behind) high parts))

  joined : (front one leaf two behind : List Item)
      → front ++ ((one ++ (leaf ++ two)) ++ behind) ≡ (front ++ one) ++ (leaf ++ (two ++ behind))
  joined front one leaf two behind = simp append_assoc

  least-below : (depth : ℕ) → leaf_least depth fewest fewest ≡ fewest
  least-below zero = refl
  least-below (suc depth) = refl

  -- one level up
  module _ (depth page top : ℕ) (low : List ℕ) (high : Option (List ℕ)) (key : List ℕ) (leaf : ℕ) (before : List Item)
      (item : Item) (behind : List Item)
      (items : (node_at nodes page).items ≡ before ++ (item ∷ behind))
      (once : (q : ℕ) → times q (pages_under nodes (suc depth) page) ≤ 1)
      (tree : IsSubtree nodes fewest most (suc depth) top low high page)
      (above : IsFrom item.key key) (below : IsBelow (next_key behind high) key)
      (inner : LeadsToLeaf nodes fewest most depth fewest item.key (next_key behind high) item.number key leaf) where
    counted : (q : ℕ) → times q (pages_under nodes (suc depth) page)
        ≡ same_as q page + (times q (pages_below nodes depth before) + (times q (pages_under nodes depth item.number)
        + times q (pages_below nodes depth behind)))
    counted q =
        let all = times-child nodes depth page before item behind items [] q in
        let none = times-append q (pages_under nodes (suc depth) page) [] in
        omega (arith, all, none)

    parts : HasParts (IsSubtree nodes fewest most depth fewest) (before ++ (item ∷ behind)) high
    parts = subst (λ i. HasParts (IsSubtree nodes fewest most depth fewest) i high) items tree.parts

    -- a page that isn't under the child isn't the leaf
    not-leaf : (q : ℕ) → 0 < same_as q page + (times q (pages_below nodes depth before)
        + times q (pages_below nodes depth behind)) → q ≢ leaf
    not-leaf q there same =
        let all = once q in let split = counted q in
        let here = inner.there in
        let at : times q (pages_under nodes depth item.number) ≡ times leaf (pages_under nodes depth item.number) =
        ap (λ k. times k (pages_under nodes depth item.number)) same in
        omega (arith, all, split, here, at, there)

    module _ (new : List Node)
        (same : (q : ℕ) → q ≢ leaf → 0 < times q (pages_under nodes (suc depth) page)
        → (node_at new q).items ≡ (node_at nodes q).items) where
      same-page : (node_at new page).items ≡ (node_at nodes page).items
      same-page =
          let one = same_as-same page in
          same page (not-leaf page (omega (arith, one))) (let split = counted page in omega (arith, split, one))

      keeps-before : KeepItems nodes new (pages_below nodes depth before)
      keeps-before q there =
          same q (not-leaf q (omega (arith, there))) (let split = counted q in omega (arith, split, there))

      keeps-behind : KeepItems nodes new (pages_below nodes depth behind)
      keeps-behind q there =
          same q (not-leaf q (omega (arith, there))) (let split = counted q in omega (arith, split, there))

      same-inner : (q : ℕ) → q ≢ leaf → 0 < times q (pages_under nodes depth item.number)
          → (node_at new q).items ≡ (node_at nodes q).items
      same-inner q differs there = same q differs (let split = counted q in omega (arith, split, there))

    LeadsToLeaf-inner : LeadsToLeaf nodes fewest most (suc depth) top low high page key leaf
    LeadsToLeaf-inner = record {
      front = entries_below nodes depth before ++ inner.front;
      behind = inner.behind ++ entries_below nodes depth behind;
      from = inner.from;
      to = inner.to;
      there = (let split = counted leaf in let here = inner.there in omega (arith, split, here));
      is_leaf = subst (λ n. IsLeaf n most inner.from inner.to (node_at nodes leaf).items) (least-below depth) inner.is_leaf;
      above = inner.above;
      below = inner.below;
      less = AllByRecursion-append (λ (i : Item). is_less_bytes i.key key ≡ true) (entries_below nodes depth before) inner.front
          (AreBelow-before depth key before item above
          (HasParts-front (IsSubtree nodes fewest most depth fewest) before (item ∷ behind) high parts)) inner.less;
      greater = AllByRecursion-append (λ (i : Item). is_less_bytes key i.key ≡ true) inner.behind
          (entries_below nodes depth behind) inner.greater
          (AreAbove-behind depth key behind high below
          (HasParts-behind (IsSubtree nodes fewest most depth fewest) before (item ∷ behind) high parts).1);
      entries = entries_under-child nodes depth page before item behind items
          ∙ ap (λ e. entries_below nodes depth before ++ (e ++ entries_below nodes depth behind)) inner.entries
          ∙ joined (entries_below nodes depth before) inner.front (node_at nodes leaf).items inner.behind
          (entries_below nodes depth behind);
      replaced = λ new same.
          let other = inner.replaced new (same-inner new same) in (
            entries_under-of_child nodes new depth page before item behind items (same-page new same) (keeps-before new same)
                (keeps-behind new same)
                ∙ ap (λ e. entries_below nodes depth before ++ (e ++ entries_below nodes depth behind)) other.0
                ∙ joined (entries_below nodes depth before) inner.front (node_at new leaf).items inner.behind
                (entries_below nodes depth behind),
            λ q.
                let one = counted q in
                let two = times-split q page (pages_under new (suc depth) page) (pages_below nodes depth before)
                (pages_under new depth item.number) (pages_below nodes depth behind) []
                (pages_under-of_child nodes new depth page before item behind items (same-page new same)
                (keeps-before new same) (keeps-behind new same)) in
                let none = times-append q (pages_under new (suc depth) page) [] in
                let three = other.1 q in
                omega (arith, one, two, none, three),
            λ is_leaf.
                IsSubtree-of_child nodes new depth page before item behind items (same-page new same) (keeps-before new same)
                (keeps-behind new same) fewest most top low high tree
                (other.2 (subst (λ n. IsLeaf n most inner.from inner.to (node_at new leaf).items) (sym (least-below depth))
                is_leaf)),
          );
    }

  LeadsToLeaf-leaf : (page top : ℕ) (low : List ℕ) (high : Option (List ℕ)) (key : List ℕ) → IsFrom low key
      → IsBelow high key → IsSubtree nodes fewest most zero top low high page
      → LeadsToLeaf nodes fewest most zero top low high page key page
  LeadsToLeaf-leaf page top low high key above below tree = record {
    front = [];
    behind = [];
    from = low;
    to = high;
    there = times-first page [];
    is_leaf = tree;
    above = above;
    below = below;
    less = tt;
    greater = tt;
    entries = sym (append-nil (node_at nodes page).items);
    replaced = λ new same. (sym (append-nil (node_at new page).items), λ q. refl, λ is_leaf. is_leaf);
  }

  child-once : (depth page : ℕ) (before : List Item) (item : Item) (behind : List Item)
      → (node_at nodes page).items ≡ before ++ (item ∷ behind)
      → ((q : ℕ) → times q (pages_under nodes (suc depth) page) ≤ 1)
      → (q : ℕ) → times q (pages_under nodes depth item.number) ≤ 1
  child-once depth page before item behind items once q =
      let all = times-child nodes depth page before item behind items [] q in
      let none = times-append q (pages_under nodes (suc depth) page) [] in
      let most = once q in
      omega (arith, all, none, most)

  -- a key between the bounds of a page leads to a leaf between bounds of its own
  pub LeadsToLeaf-of : (depth page top : ℕ) (low : List ℕ) (high : Option (List ℕ)) (key : List ℕ)
      → ((q : ℕ) → times q (pages_under nodes depth page) ≤ 1) → IsFrom low key → IsBelow high key
      → (0 < depth → 0 < top) → IsSubtree nodes fewest most depth top low high page
      → LeadsToLeaf nodes fewest most depth top low high page key (leaf_for nodes key depth page)
  LeadsToLeaf-of zero page top low high key once above below root tree =
      LeadsToLeaf-leaf page top low high key above below tree
  LeadsToLeaf-of (suc depth) page top low high key once above below root tree =
      let child = LeadsToChild-of key low (node_at nodes page).items high
      (let least = tree.filled.enough in let two = root (omega arith) in omega (arith, least, two)) tree.begin above below in
      subst (LeadsToLeaf nodes fewest most (suc depth) top low high page key)
      (ap (leaf_for nodes key depth) (sym child.number))
      (LeadsToLeaf-inner depth page top low high key (leaf_for nodes key depth child.item.number) child.before child.item
      child.behind child.items_are once tree child.above child.below
      (LeadsToLeaf-of depth child.item.number fewest child.item.key (next_key child.behind high) key
      (child-once depth page child.before child.item child.behind child.items_are once) child.above child.below
      (λ more. some)
      (IsSubtree-child nodes fewest most depth top low high page child.before child.item child.behind child.items_are tree)))
