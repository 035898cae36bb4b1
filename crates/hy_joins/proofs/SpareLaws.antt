-- What a join of two children, a move of items between them and a root less leave of a tree, and of the way to a key.
use Rattle.std.proofs.Common.{◌≡◌, ◌≢◌, ◌⊎◌, inl, inr, ℕ, zero, suc, ◌+◌, ◌-◌, ◌/◌, ◌<◌, ◌≤◌, true, Option, None, Some, List, [], ◌∷◌, ◌++◌, length, take, drop, slice_index_or, refl, ap, sym, subst, ◌∙◌, arith}
use Rattle.std.proofs.lemmas.Bool.{cases_lt}
use Rattle.std.proofs.lemmas.List.{append_assoc, drop_all, get_or-drop, length-append, length-drop, length-take-le}
use Rattle.hy_trees.specs.Nodes.{Item, Node, no_item}
use Rattle.hy_trees.specs.Trees.{BeginsFrom, BeginsWith, IsBelow, IsFilled, IsFrom, IsSubtree, IsTree, Reshapes, StandOnce, entries_under, has_page, height_of, is_less_bytes, next_key, pages_under, root_least, same_as, times}
use Rattle.hy_trees.specs.Groups.{IsRooted, Lowers}
use Rattle.hy_trees.specs.Leaves.{Leads}
use Rattle.hy_trees.proofs.ChildLaws.{IsSubtree-join, IsSubtree-share, Reshapes-join, Reshapes-share}
use Rattle.hy_trees.proofs.CountLaws.{differs-from_same_as, has_page-le, same_as-same, times-append, within-has_page}
use Rattle.hy_trees.proofs.FillLaws.{share-fills}
use Rattle.hy_trees.proofs.LeadsLaws.{IsRooted-leads, Leads-child, StandOnce-leads, child-not_root}
use Rattle.hy_trees.proofs.LiftLaws.{HasParts-behind, IsSubtree-child}
use Rattle.hy_trees.proofs.ListLaws.{split_at, split_at_two}
use Rattle.hy_trees.proofs.NumberLaws.{length-pages_all}
use Rattle.hy_trees.proofs.PartLaws.{IsBelow-from, IsFrom-below, IsFrom-refl}
use Rattle.hy_trees.proofs.PlaceLaws.{Leads-within, Rises, filled_at, first-below, from-from, from-less, items-rise, rises-at}
use Rattle.hy_trees.proofs.ReshapeLaws.{Reshapes-refl}
use Rattle.hy_trees.proofs.RootLaws.{IsRooted-from_tree, IsRooted-lowered, IsRooted-reshaped, IsTree-from_rooted, IsTree-lowered, StandOnce-rooted, pages_under-items}
use Rattle.hy_trees.proofs.StepLaws.{stand-once}
use Rattle.hy_joins.specs.Pairs.{HasChildToSpare, IsWay, JoinsAt, SharesLeft, SharesRight, child_at, items_at}

-- ---- items by their places

-- a page's least key is no greater than the key of its first item
first-from : (nodes : List Node) (fewest most depth top : ℕ) (low : List ℕ) (high : Option (List ℕ)) (page : ℕ)
    → IsSubtree nodes fewest most depth top low high page → 0 < length (items_at nodes page)
    → IsFrom low (child_at nodes page 0).key
first-from nodes fewest most zero top low high page leaf some = by (items_at nodes page) some leaf.begin
  where
    by : (items : List Item) → 0 < length items → BeginsFrom low items → IsFrom low (slice_index_or items 0 no_item).key
    by [] some begin = absurd (omega (arith, some))
    by (item ∷ items) some begin = begin
first-from nodes fewest most (suc depth) top low high page inner some = by (items_at nodes page) some inner.begin
  where
    by : (items : List Item) → 0 < length items → BeginsWith low items → IsFrom low (slice_index_or items 0 no_item).key
    by [] some begin = absurd (omega (arith, some))
    by (item ∷ items) some begin = subst (λ (key : List ℕ). IsFrom low key) (sym begin) (IsFrom-refl low)

-- each key of rising ones is below the bound behind all
below-at : (items : List Item) (high : Option (List ℕ)) (place : ℕ) → Rises items high → place < length items
    → IsBelow high (slice_index_or items place no_item).key
below-at items high place rises within =
    first-below (slice_index_or items place no_item) (drop (place + 1) items) high
    (HasParts-behind (λ key next number. IsBelow next key) (take place items)
    (slice_index_or items place no_item ∷ drop (place + 1) items) high
    (subst (λ (all : List Item). Rises all high) (split_at no_item items place within) rises))

-- the next key is that of the next place, if there is one
next-above : (items : List Item) (place : ℕ) (key : List ℕ)
    → (place < length items → is_less_bytes key (slice_index_or items place no_item).key ≡ true)
    → IsBelow (next_key (drop place items) None) key
next-above [] zero key above = tt
next-above [] (suc place) key above = tt
next-above (item ∷ items) zero key above = above (omega arith)
next-above (item ∷ items) (suc place) key above = next-above items place key (λ within. above (omega (arith, within)))

-- the first item of a rest
first-of_rest : (items : List Item) (place : ℕ)
    → (slice_index_or (drop place items) 0 no_item).key ≡ (slice_index_or items place no_item).key
first-of_rest items place =
    ap (λ (item : Item). item.key) (get_or-drop place items 0 no_item)
    ∙ ap (λ (at : ℕ). (slice_index_or items at no_item).key) (let same : place + 0 ≡ place = omega arith in same)

-- ---- a tree that keeps its entries

pub record KeepsTree (fewest most : ℕ) (least_key : List ℕ) (old new : List Node) : Type 0 where
  pub is_tree : IsTree fewest most least_key new
  pub entries : entries_under new (height_of new) 0 ≡ entries_under old (height_of old) 0
  pub longer : length old ≤ length new
  pub few : length (pages_under new (height_of new) 0) ≤ length (pages_under old (height_of old) 0) + 0

module _ (fewest most : ℕ) (two : 2 ≤ fewest) (half : fewest + fewest ≤ most) (least_key key : List ℕ) (old : List Node)
    (tree : IsTree fewest most least_key old) (depth page : ℕ)
    (leads : Leads old fewest most (height_of old) (root_least (height_of old)) least_key key (suc depth) page) where
  abbrev items : List Item
  items = items_at old page

  rooted : IsRooted fewest most (root_least (height_of old)) least_key old tree.free
  rooted = IsRooted-from_tree fewest most least_key old tree

  whole-once : StandOnce old tree.free (height_of old) 0
  whole-once = StandOnce-rooted fewest most (root_least (height_of old)) least_key old tree.free rooted

  pub stands-once : StandOnce old tree.free (suc depth) page
  stands-once =
      StandOnce-leads old fewest most (height_of old) (root_least (height_of old)) least_key key (suc depth) page leads old
      tree.free tree.free whole-once (Reshapes-refl old tree.free (suc depth) page tree.are_free)

  -- the root is at the top
  not_below_root : page ≡ 0 → suc depth < height_of old → 0 < 0
  not_below_root root below =
      let all = leads.pages old (λ q there. refl) 0 in
      let part = pages_under-items old (suc depth) page 0 in
      let one : same_as 0 page ≡ 1 = ap (same_as 0) root in
      let most = whole-once 0 in
      let has = has_page-le old 0 in
      let both = times-append 0 (pages_under old (height_of old) 0) tree.free in
      let outer = leads.root below in
      omega (arith, all, part, one, most, has, both, outer)

  is_most : leads.top ≤ fewest
  is_most = by leads.is_top
    where
      by : ((suc depth < height_of old) × (leads.top ≡ fewest))
          ⊎ ((suc depth ≡ height_of old) × (page ≡ 0) × (leads.top ≡ root_least (height_of old))) → leads.top ≤ fewest
      by (inl below) = omega (arith, below.1)
      by (inr root) =
          let is : root_least (height_of old) ≡ 2 = ap root_least (sym root.0) in omega (arith, root.2, is, two)

  -- an inner page has two children at least
  pub has_two : 2 ≤ length items
  has_two = by leads.is_top
    where
      filled : IsFilled leads.top most items
      filled = filled_at old fewest most (suc depth) leads.top leads.low leads.high page leads.subtree

      by : ((suc depth < height_of old) × (leads.top ≡ fewest))
          ⊎ ((suc depth ≡ height_of old) × (page ≡ 0) × (leads.top ≡ root_least (height_of old))) → 2 ≤ length items
      by (inl below) = omega (arith, below.1, filled.enough, two)
      by (inr root) =
          let is : root_least (height_of old) ≡ 2 = ap root_least (sym root.0) in
          omega (arith, root.2, is, filled.enough)

  -- two of its children that fit in one page can be joined
  pub room : HasChildToSpare fewest most old page → (left : ℕ) → left + 1 < length items
      → length (items_at old (child_at old page left).number) + length (items_at old (child_at old page (left + 1)).number) ≤ most
      → leads.top < length items
  room spare left within fits = by leads.is_top spare
    where
      firm : (2 < length items)
          ⊎ (most < length (items_at old (child_at old page 0).number) + length (items_at old (child_at old page 1).number))
          → 2 < length items
      firm (inl more) = more
      firm (inr full) = elim (cases_lt 2 (length items)) [
        | inl more ↦ more
        | inr less ↦
            let first : left ≡ 0 = omega (arith, within, less) in
            let same : length (items_at old (child_at old page left).number) + length (items_at old (child_at old page (left + 1)).number)
            ≡ length (items_at old (child_at old page 0).number) + length (items_at old (child_at old page 1).number) =
            ap (λ (l : ℕ). length (items_at old (child_at old page l).number) + length (items_at old (child_at old page (l + 1)).number)) first in
            absurd (omega (arith, same, fits, full))
      ]

      by : ((suc depth < height_of old) × (leads.top ≡ fewest))
          ⊎ ((suc depth ≡ height_of old) × (page ≡ 0) × (leads.top ≡ root_least (height_of old)))
          → HasChildToSpare fewest most old page → leads.top < length items
      by top (inl more) = omega (arith, is_most, more)
      by (inl below) (inr root) = absurd (omega (arith, not_below_root root.0 below.0))
      by (inr top) (inr root) =
          let is : root_least (height_of old) ≡ 2 = ap root_least (sym top.0) in
          omega (arith, top.2, is, firm root.1)

  -- a child at a place
  module _ (place : ℕ) (within : place < length items) where
    child-items : items ≡ take place items ++ (child_at old page place ∷ drop (place + 1) items)
    child-items = split_at no_item items place within

    pub child-subtree : IsSubtree old fewest most depth fewest (child_at old page place).key
        (next_key (drop (place + 1) items) leads.high) (child_at old page place).number
    child-subtree =
        IsSubtree-child old fewest most depth leads.top leads.low leads.high page (take place items) (child_at old page place)
        (drop (place + 1) items) child-items leads.subtree

    pub child-filled : IsFilled fewest most (items_at old (child_at old page place).number)
    child-filled =
        filled_at old fewest most depth fewest (child_at old page place).key (next_key (drop (place + 1) items) leads.high)
        (child_at old page place).number child-subtree

    pub child-below : (child_at old page place).number ≢ 0
    child-below =
        child-not_root old fewest most (height_of old) (root_least (height_of old)) least_key key depth page tree.free
        whole-once leads (take place items) (child_at old page place) (drop (place + 1) items) child-items

    pub child-there : (child_at old page place).number < length old
    child-there =
        let number = (child_at old page place).number in
        let all = stand-once old tree.free depth page (take place items) (child_at old page place ∷ []) (drop (place + 1) items)
        child-items stands-once number in
        let is = same_as-same number in
        within-has_page old number (omega (arith, all, is))

  -- two children that stand side by side
  module _ (left : ℕ) (within : left + 1 < length items) where
    abbrev one : Item
    one = child_at old page left

    abbrev other : Item
    other = child_at old page (left + 1)

    abbrev behind : List Item
    behind = drop (left + 2) items

    pair-items : items ≡ take left items ++ (one ∷ (other ∷ behind))
    pair-items = split_at_two no_item items left within

    counts : (q : ℕ) → same_as q page + (same_as q one.number + same_as q other.number) + times q tree.free ≤ has_page old q
    counts q =
        let all = stand-once old tree.free depth page (take left items) (one ∷ (other ∷ [])) behind pair-items stands-once q in
        omega (arith, all)

    pub one-above : one.number ≢ page
    one-above = differs-from_same_as one.number page
        (let all = counts one.number in let is = same_as-same one.number in let most = has_page-le old one.number in
        omega (arith, all, is, most))

    pub other-above : other.number ≢ page
    other-above = differs-from_same_as other.number page
        (let all = counts other.number in let is = same_as-same other.number in let most = has_page-le old other.number in
        omega (arith, all, is, most))

    pub other-one : other.number ≢ one.number
    other-one = differs-from_same_as other.number one.number
        (let all = counts other.number in let is = same_as-same other.number in let most = has_page-le old other.number in
        omega (arith, all, is, most))

    pub first-filled : IsFilled fewest most (items_at old one.number)
    first-filled = child-filled left (omega (arith, within))

    pub second-filled : IsFilled fewest most (items_at old other.number)
    second-filled = child-filled (left + 1) within

    rises : Rises items leads.high
    rises = items-rise old fewest most (suc depth) leads.top leads.low leads.high page (omega (arith, two)) leads.subtree

    keys-rise : is_less_bytes one.key other.key ≡ true
    keys-rise = rises-at items leads.high left (left + 1) rises (omega arith) within

    -- ---- the tree behind it

    module _ (new : List Node) (is_free : List ℕ) (reshapes : Reshapes old new tree.free is_free (suc depth) page)
        (part : IsSubtree new fewest most (suc depth) leads.top leads.low leads.high page) where
      lifted : IsRooted fewest most (root_least (height_of old)) least_key new is_free
          × Reshapes old new tree.free is_free (height_of old) 0
          × Leads new fewest most (height_of new) (root_least (height_of old)) least_key key (suc depth) page
      lifted =
          IsRooted-leads fewest most (root_least (height_of old)) least_key key old new tree.free is_free (suc depth) page
          rooted leads reshapes part

      kept : length new ≡ length old → length tree.free ≤ length is_free → KeepsTree fewest most least_key old new
      kept pages fewer = record {
        is_tree = IsTree-from_rooted fewest most (root_least (height_of old)) least_key new is_free lifted.0
            (let same : root_least (height_of new) ≡ root_least (height_of old) = ap root_least reshapes.height in
            omega (arith, same));
        entries = ap (λ (h : ℕ). entries_under new h 0) reshapes.height ∙ lifted.1.entries;
        longer = omega (arith, pages);
        few =
            let was = length-pages_all fewest most (root_least (height_of old)) least_key old tree.free rooted in
            let is = length-pages_all fewest most (root_least (height_of old)) least_key new is_free lifted.0 in
            omega (arith, pages, fewer, was, is);
      }

      down : (before : List Item) (item : Item) (rest : List Item) → items_at new page ≡ before ++ (item ∷ rest)
          → (0 < length before → IsFrom item.key key) → IsBelow (next_key rest None) key
          → Leads new fewest most (height_of new) (root_least (height_of new)) least_key key depth item.number
      down before item rest is above below =
          subst (λ (h : ℕ). Leads new fewest most (height_of new) (root_least h) least_key key depth item.number)
          (sym reshapes.height)
          (Leads-child new fewest most (height_of new) (root_least (height_of old)) least_key key depth page before item rest
          (omega (arith, two)) lifted.2
          (Leads-within new fewest most (height_of new) (root_least (height_of old)) least_key key (suc depth) page lifted.2)
          is above below)

    none-before : left ≡ 0 → 0 < length (take left items) → 0 < 0
    none-before first some =
        let size = length-take-le left items (omega (arith, within)) in omega (arith, first, some, size)

    -- where the key stands, by the keys of both
    above-other : (place : ℕ) → IsWay items key place → place ≡ left + 1 → IsFrom other.key key
    above-other place way second =
        subst (λ (at : ℕ). IsFrom (slice_index_or items at no_item).key key) second (way.from (omega (arith, second)))

    above-one : (place : ℕ) → IsWay items key place → place ≡ left + 1 → IsFrom one.key key
    above-one place way second =
        from-from one.key other.key key (IsFrom-below one.key other.key keys-rise) (above-other place way second)

    below-behind : (place : ℕ) → IsWay items key place → place < left + 2 → IsBelow (next_key behind None) key
    below-behind place way before = next-above items (left + 2) key (λ there. way.behind (left + 2) before there)

    below-other : (place : ℕ) → IsWay items key place → place ≡ 0 → left ≡ 0 → is_less_bytes key other.key ≡ true
    below-other place way none first = way.behind (left + 1) (omega (arith, none)) within

    -- ---- a join

    module _ (new : List Node) (joins : JoinsAt old new tree.free page left) (more : leads.top < length items)
        (fits : length (items_at old one.number) + length (items_at old other.number) ≤ most) where
      joined : Reshapes old new tree.free (other.number ∷ tree.free) (suc depth) page
      joined = Reshapes-join old new tree.free depth page (take left items) one other behind joins stands-once

      joined-part : IsSubtree new fewest most (suc depth) leads.top leads.low leads.high page
      joined-part =
          IsSubtree-join old new tree.free depth page (take left items) one other behind joins stands-once fewest most
          leads.top leads.top leads.low leads.high (omega (arith, two)) leads.subtree more fits
          (omega (arith, first-filled.enough))

      pub kept-joined : KeepsTree fewest most least_key old new
      kept-joined = kept new (other.number ∷ tree.free) joined joined-part joins.pages (omega arith)

      pub leads-joined : (place : ℕ) → IsWay items key place → ((place ≡ 0) × (left ≡ 0)) ⊎ (place ≡ left + 1)
          → Leads new fewest most (height_of new) (root_least (height_of new)) least_key key depth one.number
      leads-joined place way at =
          down new (other.number ∷ tree.free) joined joined-part (take left items) one behind joins.new_items
          (λ some. above at some)
          (below-behind place way (by at))
        where
          above : ((place ≡ 0) × (left ≡ 0)) ⊎ (place ≡ left + 1) → 0 < length (take left items) → IsFrom one.key key
          above (inl first) some = absurd (omega (arith, none-before first.1 some))
          above (inr second) some = above-one place way second

          by : ((place ≡ 0) × (left ≡ 0)) ⊎ (place ≡ left + 1) → place < left + 2
          by (inl first) = omega (arith, first.0)
          by (inr second) = omega (arith, second)

      pub more-joined : fewest < length (items_at new one.number)
      more-joined =
          let size = ap (λ (all : List Item). length all) joins.joined in
          let both = length-append (items_at old one.number) (items_at old other.number) in
          omega (arith, size, both, first-filled.enough, second-filled.enough, two)

    -- ---- items of the second one move to the first one

    module _ (new : List Node) (full : most < length (items_at old one.number) + length (items_at old other.number))
        (few : length (items_at old one.number) ≤ fewest)
        (shares : SharesLeft old new tree.free page left
        ((length (items_at old other.number) - length (items_at old one.number) + 1) / 2)) where
      abbrev moved : ℕ
      moved = (length (items_at old other.number) - length (items_at old one.number) + 1) / 2

      abbrev bound : List ℕ
      bound = (slice_index_or (drop moved (items_at old other.number)) 0 no_item).key

      fills : (0 < moved) × (moved ≤ length (items_at old other.number)) × (length (items_at old one.number) + moved ≤ most)
          × (fewest ≤ length (items_at old other.number) - moved)
      fills =
          share-fills most fewest (length (items_at old one.number)) (length (items_at old other.number)) half
          (omega (arith, few, first-filled.enough)) second-filled.fits full

      size-one : length (items_at new one.number) ≡ length (items_at old one.number) + moved
      size-one =
          let size = ap (λ (all : List Item). length all) shares.one in
          let both = length-append (items_at old one.number) (take moved (items_at old other.number)) in
          let part = length-take-le moved (items_at old other.number) fills.1 in
          omega (arith, size, both, part)

      size-two : length (items_at new other.number) ≡ length (items_at old other.number) - moved
      size-two = ap (λ (all : List Item). length all) shares.two ∙ length-drop moved (items_at old other.number)

      shared : Reshapes old new tree.free tree.free (suc depth) page
      shared = Reshapes-share old new tree.free depth page (take left items) one other bound behind shares.shares stands-once

      shared-part : IsSubtree new fewest most (suc depth) leads.top leads.low leads.high page
      shared-part =
          IsSubtree-share old new tree.free depth page (take left items) one other bound behind shares.shares stands-once
          fewest most leads.top leads.low leads.high (omega (arith, two)) leads.subtree
          (record { enough = omega (arith, size-one, first-filled.enough); fits = omega (arith, size-one, fills.2) })
          (record { enough = omega (arith, size-two, fills.3); fits = omega (arith, size-two, second-filled.fits) })

      pub kept-shared_left : KeepsTree fewest most least_key old new
      kept-shared_left = kept new tree.free shared shared-part shares.shares.pages (omega arith)

      pub more-shared_left : fewest < length (items_at new one.number)
      more-shared_left = omega (arith, size-one, fills.0, first-filled.enough)

      -- the new bound is a key of the second one
      bound-above : IsFrom other.key bound
      bound-above =
          let subtree = child-subtree (left + 1) within in
          let many = items_at old other.number in
          let high = next_key (drop (left + 1 + 1) items) leads.high in
          let inside : moved < length many = omega (arith, fills.3, two) in
          subst (λ (k : List ℕ). IsFrom other.key k) (sym (first-of_rest many moved))
          (from-less other.key (slice_index_or many 0 no_item).key (slice_index_or many moved no_item).key
          (first-from old fewest most depth fewest other.key high other.number subtree (omega (arith, inside)))
          (rises-at many high 0 moved
          (items-rise old fewest most depth fewest other.key high other.number (omega (arith, two)) subtree)
          fills.0 inside))

      pub leads-shared_left : (place : ℕ) → IsWay items key place → place ≡ 0 → left ≡ 0
          → Leads new fewest most (height_of new) (root_least (height_of new)) least_key key depth one.number
      leads-shared_left place way none first =
          down new tree.free shared shared-part (take left items) one (record { key = bound; number = other.number } ∷ behind)
          shares.shares.new_items
          (λ some. absurd (omega (arith, none-before first some)))
          (IsBelow-from key other.key bound (below-other place way none first) bound-above)

    -- ---- items of the first one move to the second one

    module _ (new : List Node) (full : most < length (items_at old one.number) + length (items_at old other.number))
        (few : length (items_at old other.number) ≤ fewest)
        (shares : SharesRight old new tree.free page left
        (length (items_at old one.number) - (length (items_at old one.number) - length (items_at old other.number) + 1) / 2)) where
      abbrev start : ℕ
      start = length (items_at old one.number) - (length (items_at old one.number) - length (items_at old other.number) + 1) / 2

      abbrev new_bound : List ℕ
      new_bound = (slice_index_or (drop start (items_at old one.number)) 0 no_item).key

      fills_right : (0 < (length (items_at old one.number) - length (items_at old other.number) + 1) / 2)
          × ((length (items_at old one.number) - length (items_at old other.number) + 1) / 2 ≤ length (items_at old one.number))
          × (length (items_at old other.number) + (length (items_at old one.number) - length (items_at old other.number) + 1) / 2 ≤ most)
          × (fewest ≤ length (items_at old one.number) - (length (items_at old one.number) - length (items_at old other.number) + 1) / 2)
      fills_right =
          share-fills most fewest (length (items_at old other.number)) (length (items_at old one.number)) half
          (omega (arith, few, second-filled.enough)) first-filled.fits (omega (arith, full))

      right-one : length (items_at new one.number) ≡ start
      right-one =
          ap (λ (all : List Item). length all) shares.one
          ∙ length-take-le start (items_at old one.number) (omega arith)

      right-two : length (items_at new other.number) ≡ length (items_at old one.number) - start + length (items_at old other.number)
      right-two =
          let size = ap (λ (all : List Item). length all) shares.two in
          let both = length-append (drop start (items_at old one.number)) (items_at old other.number) in
          let part = length-drop start (items_at old one.number) in
          omega (arith, size, both, part)

      shared_right : Reshapes old new tree.free tree.free (suc depth) page
      shared_right =
          Reshapes-share old new tree.free depth page (take left items) one other new_bound behind shares.shares stands-once

      right-part : IsSubtree new fewest most (suc depth) leads.top leads.low leads.high page
      right-part =
          IsSubtree-share old new tree.free depth page (take left items) one other new_bound behind shares.shares stands-once
          fewest most leads.top leads.low leads.high (omega (arith, two)) leads.subtree
          (record { enough = omega (arith, right-one, fills_right.3); fits = omega (arith, right-one, first-filled.fits) })
          (record {
            enough = omega (arith, right-two, second-filled.enough);
            fits = omega (arith, right-two, fills_right.1, fills_right.2);
          })

      pub kept-shared_right : KeepsTree fewest most least_key old new
      kept-shared_right = kept new tree.free shared_right right-part shares.shares.pages (omega arith)

      pub more-shared_right : fewest < length (items_at new other.number)
      more-shared_right = omega (arith, right-two, fills_right.0, fills_right.1, second-filled.enough)

      -- the new bound is a key of the first one
      bound-below : is_less_bytes new_bound other.key ≡ true
      bound-below =
          let many = items_at old one.number in
          let high = Some other.key in
          let inside : start < length many = omega (arith, fills_right.0, fills_right.1) in
          let subtree : IsSubtree old fewest most depth fewest one.key high one.number =
          IsSubtree-child old fewest most depth leads.top leads.low leads.high page (take left items) one (other ∷ behind)
          pair-items leads.subtree in
          subst (λ (k : List ℕ). is_less_bytes k other.key ≡ true) (sym (first-of_rest many start))
          (below-at many high start
          (items-rise old fewest most depth fewest one.key high one.number (omega (arith, two)) subtree) inside)

      pub leads-shared_right : (place : ℕ) → IsWay items key place → place ≡ left + 1
          → Leads new fewest most (height_of new) (root_least (height_of new)) least_key key depth other.number
      leads-shared_right place way second =
          down new tree.free shared_right right-part (take left items ++ (one ∷ []))
          (record { key = new_bound; number = other.number }) behind
          (shares.shares.new_items
          ∙ sym (append_assoc (take left items) (one ∷ []) (record { key = new_bound; number = other.number } ∷ behind)))
          (λ some. from-from new_bound other.key key (IsFrom-below new_bound other.key bound-below) (above-other place way second))
          (below-behind place way (omega (arith, second)))

-- ---- a root less

module _ (fewest most : ℕ) (two : 2 ≤ fewest) (least_key : List ℕ) (old joined new : List Node)
    (tree : IsTree fewest most least_key old) (depth : ℕ) (high : height_of old ≡ suc depth)
    (pair : length (items_at old 0) ≡ 2)
    (joins : JoinsAt old joined tree.free 0 0)
    (fits : length (items_at old (child_at old 0 0).number) + length (items_at old (child_at old 0 1).number) ≤ most) where
  old-rooted : IsRooted fewest most (root_least (height_of old)) least_key old tree.free
  old-rooted = IsRooted-from_tree fewest most least_key old tree

  old-once : StandOnce old tree.free (suc depth) 0
  old-once =
      subst (λ (h : ℕ). StandOnce old tree.free h 0) high
      (StandOnce-rooted fewest most (root_least (height_of old)) least_key old tree.free old-rooted)

  old-subtree : IsSubtree old fewest most (suc depth) 2 least_key None 0
  old-subtree = subst (λ (h : ℕ). IsSubtree old fewest most h (root_least h) least_key None 0) high tree.subtree

  old-items : items_at old 0 ≡ child_at old 0 0 ∷ (child_at old 0 1 ∷ drop 2 (items_at old 0))
  old-items = split_at_two no_item (items_at old 0) 0 (omega (arith, pair))

  child-enough : (before : List Item) (item : Item) (behind : List Item) → items_at old 0 ≡ before ++ (item ∷ behind)
      → IsFilled fewest most (items_at old item.number)
  child-enough before item behind is =
      filled_at old fewest most depth fewest item.key (next_key behind None) item.number
      (IsSubtree-child old fewest most depth 2 least_key None 0 before item behind is old-subtree)

  joined-reshapes : Reshapes old joined tree.free ((child_at old 0 1).number ∷ tree.free) (suc depth) 0
  joined-reshapes =
      Reshapes-join old joined tree.free depth 0 (take 0 (items_at old 0)) (child_at old 0 0) (child_at old 0 1)
      (drop 2 (items_at old 0)) joins old-once

  joined-subtree : IsSubtree joined fewest most (suc depth) 1 least_key None 0
  joined-subtree =
      IsSubtree-join old joined tree.free depth 0 (take 0 (items_at old 0)) (child_at old 0 0) (child_at old 0 1)
      (drop 2 (items_at old 0)) joins old-once fewest most 2 1 least_key None (omega (arith, two)) old-subtree
      (omega (arith, pair)) fits
      (let filled = child-enough [] (child_at old 0 0) (child_at old 0 1 ∷ drop 2 (items_at old 0)) old-items in
      omega (arith, filled.enough))

  joined-rooted : IsRooted fewest most 1 least_key joined ((child_at old 0 1).number ∷ tree.free)
  joined-rooted =
      IsRooted-reshaped fewest most (root_least (height_of old)) 1 least_key old joined tree.free
      ((child_at old 0 1).number ∷ tree.free) old-rooted
      (subst (λ (h : ℕ). Reshapes old joined tree.free ((child_at old 0 1).number ∷ tree.free) h 0) (sym high) joined-reshapes)
      (subst (λ (h : ℕ). IsSubtree joined fewest most h 1 least_key None 0) (sym high) joined-subtree)

  pub joined-once : StandOnce joined ((child_at old 0 1).number ∷ tree.free) (suc depth) 0
  joined-once =
      subst (λ (h : ℕ). StandOnce joined ((child_at old 0 1).number ∷ tree.free) h 0) (joins.height ∙ high)
      (StandOnce-rooted fewest most 1 least_key joined ((child_at old 0 1).number ∷ tree.free) joined-rooted)

  pub joined-root : items_at joined 0 ≡ child_at old 0 0 ∷ []
  joined-root =
      joins.new_items
      ∙ ap (λ (rest : List Item). child_at old 0 0 ∷ rest) (drop_all 2 (items_at old 0) (omega (arith, pair)))

  module _ (lowers : Lowers joined new ((child_at old 0 1).number ∷ tree.free) (child_at old 0 0)) where
    lowered-tree : IsTree fewest most least_key new × (entries_under new (height_of new) 0 ≡ entries_under joined (height_of joined) 0)
    lowered-tree =
        IsTree-lowered fewest most 1 least_key joined new ((child_at old 0 1).number ∷ tree.free) (child_at old 0 0)
        (omega (arith, two)) joined-rooted lowers

    pub kept-lowered : KeepsTree fewest most least_key old new
    kept-lowered = record {
      is_tree = lowered-tree.0;
      entries = lowered-tree.1
          ∙ ap (λ (h : ℕ). entries_under joined h 0) (joins.height ∙ high) ∙ joined-reshapes.entries
          ∙ ap (λ (h : ℕ). entries_under old h 0) (sym high);
      longer = omega (arith, lowers.pages, joins.pages);
      few =
          let was = length-pages_all fewest most (root_least (height_of old)) least_key old tree.free old-rooted in
          let is = length-pages_all fewest most fewest least_key new
          ((child_at old 0 0).number ∷ ((child_at old 0 1).number ∷ tree.free))
          (IsRooted-lowered fewest most 1 least_key joined new ((child_at old 0 1).number ∷ tree.free) (child_at old 0 0)
          joined-rooted lowers) in
          omega (arith, lowers.pages, joins.pages, was, is);
    }

    pub more-lowered : fewest < length (items_at new 0)
    more-lowered =
        let size = ap (λ (all : List Item). length all) (lowers.moved ∙ joins.joined) in
        let both = length-append (items_at old (child_at old 0 0).number) (items_at old (child_at old 0 1).number) in
        let first = child-enough [] (child_at old 0 0) (child_at old 0 1 ∷ drop 2 (items_at old 0)) old-items in
        let second = child-enough (child_at old 0 0 ∷ []) (child_at old 0 1) (drop 2 (items_at old 0)) old-items in
        omega (arith, size, both, first.enough, second.enough, two)
