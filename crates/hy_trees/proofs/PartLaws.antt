-- The parts of the keys that the items of children stand for, where some children's items are put together and taken
-- apart again.
use Rattle.std.proofs.Common.{◌≡◌, ℕ, zero, suc, ◌<◌, Bool, true, false, List, [], ◌∷◌, ◌++◌, length, Option, Some, refl, ap, sym, subst, ◌∙◌, arith}
use Rattle.std.proofs.lemmas.Bool.{false≢true}
use Rattle.std.proofs.lemmas.List.{append-nil, length-append}
use Rattle.hy_trees.specs.Nodes.{Item, Node, node_at}
use Rattle.hy_trees.specs.Trees.{BeginsWith, HasParts, IsFilled, IsFrom, IsSubtree, is_less_bytes, items_below, next_key}
use Rattle.hy_trees.specs.Groups.{AreFilled, AreKeyed, BeginsAt, PartAt}
use Rattle.hy_trees.proofs.OrderLaws.{less-irreflexive, less-one_way, less-trans, same-from_not}
use Rattle.hy_trees.proofs.LiftLaws.{HasParts-append, HasParts-behind, HasParts-front}

-- ---- the order of keys and bounds

pub IsFrom-refl : (key : List ℕ) → IsFrom key key
IsFrom-refl key = less-irreflexive key

-- what is below a key is below each that is no less
pub IsBelow-from : (key bound other : List ℕ) → is_less_bytes key bound ≡ true → IsFrom bound other
    → is_less_bytes key other ≡ true
IsBelow-from key bound other below from = by (is_less_bytes bound other) refl
  where
    by : (b : Bool) → is_less_bytes bound other ≡ b → is_less_bytes key other ≡ true
    by true less = less-trans key bound other below less
    by false not_less = subst (λ k. is_less_bytes key k ≡ true) (same-from_not bound other not_less from) below

pub IsFrom-trans : (low key other : List ℕ) → IsFrom low key → IsFrom key other → IsFrom low other
IsFrom-trans low key other first second = by (is_less_bytes other low) refl
  where
    by : (b : Bool) → is_less_bytes other low ≡ b → IsFrom low other
    by true less = absurd (false≢true (sym second ∙ IsBelow-from other low key less first))
    by false not_less = not_less

pub IsFrom-below : (low key : List ℕ) → is_less_bytes low key ≡ true → IsFrom low key
IsFrom-below low key less = less-one_way low key less

-- ---- one page, whether it is a leaf or not

pub IsSubtree-parts : (nodes : List Node) (fewest most depth top : ℕ) (low : List ℕ) (high : Option (List ℕ)) (page : ℕ)
    → IsSubtree nodes fewest most depth top low high page
    → IsFilled top most (node_at nodes page).items × BeginsAt depth low (node_at nodes page).items
    × HasParts (PartAt nodes fewest most depth) (node_at nodes page).items high
IsSubtree-parts nodes fewest most zero top low high page tree = (tree.filled, tree.begin, tree.rising)
IsSubtree-parts nodes fewest most (suc depth) top low high page tree = (tree.filled, tree.begin, tree.parts)

pub IsSubtree-from_parts : (nodes : List Node) (fewest most depth top : ℕ) (low : List ℕ) (high : Option (List ℕ))
    (page : ℕ) → IsFilled top most (node_at nodes page).items → BeginsAt depth low (node_at nodes page).items
    → HasParts (PartAt nodes fewest most depth) (node_at nodes page).items high
    → IsSubtree nodes fewest most depth top low high page
IsSubtree-from_parts nodes fewest most zero top low high page filled begin parts =
    record { filled = filled; begin = begin; rising = parts }
IsSubtree-from_parts nodes fewest most (suc depth) top low high page filled begin parts =
    record { filled = filled; begin = begin; parts = parts }

-- ---- how items begin

pub BeginsAt-front : (depth : ℕ) (low : List ℕ) (xs ys : List Item) → BeginsAt depth low (xs ++ ys) → BeginsAt depth low xs
BeginsAt-front zero low [] ys begin = tt
BeginsAt-front zero low (x ∷ xs) ys begin = begin
BeginsAt-front (suc depth) low [] ys begin = tt
BeginsAt-front (suc depth) low (x ∷ xs) ys begin = begin

pub BeginsAt-append : (depth : ℕ) (low : List ℕ) (xs ys : List Item) → 0 < length xs → BeginsAt depth low xs
    → BeginsAt depth low (xs ++ ys)
BeginsAt-append depth low [] ys some begin = absurd (omega (arith, some))
BeginsAt-append zero low (x ∷ xs) ys some begin = begin
BeginsAt-append (suc depth) low (x ∷ xs) ys some begin = begin

pub BeginsAt-with : (depth : ℕ) (low : List ℕ) (xs : List Item) → BeginsWith low xs → BeginsAt depth low xs
BeginsAt-with depth low [] begin = nothing depth
  where
    nothing : (d : ℕ) → BeginsAt d low []
    nothing zero = tt
    nothing (suc d) = tt
BeginsAt-with zero low (x ∷ xs) begin = subst (IsFrom low) (sym begin) (IsFrom-refl low)
BeginsAt-with (suc depth) low (x ∷ xs) begin = begin

next_key-with : (low : List ℕ) (xs ys : List Item) (high : Option (List ℕ)) → 0 < length xs → BeginsWith low xs
    → next_key (xs ++ ys) high ≡ Some low
next_key-with low [] ys high some begin = absurd (omega (arith, some))
next_key-with low (x ∷ xs) ys high some begin = ap Some begin

-- ---- children put together

leaf-parts : (nodes : List Node) (fewest most : ℕ) (xs : List Item) (bound other : List ℕ) → IsFrom bound other
    → HasParts (PartAt nodes fewest most zero) xs (Some bound) → HasParts (PartAt nodes fewest most zero) xs (Some other)
leaf-parts nodes fewest most [] bound other from parts = tt
leaf-parts nodes fewest most (x ∷ []) bound other from parts = (IsBelow-from x.key bound other parts.0 from, tt)
leaf-parts nodes fewest most (x ∷ (y ∷ xs)) bound other from parts =
    (parts.0, leaf-parts nodes fewest most (y ∷ xs) bound other from parts.1)

pub HasParts-joined : (nodes : List Node) (fewest most depth : ℕ) (xs ys : List Item) (key : List ℕ)
    (high : Option (List ℕ)) → 0 < length ys → HasParts (PartAt nodes fewest most depth) xs (Some key)
    → BeginsAt depth key ys → HasParts (PartAt nodes fewest most depth) ys high
    → HasParts (PartAt nodes fewest most depth) (xs ++ ys) high
HasParts-joined nodes fewest most depth xs [] key high some first begin second = absurd (omega (arith, some))
HasParts-joined nodes fewest most zero xs (y ∷ ys) key high some first begin second =
    HasParts-append (PartAt nodes fewest most zero) xs (y ∷ ys) high
    (leaf-parts nodes fewest most xs key y.key begin first) second
HasParts-joined nodes fewest most (suc depth) xs (y ∷ ys) key high some first begin second =
    HasParts-append (PartAt nodes fewest most (suc depth)) xs (y ∷ ys) high
    (subst (λ k. HasParts (PartAt nodes fewest most (suc depth)) xs (Some k)) (sym begin) first) second

module _ (nodes : List Node) (fewest most : ℕ) (some : 0 < fewest) (depth : ℕ) where
  pub items_below-parts : (item : Item) (items : List Item) (high : Option (List ℕ))
      → HasParts (IsSubtree nodes fewest most depth fewest) (item ∷ items) high
      → (0 < length (items_below nodes (item ∷ items))) × BeginsAt depth item.key (items_below nodes (item ∷ items))
      × HasParts (PartAt nodes fewest most depth) (items_below nodes (item ∷ items)) high
  items_below-parts item [] high subtrees =
      let parts = IsSubtree-parts nodes fewest most depth fewest item.key high item.number subtrees.0 in
      let none = append-nil (node_at nodes item.number).items in (
        (let more = ap length none in let least = parts.0.enough in omega (arith, more, least, some)),
        subst (BeginsAt depth item.key) (sym none) parts.1,
        subst (λ i. HasParts (PartAt nodes fewest most depth) i high) (sym none) parts.2,
      )
  items_below-parts item (next ∷ items) high subtrees =
      let parts = IsSubtree-parts nodes fewest most depth fewest item.key (Some next.key) item.number subtrees.0 in
      let rest = items_below-parts next items high subtrees.1 in
      let least = parts.0.enough in (
        (let all = length-append (node_at nodes item.number).items (items_below nodes (next ∷ items)) in
            omega (arith, all, least, some)),
        BeginsAt-append depth item.key (node_at nodes item.number).items (items_below nodes (next ∷ items))
            (omega (arith, least, some)) parts.1,
        HasParts-joined nodes fewest most depth (node_at nodes item.number).items (items_below nodes (next ∷ items))
            next.key high rest.0 parts.2 rest.1 rest.2,
      )

  -- ---- and taken apart

  pub HasSubtrees-from_parts : (item : Item) (items : List Item) (high : Option (List ℕ))
      → AreFilled nodes fewest most (item ∷ items) → AreKeyed nodes items
      → BeginsAt depth item.key (items_below nodes (item ∷ items))
      → HasParts (PartAt nodes fewest most depth) (items_below nodes (item ∷ items)) high
      → HasParts (IsSubtree nodes fewest most depth fewest) (item ∷ items) high
  HasSubtrees-from_parts item [] high filled keyed begin parts = (
    IsSubtree-from_parts nodes fewest most depth fewest item.key high item.number filled.0
        (BeginsAt-front depth item.key (node_at nodes item.number).items [] begin)
        (HasParts-front (PartAt nodes fewest most depth) (node_at nodes item.number).items [] high parts),
    tt,
  )
  HasSubtrees-from_parts item (next ∷ items) high filled keyed begin parts =
      let least = filled.1.0.enough in
      let more : 0 < length (node_at nodes next.number).items = omega (arith, least, some) in (
        IsSubtree-from_parts nodes fewest most depth fewest item.key (Some next.key) item.number filled.0
            (BeginsAt-front depth item.key (node_at nodes item.number).items (items_below nodes (next ∷ items)) begin)
            (subst (HasParts (PartAt nodes fewest most depth) (node_at nodes item.number).items)
            (next_key-with next.key (node_at nodes next.number).items (items_below nodes items) high more keyed.0)
            (HasParts-front (PartAt nodes fewest most depth) (node_at nodes item.number).items
            (items_below nodes (next ∷ items)) high parts)),
        HasSubtrees-from_parts next items high filled.1 keyed.1
            (BeginsAt-append depth next.key (node_at nodes next.number).items (items_below nodes items) more
            (BeginsAt-with depth next.key (node_at nodes next.number).items keyed.0))
            (HasParts-behind (PartAt nodes fewest most depth) (node_at nodes item.number).items
            (items_below nodes (next ∷ items)) high parts),
      )
