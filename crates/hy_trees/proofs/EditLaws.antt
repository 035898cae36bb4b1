-- An entry more, one less, or one with another number in a leaf.
use Rattle.std.proofs.Common.{◌≡◌, ℕ, suc, ◌<◌, ◌≤◌, cond, ltb, List, [], ◌∷◌, ◌++◌, length, Option, None, Some, inl, inr, refl, ap, sym, subst, ◌∙◌, arith}
use Rattle.hy_trees.specs.Nodes.{Item, Node, node_at, with_items, with_node}
use Rattle.hy_trees.specs.Trees.{AreFree, BeginsFrom, IsBelow, IsFrom, IsLeaf, IsSubtree, times, entries_under, has_page, height_of, next_key, pages_under}
use Rattle.hy_trees.specs.Groups.{IsRooted}
use Rattle.hy_trees.specs.Leaves.{AreBelow, EditsLeaf, LeadsToLeaf, leaf_least}
use Rattle.hy_trees.proofs.CountLaws.{times-append, has_page-le}
use Rattle.hy_trees.proofs.LiftLaws.{HasParts-append, HasParts-behind, HasParts-front}
use Rattle.hy_trees.proofs.NodeLaws.{length-with_node, node_at-with_node_other, node_at-with_node_same}
use Rattle.hy_trees.proofs.FreeLaws.{AreFree-with_node}
use Rattle.hy_trees.proofs.PartLaws.{IsFrom-below, IsFrom-trans}
use Rattle.hy_trees.proofs.RiseLaws.{IsBelow-less, Rise}
use Rattle.std.proofs.lemmas.Bool.{cases_eq}

-- ---- the items of a leaf

last-below : (xs : List Item) (high other : Option (List ℕ)) (key : List ℕ) → AreBelow key xs → Rise xs high
    → Rise xs (Some key)
last-below [] high other key below rise = tt
last-below (x ∷ []) high other key below rise = (below.0, tt)
last-below (x ∷ (y ∷ xs)) high other key below rise = (rise.0, last-below (y ∷ xs) high other key below.1 rise.1)

pub Rise-inserted : (xs ys : List Item) (item : Item) (to : Option (List ℕ)) → Rise (xs ++ ys) to
    → AreBelow item.key xs → IsBelow (next_key ys to) item.key → Rise (xs ++ (item ∷ ys)) to
Rise-inserted xs ys item to rise less greater =
    HasParts-append (λ key next number. IsBelow next key) xs (item ∷ ys) to
    (last-below xs (next_key ys to) to item.key less (HasParts-front (λ key next number. IsBelow next key) xs ys to rise))
    (greater, HasParts-behind (λ key next number. IsBelow next key) xs ys to rise)

pub Rise-same_key : (xs ys : List Item) (item other : Item) (to : Option (List ℕ)) → other.key ≡ item.key
    → Rise (xs ++ (item ∷ ys)) to → Rise (xs ++ (other ∷ ys)) to
Rise-same_key xs ys item other to same rise =
    let behind : Rise (item ∷ ys) to = HasParts-behind (λ key next number. IsBelow next key) xs (item ∷ ys) to rise in
    HasParts-append (λ key next number. IsBelow next key) xs (other ∷ ys) to
    (subst (λ k. Rise xs (Some k)) (sym same) (HasParts-front (λ key next number. IsBelow next key) xs (item ∷ ys) to rise))
    (subst (IsBelow (next_key ys to)) (sym same) behind.0, behind.1)

front-without : (xs ys : List Item) (item : Item) (to : Option (List ℕ)) → Rise xs (Some item.key)
    → IsBelow (next_key ys to) item.key → Rise xs (next_key ys to)
front-without [] ys item to rise below = tt
front-without (x ∷ []) ys item to rise below = (IsBelow-less (next_key ys to) x.key item.key rise.0 below, tt)
front-without (x ∷ (y ∷ xs)) ys item to rise below = (rise.0, front-without (y ∷ xs) ys item to rise.1 below)

pub Rise-removed : (xs ys : List Item) (item : Item) (to : Option (List ℕ)) → Rise (xs ++ (item ∷ ys)) to
    → Rise (xs ++ ys) to
Rise-removed xs ys item to rise =
    let behind : Rise (item ∷ ys) to = HasParts-behind (λ key next number. IsBelow next key) xs (item ∷ ys) to rise in
    HasParts-append (λ key next number. IsBelow next key) xs ys to
    (front-without xs ys item to (HasParts-front (λ key next number. IsBelow next key) xs (item ∷ ys) to rise) behind.0)
    behind.1

begin-inserted : (xs ys : List Item) (item : Item) (from : List ℕ) → BeginsFrom from (xs ++ ys) → IsFrom from item.key
    → BeginsFrom from (xs ++ (item ∷ ys))
begin-inserted [] ys item from begin above = above
begin-inserted (x ∷ xs) ys item from begin above = begin

begin-same_key : (xs ys : List Item) (item other : Item) (from : List ℕ) → other.key ≡ item.key
    → BeginsFrom from (xs ++ (item ∷ ys)) → BeginsFrom from (xs ++ (other ∷ ys))
begin-same_key [] ys item other from same begin = subst (IsFrom from) (sym same) begin
begin-same_key (x ∷ xs) ys item other from same begin = begin

pub IsLeaf-inserted : (fewest most : ℕ) (from : List ℕ) (to : Option (List ℕ)) (xs ys : List Item) (item : Item)
    → IsLeaf fewest most from to (xs ++ ys) → length (xs ++ ys) < most → IsFrom from item.key → AreBelow item.key xs
    → IsBelow (next_key ys to) item.key → IsLeaf fewest most from to (xs ++ (item ∷ ys))
IsLeaf-inserted fewest most from to xs ys item leaf room above less greater =
    let longer = lengths xs in
    record {
      filled = record {
        enough = (let enough = leaf.filled.enough in omega (arith, enough, longer));
        fits = omega (arith, room, longer);
      };
      begin = begin-inserted xs ys item from leaf.begin above;
      rising = Rise-inserted xs ys item to leaf.rising less greater;
    }
  where
    lengths : (front : List Item) → length (front ++ (item ∷ ys)) ≡ suc (length (front ++ ys))
    lengths [] = refl
    lengths (x ∷ front) = ap suc (lengths front)

pub IsLeaf-same_key : (fewest most : ℕ) (from : List ℕ) (to : Option (List ℕ)) (xs ys : List Item) (item other : Item)
    → other.key ≡ item.key → IsLeaf fewest most from to (xs ++ (item ∷ ys))
    → IsLeaf fewest most from to (xs ++ (other ∷ ys))
IsLeaf-same_key fewest most from to xs ys item other same leaf =
    let longer = lengths xs in
    record {
      filled = record {
        enough = (let enough = leaf.filled.enough in omega (arith, enough, longer));
        fits = (let fits = leaf.filled.fits in omega (arith, fits, longer));
      };
      begin = begin-same_key xs ys item other from same leaf.begin;
      rising = Rise-same_key xs ys item other to same leaf.rising;
    }
  where
    lengths : (front : List Item) → length (front ++ (other ∷ ys)) ≡ length (front ++ (item ∷ ys))
    lengths [] = refl
    lengths (x ∷ front) = ap suc (lengths front)

-- without its first item a leaf begins no lower: each key rises
pub IsLeaf-removed : (fewest most : ℕ) (from : List ℕ) (to : Option (List ℕ)) (xs ys : List Item) (item : Item)
    → IsLeaf fewest most from to (xs ++ (item ∷ ys)) → fewest < length (xs ++ (item ∷ ys))
    → IsLeaf fewest most from to (xs ++ ys)
IsLeaf-removed fewest most from to xs ys item leaf spare =
    let longer = lengths xs in
    record {
      filled = record {
        enough = omega (arith, spare, longer);
        fits = (let fits = leaf.filled.fits in omega (arith, fits, longer));
      };
      begin = begins xs leaf.begin leaf.rising;
      rising = Rise-removed xs ys item to leaf.rising;
    }
  where
    lengths : (front : List Item) → length (front ++ (item ∷ ys)) ≡ suc (length (front ++ ys))
    lengths [] = refl
    lengths (x ∷ front) = ap suc (lengths front)

    behind : (rest : List Item) → IsFrom from item.key → IsBelow (next_key rest to) item.key → BeginsFrom from rest
    behind [] above below = tt
    behind (y ∷ rest) above below = IsFrom-trans from item.key y.key above (IsFrom-below item.key y.key below)

    begins : (front : List Item) → BeginsFrom from (front ++ (item ∷ ys)) → Rise (front ++ (item ∷ ys)) to
        → BeginsFrom from (front ++ ys)
    begins [] begin rise = behind ys begin rise.0
    begins (x ∷ front) begin rise = begin

-- ---- the tree with another leaf

pub once-under : (fewest most top : ℕ) (least_key : List ℕ) (nodes : List Node) (free : List ℕ)
    → IsRooted fewest most top least_key nodes free
    → (q : ℕ) → times q (pages_under nodes (height_of nodes) 0) ≤ 1
once-under fewest most top least_key nodes free rooted q =
    let once = rooted.once q in
    let all = times-append q (pages_under nodes (height_of nodes) 0) free in
    let most = has_page-le nodes q in
    omega (arith, once, all, most)

pub IsRooted-edited : (fewest most top : ℕ) (least_key : List ℕ) (old new : List Node) (free : List ℕ) (key : List ℕ)
    (leaf : ℕ) → IsRooted fewest most top least_key old free
    → (leads : LeadsToLeaf old fewest most (height_of old) top least_key None 0 key leaf) → EditsLeaf old new free leaf
    → IsLeaf (leaf_least (height_of old) top fewest) most leads.from leads.to (node_at new leaf).items
    → IsRooted fewest most top least_key new free
    × (entries_under new (height_of new) 0 ≡ leads.front ++ ((node_at new leaf).items ++ leads.behind))
IsRooted-edited fewest most top least_key old new free key leaf rooted leads edits is_leaf =
    let other = leads.replaced new (λ q differs there. edits.others q differs) in (
      record {
        first = (let same = edits.pages in let first = rooted.first in omega (arith, same, first));
        subtree = subst (λ h. IsSubtree new fewest most h top least_key None 0) (sym edits.height) (other.2 is_leaf);
        are_free = edits.are_free;
        once = λ q.
            let was = rooted.once q in
            let has : has_page new q ≡ has_page old q = ap (λ (n : ℕ). cond {A = ℕ} (ltb q n) 1 0) edits.pages in
            let height : times q (pages_under new (height_of new) 0 ++ free)
            ≡ times q (pages_under new (height_of old) 0 ++ free) =
            ap (λ h. times q (pages_under new h 0 ++ free)) edits.height in
            let one = times-append q (pages_under new (height_of old) 0) free in
            let two = times-append q (pages_under old (height_of old) 0) free in
            let same = other.1 q in
            omega (arith, was, has, height, one, two, same);
      },
      ap (λ h. entries_under new h 0) edits.height ∙ other.0,
    )

-- a page of the tree that gets other items
pub EditsLeaf-with_items : (nodes : List Node) (free : List ℕ) (leaf : ℕ) (items : List Item) → leaf < length nodes
    → times leaf free ≡ 0 → AreFree nodes (node_at nodes 0).next free
    → EditsLeaf nodes (with_node nodes leaf (with_items (node_at nodes leaf) items)) free leaf
EditsLeaf-with_items nodes free leaf items within none are_free = record {
  pages = length-with_node nodes leaf (with_items (node_at nodes leaf) items);
  others = λ q differs. ap (λ (n : Node). n.items) (node_at-with_node_other nodes leaf (with_items (node_at nodes leaf) items) q differs);
  are_free = AreFree-with_node nodes leaf (with_items (node_at nodes leaf) items) free within none refl are_free;
  height = height-same;
}
  where
    height-same : height_of (with_node nodes leaf (with_items (node_at nodes leaf) items)) ≡ height_of nodes
    height-same = elim (cases_eq 0 leaf) [
      | inl is ↦
          ap (λ (k : ℕ). (node_at (with_node nodes leaf (with_items (node_at nodes leaf) items)) k).height) is
          ∙ ap (λ (n : Node). n.height) (node_at-with_node_same nodes leaf (with_items (node_at nodes leaf) items) within)
          ∙ ap (λ (k : ℕ). (node_at nodes k).height) (sym is)
      | inr differs ↦
          ap (λ (n : Node). n.height)
          (node_at-with_node_other nodes leaf (with_items (node_at nodes leaf) items) 0 differs)
    ]
