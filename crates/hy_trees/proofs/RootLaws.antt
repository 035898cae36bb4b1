-- The tree of a segment, where the root's subtree takes another form, and where the tree gets a level more or less.
use Rattle.std.proofs.Common.{◌≡◌, ℕ, zero, suc, ◌+◌, ◌<◌, ◌≤◌, cond, ltb, List, [], ◌∷◌, ◌++◌, length, Option, None, refl, ap, sym, subst, ◌∙◌, arith}
use Rattle.std.proofs.lemmas.List.{append-nil}
use Rattle.hy_trees.specs.Nodes.{Item, Node, node_at}
use Rattle.hy_trees.specs.Trees.{BeginsWith, HasParts, IsFilled, IsInner, IsSubtree, IsTree, KeepItems, Reshapes, StandOnce, times, entries_under, has_page, height_of, pages_under, root_least, same_as}
use Rattle.hy_trees.specs.Groups.{BeginsAt, IsRooted, Lowers, PartAt, Raises, Splits}
use Rattle.hy_trees.proofs.CountLaws.{times-append, times-has_page, has_page-le, has_page-no, has_page-yes, same_as-same, within-has_page}
use Rattle.hy_trees.proofs.PartLaws.{IsSubtree-from_parts, IsSubtree-parts}
use Rattle.hy_trees.proofs.GroupLaws.{PartAt-kept, entries_of, entries_of-kept, pages_of, pages_of-kept}
use Rattle.hy_trees.proofs.ChildLaws.{IsSubtree-split, Reshapes-split}

-- ---- what a page's subtree is, by its items

pub entries_under-items : (nodes : List Node) (depth page : ℕ)
    → entries_under nodes depth page ≡ entries_of nodes depth (node_at nodes page).items
entries_under-items nodes zero page = refl
entries_under-items nodes (suc depth) page = refl

pub pages_under-items : (nodes : List Node) (depth page q : ℕ)
    → times q (pages_under nodes depth page) ≡ same_as q page + times q (pages_of nodes depth (node_at nodes page).items)
pages_under-items nodes zero page q = refl
pages_under-items nodes (suc depth) page q = refl

-- another least number of items in the page itself
pub IsSubtree-top : (nodes : List Node) (fewest most depth top least : ℕ) (low : List ℕ) (high : Option (List ℕ))
    (page : ℕ) → least ≤ length (node_at nodes page).items → IsSubtree nodes fewest most depth top low high page
    → IsSubtree nodes fewest most depth least low high page
IsSubtree-top nodes fewest most depth top least low high page enough tree =
    let parts = IsSubtree-parts nodes fewest most depth top low high page tree in
    IsSubtree-from_parts nodes fewest most depth least low high page (record { enough = enough; fits = parts.0.fits })
    parts.1 parts.2

-- the items of one page moved to another, and nothing that stands below them changed
module _ (old new : List Node) (depth from to : ℕ) (moved : (node_at new to).items ≡ (node_at old from).items)
    (keeps : KeepItems old new (pages_of old depth (node_at old from).items)) where
  entries_under-moved : entries_under new depth to ≡ entries_under old depth from
  entries_under-moved =
      entries_under-items new depth to ∙ ap (entries_of new depth) moved
      ∙ entries_of-kept old new depth (node_at old from).items keeps ∙ sym (entries_under-items old depth from)

  pages_of-moved : pages_of new depth (node_at new to).items ≡ pages_of old depth (node_at old from).items
  pages_of-moved = ap (pages_of new depth) moved ∙ pages_of-kept old new depth (node_at old from).items keeps

  IsSubtree-moved : (fewest most top least : ℕ) (low : List ℕ) (high : Option (List ℕ))
      → least ≤ length (node_at old from).items → IsSubtree old fewest most depth top low high from
      → IsSubtree new fewest most depth least low high to
  IsSubtree-moved fewest most top least low high enough tree =
      let parts = IsSubtree-parts old fewest most depth top low high from tree in
      IsSubtree-from_parts new fewest most depth least low high to
      (subst (IsFilled least most) (sym moved) (record { enough = enough; fits = parts.0.fits }))
      (subst (BeginsAt depth low) (sym moved) parts.1)
      (subst (λ i. HasParts (PartAt new fewest most depth) i high) (sym moved)
      (PartAt-kept old new fewest most depth (node_at old from).items high keeps parts.2))

-- ---- the tree and its root

pub IsRooted-from_tree : (fewest most : ℕ) (least_key : List ℕ) (nodes : List Node)
    (tree : IsTree fewest most least_key nodes)
    → IsRooted fewest most (root_least (height_of nodes)) least_key nodes tree.free
IsRooted-from_tree fewest most least_key nodes tree =
    record {
      first = tree.first;
      subtree = tree.subtree;
      are_free = tree.are_free;
      once = times-has_page nodes (pages_under nodes (height_of nodes) 0 ++ tree.free) tree.once tree.no_others;
    }

pub IsTree-from_rooted : (fewest most top : ℕ) (least_key : List ℕ) (nodes : List Node) (free : List ℕ)
    → IsRooted fewest most top least_key nodes free → root_least (height_of nodes) ≤ top → IsTree fewest most least_key nodes
IsTree-from_rooted fewest most top least_key nodes free rooted enough = record {
  first = rooted.first;
  subtree =
      let parts = IsSubtree-parts nodes fewest most (height_of nodes) top least_key None 0 rooted.subtree in
      let least = parts.0.enough in
      IsSubtree-top nodes fewest most (height_of nodes) top (root_least (height_of nodes)) least_key None 0
      (omega (arith, least, enough)) rooted.subtree;
  free = free;
  are_free = rooted.are_free;
  once = λ q within. rooted.once q ∙ has_page-yes nodes q within;
  no_others = λ q past. rooted.once q ∙ has_page-no nodes q past;
}

pub StandOnce-rooted : (fewest most top : ℕ) (least_key : List ℕ) (nodes : List Node) (free : List ℕ)
    → IsRooted fewest most top least_key nodes free → StandOnce nodes free (height_of nodes) 0
StandOnce-rooted fewest most top least_key nodes free rooted q = let once = rooted.once q in omega (arith, once)

-- the root's subtree takes another form
pub IsRooted-reshaped : (fewest most top least : ℕ) (least_key : List ℕ) (old new : List Node) (was_free is_free : List ℕ)
    → IsRooted fewest most top least_key old was_free → Reshapes old new was_free is_free (height_of old) 0
    → IsSubtree new fewest most (height_of old) least least_key None 0
    → IsRooted fewest most least least_key new is_free
IsRooted-reshaped fewest most top least least_key old new was_free is_free rooted reshapes subtree = record {
  first = (let longer = reshapes.longer in let some = rooted.first in omega (arith, longer, some));
  subtree = subst (λ h. IsSubtree new fewest most h least least_key None 0) (sym reshapes.height) subtree;
  are_free = reshapes.are_free;
  once = λ q.
      let was = rooted.once q in let places = reshapes.places q in
      let height : times q (pages_under new (height_of new) 0 ++ is_free)
      ≡ times q (pages_under new (height_of old) 0 ++ is_free) =
      ap (λ h. times q (pages_under new h 0 ++ is_free)) reshapes.height in
      omega (arith, was, places, height);
}

pub IsTree-reshaped : (fewest most : ℕ) (least_key : List ℕ) (old new : List Node) (is_free : List ℕ)
    (tree : IsTree fewest most least_key old) → Reshapes old new tree.free is_free (height_of old) 0
    → IsSubtree new fewest most (height_of old) (root_least (height_of old)) least_key None 0
    → IsTree fewest most least_key new
IsTree-reshaped fewest most least_key old new is_free tree reshapes subtree =
    IsTree-from_rooted fewest most (root_least (height_of old)) least_key new is_free
    (IsRooted-reshaped fewest most (root_least (height_of old)) (root_least (height_of old)) least_key old new tree.free
    is_free (IsRooted-from_tree fewest most least_key old tree) reshapes subtree)
    (let same : root_least (height_of new) ≡ root_least (height_of old) = ap root_least reshapes.height in
    omega (arith, same))

-- ---- one level more

module _ (old new : List Node) (was_free is_free : List ℕ) (least_key : List ℕ) (child : ℕ)
    (raises : Raises old new was_free is_free least_key child) (depth : ℕ) (once : StandOnce old was_free depth 0) where
  raised-counts : (q : ℕ) → times q (pages_under old depth 0 ++ was_free)
      ≡ same_as q 0 + times q (pages_of old depth (node_at old 0).items) + times q was_free
  raised-counts q =
      let all = times-append q (pages_under old depth 0) was_free in
      let here = pages_under-items old depth 0 q in
      omega (arith, all, here)

  raised-keeps : KeepItems old new (pages_of old depth (node_at old 0).items)
  raised-keeps q there =
      let all = once q in let split = raised-counts q in let most = has_page-le old q in
      raises.others q (within-has_page old q (omega (arith, all, split, there)))
      (λ root.
      let one : same_as q 0 ≡ 1 = ap (same_as q) (sym root) ∙ same_as-same q in
      omega (arith, all, split, most, there, one))
      (omega (arith, all, split, most, there))

  pub entries_under-raised : entries_under new (suc depth) 0 ≡ entries_under old depth 0
  entries_under-raised =
      ap (entries_of new (suc depth)) raises.root ∙ append-nil (entries_under new depth child)
      ∙ entries_under-moved old new depth 0 child raises.moved raised-keeps

  pub places-raised : (q : ℕ) → times q (pages_under new (suc depth) 0 ++ is_free) + has_page old q
      ≡ times q (pages_under old depth 0 ++ was_free) + has_page new q
  places-raised q =
      let one = raised-counts q in
      let all = times-append q (pages_under new (suc depth) 0) is_free in
      let here = pages_under-items new (suc depth) 0 q in
      let only : times q (pages_of new (suc depth) (node_at new 0).items) ≡ times q (pages_under new depth child) =
      ap (λ i. times q (pages_of new (suc depth) i)) raises.root
      ∙ ap (times q) (append-nil (pages_under new depth child)) in
      let two = pages_under-items new depth child q in
      let same = ap (times q) (pages_of-moved old new depth 0 child raises.moved raised-keeps) in
      let free = raises.free q in
      omega (arith, one, all, here, only, two, same, free)

  pub IsSubtree-raised : (fewest most top : ℕ) → 0 < most → fewest ≤ length (node_at old 0).items
      → IsSubtree old fewest most depth top least_key None 0
      → IsSubtree new fewest most (suc depth) 1 least_key None 0
  IsSubtree-raised fewest most top some enough tree =
      subst (IsInner (IsSubtree new fewest most depth fewest) 1 most least_key None) (sym raises.root)
      (record {
        filled = record { enough = omega arith; fits = omega (arith, some) };
        begin = refl;
        parts = (
          IsSubtree-moved old new depth 0 child raises.moved raised-keeps fewest most top fewest least_key None enough tree,
          tt,
        );
      })

-- a root of one child, whose page is full enough
pub IsRooted-raised : (fewest most top : ℕ) (least_key : List ℕ) (old new : List Node) (was_free is_free : List ℕ)
    (child : ℕ) → 0 < most → fewest ≤ length (node_at old 0).items → IsRooted fewest most top least_key old was_free
    → Raises old new was_free is_free least_key child → IsRooted fewest most 1 least_key new is_free
IsRooted-raised fewest most top least_key old new was_free is_free child some enough rooted raises =
    let once = StandOnce-rooted fewest most top least_key old was_free rooted in
    record {
      first = (let longer = raises.longer in let first = rooted.first in omega (arith, longer, first));
      subtree = subst (λ h. IsSubtree new fewest most h 1 least_key None 0) (sym raises.height)
          (IsSubtree-raised old new was_free is_free least_key child raises (height_of old) once fewest most top some enough
          rooted.subtree);
      are_free = raises.are_free;
      once = λ q.
          let was = rooted.once q in
          let places = places-raised old new was_free is_free least_key child raises (height_of old) once q in
          let height : times q (pages_under new (height_of new) 0 ++ is_free)
          ≡ times q (pages_under new (suc (height_of old)) 0 ++ is_free) =
          ap (λ h. times q (pages_under new h 0 ++ is_free)) raises.height in
          omega (arith, was, places, height);
    }

-- the root is split: it is raised, and then its only child is split
pub IsTree-split_root : (fewest most top : ℕ) (least_key : List ℕ) (old between new : List Node)
    (was_free free is_free : List ℕ) (child : ℕ) (item right : Item) → 1 < most → 0 < fewest
    → fewest ≤ length (node_at old 0).items → IsRooted fewest most top least_key old was_free
    → Raises old between was_free free least_key child → Splits between new free is_free 0 [] item right []
    → fewest ≤ length (node_at new item.number).items → fewest ≤ length (node_at new right.number).items
    → IsTree fewest most least_key new
    × (entries_under new (height_of new) 0 ≡ entries_under old (height_of old) 0)
IsTree-split_root fewest most top least_key old between new was_free free is_free child item right room some enough rooted
    raises splits left rest =
    let one = IsRooted-raised fewest most top least_key old between was_free free child (omega (arith, room)) enough rooted
    raises in
    let once = StandOnce-rooted fewest most 1 least_key between free one in
    let before : StandOnce between free (suc (height_of old)) 0 =
    subst (λ h. StandOnce between free h 0) raises.height once in
    let only : length (node_at between 0).items ≡ 1 = ap length splits.old_items in
    let reshapes = Reshapes-split between new free is_free (height_of old) 0 [] item right [] splits before in
    let tree : IsSubtree between fewest most (suc (height_of old)) 1 least_key None 0 =
    subst (λ h. IsSubtree between fewest most h 1 least_key None 0) raises.height one.subtree in
    let split = IsSubtree-split between new free is_free (height_of old) 0 [] item right [] splits before fewest most 1 2
    least_key None some tree (omega (arith, only, room)) (omega (arith, only)) left rest in
    let height : height_of new ≡ suc (height_of old) = reshapes.height ∙ raises.height in (
      IsTree-from_rooted fewest most 2 least_key new is_free
          (IsRooted-reshaped fewest most 1 2 least_key between new free is_free one
          (subst (λ h. Reshapes between new free is_free h 0) (sym raises.height) reshapes)
          (subst (λ h. IsSubtree new fewest most h 2 least_key None 0) (sym raises.height) split))
          (let least : root_least (height_of new) ≡ 2 = ap root_least height in omega (arith, least)),
      ap (λ h. entries_under new h 0) height ∙ reshapes.entries
          ∙ entries_under-raised old between was_free free least_key child raises (height_of old)
          (StandOnce-rooted fewest most top least_key old was_free rooted),
    )

-- ---- one level less

module _ (old new : List Node) (free : List ℕ) (child : Item) (lowers : Lowers old new free child) (depth : ℕ)
    (once : StandOnce old free (suc depth) 0) where
  lowered-counts : (q : ℕ) → times q (pages_under old (suc depth) 0 ++ free)
      ≡ same_as q 0 + (same_as q child.number + times q (pages_of old depth (node_at old child.number).items))
      + times q free
  lowered-counts q =
      let all = times-append q (pages_under old (suc depth) 0) free in
      let here = pages_under-items old (suc depth) 0 q in
      let only : times q (pages_of old (suc depth) (node_at old 0).items)
      ≡ times q (pages_under old depth child.number) =
      ap (λ i. times q (pages_of old (suc depth) i)) lowers.root
      ∙ ap (times q) (append-nil (pages_under old depth child.number)) in
      let two = pages_under-items old depth child.number q in
      omega (arith, all, here, only, two)

  lowered-keeps : KeepItems old new (pages_of old depth (node_at old child.number).items)
  lowered-keeps q there =
      let all = once q in let split = lowered-counts q in let most = has_page-le old q in
      lowers.others q (within-has_page old q (omega (arith, all, split, there)))
      (λ root.
      let one : same_as q 0 ≡ 1 = ap (same_as q) (sym root) ∙ same_as-same q in
      omega (arith, all, split, most, there, one))
      (λ same.
      let one : same_as q child.number ≡ 1 = ap (same_as q) (sym same) ∙ same_as-same q in
      omega (arith, all, split, most, there, one))

  pub entries_under-lowered : entries_under new depth 0 ≡ entries_under old (suc depth) 0
  entries_under-lowered =
      entries_under-moved old new depth child.number 0 lowers.moved lowered-keeps
      ∙ sym (append-nil (entries_under old depth child.number)) ∙ ap (entries_of old (suc depth)) (sym lowers.root)

  pub places-lowered : (q : ℕ) → times q (pages_under new depth 0 ++ (child.number ∷ free)) + has_page old q
      ≡ times q (pages_under old (suc depth) 0 ++ free) + has_page new q
  places-lowered q =
      let one = lowered-counts q in
      let all = times-append q (pages_under new depth 0) (child.number ∷ free) in
      let here = pages_under-items new depth 0 q in
      let same = ap (times q) (pages_of-moved old new depth child.number 0 lowers.moved lowered-keeps) in
      let has : has_page new q ≡ has_page old q = ap (λ (n : ℕ). cond {A = ℕ} (ltb q n) 1 0) lowers.pages in
      omega (arith, one, all, here, same, has)

  pub IsSubtree-lowered : (fewest most top : ℕ) (low : List ℕ) (high : Option (List ℕ))
      → IsSubtree old fewest most (suc depth) top low high 0 → IsSubtree new fewest most depth fewest low high 0
  IsSubtree-lowered fewest most top low high tree =
      let begin : BeginsWith low (child ∷ []) = subst (BeginsWith low) lowers.root tree.begin in
      let parts : HasParts (IsSubtree old fewest most depth fewest) (child ∷ []) high =
      subst (λ i. HasParts (IsSubtree old fewest most depth fewest) i high) lowers.root tree.parts in
      let filled = IsSubtree-parts old fewest most depth fewest child.key high child.number parts.0 in
      IsSubtree-moved old new depth child.number 0 lowers.moved lowered-keeps fewest most fewest fewest low high
      filled.0.enough (subst (λ k. IsSubtree old fewest most depth fewest k high child.number) begin parts.0)

pub IsRooted-lowered : (fewest most top : ℕ) (least_key : List ℕ) (old new : List Node) (free : List ℕ) (child : Item)
    → IsRooted fewest most top least_key old free → Lowers old new free child
    → IsRooted fewest most fewest least_key new (child.number ∷ free)
IsRooted-lowered fewest most top least_key old new free child rooted lowers =
    let once : StandOnce old free (suc (height_of new)) 0 =
    subst (λ h. StandOnce old free h 0) lowers.height (StandOnce-rooted fewest most top least_key old free rooted) in
    record {
      first = (let same = lowers.pages in let first = rooted.first in omega (arith, same, first));
      subtree = IsSubtree-lowered old new free child lowers (height_of new) once fewest most top least_key None
          (subst (λ h. IsSubtree old fewest most h top least_key None 0) lowers.height rooted.subtree);
      are_free = lowers.are_free;
      once = λ q.
          let was = rooted.once q in
          let places = places-lowered old new free child lowers (height_of new) once q in
          let height : times q (pages_under old (height_of old) 0 ++ free)
          ≡ times q (pages_under old (suc (height_of new)) 0 ++ free) =
          ap (λ h. times q (pages_under old h 0 ++ free)) lowers.height in
          omega (arith, was, places, height);
    }

root_least-le : (height fewest : ℕ) → 1 < fewest → root_least height ≤ fewest
root_least-le zero fewest two = omega arith
root_least-le (suc height) fewest two = omega (arith, two)

pub IsTree-lowered : (fewest most top : ℕ) (least_key : List ℕ) (old new : List Node) (free : List ℕ) (child : Item)
    → 1 < fewest → IsRooted fewest most top least_key old free → Lowers old new free child
    → IsTree fewest most least_key new × (entries_under new (height_of new) 0 ≡ entries_under old (height_of old) 0)
IsTree-lowered fewest most top least_key old new free child two rooted lowers = (
  IsTree-from_rooted fewest most fewest least_key new (child.number ∷ free)
      (IsRooted-lowered fewest most top least_key old new free child rooted lowers)
      (root_least-le (height_of new) fewest two),
  entries_under-lowered old new free child lowers (height_of new)
      (subst (λ h. StandOnce old free h 0) lowers.height (StandOnce-rooted fewest most top least_key old free rooted))
      ∙ ap (λ h. entries_under old h 0) (sym lowers.height),
)
