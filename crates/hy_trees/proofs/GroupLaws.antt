-- Some children of a page get their items anew: what becomes of the tree under the page.
use Rattle.std.proofs.Common.{◌≡◌, ℕ, zero, suc, ◌+◌, ◌<◌, List, [], ◌∷◌, ◌++◌, Option, Some, refl, ap, sym, subst, ◌∙◌, arith}
use Rattle.std.proofs.Math.Path.{ap₂}
use Rattle.std.specs.List.{flat_map}
use Rattle.std.proofs.lemmas.List.Concat.{flat_map-append}
use Rattle.hy_trees.specs.Nodes.{Item, Node, node_at}
use Rattle.hy_trees.specs.Trees.{BeginsWith, HasParts, IsFilled, IsInner, IsSubtree, KeepItems, Reshapes, StandOnce, times, entries_below, entries_under, items_below, next_key, numbers, pages_below, pages_under, same_as}
use Rattle.hy_trees.specs.Groups.{AreFilled, AreKeyed, BeginsAt, PartAt, Regroups}
use Rattle.hy_trees.proofs.CountLaws.{times-append, has_page-le, same_as-same, within-has_page}
use Rattle.hy_trees.proofs.FrameLaws.{HasSubtrees-kept, entries_below-kept, pages_below-kept}
use Rattle.hy_trees.proofs.LiftLaws.{HasParts-append, HasParts-behind, HasParts-front, times-split}
use Rattle.hy_trees.proofs.PartLaws.{HasSubtrees-from_parts, items_below-parts}

-- ---- what stands below the items of children

abbrev pub entries_of : List Node → ℕ → List Item → List Item
entries_of nodes zero items = items
entries_of nodes (suc depth) items = entries_below nodes depth items

abbrev pub pages_of : List Node → ℕ → List Item → List ℕ
pages_of nodes zero items = []
pages_of nodes (suc depth) items = pages_below nodes depth items

pub entries_below-items : (nodes : List Node) (depth : ℕ) (items : List Item)
    → entries_below nodes depth items ≡ entries_of nodes depth (items_below nodes items)
entries_below-items nodes zero items = refl
entries_below-items nodes (suc depth) [] = refl
entries_below-items nodes (suc depth) (item ∷ items) =
    ap (λ e. entries_under nodes (suc depth) item.number ++ e) (entries_below-items nodes (suc depth) items)
    ∙ sym (flat_map-append (λ (i : Item). entries_under nodes depth i.number) (node_at nodes item.number).items
    (items_below nodes items))

pub pages_below-items : (nodes : List Node) (depth : ℕ) (items : List Item) (q : ℕ)
    → times q (pages_below nodes depth items)
    ≡ times q (numbers items) + times q (pages_of nodes depth (items_below nodes items))
pages_below-items nodes zero [] q = refl
pages_below-items nodes zero (item ∷ items) q =
    let rest = pages_below-items nodes zero items q in omega (arith, rest)
pages_below-items nodes (suc depth) [] q = refl
pages_below-items nodes (suc depth) (item ∷ items) q =
    let rest = pages_below-items nodes (suc depth) items q in
    let here = times-append q (pages_under nodes (suc depth) item.number) (pages_below nodes (suc depth) items) in
    let both : times q (pages_below nodes depth ((node_at nodes item.number).items ++ items_below nodes items))
    ≡ times q (pages_below nodes depth (node_at nodes item.number).items)
    + times q (pages_below nodes depth (items_below nodes items)) =
    ap (times q) (flat_map-append (λ (i : Item). pages_under nodes depth i.number) (node_at nodes item.number).items
    (items_below nodes items))
    ∙ times-append q (pages_below nodes depth (node_at nodes item.number).items)
    (pages_below nodes depth (items_below nodes items)) in
    omega (arith, rest, here, both)

module _ (old new : List Node) where
  pub entries_of-kept : (depth : ℕ) (items : List Item) → KeepItems old new (pages_of old depth items)
      → entries_of new depth items ≡ entries_of old depth items
  entries_of-kept zero items keeps = refl
  entries_of-kept (suc depth) items keeps = entries_below-kept old new depth items keeps

  pub pages_of-kept : (depth : ℕ) (items : List Item) → KeepItems old new (pages_of old depth items)
      → pages_of new depth items ≡ pages_of old depth items
  pages_of-kept zero items keeps = refl
  pages_of-kept (suc depth) items keeps = pages_below-kept old new depth items keeps

  pub PartAt-kept : (fewest most depth : ℕ) (items : List Item) (high : Option (List ℕ))
      → KeepItems old new (pages_of old depth items) → HasParts (PartAt old fewest most depth) items high
      → HasParts (PartAt new fewest most depth) items high
  PartAt-kept fewest most zero items high keeps parts = same items high parts
    where
      same : (i : List Item) (h : Option (List ℕ)) → HasParts (PartAt old fewest most zero) i h
          → HasParts (PartAt new fewest most zero) i h
      same [] h p = tt
      same (x ∷ i) h p = (p.0, same i h p.1)
  PartAt-kept fewest most (suc depth) items high keeps parts =
      HasSubtrees-kept old new fewest most depth items high keeps parts

-- the parts of a page's subtree, where its items are those before some, these, and those behind them
module _ (nodes : List Node) (depth page : ℕ) (before middle behind : List Item)
    (items : (node_at nodes page).items ≡ before ++ (middle ++ behind)) where
  below-three : {A : Type 0} (f : Item → List A) → flat_map f (node_at nodes page).items
      ≡ flat_map f before ++ (flat_map f middle ++ flat_map f behind)
  below-three f =
      ap (flat_map f) items ∙ flat_map-append f before (middle ++ behind)
      ∙ ap (λ b. flat_map f before ++ b) (flat_map-append f middle behind)

  pub entries_under-three : entries_under nodes (suc depth) page
      ≡ entries_below nodes depth before ++ (entries_below nodes depth middle ++ entries_below nodes depth behind)
  entries_under-three = below-three (λ item. entries_under nodes depth item.number)

  pub pages_under-three : pages_under nodes (suc depth) page
      ≡ page ∷ (pages_below nodes depth before ++ (pages_below nodes depth middle ++ pages_below nodes depth behind))
  pages_under-three = ap (λ pages. page ∷ pages) (below-three (λ item. pages_under nodes depth item.number))

  pub times-three : (free : List ℕ) (q : ℕ) → times q (pages_under nodes (suc depth) page ++ free)
      ≡ same_as q page + (times q (pages_below nodes depth before) + ((times q (numbers middle)
      + times q (pages_of nodes depth (items_below nodes middle)))
      + times q (pages_below nodes depth behind))) + times q free
  times-three free q =
      let all = times-split q page (pages_under nodes (suc depth) page) (pages_below nodes depth before)
      (pages_below nodes depth middle) (pages_below nodes depth behind) free pages_under-three in
      let part = pages_below-items nodes depth middle q in
      omega (arith, all, part)

-- ---- some children get their items anew

module _ (old new : List Node) (was_free is_free : List ℕ) (depth page : ℕ) (before was is behind : List Item)
    (regroups : Regroups old new was_free is_free page before was is behind)
    (once : StandOnce old was_free (suc depth) page) where
  counted : (q : ℕ) → times q (pages_under old (suc depth) page ++ was_free)
      ≡ same_as q page + (times q (pages_below old depth before) + ((times q (numbers was)
      + times q (pages_of old depth (items_below old was)))
      + times q (pages_below old depth behind))) + times q was_free
  counted = times-three old depth page before was behind regroups.old_items was_free

  -- a page of the subtree that isn't the one whose items change, nor one of those children
  elsewhere : (q : ℕ) → 0 < times q (pages_below old depth before)
      + (times q (pages_of old depth (items_below old was)) + times q (pages_below old depth behind))
      → (node_at new q).items ≡ (node_at old q).items
  elsewhere q there =
      let all = once q in let split = counted q in
      let most = has_page-le old q in
      regroups.others q (within-has_page old q (omega (arith, all, split, there)))
      (λ same.
      let one : same_as q page ≡ 1 = ap (same_as q) (sym same) ∙ same_as-same q in
      omega (arith, all, split, most, there, one))
      (omega (arith, all, split, most, there)) (omega (arith, all, split, most, there))

  keeps-before : KeepItems old new (pages_below old depth before)
  keeps-before q there = elsewhere q (omega (arith, there))

  keeps-behind : KeepItems old new (pages_below old depth behind)
  keeps-behind q there = elsewhere q (omega (arith, there))

  keeps-below : KeepItems old new (pages_of old depth (items_below old was))
  keeps-below q there = elsewhere q (omega (arith, there))

  same-entries : entries_below new depth is ≡ entries_below old depth was
  same-entries =
      entries_below-items new depth is ∙ ap (entries_of new depth) regroups.below
      ∙ entries_of-kept old new depth (items_below old was) keeps-below ∙ sym (entries_below-items old depth was)

  same-pages : pages_of new depth (items_below new is) ≡ pages_of old depth (items_below old was)
  same-pages = ap (pages_of new depth) regroups.below ∙ pages_of-kept old new depth (items_below old was) keeps-below

  pub Reshapes-regrouped : Reshapes old new was_free is_free (suc depth) page
  Reshapes-regrouped = record {
    longer = regroups.longer;
    entries = entries_under-three new depth page before is behind regroups.new_items
        ∙ ap₂ (λ a b. a ++ (entries_below new depth is ++ b)) (entries_below-kept old new depth before keeps-before)
        (entries_below-kept old new depth behind keeps-behind)
        ∙ ap (λ e. entries_below old depth before ++ (e ++ entries_below old depth behind)) same-entries
        ∙ sym (entries_under-three old depth page before was behind regroups.old_items);
    are_free = regroups.are_free;
    places = λ q.
        let one = counted q in
        let two = times-three new depth page before is behind regroups.new_items is_free q in
        let front = ap (times q) (pages_below-kept old new depth before keeps-before) in
        let back = ap (times q) (pages_below-kept old new depth behind keeps-behind) in
        let below = ap (times q) same-pages in
        let free = regroups.free q in
        omega (arith, one, two, front, back, below, free);
    others = λ q within none.
        let all = counted q in
        regroups.others q within
        (λ same.
        let one : same_as q page ≡ 1 = ap (same_as q) (sym same) ∙ same_as-same q in
        omega (arith, all, none, one))
        (omega (arith, all, none)) (omega (arith, all, none));
    height = regroups.height;
  }

-- what the subtree is then: the former items of the group begin with one, and the new ones with one of the same key
module _ (old new : List Node) (was_free is_free : List ℕ) (depth page : ℕ) (before : List Item) (first : Item)
    (was : List Item) (one : Item) (is behind : List Item)
    (regroups : Regroups old new was_free is_free page before (first ∷ was) (one ∷ is) behind)
    (once : StandOnce old was_free (suc depth) page) where
  pub IsSubtree-regrouped : (fewest most top least : ℕ) (low : List ℕ) (high : Option (List ℕ)) → 0 < fewest
      → IsSubtree old fewest most (suc depth) top low high page → one.key ≡ first.key
      → IsFilled least most (before ++ (one ∷ is ++ behind)) → AreFilled new fewest most (one ∷ is) → AreKeyed new is
      → IsSubtree new fewest most (suc depth) least low high page
  IsSubtree-regrouped fewest most top least low high some tree same filled are_filled are_keyed =
      subst (IsInner (IsSubtree new fewest most depth fewest) least most low high) (sym regroups.new_items)
      (record {
        filled = filled;
        begin = begins before (subst (BeginsWith low) regroups.old_items tree.begin);
        parts = HasParts-append (IsSubtree new fewest most depth fewest) before (one ∷ is ++ behind) high
            (subst (λ k. HasParts (IsSubtree new fewest most depth fewest) before (Some k)) (sym same)
            (HasSubtrees-kept old new fewest most depth before (Some first.key)
            (keeps-before old new was_free is_free depth page before (first ∷ was) (one ∷ is) behind regroups once)
            (HasParts-front (IsSubtree old fewest most depth fewest) before (first ∷ was ++ behind) high all)))
            (HasParts-append (IsSubtree new fewest most depth fewest) (one ∷ is) behind high middle
            (HasSubtrees-kept old new fewest most depth behind high
            (keeps-behind old new was_free is_free depth page before (first ∷ was) (one ∷ is) behind regroups once)
            (HasParts-behind (IsSubtree old fewest most depth fewest) (first ∷ was) behind high rest)));
      })
    where
      all : HasParts (IsSubtree old fewest most depth fewest) (before ++ (first ∷ was ++ behind)) high
      all = subst (λ i. HasParts (IsSubtree old fewest most depth fewest) i high) regroups.old_items tree.parts

      rest : HasParts (IsSubtree old fewest most depth fewest) (first ∷ was ++ behind) high
      rest = HasParts-behind (IsSubtree old fewest most depth fewest) before (first ∷ was ++ behind) high all

      end : Option (List ℕ)
      end = next_key behind high

      begins : (front : List Item) → BeginsWith low (front ++ (first ∷ was ++ behind))
          → BeginsWith low (front ++ (one ∷ is ++ behind))
      begins [] begin = same ∙ begin
      begins (x ∷ front) begin = begin

      middle : HasParts (IsSubtree new fewest most depth fewest) (one ∷ is) (next_key behind high)
      middle =
          let parts = items_below-parts old fewest most some depth first was (next_key behind high)
          (HasParts-front (IsSubtree old fewest most depth fewest) (first ∷ was) behind high rest) in
          HasSubtrees-from_parts new fewest most some depth one is (next_key behind high) are_filled are_keyed
          (subst (BeginsAt depth one.key) (sym regroups.below) (subst (λ k. BeginsAt depth k (items_below old (first ∷ was))) (sym same) parts.1))
          (subst (λ i. HasParts (PartAt new fewest most depth) i (next_key behind high)) (sym regroups.below)
          (PartAt-kept old new fewest most depth (items_below old (first ∷ was)) (next_key behind high)
          (keeps-below old new was_free is_free depth page before (first ∷ was) (one ∷ is) behind regroups once) parts.2))
