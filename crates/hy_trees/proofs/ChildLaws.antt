-- A child that is split, two that are joined, and items that move between two: the tree under their parent.
use Rattle.std.proofs.Common.{◌≡◌, ℕ, suc, ◌+◌, ◌<◌, ◌≤◌, cond, ltb, List, [], ◌∷◌, ◌++◌, length, Option, refl, ap, sym, ◌∙◌, arith}
use Rattle.std.proofs.lemmas.List.{append-nil, length-append}
use Rattle.hy_trees.specs.Nodes.{Item, Node, node_at}
use Rattle.hy_trees.specs.Trees.{IsFilled, IsSubtree, Reshapes, StandOnce, has_page, next_key}
use Rattle.hy_trees.specs.Groups.{Joins, Regroups, Shares, Splits}
use Rattle.hy_trees.proofs.CountLaws.{differs-from_same_as}
use Rattle.hy_trees.proofs.LiftLaws.{IsSubtree-child}
use Rattle.hy_trees.proofs.PartLaws.{IsSubtree-parts}
use Rattle.hy_trees.proofs.GroupLaws.{IsSubtree-regrouped, Reshapes-regrouped}

-- ---- a split

module _ (old new : List Node) (was_free is_free : List ℕ) (depth page : ℕ) (before : List Item) (item right : Item)
    (behind : List Item) (splits : Splits old new was_free is_free page before item right behind)
    (once : StandOnce old was_free (suc depth) page) where
  pub Regroups-split : Regroups old new was_free is_free page before (item ∷ []) (item ∷ (right ∷ [])) behind
  Regroups-split = record {
    longer = splits.longer;
    old_items = splits.old_items;
    new_items = splits.new_items;
    below = ap (λ i. (node_at new item.number).items ++ i) (append-nil (node_at new right.number).items)
        ∙ splits.halves ∙ sym (append-nil (node_at old item.number).items);
    are_free = splits.are_free;
    free = λ q. let free = splits.free q in omega (arith, free);
    others = λ q within differs none free.
        splits.others q within differs (differs-from_same_as q item.number (omega (arith, none))) free;
    height = splits.height;
  }

  pub Reshapes-split : Reshapes old new was_free is_free (suc depth) page
  Reshapes-split =
      Reshapes-regrouped old new was_free is_free depth page before (item ∷ []) (item ∷ (right ∷ [])) behind
      Regroups-split once

  pub IsSubtree-split : (fewest most top least : ℕ) (low : List ℕ) (high : Option (List ℕ)) → 0 < fewest
      → IsSubtree old fewest most (suc depth) top low high page
      → length (node_at old page).items < most → least ≤ length (node_at old page).items + 1
      → fewest ≤ length (node_at new item.number).items → fewest ≤ length (node_at new right.number).items
      → IsSubtree new fewest most (suc depth) least low high page
  IsSubtree-split fewest most top least low high some tree room enough left rest =
      IsSubtree-regrouped old new was_free is_free depth page before item [] item (right ∷ []) behind Regroups-split once
      fewest most top least low high some tree refl
      (record {
        enough = (let one = lengths in let two = items in omega (arith, one, two, enough));
        fits = (let one = lengths in let two = items in omega (arith, one, two, room));
      })
      (record { enough = left; fits = omega (arith, whole) }, (record { enough = rest; fits = omega (arith, whole) }, tt))
      (splits.key, tt)
    where
      items : length (node_at old page).items ≡ length before + suc (length behind)
      items = ap length splits.old_items ∙ length-append before (item ∷ behind)

      lengths : length (before ++ (item ∷ (right ∷ behind))) ≡ length before + suc (suc (length behind))
      lengths = length-append before (item ∷ (right ∷ behind))

      whole : length (node_at new item.number).items + length (node_at new right.number).items ≤ most
      whole =
          let child = IsSubtree-child old fewest most depth top low high page before item behind splits.old_items tree in
          let parts = IsSubtree-parts old fewest most depth fewest item.key (next_key behind high) item.number child in
          let fits = parts.0.fits in
          let both = length-append (node_at new item.number).items (node_at new right.number).items in
          let halves = ap length splits.halves in
          omega (arith, fits, both, halves)

-- ---- a join

module _ (old new : List Node) (free : List ℕ) (depth page : ℕ) (before : List Item) (one two : Item)
    (behind : List Item) (joins : Joins old new free page before one two behind)
    (once : StandOnce old free (suc depth) page) where
  pub Regroups-join : Regroups old new free (two.number ∷ free) page before (one ∷ (two ∷ [])) (one ∷ []) behind
  Regroups-join = record {
    longer = (let same = joins.pages in omega (arith, same));
    old_items = joins.old_items;
    new_items = joins.new_items;
    below = append-nil (node_at new one.number).items ∙ joins.joined
        ∙ ap (λ i. (node_at old one.number).items ++ i) (sym (append-nil (node_at old two.number).items));
    are_free = joins.are_free;
    free = λ q. let same : has_page new q ≡ has_page old q = ap (λ (n : ℕ). cond {A = ℕ} (ltb q n) 1 0) joins.pages in omega (arith, same);
    others = λ q within differs none no.
        joins.others q within differs (differs-from_same_as q one.number (omega (arith, none)))
        (differs-from_same_as q two.number (omega (arith, none)));
    height = joins.height;
  }

  pub Reshapes-join : Reshapes old new free (two.number ∷ free) (suc depth) page
  Reshapes-join =
      Reshapes-regrouped old new free (two.number ∷ free) depth page before (one ∷ (two ∷ [])) (one ∷ []) behind
      Regroups-join once

  pub IsSubtree-join : (fewest most top least : ℕ) (low : List ℕ) (high : Option (List ℕ)) → 0 < fewest
      → IsSubtree old fewest most (suc depth) top low high page → least < length (node_at old page).items
      → length (node_at old one.number).items + length (node_at old two.number).items ≤ most
      → fewest ≤ length (node_at old one.number).items + length (node_at old two.number).items
      → IsSubtree new fewest most (suc depth) least low high page
  IsSubtree-join fewest most top least low high some tree enough fits more =
      IsSubtree-regrouped old new free (two.number ∷ free) depth page before one (two ∷ []) one [] behind Regroups-join once
      fewest most top least low high some tree refl
      (record {
        enough = omega (arith, items, lengths, enough);
        fits = (let all = tree.filled.fits in omega (arith, items, lengths, all));
      })
      (record { enough = omega (arith, both, more); fits = omega (arith, both, fits) }, tt) tt
    where
      items : length (node_at old page).items ≡ length before + suc (suc (length behind))
      items = ap length joins.old_items ∙ length-append before (one ∷ (two ∷ behind))

      lengths : length (before ++ (one ∷ behind)) ≡ length before + suc (length behind)
      lengths = length-append before (one ∷ behind)

      both : length (node_at new one.number).items
          ≡ length (node_at old one.number).items + length (node_at old two.number).items
      both = ap length joins.joined ∙ length-append (node_at old one.number).items (node_at old two.number).items

-- ---- a move

module _ (old new : List Node) (free : List ℕ) (depth page : ℕ) (before : List Item) (one two : Item) (key : List ℕ)
    (behind : List Item) (shares : Shares old new free page before one two key behind)
    (once : StandOnce old free (suc depth) page) where
  pub Regroups-share : Regroups old new free free page before (one ∷ (two ∷ []))
      (one ∷ (record { key = key; number = two.number } ∷ [])) behind
  Regroups-share = record {
    longer = (let same = shares.pages in omega (arith, same));
    old_items = shares.old_items;
    new_items = shares.new_items;
    below = ap (λ i. (node_at new one.number).items ++ i) (append-nil (node_at new two.number).items) ∙ shares.moved
        ∙ ap (λ i. (node_at old one.number).items ++ i) (sym (append-nil (node_at old two.number).items));
    are_free = shares.are_free;
    free = λ q. let same : has_page new q ≡ has_page old q = ap (λ (n : ℕ). cond {A = ℕ} (ltb q n) 1 0) shares.pages in omega (arith, same);
    others = λ q within differs none no.
        shares.others q within differs (differs-from_same_as q one.number (omega (arith, none)))
        (differs-from_same_as q two.number (omega (arith, none)));
    height = shares.height;
  }

  pub Reshapes-share : Reshapes old new free free (suc depth) page
  Reshapes-share =
      Reshapes-regrouped old new free free depth page before (one ∷ (two ∷ []))
      (one ∷ (record { key = key; number = two.number } ∷ [])) behind Regroups-share once

  pub IsSubtree-share : (fewest most top : ℕ) (low : List ℕ) (high : Option (List ℕ)) → 0 < fewest
      → IsSubtree old fewest most (suc depth) top low high page
      → IsFilled fewest most (node_at new one.number).items → IsFilled fewest most (node_at new two.number).items
      → IsSubtree new fewest most (suc depth) top low high page
  IsSubtree-share fewest most top low high some tree first second =
      IsSubtree-regrouped old new free free depth page before one (two ∷ []) one
      (record { key = key; number = two.number } ∷ []) behind Regroups-share once fewest most top top low high some tree refl
      (record {
        enough = (let all = tree.filled.enough in omega (arith, items, lengths, all));
        fits = (let all = tree.filled.fits in omega (arith, items, lengths, all));
      })
      (first, (second, tt)) (shares.key, tt)
    where
      items : length (node_at old page).items ≡ length before + suc (suc (length behind))
      items = ap length shares.old_items ∙ length-append before (one ∷ (two ∷ behind))

      lengths : length (before ++ (one ∷ (record { key = key; number = two.number } ∷ behind)))
          ≡ length before + suc (suc (length behind))
      lengths = length-append before (one ∷ (record { key = key; number = two.number } ∷ behind))
