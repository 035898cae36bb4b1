-- What holds under a page where the subtree of one child takes another form.
use Rattle.std.proofs.Common.{◌≡◌, ℕ, suc, ◌+◌, ◌<◌, List, [], ◌∷◌, ◌++◌, Option, Some, ap, sym, subst, ◌∙◌, arith}
use Rattle.std.proofs.Math.Path.{ap₂}
use Rattle.std.proofs.lemmas.List.Concat.{flat_map-append}
use Rattle.hy_trees.specs.Nodes.{Item, Node, node_at}
use Rattle.hy_trees.specs.Trees.{times, entries_below, entries_under, pages_below, pages_under, same_as, HasParts, IsInner, IsSubtree, KeepItems, Reshapes, StandOnce, next_key}
use Rattle.hy_trees.proofs.CountLaws.{times-append, has_page-le, same_as-same, within-has_page}
use Rattle.hy_trees.proofs.FrameLaws.{entries_below-kept, pages_below-kept, HasSubtrees-kept}

-- how often a number stands among the pages under one and those behind them
pub times-split : (q page : ℕ) (pages front middle behind free : List ℕ)
    → pages ≡ page ∷ (front ++ (middle ++ behind))
    → times q (pages ++ free)
    ≡ same_as q page + (times q front + (times q middle + times q behind)) + times q free
times-split q page pages front middle behind free is =
    let all = times-append q pages free in
    let here : times q pages ≡ same_as q page + times q (front ++ (middle ++ behind)) = ap (times q) is in
    let one = times-append q front (middle ++ behind) in
    let two = times-append q middle behind in
    omega (arith, all, here, one, two)

-- the parts of a list, and of what stands behind each of them
pub HasParts-append : (P : List ℕ → Option (List ℕ) → ℕ → Type 0) (xs ys : List Item) (high : Option (List ℕ))
    → HasParts P xs (next_key ys high) → HasParts P ys high → HasParts P (xs ++ ys) high
HasParts-append P [] ys high first second = second
HasParts-append P (x ∷ []) ys high first second = (first.0, second)
HasParts-append P (x ∷ (y ∷ xs)) ys high first second = (first.0, HasParts-append P (y ∷ xs) ys high first.1 second)

pub HasParts-front : (P : List ℕ → Option (List ℕ) → ℕ → Type 0) (xs ys : List Item) (high : Option (List ℕ))
    → HasParts P (xs ++ ys) high → HasParts P xs (next_key ys high)
HasParts-front P [] ys high all = tt
HasParts-front P (x ∷ []) ys high all = (all.0, tt)
HasParts-front P (x ∷ (y ∷ xs)) ys high all = (all.0, HasParts-front P (y ∷ xs) ys high all.1)

pub HasParts-behind : (P : List ℕ → Option (List ℕ) → ℕ → Type 0) (xs ys : List Item) (high : Option (List ℕ))
    → HasParts P (xs ++ ys) high → HasParts P ys high
HasParts-behind P [] ys high all = all
HasParts-behind P (x ∷ xs) ys high all = HasParts-behind P xs ys high all.1

module _ (nodes : List Node) (depth : ℕ) (page : ℕ) (xs : List Item) (item : Item) (ys : List Item)
    (items : (node_at nodes page).items ≡ xs ++ item ∷ ys) where
  pub entries_under-child : entries_under nodes (suc depth) page
      ≡ entries_below nodes depth xs ++ (entries_under nodes depth item.number ++ entries_below nodes depth ys)
  entries_under-child =
      ap (entries_below nodes depth) items
      ∙ flat_map-append (λ (i : Item). entries_under nodes depth i.number) xs (item ∷ ys)

  pub pages_under-child : pages_under nodes (suc depth) page
      ≡ page ∷ (pages_below nodes depth xs ++ (pages_under nodes depth item.number ++ pages_below nodes depth ys))
  pages_under-child =
      ap (λ pages. page ∷ pages) (ap (pages_below nodes depth) items
      ∙ flat_map-append (λ (i : Item). pages_under nodes depth i.number) xs (item ∷ ys))

  pub times-child : (free : List ℕ) (q : ℕ) → times q (pages_under nodes (suc depth) page ++ free)
      ≡ same_as q page + (times q (pages_below nodes depth xs) + (times q (pages_under nodes depth item.number)
      + times q (pages_below nodes depth ys))) + times q free
  times-child free q =
      times-split q page (pages_under nodes (suc depth) page) (pages_below nodes depth xs)
      (pages_under nodes depth item.number) (pages_below nodes depth ys) free pages_under-child

  pub StandOnce-child : (free : List ℕ) → StandOnce nodes free (suc depth) page → StandOnce nodes free depth item.number
  StandOnce-child free once q =
      let all = once q in let split = times-child free q in
      let part = times-append q (pages_under nodes depth item.number) free in
      omega (arith, all, split, part)

module _ (old new : List Node) (depth : ℕ) (page : ℕ) (xs : List Item) (item : Item) (ys : List Item)
    (items : (node_at old page).items ≡ xs ++ item ∷ ys)
    (same : (node_at new page).items ≡ (node_at old page).items)
    (front : KeepItems old new (pages_below old depth xs))
    (behind : KeepItems old new (pages_below old depth ys)) where
  pub entries_under-of_child : entries_under new (suc depth) page
      ≡ entries_below old depth xs ++ (entries_under new depth item.number ++ entries_below old depth ys)
  entries_under-of_child =
      entries_under-child new depth page xs item ys (same ∙ items)
      ∙ ap₂ (λ a b. a ++ (entries_under new depth item.number ++ b))
      (entries_below-kept old new depth xs front) (entries_below-kept old new depth ys behind)

  pub pages_under-of_child : pages_under new (suc depth) page
      ≡ page ∷ (pages_below old depth xs ++ (pages_under new depth item.number ++ pages_below old depth ys))
  pages_under-of_child =
      pages_under-child new depth page xs item ys (same ∙ items)
      ∙ ap₂ (λ a b. page ∷ (a ++ (pages_under new depth item.number ++ b)))
      (pages_below-kept old new depth xs front) (pages_below-kept old new depth ys behind)

  pub IsSubtree-of_child : (fewest most top : ℕ) (low : List ℕ) (high : Option (List ℕ))
      → IsSubtree old fewest most (suc depth) top low high page
      → IsSubtree new fewest most depth fewest item.key (next_key ys high) item.number
      → IsSubtree new fewest most (suc depth) top low high page
  IsSubtree-of_child fewest most top low high tree child =
      let parts : HasParts (IsSubtree old fewest most depth fewest) (xs ++ item ∷ ys) high =
      subst (λ i. HasParts (IsSubtree old fewest most depth fewest) i high) items tree.parts in
      subst (IsInner (IsSubtree new fewest most depth fewest) top most low high) (sym same)
      (record {
        filled = tree.filled;
        begin = tree.begin;
        parts = subst (λ i. HasParts (IsSubtree new fewest most depth fewest) i high) (sym items)
            (HasParts-append (IsSubtree new fewest most depth fewest) xs (item ∷ ys) high
            (HasSubtrees-kept old new fewest most depth xs (Some item.key) front
            (HasParts-front (IsSubtree old fewest most depth fewest) xs (item ∷ ys) high parts)) (
              child,
              HasSubtrees-kept old new fewest most depth ys high behind
                  (HasParts-behind (IsSubtree old fewest most depth fewest) xs (item ∷ ys) high parts).1,
            ));
      })

-- the bounds that a child has
pub IsSubtree-child : (nodes : List Node) (fewest most depth top : ℕ) (low : List ℕ) (high : Option (List ℕ)) (page : ℕ)
    (xs : List Item) (item : Item) (ys : List Item) → (node_at nodes page).items ≡ xs ++ item ∷ ys
    → IsSubtree nodes fewest most (suc depth) top low high page
    → IsSubtree nodes fewest most depth fewest item.key (next_key ys high) item.number
IsSubtree-child nodes fewest most depth top low high page xs item ys items tree =
    (HasParts-behind (IsSubtree nodes fewest most depth fewest) xs (item ∷ ys) high
    (subst (λ i. HasParts (IsSubtree nodes fewest most depth fewest) i high) items tree.parts)).0

-- a child's subtree takes another form
module _ (old new : List Node) (depth : ℕ) (page : ℕ) (xs : List Item) (item : Item) (ys : List Item)
    (items : (node_at old page).items ≡ xs ++ item ∷ ys) (was_free is_free : List ℕ)
    (once : StandOnce old was_free (suc depth) page) (reshapes : Reshapes old new was_free is_free depth item.number) where
  split-old : (q : ℕ) → times q (pages_under old (suc depth) page ++ was_free)
      ≡ same_as q page + (times q (pages_below old depth xs) + (times q (pages_under old depth item.number)
      + times q (pages_below old depth ys))) + times q was_free
  split-old = times-child old depth page xs item ys items was_free

  -- a page of the subtree that isn't under the child
  pub elsewhere : (q : ℕ)
      → 0 < same_as q page + (times q (pages_below old depth xs) + times q (pages_below old depth ys))
      → (node_at new q).items ≡ (node_at old q).items
  elsewhere q there =
      let all = once q in let split = split-old q in
      let most = has_page-le old q in
      let part = times-append q (pages_under old depth item.number) was_free in
      reshapes.others q (within-has_page old q (omega (arith, all, split, there))) (omega (arith, all, split, most, part, there))

  pub same-page : (node_at new page).items ≡ (node_at old page).items
  same-page = elsewhere page (let one = same_as-same page in omega (arith, one))

  keeps-front : KeepItems old new (pages_below old depth xs)
  keeps-front q there = elsewhere q (omega (arith, there))

  keeps-behind : KeepItems old new (pages_below old depth ys)
  keeps-behind q there = elsewhere q (omega (arith, there))

  pub Reshapes-lift : Reshapes old new was_free is_free (suc depth) page
  Reshapes-lift = record {
    longer = reshapes.longer;
    entries = entries_under-of_child old new depth page xs item ys items same-page keeps-front keeps-behind
        ∙ ap (λ e. entries_below old depth xs ++ (e ++ entries_below old depth ys)) reshapes.entries
        ∙ sym (entries_under-child old depth page xs item ys items);
    are_free = reshapes.are_free;
    places = λ q.
        let was = split-old q in
        let is = times-split q page (pages_under new (suc depth) page) (pages_below old depth xs)
        (pages_under new depth item.number) (pages_below old depth ys) is_free
        (pages_under-of_child old new depth page xs item ys items same-page keeps-front keeps-behind) in
        let places = reshapes.places q in
        let one = times-append q (pages_under old depth item.number) was_free in
        let two = times-append q (pages_under new depth item.number) is_free in
        omega (arith, was, is, places, one, two);
    others = λ q within none.
        let was = split-old q in
        let one = times-append q (pages_under old depth item.number) was_free in
        reshapes.others q within (omega (arith, was, one, none));
    height = reshapes.height;
  }

  pub IsSubtree-lift : (fewest most top : ℕ) (low : List ℕ) (high : Option (List ℕ))
      → IsSubtree old fewest most (suc depth) top low high page
      → IsSubtree new fewest most depth fewest item.key (next_key ys high) item.number
      → IsSubtree new fewest most (suc depth) top low high page
  IsSubtree-lift fewest most top low high tree child =
      IsSubtree-of_child old new depth page xs item ys items same-page keeps-front keeps-behind fewest most top low high
      tree child
