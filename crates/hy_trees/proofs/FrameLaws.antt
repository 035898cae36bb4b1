-- A subtree whose pages keep their items is the same.
use Rattle.std.proofs.Common.{◌≡◌, ℕ, zero, suc, List, [], ◌∷◌, ◌++◌, Option, refl, ap, sym, subst, ◌∙◌, arith}
use Rattle.std.proofs.Math.Path.{ap₂}
use Rattle.std.specs.List.{flat_map}
use Rattle.hy_trees.specs.Nodes.{Item, Node, node_at}
use Rattle.hy_trees.specs.Trees.{entries_under, entries_below, pages_under, pages_below, KeepItems, IsSubtree, HasParts, IsLeaf, IsInner, next_key}
use Rattle.hy_trees.proofs.CountLaws.{times-append, times-first}

module _ (old new : List Node) where
  pub keeps-left : (xs ys : List ℕ) → KeepItems old new (xs ++ ys) → KeepItems old new xs
  keeps-left xs ys keeps q there = keeps q (let sum = times-append q xs ys in omega (arith, sum, there))

  pub keeps-right : (xs ys : List ℕ) → KeepItems old new (xs ++ ys) → KeepItems old new ys
  keeps-right xs ys keeps q there = keeps q (let sum = times-append q xs ys in omega (arith, sum, there))

  pub keeps-tail : (page : ℕ) (pages : List ℕ) → KeepItems old new (page ∷ pages) → KeepItems old new pages
  keeps-tail page pages keeps q there = keeps q (omega (arith, there))

  pub keeps-head : (page : ℕ) (pages : List ℕ) → KeepItems old new (page ∷ pages)
      → (node_at new page).items ≡ (node_at old page).items
  keeps-head page pages keeps = keeps page (times-first page pages)

  -- what is the same under each child is the same under all
  flat_map-kept : {A : Type 0} (f g : Item → List A) (depth : ℕ) (items : List Item)
      → ((item : Item) → KeepItems old new (pages_under old depth item.number) → g item ≡ f item)
      → KeepItems old new (pages_below old depth items) → flat_map g items ≡ flat_map f items
  flat_map-kept f g depth [] each keeps = refl
  flat_map-kept f g depth (item ∷ items) each keeps =
      ap₂ (λ front behind. front ++ behind)
      (each item (keeps-left (pages_under old depth item.number) (pages_below old depth items) keeps))
      (flat_map-kept f g depth items each
      (keeps-right (pages_under old depth item.number) (pages_below old depth items) keeps))

  HasParts-kept : (P Q : List ℕ → Option (List ℕ) → ℕ → Type 0) (depth : ℕ) (items : List Item) (high : Option (List ℕ))
      → ((low : List ℕ) (next : Option (List ℕ)) (number : ℕ) → KeepItems old new (pages_under old depth number)
      → P low next number → Q low next number)
      → KeepItems old new (pages_below old depth items) → HasParts P items high → HasParts Q items high
  HasParts-kept P Q depth [] high each keeps parts = tt
  HasParts-kept P Q depth (item ∷ items) high each keeps parts = (
    each item.key (next_key items high) item.number
        (keeps-left (pages_under old depth item.number) (pages_below old depth items) keeps) parts.0,
    HasParts-kept P Q depth items high each
        (keeps-right (pages_under old depth item.number) (pages_below old depth items) keeps) parts.1,
  )

  pub entries_under-kept : (depth page : ℕ) → KeepItems old new (pages_under old depth page)
      → entries_under new depth page ≡ entries_under old depth page
  entries_under-kept zero page keeps = keeps-head page [] keeps
  entries_under-kept (suc depth) page keeps =
      ap (entries_below new depth) (keeps-head page (pages_below old depth (node_at old page).items) keeps)
      ∙ flat_map-kept (λ item. entries_under old depth item.number) (λ item. entries_under new depth item.number) depth
      (node_at old page).items (λ item same. entries_under-kept depth item.number same)
      (keeps-tail page (pages_below old depth (node_at old page).items) keeps)

  pub pages_under-kept : (depth page : ℕ) → KeepItems old new (pages_under old depth page)
      → pages_under new depth page ≡ pages_under old depth page
  pages_under-kept zero page keeps = refl
  pages_under-kept (suc depth) page keeps =
      ap (λ pages. page ∷ pages)
      (ap (pages_below new depth) (keeps-head page (pages_below old depth (node_at old page).items) keeps)
      ∙ flat_map-kept (λ item. pages_under old depth item.number) (λ item. pages_under new depth item.number) depth
      (node_at old page).items (λ item same. pages_under-kept depth item.number same)
      (keeps-tail page (pages_below old depth (node_at old page).items) keeps))

  pub IsSubtree-kept : (fewest most depth top : ℕ) (low : List ℕ) (high : Option (List ℕ)) (page : ℕ)
      → KeepItems old new (pages_under old depth page)
      → IsSubtree old fewest most depth top low high page → IsSubtree new fewest most depth top low high page
  IsSubtree-kept fewest most zero top low high page keeps tree =
      subst (IsLeaf top most low high) (sym (keeps-head page [] keeps)) tree
  IsSubtree-kept fewest most (suc depth) top low high page keeps tree =
      subst (IsInner (IsSubtree new fewest most depth fewest) top most low high)
      (sym (keeps-head page (pages_below old depth (node_at old page).items) keeps))
      (record {
        filled = tree.filled;
        begin = tree.begin;
        parts = HasParts-kept (IsSubtree old fewest most depth fewest) (IsSubtree new fewest most depth fewest) depth
            (node_at old page).items high
            (λ low next number same. IsSubtree-kept fewest most depth fewest low next number same)
            (keeps-tail page (pages_below old depth (node_at old page).items) keeps) tree.parts;
      })

  -- the same for the children that some items name
  pub entries_below-kept : (depth : ℕ) (items : List Item) → KeepItems old new (pages_below old depth items)
      → entries_below new depth items ≡ entries_below old depth items
  entries_below-kept depth items keeps =
      flat_map-kept (λ item. entries_under old depth item.number) (λ item. entries_under new depth item.number) depth items
      (λ item same. entries_under-kept depth item.number same) keeps

  pub pages_below-kept : (depth : ℕ) (items : List Item) → KeepItems old new (pages_below old depth items)
      → pages_below new depth items ≡ pages_below old depth items
  pages_below-kept depth items keeps =
      flat_map-kept (λ item. pages_under old depth item.number) (λ item. pages_under new depth item.number) depth items
      (λ item same. pages_under-kept depth item.number same) keeps

  pub HasSubtrees-kept : (fewest most depth : ℕ) (items : List Item) (high : Option (List ℕ))
      → KeepItems old new (pages_below old depth items)
      → HasParts (IsSubtree old fewest most depth fewest) items high
      → HasParts (IsSubtree new fewest most depth fewest) items high
  HasSubtrees-kept fewest most depth items high keeps parts =
      HasParts-kept (IsSubtree old fewest most depth fewest) (IsSubtree new fewest most depth fewest) depth items high
      (λ low next number same. IsSubtree-kept fewest most depth fewest low next number same) keeps parts
