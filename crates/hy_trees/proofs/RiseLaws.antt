-- The entries of a subtree rise, from its least key on, below its bound.
use Rattle.std.proofs.Common.{◌≡◌, ℕ, zero, suc, ◌<◌, true, List, [], ◌∷◌, ◌++◌, length, get_or, Option, None, Some, refl, ap, sym, subst, arith}
use Rattle.std.specs.List.{AllByRecursion, AllPairs}
use Rattle.std.proofs.lemmas.List.{append-nil, length-append}
use Rattle.hy_trees.specs.Nodes.{Item, Node, node_at}
use Rattle.hy_trees.specs.Trees.{BeginsFrom, BeginsWith, HasParts, IsBelow, IsFrom, IsSubtree, entries_below, entries_under, is_less_bytes}
use Rattle.hy_trees.specs.Groups.{PartAt}
use Rattle.hy_trees.specs.Leaves.{AreAbove}
use Rattle.hy_trees.proofs.OrderLaws.{less-trans}
use Rattle.hy_trees.proofs.PartLaws.{HasParts-joined, IsFrom-trans, IsFrom-below}

-- ---- items that rise below a bound, as those of a leaf do

abbrev pub Rise : List Item → Option (List ℕ) → Type 0
Rise items high = HasParts (λ key next number. IsBelow next key) items high

pub IsBelow-less : (high : Option (List ℕ)) (key other : List ℕ) → is_less_bytes key other ≡ true → IsBelow high other
    → IsBelow high key
IsBelow-less None key other less below = tt
IsBelow-less (Some high) key other less below = less-trans key other high less below

pub AllByRecursion-append : {A : Type 0} (P : A → Type 0) (xs ys : List A) → AllByRecursion P xs → AllByRecursion P ys
    → AllByRecursion P (xs ++ ys)
AllByRecursion-append P [] ys first second = second
AllByRecursion-append P (x ∷ xs) ys first second = (first.0, AllByRecursion-append P xs ys first.1 second)

pub AllByRecursion-weaker : {A : Type 0} (P Q : A → Type 0) (xs : List A) → ((x : A) → P x → Q x) → AllByRecursion P xs
    → AllByRecursion Q xs
AllByRecursion-weaker P Q [] each all = tt
AllByRecursion-weaker P Q (x ∷ xs) each all = (each x all.0, AllByRecursion-weaker P Q xs each all.1)

pub all-below : (items : List Item) (high : Option (List ℕ)) → Rise items high
    → AllByRecursion (λ (item : Item). IsBelow high item.key) items
all-below [] high rise = tt
all-below (x ∷ []) high rise = (rise.0, tt)
all-below (x ∷ (y ∷ items)) high rise =
    let rest = all-below (y ∷ items) high rise.1 in
    (IsBelow-less high x.key y.key rise.0 rest.0, rest)

pub all-from : (low : List ℕ) (items : List Item) (high : Option (List ℕ)) → BeginsFrom low items → Rise items high
    → AllByRecursion (λ (item : Item). IsFrom low item.key) items
all-from low [] high begin rise = tt
all-from low (x ∷ []) high begin rise = (begin, tt)
all-from low (x ∷ (y ∷ items)) high begin rise =
    (begin, all-from low (y ∷ items) high (IsFrom-trans low x.key y.key begin (IsFrom-below x.key y.key rise.0)) rise.1)

-- all behind the first one are above it
pub all-above : (x : Item) (items : List Item) (high : Option (List ℕ)) → Rise (x ∷ items) high → AreAbove x.key items
all-above x [] high rise = tt
all-above x (y ∷ items) high rise = (
  rise.0,
  AllByRecursion-weaker (λ (i : Item). is_less_bytes y.key i.key ≡ true)
      (λ (i : Item). is_less_bytes x.key i.key ≡ true) items (λ i less. less-trans x.key y.key i.key rise.0 less)
      (all-above y items high rise.1),
)

all-at : {A : Type 0} (P : A → Type 0) (xs : List A) (k : ℕ) (d : A) → k < length xs → AllByRecursion P xs
    → P (get_or xs k d)
all-at P [] k d within all = absurd (omega (arith, within))
all-at P (x ∷ xs) zero d within all = all.0
all-at P (x ∷ xs) (suc k) d within all = all-at P xs k d (omega (arith, within)) all.1

-- each is below all later ones
pub AllPairs-rise : (items : List Item) (high : Option (List ℕ)) → Rise items high
    → AllPairs (λ (one other : Item). is_less_bytes one.key other.key ≡ true) items
AllPairs-rise [] high rise i j d less within = absurd (omega (arith, within))
AllPairs-rise (x ∷ items) high rise i zero d less within = absurd (omega (arith, less))
AllPairs-rise (x ∷ items) high rise zero (suc j) d less within =
    all-at (λ (i : Item). is_less_bytes x.key i.key ≡ true) items j d (omega (arith, within)) (all-above x items high rise)
AllPairs-rise (x ∷ items) high rise (suc i) (suc j) d less within =
    AllPairs-rise items high rise.1 i j d (omega (arith, less)) (omega (arith, within))

-- ---- the entries of a subtree

BeginsFrom-append : (low : List ℕ) (xs ys : List Item) → 0 < length xs → BeginsFrom low xs → BeginsFrom low (xs ++ ys)
BeginsFrom-append low [] ys some begin = absurd (omega (arith, some))
BeginsFrom-append low (x ∷ xs) ys some begin = begin

rise-parts : (nodes : List Node) (fewest most : ℕ) (items : List Item) (high : Option (List ℕ)) → Rise items high
    → HasParts (PartAt nodes fewest most zero) items high
rise-parts nodes fewest most [] high rise = tt
rise-parts nodes fewest most (x ∷ items) high rise = (rise.0, rise-parts nodes fewest most items high rise.1)

parts-rise : (nodes : List Node) (fewest most : ℕ) (items : List Item) (high : Option (List ℕ))
    → HasParts (PartAt nodes fewest most zero) items high → Rise items high
parts-rise nodes fewest most [] high parts = tt
parts-rise nodes fewest most (x ∷ items) high parts = (parts.0, parts-rise nodes fewest most items high parts.1)

module _ (nodes : List Node) (fewest most : ℕ) (some : 0 < fewest) where
  below : (depth : ℕ) → ((page : ℕ) (low : List ℕ) (high : Option (List ℕ))
      → IsSubtree nodes fewest most depth fewest low high page
      → (0 < length (entries_under nodes depth page)) × BeginsFrom low (entries_under nodes depth page)
      × Rise (entries_under nodes depth page) high)
      → (item : Item) (items : List Item) (high : Option (List ℕ))
      → HasParts (IsSubtree nodes fewest most depth fewest) (item ∷ items) high
      → (0 < length (entries_below nodes depth (item ∷ items)))
      × BeginsFrom item.key (entries_below nodes depth (item ∷ items))
      × Rise (entries_below nodes depth (item ∷ items)) high
  below depth each item [] high parts =
      let here = each item.number item.key high parts.0 in
      let none = append-nil (entries_under nodes depth item.number) in (
        (let same = ap length none in let more = here.0 in omega (arith, same, more)),
        subst (BeginsFrom item.key) (sym none) here.1,
        subst (λ i. Rise i high) (sym none) here.2,
      )
  below depth each item (next ∷ items) high parts =
      let here = each item.number item.key (Some next.key) parts.0 in
      let rest = below depth each next items high parts.1 in (
        (let all = length-append (entries_under nodes depth item.number) (entries_below nodes depth (next ∷ items)) in
            let more = here.0 in omega (arith, all, more)),
        BeginsFrom-append item.key (entries_under nodes depth item.number) (entries_below nodes depth (next ∷ items)) here.0
            here.1,
        parts-rise nodes fewest most
            (entries_under nodes depth item.number ++ entries_below nodes depth (next ∷ items)) high
            (HasParts-joined nodes fewest most zero (entries_under nodes depth item.number)
            (entries_below nodes depth (next ∷ items)) next.key high rest.0
            (rise-parts nodes fewest most (entries_under nodes depth item.number) (Some next.key) here.2) rest.1
            (rise-parts nodes fewest most (entries_below nodes depth (next ∷ items)) high rest.2)),
      )

  inner : (depth : ℕ) → ((page : ℕ) (low : List ℕ) (high : Option (List ℕ))
      → IsSubtree nodes fewest most depth fewest low high page
      → (0 < length (entries_under nodes depth page)) × BeginsFrom low (entries_under nodes depth page)
      × Rise (entries_under nodes depth page) high)
      → (items : List Item) (low : List ℕ) (high : Option (List ℕ)) → BeginsWith low items
      → HasParts (IsSubtree nodes fewest most depth fewest) items high
      → (0 < length items → 0 < length (entries_below nodes depth items))
      × BeginsFrom low (entries_below nodes depth items)
      × Rise (entries_below nodes depth items) high
  inner depth each [] low high begin parts = (λ none. absurd (omega (arith, none)), tt, tt)
  inner depth each (item ∷ items) low high begin parts =
      let all = below depth each item items high parts in
      (λ more. all.0, subst (λ k. BeginsFrom k (entries_below nodes depth (item ∷ items))) begin all.1, all.2)

  pub entries_under-some : (depth page : ℕ) (low : List ℕ) (high : Option (List ℕ))
      → IsSubtree nodes fewest most depth fewest low high page
      → (0 < length (entries_under nodes depth page)) × BeginsFrom low (entries_under nodes depth page)
      × Rise (entries_under nodes depth page) high
  entries_under-some zero page low high tree =
      ((let least = tree.filled.enough in omega (arith, least, some)), tree.begin, tree.rising)
  entries_under-some (suc depth) page low high tree =
      let all = inner depth (λ p l h t. entries_under-some depth p l h t) (node_at nodes page).items low high tree.begin
      tree.parts in
      (all.0 (let least = tree.filled.enough in omega (arith, least, some)), all.1, all.2)

  -- the entries under a page begin no lower than the page's least key and rise below its bound; they are some where the
  -- page has items
  pub entries_under-rise : (depth page top : ℕ) (low : List ℕ) (high : Option (List ℕ))
      → IsSubtree nodes fewest most depth top low high page
      → (0 < length (node_at nodes page).items → 0 < length (entries_under nodes depth page))
      × BeginsFrom low (entries_under nodes depth page) × Rise (entries_under nodes depth page) high
  entries_under-rise zero page top low high tree = (λ more. more, tree.begin, tree.rising)
  entries_under-rise (suc depth) page top low high tree =
      inner depth (λ p l h t. entries_under-some depth p l h t) (node_at nodes page).items low high tree.begin tree.parts

  -- and so do those under the children that some items name
  pub entries_below-rise : (depth : ℕ) (items : List Item) (high : Option (List ℕ))
      → HasParts (IsSubtree nodes fewest most depth fewest) items high → Rise (entries_below nodes depth items) high
  entries_below-rise depth [] high parts = tt
  entries_below-rise depth (item ∷ items) high parts =
      (inner depth (λ p l h t. entries_under-some depth p l h t) (item ∷ items) item.key high refl parts).2

  pub entries_below-begin : (depth : ℕ) (item : Item) (items : List Item) (high : Option (List ℕ))
      → HasParts (IsSubtree nodes fewest most depth fewest) (item ∷ items) high
      → BeginsFrom item.key (entries_below nodes depth (item ∷ items))
  entries_below-begin depth item items high parts =
      (inner depth (λ p l h t. entries_under-some depth p l h t) (item ∷ items) item.key high refl parts).1

  pub AllPairs-entries : (depth page top : ℕ) (low : List ℕ) (high : Option (List ℕ))
      → IsSubtree nodes fewest most depth top low high page
      → AllPairs (λ (one other : Item). is_less_bytes one.key other.key ≡ true) (entries_under nodes depth page)
  AllPairs-entries depth page top low high tree =
      AllPairs-rise (entries_under nodes depth page) high (entries_under-rise depth page top low high tree).2

  pub all-entries_from : (depth page top : ℕ) (low : List ℕ) (high : Option (List ℕ))
      → IsSubtree nodes fewest most depth top low high page
      → AllByRecursion (λ (item : Item). IsFrom low item.key) (entries_under nodes depth page)
  all-entries_from depth page top low high tree =
      let rise = entries_under-rise depth page top low high tree in
      all-from low (entries_under nodes depth page) high rise.1 rise.2

  pub all-entries_below : (depth page top : ℕ) (low : List ℕ) (high : Option (List ℕ))
      → IsSubtree nodes fewest most depth top low high page
      → AllByRecursion (λ (item : Item). IsBelow high item.key) (entries_under nodes depth page)
  all-entries_below depth page top low high tree =
      all-below (entries_under nodes depth page) high (entries_under-rise depth page top low high tree).2
