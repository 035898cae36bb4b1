-- Items by their places: a page's keys rise, and the next page on the way to a key.
use Rattle.std.proofs.Common.{◌≡◌, ℕ, zero, suc, ◌+◌, ◌<◌, ◌≤◌, ◌⊎◌, inl, inr, Bool, true, false, Greater, Option, None, Some, List, [], ◌∷◌, ◌++◌, length, take, drop, replicate, slice_index_or, refl, sym, ap, ◌∙◌, subst, arith}
use Rattle.std.proofs.lemmas.Bool.{cases_lt, false≢true}
use Rattle.std.specs.Ordering.{is_lt, ordering_then, nat_cmp}
use Rattle.std.specs.Cmp.{nat_cmp_is}
use Rattle.std.specs.Cmp.Lexicographic.{slice_cmp}
use Rattle.hy_trees.specs.Nodes.{Item, Node, no_item, node_at}
use Rattle.hy_trees.specs.Trees.{BeginsWith, HasParts, IsBelow, IsFilled, IsFrom, IsInner, IsLeaf, IsSubtree, IsTree, height_of, is_less_bytes, next_key, pages_under, root_least, times}
use Rattle.hy_trees.specs.Leaves.{Leads}
use Rattle.hy_trees.proofs.CountLaws.{times-append, times-first}
use Rattle.hy_trees.proofs.OrderLaws.{less-from_not, less-one_way, less-trans}
use Rattle.hy_trees.proofs.LeadsLaws.{Leads-child}

-- the keys of items rise, and are below a bound
abbrev pub Rises : List Item → Option (List ℕ) → Type 0
Rises items high = HasParts (λ key next number. IsBelow next key) items high

pub parts-weaker : (IsPart IsOther : List ℕ → Option (List ℕ) → ℕ → Type 0) → ((low : List ℕ) (high : Option (List ℕ)) (page : ℕ) → IsPart low high page → IsOther low high page)
    → (items : List Item) (high : Option (List ℕ)) → HasParts IsPart items high → HasParts IsOther items high
parts-weaker IsPart IsOther weaker [] high parts = tt
parts-weaker IsPart IsOther weaker (item ∷ items) high parts = (weaker item.key (next_key items high) item.number parts.0, parts-weaker IsPart IsOther weaker items high parts.1)

-- below a key that is below a bound
pub below-less : (one other : List ℕ) (high : Option (List ℕ)) → is_less_bytes one other ≡ true → IsBelow high other → IsBelow high one
below-less one other None less below = tt
below-less one other (Some high) less below = less-trans one other high less below

-- no greater than a key that is below a bound
pub below-from : (one other : List ℕ) (high : Option (List ℕ)) → IsFrom one other → IsBelow high other → IsBelow high one
below-from one other None from below = tt
below-from one other (Some high) from below = less-from_not other one high from below

-- no less than a key that is greater than another one, or no less either
pub from-less : (low one other : List ℕ) → IsFrom low one → is_less_bytes one other ≡ true → IsFrom low other
from-less low one other from less = less-one_way low other (less-from_not one low other from less)

pub from-from : (low one other : List ℕ) → IsFrom low one → IsFrom one other → IsFrom low other
from-from low one other first second = by (is_less_bytes other low) refl
  where
    by : (b : Bool) → is_less_bytes other low ≡ b → is_less_bytes other low ≡ false
    by true is = absurd (false≢true (sym first ∙ less-from_not other one low second is))
    by false is = is

-- where keys rise, the first one is below the bound behind all
pub first-below : (item : Item) (items : List Item) (high : Option (List ℕ)) → Rises (item ∷ items) high → IsBelow high item.key
first-below item [] high rises = rises.0
first-below item (next ∷ items) high rises = below-less item.key next.key high rises.0 (first-below next items high rises.1)

-- a page has an item: then its least key is below its bound
abbrev HasBegin : ℕ → List Item → Type 0
HasBegin fewest items = fewest ≤ length items

pub low-below : (nodes : List Node) (fewest most depth top : ℕ) (low : List ℕ) (high : Option (List ℕ)) (page : ℕ) → 1 ≤ fewest → 1 ≤ top → IsSubtree nodes fewest most depth top low high page → IsBelow high low
low-below nodes fewest most zero top low high page some one leaf = by (node_at nodes page).items leaf
  where
    by : (items : List Item) → IsLeaf top most low high items → IsBelow high low
    by [] is = absurd (omega (arith, one, is.filled.enough))
    by (item ∷ items) is = below-from low item.key high is.begin (first-below item items high is.rising)
low-below nodes fewest most (suc depth) top low high page some one inner = by (λ key next number. low-below nodes fewest most depth fewest key next number some some) (node_at nodes page).items inner
  where
    by : ((key : List ℕ) (next : Option (List ℕ)) (number : ℕ) → IsSubtree nodes fewest most depth fewest key next number → IsBelow next key) → (items : List Item) → IsInner (IsSubtree nodes fewest most depth fewest) top most low high items → IsBelow high low
    by weaker [] is = absurd (omega (arith, one, is.filled.enough))
    by weaker (item ∷ items) is =
        subst (λ (key : List ℕ). IsBelow high key) is.begin
        (first-below item items high (parts-weaker (IsSubtree nodes fewest most depth fewest) (λ key next number. IsBelow next key) weaker (item ∷ items) high is.parts))

-- the keys of an inner page rise
pub parts-rise : (nodes : List Node) (fewest most depth : ℕ) → 1 ≤ fewest → (items : List Item) (high : Option (List ℕ)) → HasParts (IsSubtree nodes fewest most depth fewest) items high → Rises items high
parts-rise nodes fewest most depth some items high parts =
    parts-weaker (IsSubtree nodes fewest most depth fewest) (λ key next number. IsBelow next key) (λ key next number. low-below nodes fewest most depth fewest key next number some some) items high parts

-- the keys of each page of a tree rise
pub items-rise : (nodes : List Node) (fewest most depth top : ℕ) (low : List ℕ) (high : Option (List ℕ)) (page : ℕ) → 1 ≤ fewest → IsSubtree nodes fewest most depth top low high page → Rises (node_at nodes page).items high
items-rise nodes fewest most zero top low high page some leaf = leaf.rising
items-rise nodes fewest most (suc depth) top low high page some inner = parts-rise nodes fewest most depth some (node_at nodes page).items high inner.parts

-- a list by one of its places
pub split_at : (items : List Item) (place : ℕ) → place < length items → items ≡ take place items ++ slice_index_or items place no_item ∷ drop (suc place) items
split_at [] place within = absurd (omega (arith, within))
split_at (item ∷ items) zero within = refl
split_at (item ∷ items) (suc place) within = ap (λ (rest : List Item). item ∷ rest) (split_at items place (omega (arith, within)))

-- the next key is that of the next place, or the bound behind all
pub next_key-at : (items : List Item) (place : ℕ) (high : Option (List ℕ)) (key : List ℕ) → IsBelow high key → (place < length items → is_less_bytes key (slice_index_or items place no_item).key ≡ true) → IsBelow (next_key (drop place items) high) key
next_key-at [] zero high key below less = below
next_key-at [] (suc place) high key below less = below
next_key-at (item ∷ items) zero high key below less = less (omega arith)
next_key-at (item ∷ items) (suc place) high key below less = next_key-at items place high key below (λ within. less (omega (arith, within)))

-- a first key is less than all later ones
first-less : (item : Item) (items : List Item) (high : Option (List ℕ)) (j : ℕ) → Rises (item ∷ items) high → j < length items → is_less_bytes item.key (slice_index_or items j no_item).key ≡ true
first-less item [] high j rises within = absurd (omega (arith, within))
first-less item (next ∷ items) high zero rises within = rises.0
first-less item (next ∷ items) high (suc j) rises within = less-trans item.key next.key _ rises.0 (first-less next items high j rises.1 (omega (arith, within)))

pub rises-at : (items : List Item) (high : Option (List ℕ)) (i j : ℕ) → Rises items high → i < j → j < length items → is_less_bytes (slice_index_or items i no_item).key (slice_index_or items j no_item).key ≡ true
rises-at [] high i j rises before within = absurd (omega (arith, within))
rises-at (item ∷ items) high zero zero rises before within = absurd (omega (arith, before))
rises-at (item ∷ items) high zero (suc j) rises before within = first-less item items high j rises (omega (arith, within))
rises-at (item ∷ items) high (suc i) zero rises before within = absurd (omega (arith, before))
rises-at (item ∷ items) high (suc i) (suc j) rises before within = rises-at items high i j rises.1 (omega (arith, before)) (omega (arith, within))

-- the next page on the way, by the place of its item
pub Leads-at : (nodes : List Node) (fewest most height root_fewest : ℕ) (least key : List ℕ) (depth page place : ℕ) → 0 < fewest → (leads : Leads nodes fewest most height root_fewest least key (suc depth) page) → suc depth ≤ height → place < length (node_at nodes page).items
    → (0 < place → is_less_bytes key (slice_index_or (node_at nodes page).items place no_item).key ≡ false)
    → (place + 1 < length (node_at nodes page).items → is_less_bytes key (slice_index_or (node_at nodes page).items (place + 1) no_item).key ≡ true)
    → Leads nodes fewest most height root_fewest least key depth (slice_index_or (node_at nodes page).items place no_item).number
Leads-at nodes fewest most height root_fewest least key depth page place some leads high within from above =
    let items = (node_at nodes page).items in
    Leads-child nodes fewest most height root_fewest least key depth page (take place items) (slice_index_or items place no_item) (drop (suc place) items) some leads high
    (split_at items place within)
    (λ front. from (some_place items place front))
    (next_key-at items (suc place) None key tt (λ more. ap (λ (at : ℕ). is_less_bytes key (slice_index_or items at no_item).key) (let same : suc place ≡ place + 1 = omega arith in same) ∙ above (omega (arith, more))))
  where
    some_place : (items : List Item) (place : ℕ) → 0 < length (take place items) → 0 < place
    some_place items zero front = absurd (omega (arith, front))
    some_place items (suc place) front = omega arith

-- no key of so many bytes stands before the one of zeros
pub zeros-least : (key : List ℕ) → IsFrom (replicate (length key) 0) key
zeros-least [] = refl
zeros-least (zero ∷ key) = zeros-least key
zeros-least (suc byte ∷ key) =
    ap (λ order. is_lt (ordering_then order (slice_cmp nat_cmp key (replicate (length key) 0)))) (sym (nat_cmp_is (suc byte) 0 Greater (omega arith)))

-- a page that is reached is there
pub reached : (nodes : List Node) (fewest most : ℕ) (least key : List ℕ) (height depth page : ℕ) → IsTree fewest most least nodes → height ≡ height_of nodes → Leads nodes fewest most height (root_least height) least key depth page → page < length nodes
reached nodes fewest most least key height depth page is_tree same leads =
    let above = leads.pages nodes (λ q there. refl) page in
    let here = itself nodes depth page in
    let whole : times page (pages_under nodes height 0) ≡ times page (pages_under nodes (height_of nodes) 0) = ap (λ (h : ℕ). times page (pages_under nodes h 0)) same in
    elim (cases_lt page (length nodes)) [
      | inl there ↦ there
      | inr past ↦ absurd (omega (arith, above, here, whole, is_tree.no_others page past, times-append page (pages_under nodes (height_of nodes) 0) is_tree.free))
    ]
  where
    itself : (nodes : List Node) (depth page : ℕ) → 0 < times page (pages_under nodes depth page)
    itself nodes zero page = times-first page []
    itself nodes (suc depth) page = times-first page _

-- a page is filled, at any depth
pub filled_at : (nodes : List Node) (fewest most depth top : ℕ) (low : List ℕ) (high : Option (List ℕ)) (page : ℕ) → IsSubtree nodes fewest most depth top low high page → IsFilled top most (node_at nodes page).items
filled_at nodes fewest most zero top low high page leaf = leaf.filled
filled_at nodes fewest most (suc depth) top low high page inner = inner.filled

-- a page on the way is as deep as the root at most, and has an item where children stand below it
pub Leads-within : (nodes : List Node) (fewest most height root_fewest : ℕ) (least key : List ℕ) (depth page : ℕ) → Leads nodes fewest most height root_fewest least key depth page → depth ≤ height
Leads-within nodes fewest most height root_fewest least key depth page leads = elim leads.is_top [ inl below ↦ omega (arith, below.0) | inr root ↦ omega (arith, root.0) ]

pub Leads-some : (nodes : List Node) (fewest most height : ℕ) (least key : List ℕ) (depth page : ℕ) → 0 < fewest → 0 < depth → (leads : Leads nodes fewest most height (root_least height) least key depth page) → 0 < leads.top
Leads-some nodes fewest most height least key depth page some inner leads =
    elim leads.is_top [ inl below ↦ omega (arith, below.1, some) | inr root ↦ by height root.0 root.2 ]
  where
    by : (h : ℕ) → depth ≡ h → leads.top ≡ root_least h → 0 < leads.top
    by zero same is = absurd (omega (arith, same, inner))
    by (suc h) same is = omega (arith, is)
