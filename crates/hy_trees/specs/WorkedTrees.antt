-- A tree of five pages, which the checker computes: a split of one, the join that undoes it, items that move, a level more
-- and one less, and free pages.
use Rattle.std.specs.Prelude.{◌≡◌, ℕ, zero, suc, ◌+◌, ◌-◌, ◌<◌, ◌≤◌, Some, List, [], ◌∷◌, ◌++◌, take, drop, map}
use Rattle.std.proofs.Common.{ap, sym, refl, ◌∙◌, arith}
use Rattle.std.proofs.lemmas.Bool.{false≢true}
use Rattle.std.proofs.lemmas.Bool.Decides.{nat_tests}
use Rattle.hy_trees.specs.Nodes.{Item, Node, TakesPage, no_node, node_at, with_free, with_height, with_key, with_more, with_next, with_node, without_items}
use Rattle.hy_trees.specs.Trees.{AreFree, IsTree, entries_under, leaf_for, pages_under, times}
use Rattle.hy_trees.specs.Searches.{between, first_from, with_item, without}

-- an item with a key of one byte, and a page of a tree
abbrev pub item : ℕ → ℕ → Item
item key number = record { key = key ∷ []; number = number }

abbrev pub page : List Item → Node
page items = record { items = items; height = 0; next = 0 }

-- three leaves under a root, and a free page
abbrev pub five : List Node
five = record { items = item 0 1 ∷ item 20 2 ∷ item 30 3 ∷ []; height = 1; next = 4 } ∷ page (item 10 1 ∷ item 12 2 ∷ [])
    ∷ page (item 20 3 ∷ item 22 4 ∷ item 24 5 ∷ item 26 6 ∷ []) ∷ page (item 30 7 ∷ item 32 8 ∷ []) ∷ page [] ∷ []

five_entries : map (λ entry. entry.number) (entries_under five 1 0) ≡ 1 ∷ 2 ∷ 3 ∷ 4 ∷ 5 ∷ 6 ∷ 7 ∷ 8 ∷ []
five_entries = refl

five_pages : pages_under five 1 0 ≡ 0 ∷ 1 ∷ 2 ∷ 3 ∷ []
five_pages = refl

pub five_once : (q : ℕ) → q < 5 → times q (0 ∷ 1 ∷ 2 ∷ 3 ∷ 4 ∷ []) ≡ 1
five_once zero within = refl
five_once (suc zero) within = refl
five_once (suc (suc zero)) within = refl
five_once (suc (suc (suc zero))) within = refl
five_once (suc (suc (suc (suc zero)))) within = refl
five_once (suc (suc (suc (suc (suc q))))) within = absurd (omega (arith, within))

pub five_others : (q : ℕ) → 5 ≤ q → times q (0 ∷ 1 ∷ 2 ∷ 3 ∷ 4 ∷ []) ≡ 0
five_others q past = grind (arith, nat_tests)

abbrev pub five_is_tree : IsTree 2 4 (0 ∷ []) five
five_is_tree = record {
  first = omega arith;
  subtree = record {
    filled = record { enough = omega arith; fits = omega arith };
    begin = refl;
    parts = (
      record { filled = record { enough = omega arith; fits = omega arith }; begin = refl; rising = (refl, (refl, tt)) },
      (
        record {
          filled = record { enough = omega arith; fits = omega arith };
          begin = refl;
          rising = (refl, (refl, (refl, (refl, tt))));
        },
        (
          record { filled = record { enough = omega arith; fits = omega arith }; begin = refl; rising = (refl, (tt, tt)) },
          tt,
        ),
      ),
    );
  };
  free = 4 ∷ [];
  are_free = (refl, omega arith, refl, refl);
  once = five_once;
  no_others = five_others;
}

-- a leaf whose first key is below that of its parent's item, and one with an item too few, aren't in a tree
low_key_is_refused : IsTree 2 4 (0 ∷ []) (with_node five 3 (page (item 29 7 ∷ item 32 8 ∷ []))) → ⊥
low_key_is_refused tree = false≢true (let begin = tree.subtree.parts.1.1.0.begin in cc)

one_item_is_refused : IsTree 2 4 (0 ∷ []) (with_node five 3 (page (item 30 7 ∷ []))) → ⊥
one_item_is_refused tree = let filled = tree.subtree.parts.1.1.0.filled.enough in omega (arith, filled)

-- a page that is neither in the tree nor free
lost_page_is_refused : IsTree 2 4 (0 ∷ []) (five ++ page [] ∷ []) → ⊥
lost_page_is_refused tree = lost tree.free tree.are_free (tree.once 5 (omega arith))
  where
    lost : (free : List ℕ) → AreFree (five ++ page [] ∷ []) 4 free
        → times 5 (pages_under (five ++ page [] ∷ []) 1 0 ++ free) ≡ 1 → ⊥
    lost [] are_free is = omega (arith, is)
    lost (first ∷ []) are_free is = let at = are_free.0 in grind (arith, nat_tests, is, at)
    lost (first ∷ (second ∷ free)) are_free is =
        let next : 0 ≡ second =
        ap (λ (k : ℕ). (node_at (five ++ page [] ∷ []) k).next) are_free.0 ∙ are_free.3.0 in
        are_free.3.1 (sym next)

-- where keys stand
leaf_of_a_key : leaf_for five (25 ∷ []) 1 0 ≡ 2
leaf_of_a_key = refl

leaf_before_all : leaf_for five (1 ∷ []) 1 0 ≡ 1
leaf_before_all = refl

keys_between : map (λ entry. entry.number) (between (12 ∷ []) (30 ∷ []) (entries_under five 1 0)) ≡ 2 ∷ 3 ∷ 4 ∷ 5 ∷ 6 ∷ []
keys_between = refl

first_behind_a_leaf : first_from (13 ∷ []) (entries_under five 1 0) ≡ Some (item 20 3)
first_behind_a_leaf = refl

-- ---- the second leaf is split in two halves

abbrev pub taken : List Node
taken = with_node five 0 (with_next (node_at five 0) (node_at five 4).next)

abbrev pub moved : List Node
moved = with_node taken 4 (with_more (node_at taken 4) 0 (take (4 - 2) (drop 2 (node_at taken 2).items)))

abbrev pub cut : List Node
cut = with_node moved 2 (without_items (node_at moved 2) 2 4)

abbrev pub split : List Node
split = with_node cut 0 (with_more (node_at cut 0) (1 + 1) (item 24 4 ∷ []))

pub takes_the_free_page : TakesPage five taken 4
takes_the_free_page = record { free = λ some. (refl, refl); grown = λ none. absurd (omega (arith, none)) }

split_is : split ≡ record { items = item 0 1 ∷ item 20 2 ∷ item 24 4 ∷ item 30 3 ∷ []; height = 1; next = 0 }
    ∷ page (item 10 1 ∷ item 12 2 ∷ []) ∷ page (item 20 3 ∷ item 22 4 ∷ []) ∷ page (item 30 7 ∷ item 32 8 ∷ [])
    ∷ page (item 24 5 ∷ item 26 6 ∷ []) ∷ []
split_is = refl

split_entries : entries_under split 1 0 ≡ entries_under five 1 0
split_entries = refl

-- ---- the two halves are joined again

abbrev pub filled : List Node
filled = with_node split 2 (with_more (node_at split 2) 2 (take (2 - 0) (drop 0 (node_at split 4).items)))

abbrev pub joined : List Node
joined = with_free (with_node filled 0 (without_items (node_at filled 0) (1 + 1) (1 + 2))) 4

joined_is : joined ≡ five
joined_is = refl

-- ---- one item of the second leaf moves to the first one

abbrev pub grown : List Node
grown = with_node five 1 (with_more (node_at five 1) 2 (take (1 - 0) (drop 0 (node_at five 2).items)))

abbrev pub shrunk : List Node
shrunk = with_node grown 2 (without_items (node_at grown 2) 0 1)

abbrev pub shared : List Node
shared = with_node shrunk 0 (with_key (node_at shrunk 0) (0 + 1) (22 ∷ []))

shared_is : shared ≡ record { items = item 0 1 ∷ item 22 2 ∷ item 30 3 ∷ []; height = 1; next = 4 }
    ∷ page (item 10 1 ∷ item 12 2 ∷ item 20 3 ∷ []) ∷ page (item 22 4 ∷ item 24 5 ∷ item 26 6 ∷ [])
    ∷ page (item 30 7 ∷ item 32 8 ∷ []) ∷ page [] ∷ []
shared_is = refl

shared_entries : entries_under shared 1 0 ≡ entries_under five 1 0
shared_entries = refl

-- ---- a root that is a leaf gets a level above it, and loses it again

abbrev pub leaf : List Node
leaf = page (item 10 1 ∷ item 12 2 ∷ []) ∷ []

abbrev pub raised : List Node
raised = record { items = item 0 1 ∷ []; height = 1; next = 0 } ∷ page (item 10 1 ∷ item 12 2 ∷ []) ∷ []

pub raised_entries : entries_under raised 1 0 ≡ entries_under leaf 0 0
raised_entries = refl

pub takes_a_new_page : TakesPage leaf (leaf ++ no_node ∷ []) 1
takes_a_new_page = record { free = λ some. absurd (some refl); grown = λ none. (refl, refl) }

abbrev pub lowered : List Node
lowered =
    with_free (with_node (with_node raised 0 (page (item 10 1 ∷ item 12 2 ∷ []))) 0
    (with_height (page (item 10 1 ∷ item 12 2 ∷ [])) 0)) 1

lowered_is : lowered ≡ record { items = item 10 1 ∷ item 12 2 ∷ []; height = 0; next = 1 } ∷ page [] ∷ []
lowered_is = refl

lowered_is_free : AreFree lowered (node_at lowered 0).next (1 ∷ [])
lowered_is_free = (refl, omega arith, refl, refl)

-- ---- entries

one_more : with_item (11 ∷ []) 9 (entries_under leaf 0 0) ≡ item 10 1 ∷ item 11 9 ∷ item 12 2 ∷ []
one_more = refl

in_its_place : with_item (12 ∷ []) 9 (entries_under leaf 0 0) ≡ item 10 1 ∷ item 12 9 ∷ []
in_its_place = refl

one_less : without (12 ∷ []) (entries_under leaf 0 0) ≡ item 10 1 ∷ []
one_less = refl
