-- What is found among items in the order of their keys, and what a key more or less leaves of them.
use Rattle.std.specs.Prelude.{ℕ, Bool, not, ◌&&◌, List, ◌∷◌, ◌++◌, filter, find, Option}
use Rattle.hy_trees.specs.Nodes.{Item}
use Rattle.hy_trees.specs.Trees.{is_less_bytes}

abbrev pub is_below : List ℕ → Item → Bool
is_below key item = is_less_bytes item.key key

abbrev pub is_above : List ℕ → Item → Bool
is_above key item = is_less_bytes key item.key

abbrev pub is_from : List ℕ → Item → Bool
is_from key item = not (is_below key item)

-- neither below nor above
abbrev pub is_at : List ℕ → Item → Bool
is_at key item = is_from key item && not (is_above key item)

abbrev pub is_between : List ℕ → List ℕ → Item → Bool
is_between low high item = is_from low item && is_below high item

-- the first item that isn't below the key
abbrev pub first_from : List ℕ → List Item → Option Item
first_from key items = find (is_from key) items

-- the items from one key on that are below another
abbrev pub between : List ℕ → List ℕ → List Item → List Item
between low high items = filter (is_between low high) items

-- a number for a key, in the place of the one that the key had
abbrev pub with_item : List ℕ → ℕ → List Item → List Item
with_item key number items =
    filter (is_below key) items ++ (record { key = key; number = number }) ∷ filter (is_above key) items

-- no number for a key
abbrev pub without : List ℕ → List Item → List Item
without key items = filter (is_below key) items ++ filter (is_above key) items
