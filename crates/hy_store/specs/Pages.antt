-- How many pages the segments of a store have at most.
use Rattle.std.specs.Prelude.{◌≡◌, ℕ, ◌+◌, ◌≤◌, Some, List, [], ◌∷◌, ◌++◌, length, slice_get}
use Rattle.hy_rows.specs.Spelling.{IsTable, list_at, used_slots}
use Rattle.hy_rows.specs.Catalogue.{row_widths, segments}
use Rattle.hy_space.specs.Space.{SpaceState, owner_bytes}
use Rattle.hy_relation.specs.Relation.{HasFewPages, end_place}
use Rattle.hy_trees.specs.Nodes.{least_items}
use Rattle.hy_trees.specs.Trees.{most_pages}
use Rattle.hy_store.specs.Stored.{all_segments}

-- how many pages a table has at most of which so many slots are used: its page 0, and those up to the one on which the
-- slot behind them ends
abbrev pub row_pages : ℕ → ℕ → ℕ → ℕ
row_pages n row_bytes slots = end_place n row_bytes slots + 2

-- how many pages an index has at most that never had more than so many entries, each of them the bytes of a key and
-- eight more
abbrev pub index_pages : ℕ → ℕ → ℕ → ℕ
index_pages n key_bytes entries = most_pages (least_items n key_bytes) entries

-- how many bytes a key of each index has, by the order of their segments
abbrev pub key_widths : List ℕ
key_widths = 5 ∷ 3 ∷ 5 ∷ 6 ∷ []

-- a segment is that of an index whose keys have so many bytes
pub record IsIndexAt (segment key_bytes : ℕ) : Type 0 where
  pub behind : segments ≤ segment
  pub width : slice_get (row_widths ++ key_widths) segment ≡ Some key_bytes

-- a store has no segment but its own; of each table no more slots are used than the segment may have, and it has few
-- pages; and each index has no more pages than those for as many entries as the segment may have
pub record HasPagesUpTo (n : ℕ) (most : ℕ → ℕ) (bytes : List (List (List ℕ))) : Type 0 where
  pub all : length bytes ≡ all_segments
  pub slots : (segment row_bytes : ℕ) → IsTable segment row_bytes → used_slots (list_at bytes segment) ≤ most segment
  pub few : (segment row_bytes : ℕ) → IsTable segment row_bytes → HasFewPages n row_bytes (list_at bytes segment)
  pub indexes : (segment key_bytes : ℕ) → IsIndexAt segment key_bytes
      → length (list_at bytes segment) ≤ index_pages n key_bytes (most segment)

-- no page comes without need, also where a write was refused: where a segment may have so many slots or entries, the
-- pages are within what they were within
abbrev pub KeepsPagesUpTo : ℕ → ℕ → ℕ → SpaceState → SpaceState → Type 0
KeepsPagesUpTo n segment count old new = (most : ℕ → ℕ) → count ≤ most segment
    → HasPagesUpTo n most (owner_bytes old) → HasPagesUpTo n most (owner_bytes new)
