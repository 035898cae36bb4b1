-- How filled pages are after a split, a join and a move, by what is tested before each of them.
use Rattle.std.proofs.Common.{◌≡◌, ℕ, ◌+◌, ◌-◌, ◌/◌, ◌<◌, ◌≤◌, arith}
use Rattle.std.specs.Prelude.{max, min}
use Rattle.hy_trees.specs.Nodes.{capacity, least_items}

-- two pages that are filled enough fit in one
pub least_items-two : (n key_width : ℕ) → 4 ≤ capacity n key_width
    → least_items n key_width + least_items n key_width ≤ capacity n key_width
least_items-two n key_width four = by (capacity n key_width) four
  where
    by : (most : ℕ) → 4 ≤ most → max (most / 4) 2 + max (most / 4) 2 ≤ most
    by most four = omega (arith, four)

pub least_items-some : (n key_width : ℕ) → 2 ≤ least_items n key_width
least_items-some n key_width = by (capacity n key_width)
  where
    by : (most : ℕ) → 2 ≤ max (most / 4) 2
    by most = omega arith

-- where a full page is split
pub split-fills : (most least place : ℕ) → least + least ≤ most
    → (least ≤ min (max place least) (most - least)) × (min (max place least) (most - least) + least ≤ most)
split-fills most least place two = (omega (arith, two), omega (arith, two))

-- half of what one page has more than another moves: the one that had the fewest gets at least one
pub share-fills : (most least few many : ℕ) → least + least ≤ most → few ≡ least → many ≤ most → most < few + many
    → (0 < (many - few + 1) / 2) × ((many - few + 1) / 2 ≤ many) × (few + (many - few + 1) / 2 ≤ most)
    × (least ≤ many - (many - few + 1) / 2)
share-fills most least few many two is fits more = (
  omega (arith, two, is, fits, more),
  omega (arith, two, is, fits, more),
  omega (arith, two, is, fits, more),
  omega (arith, two, is, fits, more),
)
