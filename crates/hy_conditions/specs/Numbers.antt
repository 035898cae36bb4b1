-- How many numbers there are, the least and the greatest of them.
use Rattle.std.specs.Prelude.{ℕ, ◌+◌, ◌-◌, ◌==◌, ◌&&◌, true, if◌then◌else◌, min, max, Bool, List, length}
use Rattle.indexmap.specs.IndexMap.{IndexMap}
use Rattle.hy_schema.specs.Conditions.{greatest, least}
use Rattle.hy_conditions.specs.declared.numbers.Numbers.{Numbers}
use Rattle.hy_conditions.specs.Groups.{group_at}

abbrev pub numbers_of : List ℕ → Numbers
numbers_of numbers = record { count = length numbers; least = least numbers; greatest = greatest numbers }

-- none
abbrev pub no_numbers : Numbers
no_numbers = record { count = 0; least = 0; greatest = 0 }

-- one number more
abbrev pub with_number : Numbers → ℕ → Numbers
with_number numbers number = record {
  count = numbers.count + 1;
  least = if numbers.count == 0 then number else min numbers.least number;
  greatest = max numbers.greatest number;
}

-- what a map has for a key: none where the key isn't there
abbrev pub numbers_at : {Key Hasher : Type 0} → (Key → Key → Bool) → IndexMap Key Numbers Hasher → Key → Numbers
numbers_at same groups key = group_at same no_numbers groups key

-- whether a number comes next behind the orders, and behind the new orders if there is one
abbrev pub are_behind : ℕ → Numbers → Numbers → Bool
are_behind next orders news =
    (next - 1 == orders.greatest) && (if news.count == 0 then true else next - 1 == news.greatest)

-- whether there are as many numbers as from the least to the greatest, or none
abbrev pub are_in_row : Numbers → Bool
are_in_row numbers = if numbers.count == 0 then true else numbers.greatest - numbers.least + 1 == numbers.count
