-- What a search in a tree finds.
use Rattle.std.specs.Prelude.{ℕ, List, Option, find}
use Rattle.std.specs.Option.{option_map}
use Rattle.hy_trees.specs.Nodes.{Item}
use Rattle.hy_trees.specs.Searches.{is_at}

-- the number of the item that has a key
abbrev pub found_in : List ℕ → List Item → Option ℕ
found_in key items = option_map (λ item. item.number) (find (is_at key) items)
