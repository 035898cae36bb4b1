-- What the checker computes: entries and the lines that they name, and items that are gathered.
use Rattle.std.specs.Prelude.{◌≡◌, ℕ, nat_lt, pos, List, [], ◌∷◌}
use Rattle.std.proofs.Common.{refl}
use Rattle.hy_rows.specs.declared.order_line.OrderLine.{OrderLine}
use Rattle.hy_writers.specs.of_index.declared.key.Entry.{Entry}
use Rattle.hy_writers.specs.of_store.declared.keys.LineKey.{LineKey}
use Rattle.hy_tpcc.specs.Levels.{entries_of, items_named, with_item, with_items}
use Rattle.hy_tpcc.specs.Lines.{lines_named}

abbrev line : ℕ → ℕ → ℕ → ℕ → OrderLine
line order district number item = record {
  order = order;
  district = district;
  warehouse = 2;
  number = number;
  item = item;
  supply_warehouse = 2;
  delivery_date = 0;
  quantity = 5;
  amount = pos 900;
}

abbrev entry : ℕ → ℕ → ℕ → ℕ → Entry LineKey
entry order district number slot =
    record { key = record { order = order; district = district; number = number }; slot = slot }

-- order 8 of district 3 has two lines; those before and behind them are of other orders
abbrev lines : List OrderLine
lines = line 8 3 1 50 ∷ line 8 4 1 60 ∷ line 7 3 1 70 ∷ line 8 3 2 80 ∷ line 9 3 1 90 ∷ []

abbrev entries : List (Entry LineKey)
entries = entry 7 3 1 2 ∷ entry 8 3 1 0 ∷ entry 8 3 2 3 ∷ entry 8 4 1 1 ∷ entry 9 3 1 4 ∷ []

own_entries : entries_of 8 3 entries ≡ entry 8 3 1 0 ∷ entry 8 3 2 3 ∷ []
own_entries = refl

own_lines : lines_named lines (entries_of 8 3 entries) ≡ line 8 3 1 50 ∷ line 8 3 2 80 ∷ []
own_lines = refl

own_items : items_named lines (entries_of 8 3 entries) ≡ 50 ∷ 80 ∷ []
own_items = refl

-- an order without lines, and a district without orders
no_order : entries_of 6 3 entries ≡ []
no_order = refl

no_district : entries_of 8 5 entries ≡ []
no_district = refl

-- an item that passes, one that doesn't, and one that is there
new_item : with_item (λ item. nat_lt item 60) (20 ∷ []) 50 ≡ 20 ∷ 50 ∷ []
new_item = refl

other_item : with_item (λ item. nat_lt item 60) (20 ∷ []) 60 ≡ 20 ∷ []
other_item = refl

item_again : with_item (λ item. nat_lt item 60) (20 ∷ 50 ∷ []) 20 ≡ 20 ∷ 50 ∷ []
item_again = refl

gathered : with_items (λ item. nat_lt item 60) (20 ∷ []) (50 ∷ 70 ∷ 20 ∷ 50 ∷ 10 ∷ []) ≡ 20 ∷ 50 ∷ 10 ∷ []
gathered = refl
