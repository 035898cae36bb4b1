-- Indexes over the orders of a small load, and frames for some rows, which the checker computes.
use Rattle.std.specs.Prelude.{◌≡◌, ◌+◌, ◌-◌, ◌*◌, ◌==◌, List, [], ◌∷◌, filter, fold, replicate, refl}
use Rattle.hy_rows.specs.declared.order.Order.{Order}
use Rattle.hy_rows.specs.Catalogue.{segments}
use Rattle.hy_rows.specs.Tables.{no_rows}
use Rattle.hy_indexes.specs.Indexes.{order_key_at}
use Rattle.hy_indexes.specs.WorkedIndexes.{of_customer, of_order, order}
use Rattle.hy_fill.specs.Frames.{frames_for}
use Rattle.hy_fill.specs.inside.Filling.{with_row}
use Rattle.hy_fill.specs.inside.LastOrders.{with_order}

-- the orders of a load, the second of another warehouse
abbrev loaded : List Order
loaded = order 1 2 7 30 ∷ order 2 2 7 30 ∷ order 1 2 9 30 ∷ order 1 2 8 30 ∷ order 1 3 6 31 ∷ []

abbrev own : List Order
own = filter (λ row. row.warehouse == 1) loaded

-- places count the rows of the warehouse alone
order_entries : fold (λ entries row. with_row order_key_at (λ r. r.warehouse == 1) row entries) [] loaded
    ≡ of_order 7 2 0 ∷ of_order 9 2 1 ∷ of_order 8 2 2 ∷ of_order 6 3 3 ∷ []
order_entries = refl

-- customer 30 has order 9, in whatever order the three are given
last_forward : fold (λ entries entry. with_order own entry entries) []
    (of_customer 2 30 0 ∷ of_customer 2 30 1 ∷ of_customer 2 30 2 ∷ of_customer 3 31 3 ∷ [])
    ≡ of_customer 2 30 1 ∷ of_customer 3 31 3 ∷ []
last_forward = refl

last_backward : fold (λ entries entry. with_order own entry entries) []
    (of_customer 3 31 3 ∷ of_customer 2 30 2 ∷ of_customer 2 30 1 ∷ of_customer 2 30 0 ∷ [])
    ≡ of_customer 2 30 1 ∷ of_customer 3 31 3 ∷ []
last_backward = refl

-- ---- frames

-- 100 orders: with pages of 256 bytes twelve rows of ORDER fit a page. A page of their index has 4 of at most 19 entries
-- at least, and one of last orders 5 of at most 22. So there are 8 + 2 pages of rows, 100 / 3 + 3 and 100 / 4 + 3 of
-- entries, two for each other table, but four for CUSTOMER, whose first row reaches into its third page behind the count,
-- and three for each of two other indexes
of_orders : frames_for 256 (record no_rows { orders = replicate 100 (order 1 2 7 30) })
    ≡ 10 + 36 + 28 + 2 * (segments - 2) + 4 + 3 * 2
unfolding frames_for
of_orders = refl

-- without rows two pages for each table but CUSTOMER, and three for each of four indexes
of_none : frames_for 256 no_rows ≡ 2 * (segments - 1) + 4 + 3 * 4
unfolding frames_for
of_none = refl
