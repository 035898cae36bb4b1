-- Places in a small load, with expected values by hand. District 1 of warehouse 2 has six customers: three of the last
-- name THREE, two of the name TWO, and one ONE.
use Rattle.std.specs.Prelude.{◌≡◌, ℕ, ◌+◌, ◌*◌, true, false, pos, negsuc, List, [], ◌∷◌, None, codes, map, slice_index, refl}
use Rattle.std.specs.List.{flat_map}
use Rattle.std.proofs.Common.{ap, arith}
use Rattle.hy_rows.specs.Rows.{customer_with}
use Rattle.hy_rows.specs.Tables.{Tables, no_rows}
use Rattle.hy_rows.specs.declared.customer.Customer.{Customer}
use Rattle.hy_rows.specs.declared.stock.Stock.{Stock}
use Rattle.hy_commands.specs.Customers.{customer_meant}
use Rattle.hy_commands.specs.declared.command.Who.TheVariants as who
use Rattle.hy_layout.specs.Layout.{IsMeantAt, IsStockAt, KeepsPlaces, LayoutState, own_rows}
use Rattle.hy_layout.specs.inside.Places.{is_called, is_lesser, named}

abbrev customer : ℕ → ℕ → ℕ → List ℕ → List ℕ → Customer
customer warehouse district number last first = record (customer_with []) {
  id = number;
  district = district;
  warehouse = warehouse;
  first = first;
  middle = codes "OE";
  last = last;
  credit = codes "GC";
  discount = 100 * number;
  balance = negsuc 999;
  ytd_payment = pos 1_000;
  payment_count = 1;
}

abbrev stock : ℕ → ℕ → Stock
stock warehouse item = record {
  item = item;
  warehouse = warehouse;
  quantity = 20 + item;
  ytd = 0;
  order_count = 0;
  remote_count = 0;
}

abbrev layout : LayoutState
layout = record {
  load = record {
    items = [];
    tables = record no_rows {
      customers =
          customer 1 1 1 (codes "ONE") (codes "AL") ∷ customer 1 2 1 (codes "TWO") (codes "BO")
          ∷ customer 2 1 1 (codes "THREE") (codes "LEO") ∷ customer 2 1 2 (codes "TWO") (codes "MAX")
          ∷ customer 2 1 3 (codes "THREE") (codes "EVA") ∷ customer 2 1 4 (codes "ONE") (codes "IDA")
          ∷ customer 2 1 5 (codes "TWO") (codes "KIM") ∷ customer 2 1 6 (codes "THREE") (codes "LEA")
          ∷ customer 2 2 1 (codes "ONE") (codes "TIM") ∷ [];
      stock = stock 1 1 ∷ stock 1 2 ∷ stock 2 1 ∷ stock 2 2 ∷ [];
    };
  };
  warehouse = 2;
}

-- ---- places count from 0 among the warehouse's own rows

by_number : IsMeantAt 2 2 (who.Number 1) (own_rows layout).customers 6
by_number = record { row = customer 2 2 1 (codes "ONE") (codes "TIM"); here = refl; meant = refl; key = refl }

no_number : customer_meant 2 2 (who.Number 2) (own_rows layout).customers ≡ None
no_number = refl

-- of one, of two and of three: by first name KIM comes before MAX, and LEA between EVA and LEO
of_one : IsMeantAt 2 1 (who.Last (codes "ONE")) (own_rows layout).customers 3
of_one = record { row = customer 2 1 4 (codes "ONE") (codes "IDA"); here = refl; meant = refl; key = refl }

of_two : IsMeantAt 2 1 (who.Last (codes "TWO")) (own_rows layout).customers 4
of_two = record { row = customer 2 1 5 (codes "TWO") (codes "KIM"); here = refl; meant = refl; key = refl }

of_three : IsMeantAt 2 1 (who.Last (codes "THREE")) (own_rows layout).customers 5
of_three = record { row = customer 2 1 6 (codes "THREE") (codes "LEA"); here = refl; meant = refl; key = refl }

no_name : customer_meant 2 2 (who.Last (codes "TWO")) (own_rows layout).customers ≡ None
no_name = refl

-- item 2 stands behind item 1
second_item : IsStockAt 2 2 (own_rows layout).stock 1
second_item = record { row = stock 2 2; here = refl; key = refl }

-- ---- what a payment and a purchase change leaves each row where it stood

abbrev few : Tables
few = record no_rows {
  customers = customer 2 1 1 (codes "THREE") (codes "LEO") ∷ customer 2 1 2 (codes "TWO") (codes "MAX") ∷ [];
  stock = stock 2 1 ∷ stock 2 2 ∷ [];
}

paid : KeepsPlaces few (record few {
  customers =
      record (customer 2 1 1 (codes "THREE") (codes "LEO")) {
        balance = negsuc 1_999;
        ytd_payment = pos 2_000;
        payment_count = 2;
        delivery_count = 1;
      } ∷ customer 2 1 2 (codes "TWO") (codes "MAX") ∷ [];
  stock = stock 2 1 ∷ record (stock 2 2) { quantity = 12; ytd = 10; order_count = 1; remote_count = 1 } ∷ [];
})
paid = record { customers = refl; stock = refl }

-- two customers that changed places, or a first name, or a row of STOCK that is gone, don't
exchanged : KeepsPlaces few (record few {
  customers = customer 2 1 2 (codes "TWO") (codes "MAX") ∷ customer 2 1 1 (codes "THREE") (codes "LEO") ∷ [];
}) → ⊥
exchanged keeps =
    let same : 2 ≡ 1 = ap (λ (rows : List Customer). slice_index (map (λ row. row.id) rows) 0) keeps.customers in
    omega (arith, same)

renamed : KeepsPlaces few (record few {
  customers = customer 2 1 1 (codes "THREE") (codes "LEA") ∷ customer 2 1 2 (codes "TWO") (codes "MAX") ∷ [];
}) → ⊥
renamed keeps =
    let same : 65 ≡ 79 =
    ap (λ (rows : List Customer). slice_index (flat_map (λ row. row.first) rows) 2) keeps.customers in
    omega (arith, same)

lost : KeepsPlaces few (record few { stock = stock 2 1 ∷ [] }) → ⊥
lost keeps = absurd (let same = keeps.stock in cc)

-- ---- the order of the names: the district first, then the last name, the first name and the number

by_district : is_lesser (named (customer 2 1 9 (codes "TWO") (codes "B"))) (named (customer 2 2 1 (codes "ONE") (codes "A")))
    ≡ true
by_district = refl

by_last : is_lesser (named (customer 2 1 9 (codes "ONE") (codes "B"))) (named (customer 2 1 1 (codes "TWO") (codes "A")))
    ≡ true
by_last = refl

by_first : is_lesser (named (customer 2 1 9 (codes "ONE") (codes "A"))) (named (customer 2 1 1 (codes "ONE") (codes "B")))
    ≡ true
by_first = refl

by_id : is_lesser (named (customer 2 1 9 (codes "ONE") (codes "A"))) (named (customer 2 1 10 (codes "ONE") (codes "A")))
    ≡ true
by_id = refl

-- a prefix is another name
prefix : is_called 1 (codes "T") (named (customer 2 1 2 (codes "TWO") (codes "MAX"))) ≡ false
prefix = refl
