-- Payment (TPC-C clause 2.5.2.2): what it does at its home warehouse, and what at the customer's.
use Rattle.std.specs.Prelude.{ℕ, Bool, pos, ◌+◌, ◌+ℤ◌, ◌-ℤ◌, if◌then◌else◌, List, [], ◌∷◌, ◌++◌, bytes_eq, codes, decimal, take}
use Rattle.hy_rows.specs.declared.customer.Customer.{Customer}
use Rattle.hy_rows.specs.declared.district.District.{District}
use Rattle.hy_rows.specs.declared.history.History.{History}
use Rattle.hy_rows.specs.declared.warehouse.Warehouse.{Warehouse}
use Rattle.hy_rows.specs.Finding.{first_or, is_customer, is_district, is_warehouse, with_changed}
use Rattle.hy_rows.specs.Rows.{district_of, warehouse_of}
use Rattle.hy_rows.specs.Tables.{Tables}
use Rattle.hy_commands.specs.declared.command.Payment.{Payment}
use Rattle.hy_commands.specs.declared.edition.Edition.{Edition}
use Rattle.hy_commands.specs.declared.edition.Edition.TheVariants as editions

-- W_YTD and D_YTD after some cents were paid
abbrev pub warehouse_paid : ℕ → Warehouse → Warehouse
warehouse_paid cents row = record row { ytd = row.ytd +ℤ pos cents }

abbrev pub district_paid : ℕ → District → District
district_paid cents row = record row { ytd = row.ytd +ℤ pos cents }

-- what a payment notes in C_DATA: the customer's number, district and warehouse, the district and the warehouse that
-- take the payment, and the amount in cents
abbrev pub payment_note : Payment → Customer → List ℕ
payment_note payment row =
    decimal row.id ++ codes " " ++ decimal row.district ++ codes " " ++ decimal row.warehouse ++ codes " "
    ++ decimal payment.district ++ codes " " ++ decimal payment.warehouse ++ codes " " ++ decimal payment.amount ++ codes ";"

-- C_DATA has at most so many characters (TPC-C clause 1.3.1)
abbrev pub max_information : ℕ
max_information = 500

-- C_DATA with a note before what it had, cut at the end
abbrev pub noted : List ℕ → List ℕ → List ℕ
noted note information = take max_information (note ++ information)

-- whether a customer has bad credit
abbrev pub has_bad_credit : Customer → Bool
has_bad_credit row = bytes_eq row.credit (codes "BC")

-- C_DATA after a payment: that of a customer with bad credit has its note, but in the first edition
abbrev pub information_after : Edition → Payment → Customer → List ℕ
information_after editions.First payment row = row.information
information_after editions.Second payment row =
    if has_bad_credit row then noted (payment_note payment row) row.information else row.information

abbrev pub customer_paid : Edition → Payment → Customer → Customer
customer_paid edition payment row = record row {
  balance = row.balance -ℤ pos payment.amount;
  ytd_payment = row.ytd_payment +ℤ pos payment.amount;
  payment_count = row.payment_count + 1;
  information = information_after edition payment row;
}

-- the row of HISTORY for a payment of a customer; H_DATA is W_NAME, four spaces, D_NAME
abbrev pub history_row : Payment → ℕ → Tables → History
history_row payment customer tables = record {
  customer = customer;
  customer_district = payment.customer_district;
  customer_warehouse = payment.customer_warehouse;
  district = payment.district;
  warehouse = payment.warehouse;
  date = payment.at;
  amount = pos payment.amount;
  information =
      (first_or (warehouse_of []) (is_warehouse payment.warehouse) tables.warehouses).name ++ codes "    "
      ++ (first_or (district_of []) (is_district payment.warehouse payment.district) tables.districts).name;
}

-- what the payment of a customer does to its home warehouse
abbrev pub paid_in : Payment → ℕ → Tables → Tables
paid_in payment customer tables = record tables {
  warehouses = with_changed (is_warehouse payment.warehouse) (warehouse_paid payment.amount) tables.warehouses;
  districts =
      with_changed (is_district payment.warehouse payment.district) (district_paid payment.amount) tables.districts;
  history = tables.history ++ history_row payment customer tables ∷ [];
}

-- what it does to the customer's warehouse
abbrev pub paid_by : Edition → Payment → ℕ → Tables → Tables
paid_by edition payment customer tables = record tables {
  customers =
      with_changed (is_customer payment.customer_warehouse payment.customer_district customer)
      (customer_paid edition payment) tables.customers;
}
