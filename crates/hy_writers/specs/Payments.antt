-- The row of HISTORY for a payment, from the rows that it names.
use Rattle.std.specs.Prelude.{ℕ, Bool, false, List, pos, ◌+◌, ◌+ℤ◌, ◌-ℤ◌, if◌then◌else◌, ◌++◌, bytes_eq, codes, decimal, slice_set}
use Rattle.hy_rows.specs.declared.customer.Customer.{Customer}
use Rattle.hy_rows.specs.declared.district.District.{District}
use Rattle.hy_rows.specs.declared.history.History.{History}
use Rattle.hy_rows.specs.declared.warehouse.Warehouse.{Warehouse}
use Rattle.hy_commands.specs.declared.command.Payment.{Payment}
use Rattle.hy_commands.specs.declared.edition.Edition.{Edition}
use Rattle.hy_commands.specs.declared.edition.Edition.TheVariants as editions
use Rattle.hy_commands.specs.declared.reply.Reply.{Reply}
use Rattle.hy_commands.specs.declared.reply.Reply.TheVariants as replies
use Rattle.hy_commands.specs.Payments.{customer_paid, noted, paid_by, paid_in}
use Rattle.hy_commands.specs.Transactions.{payer}
use Rattle.hy_layout.specs.Layout.{IsMeantAt, LayoutState}
use Rattle.hy_schema.specs.Keys.{IsOneWarehouse}
use Rattle.hy_indexes.specs.of_store.Stored.{Stored}
use Rattle.hy_writers.specs.Begun.{IsCustomerPayment, IsHomePayment}
use Rattle.hy_writers.specs.Limits.{AreInBounds}

-- the home warehouse, its district and the history after a payment of a customer
abbrev pub with_home_paid : Payment → ℕ → Stored → Stored
with_home_paid payment customer s = record s { tables = paid_in payment customer s.tables }

-- its customer after it
abbrev pub with_customer_paid : Edition → Payment → Stored → Stored
with_customer_paid edition payment s =
    record s { tables = paid_by edition payment (payer payment s.tables).id s.tables }

-- what a payment notes of a customer with a number
abbrev pub note_of : Payment → ℕ → List ℕ
note_of payment customer =
    decimal customer ++ codes " " ++ decimal payment.customer_district ++ codes " " ++ decimal payment.customer_warehouse
    ++ codes " " ++ decimal payment.district ++ codes " " ++ decimal payment.warehouse ++ codes " " ++ decimal payment.amount ++ codes ";"

abbrev pub history_for : Payment → ℕ → Warehouse → District → History
history_for payment customer warehouse district = record {
  customer = customer;
  customer_district = payment.customer_district;
  customer_warehouse = payment.customer_warehouse;
  district = payment.district;
  warehouse = payment.warehouse;
  date = payment.at;
  amount = pos payment.amount;
  information = warehouse.name ++ codes "    " ++ district.name;
}

-- the customer's balance, what was paid in all and how often, after some cents were paid
abbrev pub account_paid : ℕ → Customer → Customer
account_paid cents row = record row {
  balance = row.balance -ℤ pos cents;
  ytd_payment = row.ytd_payment +ℤ pos cents;
  payment_count = row.payment_count + 1;
}

-- whether a payment is noted of a customer with some credit
abbrev pub is_noted : Edition → List ℕ → Bool
is_noted editions.First credit = false
is_noted editions.Second credit = bytes_eq credit (codes "BC")

-- the customer at a place, with this row, after it was noted
abbrev pub with_noted : Payment → ℕ → ℕ → Customer → Stored → Stored
with_noted payment customer place row s = record s {
  tables = record s.tables {
    customers =
        slice_set s.tables.customers place
        (record row { information = noted (note_of payment customer) row.information });
  };
}

-- and where that isn't due, the store stays
abbrev pub with_noted_if : Bool → Payment → ℕ → ℕ → Customer → Stored → Stored
with_noted_if is_due payment customer place row s = if is_due then with_noted payment customer place row s else s

-- the reply to the payment of a customer
abbrev pub payment_reply : Edition → Payment → Customer → Reply
payment_reply edition payment row = replies.Payment row.id (customer_paid edition payment row).balance

-- what the home's slice of a payment needs: the warehouse has its rows, within their bounds, and takes in the payment
pub record CanPayHome (layout : LayoutState) (payment : Payment) (s : Stored) : Type 0 where
  pub rows : IsOneWarehouse layout.warehouse s.tables
  pub bounds : AreInBounds s.tables
  pub begun : IsHomePayment layout.warehouse payment

-- and what the customer's slice needs: the warehouse has its rows, within their bounds, and the customer who pays is
-- one of it, and stands at a place
pub record CanPayCustomer (layout : LayoutState) (payment : Payment) (place : ℕ) (s : Stored) : Type 0 where
  pub rows : IsOneWarehouse layout.warehouse s.tables
  pub bounds : AreInBounds s.tables
  pub begun : IsCustomerPayment layout.warehouse payment
  pub payer : IsMeantAt layout.warehouse payment.customer_district payment.who s.tables.customers place
