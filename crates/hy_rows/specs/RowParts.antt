-- Parts of rows: some columns of a row, one behind another.
use Rattle.std.specs.Prelude.{ℕ, List, [], ◌∷◌, drop, take}
use Rattle.hy_rows.specs.Catalogue.{columns_of}
use Rattle.hy_rows.specs.Columns.{Column, row_bytes, values_in}
use Rattle.hy_rows.specs.Rows.{number, number_of, signed_of, text_of}
use Rattle.hy_rows.specs.declared.catalogue.Table.TheVariants as tables
use Rattle.hy_rows.specs.declared.customer.Customer.{Customer}
use Rattle.hy_rows.specs.declared.customer.CustomerAccount.{CustomerAccount}
use Rattle.hy_rows.specs.declared.customer.CustomerDiscount.{CustomerDiscount}
use Rattle.hy_rows.specs.declared.customer.CustomerIdentity.{CustomerIdentity}
use Rattle.hy_rows.specs.declared.customer.CustomerNumber.{CustomerNumber}
use Rattle.hy_rows.specs.declared.value.Value.{Value}
use Rattle.hy_rows.specs.declared.value.Value.TheVariants.{Text, Whole}

-- who a customer is: the columns up to C_LAST
abbrev pub identity_columns : List Column
identity_columns = take 6 (columns_of tables.Customer)

abbrev pub identity_of : Customer → CustomerIdentity
identity_of row = record {
  id = row.id;
  district = row.district;
  warehouse = row.warehouse;
  first = row.first;
  middle = row.middle;
  last = row.last;
}

abbrev pub identity_with : List Value → CustomerIdentity
identity_with row = record {
  id = number_of row 0;
  district = number_of row 1;
  warehouse = number_of row 2;
  first = text_of row 3;
  middle = text_of row 4;
  last = text_of row 5;
}

abbrev pub identity_in : List ℕ → CustomerIdentity
identity_in bytes = identity_with (values_in identity_columns bytes)

-- the number of a customer: C_ID
abbrev pub number_columns : List Column
number_columns = take 1 (columns_of tables.Customer)

abbrev pub number_of_customer : Customer → CustomerNumber
number_of_customer row = record { number = row.id }

abbrev pub number_in : List ℕ → CustomerNumber
number_in bytes = record { number = number_of (values_in number_columns bytes) 0 }

-- its discount: C_DISCOUNT
abbrev pub discount_columns : List Column
discount_columns = take 1 (drop 7 (columns_of tables.Customer))

abbrev pub discount_of : Customer → CustomerDiscount
discount_of row = record { discount = row.discount }

abbrev pub discount_in : List ℕ → CustomerDiscount
discount_in bytes = record { discount = number_of (values_in discount_columns bytes) 0 }

-- C_CREDIT and the five columns behind it
abbrev pub account_columns : List Column
account_columns = take 6 (drop 6 (columns_of tables.Customer))

abbrev pub account_of : Customer → CustomerAccount
account_of row = record {
  credit = row.credit;
  discount = row.discount;
  balance = row.balance;
  ytd_payment = row.ytd_payment;
  payment_count = row.payment_count;
  delivery_count = row.delivery_count;
}

abbrev pub with_account : Customer → CustomerAccount → Customer
with_account row account = record row {
  credit = account.credit;
  discount = account.discount;
  balance = account.balance;
  ytd_payment = account.ytd_payment;
  payment_count = account.payment_count;
  delivery_count = account.delivery_count;
}

abbrev pub account_values : CustomerAccount → List Value
account_values account = Text account.credit ∷ number account.discount ∷ Whole account.balance ∷
    Whole account.ytd_payment ∷ number account.payment_count ∷ number account.delivery_count ∷ []

abbrev pub account_with : List Value → CustomerAccount
account_with row = record {
  credit = text_of row 0;
  discount = number_of row 1;
  balance = signed_of row 2;
  ytd_payment = signed_of row 3;
  payment_count = number_of row 4;
  delivery_count = number_of row 5;
}

abbrev pub account_bytes : CustomerAccount → List ℕ
account_bytes account = row_bytes account_columns (account_values account)

abbrev pub account_in : List ℕ → CustomerAccount
account_in bytes = account_with (values_in account_columns bytes)

-- the customer with an identity, an account and a text
abbrev pub customer_by : CustomerIdentity → CustomerAccount → List ℕ → Customer
customer_by identity account information = record {
  id = identity.id;
  district = identity.district;
  warehouse = identity.warehouse;
  first = identity.first;
  middle = identity.middle;
  last = identity.last;
  credit = account.credit;
  discount = account.discount;
  balance = account.balance;
  ytd_payment = account.ytd_payment;
  payment_count = account.payment_count;
  delivery_count = account.delivery_count;
  information = information;
}
