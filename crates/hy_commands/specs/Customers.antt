-- Which customer is meant.
use Rattle.std.specs.Prelude.{ℕ, pos, ◌+◌, ◌-◌, ◌/◌, ◌==◌, ◌&&◌, Bool, Option, List, [], find, filter, length, slice_get}
use Rattle.std.specs.Ordering.{is_lt, nat_cmp, ordering_then}
use Rattle.std.specs.Cmp.Lexicographic.{slice_cmp}
use Rattle.std.specs.Str.{bytes_eq}
use Rattle.hy_rows.specs.declared.customer.Customer.{Customer}
use Rattle.hy_rows.specs.Finding.{is_customer}
use Rattle.hy_commands.specs.declared.command.Who.{Who}
use Rattle.hy_commands.specs.declared.command.Who.TheVariants as who
use Rattle.hy_commands.specs.Sorting.{sorted}

-- the customers of a district with a last name
abbrev pub is_named : ℕ → ℕ → List ℕ → Customer → Bool
is_named warehouse district name row =
    (row.warehouse == warehouse) && (row.district == district) && bytes_eq row.last name

-- by first name, and customers of the same first name by number
abbrev pub is_earlier : Customer → Customer → Bool
is_earlier one other = is_lt (ordering_then (slice_cmp nat_cmp one.first other.first) (nat_cmp one.id other.id))

-- the one in the middle: of n rows that at place (n + 1) / 2, counted from 1 (clause 2.5.2.2)
abbrev pub middle_of : List Customer → Option Customer
middle_of rows = slice_get rows ((length rows + 1) / 2 - 1)

-- the columns of a customer that no transaction changes
abbrev pub identity_of : Customer → Customer
identity_of row = record row {
  balance = pos 0;
  ytd_payment = pos 0;
  payment_count = 0;
  delivery_count = 0;
  information = [];
}

-- the customer of a district that is meant, where there is one
abbrev pub customer_meant : ℕ → ℕ → Who → List Customer → Option Customer
customer_meant warehouse district (who.Number number) rows = find (is_customer warehouse district number) rows
customer_meant warehouse district (who.Last name) rows =
    middle_of (sorted is_earlier (filter (is_named warehouse district name) rows))
