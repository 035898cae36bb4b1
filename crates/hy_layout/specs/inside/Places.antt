-- Where the customers of a warehouse stand, by number and by last name.
use Rattle.std.specs.Prelude.{◌≡◌, ℕ, ◌+◌, ◌-◌, ◌/◌, ◌<◌, ◌≤◌, ◌==◌, ◌&&◌, ◌⊎◌, Bool, IfSome, List, Option, length, map, filter, Some, slice_get, slice_index}
use Rattle.std.specs.Cmp.Lexicographic.{slice_cmp}
use Rattle.std.specs.List.Sorted.{IsPermutation, IsSortedBy}
use Rattle.std.specs.Ordering.{is_lt, nat_cmp, ordering_then}
use Rattle.std.specs.declared.cmp.Ordering.{Ordering}
use Rattle.std.specs.Str.{bytes_eq}
use Rattle.hy_rows.specs.Limits.{districts_per_warehouse}
use Rattle.hy_rows.specs.Ranges.{IsBetween}
use Rattle.hy_rows.specs.Tables.{Lists}
use Rattle.hy_rows.specs.declared.customer.Customer.{Customer}
use Rattle.hy_layout.specs.declared.names.NamedCustomer.{NamedCustomer}

-- the columns by which a customer is found
abbrev pub named : Customer → NamedCustomer
named row = record {
  district = row.district;
  last = row.last;
  first = row.first;
  id = row.id;
}

-- by district, last name, first name and number
abbrev pub compare_named : NamedCustomer → NamedCustomer → Ordering
compare_named one other =
    ordering_then (nat_cmp one.district other.district)
    (ordering_then (slice_cmp nat_cmp one.last other.last)
    (ordering_then (slice_cmp nat_cmp one.first other.first) (nat_cmp one.id other.id)))

abbrev pub is_lesser : NamedCustomer → NamedCustomer → Bool
is_lesser one other = is_lt (compare_named one other)

-- where a customer stands beside those of a district with a last name
abbrev pub compare_name : ℕ → List ℕ → NamedCustomer → Ordering
compare_name district name customer =
    ordering_then (nat_cmp customer.district district) (slice_cmp nat_cmp customer.last name)

-- whether a customer of a district has a last name
abbrev pub is_called : ℕ → List ℕ → NamedCustomer → Bool
is_called district name customer = (customer.district == district) && bytes_eq customer.last name

-- the one in the middle: of n, that at place (n + 1) / 2, counted from 1
abbrev pub middle_of : List NamedCustomer → Option NamedCustomer
middle_of customers = slice_get customers ((length customers + 1) / 2 - 1)

-- behind a customer of a warehouse stands the next number of the same district, or customer 1 of the next district
abbrev pub IsNext : Customer → Customer → Type 0
IsNext before row =
    ((row.district ≡ before.district) × (row.id ≡ before.id + 1))
    ⊎ ((row.district ≡ before.district + 1) × (row.id ≡ 1))

-- the customers of a warehouse, from customer 1 of district 1 on
pub record AreInOrder (rows : List Customer) : Type 0 where
  pub first : IfSome (slice_get rows 0) (λ row. (row.district ≡ 1) × (row.id ≡ 1))
  pub next : (place : ℕ) (before row : Customer) → slice_get rows place ≡ Some before
      → slice_get rows (place + 1) ≡ Some row → IsNext before row
  pub last : (place : ℕ) (row : Customer) → slice_get rows place ≡ Some row
      → row.district ≤ districts_per_warehouse

-- so many rows stand up to a district
pub record IsEndOf (rows : List Customer) (district count : ℕ) : Type 0 where
  pub bound : count ≤ length rows
  pub before : (place : ℕ) (row : Customer) → slice_get rows place ≡ Some row → place < count → row.district ≤ district
  pub behind : (place : ℕ) (row : Customer) → slice_get rows place ≡ Some row → count ≤ place → district < row.district

-- the place at which the customer of a district with a number stands, and that there is none
pub record IsPlaceOf (starts : List ℕ) (district number place : ℕ) : Type 0 where
  pub first : 1 ≤ district
  pub last : district ≤ districts_per_warehouse
  pub positive : 1 ≤ number
  pub is_place : place + 1 ≡ slice_index starts (district - 1) + number
  pub within : place < slice_index starts district

abbrev pub IsNoPlace : List ℕ → ℕ → ℕ → Type 0
IsNoPlace starts district number = (place : ℕ) → ¬ (IsPlaceOf starts district number place)

-- how many customers stand before each district, and how many there are
pub record AreStarts (customers : List NamedCustomer) (starts : List ℕ) : Type 0 where
  pub count : length starts ≡ districts_per_warehouse + 1
  pub rising : (district : ℕ) → district < districts_per_warehouse
      → slice_index starts district ≤ slice_index starts (district + 1)
  pub each : (place : ℕ) (customer : NamedCustomer) → slice_get customers place ≡ Some customer
      → IsPlaceOf starts customer.district customer.id place
  pub all : (district place : ℕ) → 1 ≤ district → district ≤ districts_per_warehouse
      → slice_index starts (district - 1) ≤ place → place < slice_index starts district
      → (customer : NamedCustomer) × (slice_get customers place ≡ Some customer) × (customer.district ≡ district)

-- the same customers in order
pub record AreNames (customers names : List NamedCustomer) : Type 0 where
  pub same : IsPermutation customers names
  pub in_order : IsSortedBy is_lesser names

-- a warehouse of a load, and the places of its customers
pub record IsLaidOut (load : Lists) (warehouse : ℕ) (starts : List ℕ) (names : List NamedCustomer) : Type 0 where
  pub is_one : IsBetween 1 (length load.tables.warehouses) warehouse
  pub by_number : AreStarts (map named (filter (λ row. row.warehouse == warehouse) load.tables.customers)) starts
  pub by_name : AreNames (map named (filter (λ row. row.warehouse == warehouse) load.tables.customers)) names
