-- The order of customers by district, last name, first name and number.
use Rattle.std.proofs.Common.{◌≡◌, ℕ, ◌+◌, ◌≤◌, ◌==◌, true, false, cond, not, ◌&&◌, List, get_or, Ordering, Equal, Greater, Less, refl, sym, ap, ap₂, subst, ◌∙◌, arith}
use Rattle.std.specs.Cmp.{IsTotalOrder, IsStrictWeakOrder}
use Rattle.std.specs.Cmp.Lexicographic.{slice_cmp}
use Rattle.std.specs.List.Sorted.{IsNonDecreasingBy, IsPartitionedBy, IsSortedBy}
use Rattle.std.specs.Ordering.{is_eq, is_le, is_lt, nat_cmp, ordering_index, ordering_then}
use Rattle.std.specs.Prelude.{nat_lt}
use Rattle.std.proofs.lemmas.Bool.Decides.{nat_tests}
use Rattle.std.proofs.lemmas.Slice.Eq.{bytes_eq-Decides}
use Rattle.std.proofs.lemmas.Cmp.{nat_cmp_total, nat_list_cmp_total, on_total, then_total, tied_itself}
use Rattle.std.proofs.lemmas.List.Sorted.{ranks_by, searchable_from_sorted}
use Rattle.std.proofs.lemmas.Map.Text.{is_eq-slice_cmp}
use Rattle.hy_rows.specs.declared.customer.Customer.{Customer}
use Rattle.hy_commands.specs.Customers.{is_earlier}
use Rattle.hy_layout.specs.Finds.{IsOrder}
use Rattle.hy_layout.specs.declared.names.NamedCustomer.{NamedCustomer}
use Rattle.hy_layout.specs.inside.Places.{compare_name, compare_named, is_called, is_lesser, named}
use Rattle.hy_layout.proofs.KeyOrders.{both-equal, order-total, same-number}

pub compare_named-total : IsTotalOrder compare_named
compare_named-total =
    then_total (on_total (λ (customer : NamedCustomer). customer.district) nat_cmp_total)
    (then_total (on_total (λ (customer : NamedCustomer). customer.last) nat_list_cmp_total)
    (then_total (on_total (λ (customer : NamedCustomer). customer.first) nat_list_cmp_total)
    (on_total (λ (customer : NamedCustomer). customer.id) nat_cmp_total)))

pub lesser-weak : IsStrictWeakOrder is_lesser
lesser-weak = ranks_by compare_named-total (λ (customer : NamedCustomer). customer)

same-text : (one other : List ℕ) → slice_cmp nat_cmp one other ≡ Equal → one ≡ other
same-text one other is = (bytes_eq-Decides one other).0 (sym (is_eq-slice_cmp one other) ∙ ap is_eq is)

-- ---- the customers of a district with a last name stand together

lower-lt : (one other : Ordering) → ordering_index one ≤ ordering_index other → is_lt other ≡ true → is_lt one ≡ true
lower-lt Less other below is = refl
lower-lt Equal Less below is = absurd (omega arith)
lower-lt Equal Equal below is = is
lower-lt Equal Greater below is = is
lower-lt Greater Less below is = absurd (omega arith)
lower-lt Greater Equal below is = is
lower-lt Greater Greater below is = is

lower-le : (one other : Ordering) → ordering_index one ≤ ordering_index other → is_le other ≡ true → is_le one ≡ true
lower-le Less other below is = refl
lower-le Equal other below is = refl
lower-le Greater Less below is = absurd (omega arith)
lower-le Greater Equal below is = absurd (omega arith)
lower-le Greater Greater below is = is

first-two : (district last rest : Ordering) → is_lt (ordering_then district (ordering_then last rest)) ≡ false
    → is_lt (ordering_then district last) ≡ false
first-two Less last rest is = is
first-two Equal Less rest is = is
first-two Equal Equal rest is = refl
first-two Equal Greater rest is = refl
first-two Greater last rest is = refl

abbrev compare_pairs : ℕ × List ℕ → ℕ × List ℕ → Ordering
compare_pairs one other = ordering_then (nat_cmp one.0 other.0) (slice_cmp nat_cmp one.1 other.1)

compare_pairs-total : IsTotalOrder compare_pairs
compare_pairs-total = then_total (on_total (λ (pair : ℕ × List ℕ). pair.0) nat_cmp_total)
    (on_total (λ (pair : ℕ × List ℕ). pair.1) nat_list_cmp_total)

names-rise : (district : ℕ) (name : List ℕ) (names : List NamedCustomer) → IsSortedBy is_lesser names
    → IsNonDecreasingBy (λ customer. ordering_index (compare_name district name customer)) names
names-rise district name names in_order =
    searchable_from_sorted compare_pairs-total (λ (customer : NamedCustomer). (customer.district, customer.last)) names
    (district, name)
    (λ k d from below.
    let one : NamedCustomer = get_or names (k + 1) d in
    let other : NamedCustomer = get_or names k d in
    first-two (nat_cmp one.district other.district) (slice_cmp nat_cmp one.last other.last)
    (ordering_then (slice_cmp nat_cmp one.first other.first) (nat_cmp one.id other.id)) (in_order k d from below))

pub names-first : (district : ℕ) (name : List ℕ) (names : List NamedCustomer) → IsSortedBy is_lesser names
    → IsPartitionedBy (λ customer. is_lt (compare_name district name customer)) names
names-first district name names in_order = λ i j d before within.
    lower-lt (compare_name district name (get_or names i d)) (compare_name district name (get_or names j d))
    (names-rise district name names in_order i j d before within)

pub names-last : (district : ℕ) (name : List ℕ) (names : List NamedCustomer) → IsSortedBy is_lesser names
    → IsPartitionedBy (λ customer. is_le (compare_name district name customer)) names
names-last district name names in_order = λ i j d before within.
    lower-le (compare_name district name (get_or names i d)) (compare_name district name (get_or names j d))
    (names-rise district name names in_order i j d before within)

-- ---- which they are

not-both : (a b : ℕ) → nat_lt a b ≡ true → (a == b) ≡ false
not-both a b less = grind (arith, nat_tests)

eq-then : (a b : ℕ) (o : Ordering) → is_eq (ordering_then (nat_cmp a b) o) ≡ (a == b) && is_eq o
eq-then a b o =
    elim (nat_lt a b) as (λ t. nat_lt a b ≡ t
    → is_eq (ordering_then (cond t Less (cond (a == b) Equal Greater)) o) ≡ (a == b) && is_eq o) [
      | true ↦ λ less. sym (ap (λ t. t && is_eq o) (not-both a b less))
      | false ↦ λ not_less. elim (a == b) as (λ t. is_eq (ordering_then (cond t Equal Greater) o) ≡ t && is_eq o) [
        | true ↦ refl
        | false ↦ refl
      ]
    ] refl

le-wider : (o : Ordering) → is_lt o ≡ true → is_le o ≡ true
le-wider Less is = refl
le-wider Equal is = refl
le-wider Greater is = is

eq-between : (o : Ordering) → is_eq o ≡ not (is_lt o) && is_le o
eq-between Less = refl
eq-between Equal = refl
eq-between Greater = refl

pub name-wider : (district : ℕ) (name : List ℕ) (customer : NamedCustomer)
    → is_lt (compare_name district name customer) ≡ true → is_le (compare_name district name customer) ≡ true
name-wider district name customer = le-wider (compare_name district name customer)

pub called-between : (district : ℕ) (name : List ℕ) (customer : NamedCustomer)
    → is_called district name customer ≡ not (is_lt (compare_name district name customer)) && is_le (compare_name district name customer)
called-between district name customer =
    ap (λ b. (customer.district == district) && b) (sym (is_eq-slice_cmp customer.last name))
    ∙ sym (eq-then customer.district district (slice_cmp nat_cmp customer.last name))
    ∙ eq-between (compare_name district name customer)

-- ---- of two customers with different numbers one stands before the other

pub lesser-order : IsOrder is_lesser
lesser-order = order-total compare_named compare_named-total (λ one other is.
    let d = both-equal (nat_cmp one.district other.district) (ordering_then (slice_cmp nat_cmp one.last other.last)
    (ordering_then (slice_cmp nat_cmp one.first other.first) (nat_cmp one.id other.id))) is in
    let l = both-equal (slice_cmp nat_cmp one.last other.last)
    (ordering_then (slice_cmp nat_cmp one.first other.first) (nat_cmp one.id other.id)) d.1 in
    let f = both-equal (slice_cmp nat_cmp one.first other.first) (nat_cmp one.id other.id) l.1 in
    let district : one.district ≡ other.district = same-number one.district other.district d.0 in
    let last : one.last ≡ other.last = same-text one.last other.last l.0 in
    let first : one.first ≡ other.first = same-text one.first other.first f.0 in
    let id : one.id ≡ other.id = same-number one.id other.id f.1 in
    ap₂ (λ d l. record { district = d; last = l; first = one.first; id = one.id }) district last
    ∙ ap₂ (λ f i. record { district = other.district; last = other.last; first = f; id = i }) first id)

-- customers of one district with one last name stand by first name and number
pub lesser-earlier : (one other : Customer) → one.district ≡ other.district → one.last ≡ other.last
    → is_lesser (named one) (named other) ≡ is_earlier one other
lesser-earlier one other district last =
    let rest = ordering_then (slice_cmp nat_cmp one.first other.first) (nat_cmp one.id other.id) in
    let d : nat_cmp one.district other.district ≡ Equal =
    subst (λ k. nat_cmp one.district k ≡ Equal) district (tied_itself nat_cmp_total one.district) in
    let l : slice_cmp nat_cmp one.last other.last ≡ Equal =
    subst (λ k. slice_cmp nat_cmp one.last k ≡ Equal) last (tied_itself nat_list_cmp_total one.last) in
    ap (λ o. is_lt (ordering_then o (ordering_then (slice_cmp nat_cmp one.last other.last) rest))) d
    ∙ ap (λ o. is_lt (ordering_then o rest)) l
