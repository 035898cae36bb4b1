-- A test of a key passes once among rows whose keys differ.
use Rattle.std.proofs.Common.{◌≡◌, ℕ, ◌==◌, ◌&&◌, Bool, true, List, [], ◌∷◌, map, refl, sym, ap₂, ◌∙◌}
use Rattle.std.specs.Prelude.{All}
use Rattle.std.proofs.lemmas.Bool.{and_parts, eqb-true, eq-eqb, false_from_ne_true}
use Rattle.std.proofs.lemmas.List.Elements.{All-nil, All-cons, All-head, All-tail}
use Rattle.hy_rows.specs.Finding.{is_customer, is_district, is_warehouse}
use Rattle.hy_rows.specs.declared.customer.Customer.{Customer}
use Rattle.hy_rows.specs.declared.district.District.{District}
use Rattle.hy_rows.specs.declared.order.Order.{Order}
use Rattle.hy_rows.specs.declared.warehouse.Warehouse.{Warehouse}
use Rattle.hy_schema.specs.Keys.{AreUnique, customer_key, district_key}
use Rattle.hy_schema.specs.Related.{is_order}
use Rattle.hy_commands.specs.Invariant.{order_key}
use Rattle.hy_commands.proofs.ListLaws.{Once, once-unique}

-- a test that only rows with one key pass
once-key : {Row Key : Type 0} (key : Row → Key) (the : Key) (test : Row → Bool)
    → ((row : Row) → test row ≡ true → key row ≡ the) → (rows : List Row) → AreUnique (map key rows) → Once test rows
once-key key the test tells rows unique =
    once-unique key test
    (λ row other passes differs. false_from_ne_true (test other)
    (λ also. differs (tells row passes ∙ sym (tells other also)))) rows unique

pub tells-two : (a b x y : ℕ) → ((a == x) && (b == y)) ≡ true → (a ≡ x) × (b ≡ y)
tells-two a b x y passes =
    let both = and_parts (a == x) (b == y) passes in
    (eqb-true a x both.0, eqb-true b y both.1)

pub tells-three : (a b c x y z : ℕ) → ((a == x) && (b == y) && (c == z)) ≡ true → (a ≡ x) × (b ≡ y) × (c ≡ z)
tells-three a b c x y z passes =
    let both = and_parts ((a == x) && (b == y)) (c == z) passes in
    let first = tells-two a b x y both.0 in
    (first.0, first.1, eqb-true c z both.1)

-- three numbers that agree with three others, tested
pub passes-three : (a b c x y z : ℕ) → a ≡ x → b ≡ y → c ≡ z → ((a == x) && (b == y) && (c == z)) ≡ true
passes-three a b c x y z p q r = rw (eq-eqb a x p, eq-eqb b y q, eq-eqb c z r) refl

pub once-warehouse : (number : ℕ) (rows : List Warehouse) → AreUnique (map (λ row. row.id) rows)
    → Once (is_warehouse number) rows
once-warehouse number rows unique =
    once-key (λ (row : Warehouse). row.id) number (is_warehouse number) (λ row passes. eqb-true row.id number passes)
    rows unique

pub once-district : (warehouse number : ℕ) (rows : List District) → AreUnique (map district_key rows)
    → Once (is_district warehouse number) rows
once-district warehouse number rows unique =
    once-key district_key (warehouse, number) (is_district warehouse number)
    (λ row passes. let same = tells-two row.warehouse row.id warehouse number passes in
    ap₂ (λ w d. (w, d)) same.0 same.1) rows unique

pub once-customer : (warehouse district number : ℕ) (rows : List Customer) → AreUnique (map customer_key rows)
    → Once (is_customer warehouse district number) rows
once-customer warehouse district number rows unique =
    once-key customer_key (warehouse, district, number) (is_customer warehouse district number)
    (λ row passes. let same = tells-three row.warehouse row.district row.id warehouse district number passes in
    rw (same.0, same.1, same.2) refl) rows unique

pub once-order : (warehouse district number : ℕ) (rows : List Order) → AreUnique (map order_key rows)
    → Once (is_order warehouse district number) rows
once-order warehouse district number rows unique =
    once-key order_key (warehouse, district, number) (is_order warehouse district number)
    (λ row passes. let same = tells-three row.warehouse row.district row.id warehouse district number passes in
    rw (same.0, same.1, same.2) refl) rows unique

-- what holds of the keys
pub All-keys : {Row Key : Type 0} (P : Key → Type 0) (key : Row → Key) (rows : List Row) → All P (map key rows)
    → All (λ row. P (key row)) rows
All-keys P key [] all = All-nil (λ row. P (key row))
All-keys P key (row ∷ rows) all =
    All-cons (λ row. P (key row)) row rows (All-head P (key row) (map key rows) all)
    (All-keys P key rows (All-tail P (key row) (map key rows) all))
