-- What a load says of a command.
use Rattle.std.proofs.Common.{◌≡◌, ◌-◌, ◌<◌, ◌≤◌, ◌&&◌, ℕ, suc, Bool, true, false, not, cond, List, length, Option, Some, None, is_none, is_some, refl, sym, ap, ◌∙◌, arith, subst}
use Rattle.std.specs.Prelude.{IfSome, MatchOption, slice_index_or}
use Rattle.std.specs.List.{list_all}
use Rattle.hy_rows.specs.Ranges.{is_between}
use Rattle.hy_rows.proofs.BetweenLaws.{bounds}
use Rattle.hy_rows.specs.Tables.{Lists, Tables}
use Rattle.hy_schema.specs.declared.refusal.Refusal.{Refusal}
use Rattle.hy_schema.specs.declared.refusal.Refusal.TheVariants as refusals
use Rattle.hy_commands.specs.declared.command.Command.{Command}
use Rattle.hy_commands.specs.declared.command.Who.{Who}
use Rattle.hy_commands.specs.Commands.{CustomerName, customer_home_of, customer_named, home_of, home_or, refusal_of_numbers, warehouses_of}
use Rattle.hy_commands.specs.Customers.{customer_meant}
use Rattle.hy_commands.specs.Parts.{database_of, is_there}
use Rattle.hy_commands.specs.Transactions.{has_customer, has_items, is_customer_there}
use Rattle.hy_commands.proofs.AcceptedLaws.{passed-numbers}
use Rattle.hy_commands.proofs.DatabaseLaws.{length-database, rows-load}
use Rattle.hy_commands.proofs.NamedLaws.{named-customer_home}
use Rattle.hy_layout.specs.Layout.{IsMeantAt, LayoutState, own_rows}
use Rattle.hy_sound.specs.Sound.{is_known}
use Rattle.hy_sound.specs.inside.Places.{AreLayouts, knows_customer}
use Rattle.hy_sound.proofs.ListLaws.{get-there}

-- ---- a customer of a warehouse

module _ (warehouse district : ℕ) (whom : Who) (tables : Tables) where
  abbrev Meant : Option ℕ → Type 0
  Meant found = MatchOption found (customer_meant warehouse district whom tables.customers ≡ None)
      (IsMeantAt warehouse district whom tables.customers)

  is-meant : (found : Option ℕ) → Meant found
      → is_some found ≡ is_some (customer_meant warehouse district whom tables.customers)
  is-meant None none = sym (ap is_some none)
  is-meant (Some place) meant = sym (ap is_some meant.meant)

pub known-customer : (command : Command) (customer : CustomerName) (warehouse : ℕ) (tables : Tables) (found : Option ℕ)
    → customer_named command ≡ Some customer → customer_home_of command ≡ warehouse
    → Meant warehouse customer.district customer.who tables found → is_some found ≡ has_customer command tables
known-customer command customer warehouse tables found is home meant =
    let here : customer.warehouse ≡ warehouse = sym (ap (home_or (home_of command)) is) ∙ home in
    is-meant warehouse customer.district customer.who tables found meant
    ∙ ap (λ w. is_some (customer_meant w customer.district customer.who tables.customers)) (sym here)
    ∙ ap (is_customer_there tables) (sym is)

pub known-nobody : (command : Command) (tables : Tables) → customer_named command ≡ None → true ≡ has_customer command tables
known-nobody command tables is = ap (is_customer_there tables) (sym is)

-- ---- the layout of a warehouse

-- the layouts that were made are those of the load
pub made-layouts : {Made : Type 0} (items_of : Made → List LayoutState) (load lists : Lists) (found : Option Made) (made : Made)
    → load ≡ lists → found ≡ Some made → IfSome found (λ made. AreLayouts load (items_of made))
    → AreLayouts lists (items_of made)
made-layouts {Made = Made} items_of load lists found made same is are =
    subst (λ (load : Lists). AreLayouts load (items_of made)) same
    (subst (λ (found : Option Made). IfSome found (λ made. AreLayouts load (items_of made))) is are)

module _ (lists : Lists) (command : Command)
    (passed : refusal_of_numbers (is_between 1 (length lists.tables.warehouses)) command ≡ None) where
  there : list_all (is_between 1 (length lists.tables.warehouses)) (warehouses_of command) ≡ true
  there = (passed-numbers (is_between 1 (length lists.tables.warehouses)) command passed).named

  abbrev home : ℕ
  home = customer_home_of command

  abbrev count : ℕ
  count = length lists.tables.warehouses

  pub home-there : is_between 1 count home ≡ true
  home-there = named-customer_home (is_between 1 count) command there

  pub first-home : 1 ≤ home
  first-home = (bounds 1 count home home-there).0

  module _ (layouts : List LayoutState) (are : AreLayouts lists layouts) where
    pub within-layouts : home - 1 < length layouts
    within-layouts =
        let ends = bounds 1 count home home-there in
        omega (arith, ends.0, ends.1, are.count)

    pub layout-is : (layout : LayoutState) → layout ≡ slice_index_or layouts (home - 1) layout
        → layout ≡ record { load = lists; warehouse = home }
    layout-is layout here =
        let next : suc (home - 1) ≡ home = omega (arith, first-home) in
        subst (λ (found : Option LayoutState). IfSome found (λ layout. layout ≡ record { load = lists; warehouse = suc (home - 1) }))
        (get-there layouts (home - 1) layout within-layouts here) (are.each (home - 1))
        ∙ ap (λ n. record { load = lists; warehouse = n }) next

    -- its rows
    pub rows-home : (layout : LayoutState) → layout ≡ slice_index_or layouts (home - 1) layout
        → has_customer command (own_rows layout) ≡ knows_customer lists command
    rows-home layout here =
        ap (λ layout. has_customer command (own_rows layout)) (layout-is layout here)
        ∙ ap (has_customer command) (sym (rows-load lists home home-there))

-- ---- all tests

-- the database of a load has as many warehouses as the load
same-numbers : (lists : Lists) (command : Command)
    → refusal_of_numbers (is_there (database_of lists)) command
    ≡ refusal_of_numbers (is_between 1 (length lists.tables.warehouses)) command
same-numbers lists command = ap (λ n. refusal_of_numbers (is_between 1 n) command) (length-database lists)

chain : (customer items : Bool)
    → is_none (cond (not customer) (Some refusals.NoSuchCustomer) (cond (not items) (Some refusals.NoSuchItem) None))
    ≡ (customer && items)
chain true true = refl
chain true false = refl
chain false items = refl

module _ (lists : Lists) (command : Command) where
  pub unknown-numbers : (why : Refusal)
      → refusal_of_numbers (is_between 1 (length lists.tables.warehouses)) command ≡ Some why
      → false ≡ is_known lists command
  unknown-numbers why refused = sym (rw (same-numbers lists command ∙ refused) refl)

  module _ (passed : refusal_of_numbers (is_between 1 (length lists.tables.warehouses)) command ≡ None) where
    known-all : is_known lists command ≡ (knows_customer lists command && has_items lists.items command)
    known-all =
        rw (same-numbers lists command ∙ passed)
        (chain (knows_customer lists command) (has_items lists.items command))

    -- a customer who is there leaves it to the items
    pub known-rest : knows_customer lists command ≡ true → is_known lists command ≡ has_items lists.items command
    known-rest knows = known-all ∙ ap (λ b. b && has_items lists.items command) knows

    pub unknown-customer : knows_customer lists command ≡ false → false ≡ is_known lists command
    unknown-customer unknown = sym (known-all ∙ ap (λ b. b && has_items lists.items command) unknown)
