-- After every list of commits the rows of all warehouses together meet the consistency conditions.
use Rattle.std.proofs.Common.{◌≡◌, ℕ, true, List, [], ◌∷◌, ◌++◌, None, refl, sym, subst, ◌∙◌}
use Rattle.std.specs.Prelude.{All, IsTrue, fold}
use Rattle.std.specs.List.{list_any}
use Rattle.std.proofs.lemmas.List.Elements.{All-map, All-weaker}
use Rattle.hy_passes.specs.SerialList.{projection}
use Rattle.hy_rows.specs.Ranges.{IsBetween}
use Rattle.hy_rows.specs.Tables.{Lists, Tables}
use Rattle.hy_rows.specs.declared.item.Item.{Item}
use Rattle.hy_rows.specs.declared.order.Order.{Order}
use Rattle.hy_schema.specs.Conditions.{first_broken}
use Rattle.hy_schema.specs.Keys.{district_key, district_numbers}
use Rattle.hy_schema.specs.Loads.{IsLoad}
use Rattle.hy_schema.specs.Related.{is_order}
use Rattle.hy_commands.specs.declared.command.Commit.{Commit}
use Rattle.hy_commands.specs.Commands.{edition_of, warehouses_of_commit}
use Rattle.hy_commands.specs.Invariant.{HasOrder, HasOrderAndItem, IsOwnOrder, IsSoundWarehouse}
use Rattle.hy_commands.specs.Parts.{Database, database_of, is_there, rows_of}
use Rattle.hy_commands.specs.Replay.{HasWarehouse}
use Rattle.hy_commands.proofs.Kept.{sound-rows}
use Rattle.hy_commands.proofs.KeptByPayment.{own-warehouse}
use Rattle.hy_commands.proofs.ListLaws.{All-find, find-any, find-passes}
use Rattle.hy_commands.proofs.MeetsLaws.{meets-facts, meets-tests}
use Rattle.hy_commands.proofs.OnceLaws.{All-keys, tells-three}
use Rattle.hy_database.specs.Database.{all_rows, committed_in, database_after}
use Rattle.hy_database.proofs.DoesLaws.{does-committed}
use Rattle.hy_database.proofs.JoinedLaws.{IsOwnWarehouse, all-meets, condition-paid, unbroken-rows}
use Rattle.hy_database.proofs.PaidLaws.{IsPaid, paid-does}
use Rattle.hy_database.proofs.PaidLoad.{is_paid-load}
use Rattle.hy_database.proofs.Replays.{IsReplay, replay-after, replay-committed, replay-load}

-- ---- the rows of a sound warehouse carry its number

-- an order that is there is one of it
order-own : (number : ℕ) (orders : List Order) → All (λ row. row.warehouse ≡ number) orders
    → (warehouse district id : ℕ) → list_any (is_order warehouse district id) orders ≡ true → warehouse ≡ number
order-own number orders own warehouse district id there =
    let found = find-any (is_order warehouse district id) orders there in
    let row : Order = found.0 in
    let same = tells-three row.warehouse row.district row.id warehouse district id
    (find-passes (is_order warehouse district id) orders row found.1) in
    sym same.0 ∙ All-find (λ (r : Order). r.warehouse ≡ number) (is_order warehouse district id) orders row own found.1

own-sound : (items : List Item) (number : ℕ) (tables : Tables) → IsSoundWarehouse items number tables
    → All (λ row. row.warehouse ≡ number) tables.history → IsOwnWarehouse number tables
own-sound items number tables sound history =
    let orders : All (λ row. row.warehouse ≡ number) tables.orders =
    All-weaker (IsOwnOrder number tables.customers) (λ row. row.warehouse ≡ number) (λ row own. own.warehouse)
    tables.orders sound.orders.orders in
    record {
      warehouses = own-warehouse number tables sound.rows;
      districts =
          All-keys (λ key. key.0 ≡ number) district_key tables.districts
          (subst (All (λ (key : ℕ × ℕ). key.0 ≡ number)) (sym sound.rows.districts)
          (All-map (λ (key : ℕ × ℕ). key.0 ≡ number) (λ district. (number, district)) district_numbers
          (λ k d within. refl)));
      customers = sound.rows.customers;
      history = history;
      new_orders =
          All-weaker (HasOrder tables.orders) (λ row. row.warehouse ≡ number)
          (λ row has. order-own number tables.orders orders row.warehouse row.district row.order has)
          tables.new_orders sound.orders.new_orders;
      orders = orders;
      order_lines =
          All-weaker (HasOrderAndItem items tables.orders) (λ row. row.warehouse ≡ number)
          (λ row has. order-own number tables.orders orders row.warehouse row.district row.order has.0)
          tables.order_lines sound.orders.order_lines;
      meets = meets-facts tables sound.conditions;
    }

-- ---- every list of commits

module _ (lists : Lists) (is_load : IsLoad lists) where
  -- each warehouse of a database that has the replays is sound
  sound-there : (before : List Commit) (database : Database) → IsReplay lists before database → (number : ℕ)
      → IsTrue (is_there database number) → IsSoundWarehouse lists.items number (rows_of number database)
  sound-there before database replays number there =
      let has : HasWarehouse lists number = subst (λ n. IsBetween 1 n number) replays.count there in
      subst (IsSoundWarehouse lists.items number) (sym (replays.rows number has))
      (sound-rows lists number (projection warehouses_of_commit number before) is_load has)

  paid-from : (before : List Commit) (database : Database) (commits : List Commit)
      → IsReplay lists before database → IsPaid database → IsPaid (fold committed_in database commits)
  paid-from before database [] replays paid = paid
  paid-from before database (commit ∷ commits) replays paid =
      let does = does-committed database commit in
      paid-from (before ++ commit ∷ []) (committed_in database commit) commits
      (replay-committed lists before database commit replays)
      (paid-does database (committed_in database commit) does.0 (edition_of commit) does.1 does.2
      (λ number there. (sound-there before database replays number there).rows) paid)

  pub consistent-after : (commits : List Commit) → first_broken (all_rows (database_after lists commits)) ≡ None
  consistent-after commits =
      let database : Database = database_after lists commits in
      let replays = replay-after lists commits in
      let paid = paid-from [] (database_of lists) commits (replay-load lists) (is_paid-load lists is_load) in
      let meets = all-meets database (λ number there.
      own-sound lists.items number (rows_of number database) (sound-there commits database replays number there)
      (paid.history number there)) in
      unbroken-rows (all_rows database) (meets-tests (all_rows database) meets) (condition-paid database meets paid)
