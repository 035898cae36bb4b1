-- A load has no fault.
use Rattle.std.proofs.Common.{◌≡◌, ◌⊎◌, ℕ, ◌+◌, ◌-◌, inl, inr, List, length, Option, Some, None, refl, arith}
use Rattle.std.proofs.lemmas.Option.{slice_get_within}
use Rattle.std.specs.Prelude.{IfSome, MatchOption, slice_get}
use Rattle.hy_rows.specs.Tables.{Lists}
use Rattle.hy_schema.specs.declared.refusal.LoadFault.{LoadFault}
use Rattle.hy_schema.specs.Loads.{HasFault, HasFaultInOrders, IsFirstFault, IsLoad, IsRight, all_whole, max_rows}

-- a list whose rows are right has no first fault
right-no_fault : {Row : Type 0} (right : ℕ → Row → Type 0) (Whole : Type 0) (rows : List Row) (number : ℕ)
    → IsRight right Whole rows → IsFirstFault right Whole rows number → ⊥
right-no_fault {Row} right Whole rows number good bad =
    elim (slice_get rows (number - 1)) as (λ (found : Option Row).
    slice_get rows (number - 1) ≡ found → IfSome found (right (number - 1))
    → MatchOption found ((number ≡ length rows + 1) × ¬ Whole)
    (λ row. (number ≡ max_rows + 1) ⊎ ¬ (right (number - 1) row)) → ⊥) [
      | None ↦ λ is here missing. missing.1 good.whole
      | Some row ↦ λ is here wrong. elim wrong [
        | inl many ↦ absurd (omega (arith, slice_get_within rows (number - 1) row is, good.few, many))
        | inr broken ↦ broken here
      ]
    ] refl (good.each (number - 1)) bad.fault

pub load-no_fault : (lists : Lists) (fault : LoadFault) → IsLoad lists → HasFault all_whole lists fault → ⊥
load-no_fault lists fault load found = elim found [
  | inl here ↦ right-no_fault _ _ lists.tables.warehouses here.0 load.warehouses here.2
  | inr (e1, r1, from_district) ↦ elim from_district [
    | inl here ↦ right-no_fault _ _ lists.tables.districts here.0 load.districts here.2
    | inr (e2, r2, from_customer) ↦ elim from_customer [
      | inl here ↦ right-no_fault _ _ lists.tables.customers here.0 load.customers here.2
      | inr (e3, r3, from_item) ↦ elim from_item [
        | inl here ↦ right-no_fault _ _ lists.items here.0 load.items here.2
        | inr (e4, r4, from_stock) ↦ elim from_stock [
          | inl here ↦ right-no_fault _ _ lists.tables.stock here.0 load.stock here.2
          | inr (e5, r5, from_order) ↦ in_orders from_order
        ]
      ]
    ]
  ]
]
  where
    in_orders : HasFaultInOrders all_whole lists fault → ⊥
    in_orders from_order = elim from_order [
      | inl here ↦ right-no_fault _ _ lists.tables.orders here.0 load.orders here.2
      | inr (e6, r6, from_new_order) ↦ elim from_new_order [
        | inl here ↦ right-no_fault _ _ lists.tables.new_orders here.0 load.new_orders here.2
        | inr (e7, r7, from_line) ↦ elim from_line [
          | inl here ↦ right-no_fault _ _ lists.tables.order_lines here.0 load.order_lines here.2
          | inr (e8, r8, from_history) ↦ elim from_history [
            | inl here ↦ right-no_fault _ _ lists.tables.history here.0 load.history here.2
            | inr (e9, r9, broken) ↦ let meets = load.conditions in let breaks = broken.2 in absurd (cc)
          ]
        ]
      ]
    ]
