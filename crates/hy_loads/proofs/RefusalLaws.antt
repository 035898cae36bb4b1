-- Where a list has its first fault, and the lists before it are right, the lists have that fault.
use Rattle.std.proofs.Common.{◌≡◌, inl, inr, ℕ, List, IfErr, IsErrAnd, Result, Ok, Err, refl, sym, subst}
use Rattle.hy_rows.specs.Tables.{Lists}
use Rattle.hy_schema.specs.declared.files.FileEnd.{FileEnd}
use Rattle.hy_rows.specs.declared.tables.PerTable.{PerTable}
use Rattle.hy_schema.specs.declared.refusal.LoadFault.{LoadFault}
use Rattle.hy_schema.specs.declared.refusal.LoadFault.TheVariants as faults
use Rattle.hy_schema.specs.declared.refusal.Refusal.{Refusal}
use Rattle.hy_rows.specs.declared.catalogue.Table.{Table}
use Rattle.hy_schema.specs.Loads.{HasFault, HasFaultInOrders, IsFaultOf}
use Rattle.hy_loads.specs.Checks.{AreBaseRight, IsRefusalOf, IsRowRefusal}

-- the refusal of a list is one of all lists
pub IsRefusalOf-row : {Row : Type 0} (table : Table) (reached : FileEnd) (right : ℕ → Row → Type 0) (Whole : Type 0)
    (rows : List Row) (ends : PerTable FileEnd) (lists : Lists) (refusal : Refusal)
    → ((fault : LoadFault) → ((number : ℕ) × (fault ≡ faults.Row table number) × IsFaultOf reached right Whole rows number)
    → HasFault ends lists fault)
    → IsRowRefusal table reached right Whole rows refusal → IsRefusalOf ends lists refusal
IsRefusalOf-row table reached right Whole rows ends lists refusal first why = elim why [
  | inl memory ↦ inl memory
  | inr found ↦ inr (faults.Row table found.0, found.1, first (faults.Row table found.0) (found.0, refl, found.2))
]

-- what is said of an error holds of the answer that has it
pub IfErr-this : {T E : Type 0} (answer : Result T E) (value : E) (P : E → Type 0)
    → IsErrAnd answer (λ error. error ≡ value) → P value → IfErr answer P
IfErr-this (Ok found) value P is holds = tt
IfErr-this (Err error) value P is holds = subst P (sym is) holds

pub IfErr-weaker : {T E : Type 0} (answer : Result T E) (P Q : E → Type 0) → ((error : E) → P error → Q error)
    → IfErr answer P → IfErr answer Q
IfErr-weaker (Ok found) P Q weaker holds = tt
IfErr-weaker (Err error) P Q weaker holds = weaker error holds

-- a fault behind the lists that never gain a row, where those are right
pub HasFault-orders : (ends : PerTable FileEnd) (lists : Lists) (fault : LoadFault) → AreBaseRight ends lists
    → HasFaultInOrders ends lists fault → HasFault ends lists fault
HasFault-orders ends lists fault base later =
    inr (
      base.warehouses_end,
      base.warehouses,
      inr (
        base.districts_end,
        base.districts,
        inr (
          base.customers_end,
          base.customers,
          inr (base.items_end, base.items, inr (base.stock_end, base.stock, later)),
        ),
      ),
    )
