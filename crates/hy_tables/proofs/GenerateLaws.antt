-- A generated load is refused for its size, or for want of memory.
use Rattle.std.proofs.Common.{◌≡◌, ◌⊎◌, ℕ, Bool, true, false, refl, inl, inr, IfErr, Result, Ok, Err, MatchResult, subst}
use Rattle.hy_rows.specs.Tables.{Lists}
use Rattle.hy_schema.specs.declared.refusal.Refusal.{Refusal}
use Rattle.hy_schema.specs.declared.refusal.Refusal.TheVariants as refusals
use Rattle.hy_schema.specs.Loads.{HasFault, IsLoad, all_whole}
use Rattle.hy_loads.specs.Checks.{IsRefusalOf}
use Rattle.hy_loads.proofs.FaultLaws.{load-no_fault}
use Rattle.hy_tables.specs.Generated.{generated_lists, is_size}
use Rattle.hy_tables.proofs.GeneratedLoad.{is_size-is_load}

pub generated_refusal : (answer : Result Lists Refusal) (lists : Lists) (warehouses customers items : ℕ)
    → lists ≡ generated_lists warehouses customers items → is_size warehouses customers items ≡ true
    → MatchResult answer (λ load. (load ≡ lists) × IsLoad lists) (IsRefusalOf all_whole lists)
    → IfErr answer (λ refusal. (refusal ≡ refusals.OutOfRange) ⊎ (refusal ≡ refusals.NoMemory))
generated_refusal (Ok load) lists warehouses customers items same size why = tt
generated_refusal (Err refusal) lists warehouses customers items same size why = elim why [
  | inl memory ↦ inr memory
  | inr bad ↦ absurd (load-no_fault (generated_lists warehouses customers items) bad.0
      (is_size-is_load warehouses customers items size)
      (subst (λ (all : Lists). HasFault all_whole all bad.0) same bad.2))
]

-- lists that were generated have a size
pub size_of : (size : Bool) → (size ≡ false → ⊥) → size ≡ true
size_of true not = refl
size_of false not = absurd (not refl)
