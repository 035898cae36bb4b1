-- Snapshots that spell a database have its rows.
use Rattle.std.proofs.Common.{◌≡◌, ◌∙◌, ◌-◌, ◌≤◌, ℕ, suc, List, [], ◌∷◌, length, map, slice_index_or, ap, arith, refl}
use Rattle.std.specs.Prelude.{IfSome, Option, None, Some, slice_get}
use Rattle.hy_rows.specs.Spelling.{tables_of}
use Rattle.hy_rows.specs.Tables.{Tables, all_of, no_rows}
use Rattle.hy_rows.specs.declared.item.Item.{Item}
use Rattle.hy_commands.specs.Parts.{Database, rows_of}
use Rattle.hy_forks.specs.Snapshots.{SnapshotState}
use Rattle.hy_forks.specs.Forks.{SpellsDatabase}
use Rattle.hy_session.specs.Snapshots.{items_of, lists_of_all}
use Rattle.hy_session.specs.Databases.{lists_of}

abbrev rows_by : ℕ → SnapshotState → Tables
rows_by n snapshot = tables_of n snapshot.bytes

-- each at its place
same-rows : (n : ℕ) (warehouses : List Tables) (snapshots : List SnapshotState) → length snapshots ≡ length warehouses
    → ((place : ℕ) → IfSome (slice_get snapshots place) (λ s. rows_by n s ≡ slice_index_or warehouses place no_rows))
    → map (rows_by n) snapshots ≡ warehouses
same-rows n [] [] count each = refl
same-rows n [] (s ∷ snapshots) count each = absurd (omega (arith, count))
same-rows n (rows ∷ warehouses) [] count each = absurd (omega (arith, count))
same-rows n (rows ∷ warehouses) (s ∷ snapshots) count each =
    ap (λ (first : Tables). first ∷ map (rows_by n) snapshots) (each 0)
    ∙ ap (λ (later : List Tables). rows ∷ later)
    (same-rows n warehouses snapshots (omega (arith, count)) (λ place. each (suc place)))

at-place : {Row : Type 0} {F G : Row → Type 0} (found : Option Row) → ((row : Row) → F row → G row) → IfSome found F
    → IfSome found G
at-place None leads holds = tt
at-place (Some row) leads holds = leads row holds

same-items : (database : Database) (n : ℕ) (snapshots : List SnapshotState) → 1 ≤ length snapshots
    → SpellsDatabase n database snapshots → items_of snapshots ≡ database.items
same-items database n [] some spells = absurd (omega (arith, some))
same-items database n (s ∷ snapshots) some spells = (spells.each 0).0

pub same-lists : (n : ℕ) (database : Database) (snapshots : List SnapshotState) → 1 ≤ length database.warehouses
    → SpellsDatabase n database snapshots → lists_of_all n snapshots ≡ lists_of database
same-lists n database snapshots some spells =
    let tables : map (rows_by n) snapshots ≡ database.warehouses =
    same-rows n database.warehouses snapshots spells.count (λ place.
    at-place (slice_get snapshots place) (λ s holds. holds.1.rows ∙ number place) (spells.each place)) in
    let items : items_of snapshots ≡ database.items =
    same-items database n snapshots (omega (arith, some, spells.count)) spells in
    ap (λ (warehouses : List Tables). record {
      items = items_of snapshots;
      tables = all_of warehouses;
    }) tables
    ∙ ap (λ (all : List Item). record { items = all; tables = all_of database.warehouses }) items
  where
    number : (place : ℕ) → rows_of (suc place) database ≡ slice_index_or database.warehouses place no_rows
    number place =
        let same : suc place - 1 ≡ place = omega arith in
        ap (λ (n : ℕ). slice_index_or database.warehouses n no_rows) same
