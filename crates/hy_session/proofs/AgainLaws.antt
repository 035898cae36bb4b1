-- Snapshots that show the same have the same rows.
use Rattle.std.proofs.Common.{◌≡◌, ℕ, List, [], ◌∷◌, map, ap, ap₂, refl}
use Rattle.hy_rows.specs.Spelling.{tables_of}
use Rattle.hy_rows.specs.Tables.{Tables, all_of}
use Rattle.hy_rows.specs.declared.item.Item.{Item}
use Rattle.hy_forks.specs.Snapshots.{SnapshotState}
use Rattle.hy_forks.specs.Forks.{Shown, shown}
use Rattle.hy_session.specs.Snapshots.{items_of, lists_of_all}

first : {Row : Type 0} {one other : Row} {ones others : List Row} → one ∷ ones ≡ other ∷ others → one ≡ other
first same = cc

later : {Row : Type 0} {one other : Row} {ones others : List Row} → one ∷ ones ≡ other ∷ others → ones ≡ others
later same = cc

tables-again : (n : ℕ) (snapshots others : List SnapshotState) → map shown snapshots ≡ map shown others
    → map (λ s. tables_of n s.bytes) snapshots ≡ map (λ s. tables_of n s.bytes) others
tables-again n [] [] same = refl
tables-again n [] (other ∷ others) same = absurd (cc)
tables-again n (s ∷ snapshots) [] same = absurd (cc)
tables-again n (s ∷ snapshots) (other ∷ others) same =
    ap₂ (λ (rows : Tables) (all : List Tables). rows ∷ all) (ap (λ (it : Shown). tables_of n it.bytes) (first same))
    (tables-again n snapshots others (later same))

items-again : (snapshots others : List SnapshotState) → map shown snapshots ≡ map shown others
    → items_of snapshots ≡ items_of others
items-again [] [] same = refl
items-again [] (other ∷ others) same = absurd (cc)
items-again (s ∷ snapshots) [] same = absurd (cc)
items-again (s ∷ snapshots) (other ∷ others) same = ap (λ (it : Shown). it.load.items) (first same)

pub rows-again : (n : ℕ) (snapshots others : List SnapshotState) → map shown snapshots ≡ map shown others
    → lists_of_all n snapshots ≡ lists_of_all n others
rows-again n snapshots others same =
    ap₂ (λ (items : List Item) (all : List Tables). record { items = items; tables = all_of all })
    (items-again snapshots others same) (tables-again n snapshots others same)
