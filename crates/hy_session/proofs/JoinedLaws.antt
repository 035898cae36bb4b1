-- Rows of more and more snapshots.
use Rattle.std.proofs.Common.{◌≡◌, ◌∙◌, ◌+◌, ◌++◌, ◌∷◌, ◌<◌, ◌≤◌, ℕ, List, [], length, slice_index_or, take, ap, sym}
use Rattle.std.specs.List.{flat_map}
use Rattle.std.proofs.lemmas.List.{flat_map_more, take_all, take_more}
use Rattle.std.proofs.lemmas.List.Folds.{flat_map-map}
use Rattle.hy_rows.specs.Spelling.{tables_of}
use Rattle.hy_rows.specs.Tables.{Tables}
use Rattle.hy_forks.specs.Snapshots.{SnapshotState}
use Rattle.hy_session.specs.inside.Joined.{joined}

module _ {Row : Type 0} (rows_in : Tables → List Row) (n : ℕ) (all : List SnapshotState) (place : ℕ) where
  -- those of the snapshot at a place come behind those before it
  pub joined-more : (snapshot : SnapshotState) (rows more : List Row) → place < length all
      → snapshot ≡ slice_index_or all place snapshot → rows ≡ joined rows_in n (take place all)
      → more ≡ rows_in (tables_of n snapshot.bytes) → rows ++ more ≡ joined rows_in n (take (place + 1) all)
  joined-more snapshot rows more within here before is =
      ap (λ (front : List Row). front ++ more) (before ∙ as-spelled (take place all))
      ∙ ap (λ (back : List Row). flat_map spelled (take place all) ++ back) is
      ∙ flat_map_more spelled [] (take place all) snapshot
      ∙ ap (λ (s : SnapshotState). flat_map spelled (take place all ++ s ∷ [])) here
      ∙ ap (flat_map spelled) (sym (take_more all place snapshot within))
      ∙ sym (as-spelled (take (place + 1) all))
    where
      spelled : SnapshotState → List Row
      spelled s = rows_in (tables_of n s.bytes)

      as-spelled : (snapshots : List SnapshotState) → joined rows_in n snapshots ≡ flat_map spelled snapshots
      as-spelled snapshots = flat_map-map rows_in (λ (s : SnapshotState). tables_of n s.bytes) snapshots

  -- and then they are all
  pub joined-all : length all ≤ place → (rows : List Row) → rows ≡ joined rows_in n (take place all)
      → rows ≡ joined rows_in n all
  joined-all past rows is = is ∙ ap (joined rows_in n) (take_all place all past)
