-- What snapshots do to a partition they do to one that was told less of the serial list, and else is the same.
use Rattle.std.proofs.Common.{◌≡◌, ◌⊎◌, ◌∙◌, ℕ, List, [], ◌∷◌, length, refl, sym, ap, inl, inr, arith}
use mathlib.Core.List.{IsPrefix}
use Rattle.hy_worlds.specs.Origins.{Origin}
use Rattle.hy_partition.specs.Jobs.{Log}
use Rattle.hy_partition.specs.Partition.{PartitionState}
use Rattle.hy_partition.specs.Snapshots.{SnapshotState}
use Rattle.hy_partition.specs.Steps.{Closes, Forks, ForksFrom}
use Rattle.hy_forks.specs.Forks.{IsUnforked, IsUnforkedUntold}
use Rattle.hy_hyper_rounds.proofs.StepLaws.{HoldsToldLess, job-told, others-told, prefix-then, told-all, told-same, with_seen}

none-before : {Row : Type 0} (rows : List Row) → IsPrefix rows [] → rows ≡ []
none-before [] begins = refl
none-before (row ∷ rows) begins = absurd (omega (arith, ap length begins.1))

module _ (old new : PartitionState) where
  pub forks-told : (n : ℕ) (kit : Origin) (log known : Log) (snapshot : SnapshotState)
      → Forks n kit log known old new snapshot
      → HoldsToldLess (λ old new. Forks n kit log known old new snapshot) old new
  forks-told n kit log known snapshot forks =
      told-all (λ old new. Forks n kit log known old new snapshot) old new (λ seen begins. record {
        load = forks.load;
        warehouse = forks.warehouse;
        name = forks.name;
        desk = forks.desk;
        child = forks.child;
        fresh = forks.fresh;
        commits = forks.commits;
        kept = forks.kept;
        bytes = forks.bytes;
        spells = forks.spells;
        open_bytes = forks.open_bytes;
        open_commits = forks.open_commits;
        free = forks.free;
        max_frames = forks.max_frames;
        told = prefix-then seen old.seen log begins forks.told;
        client_told = forks.client_told;
        seen = forks.seen;
        all = forks.all;
        no_older = forks.no_older;
        job = job-told old new seen new.seen forks.job;
        others = others-told old new seen new.seen snapshot.child forks.others;
      })

  pub forks_from-told : (kit : Origin) (from snapshot : SnapshotState) → ForksFrom kit from old new snapshot
      → HoldsToldLess (λ old new. ForksFrom kit from old new snapshot) old new
  forks_from-told kit from snapshot forks =
      told-same (λ old new. ForksFrom kit from old new snapshot) old new forks.seen (λ seen. record {
        mine = forks.mine;
        load = forks.load;
        warehouse = forks.warehouse;
        name = forks.name;
        desk = forks.desk;
        child = forks.child;
        fresh = forks.fresh;
        commits = forks.commits;
        kept = forks.kept;
        bytes = forks.bytes;
        was_open = forks.was_open;
        open_table = forks.open_table;
        open_bytes = forks.open_bytes;
        open_commits = forks.open_commits;
        users = forks.users;
        seen = refl;
        job = job-told old new seen seen forks.job;
        others = others-told old new seen seen snapshot.child forks.others;
      })

  unforked-as : (log seen next : Log) → IsUnforked log old new
      → (next ≡ seen) ⊎ ((next ≡ log) × IsPrefix seen log)
      → IsUnforked log (with_seen seen old) (with_seen next new)
  unforked-as log seen next unforked told = record {
    job = job-told old new seen next unforked.job;
    seen = told;
    snapshots = unforked.snapshots;
    tables = unforked.tables;
    bytes = unforked.bytes;
    counts = unforked.counts;
    max_frames = unforked.max_frames;
  }

  pub unforked-told : (log : Log) → IsUnforked log old new → HoldsToldLess (IsUnforked log) old new
  unforked-told log unforked = elim unforked.seen [
    | inl same ↦ told-same (IsUnforked log) old new same (λ seen. unforked-as log seen seen unforked (inl refl))
    | inr told ↦ told-all (IsUnforked log) old new
        (λ seen begins. unforked-as log seen new.seen unforked
        (inr (told.0, prefix-then seen old.seen log begins told.1)))
  ]

  untold : IsUnforkedUntold old new → new.seen ≡ old.seen
  untold unforked = elim ((unforked []).seen) [
    | inl same ↦ same
    | inr told ↦ told.0 ∙ sym (none-before old.seen told.1)
  ]

  pub untold-told : IsUnforkedUntold old new → HoldsToldLess IsUnforkedUntold old new
  untold-told unforked =
      told-same IsUnforkedUntold old new (untold unforked)
      (λ seen log. unforked-as log seen seen (unforked log) (inl refl))

  pub closes-told : (child : ℕ) → Closes old new child → HoldsToldLess (λ old new. Closes old new child) old new
  closes-told child closes = told-same (λ old new. Closes old new child) old new closes.seen (λ seen. record {
    was_open = closes.was_open;
    bytes = closes.bytes;
    commits = closes.commits;
    users = closes.users;
    seen = refl;
    max_frames = closes.max_frames;
    job = job-told old new seen seen closes.job;
    others = others-told old new seen seen child closes.others;
  })
