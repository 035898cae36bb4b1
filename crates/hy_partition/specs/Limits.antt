-- The limits of a partition, and why none is made.
use Rattle.std.specs.Prelude.{◌≡◌, ◌⊎◌, ℕ, ◌≤◌}
use Rattle.hy_rows.specs.Tables.{Lists, of_warehouse}
use Rattle.hy_schema.specs.declared.refusal.Refusal.{Refusal}
use Rattle.hy_schema.specs.declared.refusal.Refusal.TheVariants as refusals
use Rattle.hy_fill.specs.Frames.{frames_for}

-- how many commits may be kept at most
abbrev pub most_kept : ℕ
most_kept = 100_000_000

-- why the partition of a warehouse of a load isn't made: there may be no more frames than its rows and their entries
-- take at most, or memory is refused
abbrev pub IsWhyUnmade : ℕ → Lists → ℕ → ℕ → Refusal → Type 0
IsWhyUnmade page_size lists number frames why =
    ((why ≡ refusals.NoFrame) × (frames ≤ frames_for page_size (of_warehouse number lists.tables)))
    ⊎ (why ≡ refusals.NoMemory)
