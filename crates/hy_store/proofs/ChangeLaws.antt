-- Changes of a store, one behind another.
use Rattle.std.proofs.Common.{ℕ, ap, ◌∙◌}
use Rattle.hy_space.specs.Space.{SpaceState}
use Rattle.hy_store.specs.Stored.{Stored}
use Rattle.hy_store.specs.Writes.{ChangesStore}

pub changes-then : {n : ℕ} {old mid new : SpaceState} {first second : Stored → Stored} → ChangesStore n old mid first
    → ChangesStore n mid new second → ChangesStore n old new (λ s. second (first s))
changes-then {second = second} before after = record {
  store = after.store;
  changed = after.changed ∙ ap second before.changed;
}
