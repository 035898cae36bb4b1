-- The layouts of the first warehouses are made.
use Rattle.std.proofs.Common.{◌≡◌, ◌≤◌, ℕ, suc, length, vec_capacity}
use Rattle.std.specs.Prelude.{IfSome, slice_get}
use Rattle.hy_sound.proofs.known.layouts_of.Given as goal

abbrev pub invariant-loop-before : goal.invariant-loop-before
invariant-loop-before l =
    record {
      count : length l.layouts.items ≡ l.before;
      room : l.count ≤ vec_capacity l.layouts;
      each : (place : ℕ) → IfSome (slice_get l.layouts.items place) (λ layout.
          layout ≡ record { load = l.load; warehouse = suc place });
    }
