-- What the bytes of a slot are, lent or copied.
use Rattle.std.specs.Prelude.{ℕ, List}
use Rattle.hy_relation.specs.declared.view.SlotView.{SlotView}
use Rattle.hy_relation.specs.declared.view.SlotView.TheVariants.{Copied, Lent}

abbrev pub bytes_of_view : SlotView → List ℕ
bytes_of_view (Lent bytes) = bytes.now
bytes_of_view (Copied bytes) = bytes.items
