-- Which keys of order lines are the same.
use Rattle.std.specs.Prelude.{Bool, ◌==◌, ◌&&◌}
use Rattle.hy_conditions.specs.Keys.{same_order}
use Rattle.hy_loads.specs.declared.keys.LineId.{LineId}

abbrev pub same_line : LineId → LineId → Bool
same_line key other = same_order key.order other.order && (key.number == other.number)
