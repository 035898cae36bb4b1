-- Examples of the files of a service; the checker computes them.
use Rattle.std.specs.Prelude.{◌≡◌, codes, refl}
use Rattle.hy_hyper_life.specs.Reading.{sums_path}

abbrev beside : sums_path (codes "orders.log") ≡ codes "orders.log.load"
beside = refl
