-- Among the ten districts of a warehouse each number from 1 to 10 is found.
use Rattle.std.proofs.Common.{◌≡◌, ℕ, ◌==◌, ◌&&◌, map, Some, arith}
use Rattle.std.specs.List.{find}
use Rattle.std.proofs.lemmas.Bool.Decides.{nat_tests}
use Rattle.hy_rows.specs.Ranges.{IsBetween}
use Rattle.hy_schema.specs.Keys.{district_numbers}
use Rattle.hy_rows.proofs.BetweenLaws.{bounds}

-- the key of one of the ten districts is there
pub finds-district : (number district : ℕ) → IsBetween 1 10 district
    → (key : ℕ × ℕ) × (find (λ key. (key.0 == number) && (key.1 == district))
    (map (λ district. (number, district)) district_numbers) ≡ Some key)
finds-district number district between =
    let ends = bounds 1 10 district between in
    ((number, district), grind (arith, nat_tests, ends.0, ends.1))
