-- C_DATA by itself: a row says of it what its own bytes say.
use Rattle.std.proofs.Common.{◌≡◌, ℕ, List, length, lit≤, refl, ap}
use Rattle.hy_page.specs.Bytes.{bytes_at}
use Rattle.hy_rows.specs.Rows.{customer_of, text_of}
use Rattle.hy_rows.specs.inside.PartLaws.{values_from-part}
use Rattle.hy_writers.specs.Information.{information_columns, information_in, information_of}

pub information_said : (row : List ℕ) → length row ≡ 574 → information_of (customer_of row) ≡ information_in (bytes_at row 74 500)
information_said row size =
    ap (λ values. record { text = text_of values 0 }) (values_from-part information_columns row 74 500 0 74 (lit≤ tt) refl)
