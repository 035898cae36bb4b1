use Rattle.std.proofs.Common.{◌≡◌, ℕ, ◌+◌, ◌-◌, ◌%◌, ◌<◌, ◌++◌, ap, ap₂, sym, ◌∙◌, arith}
use Rattle.std.proofs.Math.Nat.{mod-lt}
use Rattle.hy_page.specs.Bytes.{number_of}
use Rattle.hy_rows.specs.Spelling.{slot_bytes}
use Rattle.hy_columns.proofs.CopiedLaws.{bytes-parts}
use Rattle.hy_columns.proofs.SpannedLaws.{next-page}
use Rattle.hy_columns.proofs.joined.number_across.Goals as goal

pub bytes_on-requires-2 : goal.bytes_on-requires-2
bytes_on-requires-2 g c =
    let n : ℕ = g.row.N in
    let next = next-page n c.args.start c.requires.size in
    let inside : c.args.start % n < n = mod-lt c.args.start (omega (arith, c.requires.size)) in (
      omega arith,
      (
        c.requires.sized,
        (
          omega (arith, c.requires.across),
          (
            omega (arith, c.requires.within, c.requires.across, inside),
            (omega (arith, next, c.requires.few, c.requires.size), (c.requires.size, c.requires.small)),
          ),
        ),
      ),
    )

pub returns : goal.returns
returns g c =
    let front : ℕ = g.row.N - c.args.start % g.row.N in
    c.number.ensures.value
    ∙ ap number_of
    (c.as_slice.ensures.value ∙ c.push_few-2.ensures.bytes
    ∙ ap₂ (λ one other. one ++ other)
    (c.push_few.ensures.bytes ∙ ap₂ (λ one other. one ++ other) c.new-few.ensures c.bytes_on.ensures)
    c.bytes_on-2.ensures
    ∙ sym (bytes-parts (slot_bytes c.args.pages.now) c.args.start front c.args.width (omega (arith, c.requires.across))))
