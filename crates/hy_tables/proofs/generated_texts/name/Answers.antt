use Rattle.std.proofs.Common.{rules, ◌≡◌, ◌++◌, subst, arith}
use Rattle.std.specs.Fmt.{decimal}
use Rattle.hy_rows.specs.Texts.{IsText}
use Rattle.hy_tables.proofs.TextLaws.{name_text}
use Rattle.hy_tables.proofs.generated_texts.name.Goals as goal

pub of_bytes-requires : goal.of_bytes-requires
of_bytes-requires g c =
    let made : c.args.letters.now ++ decimal c.args.number ≡ c.as_bytes.result.now = search rules in
    (omega (arith, c.requires.small), subst (IsText g.row.WIDTH) made (name_text g.row.WIDTH c.args.letters.now c.args.number c.requires.letters c.requires.number c.requires.width))
