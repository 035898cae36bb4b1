use Rattle.std.proofs.Common.{rules, ◌≡◌, append_assoc, ◌∙◌, sym, subst, lit<}
use Rattle.hy_rows.specs.Texts.{IsText}
use Rattle.hy_tables.specs.Generated.{last_name}
use Rattle.hy_tables.proofs.TextLaws.{last_name_text}
use Rattle.hy_tables.proofs.generated_texts.last_name.Goals as goal

pub of_bytes-requires : goal.of_bytes-requires
of_bytes-requires c =
    let made : c.as_bytes.result.now ≡ last_name c.args.number = search (rules, append_assoc) in
    (lit< tt, subst (IsText 16) (sym made) (last_name_text c.args.number))

pub returns : goal.returns
returns c =
    let made : c.as_bytes.result.now ≡ last_name c.args.number = search (rules, append_assoc) in
    c.of_bytes.ensures ∙ made
