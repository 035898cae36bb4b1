use Rattle.std.proofs.Common.{rules, ◌≡◌, append_assoc, subst, sym, lit<, ◌∙◌}
use Rattle.hy_rows.specs.Texts.{IsText}
use Rattle.hy_tables.specs.Generated.{payment_information}
use Rattle.hy_tables.proofs.TextLaws.{information_text}
use Rattle.hy_tables.proofs.generated_texts.information.Goals as goal

pub of_bytes-requires : goal.of_bytes-requires
of_bytes-requires c =
    let made : c.as_bytes.result.now ≡ payment_information c.args.warehouse c.args.district = search (rules, append_assoc) in
    (lit< tt, subst (IsText 24) (sym made) (information_text c.args.warehouse c.args.district (search rules) (search rules)))

pub returns : goal.returns
returns c =
    let made : c.as_bytes.result.now ≡ payment_information c.args.warehouse c.args.district = search (rules, append_assoc) in
    c.of_bytes.ensures ∙ made
