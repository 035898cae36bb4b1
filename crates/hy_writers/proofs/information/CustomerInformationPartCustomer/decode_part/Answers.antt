use Rattle.std.proofs.Common.{◌∙◌, List, ℕ, ap, arith, sym, take_all}
use Rattle.hy_rows.specs.Texts.{text_of}
use Rattle.hy_writers.proofs.information.CustomerInformationPartCustomer.decode_part.Goals as goal

pub returns : goal.returns
returns c =
    ap (λ (text : List ℕ). record { text = text })
    (c.of_field.ensures ∙ ap text_of (sym (take_all 500 c.args.bytes.now (omega (arith, c.requires)))))
