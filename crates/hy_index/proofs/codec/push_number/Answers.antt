use Rattle.std.proofs.Common.{◌-◌, ◌++◌, List, ℕ, drop, ap, ◌∙◌}
use Rattle.std.proofs.lemmas.List.{take_rest}
use Rattle.hy_index.proofs.KeyLaws.{to_be_bytes-last}
use Rattle.hy_index.proofs.codec.push_number.Goals as goal

pub returns-clause-bytes : goal.returns-clause-bytes
returns-clause-bytes c =
    c.push_bytes.ensures.bytes
    ∙ ap (λ (last : List ℕ). c.args.key.now.items ++ last) (take_rest c.to_be_bytes-digits.result (8 - c.args.width) ∙ ap (drop (8 - c.args.width)) c.to_be_bytes-digits.ensures ∙ to_be_bytes-last c.args.width c.args.number c.requires.width)
