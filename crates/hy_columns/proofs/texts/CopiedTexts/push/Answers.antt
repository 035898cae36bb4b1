use Rattle.std.proofs.Common.{◌∷◌, ◌++◌, [], ap, ap₂, ◌∙◌}
use Rattle.hy_columns.proofs.CopiedLaws.{pushed-ends, pushed-texts}
use Rattle.hy_columns.proofs.texts.CopiedTexts.push.Goals as goal

pub invariant_of-self-2 : goal.invariant_of-self-2
invariant_of-self-2 c =
    pushed-ends c.self.inside.bytes.items c.args.text.now c.extend_from_slice.new.self.items c.self.inside.ends.items
    c.push_reserved.new.self.items c.self.invariant c.in_ok-extend_from_slice.ensures.items
    (c.push_reserved.ensures.items ∙ ap₂ (λ ends end. ends ++ end ∷ []) c.in_ok-reserve.ensures.items
    (c.len.ensures ∙ c.extend_from_slice.new.self.ok.0))

pub returns-clause-ok : goal.returns-clause-ok
returns-clause-ok c =
    pushed-texts c.self.inside.bytes.items c.args.text.now c.extend_from_slice.new.self.items c.self.inside.ends.items
    c.push_reserved.new.self.items c.self.invariant c.in_ok-extend_from_slice.ensures.items
    (c.push_reserved.ensures.items ∙ ap₂ (λ ends end. ends ++ end ∷ []) c.in_ok-reserve.ensures.items
    (c.len.ensures ∙ c.extend_from_slice.new.self.ok.0))
    ∙ ap (λ texts. texts ++ c.args.text.now ∷ []) c.self.view_is
