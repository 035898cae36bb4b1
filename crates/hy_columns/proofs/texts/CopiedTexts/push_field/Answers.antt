use Rattle.std.proofs.Common.{◌≡◌, ℕ, List, ◌∷◌, ◌++◌, [], ap, ap₂, ◌∙◌}
use Rattle.hy_page.specs.Bytes.{bytes_at}
use Rattle.hy_rows.specs.Spelling.{slot_bytes}
use Rattle.hy_rows.specs.Texts.{text_of}
use Rattle.hy_columns.proofs.CopiedLaws.{pushed-ends, pushed-texts}
use Rattle.hy_columns.proofs.texts.CopiedTexts.push_field.Goals as goal

pub invariant_of-self-2 : goal.invariant_of-self-2
invariant_of-self-2 g c =
    let text : List ℕ = text_of (bytes_at (slot_bytes c.args.pages.now) c.args.start c.args.width) in
    pushed-ends c.self.inside.bytes.items text c.copy_text.new.copied.items c.self.inside.ends.items
    c.push_reserved.new.self.items c.self.invariant
    (c.copy_text.ensures ∙ ap (λ bytes. bytes ++ text) c.in_ok-reserve-2.ensures.items)
    (c.push_reserved.ensures.items ∙ ap₂ (λ ends end. ends ++ end ∷ []) c.in_ok-reserve.ensures.items
    (c.len.ensures ∙ c.copy_text.new.copied.ok.0))

pub returns-clause-ok : goal.returns-clause-ok
returns-clause-ok g c =
    let text : List ℕ = text_of (bytes_at (slot_bytes c.args.pages.now) c.args.start c.args.width) in
    pushed-texts c.self.inside.bytes.items text c.copy_text.new.copied.items c.self.inside.ends.items
    c.push_reserved.new.self.items c.self.invariant
    (c.copy_text.ensures ∙ ap (λ bytes. bytes ++ text) c.in_ok-reserve-2.ensures.items)
    (c.push_reserved.ensures.items ∙ ap₂ (λ ends end. ends ++ end ∷ []) c.in_ok-reserve.ensures.items
    (c.len.ensures ∙ c.copy_text.new.copied.ok.0))
    ∙ ap (λ texts. texts ++ text ∷ []) c.self.view_is
