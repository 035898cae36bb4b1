use Rattle.std.specs.Prelude.{is_some}
use Rattle.std.proofs.Common.{ap, ◌∙◌}
use Rattle.hy_events.specs.Words.{first_word}
use Rattle.hy_events.proofs.PartLaws.{left-some}
use Rattle.hy_events.proofs.parts.Parts.has_more.Goals as goal

pub returns : goal.returns
returns c =
    c.is_some.ensures ∙ left-some c.self.inside.separator c.self.inside.rest
    ∙ ap (λ words. is_some (first_word words)) c.self.view_is
