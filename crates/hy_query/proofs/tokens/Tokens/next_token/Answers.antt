use Rattle.std.proofs.Common.{sym, ◌∙◌}
use Rattle.hy_query.proofs.TokenLaws.{tokens-end, tokens-next}
use Rattle.hy_query.proofs.tokens.Tokens.next_token.Goals as goal

pub returns-in_err-first : goal.returns-in_err-first
returns-in_err-first c =
    rw c.from_residual.ensures (sym c.self.view_is ∙ tokens-end c.self.inside.place c.self.inside.rest.now
    c.split_at.result.1.now _ c.space_count-spaces.ensures.same c.split_at.ensures.back c.in_err-first.ensures.cases)

pub returns : goal.returns
returns c = sym c.self.view_is ∙ tokens-next c.self.inside.place c.self.inside.rest.now c.split_at.result.1.now
    c.split_at-2.result.0.now c.split_at-2.result.1.now _ _ _ _ c.space_count-spaces.ensures.same
    c.split_at.ensures.back c.in_ok-first.ensures.cases.0 c.token_length.ensures.same c.split_at-2.ensures.front
    c.split_at-2.ensures.back
