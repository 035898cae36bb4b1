use Rattle.std.proofs.Common.{◌≡◌, fold, length, Ok}
use Rattle.hy_query.specs.Language.{take_token}
use Rattle.hy_query.specs.Queries.{QueryState, no_query}
use Rattle.hy_query.specs.Tokens.{tokens}
use Rattle.hy_query.specs.declared.parse.Next.TheVariants as nexts
use Rattle.hy_query.specs.inside.Drafts.{StandsFor}
use Rattle.hy_query.specs.inside.Reached.{IsReached}
use Rattle.hy_query.proofs.parse.read_tokens.Given as goal

abbrev pub invariant-loop-token : goal.invariant-loop-token
invariant-loop-token l = (query : QueryState) × StandsFor l.draft query × IsReached query l.next
    × (fold take_token (Ok (query, l.next)) l.tokens ≡ fold take_token (Ok (no_query, nexts.From)) (tokens l.text))

abbrev pub decreases-loop-token : goal.decreases-loop-token
decreases-loop-token l = length l.tokens
