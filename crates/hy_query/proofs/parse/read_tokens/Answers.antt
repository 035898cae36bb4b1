use Rattle.hy_query.proofs.DraftLaws.{Reads-fault, Reads-more}
use Rattle.hy_query.proofs.parse.read_tokens.Goals as goal

pub returns-in-None : goal.returns-in-None
returns-in-None c =
    let read = c.loop-token.invariant in
    Reads-fault read.0 c.loop-token.next (record { place = c.in-Some.token.place; word = c.in-Some.token.word.now })
    c.loop-token.tokens c.next_token.new.self c.take.new.self _ c.in-Some.ensures read.3
    (c.in-None.ensures read.0 read.1)

pub loop-token-preserved : goal.loop-token-preserved
loop-token-preserved c =
    let read = c.loop-token.invariant in
    Reads-more read.0 c.loop-token.next (record { place = c.in-Some.token.place; word = c.in-Some.token.word.now })
    c.loop-token.tokens c.next_token.new.self c.take.new.self c.in-Some-take.behind _ c.in-Some.ensures read.2 read.3
    (c.in-Some-take.ensures read.0 read.1)
