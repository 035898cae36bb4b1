use Rattle.std.proofs.Common.{length}
use Rattle.hy_query.proofs.DraftLaws.{IsWhy-fault, IsWhy-memory, query_of-draft, query_of-early, query_of-fault, query_of-made}
use Rattle.hy_query.proofs.parse.parse_query.Goals as goal

pub returns-in-Err-clause-refused : goal.returns-in-Err-clause-refused
returns-in-Err-clause-refused c =
    IsWhy-fault c.args.text.now c.in-Err.place
    (query_of-fault c.args.text.now c.read_tokens.new.draft c.in-Err.place c.in-Err.ensures)

pub returns-then-not-end-clause-refused : goal.returns-then-not-end-clause-refused
returns-then-not-end-clause-refused c =
    IsWhy-fault c.args.text.now (length c.args.text.now)
    (query_of-early c.args.text.now c.read_tokens.new.draft c.end.new.self c.in-Ok.next
    c.in-Ok.ensures c.if-not-end.ensures)

pub into_query-requires : goal.into_query-requires
into_query-requires c =
    let read = query_of-draft c.args.text.now c.read_tokens.new.draft c.end.new.self c.in-Ok.next
    c.in-Ok.ensures c.if-not-end.ensures in
    (read.0, read.1, read.2)

pub returns-clause-query : goal.returns-clause-query
returns-clause-query c =
    let read = query_of-draft c.args.text.now c.read_tokens.new.draft c.end.new.self c.in-Ok.next
    c.in-Ok.ensures c.if-not-end.ensures in
    query_of-made c.args.text.now read.0 c.end.new.self c.into_query.result read.1 read.3 c.into_query.ensures.made

pub returns-clause-refused : goal.returns-clause-refused
returns-clause-refused c =
    let read = query_of-draft c.args.text.now c.read_tokens.new.draft c.end.new.self c.in-Ok.next
    c.in-Ok.ensures c.if-not-end.ensures in
    IsWhy-memory c.args.text.now read.0 c.into_query.result read.3 c.into_query.ensures.refused
