use Rattle.std.proofs.Common.{◌≡◌, ℕ, List, subst}
use Rattle.std.specs.Prelude.{IsOkAnd, MatchResult}
use Rattle.std.specs.Io.KnownBytes.{Appends}
use Rattle.hy_schema.specs.declared.refusal.Refusal.TheVariants as refusals
use Rattle.hy_session.specs.Snapshots.{lists_of_all}
use Rattle.hy_session.specs.Texts.{answer_text}
use Rattle.hy_query.specs.Language.{query_of}
use Rattle.hy_query.specs.Meaning.{answer_of}
use Rattle.hy_script.specs.Answers.{refused_text}
use Rattle.hy_script.proofs.AskedLaws.{asked-answer, asked-refused}
use Rattle.hy_script.proofs.ResultLaws.{on_ok}
use Rattle.hy_script.proofs.answer.write_answer.Goals as goal

pub returns-in-Ok-clause-written : goal.returns-in-Ok-clause-written
returns-in-Ok-clause-written g c =
    let session = c.args.session.now in
    let printed = c.in-Ok.answer.items in
    let before = g.O.Output.contents c.args.out.now in
    let after = g.O.Output.contents c.write_all.new.self in
    let said = subst (λ (text : List ℕ). IsOkAnd (query_of text)
    (λ query. printed ≡ answer_text (answer_of query (lists_of_all g.row.N session))))
    c.as_bytes.ensures c.in-Ok.ensures.answer in
    on_ok c.write_all.result c.write_all.ensures.bytes (λ appends. (
      printed,
      asked-answer g.row.N session (query_of c.args.text.now) printed said,
      subst (λ (text : List ℕ). Appends before after text) c.deref.ensures.value appends,
    ))

pub returns-in-Err-clause-written : goal.returns-in-Err-clause-written
returns-in-Err-clause-written g c =
    let session = c.args.session.now in
    let why = c.in-Err.refusal in
    let said = subst (λ (text : List ℕ). MatchResult (query_of text) (λ query. why ≡ refusals.NoMemory)
    (λ place. why ≡ refusals.BadQuery place)) c.as_bytes.ensures c.in-Err.ensures.refused in
    on_ok c.write_refused.result c.write_refused.ensures.written (λ appends.
    (refused_text why, asked-refused g.row.N session (query_of c.args.text.now) why said, appends))
