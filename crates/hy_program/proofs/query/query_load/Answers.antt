use Rattle.std.proofs.Common.{rules, ◌≡◌, List, ℕ, Err, subst}
use Rattle.std.specs.Prelude.{IsOkAnd}
use Rattle.std.specs.Io.KnownBytes.{Appends}
use Rattle.hy_query.specs.Language.{query_of}
use Rattle.hy_query.specs.Meaning.{answer_of}
use Rattle.hy_storm.specs.of_session.Texts.{answer_text}
use Rattle.hy_program.specs.declared.fault.RunFault.TheVariants as fault
use Rattle.hy_program.specs.Query.{by_warehouse}
use Rattle.hy_program.proofs.AskLaws.{answered, printed-answer, query_fault, writer_fault}
use Rattle.hy_program.proofs.query.query_load.Goals as goal

pub returns-in-Err-clause-fault : goal.returns-in-Err-clause-fault
returns-in-Err-clause-fault g c =
    query_fault c.args.directory.now c.args.text.now (g.F.FileSystem.files c.args.system.now) (c.args.out.now ≡ c.args.out.now)
    c.in-Err.found c.of_files.result c.of_files.ensures.about c.in-Err.ensures.load (search rules)

pub returns-in_err-write_all-clause-fault : goal.returns-in_err-write_all-clause-fault
returns-in_err-write_all-clause-fault g c =
    let load = c.in-Ok.load in
    let printed = c.in_ok-answer.answer.items in
    let said = subst (λ (text : List ℕ). IsOkAnd (query_of text) (λ query. printed ≡ answer_text (answer_of query (by_warehouse load))))
    c.as_bytes.ensures.value c.in_ok-answer.ensures.answer in
    let known = g.F.FileSystem.files c.args.system.now in
    let Unprinted = c.write_all.new.self ≡ c.args.out.now in
    let is : c.from_residual-in_err-write_all.result ≡ Err (fault.Writer c.in_err-write_all.field-0.0) = search rules in
    writer_fault c.args.directory.now c.args.text.now known Unprinted c.from_residual-in_err-write_all.result
    (fault.Writer c.in_err-write_all.field-0.0)
    (answered c.args.directory.now c.args.text.now known Unprinted load printed c.in-Ok.ensures.load said) is

pub returns-clause-done : goal.returns-clause-done
returns-clause-done g c =
    let load = c.in-Ok.load in
    let printed = c.in_ok-answer.answer.items in
    let before = g.O.Output.contents c.args.out.now in
    let after = g.O.Output.contents c.write_all.new.self in
    let said = subst (λ (text : List ℕ). IsOkAnd (query_of text) (λ query. printed ≡ answer_text (answer_of query (by_warehouse load))))
    c.as_bytes.ensures.value c.in_ok-answer.ensures.answer in
    let appends = subst (λ (text : List ℕ). Appends before after text) c.deref.ensures.value c.in_ok-write_all.ensures.bytes in
    (load, c.in-Ok.ensures.load, printed-answer load printed (query_of c.args.text.now) before after said appends)
