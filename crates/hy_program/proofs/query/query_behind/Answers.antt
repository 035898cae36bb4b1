use Rattle.std.proofs.Common.{rules, ◌≡◌, ℕ, List, Err, subst}
use Rattle.std.specs.Prelude.{IsOkAnd}
use Rattle.std.specs.Io.KnownBytes.{Appends}
use Rattle.hy_query.specs.Language.{query_of}
use Rattle.hy_program.specs.declared.fault.RunFault.TheVariants as fault
use Rattle.hy_program.specs.Query.{IsAnswerBehind, IsWhyUnaskedBehind}
use Rattle.hy_program.proofs.AskLaws.{done_behind, unanswered_fault, unprinted_fault}
use Rattle.hy_program.proofs.query.query_behind.Goals as goal

pub returns-in_err-printed-clause-fault : goal.returns-in_err-printed-clause-fault
returns-in_err-printed-clause-fault g c =
    let load = c.in_ok-load.load in
    let refusal = c.in_err-printed.field-0.0 in
    let bytes = subst (λ (given : List ℕ). IsWhyUnaskedBehind load given c.as_bytes.result.now refusal) c.deref.ensures.value
    c.in_err-printed.ensures.refused in
    let why = subst (λ (text : List ℕ). IsWhyUnaskedBehind load c.in_ok-load.bytes.items text refusal) c.as_bytes.ensures.value bytes in
    let is : c.from_residual-in_err-printed.result ≡ Err (fault.Refused refusal) = search rules in
    unanswered_fault c.args.directory.now c.args.text.now c.args.log.now (g.F.FileSystem.files c.args.system.now)
    (c.args.out.now ≡ c.args.out.now) load c.in_ok-load.bytes.items c.in_ok-load.ensures.read refusal why (search rules)
    c.from_residual-in_err-printed.result is

pub returns-in_err-write_all-clause-fault : goal.returns-in_err-write_all-clause-fault
returns-in_err-write_all-clause-fault g c =
    let load = c.in_ok-load.load in
    let printed = c.in_ok-printed.printed.items in
    let error = c.in_err-write_all.field-0.0 in
    let bytes = subst (λ (given : List ℕ). IsOkAnd (query_of c.as_bytes.result.now) (λ query. IsAnswerBehind load given query printed))
    c.deref.ensures.value c.in_ok-printed.ensures.answer in
    let said = subst (λ (text : List ℕ). IsOkAnd (query_of text) (λ query. IsAnswerBehind load c.in_ok-load.bytes.items query printed))
    c.as_bytes.ensures.value bytes in
    let is : c.from_residual-in_err-write_all.result ≡ Err (fault.Writer error) = search rules in
    unprinted_fault c.args.directory.now c.args.text.now c.args.log.now (g.F.FileSystem.files c.args.system.now)
    (c.write_all.new.self ≡ c.args.out.now) load c.in_ok-load.bytes.items printed c.in_ok-load.ensures.read said error
    c.from_residual-in_err-write_all.result is

pub returns-clause-done : goal.returns-clause-done
returns-clause-done g c =
    let load = c.in_ok-load.load in
    let printed = c.in_ok-printed.printed.items in
    let before = g.O.Output.contents c.args.out.now in
    let after = g.O.Output.contents c.write_all.new.self in
    let bytes = subst (λ (given : List ℕ). IsOkAnd (query_of c.as_bytes.result.now) (λ query. IsAnswerBehind load given query printed))
    c.deref.ensures.value c.in_ok-printed.ensures.answer in
    let said = subst (λ (text : List ℕ). IsOkAnd (query_of text) (λ query. IsAnswerBehind load c.in_ok-load.bytes.items query printed))
    c.as_bytes.ensures.value bytes in
    let appends = subst (λ (text : List ℕ). Appends before after text) c.deref-2.ensures.value c.in_ok-write_all.ensures.bytes in
    done_behind c.args.directory.now c.args.text.now c.args.log.now (g.F.FileSystem.files c.args.system.now) load
    c.in_ok-load.bytes.items printed before after c.in_ok-load.ensures.read said appends
