use Rattle.std.proofs.Common.{◌≡◌, Err, sym, ap, subst, ◌∙◌}
use Rattle.hy_schema.specs.declared.refusal.Refusal.TheVariants as refusals
use Rattle.hy_batches.specs.Encoding.{batch_bytes}
use Rattle.hy_redo.specs.Calls.{IsCutShort, LogState}
use Rattle.hy_redo.specs.inside.Sending.{Held}
use Rattle.hy_redo.proofs.SendingLaws.{answers_from, cut_short, state}
use Rattle.hy_redo.proofs.log.Log.write_batch.Goals as goal

pub returns-then-has_failed-2 : goal.returns-then-has_failed-2
returns-then-has_failed-2 g c =
    let batch = c.args.batch.now in
    let well = sym c.has_failed.ensures ∙ c.if-has_failed.false in
    let start = c.clear.new.self in
    let end = c.sync.new.self in
    let cut = cut_short start c.write_batch.new.sink c.flush.new.self end (batch_bytes batch)
    (ap (λ (held : Held). held.has_failed) c.clear.ensures ∙ well) (ap (λ (held : Held). held.bytes) c.clear.ensures)
    c.write_batch.ensures c.flush.ensures.sent c.flush.ensures.none c.sync.ensures
    (sym c.has_failed-2.ensures ∙ c.if-has_failed-2.true) in
    let same : state start ≡ c.args.self.now = ap state c.clear.ensures ∙ c.self.view_is in
    answers_from c.args.self.now (state end) batch (Err refusals.LogFailed)
    (ap (λ (log : LogState). log.has_failed) (sym c.self.view_is) ∙ well)
    (subst (λ (old : LogState). IsCutShort old (state end) (batch_bytes batch) refusals.LogFailed) same cut)
