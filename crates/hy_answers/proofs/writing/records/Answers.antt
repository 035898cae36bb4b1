use Rattle.std.proofs.Common.{◌∙◌, []}
use Rattle.std.specs.List.{flat_map}
use Rattle.hy_answers.specs.Texts.{record_text}
use Rattle.hy_answers.specs.inside.Answers.{rows_in}
use Rattle.hy_answers.proofs.TextLaws.{all-written, nothing-written}
use Rattle.hy_answers.proofs.writing.records.Goals as goal

pub returns-in-Ok : goal.returns-in-Ok
returns-in-Ok c =
    let made = c.from_writer-writer.ensures in
    all-written (flat_map record_text (rows_in c.args.columns.now c.args.order.now)) c.write_rows.new.writer c.in-Ok.text
    (c.in_ok-write_rows.ensures [] (nothing-written c.from_writer-writer.result c.new-2.result c.new-2.ensures.items
    made.wtr made.empty (made.cfg ∙ c.new.ensures) made.fields made.wrote))
    c.in-Ok.ensures.ok
