use Rattle.std.proofs.Common.{◌∙◌, [], if◌then◌else◌, get_or, sym, arith}
use Rattle.std.proofs.lemmas.List.{take_all}
use Rattle.hy_columns.specs.Columns.{values_of}
use Rattle.hy_query.specs.Language.{is_table}
use Rattle.hy_query.specs.declared.column.Column.{Column}
use Rattle.hy_rows.specs.declared.catalogue.Table.TheVariants.{Warehouse}
use Rattle.hy_answers.specs.declared.sources.SourceColumn.{SourceColumn}
use Rattle.hy_answers.specs.inside.Reading.{chosen}
use Rattle.hy_answers.proofs.ReadingLaws.{chosen-at, chosen-long, mapped-more}
use Rattle.hy_answers.proofs.reading.sources_of.Goals as goal

pub loop-index-preserved : goal.loop-index-preserved
loop-index-preserved c =
    let first = c.args.first in
    let names = c.args.names.now in
    let later = c.args.later.now in
    let here = c.args.here.now in
    let index = c.loop-index.index in
    let old = c.index-later-index.result in
    let new = c.index-here-index.result in
    let made = c.source_of-source.result in
    let none : Column = record { table = Warehouse; place = 0 } in
    let long = chosen-long first names later here c.requires.later c.requires.here in
    record {
      columns =
          mapped-more (λ (source : SourceColumn). source.column) c.loop-index.sources.items c.push.new.self.items made names
          index none c.in_ok-push.ensures.items c.loop-index.invariant.columns c.loop-index-test.true c.source_of-source.ensures.column;
      values =
          mapped-more (λ (source : SourceColumn). values_of source.values.now) c.loop-index.sources.items c.push.new.self.items
          made (chosen first names later here) index [] c.in_ok-push.ensures.items c.loop-index.invariant.values
          (omega (arith, long, c.loop-index-test.true))
          (c.source_of-source.ensures.values
          ∙ (λ i. if is_table first (get_or names index none).table then values_of (c.index-here-index.is i)
          else values_of (c.index-later-index.is i))
          ∙ sym (chosen-at first names later here index none old new c.loop-index-test.true c.requires.later c.requires.here));
    }

pub returns-clause-values : goal.returns-clause-values
returns-clause-values c =
    let long = chosen-long c.args.first c.args.names.now c.args.later.now c.args.here.now c.requires.later c.requires.here in
    c.loop-index.invariant.values
    ∙ take_all c.loop-index.index (chosen c.args.first c.args.names.now c.args.later.now c.args.here.now)
    (omega (arith, long, c.loop-index-test.false))
