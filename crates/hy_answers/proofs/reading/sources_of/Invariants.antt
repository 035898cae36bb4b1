use Rattle.std.proofs.Common.{◌≡◌, map, take}
use Rattle.hy_columns.specs.Columns.{values_of}
use Rattle.hy_answers.specs.declared.sources.SourceColumn.{SourceColumn}
use Rattle.hy_answers.specs.inside.Reading.{chosen}
use Rattle.hy_answers.proofs.reading.sources_of.Given as goal

-- the columns so far
abbrev pub invariant-loop-index : goal.invariant-loop-index
invariant-loop-index l = record {
  columns : map (λ (source : SourceColumn). source.column) l.sources.items ≡ take l.index l.names;
  values : map (λ (source : SourceColumn). values_of source.values.now) l.sources.items
      ≡ take l.index (chosen l.first l.names l.later l.here);
}
