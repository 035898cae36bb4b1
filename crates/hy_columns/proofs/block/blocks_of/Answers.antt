use Rattle.std.proofs.Common.{◌<◌, length, ap, ◌∙◌, arith}
use Rattle.std.specs.List.{flat_map}
use Rattle.std.proofs.lemmas.List.{take_all}
use Rattle.hy_rows.specs.Spelling.{live_rows}
use Rattle.hy_columns.specs.Blocks.{slots_in}
use Rattle.hy_columns.specs.inside.Cuts.{Slots}
use Rattle.hy_columns.proofs.CutLaws.{rows-cut}
use Rattle.hy_columns.proofs.TableLaws.{rows-slots}
use Rattle.hy_columns.proofs.block.blocks_of.Goals as goal

-- the blocks of the next warehouse come behind those so far
pub loop-place-preserved : goal.loop-place-preserved
loop-place-preserved g c =
    let slots : Slots = slots_in g.row.N c.args.scan.now c.args.table in
    let there : c.loop-place.place < length slots = omega (arith, c.loop-place-test.true, c.loop-place.auto.place-end, c.places_of-place-end.ensures) in
    let adds = c.in_ok-push_blocks.ensures slots there c.used_in.ensures in
    record {
      each = adds.each c.loop-place.invariant.each;
      rows = rows-cut slots c.loop-place.place c.used_in.result c.loop-place.blocks.items c.push_blocks.new.blocks.items there
          c.used_in.ensures adds c.loop-place.invariant.rows;
    }

pub returns-clause-rows : goal.returns-clause-rows
returns-clause-rows g c =
    let slots : Slots = slots_in g.row.N c.args.scan.now c.args.table in
    c.loop-place.invariant.rows
    ∙ ap (flat_map live_rows) (take_all c.loop-place.place slots
    (omega (arith, c.loop-place-test.false, c.loop-place.auto.place-end, c.places_of-place-end.ensures)))
    ∙ rows-slots g.row.N c.args.scan.now c.args.table
