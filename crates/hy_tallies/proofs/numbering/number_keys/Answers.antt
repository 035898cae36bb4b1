use Rattle.std.proofs.Common.{map, rules}
use Rattle.hy_tallies.specs.Lines.{column_in}
use Rattle.hy_tallies.proofs.RepeatLaws.{again, looked_up}
use Rattle.hy_tallies.proofs.numbering.number_keys.Goals as goal
use Rattle.hy_tallies.proofs.numbering.number_keys.Goals.{else-not-repeats-line, then-not-repeats-line+in_ok-last}

pub loop-line-preserved : goal.loop-line-preserved
loop-line-preserved c =
    let columns = map column_in c.args.columns.now in
    let line = c.loop-line.line in
    elim c.if-not-repeats-line.branch [
      | then-not-repeats-line+in_ok-last w ↦ record {
        stays = search rules;
        numbered = λ are repeat.
            let before = c.loop-line.invariant.numbered are repeat in
            let is = w.in_ok-last.ensures.numbered before.0.groups w.line_code.ensures in
            rw (c.in_ok-push.ensures.items, w.groups-is, w.last-is)
            (looked_up columns line c.args.groups.now c.loop-line.groups w.number_for.new.groups c.loop-line.numbers.items
            w.in_ok-last.last before.0 is);
      }
      | else-not-repeats-line w ↦ record {
        stays = search rules;
        numbered = λ are repeat.
            let before = c.loop-line.invariant.numbered are repeat in
            let is = repeat line (search rules) in
            rw (c.in_ok-push.ensures.items, w.groups-is, w.last-is)
            (again columns line c.args.groups.now c.loop-line.groups c.loop-line.numbers.items c.loop-line.last is.0 is.1
            before.0 before.1);
      }
    ]
