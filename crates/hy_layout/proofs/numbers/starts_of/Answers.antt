use Rattle.std.proofs.Common.{arith, rules}
use Rattle.hy_layout.proofs.NumberLaws.{districts-rise, ends-push, starts-by_ends}
use Rattle.hy_layout.proofs.numbers.starts_of.Goals as goal

pub up_to_district-requires : goal.up_to_district-requires
up_to_district-requires c = districts-rise c.args.rows.now c.requires

pub loop-district-preserved : goal.loop-district-preserved
loop-district-preserved c = record {
  count = search rules;
  ends = ends-push c.args.rows.now c.loop-district.starts.items c.push.new.self.items c.up_to_district.result
      c.loop-district.district c.loop-district.invariant.count c.in_ok-push.ensures.items
      c.loop-district.invariant.ends c.up_to_district.ensures;
}

pub returns : goal.returns
returns c =
    starts-by_ends c.args.rows.now c.requires c.loop-district.starts.items
    (λ district below. c.loop-district.invariant.ends district (omega arith)) (omega arith)
