use Rattle.std.proofs.Common.{◌≡◌, ◌<◌, ◌+◌, ℕ, arith, length, lit<, subst}
use Rattle.hy_commands.specs.declared.command.Command.TheVariants as commands
use Rattle.hy_writers.specs.of_store.Writes.{stored_in}
use Rattle.hy_writers.proofs.WritesLaws.{writes-then}
use Rattle.hy_tpcc.specs.Executor.{DoesSlices}
use Rattle.hy_tpcc.proofs.parts.buy_all_but_last.Goals as goal

pub buy_known-requires : goal.buy_known-requires
buy_known-requires g c =
    let next : c.loop-done.done < length c.args.order.now.lines + 1 = omega (
      arith,
      c.loop-done-test.true,
      c.len-done-end.ensures.count,
    ) in
    let edition = c.requires.begun.0 in
    let before = c.requires.begun.1 in
    let now = c.loop-done.invariant.slices edition before c.requires.begun.2 in
    (lit< tt, (lit< tt, (c.loop-done.invariant.writable, (next, (c.requires.known, (edition, before, now))))))

pub loop-done-preserved : goal.loop-done-preserved
loop-done-preserved g c = record {
  writable = record {
    store = c.in_ok-buy_known.ensures.done.store;
    undo_log = c.in_ok-buy_known.ensures.writes.undoes.undo_log;
  };
  writes = writes-then c.loop-done.invariant.writes c.buy_known.ensures.writes;
  slices = λ edition before now.
      c.in_ok-buy_known.ensures.done.step edition before (c.loop-done.invariant.slices edition before now);
}

pub returns-clause-done : goal.returns-clause-done
returns-clause-done g c =
    let all : c.loop-done.done ≡ length c.args.order.now.lines = omega (
      arith,
      c.loop-done-test.false,
      c.loop-done.auto.done-end,
      c.len-done-end.ensures.count,
    ) in
    record {
      store = c.loop-done.invariant.writable.store;
      step =
          subst (λ (n : ℕ). DoesSlices c.args.layout.now (commands.NewOrder c.args.order.now) c.args.place n
          (stored_in g.row.N c.args.space.now) (stored_in g.row.N c.loop-done.space)) all c.loop-done.invariant.slices;
    }
