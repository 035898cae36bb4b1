use Rattle.std.proofs.Common.{ap, lit<, subst, sym}
use Rattle.hy_commands.specs.declared.command.Command.{Command}
use Rattle.hy_commands.specs.declared.command.Command.TheVariants as commands
use Rattle.hy_layout.specs.Layout.{LayoutState}
use Rattle.hy_writers.specs.of_store.Stored.{Stored}
use Rattle.hy_writers.specs.of_store.Writes.{stored_in}
use Rattle.hy_writers.specs.Waiting.{IsSoundStore}
use Rattle.hy_tpcc.specs.Executor.{ExecutorState}
use Rattle.hy_writers.proofs.WritesLaws.{on_ok-then}
use Rattle.hy_tpcc.specs.Parts.{DoesPart, HasPart}
use Rattle.hy_tpcc.proofs.PartLaws.{reply-each}
use Rattle.hy_tpcc.proofs.executor.Executor.run_part.Goals as goal

pub payment_part-requires : goal.payment_part-requires
payment_part-requires g c =
    let same = sym (ap (λ (e : ExecutorState). e.layout) c.self.view_is) in
    let part = subst (λ (command : Command). HasPart c.args.self.now.layout command) c.in-Payment.is
    c.requires.part in (
      lit< tt,
      (
        lit< tt,
        (
          c.requires.writable,
          (
            subst (λ (layout : LayoutState). IsSoundStore layout (stored_in g.row.N c.args.space.now)) same
                c.requires.sound,
            subst (λ (layout : LayoutState). HasPart layout (commands.Payment c.in-Payment.payment)) same part,
          ),
        ),
      ),
    )

-- a part of a purchase is the same in each edition
pub returns-in-NewOrder-clause-done : goal.returns-in-NewOrder-clause-done
returns-in-NewOrder-clause-done g c =
    let s : Stored = stored_in g.row.N c.args.space.now in
    let s1 : Stored = stored_in g.row.N c.order_part.new.space in
    on_ok-then c.order_part.result
    (λ done. record {
      store = done.store;
      step =
          subst (λ (command : Command). DoesPart c.args.self.now.layout c.args.edition command s s1) (sym c.in-NewOrder.is)
          (done.step c.args.edition);
    })
    (rw (ap (λ (e : ExecutorState). e.layout) c.self.view_is) at c.order_part.ensures.done)

pub returns-in-NewOrder-clause-reply : goal.returns-in-NewOrder-clause-reply
returns-in-NewOrder-clause-reply g c =
    reply-each c.order_part.result c.args.self.now.layout c.args.edition c.args.command.now
    (commands.NewOrder c.in-NewOrder.order) (stored_in g.row.N c.args.space.now).tables c.in-NewOrder.is
    (rw (ap (λ (e : ExecutorState). e.layout) c.self.view_is) at c.order_part.ensures.reply)
