use Rattle.std.proofs.Common.{ℕ, zero, suc, ◌+◌, ◌<◌, ap, arith, lit<, refl, subst, sym}
use Rattle.std.specs.Prelude.{IfOk, OnOk, Result, Ok, Err}
use Rattle.hy_commands.specs.declared.command.Command.{Command}
use Rattle.hy_commands.specs.declared.command.Command.TheVariants as commands
use Rattle.hy_commands.specs.declared.command.OrderStatus.{OrderStatus}
use Rattle.hy_commands.specs.declared.command.StockLevel.{StockLevel}
use Rattle.hy_commands.specs.declared.edition.Edition.{Edition}
use Rattle.hy_layout.specs.Layout.{LayoutState}
use Rattle.hy_rows.specs.Tables.{Tables}
use Rattle.hy_commands.specs.Commands.{slice_count}
use Rattle.hy_writers.specs.of_store.Stored.{Stored}
use Rattle.hy_writers.specs.of_store.Writes.{LeavesStore, stored_in}
use Rattle.hy_writers.proofs.WritesLaws.{on_ok-then}
use Rattle.hy_tpcc.specs.Executor.{AnswersSlice, ExecutorState, HasDone, RunsSlice}
use Rattle.hy_tpcc.proofs.UnderWay.{if_ok-then, only-answers, only-slice, slice-answers, slice-done}
use Rattle.hy_tpcc.proofs.executor.Executor.slice.Goals as goal

on_ok : {Value Refused : Type 0} (result : Result Value Refused) {P : Type 0} → P → OnOk result P
on_ok (Ok value) holds = holds
on_ok (Err refused) holds = tt

-- the one slice of a command that only reads
status-done : (layout : LayoutState) (edition : Edition) (status : OrderStatus) (place done : ℕ) (before : Tables) (s : Stored) → done < 1
    → HasDone layout edition (commands.OrderStatus status) place done before s → HasDone layout edition (commands.OrderStatus status) place (done + 1) before s
status-done layout edition status place zero before s first now = record {
  begun = now.begun;
  rows = now.rows;
  known = now.known;
  indexes = now.indexes;
}
status-done layout edition status place (suc done) before s first now = absurd (omega (arith, first))

level-done : (layout : LayoutState) (edition : Edition) (level : StockLevel) (place done : ℕ) (before : Tables) (s : Stored) → done < 1
    → HasDone layout edition (commands.StockLevel level) place done before s → HasDone layout edition (commands.StockLevel level) place (done + 1) before s
level-done layout edition level place zero before s first now = record {
  begun = now.begun;
  rows = now.rows;
  known = now.known;
  indexes = now.indexes;
}
level-done layout edition level place (suc done) before s first now = absurd (omega (arith, first))

pub read_status-requires : goal.read_status-requires
read_status-requires g c =
    let before = c.requires.under_way.0 in (
      lit< tt,
      (
        c.requires.writable.store,
        (
          c.args.edition,
          before,
          only-slice c.args.self.now c.args.edition c.args.command.now (commands.OrderStatus c.in-OrderStatus.status) c.args.done
              (stored_in g.row.N c.args.space.now) c.in-OrderStatus.is refl c.requires.next before c.requires.under_way.1,
        ),
      ),
    )

pub read_level-requires : goal.read_level-requires
read_level-requires g c =
    let before = c.requires.under_way.0 in (
      lit< tt,
      (
        c.requires.writable.store,
        (
          c.args.edition,
          before,
          only-slice c.args.self.now c.args.edition c.args.command.now (commands.StockLevel c.in-StockLevel.level) c.args.done
              (stored_in g.row.N c.args.space.now) c.in-StockLevel.is refl c.requires.next before c.requires.under_way.1,
        ),
      ),
    )

pub returns-in-NewOrder-clause-under_way : goal.returns-in-NewOrder-clause-under_way
returns-in-NewOrder-clause-under_way g c =
    on_ok-then c.buy.result
    (λ done. record {
      store = done.store;
      step =
          slice-done c.args.self.now c.args.edition c.args.command.now (commands.NewOrder c.in-NewOrder.order) c.args.done
          (stored_in g.row.N c.args.space.now) (stored_in g.row.N c.buy.new.space) c.in-NewOrder.is (λ w d b l. tt)
          (done.step c.args.edition);
    })
    (rw (ap (λ (e : ExecutorState). e.layout) c.self.view_is, ap (λ (e : ExecutorState). e.place) c.self.view_is) at c.buy.ensures.done)

pub returns-in-NewOrder-clause-reply : goal.returns-in-NewOrder-clause-reply
returns-in-NewOrder-clause-reply g c =
    if_ok-then c.buy.result
    (λ reply answers. slice-answers c.args.self.now c.args.edition c.args.command.now (commands.NewOrder c.in-NewOrder.order) c.args.done
    (stored_in g.row.N c.args.space.now) reply c.in-NewOrder.is (answers c.args.edition))
    (rw (ap (λ (e : ExecutorState). e.layout) c.self.view_is, ap (λ (e : ExecutorState). e.place) c.self.view_is) at c.buy.ensures.reply)

pub returns-in-Payment-clause-under_way : goal.returns-in-Payment-clause-under_way
returns-in-Payment-clause-under_way g c =
    on_ok-then c.pay.result
    (λ done. record {
      store = done.store;
      step =
          slice-done c.args.self.now c.args.edition c.args.command.now (commands.Payment c.in-Payment.payment) c.args.done
          (stored_in g.row.N c.args.space.now) (stored_in g.row.N c.pay.new.space) c.in-Payment.is (λ w d b l. tt)
          done.step;
    })
    (rw (ap (λ (e : ExecutorState). e.layout) c.self-in-Payment.view_is, ap (λ (e : ExecutorState). e.place) c.self-in-Payment.view_is) at c.pay.ensures.done)

pub returns-in-Payment-clause-reply : goal.returns-in-Payment-clause-reply
returns-in-Payment-clause-reply g c =
    if_ok-then c.pay.result
    (λ reply. slice-answers c.args.self.now c.args.edition c.args.command.now (commands.Payment c.in-Payment.payment) c.args.done
    (stored_in g.row.N c.args.space.now) reply c.in-Payment.is)
    (rw (ap (λ (e : ExecutorState). e.layout) c.self-in-Payment.view_is, ap (λ (e : ExecutorState). e.place) c.self-in-Payment.view_is) at c.pay.ensures.reply)

pub returns-in-OrderStatus-clause-under_way : goal.returns-in-OrderStatus-clause-under_way
returns-in-OrderStatus-clause-under_way g c =
    let s = stored_in g.row.N c.args.space.now in
    on_ok c.read_status.result (record {
      store = c.requires.writable.store;
      step =
          subst (λ (next : ExecutorState). RunsSlice c.args.self.now next c.args.edition c.args.command.now c.args.done s s)
          (sym c.read_status.ensures.same)
          (slice-done c.args.self.now c.args.edition c.args.command.now (commands.OrderStatus c.in-OrderStatus.status) c.args.done s s c.in-OrderStatus.is
          (λ w d b l. tt)
          (λ before now. status-done c.args.self.now.layout c.args.edition c.in-OrderStatus.status c.args.self.now.place c.args.done before s
          (subst (λ (command : Command). c.args.done < slice_count command) c.in-OrderStatus.is c.requires.next) now));
    })

pub returns-in-OrderStatus-clause-reply : goal.returns-in-OrderStatus-clause-reply
returns-in-OrderStatus-clause-reply g c =
    if_ok-then c.read_status.result
    (λ reply answers. only-answers c.args.self.now c.args.edition c.args.command.now (commands.OrderStatus c.in-OrderStatus.status) c.args.done
    (stored_in g.row.N c.args.space.now) reply c.in-OrderStatus.is refl c.requires.next (answers c.args.edition)) c.read_status.ensures.reply

pub returns-in-Delivery-clause-under_way : goal.returns-in-Delivery-clause-under_way
returns-in-Delivery-clause-under_way g c =
    subst (λ (command : Command). OnOk c.deliver.result (LeavesStore g.row.N c.args.space.now c.deliver.new.space
    (RunsSlice c.args.self.now c.deliver.new.self c.args.edition command c.args.done)))
    (sym c.in-Delivery.is)
    (on_ok-then c.deliver.result (λ done. record { store = done.store; step = done.step c.args.edition })
    c.deliver.ensures.under_way)

pub returns-in-Delivery-clause-reply : goal.returns-in-Delivery-clause-reply
returns-in-Delivery-clause-reply g c =
    subst (λ (command : Command). IfOk c.deliver.result (AnswersSlice c.args.self.now c.args.edition command c.args.done
    (stored_in g.row.N c.args.space.now)))
    (sym c.in-Delivery.is)
    (if_ok-then c.deliver.result (λ reply answers. answers c.args.edition) c.deliver.ensures.reply)

pub returns-in-StockLevel-clause-under_way : goal.returns-in-StockLevel-clause-under_way
returns-in-StockLevel-clause-under_way g c =
    let s = stored_in g.row.N c.args.space.now in
    on_ok c.read_level.result (record {
      store = c.requires.writable.store;
      step =
          subst (λ (next : ExecutorState). RunsSlice c.args.self.now next c.args.edition c.args.command.now c.args.done s s)
          (sym c.read_level.ensures.same)
          (slice-done c.args.self.now c.args.edition c.args.command.now (commands.StockLevel c.in-StockLevel.level) c.args.done s s c.in-StockLevel.is
          (λ w d b l. tt)
          (λ before now. level-done c.args.self.now.layout c.args.edition c.in-StockLevel.level c.args.self.now.place c.args.done before s
          (subst (λ (command : Command). c.args.done < slice_count command) c.in-StockLevel.is c.requires.next) now));
    })

pub returns-in-StockLevel-clause-reply : goal.returns-in-StockLevel-clause-reply
returns-in-StockLevel-clause-reply g c =
    if_ok-then c.read_level.result
    (λ reply answers. only-answers c.args.self.now c.args.edition c.args.command.now (commands.StockLevel c.in-StockLevel.level) c.args.done
    (stored_in g.row.N c.args.space.now) reply c.in-StockLevel.is refl c.requires.next (answers c.args.edition)) c.read_level.ensures.reply
