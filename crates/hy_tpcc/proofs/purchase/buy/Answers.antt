use Rattle.std.proofs.Common.{◌≡◌, ◌∙◌, ◌≤◌, ◌+◌, ap, arith, length, lit<, subst, sym}
use Rattle.std.specs.Prelude.{Some}
use Rattle.hy_commands.specs.declared.command.Command.TheVariants as commands
use Rattle.hy_writers.specs.of_store.Writes.{stored_in}
use Rattle.hy_tpcc.specs.Executor.{HasDone}
use Rattle.hy_tpcc.proofs.PurchaseLaws.{answer-last}
use Rattle.hy_tpcc.proofs.purchase.buy.Goals as goal

pub reply_to_order-requires : goal.reply_to_order-requires
reply_to_order-requires g c =
    let layout = c.args.layout.now in
    let edition = c.requires.done.0 in
    let before = c.requires.done.1 in
    let at_end : length c.args.order.now.lines ≤ c.args.done = subst (λ lines. lines ≤ c.args.done) c.len.ensures.count
    c.if-done-len.false in
    let last : c.args.done ≡ length c.args.order.now.lines = omega (arith, at_end, c.requires.next) in
    let after = c.in_ok-place_line.ensures.done.step edition before c.requires.done.2 in (
      lit< tt,
      (
        c.in_ok-place_line.ensures.done.store,
        (
          edition,
          before,
          subst (λ n. HasDone layout edition (commands.NewOrder c.args.order.now) c.args.place (n + 1) before
              (stored_in g.row.N c.place_line.new.space)) last after,
        ),
      ),
    )

pub returns-clause-reply : goal.returns-clause-reply
returns-clause-reply g c = λ edition before now.
    let layout = c.args.layout.now in
    let at_end : length c.args.order.now.lines ≤ c.args.done = subst (λ lines. lines ≤ c.args.done) c.len.ensures.count
    c.if-done-len.false in
    let last : c.args.done ≡ length c.args.order.now.lines = omega (arith, at_end, c.requires.next) in
    let after = c.in_ok-place_line.ensures.done.step edition before now in
    ap Some (c.reply_to_order.ensures edition before
    (subst (λ n. HasDone layout edition (commands.NewOrder c.args.order.now) c.args.place (n + 1) before
    (stored_in g.row.N c.place_line.new.space)) last after))
    ∙ sym (answer-last layout edition c.args.order.now c.args.done before last)
