use Rattle.std.proofs.Common.{◌≡◌, ◌<◌, ◌+◌, arith, length, lit<, subst}
use Rattle.hy_commands.specs.declared.command.Command.TheVariants as commands
use Rattle.hy_commands.specs.declared.edition.Edition.{Edition}
use Rattle.hy_commands.specs.declared.edition.Edition.TheVariants as editions
use Rattle.hy_schema.specs.Loads.{IsLoad}
use Rattle.hy_rows.specs.Tables.{Tables}
use Rattle.hy_writers.specs.of_store.Writes.{IsWritableStore, stored_in}
use Rattle.hy_writers.proofs.WritesLaws.{if_ok-then, on_ok-then}
use Rattle.hy_tpcc.specs.Executor.{HasDone, answer_of}
use Rattle.hy_tpcc.proofs.PartLaws.{buyer-meant, part-answers, part-begun, part-bought, part-passed, part-reached}
use Rattle.hy_tpcc.proofs.parts.order_at_home.Goals as goal

pub unreachable-requires : goal.unreachable-requires
unreachable-requires g c =
    let s = stored_in g.row.N c.args.space.now in
    buyer-meant c.args.layout.now (subst IsLoad c.load.ensures c.sound.ensures) c.know_places.ensures.warehouse
    c.args.order.now c.requires.part c.requires.home s.tables c.requires.sound.places
    (c.in_default.ensures s.tables c.requires.sound.places)

pub buy_all_but_last-requires : goal.buy_all_but_last-requires
buy_all_but_last-requires g c =
    let s = stored_in g.row.N c.args.space.now in
    let known = (part-passed c.args.layout.now (commands.NewOrder c.args.order.now) c.requires.part).known in
    let begun = part-begun c.args.layout.now (subst IsLoad c.load.ensures c.sound.ensures)
    c.know_places.ensures.warehouse c.args.order.now c.requires.part c.requires.home editions.Second c.in-Some.place s
    c.in-Some.ensures c.requires.sound c.requires.small in
    (lit< tt, (lit< tt, (c.requires.writable, (known, (editions.Second, s.tables, begun)))))

pub buy_known-requires : goal.buy_known-requires
buy_known-requires g c =
    let s = stored_in g.row.N c.args.space.now in
    let layout = c.args.layout.now in
    let known = (part-passed layout (commands.NewOrder c.args.order.now) c.requires.part).known in
    let done = c.in_ok-buy_all_but_last.ensures.done in
    let next : c.len.result < length c.args.order.now.lines + 1 = omega (arith, c.len.ensures.count) in
    let now = part-reached layout (subst IsLoad c.load.ensures c.sound.ensures) c.know_places.ensures.warehouse
    c.args.order.now c.requires.part c.requires.home editions.Second c.in-Some.place c.len.result s
    (stored_in g.row.N c.buy_all_but_last.new.space) c.in-Some.ensures c.requires.sound c.requires.small
    c.len.ensures.count done.step in
    let writable : IsWritableStore g.row.N c.buy_all_but_last.new.space c.buy_all_but_last.new.undo = record {
      store = done.store;
      undo_log = c.in_ok-buy_all_but_last.ensures.writes.undoes.undo_log;
    } in
    (lit< tt, (lit< tt, (writable, (next, (known, (editions.Second, s.tables, now))))))

pub returns-clause-done : goal.returns-clause-done
returns-clause-done g c =
    let s = stored_in g.row.N c.args.space.now in
    let layout = c.args.layout.now in
    let load = subst IsLoad c.load.ensures c.sound.ensures in
    on_ok-then c.buy_known.result
    (λ done. record {
      store = done.store;
      step = λ edition.
          let now = part-reached layout load c.know_places.ensures.warehouse c.args.order.now c.requires.part
          c.requires.home edition c.in-Some.place c.len.result s (stored_in g.row.N c.buy_all_but_last.new.space)
          c.in-Some.ensures c.requires.sound c.requires.small c.len.ensures.count c.in_ok-buy_all_but_last.ensures.done.step in
          part-bought layout load c.know_places.ensures.warehouse c.args.order.now c.requires.part c.requires.home
          edition c.in-Some.place c.len.result s (stored_in g.row.N c.buy_known.new.space) c.len.ensures.count
          (done.step edition s.tables now);
    }) c.buy_known.ensures.done

pub returns-clause-reply : goal.returns-clause-reply
returns-clause-reply g c =
    let s = stored_in g.row.N c.args.space.now in
    let layout = c.args.layout.now in
    let load = subst IsLoad c.load.ensures c.sound.ensures in
    if_ok-then c.buy_known.result
    {P = λ reply. (edition : Edition) (before : Tables)
    → HasDone layout edition (commands.NewOrder c.args.order.now) c.in-Some.place c.len.result before
    (stored_in g.row.N c.buy_all_but_last.new.space)
    → reply ≡ answer_of layout edition (commands.NewOrder c.args.order.now) c.len.result before}
    (λ reply answers edition.
    let now = part-reached layout load c.know_places.ensures.warehouse c.args.order.now c.requires.part
    c.requires.home edition c.in-Some.place c.len.result s (stored_in g.row.N c.buy_all_but_last.new.space)
    c.in-Some.ensures c.requires.sound c.requires.small c.len.ensures.count c.in_ok-buy_all_but_last.ensures.done.step in
    part-answers layout load c.know_places.ensures.warehouse c.args.order.now c.requires.part c.requires.home edition
    c.len.result s.tables reply c.len.ensures.count (answers edition s.tables now)) c.buy_known.ensures.reply
