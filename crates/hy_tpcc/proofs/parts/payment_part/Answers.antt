use Rattle.hy_tpcc.proofs.parts.payment_part.Goals as goal

-- the home's part is the same in each edition
pub returns-in-Ok-clause-done : goal.returns-in-Ok-clause-done
returns-in-Ok-clause-done g c = record {
  store = c.in-Ok.ensures.done.store;
  step = c.in-Ok.ensures.done.step c.args.edition;
}
