use Rattle.hy_batches.proofs.writing.write_batch.Goals as goal

pub returns : goal.returns
returns g c = rw (c.edition.ensures, c.lists.ensures) at c.write_lists.ensures
