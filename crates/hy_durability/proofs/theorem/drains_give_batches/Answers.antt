-- What is drained is the batch of the model.
use Rattle.hy_durability.proofs.TieLaws.{drained-are}
use Rattle.hy_durability.proofs.theorem.drains_give_batches.Goals as goal

pub returns : goal.returns
returns c = λ n log seen parts whole is drained. drained-are n log seen parts whole is drained
