use Rattle.hy_hyper_input.proofs.ReceivedLaws.{says-filled, says-taken}
use Rattle.hy_hyper_input.proofs.theorem.input_says_its_lines.Goals as goal

pub returns : goal.returns
returns c = record { takes = says-taken; fills = says-filled }
