use Rattle.hy_hyper_input.proofs.HearsLaws.{hears-failed, hears-filled, hears-first, hears-taken, hears-then}
use Rattle.hy_hyper_input.proofs.theorem.input_says_more_and_more.Goals as goal

pub returns : goal.returns
returns c = record { first = hears-first; takes = hears-taken; fills = hears-filled; fails = hears-failed; next = hears-then }
