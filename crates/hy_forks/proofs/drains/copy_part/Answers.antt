use Rattle.std.proofs.Common.{◌≡◌, ◌≤◌, true, drop, length, ap, ◌∙◌, arith}
use Rattle.hy_crossing.specs.of_partition.Limits.{most_kept}
use Rattle.hy_forks.specs.inside.Copies.{is_drained}
use Rattle.hy_forks.proofs.DrainLaws.{take-rest}
use Rattle.hy_forks.proofs.LoggedLaws.{part-drained}
use Rattle.hy_forks.proofs.ResultLaws.{ok-both}
use Rattle.hy_forks.proofs.drains.copy_part.Goals as goal

pub returns-clause-drained : goal.returns-clause-drained
returns-clause-drained g c =
    let p = c.args.part.now in
    let far : p.replayed ≤ c.args.passed = omega (arith, c.ties.ensures.replayed, c.requires.own) in
    let few : length p.kept ≤ most_kept = omega (arith, c.ties.ensures.few, c.ties.ensures.limit) in
    ok-both _ _ (λ copies. is_drained p.load p.warehouse copies.items ≡ true) c.copy_commits.result
    (λ copies is numbers. part-drained p.load p.warehouse c.args.passed p.replayed p.kept copies.items
    (is ∙ take-rest c.args.passed c.kept.result.now ∙ ap (drop c.args.passed) c.kept.ensures) numbers few far
    c.ties.ensures.known c.ties.ensures.new c.requires.numbered) c.copy_commits.ensures.copies c.copy_commits.ensures.numbers
