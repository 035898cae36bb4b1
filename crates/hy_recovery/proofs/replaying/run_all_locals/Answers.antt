-- One list more.
use Rattle.std.proofs.Common.{◌<◌, ◌≢◌, sym, subst, ◌∙◌, arith}
use Rattle.hy_sound.specs.Merges.{count_of, left_of}
use Rattle.hy_sound.specs.inside.Steps.{IsAtCrossing}
use Rattle.hy_sound.proofs.MergeLaws.{below-next}
use Rattle.hy_recovery.proofs.ResultLaws.{this-error}
use Rattle.hy_recovery.proofs.replaying.run_all_locals.Goals as goal

pub run_locals-requires : goal.run_locals-requires
run_locals-requires g c =
    let aim = c.requires.way.0 in
    let within : c.loop-place.place < count_of c.loop-place.merge =
    omega (arith, c.loop-place-test.true, c.loop-place.invariant.count, c.count-place-end.ensures) in
    (omega arith, (within, (aim, c.loop-place.invariant.way aim c.requires.way.1)))

pub loop-place-preserved : goal.loop-place-preserved
loop-place-preserved g c =
    let new = c.run_locals.new.merge in
    record {
      way = λ aim is. c.in_ok-pass.ensures.way aim (c.loop-place.invariant.way aim is);
      stops = below-next (λ k. IsAtCrossing (left_of new k)) c.loop-place.place
          (λ k before. let apart : k ≢ c.loop-place.place = omega arith in
          subst IsAtCrossing (sym (c.in_ok-pass.ensures.others k apart)) (c.loop-place.invariant.stops k before))
          c.in_ok-pass.ensures.stops;
      count = c.in_ok-pass.ensures.count ∙ c.loop-place.invariant.count;
      numbers = c.in_ok-pass.ensures.numbers ∙ c.loop-place.invariant.numbers;
      client = c.in_ok-pass.ensures.client ∙ c.loop-place.invariant.client;
    }

pub returns-in_err-pass-clause-refused : goal.returns-in_err-pass-clause-refused
returns-in_err-pass-clause-refused g c =
    this-error _ _ _ c.from_residual.ensures.1 (λ aim is.
    c.in_err-pass.ensures.refused aim (c.loop-place.invariant.way aim is))
