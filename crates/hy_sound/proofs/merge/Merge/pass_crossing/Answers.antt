-- One list more.
use Rattle.std.proofs.Common.{◌≡◌, ◌≢◌, ◌+◌, ap, ◌∙◌, sym, subst, arith, ℕ, suc, true, false}
use Rattle.hy_batches.specs.Grammar.{names}
use Rattle.hy_sound.specs.Merges.{MergeState, count_of, left_of}
use Rattle.hy_sound.proofs.MergeLaws.{IsPassedAt, others-more, passed-more, passed-named, unnamed-stays}
use Rattle.hy_sound.proofs.merge.Merge.pass_crossing.Goals as goal
use Rattle.hy_sound.proofs.merge.Merge.pass_crossing.Goals.{then-names+else-not-goes_on, else-names}

pub loop-place-preserved : goal.loop-place-preserved
loop-place-preserved c =
    let edition = c.args.edition in
    let number = c.args.number in
    let command = c.args.command.now in
    let place = c.loop-place.place in
    let first = c.args.self.now in
    let now = c.loop-place.self in
    let new = c.if-names.self in
    let is = c.loop-place.invariant in
    let next : place + 1 ≡ suc place = omega arith in
    elim c.if-names.branch [
      | then-names+else-not-goes_on w ↦
          let said : names command (place + 1) ≡ true = sym c.names.ensures ∙ w.if-names.true in
          let named : names command (suc place) ≡ true = subst (λ n. names command n ≡ true) next said in
          let here : IsPassedAt edition number command place (left_of now place) (left_of new place) =
          subst (λ (m : MergeState). IsPassedAt edition number command place (left_of now place) (left_of m place)) (sym w.self-is)
          (passed-named edition number command place (left_of now place) (left_of w.pass.new.self place)
          named (sym w.next.ensures ∙ w.goes_on.ensures.0 w.if-not-goes_on.false)
          w.pass.ensures.here) in
          let stay : (k : ℕ) → k ≢ place → left_of new k ≡ left_of now k =
          λ k apart. ap (λ (m : MergeState). left_of m k) w.self-is ∙ w.pass.ensures.others k apart in
          record {
            count = ap count_of w.self-is ∙ w.pass.ensures.count ∙ is.count;
            passed = passed-more edition number command place first now new is.passed is.others stay here;
            others = others-more edition number command place first now new is.passed is.others stay here;
          }
      | else-names w ↦
          let said : names command (place + 1) ≡ false = sym c.names.ensures ∙ w.if-names.false in
          let other : names command (suc place) ≡ false = subst (λ n. names command n ≡ false) next said in
          let here : IsPassedAt edition number command place (left_of now place) (left_of new place) =
          subst (λ (m : MergeState). IsPassedAt edition number command place (left_of now place) (left_of m place)) (sym w.self-is)
          (unnamed-stays edition number command place (left_of now place) other) in
          let stay : (k : ℕ) → k ≢ place → left_of new k ≡ left_of now k =
          λ k apart. ap (λ (m : MergeState). left_of m k) w.self-is in
          record {
            count = ap count_of w.self-is ∙ is.count;
            passed = passed-more edition number command place first now new is.passed is.others stay here;
            others = others-more edition number command place first now new is.passed is.others stay here;
          }
    ]
