use Rattle.std.proofs.Common.{◌<◌, ◌∷◌, [], List, cond, length, filter, Bool, ◌≡◌, ℕ, ◌+◌, ◌++◌, sym, ap, ◌∙◌, subst, arith, append-nil}
use Rattle.std.specs.List.{range_with_len}
use Rattle.arrayvec.specs.ArrayVec.{ArrayVec}
use Rattle.hy_commands.specs.Commands.{is_named_at}
use Rattle.hy_crossing.proofs.WalkLaws.{passing-few, passing-more}
use Rattle.hy_crossing.proofs.named.NamedPlaces.of.Goals as goal
use Rattle.hy_crossing.proofs.named.NamedPlaces.of.Goals.{then-named-place, else-named-place}

pub push-requires : goal.push-requires
push-requires c =
    let few = passing-few (is_named_at c.args.command.now) 0 c.loop-place.place in
    let room : length c.loop-place.list.items < 16 =
    omega (arith, few, ap length c.loop-place.invariant, c.loop-place-test.true) in
    (omega arith, room)

pub loop-place-preserved : goal.loop-place-preserved
loop-place-preserved c =
    let place : ℕ = c.loop-place.place in
    let test : ℕ → Bool = is_named_at c.args.command.now in
    let before : List ℕ = filter test (range_with_len 0 place) in
    let same : 0 + place ≡ place = omega arith in
    let more : filter test (range_with_len 0 (place + 1)) ≡ before ++ cond (test place) (place ∷ []) [] =
    subst (λ n. filter test (range_with_len 0 (place + 1)) ≡ before ++ cond (test n) (n ∷ []) []) same
    (passing-more test 0 place) in
    let is = c.named_places-named.ensures place c.loop-place-test.true in
    elim c.if-named-place.branch [
      | then-named-place w ↦
          ap (λ (list : ArrayVec ℕ). list.items) w.list-is ∙ w.push.ensures.items ∙ ap (λ (rows : List ℕ). rows ++ place ∷ []) c.loop-place.invariant
          ∙ ap (λ b. before ++ cond b (place ∷ []) []) (sym w.if-named-place.true ∙ is) ∙ sym more
      | else-named-place w ↦
          ap (λ (list : ArrayVec ℕ). list.items) w.list-is ∙ c.loop-place.invariant ∙ sym (append-nil before)
          ∙ ap (λ b. before ++ cond b (place ∷ []) []) (sym w.if-named-place.false ∙ is) ∙ sym more
    ]
