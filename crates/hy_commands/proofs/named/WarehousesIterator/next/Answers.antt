-- The number at a place is the first of those that are left, unless it stood before.
use Rattle.std.proofs.Common.{◌∷◌, ◌∙◌, ◌+◌, ap, arith, cond, length, sym}
use Rattle.std.proofs.lemmas.Option.{slice_get_within}
use Rattle.hy_commands.specs.inside.Named.{named_from, numbers_in}
use Rattle.hy_commands.proofs.FirstLaws.{named-end, named-more}
use Rattle.hy_commands.proofs.named.WarehousesIterator.next.Goals as goal

pub overflow_add-self : goal.overflow_add-self
overflow_add-self c = let few = c.in-Some.ensures.few in omega (arith, few)

pub returns-then-not-has_before-clause-steps : goal.returns-then-not-has_before-clause-steps
returns-then-not-has_before-clause-steps c =
    let command = c.loop-number.self-inside.command.now in
    let later = named_from command (c.loop-number.self-inside.place + 1) in
    sym c.loop-number.invariant
    ∙ named-more command c.loop-number.self-inside.place c.in-Some.number (sym c.number_at.ensures.number ∙ c.in-Some.is)
    ∙ ap (λ b. cond b later (c.in-Some.number ∷ later)) (sym c.has_before.ensures ∙ c.if-not-has_before.true)

pub returns-then-not-has_before-clause-goes : goal.returns-then-not-has_before-clause-goes
returns-then-not-has_before-clause-goes c =
    let whole = ap length (returns-then-not-has_before-clause-steps c) in
    record { on = λ finite. (tt, tt, omega (arith, whole)); keeps = tt; rests = λ finite. tt }

pub loop-number-smaller : goal.loop-number-smaller
loop-number-smaller c =
    let within = slice_get_within (numbers_in c.loop-number.self-inside.command.now) c.loop-number.self-inside.place
    c.in-Some.number (sym c.number_at.ensures.number ∙ c.in-Some.is) in
    omega (arith, within)

pub loop-number-preserved : goal.loop-number-preserved
loop-number-preserved c =
    let command = c.loop-number.self-inside.command.now in
    let later = named_from command (c.loop-number.self-inside.place + 1) in
    sym (named-more command c.loop-number.self-inside.place c.in-Some.number (sym c.number_at.ensures.number ∙ c.in-Some.is)
    ∙ ap (λ b. cond b later (c.in-Some.number ∷ later)) (sym c.has_before.ensures ∙ c.if-not-has_before.false))
    ∙ c.loop-number.invariant

pub returns-clause-steps : goal.returns-clause-steps
returns-clause-steps c =
    let none = named-end c.loop-number.self-inside.command.now c.loop-number.self-inside.place
    (sym c.number_at.ensures.number ∙ c.in_default.is) in
    (sym c.loop-number.invariant ∙ none, none)
