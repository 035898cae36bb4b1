-- What was due is written before more is drained.
use Rattle.std.proofs.Common.{◌≡◌, Result, Ok, Err, ap, sym, subst}
use Rattle.std.specs.Prelude.{IsErrAnd}
use Rattle.hy_schema.specs.declared.refusal.Refusal.{Refusal}
use Rattle.hy_redo_drains.specs.Following.{DrainState, WritesDue}
use Rattle.hy_engine.specs.Engines.{drained, undrained}
use Rattle.hy_engine.proofs.engine.Engine.drain_into.Goals as goal

-- the error that an answer has
is-error : (answer : Result (Unit {0}) Refusal) (why : Refusal) → IsErrAnd answer (λ error. error ≡ why)
    → answer ≡ Err why
is-error (Ok value) why is = absurd is
is-error (Err error) why is = ap Err is

pub returns-in_err-drain_all-clause-drains : goal.returns-in_err-drain_all-clause-drains
returns-in_err-drain_all-clause-drains g c =
    let why = c.in_err-drain_all.field-0.0 in
    let old = c.args.log.now in
    let written : WritesDue old c.write.new.self (Ok tt) =
    subst (λ (answer : Result (Unit {0}) Refusal). WritesDue old c.write.new.self answer) c.in_ok-write.was
    c.write.ensures in
    undrained why
    (subst (λ (now : DrainState). WritesDue old now (Ok tt)) (sym c.in_err-drain_all.ensures.err) written)
    (is-error _ why c.from_residual-in_err-drain_all.ensures.1) c.in_err-drain_all.ensures.refused

pub returns-clause-drains : goal.returns-clause-drains
returns-clause-drains g c =
    let old = c.args.log.now in
    let written : WritesDue old c.write.new.self (Ok tt) =
    subst (λ (answer : Result (Unit {0}) Refusal). WritesDue old c.write.new.self answer) c.in_ok-write.was
    c.write.ensures in
    drained c.write.new.self c.drain_all.new.log written c.in_ok-drain_all.ensures.drained c.write-2.ensures
