use Rattle.std.proofs.Common.{rules, ◌≡◌, ℤ, Result, Err, IfErr, inl, inr, ap, sym, subst}
use Rattle.std.proofs.lemmas.Bool.{false≢true}
use Rattle.hy_schema.specs.declared.refusal.Refusal.{Refusal}
use Rattle.hy_program.specs.First.{IsFirstRefusal}
use Rattle.hy_program.proofs.FirstLaws.{other_case}
use Rattle.hy_program.proofs.first.first.Goals as goal

-- the sizes are in range, so that a load is refused for want of memory
pub returns-in_err-load-clause-refused : goal.returns-in_err-load-clause-refused
returns-in_err-load-clause-refused c =
    let is : c.from_residual.result ≡ Err c.in_err-load.field-0.0 = search rules in
    subst (λ (r : Result ℤ Refusal). IfErr r (IsFirstRefusal c.args.amount)) (sym is)
    (inr (inl (other_case c.in_err-load.ensures.refused (λ out. false≢true (sym (c.in_err-load.ensures.out_of_range.0 (ap Err out)))))))
