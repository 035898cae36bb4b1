-- What the file has begins the digests, or it doesn't.
use Rattle.std.proofs.Common.{drop, inr, length, subst, sym}
use Rattle.std.proofs.lemmas.Bool.Decides.{Decides-eqb}
use Rattle.std.proofs.lemmas.Slice.Eq.{starts_is}
use Rattle.hy_files_sums.specs.Sums.{Begins}
use Rattle.hy_files_sums.proofs.beside.find_sums.Goals as goal

pub returns-in-Ok-2-clause-found : goal.returns-in-Ok-2-clause-found
returns-in-Ok-2-clause-found g c =
    let is = (starts_is Decides-eqb c.args.sums.now c.deref.result.now c.starts_with.result c.starts_with.ensures.value).0 in
    inr (
      c.in-Ok.found.items,
      c.in-Ok.ensures.bytes,
      subst (λ found. Begins found c.args.sums.now) c.deref.ensures.value
          (drop (length c.deref.result.now) c.args.sums.now, is c.if-starts_with.true),
    )

pub returns-in-Ok-3-clause-found : goal.returns-in-Ok-3-clause-found
returns-in-Ok-3-clause-found g c = (
  c.in-Ok.found.items,
  c.in-Ok.ensures.bytes,
  λ begins.
      let is = (starts_is Decides-eqb c.args.sums.now c.deref.result.now c.starts_with.result c.starts_with.ensures.value).1 in
      let here = subst (λ found. Begins found c.args.sums.now) (sym c.deref.ensures.value) begins in
      absurd (cc (is here.0 here.1, c.if-starts_with.false)),
)
