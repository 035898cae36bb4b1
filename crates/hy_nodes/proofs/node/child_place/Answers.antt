use Rattle.std.proofs.Common.{◌≡◌, ℕ, ◌+◌, ◌-◌, Bool, false, subst, length, arith}
use Rattle.hy_nodes.specs.Places.{IsSought}
use Rattle.hy_nodes.proofs.PlaceLaws.{IsChildPlace-before, IsChildPlace-first, IsChildPlace-there}
use Rattle.hy_nodes.proofs.node.child_place.Goals as goal

pub returns-then-at : goal.returns-then-at
returns-then-at c =
    IsChildPlace-there (length c.args.sought.now) c.args.page.now c.args.sought.now c.requires.rising c.seek-at.result.place
    (subst (λ (b : Bool). IsSought (length c.args.sought.now) c.args.page.now c.args.sought.now c.seek-at.result.place b) c.if-at.true c.seek-at.ensures)

pub returns-then-at-eq0 : goal.returns-then-at-eq0
returns-then-at-eq0 c =
    IsChildPlace-first (length c.args.sought.now) c.args.page.now c.args.sought.now c.requires.rising c.requires.some
    (subst (λ (place : ℕ). IsSought (length c.args.sought.now) c.args.page.now c.args.sought.now place false) c.if-at-eq0.true
    (subst (λ (b : Bool). IsSought (length c.args.sought.now) c.args.page.now c.args.sought.now c.seek-at.result.place b) c.if-at.false c.seek-at.ensures))

pub returns : goal.returns
returns c =
    let place : c.seek-at.result.place ≡ c.seek-at.result.place - 1 + 1 = omega (arith, c.if-at-eq0.false) in
    IsChildPlace-before (length c.args.sought.now) c.args.page.now c.args.sought.now c.requires.rising (c.seek-at.result.place - 1)
    (subst (λ (at : ℕ). IsSought (length c.args.sought.now) c.args.page.now c.args.sought.now at false) place
    (subst (λ (b : Bool). IsSought (length c.args.sought.now) c.args.page.now c.args.sought.now c.seek-at.result.place b) c.if-at.false c.seek-at.ensures))
