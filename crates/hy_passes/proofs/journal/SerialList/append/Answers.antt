use Rattle.std.proofs.Common.{arith, ap, sym, subst, ◌≡◌, ℕ, ◌<◌, ◌≤◌, true, length, [], ◌∷◌, ◌++◌}
use Rattle.hy_passes.specs.SerialList.{kept_of, max_commits, names, number_after}
use Rattle.hy_passes.proofs.SerialLaws.{crossings-room, counts-more, size-room}
use Rattle.hy_passes.proofs.journal.SerialList.append.Goals as goal

pub append-requires-clause-room : goal.append-requires-clause-room
append-requires-clause-room g c = let r = size-room g.C.Commits.warehouses g.C.Commits.number c.self.invariant in omega arith

pub overflow_add-self : goal.overflow_add-self
overflow_add-self g c = let r = size-room g.C.Commits.warehouses g.C.Commits.number c.self.invariant in omega arith

pub crossings_with-self-inside-requires : goal.crossings_with-self-inside-requires
crossings_with-self-inside-requires g c = let r = crossings-room g.C.Commits.warehouses g.C.Commits.number c.self.invariant in omega arith

pub invariant_of-self : goal.invariant_of-self
invariant_of-self g c =
    let W = g.C.Commits.warehouses in
    let N = g.C.Commits.number in
    let entry = c.args.entry.now in
    let is = sym c.self.view_is in
    let log : c.append.new.journal.me.0.mine.seen ≡ c.self.inside.seat.me.0.mine.seen ++ entry ∷ [] = ap (λ m. m.0.mine.seen) c.append.ensures.appended in
    rw (c.append.ensures.place.0, c.append.ensures.place.1, log)
    (counts-more W N c.self.invariant entry c.crossings_with-self-inside.result c.count.new.counts.items c.requires.named
    (subst (λ h. N entry.commit ≡ number_after W N h.log entry.commit) is c.requires.numbered)
    (subst (λ h. entry.stamp ≤ length h.log) is c.requires.stamped)
    (subst (λ h. (w : ℕ) → names W w entry.commit ≡ true → length (kept_of W w h.log) < max_commits) is c.requires.room)
    c.crossings_with-self-inside.ensures c.count.ensures.same c.count.ensures.counted)
