use Rattle.std.proofs.Common.{◌≡◌, ◌<◌, ℕ, List, length, sym, subst}
use Rattle.hy_space.specs.Space.{SpaceState, GrowsPage, page_count}
use Rattle.hy_space.proofs.SpaceLaws.{grown_page}
use Rattle.hy_space.proofs.space.Space.grow.Goals as goal

-- the new page stands behind all pages
pub returns-clause-grows : goal.returns-clause-grows
returns-clause-grows g c =
    let s : SpaceState = record { owner = c.self.inside.owner; children = c.self.inside.children.items; frames = c.self.inside.frames } in
    let is : s ≡ c.args.self.now = c.self.view_is in
    let segment = c.args.segment in
    let after = λ (owner : List (List ℕ)). let new : SpaceState = record { owner = owner; children = s.children; frames = c.grow.new.frames } in new in
    let there = subst (λ now. segment < length now.owner) (sym is) c.requires in
    let done = grown_page g.row.N s c.self.invariant segment c.in_ok-grow.field-0 c.grow.new.frames there c.in_ok-grow.ensures.takes in
    let put = subst (λ owner. GrowsPage g.row.N s (after owner) segment (page_count s segment)) (sym c.in_ok-grow.ensures.pushed) done in
    let now = subst (λ now. GrowsPage g.row.N now (after c.grow.new.self) segment (page_count now segment)) is put in
    subst (λ n. GrowsPage g.row.N c.args.self.now (after c.grow.new.self) segment n) (sym c.pages-page.ensures) now
