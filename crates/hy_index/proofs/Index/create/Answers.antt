use Rattle.std.proofs.Common.{◌≡◌, ℕ, List, [], ◌∷◌, ◌++◌, length, replicate, ap, refl, subst, ◌∙◌, arith}
use Rattle.hy_space.specs.Space.{GrowsPage}
use Rattle.hy_joins.specs.of_nodes.Writes.{pages_of}
use Rattle.hy_joins.proofs.of_nodes.SpaceLaws.{length-pages_of}
use Rattle.hy_joins.proofs.of_nodes.WriteLaws.{pages-grown}
use Rattle.hy_index.proofs.IndexLaws.{empty-entries, empty-index}
use Rattle.hy_index.proofs.Index.create.Goals as goal
use Rattle.hy_index.proofs.Index.create.Given as given

no_page : (pages : List (List ℕ)) → length pages ≡ 0 → pages ≡ []
no_page [] none = refl
no_page (page ∷ pages) none = absurd (omega arith)

-- the only page
pages : (g : given.Over) (c : goal.In_ok-grow g) → pages_of c.grow.new.space c.args.self.now ≡ replicate g.row.N 0 ∷ []
pages g c =
    let old = c.args.space.now in
    let grows : GrowsPage g.row.N old c.grow.new.space c.args.self.now c.in_ok-grow.field-0 = subst (λ s. GrowsPage g.row.N old c.grow.new.space s c.in_ok-grow.field-0) c.self.view_is c.in_ok-grow.ensures.grows in
    pages-grown g.row.N c.args.self.now c.in_ok-grow.field-0 old c.grow.new.space grows c.requires.there
    ∙ ap (λ (front : List (List ℕ)). front ++ replicate g.row.N 0 ∷ []) (no_page (pages_of old c.args.self.now) (length-pages_of old c.args.self.now c.requires.there ∙ c.requires.none))

pub returns-clause-index : goal.returns-clause-index
returns-clause-index g c = empty-index g.row.N g.K.Key.BYTES g.K.Key.bytes_of_key g.K.Key.key_of_bytes g.K.Key.IsKey (pages_of c.grow.new.space c.args.self.now) (omega (arith, c.sound.ensures.size.smallest)) (pages g c)

pub returns-clause-empty : goal.returns-clause-empty
returns-clause-empty g c = empty-entries g.row.N g.K.Key.BYTES g.K.Key.bytes_of_key g.K.Key.key_of_bytes g.K.Key.IsKey (pages_of c.grow.new.space c.args.self.now) (omega (arith, c.sound.ensures.size.smallest)) (pages g c)

pub returns-clause-pages : goal.returns-clause-pages
returns-clause-pages g c = ap length (pages g c)
