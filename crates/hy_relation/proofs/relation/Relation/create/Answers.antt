use Rattle.std.proofs.Common.{◌≡◌, ℕ, List, [], ◌∷◌, ◌++◌, length, replicate, sym, ap, ◌∙◌, subst, arith}
use Rattle.std.proofs.lemmas.List.{length-map, nil_from_length}
use Rattle.hy_rows.specs.Spelling.{HasSlots, list_at, slots_of}
use Rattle.hy_space.specs.Space.{owner_bytes, with_new_page}
use Rattle.hy_undo.proofs.PrivatePageLaws.{length-segment-owner_bytes}
use Rattle.hy_relation.specs.Relation.{owner_pages}
use Rattle.hy_relation.proofs.RelationLaws.{has_slots-zeros, slots_of-zeros}
use Rattle.hy_relation.proofs.SpaceLaws.{segment-set}
use Rattle.hy_relation.proofs.relation.Relation.create.Goals as goal
use Rattle.hy_relation.proofs.relation.Relation.create.Given as given

-- the segment has a page of zeros
after : (g : given.Over) (c : goal.In_ok-grow g) → owner_pages c.grow.new.space g.R.Row.SEGMENT ≡ replicate g.row.N 0 ∷ []
after g c =
    let old : List (List (List ℕ)) = owner_bytes c.args.space.now in
    let segment : ℕ = g.R.Row.SEGMENT in
    let none : list_at old segment ≡ [] = nil_from_length (list_at old segment) (length-segment-owner_bytes c.args.space.now segment ∙ c.requires.empty) in
    ap (λ (bytes : List (List (List ℕ))). list_at bytes segment) (c.in_ok-grow.ensures.grows.bytes ∙ ap (λ (s : ℕ). with_new_page old s (replicate g.row.N 0)) c.SEGMENT.ensures)
    ∙ segment-set old segment _ (omega (arith, c.requires.there, length-map {A = List ℕ} {B = List (List ℕ)} c.args.space.now.owner))
    ∙ ap (λ (pages : List (List ℕ)). pages ++ replicate g.row.N 0 ∷ []) none

pub returns-clause-slots : goal.returns-clause-slots
returns-clause-slots g c =
    subst (λ (pages : List (List ℕ)). HasSlots g.row.N g.R.Row.BYTES pages) (sym (after g c))
    (has_slots-zeros g.row.N g.R.Row.BYTES g.R.Row.row_of_bytes (omega (arith, c.sound.ensures.size.smallest)))

pub returns-clause-empty : goal.returns-clause-empty
returns-clause-empty g c =
    ap (λ (pages : List (List ℕ)). slots_of g.row.N g.R.Row.BYTES g.R.Row.row_of_bytes pages) (after g c)
    ∙ slots_of-zeros g.row.N g.R.Row.BYTES g.R.Row.row_of_bytes (omega (arith, c.sound.ensures.size.smallest))

-- it is the only page
pub returns-clause-pages : goal.returns-clause-pages
returns-clause-pages g c = ap length (after g c)

pub returns-clause-few : goal.returns-clause-few
returns-clause-few g c =
    let one : length (owner_pages c.grow.new.space g.R.Row.SEGMENT) ≡ 1 = ap length (after g c) in
    omega (arith, one)
