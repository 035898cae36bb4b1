use Rattle.std.proofs.Common.{rules, ◌≡◌, ℕ, ap, sym, ◌∙◌, subst, arith}
use Rattle.hy_rows.specs.Spelling.{used_slots}
use Rattle.hy_relation.specs.Relation.{owner_pages}
use Rattle.hy_space.specs.Space.{HasPage}
use Rattle.hy_relation.proofs.SpaceLaws.{has_page, used_small}
use Rattle.hy_relation.proofs.slots.used_of.Goals as goal

pub read-requires : goal.read-requires
read-requires g c =
    let there : HasPage c.args.space.now c.SEGMENT.result 0 =
    subst (λ (s : ℕ). HasPage c.args.space.now s 0) (sym c.SEGMENT.ensures)
    (has_page g.row.N g.R.Row.SEGMENT c.args.space.now c.sound.ensures c.requires.first 0 c.requires.first) in
    (search rules, (there, (omega (arith, c.sound.ensures.size.smallest), search rules)))

pub returns-clause-small : goal.returns-clause-small
returns-clause-small g c =
    let small = used_small g.row.N g.R.Row.SEGMENT c.args.space.now c.sound.ensures c.requires.first g.R.Row.BYTES c.requires in
    let value : c.read.result ≡ used_slots (owner_pages c.args.space.now g.R.Row.SEGMENT) = c.read.ensures.value ∙ ap (λ (s : ℕ). used_slots (owner_pages c.args.space.now s)) c.SEGMENT.ensures in
    omega (arith, small, value)
