use Rattle.std.proofs.Common.{◌≢◌, ℕ, ◌-◌, ◌<◌, List, length, refl, ap, ◌∙◌, subst, sym, inl, inr, arith}
use Rattle.std.proofs.lemmas.Bool.{false≢true}
use Rattle.std.proofs.lemmas.Result.{IfOk-weaker}
use Rattle.hy_space.specs.Space.{HasPage}
use Rattle.hy_trees.specs.Nodes.{capacity, least_items, node_at}
use Rattle.hy_nodes.specs.Nodes.{item_count}
use Rattle.hy_nodes.specs.Pages.{nodes_in, page_in}
use Rattle.hy_nodes.specs.Places.{AreRising, HasItems, IsChildPlace}
use Rattle.hy_nodes.specs.Ways.{KeepsEntries, LeadsTo}
use Rattle.hy_nodes.proofs.ReachLaws.{reached-fits, reached-page, reached-rising, reached-some}
use Rattle.hy_splits.specs.Splits.{SplitsChild}
use Rattle.hy_splits.proofs.WayLaws.{HasFewFree-none, KeepsPages-grown, grows-pages, way-down, way-fits, way-full, way-half, way-keeps, way-page, way-room, way-small}
use Rattle.hy_splits.proofs.next_page.Goals as goal

pub page-requires : goal.page-requires
page-requires g c = (omega arith, reached-page g.row.N c.args.space.now c.args.tree c.args.key.now c.requires.there c.sound.ensures c.requires.tree c.args.depth c.args.page c.requires.leads)

pub child_place-place-requires-clause-some : goal.child_place-place-requires-clause-some
child_place-place-requires-clause-some g c =
    reached-some g.row.N c.args.space.now c.args.tree c.args.key.now c.requires.there c.sound.ensures c.requires.tree c.args.depth c.args.page c.requires.leads c.page.result.now c.page.ensures.bytes c.requires.inner

pub child_place-place-requires-clause-within : goal.child_place-place-requires-clause-within
child_place-place-requires-clause-within g c =
    subst (λ (width : ℕ). HasItems width c.page.result.now) (sym c.requires.key)
    (reached-fits g.row.N c.args.space.now c.args.tree c.args.key.now c.requires.there c.sound.ensures c.requires.tree c.args.depth c.args.page c.requires.leads c.page.result.now c.page.ensures.bytes c.page.ensures.size)

pub child_place-place-requires-clause-rising : goal.child_place-place-requires-clause-rising
child_place-place-requires-clause-rising g c =
    subst (λ (width : ℕ). AreRising width c.page.result.now (item_count c.page.result.now)) (sym c.requires.key)
    (reached-rising g.row.N c.args.space.now c.args.tree c.args.key.now c.requires.there c.sound.ensures c.requires.tree c.args.depth c.args.page c.requires.leads c.page.result.now c.page.ensures.bytes)

pub child-child-requires : goal.child-child-requires
child-child-requires g c =
    let space = c.args.space.now in
    let tree = c.args.tree in
    let key = c.args.key.now in
    let place = c.child_place-place.result in
    let at = subst (λ (bytes : List ℕ). IsChildPlace tree.key_bytes bytes key place) c.page.ensures.bytes
    (subst (λ (width : ℕ). IsChildPlace width c.page.result.now key place) c.requires.key c.child_place-place.ensures) in
    let there = reached-page g.row.N space tree key c.requires.there c.sound.ensures c.requires.tree c.args.depth c.args.page c.requires.leads in
    let fits = reached-fits g.row.N space tree key c.requires.there c.sound.ensures c.requires.tree c.args.depth c.args.page c.requires.leads (page_in space tree c.args.page) refl (sym (ap length c.page.ensures.bytes) ∙ c.page.ensures.size) in
    let size = ap length c.page.ensures.bytes in
    let small = way-small g.row.N space tree key c.requires.there c.sound.ensures c.requires.tree c.args.depth c.args.page place c.requires.inner c.requires.leads at in
    (omega arith, (c.requires.width, (there, (at.within, (omega (arith, fits, size, c.page.ensures.size), small)))))

pub is_full-requires : goal.is_full-requires
is_full-requires g c =
    let space = c.args.space.now in
    let tree = c.args.tree in
    let key = c.args.key.now in
    let place = c.child_place-place.result in
    let at = subst (λ (bytes : List ℕ). IsChildPlace tree.key_bytes bytes key place) c.page.ensures.bytes
    (subst (λ (width : ℕ). IsChildPlace width c.page.result.now key place) c.requires.key c.child_place-place.ensures) in
    let child = subst (HasPage space tree.segment) (sym c.child-child.ensures) (way-page g.row.N space tree key c.requires.there c.sound.ensures c.requires.tree c.args.depth c.args.page place c.requires.inner c.requires.leads at) in
    (omega arith, (c.requires.width, child))

pub split_child-requires : goal.split_child-requires
split_child-requires g c =
    let space = c.args.space.now in
    let tree = c.args.tree in
    let key = c.args.key.now in
    let place = c.child_place-place.result in
    let at = subst (λ (bytes : List ℕ). IsChildPlace tree.key_bytes bytes key place) c.page.ensures.bytes
    (subst (λ (width : ℕ). IsChildPlace width c.page.result.now key place) c.requires.key c.child_place-place.ensures) in
    let full = ap (λ (q : ℕ). length (node_at (nodes_in space tree) q).items) (sym c.child-child.ensures) ∙ c.is_full.ensures.0 c.if-is_full.true in
    let child = way-full g.row.N space tree key c.requires.there c.sound.ensures c.requires.tree c.args.depth c.args.page place c.requires.inner c.requires.leads at c.requires.room full in
    (omega arith, (omega arith, (c.requires.there, (c.requires.width, (c.requires.key, (child, c.requires.undo_log))))))

pub returns-then-is_full-clause-kept : goal.returns-then-is_full-clause-kept
returns-then-is_full-clause-kept g c =
    let space = c.args.space.now in
    let tree = c.args.tree in
    let key = c.args.key.now in
    let place = c.child_place-place.result in
    let at = subst (λ (bytes : List ℕ). IsChildPlace tree.key_bytes bytes key place) c.page.ensures.bytes
    (subst (λ (width : ℕ). IsChildPlace width c.page.result.now key place) c.requires.key c.child_place-place.ensures) in
    let grows = grows-pages space c.split_child.new.space tree c.requires.there (omega (arith, c.requires.there, c.split_child.ensures.writes.segments)) c.split_child.ensures.pages c.split_child.ensures.kept in
    IfOk-weaker c.split_child.result (SplitsChild (least_items g.row.N tree.key_bytes) (capacity g.row.N tree.key_bytes) (nodes_in space tree) (nodes_in c.split_child.new.space tree) key c.args.page place) (λ half. KeepsEntries g.row.N tree space c.split_child.new.space 1)
    (λ half split. way-keeps g.row.N space tree key c.requires.there c.sound.ensures c.requires.tree c.args.depth c.args.page place c.requires.inner c.requires.leads at c.requires.room c.split_child.new.space half split grows) c.split_child.ensures.split

pub returns-then-is_full-clause-next : goal.returns-then-is_full-clause-next
returns-then-is_full-clause-next g c =
    let space = c.args.space.now in
    let tree = c.args.tree in
    let key = c.args.key.now in
    let place = c.child_place-place.result in
    let at = subst (λ (bytes : List ℕ). IsChildPlace tree.key_bytes bytes key place) c.page.ensures.bytes
    (subst (λ (width : ℕ). IsChildPlace width c.page.result.now key place) c.requires.key c.child_place-place.ensures) in
    IfOk-weaker c.split_child.result (SplitsChild (least_items g.row.N tree.key_bytes) (capacity g.row.N tree.key_bytes) (nodes_in space tree) (nodes_in c.split_child.new.space tree) key c.args.page place)
    (λ half. LeadsTo g.row.N c.split_child.new.space tree key (c.args.depth - 1) half × (length (node_at (nodes_in c.split_child.new.space tree) half).items < capacity g.row.N tree.key_bytes))
    (λ half split. (
      way-half g.row.N space tree key c.requires.there c.sound.ensures c.requires.tree c.args.depth c.args.page place c.requires.inner c.requires.leads at c.requires.room c.split_child.new.space half split,
      way-room g.row.N space tree key c.requires.there c.sound.ensures c.requires.tree c.args.depth c.args.page place c.requires.inner c.requires.leads at c.requires.room c.split_child.new.space half split,
    )) c.split_child.ensures.split

pub returns-then-is_full-clause-pages : goal.returns-then-is_full-clause-pages
returns-then-is_full-clause-pages g c =
    let space = c.args.space.now in
    let tree = c.args.tree in
    let grows = grows-pages space c.split_child.new.space tree c.requires.there (omega (arith, c.requires.there, c.split_child.ensures.writes.segments)) c.split_child.ensures.pages c.split_child.ensures.kept in
    KeepsPages-grown g.row.N space tree c.requires.tree c.split_child.new.space grows

pub returns-then-is_full-clause-wanted : goal.returns-then-is_full-clause-wanted
returns-then-is_full-clause-wanted g c failed = elim (c.split_child.ensures.wanted failed) [
  | inl child ↦ inl child
  | inr none ↦ inr (HasFewFree-none g.row.N c.args.space.now c.args.tree c.requires.tree 0 none)
]

pub returns-clause-next : goal.returns-clause-next
returns-clause-next g c =
    let space = c.args.space.now in
    let tree = c.args.tree in
    let key = c.args.key.now in
    let place = c.child_place-place.result in
    let at = subst (λ (bytes : List ℕ). IsChildPlace tree.key_bytes bytes key place) c.page.ensures.bytes
    (subst (λ (width : ℕ). IsChildPlace width c.page.result.now key place) c.requires.key c.child_place-place.ensures) in
    let not_full : length (node_at (nodes_in space tree) c.child-child.result).items ≢ capacity g.row.N tree.key_bytes = λ same. false≢true (sym c.if-is_full.false ∙ c.is_full.ensures.1 same) in
    let size = ap (λ (q : ℕ). length (node_at (nodes_in space tree) q).items) c.child-child.ensures in
    let fits = way-fits g.row.N space tree key c.requires.there c.sound.ensures c.requires.tree c.args.depth c.args.page place c.requires.inner c.requires.leads at in (
      subst (λ (q : ℕ). LeadsTo g.row.N space tree key (c.args.depth - 1) q) (sym c.child-child.ensures) (way-down g.row.N space tree key c.requires.there c.sound.ensures c.requires.tree c.args.depth c.args.page place c.requires.inner c.requires.leads at),
      omega (arith, not_full, size, fits),
    )
