-- The new place is the end of the list, of which the journal has the counts.
use Rattle.std.proofs.Common.{◌≡◌, ◌≤◌, ◌<◌, ◌+◌, ℕ, List, length, take, ap, sym, subst, ◌∙◌, arith}
use Rattle.std.proofs.Math.Seq.{take-length}
use mathlib.Core.List.{IsPrefix}
use Rattle.hy_worlds.specs.Origins.{replayed_of}
use Rattle.hy_passes.specs.declared.entry.Entry.{Entry}
use Rattle.hy_passes.specs.Inside.{IsPassed}
use Rattle.hy_passes.specs.SerialList.{kept_of}
use Rattle.hy_passes.proofs.AgreementLaws.{kept-begins}
use Rattle.hy_passes.proofs.Beginnings.{begins_shorter, begins_taken, begins_through}
use Rattle.hy_passes.proofs.cursor.Cursor.advance.Goals as goal

pub returns-clause-begins : goal.returns-clause-begins
returns-clause-begins g c =
    let seen = c.self.inside.pass.seen in
    let log = c.args.journal.now.list.log in
    subst (λ (front : List (Entry g.row.C.Denot)). IsPrefix front log) c.self.view_is
    (begins_through (take c.self.inside.size seen) seen log (begins_taken c.self.inside.size seen)
    c.tell_client.ensures.begins)

pub invariant_of-self : goal.invariant_of-self
invariant_of-self g c =
    let warehouses = g.C.Commits.warehouses in
    let kit = g.K.World.passes in
    let seen = c.self.inside.pass.seen in
    let front = take c.self.inside.size seen in
    let log = c.tell_client.new.self.list.log in
    let news = c.tell_client.new.pass.seen in
    let known = c.known-self-inside.ensures in
    let whole : take c.known-self-inside.result news ≡ log =
    ap (λ n. take n news) known ∙ take-length news ∙ c.tell_client.ensures.seen ∙ sym c.tell_client.ensures.log in
    let old : IsPassed warehouses kit front c.self.inside.counts.items = c.self.invariant.1 in
    let begins : IsPrefix front log =
    subst (λ (l : List (Entry g.row.C.Denot)). IsPrefix front l) (sym c.tell_client.ensures.log)
    (begins_through front seen c.args.journal.now.list.log (begins_taken c.self.inside.size seen)
    c.tell_client.ensures.begins) in
    let counted : IsPassed warehouses kit log c.counts.result.now = record {
      places = c.counts.ensures.places;
      counted = c.counts.ensures.counted;
      replayed = λ k within.
          let there : k < length c.self.inside.counts.items = omega (arith, within, c.counts.ensures.places, old.places) in
          omega (
            arith,
            old.replayed k there,
            old.counted k there,
            c.counts.ensures.counted k within,
            begins_shorter (kept_of warehouses (k + 1) front) (kept_of warehouses (k + 1) log)
                (kept-begins warehouses front log (k + 1) begins),
          );
    } in (
      omega (arith, known),
      subst (λ (l : List (Entry g.row.C.Denot)). IsPassed warehouses kit l c.copy_from_slice.new.self.items) (sym whole)
          (subst (λ (rows : List ℕ). IsPassed warehouses kit log rows) (sym c.copy_from_slice.ensures.items) counted),
    )
