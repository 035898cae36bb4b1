use Rattle.std.proofs.Common.{rules, ◌≡◌, ◌++◌, ◌∷◌, [], ℕ, ◌+◌, length, take, get_or, sym, ap, subst, arith, ◌∙◌}
use Rattle.std.proofs.lemmas.List.{take_more}
use Rattle.std.proofs.lemmas.Option.{slice_get-get_or}
use Rattle.hy_indexes.specs.of_index.Index.{with_entry}
use Rattle.hy_indexes.specs.of_store.Stored.{Stored}
use Rattle.hy_indexes.specs.of_store.Writes.{stored_in}
use Rattle.hy_layout.specs.Finds.{IsIn}
use Rattle.hy_fill.specs.inside.Filling.{HasSameEntries}
use Rattle.hy_fill.proofs.CountLaws.{keeps-then, length-with_entry}
use Rattle.hy_fill.proofs.EntryLaws.{in-take, same-added}
use Rattle.hy_layout.proofs.MemberLaws.{in-place}
use Rattle.hy_fill.proofs.entries.insert_entries.Goals as goal
use Rattle.hy_fill.proofs.entries.insert_entries.Given as given

-- the entries of the index afterwards
now : (g : given.Over) (c : goal.In_ok-insert_lasting g)
    → g.K.Indexed.entries_in (stored_in g.row.N c.insert_lasting.new.space)
    ≡ with_entry g.K.Key.is_less c.entry-item.result.key c.entry-item.result.slot
    (g.K.Indexed.entries_in (stored_in g.row.N c.loop-entry.space))
now g c =
    let s : Stored = stored_in g.row.N c.loop-entry.space in
    let entry = c.entry-item.result in
    ap g.K.Indexed.entries_in c.in_ok-insert_lasting.ensures.inserted.changed
    ∙ g.met.K.Filled.own_entries s (with_entry g.K.Key.is_less entry.key entry.slot (g.K.Indexed.entries_in s))

-- the index has one entry more
pub loop-entry-preserved : goal.loop-entry-preserved
loop-entry-preserved g c =
    let first : Stored = stored_in g.row.N c.args.space.now in
    let s : Stored = stored_in g.row.N c.loop-entry.space in
    let entry = c.entry-item.result in
    let entries = c.args.entries.now in
    let index : ℕ = c.loop-entry.entry-index in
    let had = g.K.Indexed.entries_in s in
    let here : IsIn entry entries =
    subst (λ e. IsIn e entries) (sym c.entry-item.is) (in-place entries index (get_or entries index entry)
    (slice_get-get_or entries index entry c.loop-entry-test.true)) in
    let given_now : take index entries ++ entry ∷ [] ≡ take (index + 1) entries =
    ap (λ e. take index entries ++ e ∷ []) c.entry-item.is ∙ sym (take_more entries index entry c.loop-entry-test.true) in
    record {
      writable = record { store = c.in_ok-insert_lasting.ensures.inserted.store; undo_log = c.in_ok-insert_lasting.ensures.undo_log };
      same = subst (λ given. HasSameEntries given (g.K.Indexed.entries_in (stored_in g.row.N c.insert_lasting.new.space)))
          given_now (subst (HasSameEntries (take index entries ++ entry ∷ [])) (sym (now g c))
          (same-added g.K.Key.is_less g.met.K.Filled.is_order entries c.requires.apart (take index entries) had entry
          (in-take index entries) here c.loop-entry.invariant.same));
      count = omega (
        arith,
        ap length (now g c),
        length-with_entry g.K.Key.is_less g.met.K.Filled.is_order entry.key entry.slot had,
        c.loop-entry.invariant.count,
      );
      only = c.in_ok-insert_lasting.ensures.inserted.changed
          ∙ ap (λ x. g.K.Indexed.with_entries x (with_entry g.K.Key.is_less entry.key entry.slot had)) c.loop-entry.invariant.only
          ∙ g.met.K.Filled.last_entries first had (with_entry g.K.Key.is_less entry.key entry.slot had)
          ∙ ap (g.K.Indexed.with_entries first) (sym (now g c));
      stays = search rules;
      pages = keeps-then g.row.N g.K.Indexed.SEGMENT (length had + 1) (length entries) c.args.space.now c.loop-entry.space c.insert_lasting.new.space
          (omega (arith, c.loop-entry.invariant.count, c.loop-entry-test.true)) c.loop-entry.invariant.pages c.insert_lasting.ensures.pages;
    }

pub returns-in_err-insert_lasting-clause-pages : goal.returns-in_err-insert_lasting-clause-pages
returns-in_err-insert_lasting-clause-pages g c =
    keeps-then g.row.N g.K.Indexed.SEGMENT (length (g.K.Indexed.entries_in (stored_in g.row.N c.loop-entry.space)) + 1) (length c.args.entries.now)
    c.args.space.now c.loop-entry.space c.insert_lasting.new.space
    (omega (arith, c.loop-entry.invariant.count, c.loop-entry-test.true)) c.loop-entry.invariant.pages c.insert_lasting.ensures.pages
