-- Why a partition isn't made.
use Rattle.std.proofs.Common.{◌≡◌, ◌≤◌, ℕ, [], drop, None, Result, Err, inl, inr, refl, sym, ap, ◌∙◌, subst, arith, true≢false}
use Rattle.std.proofs.lemmas.Int.{ints}
use Rattle.std.specs.Prelude.{length}
use Rattle.std.specs.List.{list_all}
use Rattle.std.proofs.lemmas.List.{drop_all}
use Rattle.hy_worlds.specs.Origins.{Origin, replayed_of}
use Rattle.hy_frames.specs.declared.errors.Shortage.{Shortage}
use Rattle.hy_frames.specs.declared.errors.Shortage.TheVariants as shortages
use Rattle.hy_rows.specs.Tables.{Lists}
use Rattle.hy_layout.specs.Layout.{LayoutState, own_rows}
use Rattle.hy_tpcc.specs.Shortages.{refusal_of_shortage}
use Rattle.hy_fill.specs.Frames.{frames_for}
use Rattle.hy_rows.specs.Ranges.{IsBetween}
use Rattle.hy_passes.specs.Worlds.{KeptState}
use Rattle.hy_ledger.specs.Books.{BookState, new_book}
use Rattle.hy_tickets.specs.Desks.{DeskState, is_out}
use Rattle.hy_commands.specs.declared.command.Commit.{Commit}
use Rattle.hy_space.specs.Space.{SpaceState}
use Rattle.hy_undo.specs.UndoLog.{UndoLog}
use Rattle.hy_tpcc.specs.Executor.{ExecutorState}
use Rattle.hy_commands.specs.Replay.{rows_after}
use Rattle.hy_partition.specs.Accounts.{home_commits, taken_in}
use Rattle.hy_partition.specs.Limits.{IsWhyUnmade, most_kept}
use Rattle.hy_partition.specs.Partition.{PartitionState, is_new, may_be_kept, projection_of}
use Rattle.hy_partition.specs.Steps.{Begins}
use Rattle.hy_partition.specs.inside.Soundness.{IsLaid, IsSound, IsTied}
use Rattle.hy_partition.proofs.SoundLaws.{sound-new}

-- what the pages lack is why
pub why_unmade : {Space : Type 0} (n : ℕ) (lists : Lists) (number frames : ℕ) (layout : LayoutState) (filled : Result Space Shortage) (shortage : Shortage)
    → layout ≡ record { load = lists; warehouse = number } → filled ≡ Err shortage
    → (filled ≡ Err shortages.NoFrame → frames ≤ frames_for n (own_rows layout))
    → IsWhyUnmade n lists number frames (refusal_of_shortage shortage)
why_unmade n lists number frames layout filled shortages.NoMemory is failed bound = inr refl
why_unmade n lists number frames layout filled shortages.NoFrame is failed bound =
    inl (refl, subst (λ (l : LayoutState). frames ≤ frames_for n (own_rows l)) is (bound failed))

-- a partition whose rows were laid on pages, with nothing told and nothing kept
module _ (n : ℕ) (lists : Lists) (number frames most replayed : ℕ) (executor : ExecutorState) (space : SpaceState) (undo : UndoLog)
    (laid : IsLaid n lists number frames executor space undo) (list : KeptState Commit) (desk : DeskState) (book : BookState)
    (list_of : list.warehouse ≡ number) (untold : list.seen ≡ []) (desk_is : desk ≡ record { warehouse = number; out = [] })
    (book_is : book ≡ new_book number) where
  abbrev pub made : PartitionState
  made = record {
    load = executor.layout.load;
    warehouse = executor.layout.warehouse;
    max_kept = most;
    replayed = replayed;
    seen = list.seen;
    kept = projection_of list.warehouse list.seen;
    book = book;
    running = None;
    part = None;
    undo = undo;
    finished = None;
    space = space;
    snapshots = [];
  }

  none_kept : projection_of list.warehouse list.seen ≡ []
  none_kept = ap (projection_of list.warehouse) untold

  load_is : executor.layout.load ≡ lists
  load_is = ap (λ l. l.load) laid.layout

  number_is : executor.layout.warehouse ≡ number
  number_is = ap (λ l. l.warehouse) laid.layout

  pub sound-made : (room : ℕ) → most ≤ most_kept → IsBetween 1 (length lists.tables.warehouses) number
      → IsSound n room executor made
  sound-made room limit between =
      sound-new n room executor made none_kept refl refl laid.nothing laid.undo_log refl laid.children limit
      (rw load_is laid.load) (rw (load_is, number_is) between) refl
      (rw (load_is, number_is) laid.store)

  pub tied-made : (world : Lists) (kit : Origin) → lists ≡ world → replayed ≡ replayed_of kit number
      → IsTied world kit list desk made
  tied-made world kit same from = record {
    load_is = load_is ∙ same;
    list_of = list_of ∙ sym number_is;
    desk_of = ap (λ (d : DeskState). d.warehouse) desk_is ∙ sym number_is;
    tickets = λ child out. absurd (true≢false (sym out ∙ ap (λ (d : DeskState). is_out d.out child) desk_is));
    replayed_is = from ∙ ap (replayed_of kit) (sym number_is);
    new = ap (λ commits. list_all is_new (drop replayed commits)) none_kept ∙ ap (list_all is_new) (drop_all replayed [] (omega arith));
    known = ap (list_all (may_be_kept executor.layout.load executor.layout.warehouse)) none_kept;
    book = record {
      warehouse_is = ap (λ (b : BookState). b.warehouse) book_is ∙ sym number_is;
      commits_are = ap (λ (b : BookState). b.commits) book_is
          ∙ sym (ap (λ commits. length (home_commits executor.layout.warehouse commits)) none_kept);
      cents_are = ap (λ commits. taken_in (rows_after executor.layout.load executor.layout.warehouse commits)) none_kept
          ∙ omega (arith, ints, ap (λ (b : BookState). b.cents) book_is);
    };
  }

  pub begins-made : Begins lists number frames most made
  begins-made = record {
    terms = ap (λ l. record { load = l.load; warehouse = l.warehouse; max_kept = most; replayed = replayed }) laid.layout;
    seen = untold;
    kept = none_kept;
    book = book_is;
    running = refl;
    part = refl;
    undo = laid.nothing;
    finished = refl;
    max_frames = laid.max_frames;
    snapshots = λ child. refl;
  }
