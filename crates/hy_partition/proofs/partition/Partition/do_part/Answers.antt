use Rattle.std.proofs.Common.{◌≡◌, ◌<◌, true, length, Option, Some, None, ap, refl, sym, ◌∙◌, subst, arith}
use Rattle.hy_passes.specs.Worlds.{KeptState}
use Rattle.hy_rows.specs.Spelling.{Spells, tables_of}
use Rattle.hy_commands.specs.declared.command.Command.{Command}
use Rattle.hy_commands.specs.declared.command.Commit.{Commit}
use Rattle.hy_commands.specs.declared.edition.Edition.{Edition}
use Rattle.hy_space.specs.Space.{owner_bytes}
use Rattle.hy_tpcc.specs.Parts.{HasPart, reply_of_part}
use Rattle.hy_partition.specs.Jobs.{RunningJob}
use Rattle.hy_partition.specs.Partition.{PartState, PartitionState, layout_of, may_run, replays, rows_now}
use Rattle.hy_partition.specs.Parts.{DoesPart, HasNoPart, reply_now, rows_with_part}
use Rattle.hy_partition.specs.Unsettled.{with_part_done}
use Rattle.hy_partition.specs.inside.Soundness.{IsSound, IsTied}
use Rattle.hy_partition.specs.inside.Views.{partition_of, with_list}
use Rattle.hy_partition.proofs.SoundLaws.{grown_for_part, rests, store_now, sound-parted, sound-undone, undone-none}
use Rattle.hy_partition.proofs.TieLaws.{tied-parted}
use Rattle.hy_partition.proofs.partition.Partition.do_part.Goals as goal

-- what is asked for
abbrev asked : Edition → Command → PartState
asked edition command = record { edition = edition; command = command }

-- it stands where it was put
put_is : {place : Option PartState} {there made part : PartState} → place ≡ Some there → place ≡ Some made → made ≡ part
    → there ≡ part
put_is is put made = cc

pub run_part-requires : goal.run_part-requires
run_part-requires g c =
    let p : PartitionState = partition_of c.self.inside in
    let idle : p.running ≡ None = ap (λ (q : PartitionState). q.running) c.self.view_is ∙ c.requires.idle.0 in
    let no_part : p.part ≡ None = ap (λ (q : PartitionState). q.part) c.self.view_is ∙ c.requires.idle.1 in
    let rest = rests g.row.N _ _ p c.self.invariant.0 idle no_part in
    let part : c.in-Some.part ≡ asked c.args.edition c.args.command =
    put_is c.in-Some.is c.put.ensures c.new.ensures in
    let has_part : HasPart (layout_of p) c.in-Some.part.command =
    subst (λ (q : PartitionState). HasPart (layout_of q) c.in-Some.part.command) (sym c.self.view_is)
    (subst (λ (k : PartState). HasPart (layout_of c.args.self.now) k.command) (sym part) c.requires.has_part) in (
      omega arith,
      (
        omega arith,
        (
          record { store = rest.pages.store; undo_log = c.self.invariant.0.undo_log },
          (
            rest.undo,
            (
              store_now g.row.N _ _ p c.self.invariant.0 idle no_part,
              (has_part, grown_for_part g.row.N _ _ p c.self.invariant.0 idle no_part),
            ),
          ),
        ),
      ),
    )

pub invariant_of-self : goal.invariant_of-self
invariant_of-self g c =
    let p : PartitionState = partition_of c.self.inside in
    let inside = c.self.inside in
    let idle : p.running ≡ None = ap (λ (q : PartitionState). q.running) c.self.view_is ∙ c.requires.idle.0 in
    let no_part : p.part ≡ None = ap (λ (q : PartitionState). q.part) c.self.view_is ∙ c.requires.idle.1 in
    let room = c.run_part.new.kept.room in
    let after : PartitionState = record p { undo = c.run_part.new.undo; space = c.run_part.new.space } in
    let part : c.in-Some.part ≡ asked c.args.edition c.args.command =
    put_is c.in-Some.is c.put.ensures c.new.ensures in
    let has_part : HasPart (layout_of p) c.in-Some.part.command =
    subst (λ (q : PartitionState). HasPart (layout_of q) c.in-Some.part.command) (sym c.self.view_is)
    (subst (λ (k : PartState). HasPart (layout_of c.args.self.now) k.command) (sym part) c.requires.has_part) in
    subst (λ (list : KeptState Commit).
    IsSound g.row.N list.room inside.executor (with_list (record after { part = c.put.new.place }) list)
    × IsTied g.K.Loaded.load g.K.World.passes list inside.desk (with_list (record after { part = c.put.new.place }) list))
    (sym c.run_part.ensures.kept)
    (subst (λ (part : Option PartState). IsSound g.row.N room inside.executor (record after { part = part })
    × IsTied g.K.Loaded.load g.K.World.passes (record inside.kept { room = room }) inside.desk (record after { part = part }))
    (sym c.in-Some.is) (
      sound-parted g.row.N _ _ p c.self.invariant.0 room inside.executor c.run_part.new.space c.run_part.new.undo
          c.in-Some.part idle no_part has_part refl c.in-Ok.ensures.done.store c.in-Ok.ensures.done.step
          c.in-Ok.ensures.writes.undoes.undo_log c.in-Ok.ensures.writes.undoes.undone c.in-Ok.ensures.writes.children
          c.in-Ok.ensures.room
          (subst (λ (q : PartitionState). length q.kept < q.max_kept) (sym c.self.view_is) c.requires.few)
          (subst (λ (k : PartState). may_run (replays p) k.edition ≡ true) (sym part)
          (subst (λ (q : PartitionState). may_run (replays q) c.args.edition ≡ true) (sym c.self.view_is) c.requires.edition)),
      tied-parted g.K.Loaded.load g.K.World.passes inside.kept inside.desk p c.self.invariant.1 room p.running (Some c.in-Some.part)
          c.run_part.new.undo c.run_part.new.space,
    ))

pub invariant_of-self-in-Err : goal.invariant_of-self-in-Err
invariant_of-self-in-Err g c =
    let p : PartitionState = partition_of c.self.inside in
    let inside = c.self.inside in
    let idle : p.running ≡ None = ap (λ (q : PartitionState). q.running) c.self.view_is ∙ c.requires.idle.0 in
    let no_part : p.part ≡ None = ap (λ (q : PartitionState). q.part) c.self.view_is ∙ c.requires.idle.1 in
    let room = c.run_part.new.kept.room in
    let back = c.in-Err.ensures.undone in
    let after : PartitionState = record p { undo = c.run_part.new.undo; space = c.run_part.new.space } in
    subst (λ (list : KeptState Commit).
    IsSound g.row.N list.room inside.executor (with_list (record after { part = c.clear.new.place }) list)
    × IsTied g.K.Loaded.load g.K.World.passes list inside.desk (with_list (record after { part = c.clear.new.place }) list))
    (sym c.run_part.ensures.kept)
    (subst (λ (part : Option PartState). IsSound g.row.N room inside.executor (record after { part = part })
    × IsTied g.K.Loaded.load g.K.World.passes (record inside.kept { room = room }) inside.desk (record after { part = part }))
    (sym c.clear.ensures)
    (subst (λ (running : Option RunningJob).
    IsSound g.row.N room inside.executor (record after { running = running; part = None })
    × IsTied g.K.Loaded.load g.K.World.passes (record inside.kept { room = room }) inside.desk (record after { running = running; part = None }))
    (sym idle) (
      sound-undone g.row.N _ _ p c.self.invariant.0 room inside.executor c.run_part.new.space c.run_part.new.undo
          p.finished refl back.none back.undo_log
          (back.bytes ∙ sym (undone-none p.space p.undo (rests g.row.N _ _ p c.self.invariant.0 idle no_part).undo))
          back.children,
      tied-parted g.K.Loaded.load g.K.World.passes inside.kept inside.desk p c.self.invariant.1 room None None c.run_part.new.undo
          c.run_part.new.space,
    )))

pub returns-in-Ok-clause-done : goal.returns-in-Ok-clause-done
returns-in-Ok-clause-done g c =
    let p : PartitionState = partition_of c.self.inside in
    let idle : p.running ≡ None = ap (λ (q : PartitionState). q.running) c.self.view_is ∙ c.requires.idle.0 in
    let no_part : p.part ≡ None = ap (λ (q : PartitionState). q.part) c.self.view_is ∙ c.requires.idle.1 in
    let rest = rests g.row.N _ _ p c.self.invariant.0 idle no_part in
    let list : KeptState Commit = c.run_part.new.kept in
    let after : PartitionState = record p {
      part = c.put.new.place;
      undo = c.run_part.new.undo;
      space = c.run_part.new.space;
    } in
    let does : DoesPart c.args.edition c.args.command p after (reply_now p c.args.edition c.args.command) = record {
      part = c.put.ensures ∙ ap Some c.new.ensures;
      bytes = c.in-Ok.ensures.writes.undoes.undone ∙ undone-none p.space p.undo rest.undo;
      reply_is = refl;
      nothing = record { seen = refl; kept = refl; book = refl };
      beside = record {
        terms = refl;
        running = refl;
        finished = refl;
        snapshots = refl;
        children = c.in-Ok.ensures.writes.children;
        max_frames = c.in-Ok.ensures.writes.limit;
      };
    } in
    subst (λ (old : PartitionState). DoesPart c.args.edition c.args.command old (with_list after list)
    (reply_now old c.args.edition c.args.command)) c.self.view_is
    (subst (λ (list : KeptState Commit). DoesPart c.args.edition c.args.command p (with_list after list)
    (reply_now p c.args.edition c.args.command)) (sym c.run_part.ensures.kept) does)

pub returns-in-Ok-clause-counted : goal.returns-in-Ok-clause-counted
returns-in-Ok-clause-counted g c =
    let p : PartitionState = partition_of c.self.inside in
    let idle : p.running ≡ None = ap (λ (q : PartitionState). q.running) c.self.view_is ∙ c.requires.idle.0 in
    let no_part : p.part ≡ None = ap (λ (q : PartitionState). q.part) c.self.view_is ∙ c.requires.idle.1 in
    let rest = rests g.row.N _ _ p c.self.invariant.0 idle no_part in
    let part : c.in-Some.part ≡ asked c.args.edition c.args.command =
    put_is c.in-Some.is c.put.ensures c.new.ensures in
    let replied : c.in-Ok.reply ≡ reply_of_part (layout_of p) c.args.edition c.args.command (rows_now p) =
    rw (c.self.invariant.0.layout, part, rest.pages.rows) at c.in-Ok.ensures.reply in
    c.note_done.ensures ∙ ap (with_part_done c.args.unsettled.now)
    (replied ∙ ap (λ (q : PartitionState). reply_now q c.args.edition c.args.command) c.self.view_is)

pub returns-in-Ok-clause-pages : goal.returns-in-Ok-clause-pages
returns-in-Ok-clause-pages g c =
    let p : PartitionState = partition_of c.self.inside in
    let idle : p.running ≡ None = ap (λ (q : PartitionState). q.running) c.self.view_is ∙ c.requires.idle.0 in
    let no_part : p.part ≡ None = ap (λ (q : PartitionState). q.part) c.self.view_is ∙ c.requires.idle.1 in
    let part : c.in-Some.part ≡ asked c.args.edition c.args.command =
    put_is c.in-Some.is c.put.ensures c.new.ensures in
    let done = c.in-Ok.ensures.done in
    let rows : tables_of g.row.N (owner_bytes c.run_part.new.space) ≡ rows_with_part p c.args.edition c.args.command =
    rw (c.self.invariant.0.layout, part, (rests g.row.N _ _ p c.self.invariant.0 idle no_part).pages.rows) at done.step.rows in
    let spells : Spells g.row.N (owner_bytes c.run_part.new.space) (rows_with_part p c.args.edition c.args.command) =
    record { whole = done.store.tables; rows = rows } in
    subst (λ (old : PartitionState).
    Spells g.row.N (owner_bytes c.run_part.new.space) (rows_with_part old c.args.edition c.args.command)) c.self.view_is spells

pub returns-in-Err-clause-undone : goal.returns-in-Err-clause-undone
returns-in-Err-clause-undone g c =
    let p : PartitionState = partition_of c.self.inside in
    let idle : p.running ≡ None = ap (λ (q : PartitionState). q.running) c.self.view_is ∙ c.requires.idle.0 in
    let no_part : p.part ≡ None = ap (λ (q : PartitionState). q.part) c.self.view_is ∙ c.requires.idle.1 in
    let back = c.in-Err.ensures.undone in
    let list : KeptState Commit = c.run_part.new.kept in
    let after : PartitionState = record p {
      part = c.clear.new.place;
      undo = c.run_part.new.undo;
      space = c.run_part.new.space;
    } in
    let undone : HasNoPart p after = record {
      part = c.clear.ensures;
      undo = back.none;
      bytes = back.bytes ∙ sym (undone-none p.space p.undo (rests g.row.N _ _ p c.self.invariant.0 idle no_part).undo);
      nothing = record { seen = refl; kept = refl; book = refl };
      beside = record {
        terms = refl;
        running = refl;
        finished = refl;
        snapshots = refl;
        children = back.children;
        max_frames = back.max_frames;
      };
    } in
    subst (λ (old : PartitionState). HasNoPart old (with_list after list)) c.self.view_is
    (subst (λ (list : KeptState Commit). HasNoPart p (with_list after list)) (sym c.run_part.ensures.kept) undone)
