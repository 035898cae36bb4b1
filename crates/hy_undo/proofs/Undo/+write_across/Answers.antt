use Rattle.std.proofs.Common.{◌≡◌, ℕ, ◌+◌, ◌-◌, ◌*◌, ◌/◌, ◌<◌, ◌≤◌, List, ◌++◌, length, map, take, drop, refl, sym, ap, ap₂, ◌∙◌, subst, arith}
use Rattle.std.proofs.Math.Seq.{take-length}
use Rattle.std.proofs.lemmas.Bool.Decides.{nat_tests}
use Rattle.std.specs.List.{concat}
use Rattle.std.proofs.lemmas.List.{length-drop, length-take-le, take-append-drop}
use Rattle.hy_frames.specs.FrameTable.{free_of}
use Rattle.hy_space.specs.Space.{HasPage, SpaceState, child_bytes, owner_bytes, page_count}
use Rattle.hy_undo.specs.UndoLog.{Image, UndoLog, image_at, page_counts, undone, with_image}
use Rattle.hy_undo.specs.Writes.{CanUndo, IsOutOfFrames, WritesAcross, pages_at, pages_of_part}
use Rattle.hy_undo.specs.inside.RollBack.{without_last}
use Rattle.hy_undo.proofs.JoinedLaws.{across-then, length-segment, page_there, pages_behind, without_last-with, written_back}
use Rattle.hy_undo.proofs.PrivatePageLaws.{length-owner_bytes, length-segment-owner_bytes}
use Rattle.hy_undo.proofs.WriteLaws.{can_undo-more, can_undo-then}
use Rattle.hy_undo.proofs.Undo.+write_across.Goals as goal
use Rattle.hy_undo.proofs.Undo.+write_across.Given as given

-- the first page is there
has_page : (n : ℕ) (s : SpaceState) (segment page offset count : ℕ) → segment < length s.owner → 0 < count
    → page * n + offset + count ≤ page_count s segment * n → HasPage s segment page
has_page n s segment page offset count there some within =
    (there, page_there n page offset count (page_count s segment) some within)

pub write_part-requires : goal.write_part-requires
write_part-requires g t c =
    let some : 0 < length c.args.bytes.now = grind (arith, nat_tests) in (
      omega arith,
      (
        omega arith,
        (
          has_page g.row.N c.args.space.now c.args.segment c.args.page c.args.offset (length c.args.bytes.now) c.requires.segment some c.requires.within,
          (omega (arith, c.requires.offset, c.if-bytes-room.true), c.requires.undo_log),
        ),
      ),
    )

pub returns-then-bytes-room-clause-can_undo : goal.returns-then-bytes-room-clause-can_undo
returns-then-bytes-room-clause-can_undo g t c =
    can_undo-more g.row.N 1 (pages_of_part g.row.N c.args.offset (length c.args.bytes.now)) c.args.space.now c.write_part.new.space c.args.self.now c.write_part.new.self (omega arith)
    c.write_part.ensures.can_undo

pub returns-in-Ok-clause-bytes : goal.returns-in-Ok-clause-bytes
returns-in-Ok-clause-bytes g t c =
    let n : ℕ = g.row.N in
    let old : SpaceState = c.args.space.now in
    let bytes : List ℕ = c.args.bytes.now in
    let room : ℕ = n - c.args.offset in
    let there : c.args.segment < length (owner_bytes old) = omega (arith, c.requires.segment, length-owner_bytes old) in
    let size : length (concat (pages_at (owner_bytes old) c.args.segment)) ≡ page_count old c.args.segment * n =
    length-segment n old c.args.segment c.sound.ensures there ∙ ap (λ count. count * n) (length-segment-owner_bytes old c.args.segment) in
    let front : length (take room bytes) ≡ room = length-take-le room bytes (omega (arith, c.if-bytes-room.false)) in
    let behind : length (drop room bytes) ≡ length bytes - room = length-drop room bytes in
    let next : c.args.page * n + c.args.offset + length (take room bytes) ≡ (c.args.page + 1) * n + 0 = omega (arith, front, c.requires.offset) in
    let whole : take room bytes ++ take (length bytes - room) (drop room bytes) ≡ bytes =
    ap (λ rest. take room bytes ++ rest) (ap (λ count. take count (drop room bytes)) (sym behind) ∙ take-length (drop room bytes)) ∙ take-append-drop room bytes in
    across-then (owner_bytes old) (owner_bytes c.write_part-2.new.space) (owner_bytes c.write_across.new.space) c.args.segment (c.args.page * n + c.args.offset) _ _ _ bytes
    next whole (omega (arith, size, c.requires.within)) c.in_ok-write_part.ensures.across c.in-Ok.ensures.bytes

-- ---- a page behind the first was refused

-- the log that the first page left, without its write
before : (g : given.Over) (t : ℕ) (c : goal.After-take_back g t) → c.take_back.new.self ≡ c.args.self.now
before g t c =
    let image = image_at c.args.space.now c.args.segment c.args.page c.args.offset (length (take (g.row.N - c.args.offset) c.args.bytes.now)) in
    c.take_back.ensures.log ∙ ap without_last (c.in-Err.ensures.err.0 ∙ c.in_ok-write_part.ensures.image) ∙ without_last-with c.args.self.now image

same_bytes : (g : given.Over) (t : ℕ) (c : goal.After-take_back g t) → owner_bytes c.take_back.new.space ≡ owner_bytes c.args.space.now
same_bytes g t c =
    let n : ℕ = g.row.N in
    let old : SpaceState = c.args.space.now in
    let front : List ℕ = take (n - c.args.offset) c.args.bytes.now in
    let some : 0 < length c.args.bytes.now = grind (arith, nat_tests) in
    let size : length front ≡ n - c.args.offset = length-take-le (n - c.args.offset) c.args.bytes.now (omega (arith, c.if-bytes-room.false)) in
    written_back n old c.write_across.new.space c.take_back.new.space c.write_across.new.self c.args.self.now c.args.segment c.args.page c.args.offset (length front) front
    c.sound.ensures (has_page n old c.args.segment c.args.page c.args.offset (length c.args.bytes.now) c.requires.segment some c.requires.within)
    (omega (arith, size, c.requires.offset)) refl (c.in-Err.ensures.err.1 ∙ c.in_ok-write_part.ensures.bytes) (c.in-Err.ensures.err.0 ∙ c.in_ok-write_part.ensures.image)
    c.take_back.ensures.bytes

pub returns-in-Err-clause-can_undo : goal.returns-in-Err-clause-can_undo
returns-in-Err-clause-can_undo g t c =
    let n : ℕ = g.row.N in
    let size : ℕ = length c.args.bytes.now in
    let room : ℕ = n - c.args.offset in
    let front : length (take (size - room) (drop room c.args.bytes.now)) ≡ size - room =
    length-take-le (size - room) (drop room c.args.bytes.now) (omega (arith, length-drop room c.args.bytes.now)) in
    let most : pages_of_part n c.args.offset size ≡ 1 + pages_of_part n 0 (size - room) = pages_behind n c.args.offset room size (omega (arith, c.requires.offset)) (omega (arith, c.requires.offset)) (omega (arith, c.if-bytes-room.false)) in
    let first = c.in_ok-write_part.ensures.can_undo in
    let second = c.in-Err.ensures.can_undo in
    let back = c.take_back.ensures.keeps in
    record {
      children = record {
        tables = back.children.tables ∙ second.children.tables ∙ first.children.tables;
        bytes = λ child. back.children.bytes child ∙ second.children.bytes child ∙ first.children.bytes child;
      };
      undone = ap₂ undone (same_bytes g t c) (before g t c);
      undo_log = c.take_back.ensures.undo_log;
      counts = ap (λ (l : UndoLog). l.counts) (before g t c);
      images = omega (arith, ap (λ (l : UndoLog). length l.images) (before g t c));
      frames = record {
        pages = ap (map length) back.table ∙ second.frames.pages ∙ first.frames.pages;
        frames = omega (arith, back.free, first.frames.frames, second.frames.frames, most, ap (λ count. pages_of_part n 0 count) front);
        limit = back.limit ∙ second.frames.limit ∙ first.frames.limit;
      };
    }

pub returns-in-Err-clause-err : goal.returns-in-Err-clause-err
returns-in-Err-clause-err g t c = (before g t c, same_bytes g t c)
