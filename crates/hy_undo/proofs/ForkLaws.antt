-- A child that is forked, and rolled back or closed again.
use Rattle.std.proofs.Common.{◌≡◌, ℕ, ◌+◌, ◌<◌, ◌≤◌, Bool, true, false, cond, ◌||◌, inl, inr, List, [], ◌∷◌, length, get_or, refl, sym, ap, ◌∙◌, subst, arith, count_by, Some, None, IsSomeAnd, unwrap_or, option_to_list}
use Rattle.std.specs.Option.{option_map}
use Rattle.std.specs.List.{AllByRecursion, flat_map, list_any}
use Rattle.std.proofs.lemmas.List.Sums.{sum_by-cons}
use Rattle.std.proofs.lemmas.Bool.{cases_lt, cases_eq, cases_Bool, lt-ltb}
use Rattle.hy_frames.specs.FrameTable.{count_of, lent_at}
use Rattle.hy_space.specs.Space.{SpaceState, HasChildPage, IsSound, IsLeastFree, KeepsOwn, SameForOwner, SameForOthers, AddsUsers, DropsUsers, times, child_times, maps, child_table, child_bytes, frame_no, table_bytes}
use Rattle.hy_space.proofs.TableLaws.{stands}
use Rattle.hy_space.proofs.SpaceLaws.{KeepsOwn-from}
use Rattle.hy_undo.specs.UndoLog.{Image, UndoLog}
use Rattle.hy_undo.specs.Touched.{PageAddress, is_same_address, address_of, was_there}
use Rattle.hy_undo.specs.PrivatePages.{IsOfPrivatePage, IsUndoLog}
use Rattle.hy_undo.specs.inside.RollBack.{KeepsPages}
use Rattle.hy_undo.specs.Fork.{IsAsBefore}
use Rattle.hy_undo.specs.inside.Fork.{rows_of, addresses, IsBeside, ChangesChild, AllSplit, AllGrownApart, IsOfPage, IsWritableIn}
use Rattle.hy_undo.proofs.TouchedLaws.{is_same_address-refl}
use Rattle.hy_undo.proofs.PrivatePageLaws.{IsUndoLog-kept}
use Rattle.hy_undo.proofs.SplitLaws.{HasPage-same}
use Rattle.hy_undo.proofs.CutLaws.{same_free}

-- ---- each image

-- from one fact on each image to another, which may use that its page is among those of all images
for_each : (all : List Image) (P Q : Image → Type 0) → ((image : Image) → list_any (is_same_address (address_of image)) (addresses all) ≡ true → P image → Q image) → (rest : List Image) → ((q : PageAddress) → list_any (is_same_address q) (addresses rest) ≡ true → list_any (is_same_address q) (addresses all) ≡ true) → AllByRecursion P rest → AllByRecursion Q rest
for_each all P Q step [] among each = tt
for_each all P Q step (image ∷ rest) among each = (
  step image (among (address_of image) (ap (λ b. b || list_any (is_same_address (address_of image)) (addresses rest)) (is_same_address-refl (address_of image)))) each.0,
  for_each all P Q step rest (λ q behind. among q (or_right (is_same_address q (address_of image)) (list_any (is_same_address q) (addresses rest)) behind)) each.1,
)
  where
    or_right : (a b : Bool) → b ≡ true → (a || b) ≡ true
    or_right true b passes = refl
    or_right false b passes = passes

pub each_image : (images : List Image) (P Q : Image → Type 0) → ((image : Image) → list_any (is_same_address (address_of image)) (addresses images) ≡ true → P image → Q image) → AllByRecursion P images → AllByRecursion Q images
each_image images P Q step each = for_each images P Q step images (λ q among. among) each

-- ---- a fork

module _ (n : ℕ) (old : SpaceState) (sound : IsSound n old) where
  owner_once : (f : ℕ) → times f old.owner ≤ 1
  owner_once f = sound.once f 0 old.owner (omega arith)

  -- a frame of the owner has a user
  pub owner_held : (f : ℕ) → times f old.owner ≤ count_of old.frames f
  owner_held f = elim (cases_lt 0 (times f old.owner)) [
    | inl some ↦
        let counted : count_of old.frames f ≡ 1 + count_by (maps f) (flat_map option_to_list old.children) =
        sound.counts f ∙ sum_by-cons (λ t. cond (maps f t) 1 0) old.owner (flat_map option_to_list old.children)
        ∙ ap (λ b. cond b 1 0 + count_by (maps f) (flat_map option_to_list old.children)) (lt-ltb 0 (times f old.owner) some)
        in
        omega (arith, owner_once f)
    | inr none ↦ omega arith
  ]

  module _ (forked : SpaceState) (child : ℕ) (table : child_table forked child ≡ Some old.owner) (owner : SameForOwner old forked) (users : AddsUsers old.frames forked.frames (λ f. times f old.owner)) where
    rows : rows_of forked child ≡ old.owner
    rows = ap (λ o. unwrap_or o []) table

    pub forked_beside : IsBeside forked child
    forked_beside = record {
      is_open = table ∙ ap Some (sym rows);
      users = λ f. omega (arith, users.counts f, owner_held f, ap (times f) rows, ap (times f) owner.table);
      owner_once = λ f. omega (arith, owner_once f, ap (times f) owner.table);
      once = λ f. omega (arith, owner_once f, ap (times f) rows);
      segments = ap length rows ∙ sym (ap length owner.table);
    }

    pub forked_rows : rows_of forked child ≡ forked.owner
    forked_rows = rows ∙ sym owner.table

    pub forked_images : (images : List Image) → AllByRecursion (IsOfPrivatePage n old) images → AllByRecursion (IsOfPage forked) images
    forked_images images each = each_image images (IsOfPrivatePage n old) (IsOfPage forked) (λ image among of. HasPage-same old forked image.segment image.page owner.table of.there) each

    -- each frame has its users from before, and the child
    module _ (now : SpaceState) (changes : ChangesChild forked now child) where
      pub users_now : (f : ℕ) → count_of now.frames f ≡ count_of old.frames f + times f (rows_of now child)
      users_now f = omega (arith, changes.counts f, users.counts f, ap (times f) rows)

      pub lent_now : (f : ℕ) → 0 < count_of old.frames f → lent_at now.frames f ≡ lent_at old.frames f
      lent_now f used = changes.lent f (omega (arith, users.counts f, ap (times f) rows)) ∙ users.lent f

      table_now : now.owner ≡ old.owner
      table_now = changes.owner.table ∙ owner.table

      pub owner_now : SameForOwner old now
      owner_now = record { table = table_now; bytes = changes.owner.bytes ∙ owner.bytes }

      -- the touched pages are the owner's alone again, where the child has none of them
      pub still_undo_log : (log : UndoLog) (new : SpaceState) → IsUndoLog n old log → AllSplit log now child → AllGrownApart log now child → new.owner ≡ now.owner → ((f : ℕ) → count_of new.frames f ≡ count_of now.frames f) → ((f : ℕ) → lent_at new.frames f ≡ lent_at now.frames f) → IsUndoLog n new log
      still_undo_log log new is_log split grown same_table counts lent = record {
        segments = is_log.segments ∙ sym (ap length (same_table ∙ table_now));
        counts = λ segment. omega (arith, is_log.counts segment, ap (λ all. length (get_or all segment [])) (same_table ∙ table_now));
        images = each_image log.images (IsOfPrivatePage n old) (IsOfPrivatePage n new) step is_log.images;
      }
        where
          step : (image : Image) → list_any (is_same_address (address_of image)) (addresses log.images) ≡ true → IsOfPrivatePage n old image → IsOfPrivatePage n new image
          step image among of =
              let f = frame_no old image.segment image.page in
              let address = HasPage-same old now image.segment image.page table_now of.there in
              let stays : frame_no now image.segment image.page ≡ f = ap (λ all. get_or (get_or all image.segment []) image.page 0) table_now in
              let new_stays : frame_no new image.segment image.page ≡ f = ap (λ all. get_or (get_or all image.segment []) image.page 0) (same_table ∙ table_now) in
              let apart : times (frame_no now image.segment image.page) (rows_of now child) ≡ 0 = elim (cases_Bool (was_there log.counts (address_of image))) [
                | inl was ↦ (split (address_of image) address was among).apart
                | inr late ↦ grown (address_of image) address late
              ] in
              let stood = stands old.owner image.segment image.page of.there.0 of.there.1 in
              record {
                there = HasPage-same now new image.segment image.page same_table address;
                private = record {
                  own = omega (arith, ap (count_of new.frames) new_stays, counts f, users_now f, of.private.own, apart, ap (λ x. times x (rows_of now child)) stays);
                  not_lent = ap (lent_at new.frames) new_stays ∙ lent f ∙ lent_now f (omega (arith, of.private.own)) ∙ of.private.not_lent;
                };
                within = of.within;
              }

      -- where the child was cut, what it has left of the images' pages can be written
      pub writable : (log : UndoLog) → IsUndoLog n old log → IsBeside now child → AllSplit log now child → ((segment : ℕ) → segment < length log.counts → length (get_or (rows_of now child) segment []) ≡ get_or log.counts segment 0) → AllByRecursion (IsWritableIn n log.counts now child) log.images
      writable log is_log beside split short = each_image log.images (IsOfPrivatePage n old) (IsWritableIn n log.counts now child) step is_log.images
        where
          step : (image : Image) → list_any (is_same_address (address_of image)) (addresses log.images) ≡ true → IsOfPrivatePage n old image → IsWritableIn n log.counts now child image
          step image among of =
              let counted : image.segment < length log.counts = omega (arith, of.there.0, is_log.segments) in
              let size = short image.segment counted in
              let address = HasPage-same old now image.segment image.page table_now of.there in
              let P = λ (t : List (List ℕ)). (image.segment < length t) × (image.page < length (get_or t image.segment [])) in
              record {
                segment = counted;
                within = of.within;
                pages = size;
                private = λ below.
                    let inside : P (rows_of now child) = (omega (arith, of.there.0, beside.segments, ap length table_now), omega arith) in
                    let has : HasChildPage now child image.segment image.page = subst (λ o. IsSomeAnd o P) (sym beside.is_open) inside in
                    (has, (split (address_of image) address (lt-ltb image.page (get_or log.counts image.segment 0) below) among).private);
              }

      -- a child that is closed again leaves all as it was
      module _ (closed : SpaceState) (least : IsLeastFree old child) (others : SameForOthers old forked child) (beside : IsBeside now child) (none : child_table closed child ≡ None) (others_closed : SameForOthers now closed child) (owner_closed : SameForOwner now closed) (drops : DropsUsers now.frames closed.frames (λ f. child_times f (child_table now child))) where
        counts_back : (f : ℕ) → count_of closed.frames f ≡ count_of old.frames f
        counts_back f = omega (arith, drops.counts f, ap (child_times f) beside.is_open, users_now f)

        pub kept_back : KeepsOwn old closed
        kept_back = KeepsOwn-from old closed (λ segment page before after.
            let f = frame_no old segment page in
            let stood = stands old.owner segment page before.0 before.1 in (
              ap (λ all. get_or (get_or all segment []) page 0) (owner_closed.table ∙ table_now),
              λ own. (
                counts_back f ∙ own,
                drops.lent f (omega (arith, counts_back f, own)) ∙ lent_now f (omega arith),
              ),
            ))

        pub as_before : IsAsBefore old closed
        as_before = record {
          owner = record { table = owner_closed.table ∙ table_now; bytes = owner_closed.bytes ∙ changes.owner.bytes ∙ owner.bytes };
          tables = λ other. elim (cases_eq other child) [
            | inl is ↦ ap (child_table closed) is ∙ none ∙ sym least.closed ∙ sym (ap (child_table old) is)
            | inr apart ↦ others_closed.tables other apart ∙ changes.others.tables other apart ∙ others.tables other apart
          ];
          bytes = λ other. elim (cases_eq other child) [
            | inl is ↦
                ap (child_bytes closed) is ∙ ap (option_map (table_bytes closed.frames)) none
                ∙ sym (ap (option_map (table_bytes old.frames)) least.closed) ∙ sym (ap (child_bytes old) is)
            | inr apart ↦ others_closed.bytes other apart ∙ changes.others.bytes other apart ∙ others.bytes other apart
          ];
          counts = counts_back;
          lent = λ f used. drops.lent f (omega (arith, counts_back f)) ∙ lent_now f used;
          kept = kept_back;
          free = same_free old.frames closed.frames (λ f used. omega (arith, counts_back f)) (λ f used. omega (arith, counts_back f)) (drops.limit ∙ changes.limit ∙ users.limit);
        }

-- what is as before has the same undo log
pub undo_log_as_before : (n : ℕ) (old new : SpaceState) (log : UndoLog) → IsAsBefore old new → IsUndoLog n old log → IsUndoLog n new log
undo_log_as_before n old new log same is_log =
    let keeps : KeepsPages old new = record {
      segments = ap length same.owner.table;
      pages = λ segment. omega (arith, ap (λ all. length (get_or all segment [])) same.owner.table);
      kept = same.kept;
    } in
    IsUndoLog-kept n old new log keeps is_log
