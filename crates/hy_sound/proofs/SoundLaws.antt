-- What is sound from a place of a merge on, and what each of its steps makes of that.
use Rattle.std.proofs.Common.{◌≡◌, ◌≢◌, ◌<◌, ◌≤◌, ◌+◌, ◌==◌, ◌&&◌, ◌||◌, ℕ, zero, suc, Bool, true, false, cond, List, [], ◌∷◌, ◌++◌, drop, filter, length, Some, is_some, refl, sym, ap, ◌∙◌, arith, subst}
use Rattle.std.specs.Prelude.{nat_le}
use Rattle.std.specs.List.{filter_map, list_all, list_any, range_with_len}
use Rattle.std.proofs.lemmas.Bool.{and_from, and_parts, eq-eqb, eqb-false, eqb-true, false≢true, le-leb, leb-false, leb-true, ne_eqb, true≢false}
use Rattle.std.proofs.lemmas.List.{get_or_past}
use Rattle.hy_rows.specs.Ranges.{is_between}
use Rattle.hy_rows.specs.Tables.{Lists}
use Rattle.hy_passes.specs.SerialList.{projection}
use Rattle.hy_commands.specs.declared.command.Command.{Command}
use Rattle.hy_commands.specs.declared.command.Commit.{Commit}
use Rattle.hy_commands.specs.declared.command.Commit.TheVariants as commits
use Rattle.hy_commands.specs.declared.edition.Edition.{Edition}
use Rattle.hy_commands.specs.Commands.{number_of, warehouses_of, warehouses_of_commit}
use Rattle.hy_batches.specs.Batches.{Batch}
use Rattle.hy_batches.specs.Grammar.{names}
use Rattle.hy_sound.specs.Sound.{AreSound, IsSoundBatch, are_replayable, crossings_of, is_known, list_at, names_one_of}
use Rattle.hy_sound.specs.Merges.{FindsCrossing, FindsNone, GoesOnAt, LacksCrossing, MergeState, PassesCrossing, count_of, left_of, next_of}
use Rattle.hy_sound.specs.inside.Steps.{IsAtCrossing, IsRefusedAt, IsSoundFrom, IsUnsound, Leads, PassesAllLocals}
use Rattle.hy_sound.proofs.ListLaws.{next-first}

-- ---- numbers of commits

few-numbers : (rows : List Commit) → length (filter_map number_of rows) ≤ length rows
few-numbers [] = omega arith
few-numbers (commits.Local edition command ∷ rows) = omega (arith, few-numbers rows)
few-numbers (commits.Cross edition number command ∷ rows) = omega (arith, few-numbers rows)

length-range : (low count : ℕ) → length (range_with_len low count) ≡ count
length-range low zero = refl
length-range low (suc count) = ap suc (length-range (low + 1) count)

-- where numbers follow one another, the first row has the first of them, and the others follow
pub record FollowsFirst (low : ℕ) (first : Commit) (rows : List Commit) : Type 0 where
  pub edition : Edition
  pub command : Command
  pub first_is : first ≡ commits.Cross edition low command
  pub others : filter_map number_of rows ≡ range_with_len (suc low) (length rows)

pub numbers-first : (low : ℕ) (first : Commit) (rows : List Commit)
    → filter_map number_of (first ∷ rows) ≡ range_with_len low (suc (length rows)) → FollowsFirst low first rows
numbers-first low (commits.Local edition command) rows follow =
    let few = few-numbers rows in
    let many : length (filter_map number_of rows) ≡ suc (length rows) =
    ap length follow ∙ ap suc (length-range (low + 1) (length rows)) in
    absurd (omega arith)
numbers-first low (commits.Cross edition number command) rows follow =
    let same : number ≡ low = cc in
    let later : filter_map number_of rows ≡ range_with_len (low + 1) (length rows) = cc in
    let next : low + 1 ≡ suc low = omega arith in
    record {
      edition = edition;
      command = command;
      first_is = ap (λ n. commits.Cross edition n command) same;
      others = later ∙ ap (λ n. range_with_len n (length rows)) next;
    }

-- a row that passes a test has no lesser number than the first
least-number : (test : Commit → Bool) (rows : List Commit) (low : ℕ) (edition : Edition) (number : ℕ) (command : Command)
    (rest : List Commit)
    → filter_map number_of rows ≡ range_with_len low (length rows)
    → commits.Cross edition number command ∷ rest ≡ filter test rows → low ≤ number
least-number test [] low edition number command rest follow is = absurd (cc)
least-number test (first ∷ rows) low edition number command rest follow is =
    by (test first) refl (λ later.
    least-number test rows (suc low) edition number command rest (numbers-first low first rows follow).others later)
  where
    has : FollowsFirst low first rows
    has = numbers-first low first rows follow

    by : (passes : Bool) → test first ≡ passes
        → (commits.Cross edition number command ∷ rest ≡ filter test rows → suc low ≤ number) → low ≤ number
    by true passes more =
        let all : commits.Cross edition number command ∷ rest ≡ first ∷ filter test rows =
        is ∙ ap (λ b. cond b (first ∷ filter test rows) (filter test rows)) passes in
        let here : commits.Cross edition number command ∷ rest ≡ commits.Cross has.edition low has.command ∷ filter test rows =
        all ∙ ap (λ row. row ∷ filter test rows) has.first_is in
        let same : number ≡ low = cc in
        omega arith
    by false fails more =
        let later : commits.Cross edition number command ∷ rest ≡ filter test rows =
        is ∙ ap (λ b. cond b (first ∷ filter test rows) (filter test rows)) fails in
        let above = more later in
        omega arith

-- the rows whose first number is the one of a row that passes a test begin with that row
pub record BeginsWith (edition : Edition) (number : ℕ) (command : Command) (rows : List Commit) : Type 0 where
  pub others : List Commit
  pub rows_are : rows ≡ commits.Cross edition number command ∷ others
  pub numbered : filter_map number_of others ≡ range_with_len (suc number) (length others)

pub begins-with : (test : Commit → Bool) (rows : List Commit) (edition : Edition) (number : ℕ) (command : Command)
    (rest : List Commit)
    → filter_map number_of rows ≡ range_with_len number (length rows)
    → commits.Cross edition number command ∷ rest ≡ filter test rows → BeginsWith edition number command rows
begins-with test [] edition number command rest follow is = absurd (cc)
begins-with test (first ∷ rows) edition number command rest follow is = by (test first) refl
  where
    has : FollowsFirst number first rows
    has = numbers-first number first rows follow

    by : (passes : Bool) → test first ≡ passes → BeginsWith edition number command (first ∷ rows)
    by true passes =
        let all : commits.Cross edition number command ∷ rest ≡ first ∷ filter test rows =
        is ∙ ap (λ b. cond b (first ∷ filter test rows) (filter test rows)) passes in
        let same : first ≡ commits.Cross edition number command = cc in
        record { others = rows; rows_are = ap (λ row. row ∷ rows) same; numbered = has.others }
    by false fails =
        let later : commits.Cross edition number command ∷ rest ≡ filter test rows =
        is ∙ ap (λ b. cond b (first ∷ filter test rows) (filter test rows)) fails in
        let more = least-number test rows (suc number) edition number command rest has.others later in
        absurd (omega arith)

-- ---- which warehouses a commit names

any-weaker : (one other : ℕ → Bool) → ((row : ℕ) → one row ≡ true → other row ≡ true) → (rows : List ℕ)
    → list_any one rows ≡ true → list_any other rows ≡ true
any-weaker one other leads [] some = absurd (false≢true some)
any-weaker one other leads (row ∷ rows) some = by (one row) refl (λ later. any-weaker one other leads rows later)
  where
    rest : (b : Bool) → list_any other rows ≡ true → (b || list_any other rows) ≡ true
    rest true is = refl
    rest false is = is

    by : (passes : Bool) → one row ≡ passes → (list_any one rows ≡ true → list_any other rows ≡ true)
        → list_any other (row ∷ rows) ≡ true
    by true passes more = rw (leads row passes) refl
    by false fails more =
        rest (other row) (more (sym (ap (λ b. b || list_any one rows) fails) ∙ some))

-- a number that is one of so many, as a place
pub record IsAtPlace (count : ℕ) (rows : List ℕ) : Type 0 where
  pub place : ℕ
  pub within : place < count
  pub here : list_any (λ row. row == suc place) rows ≡ true

one-place : (count : ℕ) (rows : List ℕ) → list_any (is_between 1 count) rows ≡ true → IsAtPlace count rows
one-place count [] some = absurd (false≢true some)
one-place count (zero ∷ rows) some =
    let later = one-place count rows some in
    record {
      place = later.place;
      within = later.within;
      here = ap (λ b. b || list_any (λ row. row == suc later.place) rows) (ne_eqb 0 (suc later.place) (λ same. absurd (cc)))
          ∙ later.here;
    }
one-place count (suc row ∷ rows) some = by (is_between 1 count (suc row)) refl (λ later. one-place count rows later)
  where
    rest : (b : Bool) (others : List ℕ) (place : ℕ) → list_any (λ row. row == suc place) others ≡ true
        → (b || list_any (λ row. row == suc place) others) ≡ true
    rest true others place is = refl
    rest false others place is = is

    by : (passes : Bool) → is_between 1 count (suc row) ≡ passes
        → (list_any (is_between 1 count) rows ≡ true → IsAtPlace count rows) → IsAtPlace count (suc row ∷ rows)
    by true passes more =
        let most = leb-true (suc row) count (and_parts (nat_le 1 (suc row)) (nat_le (suc row) count) passes).1 in
        record { place = row; within = omega arith; here = rw (eq-eqb (suc row) (suc row) refl) refl }
    by false fails more =
        let later = more (sym (ap (λ b. b || list_any (is_between 1 count) rows) fails) ∙ some) in
        record {
          place = later.place;
          within = later.within;
          here = rest (suc row == suc later.place) rows later.place later.here;
        }

-- ---- what is left of a list

abbrev is_crossing : Commit → Bool
is_crossing commit = is_some (number_of commit)

-- where a list is at a crossing, its crossings begin with what it begins with
at-first : (rows : List Commit) (first : Commit) (others : List Commit) → IsAtCrossing rows
    → crossings_of rows ≡ first ∷ others → next_of rows ≡ Some first
at-first [] first others at is = absurd (cc)
at-first (row ∷ rows) first others at is =
    let all : row ∷ crossings_of rows ≡ first ∷ others =
    sym (ap (λ b. cond b (row ∷ crossings_of rows) (crossings_of rows)) at) ∙ is in
    let same : row ≡ first = cc in
    ap Some same

at-none : (rows : List Commit) → IsAtCrossing rows → crossings_of rows ≡ [] → rows ≡ []
at-none [] at is = refl
at-none (row ∷ rows) at is =
    let all : row ∷ crossings_of rows ≡ [] =
    sym (ap (λ b. cond b (row ∷ crossings_of rows) (crossings_of rows)) at) ∙ is in
    absurd (cc)

-- ---- one step behind another

pub leads-none : (lists : Lists) (last : ℕ) (merge : MergeState) → Leads lists last last merge merge
leads-none lists last merge = record { forth = λ after sound. sound; back = λ after sound. sound }

pub leads-then : (lists : Lists) (first second third : ℕ) (one two three : MergeState) → Leads lists first second one two
    → Leads lists second third two three → Leads lists first third one three
leads-then lists first second third one two three before after = record {
  forth = λ last sound. after.forth last (before.forth last sound);
  back = λ last sound. before.back last (after.back last sound);
}

pub unsound-before : (lists : Lists) (first second : ℕ) (one two : MergeState) → Leads lists first second one two
    → IsUnsound lists second two → IsUnsound lists first one
unsound-before lists first second one two leads unsound last sound = unsound last (leads.forth last sound)

-- ---- commits of one warehouse are passed

pub leads-locals : (lists : Lists) (last : ℕ) (old new : MergeState) → PassesAllLocals lists old new
    → Leads lists last last old new
leads-locals lists last old new passes = record {
  forth = λ after sound. record {
    in_step = record {
      crossings = sound.in_step.crossings;
      numbered = sound.in_step.numbered;
      named = ap (λ n. list_all (names_one_of n) sound.in_step.crossings) passes.count ∙ sound.in_step.named;
      each = λ place within.
          let was : place < count_of old = omega (arith, passes.count, within) in
          sym (passes.each place was).crossings ∙ sound.in_step.each place was;
      last = sound.in_step.last;
    };
    replayable = λ place within.
        let was : place < count_of old = omega (arith, passes.count, within) in
        sym (passes.each place was).replayable ∙ sound.replayable place was;
  };
  back = λ after sound. record {
    in_step = record {
      crossings = sound.in_step.crossings;
      numbered = sound.in_step.numbered;
      named = ap (λ n. list_all (names_one_of n) sound.in_step.crossings) (sym passes.count) ∙ sound.in_step.named;
      each = λ place was.
          let within : place < count_of new = omega (arith, passes.count, was) in
          (passes.each place was).crossings ∙ sound.in_step.each place within;
      last = sound.in_step.last;
    };
    replayable = λ place was.
        let within : place < count_of new = omega (arith, passes.count, was) in
        (passes.each place was).replayable ∙ sound.replayable place within;
  };
}

-- a commit that isn't replayable
pub unsound-refused : (lists : Lists) (last : ℕ) (merge : MergeState) → IsRefusedAt lists merge
    → IsUnsound lists last merge
unsound-refused lists last merge refused after sound =
    false≢true (sym refused.refused ∙ sound.replayable refused.place refused.within)

-- ---- a commit of several warehouses

module _ (lists : Lists) (last : ℕ) (edition : Edition) (number : ℕ) (command : Command) (merge : MergeState)
    (finds : FindsCrossing merge last edition number command) where
  abbrev commit : Commit
  commit = commits.Cross edition number command

  abbrev at : GoesOnAt merge edition number command finds.1.0
  at = finds.1.1

  abbrev own : List Commit
  own = left_of merge finds.1.0

  own-is : own ≡ commit ∷ drop 1 own
  own-is = next-first own commit at.next

  -- where what is left is sound, its commits of several warehouses begin with it
  pub all-begin : (after : ℕ) → (sound : IsSoundFrom lists last after merge)
      → BeginsWith edition number command sound.in_step.crossings
  all-begin after sound =
      begins-with (λ commit. list_any (λ named. named == suc finds.1.0) (warehouses_of_commit commit))
      sound.in_step.crossings edition number command (crossings_of (drop 1 own))
      (sound.in_step.numbered ∙ ap (λ n. range_with_len n (length sound.in_step.crossings)) (sym finds.0))
      (sym (ap crossings_of own-is) ∙ sound.in_step.each finds.1.0 at.within)

  -- what a warehouse has of commits that begin with it
  pub projected-named : (place : ℕ) (others : List Commit) → names command (suc place) ≡ true
      → projection warehouses_of_commit (suc place) (commit ∷ others)
      ≡ commit ∷ projection warehouses_of_commit (suc place) others
  projected-named place others named =
      ap (λ b. cond b (commit ∷ projection warehouses_of_commit (suc place) others)
      (projection warehouses_of_commit (suc place) others)) named

  pub projected-other : (place : ℕ) (others : List Commit) → names command (suc place) ≡ false
      → projection warehouses_of_commit (suc place) (commit ∷ others)
      ≡ projection warehouses_of_commit (suc place) others
  projected-other place others other =
      ap (λ b. cond b (commit ∷ projection warehouses_of_commit (suc place) others)
      (projection warehouses_of_commit (suc place) others)) other

  -- then each list whose warehouse it names goes on with it
  pub next-named : (after : ℕ) → IsSoundFrom lists last after merge → (place : ℕ) → place < count_of merge
      → IsAtCrossing (left_of merge place) → names command (suc place) ≡ true → next_of (left_of merge place) ≡ Some commit
  next-named after sound place within stops named =
      let begins = all-begin after sound in
      at-first (left_of merge place) commit _ stops
      (sound.in_step.each place within ∙ ap (projection warehouses_of_commit (suc place)) begins.rows_are
      ∙ projected-named place begins.others named)

  -- a list goes on otherwise
  pub unsound-lacking : ((place : ℕ) → place < count_of merge → IsAtCrossing (left_of merge place))
      → LacksCrossing edition number command merge → IsUnsound lists last merge
  unsound-lacking stops lacks after sound =
      lacks.another (next-named after sound lacks.place lacks.within (stops lacks.place lacks.within) lacks.named)

  -- the database of the load doesn't refuse it
  pub known-crossing : (after : ℕ) → IsSoundFrom lists last after merge → is_known lists command ≡ true
  known-crossing after sound =
      let all : is_known lists command && are_replayable lists (drop 1 own) ≡ true =
      sym (ap (are_replayable lists) own-is) ∙ sound.replayable finds.1.0 at.within in
      (and_parts (is_known lists command) (are_replayable lists (drop 1 own)) all).0

  -- the database of the load refuses it
  pub unsound-unknown : is_known lists command ≡ false → IsUnsound lists last merge
  unsound-unknown unknown after sound = true≢false (sym (known-crossing after sound) ∙ unknown)

  -- it is passed
  module _ (known : is_known lists command ≡ true) (new : MergeState)
      (passes : PassesCrossing edition number command merge new) where
    named-one : names_one_of (count_of merge) commit ≡ true
    named-one = any-weaker (λ named. named == suc finds.1.0) (is_between 1 (count_of merge)) (λ row is.
        let same : row ≡ suc finds.1.0 = eqb-true row (suc finds.1.0) is in
        rw same (and_from (nat_le 1 (suc finds.1.0)) (nat_le (suc finds.1.0) (count_of merge))
        (le-leb 1 (suc finds.1.0) (omega arith)) (le-leb (suc finds.1.0) (count_of merge) (omega (arith, at.within)))))
        (warehouses_of command) at.named

    forth : (after : ℕ) → IsSoundFrom lists last after merge → IsSoundFrom lists number after new
    forth after sound = record {
      in_step = record {
        crossings = begins.others;
        numbered = begins.numbered;
        named =
            ap (λ n. list_all (names_one_of n) begins.others) passes.count
            ∙ (and_parts (names_one_of (count_of merge) commit) (list_all (names_one_of (count_of merge)) begins.others)
            (sym (ap (list_all (names_one_of (count_of merge))) begins.rows_are) ∙ sound.in_step.named)).1;
        each = λ place within.
            let was : place < count_of merge = omega (arith, passes.count, within) in
            by place was (names command (suc place)) refl;
        last = sound.in_step.last ∙ (omega (arith, ap length begins.rows_are, finds.0));
      };
      replayable = λ place within.
          let was : place < count_of merge = omega (arith, passes.count, within) in
          kept place was (names command (suc place)) refl;
    }
      where
        begins : BeginsWith edition number command sound.in_step.crossings
        begins = all-begin after sound

        has : (place : ℕ) → place < count_of merge → crossings_of (left_of merge place)
            ≡ projection warehouses_of_commit (suc place) (commit ∷ begins.others)
        has place was =
            sound.in_step.each place was ∙ ap (projection warehouses_of_commit (suc place)) begins.rows_are

        by : (place : ℕ) → place < count_of merge → (b : Bool) → names command (suc place) ≡ b
            → crossings_of (left_of new place) ≡ projection warehouses_of_commit (suc place) begins.others
        by place was true named =
            let all : commit ∷ crossings_of (left_of new place)
            ≡ commit ∷ projection warehouses_of_commit (suc place) begins.others =
            sym (ap crossings_of (passes.named place was named)) ∙ has place was
            ∙ projected-named place begins.others named in
            cc (all)
        by place was false other =
            ap crossings_of (passes.others place was other) ∙ has place was ∙ projected-other place begins.others other

        kept : (place : ℕ) → place < count_of merge → (b : Bool) → names command (suc place) ≡ b
            → are_replayable lists (left_of new place) ≡ true
        kept place was true named =
            (and_parts (is_known lists command) (are_replayable lists (left_of new place))
            (sym (ap (are_replayable lists) (passes.named place was named)) ∙ sound.replayable place was)).1
        kept place was false other = ap (are_replayable lists) (passes.others place was other) ∙ sound.replayable place was

    back : (after : ℕ) → IsSoundFrom lists number after new → IsSoundFrom lists last after merge
    back after sound = record {
      in_step = record {
        crossings = commit ∷ rest;
        numbered =
            let next : suc number ≡ suc last + 1 = omega (arith, finds.0) in
            ap (λ n. n ∷ filter_map number_of rest) finds.0
            ∙ ap (λ rows. suc last ∷ rows)
            (sound.in_step.numbered ∙ ap (λ n. range_with_len n (length rest)) next);
        named = and_from (names_one_of (count_of merge) commit) (list_all (names_one_of (count_of merge)) rest) named-one
            (ap (λ n. list_all (names_one_of n) rest) (sym passes.count) ∙ sound.in_step.named);
        each = λ place was. by place was (names command (suc place)) refl;
        last = sound.in_step.last ∙ (omega (arith, finds.0));
      };
      replayable = λ place was. kept place was (names command (suc place)) refl;
    }
      where
        rest : List Commit
        rest = sound.in_step.crossings

        within : (place : ℕ) → place < count_of merge → place < count_of new
        within place was = omega (arith, passes.count, was)

        by : (place : ℕ) → place < count_of merge → (b : Bool) → names command (suc place) ≡ b
            → crossings_of (left_of merge place) ≡ projection warehouses_of_commit (suc place) (commit ∷ rest)
        by place was true named =
            ap crossings_of (passes.named place was named)
            ∙ ap (λ rows. commit ∷ rows) (sound.in_step.each place (within place was))
            ∙ sym (projected-named place rest named)
        by place was false other =
            sym (ap crossings_of (passes.others place was other)) ∙ sound.in_step.each place (within place was)
            ∙ sym (projected-other place rest other)

        kept : (place : ℕ) → place < count_of merge → (b : Bool) → names command (suc place) ≡ b
            → are_replayable lists (left_of merge place) ≡ true
        kept place was true named =
            ap (are_replayable lists) (passes.named place was named)
            ∙ and_from (is_known lists command) (are_replayable lists (left_of new place)) known
            (sound.replayable place (within place was))
        kept place was false other =
            sym (ap (are_replayable lists) (passes.others place was other)) ∙ sound.replayable place (within place was)

    pub leads-crossing : Leads lists last number merge new
    leads-crossing = record { forth = forth; back = back }

-- ---- no crossing is found

pub sound-end : (lists : Lists) (last : ℕ) (merge : MergeState)
    → ((place : ℕ) → place < count_of merge → left_of merge place ≡ []) → IsSoundFrom lists last last merge
sound-end lists last merge none = record {
  in_step = record {
    crossings = [];
    numbered = refl;
    named = refl;
    each = λ place within. ap crossings_of (none place within);
    last = omega arith;
  };
  replayable = λ place within. ap (are_replayable lists) (none place within);
}

-- what is left is sound only where nothing is
pub none-left : (lists : Lists) (last after : ℕ) (merge : MergeState) → FindsNone merge last
    → ((place : ℕ) → place < count_of merge → IsAtCrossing (left_of merge place))
    → IsSoundFrom lists last after merge → (after ≡ last) × ((place : ℕ) → place < count_of merge → left_of merge place ≡ [])
none-left lists last after merge none stops sound =
    by sound.in_step.crossings sound.in_step.numbered sound.in_step.named sound.in_step.each sound.in_step.last
  where
    by : (crossings : List Commit) → filter_map number_of crossings ≡ range_with_len (suc last) (length crossings)
        → list_all (names_one_of (count_of merge)) crossings ≡ true
        → ((place : ℕ) → place < count_of merge
        → crossings_of (left_of merge place) ≡ projection warehouses_of_commit (suc place) crossings)
        → after ≡ last + length crossings
        → (after ≡ last) × ((place : ℕ) → place < count_of merge → left_of merge place ≡ [])
    by [] numbered named each last_is = (
      omega (arith, last_is),
      λ place within. at-none (left_of merge place) (stops place within) (each place within),
    )
    by (first ∷ rows) numbered named each last_is =
        let follows = numbers-first (suc last) first rows numbered in
        let one = (and_parts (names_one_of (count_of merge) first) (list_all (names_one_of (count_of merge)) rows) named).0 in
        let commit : Commit = commits.Cross follows.edition (suc last) follows.command in
        let at = one-place (count_of merge) (warehouses_of follows.command)
        (sym (ap (names_one_of (count_of merge)) follows.first_is) ∙ one) in
        let here : crossings_of (left_of merge at.place)
        ≡ commit ∷ projection warehouses_of_commit (suc at.place) rows =
        each at.place at.within ∙ ap (λ row. projection warehouses_of_commit (suc at.place) (row ∷ rows)) follows.first_is
        ∙ ap (λ b. cond b (commit ∷ projection warehouses_of_commit (suc at.place) rows)
        (projection warehouses_of_commit (suc at.place) rows)) at.here in
        absurd (none at.place follows.edition follows.command (record {
          within = at.within;
          next = at-first (left_of merge at.place) commit _ (stops at.place at.within) here;
          named = at.here;
        }))

-- ---- whole batches

module _ (lists : Lists) (before after : ℕ) (batch : Batch) (merge : MergeState)
    (counted : count_of merge ≡ length batch.lists)
    (left : (place : ℕ) → left_of merge place ≡ list_at batch.lists place) where
  pub sound-from : IsSoundBatch lists before after batch → IsSoundFrom lists before after merge
  sound-from sound = record {
    in_step = record {
      crossings = sound.in_step.crossings;
      numbered = sound.in_step.numbered;
      named = ap (λ n. list_all (names_one_of n) sound.in_step.crossings) counted ∙ sound.in_step.named;
      each = λ place within. ap crossings_of (left place) ∙ sound.in_step.each place (omega (arith, counted, within));
      last = sound.in_step.last;
    };
    replayable = λ place within. ap (are_replayable lists) (left place) ∙ sound.replayable place;
  }

  pub sound-batch : length batch.lists ≡ length lists.tables.warehouses → IsSoundFrom lists before after merge
      → IsSoundBatch lists before after batch
  sound-batch count sound = record {
    count = count;
    in_step = record {
      crossings = sound.in_step.crossings;
      numbered = sound.in_step.numbered;
      named = ap (λ n. list_all (names_one_of n) sound.in_step.crossings) (sym counted) ∙ sound.in_step.named;
      each = λ place within.
          sym (ap crossings_of (left place)) ∙ sound.in_step.each place (omega (arith, counted, within));
      last = sound.in_step.last;
    };
    replayable = λ place. by place (nat_le (length batch.lists) place) refl;
  }
    where
      by : (place : ℕ) → (past : Bool) → nat_le (length batch.lists) place ≡ past
          → are_replayable lists (list_at batch.lists place) ≡ true
      by place true past =
          ap (are_replayable lists) (get_or_past batch.lists place [] (leb-true (length batch.lists) place past))
      by place false within =
          sym (ap (are_replayable lists) (left place))
          ∙ sound.replayable place (omega (arith, counted, leb-false (length batch.lists) place within))

-- ---- logs

pub sound-more : (lists : Lists) (first last after : ℕ) (front : List Batch) (batch : Batch)
    → AreSound lists first last front → IsSoundBatch lists last after batch
    → AreSound lists first after (front ++ batch ∷ [])
sound-more lists first last after [] batch sound one =
    (after, subst (λ n. IsSoundBatch lists n after batch) sound one, refl)
sound-more lists first last after (row ∷ front) batch sound one =
    (sound.0, sound.1, sound-more lists sound.0 last after front batch sound.2 one)

-- a list that goes on with a command that the database of the load refuses
pub refused-next : (lists : Lists) (rows : List Commit) (edition : Edition) (command : Command)
    → next_of rows ≡ Some (commits.Local edition command) → is_known lists command ≡ false → are_replayable lists rows ≡ false
refused-next lists rows edition command next unknown =
    ap (are_replayable lists) (next-first rows (commits.Local edition command) next)
    ∙ ap (λ b. b && are_replayable lists (drop 1 rows)) unknown

-- where no crossing is found and something is left, it isn't sound
pub unsound-none : (lists : Lists) (last : ℕ) (merge : MergeState) → FindsNone merge last
    → ((place : ℕ) → place < count_of merge → IsAtCrossing (left_of merge place))
    → (((place : ℕ) → place < count_of merge → left_of merge place ≡ []) → ⊥) → IsUnsound lists last merge
unsound-none lists last merge none stops some after sound = some (none-left lists last after merge none stops sound).1

-- all lists stop at a crossing once their commits of one warehouse were passed
pub all-stop : (lists : Lists) (old new : MergeState) → PassesAllLocals lists old new → (place : ℕ)
    → place < count_of new → IsAtCrossing (left_of new place)
all-stop lists old new passes place within =
    (passes.each place (omega (arith, passes.count, within))).stops

-- a commit of one warehouse is passed in one list
pub sound-local : (lists : Lists) (last after : ℕ) (old new : MergeState) (place : ℕ) (edition : Edition)
    (command : Command) → count_of new ≡ count_of old → next_of (left_of old place) ≡ Some (commits.Local edition command)
    → left_of new place ≡ drop 1 (left_of old place)
    → ((other : ℕ) → other ≢ place → left_of new other ≡ left_of old other)
    → IsSoundFrom lists last after old → IsSoundFrom lists last after new
sound-local lists last after old new place edition command count next here others sound = record {
  in_step = record {
    crossings = sound.in_step.crossings;
    numbered = sound.in_step.numbered;
    named = ap (λ n. list_all (names_one_of n) sound.in_step.crossings) count ∙ sound.in_step.named;
    each = λ k within. crossings-same k (k == place) refl ∙ sound.in_step.each k (omega (arith, count, within));
    last = sound.in_step.last;
  };
  replayable = λ k within. replayable-still k (omega (arith, count, within)) (k == place) refl;
}
  where
    first : left_of old place ≡ commits.Local edition command ∷ left_of new place
    first = next-first (left_of old place) (commits.Local edition command) next
        ∙ ap (λ rows. commits.Local edition command ∷ rows) (sym here)

    crossings-same : (k : ℕ) → (same : Bool) → (k == place) ≡ same
        → crossings_of (left_of new k) ≡ crossings_of (left_of old k)
    crossings-same k true is =
        let at : k ≡ place = eqb-true k place is in
        subst (λ k. crossings_of (left_of new k) ≡ crossings_of (left_of old k)) (sym at) (sym (ap crossings_of first))
    crossings-same k false is = ap crossings_of (others k (eqb-false k place is))

    replayable-still : (k : ℕ) → k < count_of old → (same : Bool) → (k == place) ≡ same
        → are_replayable lists (left_of new k) ≡ true
    replayable-still k within true is =
        let at : k ≡ place = eqb-true k place is in
        let was : are_replayable lists (left_of old place) ≡ true =
        subst (λ k. are_replayable lists (left_of old k) ≡ true) at (sound.replayable k within) in
        subst (λ k. are_replayable lists (left_of new k) ≡ true) (sym at)
        (and_parts (is_known lists command) (are_replayable lists (left_of new place))
        (sym (ap (are_replayable lists) first) ∙ was)).1
    replayable-still k within false is =
        ap (are_replayable lists) (others k (eqb-false k place is)) ∙ sound.replayable k within
