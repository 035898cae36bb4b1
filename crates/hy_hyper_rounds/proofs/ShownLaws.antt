-- Snapshots that show the same in databases that have kept the same: opened, closed and asked, they are answered alike.
use Rattle.std.proofs.Common.{◌≡◌, ◌⊎◌, ◌∙◌, ◌+◌, ◌-◌, ℕ, zero, suc, List, [], ◌∷◌, ◌++◌, Option, Some, Result, Ok, Err, IfSome, IsSomeAnd, length, map, remove, slice_get, codes, decimal, flat_map, inl, inr, refl, sym, ap, subst, subst₂, arith}
use Rattle.hy_worlds.specs.Origins.{Origin}
use Rattle.hy_rows.specs.Spelling.{Spells, tables_of}
use Rattle.hy_rows.specs.Tables.{Lists, Tables, all_of}
use Rattle.hy_rows.specs.declared.item.Item.{Item}
use Rattle.hy_schema.specs.Conditions.{first_broken}
use Rattle.hy_schema.specs.declared.refusal.Refusal.TheVariants as refusals
use Rattle.hy_commands.specs.Parts.{Database, rows_of}
use Rattle.hy_query.specs.Language.{query_of}
use Rattle.hy_query.specs.Meaning.{answer_of}
use Rattle.hy_query.specs.Queries.{QueryState}
use Rattle.hy_partition.specs.Jobs.{Log}
use Rattle.hy_partition.specs.Partition.{PartitionState}
use Rattle.hy_partition.specs.Snapshots.{SnapshotState}
use Rattle.hy_partition.specs.Steps.{Closes, Forks, ForksFrom, KeepsJob}
use Rattle.hy_crossing.specs.Crossings.{database_behind}
use Rattle.hy_crossing.specs.Lists.{Pairwise}
use Rattle.hy_forks.specs.Forks.{ClosesHere, ForksAll, ForksAllFrom, ForksFromHere, ForksHere, Shown, SpellsDatabase, shown}
use Rattle.hy_forks.specs.Partitions.{AreWhole}
use Rattle.hy_forks.proofs.PlaceLaws.{get-within, some-map, some-out, some-this}
use Rattle.hy_forks.proofs.RelationLaws.{pairs-get, pairs-map}
use Rattle.hy_session.specs.Reports.{broken_condition}
use Rattle.hy_session.specs.Snapshots.{items_of, lists_of_all}
use Rattle.hy_session.specs.Texts.{answer_text}
use Rattle.hy_script.specs.Databases.{DatabaseState, HasName, IsNameAt, OpenSnapshot}
use Rattle.hy_script.specs.Steps.{ClosesAt, Opens, OpensFrom}
use Rattle.hy_script.specs.Answers.{AnswersCheck, AnswersQuery, AsksName, ClosesName, OpensName, OpensNameFrom, check_text, commits_text, query_text, snapshot_text}
use Rattle.hy_hyper_rounds.specs.Restarts.{AreNamedTheSame, HaveNamesOnce, HaveTheSame, KeepTheSame, ShowTheSame, TellsShortage}
use Rattle.hy_hyper_rounds.proofs.AcrossLaws.{Stays, pairs-alike, stays-alike}
use Rattle.hy_hyper_rounds.proofs.AlikeLaws.{some-same}
use Rattle.hy_hyper_rounds.proofs.NamesLaws.{once-pushed, once-removed, one-place}
use Rattle.hy_hyper_rounds.proofs.SayLaws.{behind-alike, say-nothing}
-- what whoever answers events needs of names
pub use Rattle.hy_hyper_rounds.proofs.NamesLaws.{misnamed-alike, misnamed-back, named-answered, names-back, names-same}

-- ---- pairs

-- the elements of both lists at a place
pairs-there : {Row : Type 0} (relation : ℕ → Row → Row → Type 0) (number : ℕ) (ones others : List Row)
    → Pairwise relation number ones others → (place : ℕ) (one other : Row) → slice_get ones place ≡ Some one
    → slice_get others place ≡ Some other → relation (number + place) one other
pairs-there {Row = Row} relation number ones others pairs place one other is other_is =
    let at = pairs-get relation number ones others pairs place (get-within ones place one is) in
    subst₂ (λ (old new : Row). relation (number + place) old new) (some-same at.old one (sym at.old_is ∙ is))
    (some-same at.new other (sym at.new_is ∙ other_is)) at.relates

-- lists of one length, in which what stands at one place is related by every number
pairs-each : {Row : Type 0} (relation : ℕ → Row → Row → Type 0) (number : ℕ) (ones others : List Row)
    → length others ≡ length ones
    → ((place : ℕ) (one other : Row) → slice_get ones place ≡ Some one → slice_get others place ≡ Some other
    → (number : ℕ) → relation number one other)
    → Pairwise relation number ones others
pairs-each relation number [] [] count each = tt
pairs-each relation number (one ∷ ones) (other ∷ others) count each = (
  each zero one other refl refl number,
  pairs-each relation (suc number) ones others (omega (arith, count)) (λ place. each (suc place)),
)
pairs-each relation number [] (other ∷ others) count each = absurd (omega (arith, count))
pairs-each relation number (one ∷ ones) [] count each = absurd (omega (arith, count))

-- one pair more at the end
pairs-pushed : {Row : Type 0} (relation : ℕ → Row → Row → Type 0) (number : ℕ) (ones others : List Row) (one other : Row)
    → Pairwise relation number ones others → ((number : ℕ) → relation number one other)
    → Pairwise relation number (ones ++ one ∷ []) (others ++ other ∷ [])
pairs-pushed relation number [] [] one other pairs last = (last number, tt)
pairs-pushed relation number (first ∷ ones) (its ∷ others) one other pairs last =
    (pairs.0, pairs-pushed relation (suc number) ones others one other pairs.1 last)
pairs-pushed relation number [] (its ∷ others) one other pairs last = absurd pairs
pairs-pushed relation number (first ∷ ones) [] one other pairs last = absurd pairs

-- counted from another number, where the relation is the same by each; and one pair less
module _ {Row : Type 0} (relation : ℕ → Row → Row → Type 0)
    (any : (number next : ℕ) (one other : Row) → relation number one other → relation next one other) where
  pairs-counted : (number next : ℕ) (ones others : List Row) → Pairwise relation number ones others
      → Pairwise relation next ones others
  pairs-counted number next [] [] pairs = tt
  pairs-counted number next (one ∷ ones) (other ∷ others) pairs =
      (any number next one other pairs.0, pairs-counted (suc number) (suc next) ones others pairs.1)
  pairs-counted number next [] (other ∷ others) pairs = absurd pairs
  pairs-counted number next (one ∷ ones) [] pairs = absurd pairs

  pairs-removed : (number : ℕ) (ones others : List Row) → Pairwise relation number ones others → (place : ℕ)
      → Pairwise relation number (remove ones place) (remove others place)
  pairs-removed number [] [] pairs zero = tt
  pairs-removed number [] [] pairs (suc place) = tt
  pairs-removed number (one ∷ ones) (other ∷ others) pairs zero =
      pairs-counted (suc number) number ones others pairs.1
  pairs-removed number (one ∷ ones) (other ∷ others) pairs (suc place) =
      (pairs.0, pairs-removed (suc number) ones others pairs.1 place)
  pairs-removed number [] (other ∷ others) pairs place = absurd pairs
  pairs-removed number (one ∷ ones) [] pairs place = absurd pairs

-- ---- partitions whose jobs stay

stays-job : (number : ℕ) (old new : PartitionState) → KeepsJob old new → Stays number old new
stays-job number old new job = record {
  terms = job.terms;
  kept = job.kept;
  running = job.running;
  part = λ none. job.part ∙ none;
  finished = job.finished;
}

-- a snapshot of all was taken, or one of what another one sees, or one was closed
taken-stays : (n : ℕ) (kit : Origin) (log known : Log) (olds news : List PartitionState) (snapshots : List SnapshotState)
    → ForksAll n kit log known olds news snapshots → Pairwise Stays 1 olds news
taken-stays n kit log known olds news snapshots forks =
    pairs-map (ForksHere n kit log known snapshots) Stays (λ number old new here.
    let it = some-out (λ snapshot. Forks n kit log known old new snapshot) (slice_get snapshots (number - 1)) here in
    stays-job number old new it.2.job) 1 olds news forks.each

from-stays : (kit : Origin) (all : List SnapshotState) (olds news : List PartitionState) (snapshots : List SnapshotState)
    → ForksAllFrom kit all olds news snapshots → Pairwise Stays 1 olds news
from-stays kit all olds news snapshots forks =
    pairs-map (ForksFromHere kit all snapshots) Stays (λ number old new here.
    let it = some-out (λ snapshot. IsSomeAnd (slice_get all (number - 1)) (λ from. ForksFrom kit from old new snapshot))
    (slice_get snapshots (number - 1)) here in
    let seen = some-out (λ from. ForksFrom kit from old new it.0) (slice_get all (number - 1)) it.2 in
    stays-job number old new seen.2.job) 1 olds news forks.each

closed-stays : (snapshots : List SnapshotState) (olds news : List PartitionState)
    → Pairwise (ClosesHere snapshots) 1 olds news → Pairwise Stays 1 olds news
closed-stays snapshots olds news =
    pairs-map (ClosesHere snapshots) Stays (λ number old new here.
    let it = some-out (λ snapshot. Closes old new snapshot.child) (slice_get snapshots (number - 1)) here in
    stays-job number old new it.2.job) 1 olds news

-- partitions of one load are of no other
load-same : (first second : Lists) (ones others : List PartitionState) → Pairwise KeepTheSame 1 ones others
    → AreWhole first ones → AreWhole second others → second ≡ first
load-same first second [] others pairs whole its_whole = absurd (omega (arith, whole.some))
load-same first second (one ∷ ones) (other ∷ others) pairs whole its_whole =
    sym (its_whole.partitions.each zero).0 ∙ pairs.0.load ∙ (whole.partitions.each zero).0
load-same first second (one ∷ ones) [] pairs whole its_whole = absurd pairs

-- ---- snapshots that show the same

module _ (n : ℕ) where
  commits-alike : (number : ℕ) (ones others : List SnapshotState) → Pairwise (ShowTheSame n) number ones others
      → flat_map commits_text others ≡ flat_map commits_text ones
  commits-alike number [] [] pairs = refl
  commits-alike number (one ∷ ones) (other ∷ others) pairs =
      ap (λ (count : ℕ). codes " " ++ decimal count ++ flat_map commits_text others) pairs.0.commits
      ∙ ap (λ (rest : List ℕ). commits_text one ++ rest) (commits-alike (suc number) ones others pairs.1)
  commits-alike number [] (other ∷ others) pairs = absurd pairs
  commits-alike number (one ∷ ones) [] pairs = absurd pairs

  snapshot-alike : (name : List ℕ) (ones others : List SnapshotState) → Pairwise (ShowTheSame n) 1 ones others
      → snapshot_text name others ≡ snapshot_text name ones
  snapshot-alike name ones others pairs =
      ap (λ (rest : List ℕ). codes "snapshot " ++ name ++ codes " commits" ++ rest ++ codes "\n")
      (commits-alike 1 ones others pairs)

  -- the rows that they have together
  rows-alike : (number : ℕ) (ones others : List SnapshotState) → Pairwise (ShowTheSame n) number ones others
      → map (λ (snapshot : SnapshotState). tables_of n snapshot.bytes) others
      ≡ map (λ (snapshot : SnapshotState). tables_of n snapshot.bytes) ones
  rows-alike number [] [] pairs = refl
  rows-alike number (one ∷ ones) (other ∷ others) pairs =
      ap (λ (tables : Tables). tables ∷ map (λ (snapshot : SnapshotState). tables_of n snapshot.bytes) others) pairs.0.rows
      ∙ ap (λ (later : List Tables). tables_of n one.bytes ∷ later) (rows-alike (suc number) ones others pairs.1)
  rows-alike number [] (other ∷ others) pairs = absurd pairs
  rows-alike number (one ∷ ones) [] pairs = absurd pairs

  items-alike : (number : ℕ) (ones others : List SnapshotState) → Pairwise (ShowTheSame n) number ones others
      → items_of others ≡ items_of ones
  items-alike number [] [] pairs = refl
  items-alike number (one ∷ ones) (other ∷ others) pairs = pairs.0.items
  items-alike number [] (other ∷ others) pairs = absurd pairs
  items-alike number (one ∷ ones) [] pairs = absurd pairs

  lists-alike : (ones others : List SnapshotState) → Pairwise (ShowTheSame n) 1 ones others
      → lists_of_all n others ≡ lists_of_all n ones
  lists-alike ones others pairs =
      ap (λ (warehouses : List Tables). record { items = items_of others; tables = all_of warehouses })
      (rows-alike 1 ones others pairs)
      ∙ ap (λ (items : List Item). record { items = items; tables = (lists_of_all n ones).tables })
      (items-alike 1 ones others pairs)

  -- what is answered by them
  query_text-alike : (ones others : List SnapshotState) → lists_of_all n others ≡ lists_of_all n ones
      → (result : Result QueryState ℕ) → query_text n others result ≡ query_text n ones result
  query_text-alike ones others same (Ok query) = ap (λ (lists : Lists). answer_text (answer_of query lists)) same
  query_text-alike ones others same (Err place) = refl

  broken-alike : (ones others : List SnapshotState) → lists_of_all n others ≡ lists_of_all n ones
      → broken_condition n others ≡ broken_condition n ones
  unfolding broken_condition
  broken-alike ones others same = ap (λ (lists : Lists). first_broken lists.tables) same

-- ---- snapshots that spell one database, or show what such as show the same do

each-this : {Row : Type 0} (F : Row → Type 0) (found : Option Row) (row : Row) → found ≡ Some row → IfSome found F
    → F row
each-this {Row = Row} F found row is holds = subst (λ (value : Option Row). IfSome value F) is holds

spelled-alike : (n : ℕ) (database : Database) (ones others : List SnapshotState) → SpellsDatabase n database ones
    → SpellsDatabase n database others
    → ((place : ℕ) (one other : SnapshotState) → slice_get ones place ≡ Some one → slice_get others place ≡ Some other
    → other.commits ≡ one.commits)
    → Pairwise (ShowTheSame n) 1 ones others
spelled-alike n database ones others spells its_spells commits =
    pairs-each (ShowTheSame n) 1 ones others (its_spells.count ∙ sym spells.count) (λ place one other is its_is number.
    let here = each-this (Spelled place) (slice_get ones place) one is (spells.each place) in
    let there = each-this (Spelled place) (slice_get others place) other its_is (its_spells.each place) in
    record {
      items = there.0 ∙ sym here.0;
      commits = commits place one other is its_is;
      rows = there.1.rows ∙ sym here.1.rows;
    })
  where
    Spelled : ℕ → SnapshotState → Type 0
    Spelled place snapshot =
        (snapshot.load.items ≡ database.items) × Spells n snapshot.bytes (rows_of (suc place) database)

-- behind how many commits a snapshot is that was just taken
taken-commits : (n : ℕ) (kit : Origin) (log known : Log) (olds news : List PartitionState) (snapshots : List SnapshotState)
    → ForksAll n kit log known olds news snapshots → (place : ℕ) (snapshot : SnapshotState)
    → slice_get snapshots place ≡ Some snapshot
    → (p : PartitionState) × (slice_get olds place ≡ Some p) × (snapshot.commits ≡ length p.kept)
taken-commits n kit log known olds news snapshots forks place snapshot is =
    let at = pairs-get (ForksHere n kit log known snapshots) 1 olds news forks.each place
    (omega (arith, get-within snapshots place snapshot is, forks.count)) in
    let same : 1 + place - 1 ≡ place = omega arith in
    let fork : Forks n kit log known at.old at.new snapshot =
    some-this (λ it. Forks n kit log known at.old at.new it) (slice_get snapshots (1 + place - 1)) snapshot
    (ap (λ (k : ℕ). slice_get snapshots k) same ∙ is) at.relates in
    (at.old, at.old_is, fork.commits)

-- what is shown, in place of who shows it
abbrev ShownAlike : ℕ → ℕ → Shown → Shown → Type 0
ShownAlike n number one other =
    (other.load.items ≡ one.load.items) × (other.commits ≡ one.commits)
    × (tables_of n other.bytes ≡ tables_of n one.bytes)

shown-forth : (n number : ℕ) (ones others : List SnapshotState) → Pairwise (ShowTheSame n) number ones others
    → Pairwise (ShownAlike n) number (map shown ones) (map shown others)
shown-forth n number [] [] pairs = tt
shown-forth n number (one ∷ ones) (other ∷ others) pairs =
    ((pairs.0.items, pairs.0.commits, pairs.0.rows), shown-forth n (suc number) ones others pairs.1)
shown-forth n number [] (other ∷ others) pairs = absurd pairs
shown-forth n number (one ∷ ones) [] pairs = absurd pairs

shown-back : (n number : ℕ) (ones others : List SnapshotState)
    → Pairwise (ShownAlike n) number (map shown ones) (map shown others) → Pairwise (ShowTheSame n) number ones others
shown-back n number [] [] pairs = tt
shown-back n number (one ∷ ones) (other ∷ others) pairs = (
  record { items = pairs.0.0; commits = pairs.0.1; rows = pairs.0.2 },
  shown-back n (suc number) ones others pairs.1,
)
shown-back n number [] (other ∷ others) pairs = absurd pairs
shown-back n number (one ∷ ones) [] pairs = absurd pairs

shows-alike : (n : ℕ) (ones froms others its_froms : List SnapshotState) → map shown ones ≡ map shown froms
    → map shown others ≡ map shown its_froms → Pairwise (ShowTheSame n) 1 froms its_froms
    → Pairwise (ShowTheSame n) 1 ones others
shows-alike n ones froms others its_froms shows its_shows same =
    shown-back n 1 ones others
    (subst₂ (λ (first second : List Shown). Pairwise (ShownAlike n) 1 first second) (sym shows) (sym its_shows)
    (shown-forth n 1 froms its_froms same))

-- ---- databases in which a snapshot is opened, or asked

module _ (n : ℕ) (one other : DatabaseState) (have : HaveTheSame n one other) where
  -- the one of an open name in both
  same-named : (name : List ℕ) (place its_place : ℕ) (opened its_opened : OpenSnapshot)
      → IsNameAt one.snapshots name place → IsNameAt other.snapshots name its_place
      → slice_get one.snapshots place ≡ Some opened → slice_get other.snapshots its_place ≡ Some its_opened
      → Pairwise (ShowTheSame n) 1 opened.parts its_opened.parts
  same-named name place its_place opened its_opened there its_there is its_is =
      let at : its_place ≡ place = one-place n one other have name place its_place there its_there in
      let named : AreNamedTheSame n (1 + place) opened its_opened =
      pairs-there (AreNamedTheSame n) 1 one.snapshots other.snapshots have.snapshots place opened its_opened is
      (ap (λ (k : ℕ). slice_get other.snapshots k) (sym at) ∙ its_is) in
      named.parts

  module _ (last its : DatabaseState) where
    -- the snapshots that were opened show the same, and the jobs stay
    have-opened : (name : List ℕ) (parts its_parts : List SnapshotState) → ¬ HasName one.snapshots name
        → Pairwise Stays 1 one.parts last.parts → Pairwise Stays 1 other.parts its.parts → last.log ≡ one.log
        → its.log ≡ other.log → last.snapshots ≡ one.snapshots ++ record { name = name; parts = parts } ∷ []
        → its.snapshots ≡ other.snapshots ++ record { name = name; parts = its_parts } ∷ []
        → Pairwise (ShowTheSame n) 1 parts its_parts → HaveTheSame n last its
    have-opened name parts its_parts free stays its_stays log its_log more its_more same =
        let opened : OpenSnapshot = record { name = name; parts = parts } in
        let its_opened : OpenSnapshot = record { name = name; parts = its_parts } in record {
          parts =
              pairs-alike Stays Stays stays-alike 1 one.parts other.parts last.parts its.parts have.parts stays its_stays;
          snapshots =
              subst₂ (λ (ones others : List OpenSnapshot). Pairwise (AreNamedTheSame n) 1 ones others) (sym more)
              (sym its_more)
              (pairs-pushed (AreNamedTheSame n) 1 one.snapshots other.snapshots opened its_opened have.snapshots
              (λ number. record { name = refl; parts = same }));
          once = subst HaveNamesOnce (sym more) (once-pushed one.snapshots opened have.once free);
          log = say-nothing one.log other.log last.log its.log have.log log its_log;
        }

    -- where the snapshot of a name was asked, and prints what those that show the same do
    asked-alike : (name : List ℕ) (prints : List SnapshotState → List ℕ → Type 0) (text more : List ℕ) (Alike : Type 0)
        → ((ones others : List SnapshotState) → Pairwise (ShowTheSame n) 1 ones others → prints ones text
        → prints others more → Alike)
        → AsksName name prints one last text → AsksName name prints other its more → Alike × HaveTheSame n last its
    asked-alike name prints text more Alike leads asks its_asks =
        let first = some-out (Prints text) (slice_get one.snapshots asks.place) asks.there in
        let second = some-out (Prints more) (slice_get other.snapshots its_asks.place) its_asks.there in
        let same = same-named name asks.place its_asks.place first.0 second.0
        (named text one.snapshots asks.place asks.there) (named more other.snapshots its_asks.place its_asks.there) first.1
        second.1 in (
          leads first.0.parts second.0.parts same first.2.1 second.2.1,
          subst₂ (HaveTheSame n) (sym asks.same) (sym its_asks.same) have,
        )
      where
        Prints : List ℕ → OpenSnapshot → Type 0
        Prints printed snapshot = (snapshot.name ≡ name) × prints snapshot.parts printed

        named : (printed : List ℕ) (snapshots : List OpenSnapshot) (place : ℕ)
            → IsSomeAnd (slice_get snapshots place) (Prints printed) → IsNameAt snapshots name place
        named printed snapshots place =
            some-map (Prints printed) (λ snapshot. snapshot.name ≡ name) (slice_get snapshots place)
            (λ snapshot holds. holds.0)

-- ---- the laws

-- a snapshot of all that is kept, which was opened in both
pub opened-alike : (n : ℕ) (name : List ℕ) (one last other its : DatabaseState) (text more : List ℕ)
    → HaveTheSame n one other → ¬ HasName one.snapshots name → OpensName n name one last text
    → OpensName n name other its more → (more ≡ text) × HaveTheSame n last its
opened-alike n name one last other its text more have free names its_names =
    let opens : Opens n name one last = names.opens in
    let its_opens : Opens n name other its = its_names.opens in
    let database : Database = database_behind opens.lists one.log in
    let load : its_opens.lists ≡ opens.lists =
    load-same opens.lists its_opens.lists one.parts other.parts have.parts opens.load its_opens.load in
    let its_spells : SpellsDatabase n database its_opens.parts =
    subst (λ (it : Database). SpellsDatabase n it its_opens.parts)
    (ap (λ (lists : Lists). database_behind lists other.log) load
    ∙ behind-alike opens.lists one.log other.log have.log) its_opens.spells in
    let same : Pairwise (ShowTheSame n) 1 opens.parts its_opens.parts =
    spelled-alike n database opens.parts its_opens.parts opens.spells its_spells (λ place first second is its_is.
    let taken = taken-commits n opens.kit one.log opens.known one.parts last.parts opens.parts opens.forks place first is in
    let its_taken = taken-commits n its_opens.kit other.log its_opens.known other.parts its.parts its_opens.parts
    its_opens.forks place second its_is in
    let kept : KeepTheSame (1 + place) taken.0 its_taken.0 =
    pairs-there KeepTheSame 1 one.parts other.parts have.parts place taken.0 its_taken.0 taken.1 its_taken.1 in
    its_taken.2 ∙ ap length kept.kept ∙ sym taken.2) in (
      its_names.prints ∙ snapshot-alike n name opens.parts its_opens.parts same ∙ sym names.prints,
      have-opened n one other have last its name opens.parts its_opens.parts free
          (taken-stays n opens.kit one.log opens.known one.parts last.parts opens.parts opens.forks)
          (taken-stays n its_opens.kit other.log its_opens.known other.parts its.parts its_opens.parts its_opens.forks)
          names.log its_names.log opens.snapshots its_opens.snapshots same,
    )

-- one of what an open one sees
pub opened_from-alike : (n : ℕ) (name from : List ℕ) (one last other its : DatabaseState) (text more : List ℕ)
    → HaveTheSame n one other → ¬ HasName one.snapshots name → OpensNameFrom name from one last text
    → OpensNameFrom name from other its more → (more ≡ text) × HaveTheSame n last its
opened_from-alike n name from one last other its text more have free names its_names =
    let opens : OpensFrom names.place name one last = names.opens in
    let its_opens : OpensFrom its_names.place name other its = its_names.opens in
    let same : Pairwise (ShowTheSame n) 1 opens.parts its_opens.parts =
    shows-alike n opens.parts opens.from.parts its_opens.parts its_opens.from.parts opens.shows its_opens.shows
    (same-named n one other have from names.place its_names.place opens.from its_opens.from names.there
    its_names.there opens.there its_opens.there) in (
      its_names.prints ∙ snapshot-alike n name opens.parts its_opens.parts same ∙ sym names.prints,
      have-opened n one other have last its name opens.parts its_opens.parts free
          (from-stays opens.kit opens.from.parts one.parts last.parts opens.parts opens.forks)
          (from-stays its_opens.kit its_opens.from.parts other.parts its.parts its_opens.parts its_opens.forks)
          names.log its_names.log opens.snapshots its_opens.snapshots same,
    )

-- the one of a name, which was closed
pub closed-alike : (n : ℕ) (name : List ℕ) (one last other its : DatabaseState) (text more : List ℕ)
    → HaveTheSame n one other → ClosesName name one last text → ClosesName name other its more
    → (more ≡ text) × HaveTheSame n last its
closed-alike n name one last other its text more have names its_names =
    let closes : ClosesAt names.place one last = names.closes in
    let its_closes : ClosesAt its_names.place other its = its_names.closes in
    let at : its_names.place ≡ names.place =
    one-place n one other have name names.place its_names.place names.there its_names.there in
    let left : its.snapshots ≡ remove other.snapshots names.place =
    its_closes.snapshots ∙ ap (λ (place : ℕ). remove other.snapshots place) at in (
      its_names.prints ∙ sym names.prints,
      record {
        parts =
            pairs-alike Stays Stays stays-alike 1 one.parts other.parts last.parts its.parts have.parts
            (closed-stays closes.snapshot.parts one.parts last.parts closes.closes)
            (closed-stays its_closes.snapshot.parts other.parts its.parts its_closes.closes);
        snapshots =
            subst₂ (λ (ones others : List OpenSnapshot). Pairwise (AreNamedTheSame n) 1 ones others)
            (sym closes.snapshots) (sym left)
            (pairs-removed (AreNamedTheSame n) (λ number next first second same. record {
              name = same.name;
              parts = same.parts;
            }) 1 one.snapshots other.snapshots have.snapshots names.place);
        once = subst HaveNamesOnce (sym closes.snapshots) (once-removed one.snapshots names.place have.once);
        log = say-nothing one.log other.log last.log its.log have.log closes.log its_closes.log;
      },
    )

-- a query to the one of a name, for which memory may have lacked
pub query-alike : (n : ℕ) (name asked : List ℕ) (one last other its : DatabaseState)
    (text more : List ℕ) → HaveTheSame n one other → AsksName name (AnswersQuery n asked) one last text
    → AsksName name (AnswersQuery n asked) other its more
    → ((more ≡ text) ⊎ TellsShortage text ⊎ TellsShortage more) × HaveTheSame n last its
query-alike n name asked one last other its text more have =
    asked-alike n one other have last its name (AnswersQuery n asked) text more
    ((more ≡ text) ⊎ TellsShortage text ⊎ TellsShortage more) (λ ones others same answers its_answers. elim answers [
      | inl is ↦ elim its_answers [
        | inl its_is ↦
            inl (its_is ∙ query_text-alike n ones others (lists-alike n ones others same) (query_of asked) ∙ sym is)
        | inr short ↦ inr (inr (refusals.NoMemory, inr refl, short.1))
      ]
      | inr short ↦ inr (inl (refusals.NoMemory, inr refl, short.1))
    ])

-- the conditions tested on the one of a name, for which memory may have lacked
pub check-alike : (n : ℕ) (name : List ℕ) (one last other its : DatabaseState) (text more : List ℕ)
    → HaveTheSame n one other → AsksName name (AnswersCheck n) one last text
    → AsksName name (AnswersCheck n) other its more
    → ((more ≡ text) ⊎ TellsShortage text ⊎ TellsShortage more) × HaveTheSame n last its
check-alike n name one last other its text more have =
    asked-alike n one other have last its name (AnswersCheck n) text more
    ((more ≡ text) ⊎ TellsShortage text ⊎ TellsShortage more) (λ ones others same answers its_answers. elim answers [
      | inl is ↦ elim its_answers [
        | inl its_is ↦
            inl (its_is ∙ ap check_text (broken-alike n ones others (lists-alike n ones others same)) ∙ sym is)
        | inr short ↦ inr (inr (refusals.NoMemory, inr refl, short))
      ]
      | inr short ↦ inr (inl (refusals.NoMemory, inr refl, short))
    ])
