-- An event is answered alike where the partitions were told less of the serial list.
use Rattle.std.proofs.Common.{◌≡◌, ◌⊎◌, ◌∙◌, ◌≤◌, ◌-◌, ℕ, zero, suc, true, false, List, [], ◌∷◌, Option, None, Some, MatchOption, IsSomeAnd, slice_get, refl, sym, ap, subst, inl, inr}
use Rattle.hy_worlds.specs.Origins.{Origin}
use Rattle.hy_rows.specs.Tables.{Lists}
use Rattle.hy_schema.specs.declared.refusal.Refusal.{Refusal}
use Rattle.hy_schema.specs.declared.refusal.Refusal.TheVariants as refusals
use Rattle.hy_commands.specs.declared.command.Command.{Command}
use Rattle.hy_commands.specs.declared.reply.Reply.{Reply}
use Rattle.hy_commands.specs.Commands.{home_of}
use Rattle.hy_events.specs.declared.event.Event.{Event}
use Rattle.hy_events.specs.declared.event.Event.TheVariants as events
use Rattle.hy_events.specs.Replies.{reply_text}
use Rattle.hy_partition.specs.declared.job.Progress.{Progress}
use Rattle.hy_partition.specs.Jobs.{Log, RunningJob, begun}
use Rattle.hy_partition.specs.Partition.{PartitionState}
use Rattle.hy_partition.specs.Snapshots.{SnapshotState}
use Rattle.hy_partition.specs.Steps.{Closes, Forks, ForksFrom, StepsTo, with_job}
use Rattle.hy_crossing.specs.Crossings.{IsPartition}
use Rattle.hy_forks.specs.Forks.{ClosesHere, ForksFromHere, ForksHere, IsUnforked, IsUnforkedUntold, IsWhyUnforked, SomeLacks}
use Rattle.hy_forks.specs.Partitions.{AreWhole}
use Rattle.hy_script.specs.declared.answer.Request.{Request}
use Rattle.hy_script.specs.declared.answer.Request.TheVariants as requests
use Rattle.hy_script.specs.Databases.{DatabaseState}
use Rattle.hy_script.specs.Steps.{ClosesAt, IsDone, IsLimited, Opens, OpensFrom, Runs, RunsAcross, is_crossing}
use Rattle.hy_script.specs.Answers.{Answers, AnswersCheck, AnswersQuery, Asks, AsksName, AsksPart, ClosesName, Grants, IfThere, IsMisnamed, OpensName, OpensNameFrom, OpensNone, OpensNoneFrom, RunsWhole, progress_text, refused_text}
use Rattle.hy_hyper_rounds.proofs.CrossLaws.{crossed-told, still-told}
use Rattle.hy_hyper_rounds.proofs.ListLaws.{AreBegins, IsAt, at-told, each-told, length-told, pairs-told, with_seens}
use Rattle.hy_hyper_rounds.proofs.SnapshotLaws.{closes-told, forks-told, forks_from-told, unforked-told, untold-told}
use Rattle.hy_hyper_rounds.proofs.StepLaws.{HoldsToldLess, ended-told, job-told, steps-told, told-same, with_seen}

-- ---- one warehouse

done-told : (command : Command) (before after : Log) (old new : PartitionState) (reply : Reply)
    → IsDone command before after old new reply
    → HoldsToldLess (λ old new. IsDone command before after old new reply) old new
done-told command before after old new reply done seen begins =
    let ended = ended-told (with_job old done.job) done.ended (begun done.job) (Some before) (Some after) done.ends seen begins
    in (
      ended.0,
      (ended.1.0, ended.1.1 ∙ sym (ap (λ (p : PartitionState). p.seen) done.leaves)),
      record {
        accepted = done.accepted;
        job = done.job;
        command_is = done.command_is;
        edition = done.edition;
        ended = with_seen ended.0 done.ended;
        ends = ended.2;
        replies = done.replies;
        leaves = ap (with_seen ended.0) done.leaves;
      },
    )

runs-told : (command : Command) (before after : Log) (old new : PartitionState) (reply : Reply)
    → Runs command before after old new reply
    → HoldsToldLess (λ old new. Runs command before after old new reply) old new
runs-told command before after old new reply runs = elim runs [
  | inl done ↦ λ seen begins.
      let less = done-told command before after old new reply done seen begins in (less.0, less.1, inl less.2)
  | inr unbegun ↦ still-told (λ old new. Runs command before after old new reply) old new unbegun.3
      (λ seen same. inr (unbegun.0, unbegun.1, unbegun.2, same, unbegun.4))
]

step-told : (before after : Log) (old new : PartitionState) (text : List ℕ) (running : Option RunningJob)
    → MatchOption running ((after ≡ before) × (new ≡ old) × (text ≡ refused_text refusals.NotRunning)) (λ job.
    (progress : Progress) × StepsTo job (Some before) (Some after) old new progress × (text ≡ progress_text progress))
    → HoldsToldLess (λ old new. MatchOption running
    ((after ≡ before) × (new ≡ old) × (text ≡ refused_text refusals.NotRunning)) (λ job.
    (progress : Progress) × StepsTo job (Some before) (Some after) old new progress × (text ≡ progress_text progress)))
    old new
step-told before after old new text None none =
    still-told (λ old new. (after ≡ before) × (new ≡ old) × (text ≡ refused_text refusals.NotRunning)) old new none.1
    (λ seen same. (none.0, same, none.2))
step-told before after old new text (Some job) steps = λ seen begins.
    let less = steps-told old new job (Some before) (Some after) steps.0 steps.1 seen begins in
    (less.0, less.1, (steps.0, less.2, steps.2))

limited-told : (more : ℕ) (old new : PartitionState) (seen : Log) → IsLimited more old new
    → IsLimited more (with_seen seen old) (with_seen seen new)
limited-told more old new seen limited = record {
  allowed = limited.allowed;
  max = limited.max;
  job = job-told old new seen seen limited.job;
  seen = refl;
  open_snapshots = limited.open_snapshots;
  children = limited.children;
}

abbrev GrantsTo : Request → Log → Log → List ℕ → PartitionState → PartitionState → Type 0
GrantsTo request before after text old new = Grants request before after old new text

grants-told : (request : Request) (before after : Log) (old new : PartitionState) (text : List ℕ)
    → Grants request before after old new text → HoldsToldLess (GrantsTo request before after text) old new
grants-told (requests.Run command) before after old new text grants = λ seen begins.
    let less = runs-told command before after old new grants.0 grants.1 seen begins in
    (less.0, less.1, (grants.0, less.2, grants.2))
grants-told (requests.Begin command) before after old new text grants = elim grants.1 [
  | inl begun ↦ told-same (GrantsTo (requests.Begin command) before after text) old new
      (ap (λ (p : PartitionState). p.seen) begun.0.after)
      (λ seen. (
        grants.0,
        inl (
          record {
            accepted = begun.0.accepted;
            job = begun.0.job;
            command_is = begun.0.command_is;
            edition = begun.0.edition;
            after = ap (with_seen seen) begun.0.after;
          },
          begun.1,
        ),
      ))
  | inr unbegun ↦ still-told (GrantsTo (requests.Begin command) before after text) old new unbegun.2
      (λ seen same. (grants.0, inr (unbegun.0, unbegun.1, same, unbegun.3)))
]
grants-told requests.Step before after old new text grants = step-told before after old new text old.running grants
grants-told requests.Done before after old new text grants =
    told-same (GrantsTo requests.Done before after text) old new (ap (λ (p : PartitionState). p.seen) grants.1)
    (λ seen. (grants.0, ap (with_seen seen) grants.1, grants.2))
grants-told requests.Touched before after old new text grants =
    still-told (GrantsTo requests.Touched before after text) old new grants.1 (λ seen same. (grants.0, same, grants.2))
grants-told requests.Free before after old new text grants =
    still-told (GrantsTo requests.Free before after text) old new grants.1 (λ seen same. (grants.0, same, grants.2))
grants-told requests.Shared before after old new text grants =
    still-told (GrantsTo requests.Shared before after text) old new grants.1 (λ seen same. (grants.0, same, grants.2))
grants-told (requests.Limit more) before after old new text grants = elim grants.1 [
  | inl limited ↦ told-same (GrantsTo (requests.Limit more) before after text) old new limited.0.seen
      (λ seen. (grants.0, inl (limited-told more old new seen limited.0, limited.1)))
  | inr unlimited ↦ still-told (GrantsTo (requests.Limit more) before after text) old new unlimited.1
      (λ seen same. (grants.0, inr (unlimited.0, same, unlimited.2)))
]

-- ---- databases

-- the same database, whose partitions were told just this of the serial list
abbrev pub told_just : List Log → DatabaseState → DatabaseState
told_just seens database = record {
  parts = with_seens seens database.parts;
  snapshots = database.snapshots;
  log = database.log;
}

-- what holds between databases holds where the partitions were told less
abbrev pub HoldsOfLess : (DatabaseState → DatabaseState → Type 0) → DatabaseState → DatabaseState → Type 0
HoldsOfLess relation old new = (seens : List Log) → AreBegins seens old.parts
    → (nexts : List Log) × AreBegins nexts new.parts × relation (told_just seens old) (told_just nexts new)

-- nothing changes
pub same-told : (relation : DatabaseState → DatabaseState → Type 0) (old new : DatabaseState) → new ≡ old
    → ((seens : List Log) → told_just seens new ≡ told_just seens old
    → relation (told_just seens old) (told_just seens new))
    → HoldsOfLess relation old new
same-told relation old new same holds seens begins = (
  seens,
  subst (λ (database : DatabaseState). AreBegins seens database.parts) (sym same) begins,
  holds seens (ap (told_just seens) same),
)

-- ---- what is done to a warehouse that may not be there

abbrev IsThere : (ℕ → DatabaseState → DatabaseState → PartitionState → Type 0) → List ℕ → ℕ → DatabaseState
    → DatabaseState → Type 0
IsThere does text number old new = IfThere number old new text (does number old new)

module _ (does : ℕ → DatabaseState → DatabaseState → PartitionState → Type 0) (text : List ℕ) (old new : DatabaseState)
    (leads : (place : ℕ) (p : PartitionState) (seens : List Log) → AreBegins seens old.parts
    → (at : IsAt seens old.parts place p) → does (suc place) old new p
    → (nexts : List Log) × AreBegins nexts new.parts
    × does (suc place) (told_just seens old) (told_just nexts new) (with_seen at.seen p)) where
  found-told : (place : ℕ) (found : Option PartitionState) (seens : List Log) → AreBegins seens old.parts
      → MatchOption found ((new ≡ old) × (text ≡ refused_text refusals.NoSuchWarehouse)) (does (suc place) old new)
      → MatchOption found (slice_get (with_seens seens old.parts) place ≡ None) (IsAt seens old.parts place)
      → (nexts : List Log) × AreBegins nexts new.parts
      × IsThere does text (suc place) (told_just seens old) (told_just nexts new)
  found-told place None seens begins done none =
      let same = same-told (λ old new. (new ≡ old) × (text ≡ refused_text refusals.NoSuchWarehouse)) old new done.0
      (λ seens same. (same, done.1)) seens begins in (
        same.0,
        same.1,
        subst (λ found. MatchOption found ((told_just same.0 new ≡ told_just seens old)
            × (text ≡ refused_text refusals.NoSuchWarehouse))
            (does (suc place) (told_just seens old) (told_just same.0 new))) (sym none) same.2,
      )
  found-told place (Some p) seens begins done at =
      let less = leads place p seens begins at done in (
        less.0,
        less.1,
        subst (λ found. MatchOption found ((told_just less.0 new ≡ told_just seens old)
            × (text ≡ refused_text refusals.NoSuchWarehouse))
            (does (suc place) (told_just seens old) (told_just less.0 new))) (sym at.there) less.2,
      )

  there-told : (number : ℕ) → IsThere does text number old new → HoldsOfLess (IsThere does text number) old new
  there-told zero none = same-told (IsThere does text zero) old new none.0 (λ seens same. (same, none.1))
  there-told (suc place) there = λ seens begins.
      found-told place (slice_get old.parts place) seens begins there (at-told seens old.parts place begins)

-- what was granted to the partition at a place
part-told : (request : Request) (text : List ℕ) (old new : DatabaseState) (place : ℕ) (p : PartitionState)
    (seens : List Log) → (at : IsAt seens old.parts place p) → AsksPart (suc place) request old new text p
    → (nexts : List Log) × AreBegins nexts new.parts
    × AsksPart (suc place) request (told_just seens old) (told_just nexts new) text (with_seen at.seen p)
part-told request text old new place p seens at asks =
    let granted = grants-told request old.log new.log p asks.0 text asks.1 at.seen at.begins in
    let sets = at.sets granted.0 asks.0 granted.1 in (
      sets.0,
      subst (AreBegins sets.0) (sym (ap (λ (database : DatabaseState). database.parts) asks.2)) sets.1,
      (
        with_seen granted.0 asks.0,
        granted.2,
        ap (λ (database : DatabaseState). record {
          parts = with_seens sets.0 database.parts;
          snapshots = database.snapshots;
          log = new.log;
        }) asks.2
            ∙ ap (λ parts. record { parts = parts; snapshots = old.snapshots; log = new.log }) (sym sets.2),
      ),
    )

asks-told : (number : ℕ) (request : Request) (old new : DatabaseState) (text : List ℕ) → Asks number request old new text
    → HoldsOfLess (λ old new. Asks number request old new text) old new
asks-told number request old new text asks =
    there-told (λ number old new. AsksPart number request old new text) text old new
    (λ place p seens begins at done. part-told request text old new place p seens at done) number asks

-- ---- commands over several warehouses

whole-told : (lists : Lists) (seens : List Log) (parts : List PartitionState) → AreBegins seens parts
    → AreWhole lists parts → AreWhole lists (with_seens seens parts)
whole-told lists seens parts begins whole = record {
  some = subst (λ n. 1 ≤ n) (sym (length-told seens parts begins)) whole.some;
  partitions = record {
    count = length-told seens parts begins ∙ whole.partitions.count;
    each = each-told (λ place. IsPartition lists (suc place)) (λ place seen p is. is) seens parts begins
        whole.partitions.each;
  };
  whole = each-told (λ place p. p.part ≡ None) (λ place seen p is. is) seens parts begins whole.whole;
}

across-told : (command : Command) (old new : DatabaseState) (reply : Reply) → RunsAcross command old new reply
    → HoldsOfLess (λ old new. RunsAcross command old new reply) old new
across-told command old new reply runs seens begins =
    let crossed = crossed-told runs.lists runs.job old.log new.log old.parts new.parts runs.answer runs.crosses seens begins
    in (
      crossed.0,
      crossed.1,
      record {
        lists = runs.lists;
        load = whole-told runs.lists seens old.parts begins runs.load;
        job = runs.job;
        command_is = runs.command_is;
        edition = runs.edition;
        answer = runs.answer;
        crosses = crossed.2;
        replies = runs.replies;
        snapshots = runs.snapshots;
      },
    )

abbrev RunsThere : Command → List ℕ → ℕ → DatabaseState → DatabaseState → PartitionState → Type 0
RunsThere command text number old new p =
    ((is_crossing command ≡ true) × (reply : Reply) × RunsAcross command old new reply × (text ≡ reply_text reply))
    ⊎ ((is_crossing command ≡ false) × AsksPart number (requests.Run command) old new text p)

whole_command-told : (command : Command) (old new : DatabaseState) (text : List ℕ) → RunsWhole command old new text
    → HoldsOfLess (λ old new. RunsWhole command old new text) old new
whole_command-told command old new text =
    there-told (RunsThere command text) text old new
    (λ place p seens begins at done. elim done [
      | inl across ↦
          let less = across-told command old new across.1 across.2 seens begins in
          (less.0, less.1, inl (across.0, across.1, less.2, across.3))
      | inr home ↦
          let less = part-told (requests.Run command) text old new place p seens at home.1 in
          (less.0, less.1, inr (home.0, less.2))
    ]) (home_of command)

-- ---- snapshots

some-told : {X : Type 0} (found : Option X) (relation : X → PartitionState → PartitionState → Type 0)
    → ((x : X) (old new : PartitionState) → relation x old new → HoldsToldLess (relation x) old new)
    → (old new : PartitionState) → IsSomeAnd found (λ x. relation x old new)
    → HoldsToldLess (λ old new. IsSomeAnd found (λ x. relation x old new)) old new
some-told None relation leads old new holds = absurd holds
some-told (Some x) relation leads old new holds = leads x old new holds

lack_frames-told : (seens : List Log) (parts : List PartitionState) → AreBegins seens parts → SomeLacks parts
    → SomeLacks (with_seens seens parts)
lack_frames-told [] parts begins lacks = lacks
lack_frames-told (seen ∷ later) [] begins lacks = absurd begins
lack_frames-told (seen ∷ later) (p ∷ parts) begins lacks = elim lacks [
  | inl here ↦ inl here
  | inr there ↦ inr (lack_frames-told later parts begins.1 there)
]

why_unforked-told : (seens : List Log) (parts : List PartitionState) (why : Refusal) → AreBegins seens parts
    → IsWhyUnforked parts why → IsWhyUnforked (with_seens seens parts) why
why_unforked-told seens parts why begins reason = elim reason [
  | inl frames ↦ inl (frames.0, lack_frames-told seens parts begins frames.1)
  | inr memory ↦ inr memory
]

-- forks of all partitions
forks-here : (page_size : ℕ) (kit : Origin) (log known : Log) (snapshots : List SnapshotState) (number : ℕ)
    (old new : PartitionState) → ForksHere page_size kit log known snapshots number old new
    → HoldsToldLess (ForksHere page_size kit log known snapshots number) old new
forks-here page_size kit log known snapshots number =
    some-told (slice_get snapshots (number - 1)) (λ snapshot old new. Forks page_size kit log known old new snapshot)
    (λ snapshot old new. forks-told old new page_size kit log known snapshot)

forks_from-here : (kit : Origin) (all snapshots : List SnapshotState) (number : ℕ) (old new : PartitionState)
    → ForksFromHere kit all snapshots number old new → HoldsToldLess (ForksFromHere kit all snapshots number) old new
forks_from-here kit all snapshots number =
    some-told (slice_get snapshots (number - 1)) (λ snapshot old new. IsSomeAnd (slice_get all (number - 1)) (λ from.
    ForksFrom kit from old new snapshot)) (λ snapshot. some-told (slice_get all (number - 1))
    (λ from old new. ForksFrom kit from old new snapshot)
    (λ from old new. forks_from-told old new kit from snapshot))

closes-here : (snapshots : List SnapshotState) (number : ℕ) (old new : PartitionState)
    → ClosesHere snapshots number old new → HoldsToldLess (ClosesHere snapshots number) old new
closes-here snapshots number =
    some-told (slice_get snapshots (number - 1)) (λ snapshot old new. Closes old new snapshot.child)
    (λ snapshot old new. closes-told old new snapshot.child)

module _ (page_size : ℕ) (name : List ℕ) (old new : DatabaseState) (text : List ℕ) where
  opens-told : OpensName page_size name old new text
      → HoldsOfLess (λ old new. OpensName page_size name old new text) old new
  opens-told names seens begins =
      let opens : Opens page_size name old new = names.opens in
      let forks = pairs-told (ForksHere page_size opens.kit old.log opens.known opens.parts)
      (ForksHere page_size opens.kit old.log opens.known opens.parts)
      (forks-here page_size opens.kit old.log opens.known opens.parts) 1 old.parts new.parts opens.forks.each seens begins
      in (
        forks.0,
        forks.1,
        record {
          opens = record {
            kit = opens.kit;
            known = opens.known;
            parts = opens.parts;
            forks = record {
              count = opens.forks.count ∙ sym (length-told seens old.parts begins);
              each = forks.2;
            };
            lists = opens.lists;
            load = whole-told opens.lists seens old.parts begins opens.load;
            spells = opens.spells;
            snapshots = opens.snapshots;
          };
          log = names.log;
          prints = names.prints;
        },
      )

  opens_from-told : (from : List ℕ) → OpensNameFrom name from old new text
      → HoldsOfLess (λ old new. OpensNameFrom name from old new text) old new
  opens_from-told from names seens begins =
      let opens : OpensFrom names.place name old new = names.opens in
      let forks = pairs-told (ForksFromHere opens.kit opens.from.parts opens.parts)
      (ForksFromHere opens.kit opens.from.parts opens.parts) (forks_from-here opens.kit opens.from.parts opens.parts) 1
      old.parts new.parts opens.forks.each seens begins in (
        forks.0,
        forks.1,
        record {
          place = names.place;
          there = names.there;
          opens = record {
            kit = opens.kit;
            from = opens.from;
            there = opens.there;
            parts = opens.parts;
            forks = record {
              count = opens.forks.count ∙ sym (length-told seens old.parts begins);
              each = forks.2;
            };
            shows = opens.shows;
            snapshots = opens.snapshots;
          };
          log = names.log;
          prints = names.prints;
        },
      )

  closes_name-told : ClosesName name old new text → HoldsOfLess (λ old new. ClosesName name old new text) old new
  closes_name-told names seens begins =
      let closes : ClosesAt names.place old new = names.closes in
      let closed = pairs-told (ClosesHere closes.snapshot.parts) (ClosesHere closes.snapshot.parts)
      (closes-here closes.snapshot.parts) 1 old.parts new.parts closes.closes seens begins in (
        closed.0,
        closed.1,
        record {
          place = names.place;
          there = names.there;
          closes = record {
            snapshot = closes.snapshot;
            there = closes.there;
            closes = closed.2;
            snapshots = closes.snapshots;
            log = closes.log;
          };
          prints = names.prints;
        },
      )

  asks_name-told : (prints : List SnapshotState → List ℕ → Type 0) → AsksName name prints old new text
      → HoldsOfLess (λ old new. AsksName name prints old new text) old new
  asks_name-told prints asks = same-told (λ old new. AsksName name prints old new text) old new asks.same
      (λ seens same. record { place = asks.place; there = asks.there; same = same })

module _ (old new : DatabaseState) (text : List ℕ) where
  opens_none-told : OpensNone old new text → HoldsOfLess (λ old new. OpensNone old new text) old new
  opens_none-told none seens begins =
      let stays = pairs-told (λ number. IsUnforked old.log) (λ number. IsUnforked old.log)
      (λ number one other. unforked-told one other old.log) 1 old.parts new.parts none.stays seens begins in (
        stays.0,
        stays.1,
        record {
          why = none.why;
          reason = why_unforked-told seens old.parts none.why begins none.reason;
          stays = stays.2;
          snapshots = none.snapshots;
          log = none.log;
          prints = none.prints;
        },
      )

  opens_none_from-told : (from : List ℕ) → OpensNoneFrom from old new text
      → HoldsOfLess (λ old new. OpensNoneFrom from old new text) old new
  opens_none_from-told from none seens begins =
      let stays = pairs-told (λ number. IsUnforkedUntold) (λ number. IsUnforkedUntold)
      (λ number one other. untold-told one other) 1 old.parts new.parts none.stays seens begins in (
        stays.0,
        stays.1,
        record {
          there = none.there;
          stays = stays.2;
          snapshots = none.snapshots;
          log = none.log;
          prints = none.prints;
        },
      )

-- ---- events

pub event-told : (page_size : ℕ) (event : Event) (old new : DatabaseState) (text : List ℕ)
    → Answers page_size event old new text → HoldsOfLess (λ old new. Answers page_size event old new text) old new
event-told page_size (events.Run command) old new text answers = whole_command-told command old new text answers
event-told page_size (events.Begin command) old new text answers =
    asks-told (home_of command) (requests.Begin command) old new text answers
event-told page_size (events.Step number) old new text answers = asks-told number requests.Step old new text answers
event-told page_size (events.Done number) old new text answers = asks-told number requests.Done old new text answers
event-told page_size (events.Touched number) old new text answers = asks-told number requests.Touched old new text answers
event-told page_size (events.Free number) old new text answers = asks-told number requests.Free old new text answers
event-told page_size (events.Shared number) old new text answers = asks-told number requests.Shared old new text answers
event-told page_size (events.Limit number more) old new text answers =
    asks-told number (requests.Limit more) old new text answers
event-told page_size (events.Fork name) old new text answers = λ seens begins. elim answers.1 [
  | inl opens ↦
      let less = opens-told page_size name old new text opens seens begins in (less.0, less.1, (answers.0, inl less.2))
  | inr none ↦
      let less = opens_none-told old new text none seens begins in (less.0, less.1, (answers.0, inr less.2))
]
event-told page_size (events.ForkFrom name from) old new text answers = λ seens begins. elim answers.1 [
  | inl opens ↦
      let less = opens_from-told page_size name old new text from opens seens begins in
      (less.0, less.1, (answers.0, inl less.2))
  | inr none ↦
      let less = opens_none_from-told old new text from none seens begins in (less.0, less.1, (answers.0, inr less.2))
]
event-told page_size (events.Close name) old new text answers = closes_name-told page_size name old new text answers
event-told page_size (events.Query name asked) old new text answers =
    asks_name-told page_size name old new text (AnswersQuery page_size asked) answers
event-told page_size (events.Check name) old new text answers =
    asks_name-told page_size name old new text (AnswersCheck page_size) answers

-- names don't depend on what partitions were told
pub misnamed-told : (event : Event) (seens : List Log) (database : DatabaseState) → IsMisnamed database event
    → IsMisnamed (told_just seens database) event
misnamed-told (events.Run command) seens database is = is
misnamed-told (events.Begin command) seens database is = is
misnamed-told (events.Step number) seens database is = is
misnamed-told (events.Done number) seens database is = is
misnamed-told (events.Touched number) seens database is = is
misnamed-told (events.Free number) seens database is = is
misnamed-told (events.Shared number) seens database is = is
misnamed-told (events.Limit number more) seens database is = is
misnamed-told (events.Fork name) seens database is = is
misnamed-told (events.ForkFrom name from) seens database is = is
misnamed-told (events.Close name) seens database is = is
misnamed-told (events.Query name asked) seens database is = is
misnamed-told (events.Check name) seens database is = is
