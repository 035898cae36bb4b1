-- What is known of partitions once what ran there has ended, and they were told the serial list.
use Rattle.std.proofs.Common.{◌≡◌, ◌⊎◌, ℕ, zero, suc, ◌+◌, true, List, [], ◌∷◌, length, Option, None, Some, inl, inr, refl, sym, ap, ◌∙◌, subst, arith}
use Rattle.std.specs.Prelude.{IfSome, MatchOption, is_some, slice_get}
use Rattle.std.proofs.lemmas.Bool.{true≢false}
use Rattle.hy_rows.specs.Tables.{Lists}
use Rattle.hy_commands.specs.declared.command.Command.{Command}
use Rattle.hy_commands.specs.declared.edition.Edition.{Edition}
use Rattle.hy_commands.specs.declared.edition.Edition.TheVariants as editions
use Rattle.hy_partition.specs.Jobs.{Log, RunningJob}
use Rattle.hy_partition.specs.Partition.{PartitionState, may_run, projection_of, replays, terms_of}
use Rattle.hy_partition.specs.Steps.{Accepts, Refuses}
use Rattle.hy_crossing.specs.Crossings.{AllMayRun, AreInformed, ArePartitions, EndsIfNamed, EndsJobs, HaveNoPart, IsInformed, IsPartition, MayRunIfNamed, TellsIfNamed, TellsNamed, is_named}
use Rattle.hy_crossing.specs.Lists.{InTurn, Pairwise}
use Rattle.hy_crossing.proofs.PairLaws.{pairs-hold}

-- ---- lists

-- what holds of each element before and after, where a state is led through them
pub turn-hold : {State Row : Type 0} (step : ℕ → State → State → Row → Row → Type 0) (one other : ℕ → Row → Type 0)
    → ((number : ℕ) (before after : State) (old new : Row) → step number before after old new → one number old
    → other number new)
    → (number : ℕ) (before after : State) (olds news : List Row) → InTurn step number before after olds news
    → ((place : ℕ) → IfSome (slice_get olds place) (one (number + place)))
    → (place : ℕ) → IfSome (slice_get news place) (other (number + place))
turn-hold step one other leads number before after [] [] turn holds place = holds place
turn-hold step one other leads number before after (old ∷ olds) (new ∷ news) turn holds zero =
    let same : number + 0 ≡ number = omega arith in
    subst (λ n. other n new) (sym same)
    (leads number before turn.0 old new turn.1 (subst (λ n. one n old) same (holds zero)))
turn-hold step one other leads number before after (old ∷ olds) (new ∷ news) turn holds (suc place) =
    let next : suc number + place ≡ number + suc place = omega arith in
    subst (λ n. IfSome (slice_get news place) (other n)) next
    (turn-hold step one other leads (suc number) turn.0 after olds news turn.2
    (λ p. subst (λ n. IfSome (slice_get olds p) (one n)) (omega arith) (holds (suc p))) place)
turn-hold step one other leads number before after [] (new ∷ news) turn holds place = absurd turn
turn-hold step one other leads number before after (old ∷ olds) [] turn holds place = absurd turn

pub turn-count : {State Row : Type 0} (step : ℕ → State → State → Row → Row → Type 0) (number : ℕ) (before after : State)
    (olds news : List Row) → InTurn step number before after olds news → length news ≡ length olds
turn-count step number before after [] [] turn = refl
turn-count step number before after (old ∷ olds) (new ∷ news) turn =
    ap suc (turn-count step (suc number) turn.0 after olds news turn.2)
turn-count step number before after [] (new ∷ news) turn = absurd turn
turn-count step number before after (old ∷ olds) [] turn = absurd turn

pub pairs-count : {Row : Type 0} (relation : ℕ → Row → Row → Type 0) (number : ℕ) (olds news : List Row)
    → Pairwise relation number olds news → length news ≡ length olds
pairs-count relation number [] [] pairs = refl
pairs-count relation number (old ∷ olds) (new ∷ news) pairs =
    ap suc (pairs-count relation (suc number) olds news pairs.1)
pairs-count relation number [] (new ∷ news) pairs = absurd pairs
pairs-count relation number (old ∷ olds) [] pairs = absurd pairs

-- numbers from 1 on
from-one : {Row : Type 0} (one : ℕ → Row → Type 0) (rows : List Row)
    → ((place : ℕ) → IfSome (slice_get rows place) (one (suc place))) → (place : ℕ)
    → IfSome (slice_get rows place) (one (1 + place))
from-one one rows holds place =
    let first : suc place ≡ 1 + place = omega arith in
    subst (λ n. IfSome (slice_get rows place) (one n)) first (holds place)

pub to-next : {Row : Type 0} (one : ℕ → Row → Type 0) (rows : List Row)
    → ((place : ℕ) → IfSome (slice_get rows place) (one (1 + place))) → (place : ℕ)
    → IfSome (slice_get rows place) (one (suc place))
to-next one rows holds place =
    let first : 1 + place ≡ suc place = omega arith in
    subst (λ n. IfSome (slice_get rows place) (one n)) first (holds place)

-- the same for partitions that are numbered from 1 on
pub each-then : {Row : Type 0} (relation : ℕ → Row → Row → Type 0) (one other : ℕ → Row → Type 0)
    → ((number : ℕ) (old new : Row) → relation number old new → one number old → other number new)
    → (olds news : List Row) → Pairwise relation 1 olds news
    → ((place : ℕ) → IfSome (slice_get olds place) (one (suc place))) → (place : ℕ)
    → IfSome (slice_get news place) (other (suc place))
each-then relation one other leads olds news pairs holds =
    to-next other news (pairs-hold relation one other leads 1 olds news pairs (from-one one olds holds))

pub some-two : {Row : Type 0} (found : Option Row) (one other both : Row → Type 0) → IfSome found one
    → IfSome found other → ((row : Row) → one row → other row → both row) → IfSome found both
some-two None one other both a b joins = tt
some-two (Some row) one other both a b joins = joins row a b

pub some-then : {Row : Type 0} (found : Option Row) (one other : Row → Type 0) → IfSome found one
    → ((row : Row) → one row → other row) → IfSome found other
some-then None one other a leads = tt
some-then (Some row) one other a leads = leads row a

-- ---- partitions

pub still-partition : (lists : Lists) (number : ℕ) (old new : PartitionState) → terms_of new ≡ terms_of old
    → IsPartition lists number old → IsPartition lists number new
still-partition lists number old new same is = (ap (λ t. t.load) same ∙ is.0, ap (λ t. t.warehouse) same ∙ is.1)

-- a command may run in each partition, where it may in all
pub may-at : (edition : Edition) (command : Command) (parts : List PartitionState) (place : ℕ)
    → AllMayRun edition command parts → IfSome (slice_get parts place) (MayRunIfNamed edition command (suc place))
may-at editions.First command parts place may = may place
may-at editions.Second command parts place may = at (slice_get parts place)
  where
    at : (found : Option PartitionState) → IfSome found (MayRunIfNamed editions.Second command (suc place))
    at None = tt
    at (Some p) = tt

-- in one that it names
pub may-now : (edition : Edition) (command : Command) (number : ℕ) (p : PartitionState)
    → MayRunIfNamed edition command number p → is_named command number ≡ true → may_run (replays p) edition ≡ true
may-now editions.First command number p may named = (may named).1
may-now editions.Second command number p may named = refl

module _ (lists : Lists) (command : Command) where
  record IsWhole (number : ℕ) (p : PartitionState) : Type 0 where
    partition : IsPartition lists number p
    whole : p.part ≡ None

  record HasEnded (number : ℕ) (p : PartitionState) : Type 0 where
    partition : IsPartition lists number p
    whole : p.part ≡ None
    idle : is_named command number ≡ true → p.running ≡ None

  ended-job : (before after : Log) (old new : PartitionState) (running : Option RunningJob) → running ≡ old.running
      → MatchOption running ((new ≡ old) × (after ≡ before)) (λ job.
      Accepts job (Some before) (Some after) old new ⊎ Refuses job (Some before) (Some after) old new)
      → (new.running ≡ None) × (new.part ≡ old.part) × (terms_of new ≡ terms_of old)
  ended-job before after old new None is same = (
    ap (λ (p : PartitionState). p.running) same.0 ∙ sym is,
    ap (λ (p : PartitionState). p.part) same.0,
    ap terms_of same.0,
  )
  ended-job before after old new (Some job) is ended = elim ended [
    | inl accepts ↦ (accepts.does.ends.running, accepts.does.ends.rest.part, accepts.does.ends.rest.terms)
    | inr refuses ↦ elim refuses.refused.reason [
      | inl item ↦ (item.2.running, item.2.rest.part, item.2.rest.terms)
      | inr other ↦ elim other [
        | inl frame ↦ (frame.2.running, frame.2.rest.part, frame.2.rest.terms)
        | inr memory ↦ (memory.1.running, memory.1.rest.part, memory.1.rest.terms)
      ]
    ]
  ]

  ends-here : (number : ℕ) (before after : Log) (old new : PartitionState)
      → EndsIfNamed command number before after old new → IsWhole number old → HasEnded number new
  ends-here number before after old new ends was = elim ends [
    | inl named ↦
        let now = ended-job before after old new old.running refl named.1 in
        record {
          partition = still-partition lists number old new now.2 was.partition;
          whole = now.1 ∙ was.whole;
          idle = λ named. now.0;
        }
    | inr other ↦ record {
      partition = subst (λ (p : PartitionState). IsPartition lists number p) (sym other.1.0) was.partition;
      whole = ap (λ (p : PartitionState). p.part) other.1.0 ∙ was.whole;
      idle = λ named. absurd (true≢false (sym named ∙ other.0));
    }
  ]

  tells-here : (log : Log) (number : ℕ) (old new : PartitionState) → TellsIfNamed command log number old new
      → HasEnded number old → IsInformed lists command log number new
  tells-here log number old new tells was = elim tells [
    | inl named ↦
        let same = named.1.0 in
        record {
          partition = still-partition lists number old new (ap terms_of same) was.partition;
          whole = ap (λ (p : PartitionState). p.part) same ∙ was.whole;
          idle = λ named. ap (λ (p : PartitionState). p.running) same ∙ was.idle named;
          told = λ is. (
            ap (λ (p : PartitionState). p.seen) same,
            ap (λ (p : PartitionState). p.kept) same ∙ named.1.1
                ∙ ap (λ w. projection_of w log) (sym (ap (λ (p : PartitionState). p.warehouse) same)),
          );
        }
    | inr other ↦ record {
      partition = still-partition lists number old new (ap terms_of other.1) was.partition;
      whole = ap (λ (p : PartitionState). p.part) other.1 ∙ was.whole;
      idle = λ named. absurd (true≢false (sym named ∙ other.0));
      told = λ named. absurd (true≢false (sym named ∙ other.0));
    }
  ]

  pub informed-now : (before after : Log) (olds middles news : List PartitionState) → ArePartitions lists olds
      → HaveNoPart olds → EndsJobs command before after olds middles → TellsNamed command after middles news
      → AreInformed lists command after news
  informed-now before after olds middles news are whole ends tells =
      let wholes : (place : ℕ) → IfSome (slice_get olds place) (IsWhole (suc place)) =
      λ place. some-two (slice_get olds place) (IsPartition lists (suc place)) (λ p. p.part ≡ None)
      (IsWhole (suc place)) (are.each place) (whole place) (λ p one other. record { partition = one; whole = other }) in
      record {
        count =
            pairs-count (TellsIfNamed command after) 1 middles news tells
            ∙ turn-count (EndsIfNamed command) 1 before after olds middles ends ∙ are.count;
        each = each-then (TellsIfNamed command after) HasEnded (IsInformed lists command after)
            (tells-here after) middles news tells
            (to-next HasEnded middles (turn-hold (EndsIfNamed command) IsWhole HasEnded ends-here 1 before after olds
            middles ends (from-one IsWhole olds wholes)));
      }

  -- where a command may run by the first edition, it may so still
  abbrev May : ℕ → PartitionState → Type 0
  May number p = MayRunIfNamed editions.First command number p

  idle-same : (before after : Log) (old new : PartitionState) (running : Option RunningJob) → running ≡ None
      → MatchOption running ((new ≡ old) × (after ≡ before)) (λ job.
      Accepts job (Some before) (Some after) old new ⊎ Refuses job (Some before) (Some after) old new)
      → new ≡ old
  idle-same before after old new None idle same = same.0
  idle-same before after old new (Some job) idle ended = absurd (true≢false (ap is_some idle))

  may-ended : (number : ℕ) (before after : Log) (old new : PartitionState)
      → EndsIfNamed command number before after old new → May number old → May number new
  may-ended number before after old new ends was named = elim ends [
    | inl is ↦
        let may = was named in
        subst (λ (p : PartitionState). (p.running ≡ None) × (replays p ≡ true))
        (sym (idle-same before after old new old.running may.0 is.1)) may
    | inr other ↦ absurd (true≢false (sym named ∙ other.0))
  ]

  may-told : (log : Log) (number : ℕ) (old new : PartitionState) → TellsIfNamed command log number old new
      → May number old → May number new
  may-told log number old new tells was named = elim tells [
    | inl is ↦
        let may = was named in
        (ap (λ (p : PartitionState). p.running) is.1.0 ∙ may.0, ap replays is.1.0 ∙ may.1)
    | inr other ↦ absurd (true≢false (sym named ∙ other.0))
  ]

  pub may-still : (before after : Log) (olds middles news : List PartitionState)
      → EndsJobs command before after olds middles → TellsNamed command after middles news → (edition : Edition)
      → AllMayRun edition command olds → AllMayRun edition command news
  may-still before after olds middles news ends tells editions.First may =
      each-then (TellsIfNamed command after) May May (may-told after) middles news tells
      (to-next May middles (turn-hold (EndsIfNamed command) May May may-ended 1 before after olds
      middles ends (from-one May olds may)))
  may-still before after olds middles news ends tells editions.Second may = tt

module _ (lists : Lists) (command : Command) (log : Log) (parts : List PartitionState)
    (informed : AreInformed lists command log parts) where
  pub still-partitions : ArePartitions lists parts
  still-partitions = record {
    count = informed.count;
    each = λ place. some-then (slice_get parts place) (IsInformed lists command log (suc place))
        (IsPartition lists (suc place)) (informed.each place) (λ p is. is.partition);
  }

  pub still-whole : HaveNoPart parts
  still-whole place = some-then (slice_get parts place) (IsInformed lists command log (suc place)) (λ p. p.part ≡ None)
      (informed.each place) (λ p is. is.whole)

  pub all-idle : (place : ℕ) → IfSome (slice_get parts place) (λ p.
      is_named command (suc place) ≡ true → (p.running ≡ None) × (p.part ≡ None))
  all-idle place = some-then (slice_get parts place) (IsInformed lists command log (suc place))
      (λ p. is_named command (suc place) ≡ true → (p.running ≡ None) × (p.part ≡ None)) (informed.each place)
      (λ p is named. (is.idle named, is.whole))
