-- Partitions that were told less of the serial list, each a beginning of its own, and else are the same.
use Rattle.std.specs.Prelude.{⊤}
use Rattle.std.proofs.Common.{◌≡◌, ℕ, zero, suc, List, [], ◌∷◌, length, Option, None, Some, MatchOption, IfSome, slice_get, slice_set, refl, ap}
use mathlib.Core.List.{IsPrefix}
use Rattle.hy_partition.specs.Jobs.{Log}
use Rattle.hy_partition.specs.Partition.{PartitionState}
use Rattle.hy_crossing.specs.Lists.{InTurn, Pairwise}
use Rattle.hy_hyper_rounds.proofs.StepLaws.{HoldsToldLess, prefix-same, with_seen}

abbrev pub with_seens : List Log → List PartitionState → List PartitionState
with_seens [] parts = parts
with_seens (seen ∷ later) [] = []
with_seens (seen ∷ later) (p ∷ parts) = with_seen seen p ∷ with_seens later parts

abbrev pub AreBegins : List Log → List PartitionState → Type 0
AreBegins [] [] = ⊤
AreBegins [] (p ∷ parts) = ⊥
AreBegins (seen ∷ later) [] = ⊥
AreBegins (seen ∷ later) (p ∷ parts) = IsPrefix seen p.seen × AreBegins later parts

-- a relation between lists of partitions that holds of those told less too
abbrev pub HoldToldLess : (List PartitionState → List PartitionState → Type 0) → List PartitionState → List PartitionState
    → Type 0
HoldToldLess relation olds news = (seens : List Log) → AreBegins seens olds
    → (nexts : List Log) × AreBegins nexts news × relation (with_seens seens olds) (with_seens nexts news)

pub pairs-told : (first second : ℕ → PartitionState → PartitionState → Type 0)
    → ((number : ℕ) (old new : PartitionState) → first number old new → HoldsToldLess (second number) old new)
    → (number : ℕ) (olds news : List PartitionState) → Pairwise first number olds news
    → HoldToldLess (Pairwise second number) olds news
pairs-told first second leads number [] [] pairs [] begins = ([], tt, tt)
pairs-told first second leads number [] [] pairs (seen ∷ later) begins = absurd begins
pairs-told first second leads number (old ∷ olds) (new ∷ news) pairs [] begins = absurd begins
pairs-told first second leads number (old ∷ olds) (new ∷ news) pairs (seen ∷ later) begins =
    let here = leads number old new pairs.0 seen begins.0 in
    let rest = pairs-told first second leads (suc number) olds news pairs.1 later begins.1 in
    (here.0 ∷ rest.0, (here.1, rest.1), (here.2, rest.2))
pairs-told first second leads number [] (new ∷ news) pairs seens begins = absurd pairs
pairs-told first second leads number (old ∷ olds) [] pairs seens begins = absurd pairs

-- where a serial list is led along
pub turn-told : (first second : ℕ → Log → Log → PartitionState → PartitionState → Type 0)
    → ((number : ℕ) (before after : Log) (old new : PartitionState) → first number before after old new
    → HoldsToldLess (second number before after) old new)
    → (number : ℕ) (before after : Log) (olds news : List PartitionState) → InTurn first number before after olds news
    → HoldToldLess (InTurn second number before after) olds news
turn-told first second leads number before after [] [] turn [] begins = ([], tt, turn)
turn-told first second leads number before after [] [] turn (seen ∷ later) begins = absurd begins
turn-told first second leads number before after (old ∷ olds) (new ∷ news) turn [] begins = absurd begins
turn-told first second leads number before after (old ∷ olds) (new ∷ news) turn (seen ∷ later) begins =
    let here = leads number before turn.0 old new turn.1 seen begins.0 in
    let rest = turn-told first second leads (suc number) turn.0 after olds news turn.2 later begins.1 in
    (here.0 ∷ rest.0, (here.1, rest.1), (turn.0, here.2, rest.2))
turn-told first second leads number before after [] (new ∷ news) turn seens begins = absurd turn
turn-told first second leads number before after (old ∷ olds) [] turn seens begins = absurd turn

-- ---- what stays

pub length-told : (seens : List Log) (parts : List PartitionState) → AreBegins seens parts
    → length (with_seens seens parts) ≡ length parts
length-told [] parts begins = refl
length-told (seen ∷ later) [] begins = absurd begins
length-told (seen ∷ later) (p ∷ parts) begins = ap suc (length-told later parts begins.1)

pub each-told : (Holds : ℕ → PartitionState → Type 0)
    → ((place : ℕ) (seen : Log) (p : PartitionState) → Holds place p → Holds place (with_seen seen p))
    → (seens : List Log) (parts : List PartitionState) → AreBegins seens parts
    → ((place : ℕ) → IfSome (slice_get parts place) (Holds place))
    → (place : ℕ) → IfSome (slice_get (with_seens seens parts) place) (Holds place)
each-told Holds leads [] parts begins each place = each place
each-told Holds leads (seen ∷ later) [] begins each place = absurd begins
each-told Holds leads (seen ∷ later) (p ∷ parts) begins each zero = leads zero seen p (each zero)
each-told Holds leads (seen ∷ later) (p ∷ parts) begins each (suc place) =
    each-told (λ place. Holds (suc place)) (λ place. leads (suc place)) later parts begins.1
    (λ place. each (suc place)) place

-- they were told all that they were
pub seens_of : List PartitionState → List Log
seens_of [] = []
seens_of (p ∷ parts) = p.seen ∷ seens_of parts

pub seens-begin : (parts : List PartitionState) → AreBegins (seens_of parts) parts
unfolding seens_of
seens-begin [] = tt
seens-begin (p ∷ parts) = (prefix-same p.seen, seens-begin parts)

pub seens-same : (parts : List PartitionState) → with_seens (seens_of parts) parts ≡ parts
unfolding seens_of
seens-same [] = refl
seens-same (p ∷ parts) = ap (λ rest. p ∷ rest) (seens-same parts)

-- ---- one place

option-map : {Row : Type 0} (found : Option Row) {N M : Type 0} (F G : Row → Type 0) → (N → M)
    → ((row : Row) → F row → G row) → MatchOption found N F → MatchOption found M G
option-map None F G none some holds = none holds
option-map (Some row) F G none some holds = some row holds

-- the partition at a place was told less, and where it is replaced by one that was, the others stay
pub record IsAt (seens : List Log) (parts : List PartitionState) (place : ℕ) (p : PartitionState) : Type 0 where
  pub seen : Log
  pub begins : IsPrefix seen p.seen
  pub there : slice_get (with_seens seens parts) place ≡ Some (with_seen seen p)
  pub sets : (next : Log) (q : PartitionState) → IsPrefix next q.seen
      → (nexts : List Log) × AreBegins nexts (slice_set parts place q)
      × (slice_set (with_seens seens parts) place (with_seen next q) ≡ with_seens nexts (slice_set parts place q))

pub at-told : (seens : List Log) (parts : List PartitionState) (place : ℕ) → AreBegins seens parts
    → MatchOption (slice_get parts place) (slice_get (with_seens seens parts) place ≡ None) (IsAt seens parts place)
at-told [] [] place begins = refl
at-told [] (p ∷ parts) place begins = absurd begins
at-told (seen ∷ later) [] place begins = absurd begins
at-told (seen ∷ later) (p ∷ parts) zero begins = record {
  seen = seen;
  begins = begins.0;
  there = refl;
  sets = λ next q is. (next ∷ later, (is, begins.1), refl);
}
at-told (seen ∷ later) (p ∷ parts) (suc place) begins =
    option-map (slice_get parts place) (IsAt later parts place) (IsAt (seen ∷ later) (p ∷ parts) (suc place))
    (λ none. none)
    (λ found at. record {
      seen = at.seen;
      begins = at.begins;
      there = at.there;
      sets = λ next q is.
          let rest = at.sets next q is in
          (seen ∷ rest.0, (begins.0, rest.1), ap (λ others. with_seen seen p ∷ others) rest.2);
    })
    (at-told later parts place begins.1)
