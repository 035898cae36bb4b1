-- Passes of which no two are of one client, and what the model knows of their clients.
use Rattle.std.proofs.Common.{◌≡◌, ℕ, zero, suc, ◌+◌, ◌<◌, ◌≤◌, ◌==◌, Bool, true, false, cond, List, [], ◌∷◌, ◌++◌, length, Option, Some, None, refl, sym, ap, ◌∙◌, subst, arith, append_assoc, eq-eqb}
use Rattle.std.specs.Prelude.{All, IfSome, count_by, map, option_map, option_to_list, slice_get, slice_index_or, slice_set}
use Rattle.std.specs.List.{range_with_len}
use Rattle.std.specs.List.Sorted.{IsPermutation}
use Rattle.std.proofs.lemmas.Bool.{eqb-true}
use Rattle.std.proofs.lemmas.List.{append-nil}
use Rattle.std.proofs.lemmas.List.Elements.{All-cons, All-head, All-nil, All-tail}
use Rattle.std.proofs.lemmas.List.Sorted.{All-permutation, IsPermutation-append_comm, IsPermutation-append_left, IsPermutation-append_right, IsPermutation-middle, IsPermutation-sym, IsPermutation-trans, sum_by-IsPermutation}
use Rattle.std.proofs.lemmas.List.Sums.{sum_by-append, sum_by-cons}
use Rattle.hy_passes.specs.Worlds.{PassState, new_client}
use Rattle.hy_commands.specs.declared.command.Commit.{Commit}
use Rattle.hy_forks.specs.of_partition.Jobs.{DoneState, Log, RunningJob}
use Rattle.hy_forks.specs.of_partition.Partition.{PartitionState}
use Rattle.hy_forks.specs.of_partition.Schedules.{with_known}
use Rattle.hy_forks.specs.of_crossing.Lists.{Pairwise}
use Rattle.hy_schedules.specs.Clients.{AreApart, IsTold, KnowsClients, is_of, passes_between, passes_in, passes_of}

-- a client's pass
abbrev pub Pass : Type 0
Pass = PassState Commit

-- ---- counts

count-cons : (client : ℕ) (pass : Pass) (passes : List Pass)
    → count_by (is_of client) (pass ∷ passes) ≡ cond (is_of client pass) 1 0 + count_by (is_of client) passes
count-cons client pass passes = sum_by-cons (λ (one : Pass). cond (is_of client one) 1 0) pass passes

count-append : (client : ℕ) (front behind : List Pass)
    → count_by (is_of client) (front ++ behind) ≡ count_by (is_of client) front + count_by (is_of client) behind
count-append client front behind = sum_by-append (λ (one : Pass). cond (is_of client one) 1 0) front behind

-- where none is of a client, each is of another
none-of : (client : ℕ) (passes : List Pass) → count_by (is_of client) passes ≡ 0
    → All (λ pass. is_of client pass ≡ false) passes
none-of client [] none = All-nil (λ (pass : Pass). is_of client pass ≡ false)
none-of client (pass ∷ passes) none =
    let here = by (is_of client pass) (count_by (is_of client) passes) (sym (count-cons client pass passes) ∙ none) in
    All-cons (λ (pass : Pass). is_of client pass ≡ false) pass passes here.0 (none-of client passes here.1)
  where
    by : (is : Bool) (rest : ℕ) → cond is 1 0 + rest ≡ 0 → (is ≡ false) × (rest ≡ 0)
    by true rest none = absurd (omega (arith, none))
    by false rest none = (refl, omega (arith, none))

-- ---- in another order, and fewer

pub knows-permuted : (known : ℕ → ℕ) (passes others : List Pass) → IsPermutation passes others
    → KnowsClients known passes → KnowsClients known others
knows-permuted known passes others moved knows = record {
  told = All-permutation (IsTold known) passes others moved knows.told;
  apart = λ client.
      let same : count_by (is_of client) others ≡ count_by (is_of client) passes =
      sum_by-IsPermutation (λ (one : Pass). cond (is_of client one) 1 0) passes others moved in
      omega (arith, same, knows.apart client);
}

All-behind : (P : Pass → Type 0) (front behind : List Pass) → All P (front ++ behind) → All P behind
All-behind P [] behind all = all
All-behind P (pass ∷ front) behind all = All-behind P front behind (All-tail P pass (front ++ behind) all)

pub knows-behind : (known : ℕ → ℕ) (front behind : List Pass) → KnowsClients known (front ++ behind)
    → KnowsClients known behind
knows-behind known front behind knows = record {
  told = All-behind (IsTold known) front behind knows.told;
  apart = λ client. omega (arith, count-append client front behind, knows.apart client);
}

pub knows-fewer : (known : ℕ → ℕ) (passes others : List Pass) (pass : Pass)
    → KnowsClients known (passes ++ pass ∷ others) → KnowsClients known (passes ++ others)
knows-fewer known passes others pass knows =
    knows-behind known (pass ∷ []) (passes ++ others)
    (knows-permuted known (passes ++ pass ∷ others) (pass ∷ (passes ++ others))
    (IsPermutation-middle passes pass others) knows)

-- ---- parts in another order

pub swapped : (a b c : List Pass) → IsPermutation (a ++ (b ++ c)) (b ++ (a ++ c))
swapped a b c =
    subst (λ (l : List Pass). IsPermutation l (b ++ (a ++ c))) (append_assoc a b c)
    (subst (λ (l : List Pass). IsPermutation ((a ++ b) ++ c) l) (append_assoc b a c)
    (IsPermutation-append_left c (a ++ b) (b ++ a) (IsPermutation-append_comm a b)))

-- the second of four parts goes behind the third, and the first one too
pub second-behind : (a b c d : List Pass) → IsPermutation (((a ++ b) ++ c) ++ d) ((a ++ c) ++ (b ++ d))
second-behind a b c d =
    simp append_assoc (IsPermutation-append_right a (b ++ (c ++ d)) (c ++ (b ++ d)) (swapped b c d))

pub first-behind : (a b c d : List Pass) → IsPermutation (((a ++ b) ++ c) ++ d) ((b ++ c) ++ (a ++ d))
first-behind a b c d =
    simp append_assoc
    (IsPermutation-trans (a ++ (b ++ (c ++ d))) (b ++ (a ++ (c ++ d))) (b ++ (c ++ (a ++ d)))
    (swapped a b (c ++ d)) (IsPermutation-append_right b (a ++ (c ++ d)) (c ++ (a ++ d)) (swapped a c d)))

-- ---- some passes become others

-- whatever other passes there are beside them
abbrev pub Moves : (ℕ → ℕ) → (ℕ → ℕ) → List Pass → List Pass → Type 0
Moves known later passes now =
    (others : List Pass) → KnowsClients known (passes ++ others) → KnowsClients later (now ++ others)

pub moves-same : (known : ℕ → ℕ) (passes now : List Pass) → now ≡ passes → Moves known known passes now
moves-same known passes now same =
    λ others knows. subst (λ (l : List Pass). KnowsClients known (l ++ others)) (sym same) knows

pub moves-then : (known later last : ℕ → ℕ) (passes now end : List Pass) → Moves known later passes now
    → Moves later last now end → Moves known last passes end
moves-then known later last passes now end first second = λ others knows. second others (first others knows)

-- one part and then another
pub moves-both : (known later last : ℕ → ℕ) (a c b d : List Pass) → Moves known later a c → Moves later last b d
    → Moves known last (a ++ b) (c ++ d)
moves-both known later last a c b d first second = λ others knows.
    let began : KnowsClients later (c ++ (b ++ others)) =
    first (b ++ others) (subst (λ (l : List Pass). KnowsClients known l) (append_assoc a b others) knows) in
    let ended : KnowsClients last (d ++ (c ++ others)) =
    second (c ++ others) (knows-permuted later (c ++ (b ++ others)) (b ++ (c ++ others)) (swapped c b others) began) in
    subst (λ (l : List Pass). KnowsClients last l) (sym (append_assoc c d others))
    (knows-permuted last (d ++ (c ++ others)) (c ++ (d ++ others)) (swapped d c others) ended)

-- and nothing beside
pub moves-alone : (known later : ℕ → ℕ) (passes now : List Pass) → Moves known later passes now
    → KnowsClients known passes → KnowsClients later now
moves-alone known later passes now moves knows =
    subst (λ (l : List Pass). KnowsClients later l) (append-nil now)
    (moves [] (subst (λ (l : List Pass). KnowsClients known l) (sym (append-nil passes)) knows))

-- ---- a client is told

-- the model knows of a further pass what it has seen
told-first : (known : ℕ → ℕ) (now : Pass) (others : List Pass) → All (IsTold known) others → AreApart (now ∷ others)
    → KnowsClients (with_known known now.client now.seen) (now ∷ others)
told-first known now others are apart = record {
  told = All-cons (IsTold (with_known known now.client now.seen)) now others
      (ap (λ b. cond b (length now.seen) (known now.client)) (eq-eqb now.client now.client refl))
      (λ place other within.
      ap (λ b. cond b (length now.seen) (known (slice_index_or others place other).client))
      (none-of now.client others none place other within)
      ∙ are place other within);
  apart = apart;
}
  where
    mine : (is : Bool) (rest : ℕ) → is ≡ true → cond is 1 0 + rest ≤ 1 → rest ≡ 0
    mine true rest is few = omega (arith, few)
    mine false rest is few = absurd (cc)

    none : count_by (is_of now.client) others ≡ 0
    none =
        mine (is_of now.client now) (count_by (is_of now.client) others) (eq-eqb now.client now.client refl)
        (subst (λ (k : ℕ). k ≤ 1) (count-cons now.client now others) (apart now.client))

-- a pass that has seen a list in the place of one that hasn't
pub moves-told : (known : ℕ → ℕ) (pass now : Pass) (log : Log) → now.client ≡ pass.client → now.seen ≡ log
    → Moves known (with_known known pass.client log) (pass ∷ []) (now ∷ [])
moves-told known pass now log client seen = λ others knows.
    subst (λ (k : ℕ). KnowsClients (with_known known k log) (now ∷ others)) client
    (subst (λ (l : Log). KnowsClients (with_known known now.client l) (now ∷ others)) seen
    (told-first known now others (All-tail (IsTold known) pass others knows.told) (λ of.
    subst (λ (k : ℕ). k ≤ 1) (same of others) (knows.apart of))))
  where
    same : (of : ℕ) (others : List Pass) → count_by (is_of of) (pass ∷ others) ≡ count_by (is_of of) (now ∷ others)
    same of others =
        count-cons of pass others
        ∙ ap (λ k. cond (k == of) 1 0 + count_by (is_of of) others) (sym client)
        ∙ sym (count-cons of now others)

-- ---- at first

-- the passes of a kit
pub knows-kit : (clients : ℕ) → KnowsClients (λ client. 0) (map new_client (range_with_len 0 clients))
knows-kit clients = record { told = none 0 clients; apart = λ client. (counts client 0 clients).0 }
  where
    none : (low count : ℕ) → All (IsTold (λ client. 0)) (map new_client (range_with_len low count))
    none low zero = All-nil (IsTold (λ client. 0))
    none low (suc count) =
        All-cons (IsTold (λ client. 0)) (new_client low) (map new_client (range_with_len (low + 1) count)) refl
        (none (low + 1) count)

    counts : (client low count : ℕ)
        → (count_by (is_of client) (map new_client (range_with_len low count)) ≤ 1)
        × (client < low → count_by (is_of client) (map new_client (range_with_len low count)) ≡ 0)
    counts client low zero = (omega arith, λ below. refl)
    counts client low (suc count) =
        let rest : List Pass = map new_client (range_with_len (low + 1) count) in
        let later = counts client (low + 1) count in
        by (low == client) (λ is. eqb-true low client is) (count_by (is_of client) rest) later.0 later.1
        (count_by (is_of client) (new_client low ∷ rest)) (count-cons client (new_client low) rest)
      where
        by : (here : Bool) → (here ≡ true → low ≡ client) → (few : ℕ) → few ≤ 1 → (client < low + 1 → few ≡ 0)
            → (all : ℕ) → all ≡ cond here 1 0 + few → (all ≤ 1) × (client < low → all ≡ 0)
        by true is few small none all sum =
            let same : low ≡ client = is refl in
            let no : few ≡ 0 = none (omega (arith, same)) in
            (omega (arith, sum, no), λ below. absurd (omega (arith, same, below)))
        by false is few small none all sum = (
          omega (arith, sum, small),
          λ below. let no : few ≡ 0 = none (omega (arith, below)) in omega (arith, sum, no),
        )

-- the model may know of each client what its pass has seen
seen_by : List Pass → ℕ → ℕ
seen_by [] client = 0
seen_by (pass ∷ passes) client = with_known (seen_by passes) pass.client pass.seen client

knows-seen : (passes : List Pass) → AreApart passes → KnowsClients (seen_by passes) passes
unfolding seen_by
knows-seen [] apart = record { told = All-nil (IsTold (seen_by [])); apart = apart }
knows-seen (pass ∷ passes) apart =
    told-first (seen_by passes) pass passes (knows-seen passes (λ client.
    omega (arith, count-cons client pass passes, apart client))).told apart

seen-within : (log : Log) (passes : List Pass) → All (λ pass. length pass.seen ≤ length log) passes → (client : ℕ)
    → seen_by passes client ≤ length log
unfolding seen_by
seen-within log [] all client = omega arith
seen-within log (pass ∷ passes) all client =
    let here = All-head (λ (one : Pass). length one.seen ≤ length log) pass passes all in
    let later = seen-within log passes (All-tail (λ (one : Pass). length one.seen ≤ length log) pass passes all) client in
    elim (client == pass.client) as (λ b. cond b (length pass.seen) (seen_by passes client) ≤ length log) [
      | true ↦ here
      | false ↦ later
    ]

pub some-known : (log : Log) (passes : List Pass) → AreApart passes
    → All (λ pass. length pass.seen ≤ length log) passes
    → (known : ℕ → ℕ) × ((client : ℕ) → known client ≤ length log) × KnowsClients known passes
some-known log passes apart within = (seen_by passes, seen-within log passes within, knows-seen passes apart)

-- ---- the passes in partitions

-- those in one may change together with those that clients hold
module _ (known later : ℕ → ℕ) (p q : PartitionState) (held now : List Pass)
    (moves : Moves known later (passes_of p ++ held) (passes_of q ++ now)) where
  moves-set : (parts : List PartitionState) (place : ℕ) → place < length parts → p ≡ slice_index_or parts place p
      → Moves known later (passes_in parts ++ held) (passes_in (slice_set parts place q) ++ now)
  moves-set [] place within here = absurd (omega (arith, within))
  moves-set (first ∷ parts) zero within here = λ others knows.
      let mine : KnowsClients known (((passes_of p ++ passes_in parts) ++ held) ++ others) =
      subst (λ (one : PartitionState). KnowsClients known (((passes_of one ++ passes_in parts) ++ held) ++ others))
      (sym here) knows in
      knows-permuted later ((passes_of q ++ now) ++ (passes_in parts ++ others))
      (((passes_of q ++ passes_in parts) ++ now) ++ others)
      (IsPermutation-sym (((passes_of q ++ passes_in parts) ++ now) ++ others)
      ((passes_of q ++ now) ++ (passes_in parts ++ others)) (second-behind (passes_of q) (passes_in parts) now others))
      (moves (passes_in parts ++ others)
      (knows-permuted known (((passes_of p ++ passes_in parts) ++ held) ++ others)
      ((passes_of p ++ held) ++ (passes_in parts ++ others))
      (second-behind (passes_of p) (passes_in parts) held others) mine))
  moves-set (first ∷ parts) (suc place) within here = λ others knows.
      let rest : List Pass = passes_in (slice_set parts place q) in
      knows-permuted later ((rest ++ now) ++ (passes_of first ++ others)) (((passes_of first ++ rest) ++ now) ++ others)
      (IsPermutation-sym (((passes_of first ++ rest) ++ now) ++ others) ((rest ++ now) ++ (passes_of first ++ others))
      (first-behind (passes_of first) rest now others))
      (moves-set parts place (omega (arith, within)) here (passes_of first ++ others)
      (knows-permuted known (((passes_of first ++ passes_in parts) ++ held) ++ others)
      ((passes_in parts ++ held) ++ (passes_of first ++ others))
      (first-behind (passes_of first) (passes_in parts) held others) knows))

  pub knows-set : (parts : List PartitionState) (place : ℕ) → place < length parts → p ≡ slice_index_or parts place p
      → (news : List PartitionState) → news ≡ slice_set parts place q → KnowsClients known (passes_in parts ++ held)
      → KnowsClients later (passes_in news ++ now)
  knows-set parts place within here news news_is knows =
      subst (λ (l : List PartitionState). KnowsClients later (passes_in l ++ now)) (sym news_is)
      (moves-alone known later (passes_in parts ++ held) (passes_in (slice_set parts place q) ++ now)
      (moves-set parts place within here) knows)

-- a partition with the same job and answer has the same passes
pub passes-beside : (p q : PartitionState) → q.running ≡ p.running → q.finished ≡ p.finished
    → passes_of q ≡ passes_of p
passes-beside p q running finished =
    ap (λ (one : Option RunningJob). passes_between one q.finished) running
    ∙ ap (λ (one : Option DoneState). passes_between p.running one) finished

-- a job begins where none runs and no answer waits
pub moves-begin : (known : ℕ → ℕ) (p q : PartitionState) (job : RunningJob) (held : List Pass) → p.running ≡ None
    → p.finished ≡ None → q.running ≡ Some job → q.finished ≡ None
    → Moves known known (passes_of p ++ job.pass ∷ held) (passes_of q ++ held)
moves-begin known p q job held running finished begun none =
    moves-same known (passes_of p ++ job.pass ∷ held) (passes_of q ++ held)
    (ap (λ (l : List Pass). l ++ held) now ∙ sym (ap (λ (l : List Pass). l ++ job.pass ∷ held) before))
  where
    before : passes_of p ≡ []
    before =
        ap (λ (one : Option RunningJob). passes_between one p.finished) running
        ∙ ap (λ (one : Option DoneState). passes_between None one) finished

    now : passes_of q ≡ job.pass ∷ []
    now =
        ap (λ (one : Option RunningJob). passes_between one q.finished) begun
        ∙ ap (λ (one : Option DoneState). passes_between (Some job) one) none

-- an answer is taken
pub moves-take : (known : ℕ → ℕ) (running : Option RunningJob) (answer : DoneState) (held : List Pass)
    → Moves known known (passes_between running (Some answer) ++ held)
    (passes_between running None ++ answer.pass ∷ held)
moves-take known None answer held =
    moves-same known (passes_between None (Some answer) ++ held) (passes_between None None ++ answer.pass ∷ held) refl
moves-take known (Some job) answer held =
    moves-same known (passes_between (Some job) (Some answer) ++ held)
    (passes_between (Some job) None ++ answer.pass ∷ held) refl

-- a job ends, with its client told of a list, or with the pass as it was
pub moves-answered : (known later : ℕ → ℕ) (p q : PartitionState) (job : RunningJob) (answer : DoneState)
    → p.running ≡ Some job → q.running ≡ None → q.finished ≡ Some answer
    → Moves known later (job.pass ∷ []) (answer.pass ∷ []) → Moves known later (passes_of p) (passes_of q)
moves-answered known later p q job answer running idle finished moves = λ others knows.
    let waits : List Pass = option_to_list (option_map (λ (answer : DoneState). answer.pass) p.finished) in
    let ran : KnowsClients known ((job.pass ∷ waits) ++ others) =
    subst (λ (one : Option RunningJob). KnowsClients known (passes_between one p.finished ++ others)) running knows in
    subst (λ (l : List Pass). KnowsClients later (l ++ others)) (sym now)
    (moves others (knows-fewer-all known (job.pass ∷ []) waits others ran))
  where
    now : passes_of q ≡ answer.pass ∷ []
    now =
        ap (λ (one : Option RunningJob). passes_between one q.finished) idle
        ∙ ap (λ (one : Option DoneState). passes_between None one) finished

    -- an answer that waited is thrown away
    knows-fewer-all : (known : ℕ → ℕ) (a b c : List Pass) → KnowsClients known ((a ++ b) ++ c)
        → KnowsClients known (a ++ c)
    knows-fewer-all known a b c knows =
        knows-behind known b (a ++ c)
        (knows-permuted known (a ++ (b ++ c)) (b ++ (a ++ c)) (swapped a b c)
        (subst (λ (l : List Pass). KnowsClients known l) (append_assoc a b c) knows))

-- ---- partitions that keep their passes

pub passes-pairs : (relation : ℕ → PartitionState → PartitionState → Type 0)
    → ((number : ℕ) (p q : PartitionState) → relation number p q → passes_of q ≡ passes_of p)
    → (number : ℕ) (parts news : List PartitionState) → Pairwise relation number parts news
    → passes_in news ≡ passes_in parts
passes-pairs relation same number [] [] pairs = refl
passes-pairs relation same number (p ∷ parts) (q ∷ news) pairs =
    ap (λ (l : List Pass). l ++ passes_in news) (same number p q pairs.0)
    ∙ ap (λ (l : List Pass). passes_of p ++ l) (passes-pairs relation same (suc number) parts news pairs.1)
passes-pairs relation same number [] (q ∷ news) pairs = absurd pairs
passes-pairs relation same number (p ∷ parts) [] pairs = absurd pairs

-- one of them changes, and has the same passes
pub passes-set : (p q : PartitionState) → passes_of q ≡ passes_of p → (parts : List PartitionState) (place : ℕ)
    → p ≡ slice_index_or parts place p → passes_in (slice_set parts place q) ≡ passes_in parts
passes-set p q same [] place here = refl
passes-set p q same (first ∷ parts) zero here =
    ap (λ (l : List Pass). l ++ passes_in parts) (same ∙ ap passes_of here)
passes-set p q same (first ∷ parts) (suc place) here =
    ap (λ (l : List Pass). passes_of first ++ l) (passes-set p q same parts place here)

-- none lies where nothing runs and no answer waits
pub passes-none : (parts : List PartitionState)
    → ((place : ℕ) → IfSome (slice_get parts place) (λ p. (p.running ≡ None) × (p.finished ≡ None)))
    → passes_in parts ≡ []
passes-none [] none = refl
passes-none (p ∷ parts) none =
    ap (λ (l : List Pass). l ++ passes_in parts)
    (ap (λ (one : Option RunningJob). passes_between one p.finished) (none 0).0
    ∙ ap (λ (one : Option DoneState). passes_between None one) (none 0).1)
    ∙ passes-none parts (λ place. none (suc place))

-- ---- passes that clients hold

pub told-of : (known : ℕ → ℕ) (front : List Pass) (pass : Pass) (behind : List Pass)
    → KnowsClients known (front ++ pass ∷ behind) → known pass.client ≡ length pass.seen
told-of known front pass behind knows =
    All-head (IsTold known) pass (front ++ behind)
    (knows-permuted known (front ++ pass ∷ behind) (pass ∷ (front ++ behind))
    (IsPermutation-middle front pass behind) knows).told

-- one of them moves, and others are held too
pub moves-held : (known later : ℕ → ℕ) (a b : List Pass) (pass now : Pass) (held : List Pass)
    → Moves known later (a ++ pass ∷ []) (b ++ now ∷ []) → KnowsClients known (a ++ pass ∷ held)
    → KnowsClients later (b ++ now ∷ held)
moves-held known later a b pass now held moves knows =
    subst (λ (l : List Pass). KnowsClients later l) (append_assoc b (now ∷ []) held)
    (moves held (subst (λ (l : List Pass). KnowsClients known l) (sym (append_assoc a (pass ∷ []) held)) knows))

-- one client is told of a list, and the passes in partitions stay
pub knows-told : (known : ℕ → ℕ) (a b : List Pass) (pass now : Pass) (held : List Pass) (log : Log) → b ≡ a
    → now.client ≡ pass.client → now.seen ≡ log → KnowsClients known (a ++ pass ∷ held)
    → KnowsClients (with_known known pass.client log) (b ++ now ∷ held)
knows-told known a b pass now held log same client seen knows =
    moves-held known (with_known known pass.client log) a b pass now held
    (moves-both known known (with_known known pass.client log) a b (pass ∷ []) (now ∷ []) (moves-same known a b same)
    (moves-told known pass now log client seen)) knows

-- partitions that keep their passes, beside the same clients
pub knows-still : (known : ℕ → ℕ) (parts news : List PartitionState) (held : List Pass)
    → passes_in news ≡ passes_in parts → KnowsClients known (passes_in parts ++ held)
    → KnowsClients known (passes_in news ++ held)
knows-still known parts news held same knows =
    subst (λ (l : List Pass). KnowsClients known (l ++ held)) (sym same) knows
