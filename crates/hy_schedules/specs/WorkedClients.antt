-- The schedule of WorkedSchedules with the passes of its clients 5, 6 and 7: where each lies, what it has seen, and what
-- the model knows of that. And passes that the model doesn't know.
use Rattle.std.specs.Prelude.{◌≡◌, ◌≤◌, ℕ, negsuc, ◌+◌, ◌==◌, Bool, true, false, Option, Some, None, List, [], ◌∷◌, ◌++◌, length, refl}
use Rattle.std.specs.List.{AllByRecursion}
use Rattle.std.proofs.Common.{◌∙◌, ap, arith, cond}
use Rattle.std.proofs.lemmas.Bool.{eqb-true}
use Rattle.std.proofs.lemmas.List.Elements.{All-from_recursion}
use Rattle.hy_passes.specs.Worlds.{PassState}
use Rattle.hy_schema.specs.declared.refusal.Refusal.TheVariants as refusals
use Rattle.hy_commands.specs.declared.command.Command.TheVariants as commands
use Rattle.hy_commands.specs.declared.command.Commit.{Commit}
use Rattle.hy_commands.specs.declared.edition.Edition.TheVariants as editions
use Rattle.hy_commands.specs.declared.reply.Reply.TheVariants as replies
use Rattle.hy_forks.specs.of_partition.Jobs.{DoneState, Log, RunningJob, accepted_answer, refused_answer, told}
use Rattle.hy_forks.specs.of_partition.Partition.{PartitionState}
use Rattle.hy_forks.specs.of_partition.Schedules.{underway, with_accepted}
use Rattle.hy_schedules.specs.Clients.{AreApart, IsTold, KnowsClients, passes_in}
use Rattle.hy_schedules.specs.Looking.{LookInTurn, LooksOnce, looked}
use Rattle.hy_schedules.specs.Schedules.{world_at}
use Rattle.hy_schedules.specs.WorkedSchedules.{bought, bought_amid, drained, forked, last, lists, paid, pay, paying, place_in, start}

-- a client's pass that has seen a list
abbrev pass : ℕ → Log → PassState Commit
pass client seen = record { client = client; seen = seen; looks = 0 }

abbrev passes : Log → Log → Log → List (PassState Commit)
passes five six seven = pass 5 five ∷ pass 6 six ∷ pass 7 seven ∷ []

-- of each of some passes the model knows what it has seen
abbrev AreTold : (ℕ → ℕ) → List (PassState Commit) → Type 0
AreTold known some = AllByRecursion (IsTold known) some

-- ---- the partitions of the two warehouses, whose pages don't matter here

abbrev partition : ℕ → Option RunningJob → Option DoneState → PartitionState
partition number running finished = record {
  load = lists;
  warehouse = number;
  max_kept = 9;
  replayed = 0;
  seen = [];
  kept = [];
  book = record { warehouse = number; commits = 0; cents = 0 };
  running = running;
  part = None;
  undo = record { counts = []; images = [] };
  finished = finished;
  space = record { owner = []; children = []; frames = record { max = 1; frames = [] } };
  snapshots = [];
}

abbrev job : ℕ → RunningJob
job slices = record { edition = editions.Second; command = pay; slices = slices; pass = pass 5 [] }

-- the payment was accepted behind the empty list, the other purchase refused
abbrev answer : DoneState
answer = accepted_answer (job 1) 1 (replies.Payment 2 (negsuc 3_499)) paid.log

abbrev refused : DoneState
refused = refused_answer (pass 6 bought.log) refusals.NoSuchItem

abbrev idle : List PartitionState
idle = partition 1 None None ∷ partition 2 None None ∷ []

abbrev running : ℕ → List PartitionState
running slices = partition 1 (Some (job slices)) None ∷ partition 2 None None ∷ []

abbrev waiting : List PartitionState
waiting = partition 1 None (Some answer) ∷ partition 2 None None ∷ []

-- ---- where the passes lie

held_at_first : passes_in idle ≡ []
held_at_first = refl

lies_in_the_job : passes_in (running 1) ≡ pass 5 [] ∷ []
lies_in_the_job = refl

lies_in_the_answer : passes_in waiting ≡ pass 5 paid.log ∷ []
lies_in_the_answer = refl

-- ---- what is known behind each event

told_at_first : AreTold start.known (passes_in idle ++ passes [] [] [])
told_at_first = (refl, (refl, (refl, tt)))

-- the payment of client 5 begins, and does a slice
told_while_paying : (slices : ℕ)
    → AreTold (paying slices).known (passes_in (running slices) ++ pass 6 [] ∷ pass 7 [] ∷ [])
told_while_paying slices = (refl, (refl, (refl, tt)))

-- the purchase of client 6 is accepted behind it: client 5 has seen one commit then, and client 6 two
told_when_bought : AreTold bought.known (passes_in waiting ++ told (pass 6 []) bought.log ∷ pass 7 [] ∷ [])
told_when_bought = (refl, (refl, (refl, tt)))

-- client 7 takes a snapshot of both warehouses
told_when_forked : AreTold forked.known (passes_in waiting ++ pass 6 bought.log ∷ told (pass 7 []) bought.log ∷ [])
told_when_forked = (refl, (refl, (refl, tt)))

-- the other purchase of client 6 is refused, and client 5 takes its answer
told_when_taken : AreTold drained.known (passes_in idle ++ answer.pass ∷ refused.pass ∷ pass 7 bought.log ∷ [])
told_when_taken = (refl, (refl, (refl, tt)))

-- and looks
told_at_last : AreTold last.known (passes_in idle ++ told answer.pass last.log ∷ refused.pass ∷ pass 7 bought.log ∷ [])
told_at_last = (refl, (refl, (refl, tt)))

-- and so are they known, since no two are of one client, whatever they have seen
few : (a b c : Bool) (client : ℕ) → (a ≡ true → 5 ≡ client) → (b ≡ true → 6 ≡ client) → (c ≡ true → 7 ≡ client)
    → ((0 + cond a 1 0) + cond b 1 0) + cond c 1 0 ≤ 1
few true true c client five six seven = absurd (omega (arith, five refl, six refl))
few true false true client five six seven = absurd (omega (arith, five refl, seven refl))
few true false false client five six seven = omega arith
few false true true client five six seven = absurd (omega (arith, six refl, seven refl))
few false true false client five six seven = omega arith
few false false true client five six seven = omega arith
few false false false client five six seven = omega arith

apart : (five six seven : Log) → AreApart (passes five six seven)
apart five six seven client =
    few (5 == client) (6 == client) (7 == client) client (λ is. eqb-true 5 client is) (λ is. eqb-true 6 client is)
    (λ is. eqb-true 7 client is)

known_at_last :
    KnowsClients last.known (passes_in idle ++ told answer.pass last.log ∷ refused.pass ∷ pass 7 bought.log ∷ [])
known_at_last = record {
  told = All-from_recursion (IsTold last.known) (passes last.log bought.log bought.log) (refl, (refl, (refl, tt)));
  apart = λ client.
      few (5 == client) (6 == client) (7 == client) client (λ is. eqb-true 5 client is) (λ is. eqb-true 6 client is)
      (λ is. eqb-true 7 client is);
}

-- ---- looks within a command over several warehouses

-- before the purchase enters client 9 looks twice: its pass has seen the payment, and two looks more
looks_twice : LookInTurn (9 ∷ 9 ∷ []) paid.log (pass 8 [] ∷ pass 9 [] ∷ [])
    (pass 8 [] ∷ record (pass 9 paid.log) { looks = 2 } ∷ [])
looks_twice = (
  pass 8 [] ∷ record (pass 9 paid.log) { looks = 1 } ∷ [],
  record { front = pass 8 [] ∷ []; pass = pass 9 []; rest = []; held_are = refl; client_is = refl; now_are = refl },
  (
    pass 8 [] ∷ record (pass 9 paid.log) { looks = 2 } ∷ [],
    record {
      front = pass 8 [] ∷ [];
      pass = record (pass 9 paid.log) { looks = 1 };
      rest = [];
      held_are = refl;
      client_is = refl;
      now_are = refl;
    },
    refl,
  ),
)

-- of that pass, of those of clients 7 and 8 and of the other two the model knows what they have seen
told_amid : AreTold bought_amid.known
    (passes_in waiting ++ told (pass 6 []) bought.log ∷ looked (pass 7 []) bought.log ∷ looked (pass 8 []) []
    ∷ record (pass 9 paid.log) { looks = 2 } ∷ [])
told_amid = (refl, (refl, (refl, (refl, (refl, tt)))))

-- each look adds one to the number of looks
abbrev looks_in : List (PassState Commit) → ℕ
looks_in [] = 0
looks_in (pass ∷ passes) = pass.looks + looks_in passes

looks_in_both : (front behind : List (PassState Commit)) → looks_in (front ++ behind) ≡ looks_in front + looks_in behind
looks_in_both [] behind = let same : looks_in behind ≡ 0 + looks_in behind = omega arith in same
looks_in_both (pass ∷ front) behind =
    let same : pass.looks + (looks_in front + looks_in behind) ≡ (pass.looks + looks_in front) + looks_in behind =
    omega arith in
    ap (λ (n : ℕ). pass.looks + n) (looks_in_both front behind) ∙ same

counts_one : (client : ℕ) (log : Log) (held now : List (PassState Commit)) → LooksOnce client log held now
    → looks_in now ≡ looks_in held + 1
counts_one client log held now once =
    let before : looks_in held ≡ looks_in once.front + (once.pass.looks + looks_in once.rest) =
    ap looks_in once.held_are ∙ looks_in_both once.front (once.pass ∷ once.rest) in
    let after : looks_in now ≡ looks_in once.front + ((once.pass.looks + 1) + looks_in once.rest) =
    ap looks_in once.now_are ∙ looks_in_both once.front (looked once.pass log ∷ once.rest) in
    omega (arith, before, after)

-- a command that only reads tells its client too, though it enters nothing
abbrev level : RunningJob
level = record {
  edition = editions.Second;
  command = commands.StockLevel record { warehouse = 1; district = 1; threshold = 10 };
  slices = 0;
  pass = pass 8 [];
}

reader_is_told : ((with_accepted (world_at last 1 (place_in last 1)) (underway level)).known 8 ≡ 2)
    × ((with_accepted (world_at last 1 (place_in last 1)) (underway level)).log ≡ last.log)
    × ((accepted_answer level 1 (replies.StockLevel 1) last.log).pass ≡ pass 8 last.log)
reader_is_told = (refl, refl, refl)

-- ---- what isn't known

-- two passes of one client
not_twice : (known : ℕ → ℕ) (five other : Log) → KnowsClients known (pass 5 five ∷ pass 6 [] ∷ pass 5 other ∷ []) → ⊥
not_twice known five other knows = let few : 2 ≤ 1 = knows.apart 5 in absurd (omega (arith, few))

-- a pass that was told of what another client entered, where no call told it
not_untold : KnowsClients bought.known (pass 5 bought.log ∷ []) → ⊥
not_untold knows = let same : 1 ≡ 2 = knows.told 0 (pass 5 []) (omega arith) in absurd (omega (arith, same))

-- nor one that has forgotten
not_forgotten : KnowsClients bought.known (pass 6 [] ∷ []) → ⊥
not_forgotten knows = let same : 2 ≡ 0 = knows.told 0 (pass 5 []) (omega arith) in absurd (omega (arith, same))

-- a look that isn't counted
not_uncounted : LooksOnce 9 paid.log (pass 9 [] ∷ []) (pass 9 paid.log ∷ []) → ⊥
not_uncounted once = let one : 0 ≡ 1 = counts_one 9 paid.log _ _ once in absurd (omega (arith, one))

-- one that doesn't see what is there, or that sees what isn't there yet
sees_all : (log seen : Log) (count : ℕ)
    → LooksOnce 9 log (pass 9 [] ∷ []) (record (pass 9 seen) { looks = count } ∷ []) → length seen ≡ length log
sees_all log seen count once = by once.front once.held_are once.now_are
  where
    by : (front : List (PassState Commit)) → pass 9 [] ∷ [] ≡ front ++ once.pass ∷ once.rest
        → record (pass 9 seen) { looks = count } ∷ [] ≡ front ++ looked once.pass log ∷ once.rest
        → length seen ≡ length log
    by [] held now = ap lengths now
      where
        lengths : List (PassState Commit) → ℕ
        lengths [] = 0
        lengths (one ∷ others) = length one.seen
    by (first ∷ front) held now =
        absurd (never front (ap rest_of held))
      where
        rest_of : List (PassState Commit) → List (PassState Commit)
        rest_of [] = []
        rest_of (one ∷ others) = others

        never : (front : List (PassState Commit)) → [] ≡ front ++ once.pass ∷ once.rest → ⊥
        never [] none = absurd (cc)
        never (one ∷ others) none =
            let no_more : [] ≡ one ∷ (others ++ once.pass ∷ once.rest) = none in absurd (cc)

not_blind : (count : ℕ) → LooksOnce 9 paid.log (pass 9 [] ∷ []) (record (pass 9 []) { looks = count } ∷ []) → ⊥
not_blind count once = let same : 0 ≡ 1 = sees_all paid.log [] count once in absurd (omega (arith, same))

not_early : (count : ℕ) → LooksOnce 9 paid.log (pass 9 [] ∷ []) (record (pass 9 bought.log) { looks = count } ∷ []) → ⊥
not_early count once = let same : 2 ≡ 1 = sees_all paid.log bought.log count once in absurd (omega (arith, same))
