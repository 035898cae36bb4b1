-- An event is answered alike by databases that have kept the same, unless frames or memory lacked for one of them.
use Rattle.std.specs.Prelude.{⊤}
use Rattle.std.proofs.Common.{append_assoc, ◌≡◌, ◌⊎◌, ◌∙◌, ◌++◌, ℕ, zero, suc, true, false, List, [], ◌∷◌, Option, None, Some, MatchOption, slice_get, slice_set, refl, sym, ap, subst, inl, inr, arith}
use Rattle.std.proofs.lemmas.Bool.{true≢false}
use Rattle.hy_rows.specs.Tables.{Lists}
use Rattle.hy_schema.specs.declared.refusal.Refusal.TheVariants as refusals
use Rattle.hy_commands.specs.declared.command.Command.{Command}
use Rattle.hy_commands.specs.declared.reply.Reply.{Reply}
use Rattle.hy_commands.specs.Commands.{home_of}
use Rattle.hy_events.specs.declared.event.Event.{Event}
use Rattle.hy_events.specs.declared.event.Event.TheVariants as events
use Rattle.hy_events.specs.Events.{event_of}
use Rattle.hy_events.specs.Replies.{reply_text}
use Rattle.hy_partition.specs.Partition.{PartitionState}
use Rattle.hy_forks.specs.Partitions.{AreWhole, CrossesAndTells}
use Rattle.hy_script.specs.declared.answer.Request.{Request}
use Rattle.hy_script.specs.declared.answer.Request.TheVariants as requests
use Rattle.hy_script.specs.Databases.{DatabaseState}
use Rattle.hy_script.specs.Steps.{RunsAcross, is_crossing}
use Rattle.hy_script.specs.Answers.{Answers, Asks, AsksPart, IfThere, IsMisnamed, OpensNone, OpensNoneFrom, RunsWhole, refused_text}
use Rattle.hy_script.specs.Scripts.{AnswersLine, IsBad}
use Rattle.hy_hyper_input.specs.Received.{Said}
use Rattle.hy_hyper_answers.specs.declared.answers.Style.{Style}
use Rattle.hy_hyper_answers.specs.Served.{AnswersSaid, Serves, number_of, printed}
use Rattle.hy_hyper_rounds.specs.Restarts.{AnswerAlike, AsksOfFrames, HaveTheSame, KeepTheSame, LineAsksOfFrames, RanShort, SomeWaitsShort, TellsShortage, WasShort}
use Rattle.hy_hyper_rounds.proofs.AcrossLaws.{KeepAll, crossed-alike}
use Rattle.hy_hyper_rounds.proofs.GrantsLaws.{OfFrames, ShortHere, at-both, grants-alike, set-both, short-text, waits-at}
use Rattle.hy_hyper_rounds.proofs.ShownLaws.{check-alike, closed-alike, misnamed-alike, misnamed-back, named-answered, opened-alike, opened_from-alike, query-alike}

-- ---- an event

module _ (n : ℕ) (one other last its : DatabaseState) (text more : List ℕ) where
  abbrev pub AnsweredAlike : Type 0 → Type 0
  AnsweredAlike of_frames = ((of_frames ⊎ (more ≡ text)) × HaveTheSame n last its) ⊎ WasShort last text ⊎ WasShort its more

  -- nothing changes
  pub both-stay : (of_frames : Type 0) → HaveTheSame n one other → of_frames ⊎ (more ≡ text) → last ≡ one → its ≡ other
      → AnsweredAlike of_frames
  both-stay of_frames same texts stays stay = inl (texts, rw (stays, stay) same)

-- ---- what is asked of a warehouse

-- the partition at a place was replaced, and nothing else changed but the serial list
set-parts : (old new : DatabaseState) (place : ℕ) (next : PartitionState)
    → new ≡ record { parts = slice_set old.parts place next; snapshots = old.snapshots; log = new.log }
    → (new.parts ≡ slice_set old.parts place next) × (new.snapshots ≡ old.snapshots)
set-parts old new place next is =
    (ap (λ (database : DatabaseState). database.parts) is, ap (λ (database : DatabaseState). database.snapshots) is)

waits-set : (old new : DatabaseState) (place : ℕ) (p next : PartitionState) (text : List ℕ)
    → slice_get old.parts place ≡ Some p → new.parts ≡ slice_set old.parts place next → ShortHere next text
    → WasShort new text
waits-set old new place p next text there parts short = elim short [
  | inl waits ↦ inl (subst SomeWaitsShort (sym parts) (waits-at place old.parts p next there waits))
  | inr tells ↦ inr tells
]

part-alike : (n : ℕ) (one other last its : DatabaseState) (text more : List ℕ) (request : Request) (place : ℕ)
    (p q : PartitionState) → HaveTheSame n one other → slice_get one.parts place ≡ Some p
    → slice_get other.parts place ≡ Some q → KeepTheSame 1 p q → AsksPart (suc place) request one last text p
    → AsksPart (suc place) request other its more q → AnsweredAlike n one other last its text more (OfFrames request)
part-alike n one other last its text more request place p q same there its_there keep asks ask =
    let set = set-parts one last place asks.0 asks.2 in
    let its_set = set-parts other its place ask.0 ask.2 in
    elim (grants-alike 1 p q keep one.log last.log other.log its.log same.log asks.0 ask.0 text more request asks.1 ask.1) [
      | inl granted ↦ inl (
        granted.0,
        record {
          parts = rw (set.0, its_set.0) (set-both 1 place one.parts other.parts asks.0 ask.0 same.parts granted.1);
          snapshots = rw (set.1, its_set.1) (same.snapshots);
          once = rw (set.1) (same.once);
          log = granted.2;
        },
      )
      | inr short ↦ elim short [
        | inl here ↦ inr (inl (waits-set one last place p asks.0 text there set.0 here))
        | inr here ↦ inr (inr (waits-set other its place q ask.0 more its_there its_set.0 here))
      ]
    ]

-- a warehouse that may not be there
module _ (n : ℕ) (one other last its : DatabaseState) (text more : List ℕ) (of_frames : Type 0)
    (does : ℕ → DatabaseState → DatabaseState → List ℕ → PartitionState → Type 0) (same : HaveTheSame n one other)
    (leads : (place : ℕ) (p q : PartitionState) → slice_get one.parts place ≡ Some p
    → slice_get other.parts place ≡ Some q → KeepTheSame 1 p q → does (suc place) one last text p
    → does (suc place) other its more q → AnsweredAlike n one other last its text more of_frames) where
  abbrev Missing : DatabaseState → DatabaseState → List ℕ → Type 0
  Missing old new printed = (new ≡ old) × (printed ≡ refused_text refusals.NoSuchWarehouse)

  found-alike : (place : ℕ) (found its_found : Option PartitionState) → slice_get one.parts place ≡ found
      → slice_get other.parts place ≡ its_found
      → MatchOption found (its_found ≡ None) (λ p. (q : PartitionState) × (its_found ≡ Some q) × KeepTheSame 1 p q)
      → MatchOption found (Missing one last text) (does (suc place) one last text)
      → MatchOption its_found (Missing other its more) (does (suc place) other its more)
      → AnsweredAlike n one other last its text more of_frames
  found-alike place None None there its_there both done do_it =
      both-stay n one other last its text more of_frames same (inr (do_it.1 ∙ sym done.1)) done.0 do_it.0
  found-alike place None (Some q) there its_there both done do_it = absurd (cc)
  found-alike place (Some p) None there its_there both done do_it = absurd (let is = both.1 in cc)
  found-alike place (Some p) (Some q) there its_there both done do_it =
      let is : both.0 ≡ q = let is = both.1 in cc in
      leads place p q there its_there (subst (KeepTheSame 1 p) is both.2) done do_it

  pub there-alike : (number : ℕ) → IfThere number one last text (does number one last text)
      → IfThere number other its more (does number other its more) → AnsweredAlike n one other last its text more of_frames
  there-alike zero done do_it =
      both-stay n one other last its text more of_frames same (inr (do_it.1 ∙ sym done.1)) done.0 do_it.0
  there-alike (suc place) done do_it =
      found-alike place (slice_get one.parts place) (slice_get other.parts place) refl refl
      (at-both 1 place one.parts other.parts same.parts) done do_it

-- ---- commands over several warehouses

same-lists : (lists its_lists : Lists) (ones others : List PartitionState) → AreWhole lists ones → AreWhole its_lists others
    → KeepAll 1 ones others → its_lists ≡ lists
same-lists lists its_lists [] others whole its_whole same = absurd (omega (arith, whole.some))
same-lists lists its_lists (one ∷ ones) [] whole its_whole same = absurd same
same-lists lists its_lists (one ∷ ones) (other ∷ others) whole its_whole same =
    sym (its_whole.partitions.each 0).0 ∙ same.0.load ∙ (whole.partitions.each 0).0

module _ (n : ℕ) (one other last its : DatabaseState) (text more : List ℕ) (same : HaveTheSame n one other) where
  across-alike : (command : Command) (reply its_reply : Reply) → RunsAcross command one last reply
      → RunsAcross command other its its_reply → text ≡ reply_text reply → more ≡ reply_text its_reply
      → AnsweredAlike n one other last its text more ⊥
  across-alike command reply its_reply runs run prints print =
      let lists_same : run.lists ≡ runs.lists =
      same-lists runs.lists run.lists one.parts other.parts runs.load run.load same.parts in
      let crosses : CrossesAndTells runs.lists run.job other.log its.log other.parts its.parts run.answer =
      subst (λ (lists : Lists). CrossesAndTells lists run.job other.log its.log other.parts its.parts run.answer) lists_same
      run.crosses in
      elim (crossed-alike runs.lists runs.job run.job runs.edition run.edition (run.command_is ∙ sym runs.command_is)
      one.log last.log other.log its.log one.parts other.parts last.parts its.parts same.log same.parts runs.answer
      run.answer runs.crosses crosses) [
        | inl done ↦ inl (
          inr (print ∙ ap reply_text (sym run.replies ∙ done.0 ∙ runs.replies) ∙ sym prints),
          record {
            parts = done.1;
            snapshots = rw (runs.snapshots, run.snapshots) (same.snapshots);
            once = rw (runs.snapshots) (same.once);
            log = done.2;
          },
        )
        | inr short ↦ elim short [
          | inl here ↦ inr (inl (elim here [
            | inl waits ↦ inl waits
            | inr replies ↦ inr (short-text reply text (replies.0, replies.1, sym runs.replies ∙ replies.2) prints)
          ]))
          | inr here ↦ inr (inr (elim here [
            | inl waits ↦ inl waits
            | inr replies ↦ inr (short-text its_reply more (replies.0, replies.1, sym run.replies ∙ replies.2) print)
          ]))
        ]
      ]

  asks-alike : (number : ℕ) (request : Request) → Asks number request one last text → Asks number request other its more
      → AnsweredAlike n one other last its text more (OfFrames request)
  asks-alike number request =
      there-alike n one other last its text more (OfFrames request)
      (λ number old new printed p. AsksPart number request old new printed p) same
      (λ place p q there its_there keep asks ask.
      part-alike n one other last its text more request place p q same there its_there keep asks ask) number

  whole-alike : (command : Command) → RunsWhole command one last text → RunsWhole command other its more
      → AnsweredAlike n one other last its text more ⊥
  whole-alike command =
      there-alike n one other last its text more ⊥
      (λ number old new printed p.
      ((is_crossing command ≡ true) × (reply : Reply) × RunsAcross command old new reply × (printed ≡ reply_text reply))
      ⊎ ((is_crossing command ≡ false) × AsksPart number (requests.Run command) old new printed p)) same
      (λ place p q there its_there keep done do_it. elim done [
        | inl across ↦ elim do_it [
          | inl cross ↦ across-alike command across.1 cross.1 across.2 cross.2 across.3 cross.3
          | inr home ↦ absurd (true≢false (sym across.0 ∙ home.0))
        ]
        | inr home ↦ elim do_it [
          | inl cross ↦ absurd (true≢false (sym cross.0 ∙ home.0))
          | inr its_home ↦ part-alike n one other last its text more (requests.Run command) place p q same there its_there
              keep home.1 its_home.1
        ]
      ]) (home_of command)

  -- ---- snapshots

  unopened-short : (database new : DatabaseState) (printed : List ℕ) → OpensNone database new printed
      → TellsShortage printed
  unopened-short database new printed none = (
    none.why,
    elim none.reason [
      | inl frames ↦ inl frames.0
      | inr memory ↦ inr memory
    ],
    none.prints,
  )

  from-short : (from : List ℕ) (database new : DatabaseState) (printed : List ℕ) → OpensNoneFrom from database new printed
      → TellsShortage printed
  from-short from database new printed none = (refusals.NoMemory, inr refl, none.prints)

  asked-alike : ((more ≡ text) ⊎ TellsShortage text ⊎ TellsShortage more) × HaveTheSame n last its
      → AnsweredAlike n one other last its text more ⊥
  asked-alike asked = elim asked.0 [
    | inl texts ↦ inl (inr texts, asked.1)
    | inr short ↦ elim short [
      | inl here ↦ inr (inl (inr here))
      | inr here ↦ inr (inr (inr here))
    ]
  ]

  pub event-alike : (event : Event) → Answers n event one last text → Answers n event other its more
      → AnsweredAlike n one other last its text more (AsksOfFrames event)
  event-alike (events.Run command) answers answer = whole-alike command answers answer
  event-alike (events.Begin command) answers answer = asks-alike (home_of command) (requests.Begin command) answers answer
  event-alike (events.Step number) answers answer = asks-alike number requests.Step answers answer
  event-alike (events.Done number) answers answer = asks-alike number requests.Done answers answer
  event-alike (events.Touched number) answers answer = asks-alike number requests.Touched answers answer
  event-alike (events.Free number) answers answer = asks-alike number requests.Free answers answer
  event-alike (events.Shared number) answers answer = asks-alike number requests.Shared answers answer
  event-alike (events.Limit number frames) answers answer = asks-alike number (requests.Limit frames) answers answer
  event-alike (events.Fork name) answers answer = elim answers.1 [
    | inr none ↦ inr (inl (inr (unopened-short one last text none)))
    | inl opens ↦ elim answer.1 [
      | inr none ↦ inr (inr (inr (unopened-short other its more none)))
      | inl open_it ↦
          let both = opened-alike n name one last other its text more same answers.0 opens open_it in
          inl (inr both.0, both.1)
    ]
  ]
  event-alike (events.ForkFrom name from) answers answer = elim answers.1 [
    | inr none ↦ inr (inl (inr (from-short from one last text none)))
    | inl opens ↦ elim answer.1 [
      | inr none ↦ inr (inr (inr (from-short from other its more none)))
      | inl open_it ↦
          let both = opened_from-alike n name from one last other its text more same answers.0 opens open_it in
          inl (inr both.0, both.1)
    ]
  ]
  event-alike (events.Close name) answers answer =
      let both = closed-alike n name one last other its text more same answers answer in inl (inr both.0, both.1)
  event-alike (events.Query name asked) answers answer =
      asked-alike (query-alike n name asked one last other its text more same answers answer)
  event-alike (events.Check name) answers answer =
      asked-alike (check-alike n name one last other its text more same answers answer)

-- ---- lines

module _ (n : ℕ) (one other last its : DatabaseState) (text more : List ℕ) (same : HaveTheSame n one other) where
  abbrev LineAlike : List ℕ → Type 0
  LineAlike line = AnsweredAlike n one other last its text more (MatchOption (event_of line) ⊥ AsksOfFrames)

  no-event : (line : List ℕ) (event : Event) → line ≡ [] → event_of line ≡ Some event → ⊥
  no-event line event empty is =
      let none : event_of [] ≡ Some event = subst (λ (bytes : List ℕ). event_of bytes ≡ Some event) empty is in cc

  events-alike : (line : List ℕ) (event its_event : Event) → event_of line ≡ Some event → event_of line ≡ Some its_event
      → Answers n event one last text → Answers n its_event other its more → LineAlike line
  events-alike line event its_event is its_is answers answer =
      let events : its_event ≡ event = cc in
      subst (λ found. AnsweredAlike n one other last its text more (MatchOption found ⊥ AsksOfFrames)) (sym is)
      (event-alike n one other last its text more same event answers
      (subst (λ (event : Event). Answers n event other its more) events answer))

  line-alike : (line : List ℕ) → AnswersLine n line one last text → AnswersLine n line other its more → LineAlike line
  line-alike line answers answer = elim answers [
    | inl empty ↦ elim answer [
      | inl its_empty ↦ both-stay n one other last its text more (MatchOption (event_of line) ⊥ AsksOfFrames) same
          (inr (its_empty.2 ∙ sym empty.2)) empty.1 its_empty.1
      | inr some ↦ elim some [
        | inl event ↦ absurd (no-event line event.0 empty.0 event.1)
        | inr memory ↦ inr (inr (inr (refusals.NoMemory, inr refl, memory.2)))
      ]
    ]
    | inr some ↦ elim some [
      | inr memory ↦ inr (inl (inr (refusals.NoMemory, inr refl, memory.2)))
      | inl event ↦ elim answer [
        | inl its_empty ↦ absurd (no-event line event.0 its_empty.0 event.1)
        | inr its_some ↦ elim its_some [
          | inl its_event ↦ events-alike line event.0 its_event.0 event.1 its_event.1 event.2 its_event.2
          | inr memory ↦ inr (inr (inr (refusals.NoMemory, inr refl, memory.2)))
        ]
      ]
    ]
  ]

  -- what one answers isn't a bad event to the other one
  answered-well : (database new by : DatabaseState) (line printed : List ℕ) → AnswersLine n line database new printed
      → ((event : Event) → IsMisnamed by event → IsMisnamed database event) → IsBad by line → TellsShortage printed
  answered-well database new by line printed answers names bad = elim answers [
    | inl empty ↦ absurd (bad.0 empty.0)
    | inr some ↦ elim some [
      | inr memory ↦ (refusals.NoMemory, inr refl, memory.2)
      | inl event ↦ absurd (named-answered n event.0 database new printed event.2 (names event.0
          (subst (λ found. MatchOption found ⊤ (IsMisnamed by)) event.1 bad.1)))
    ]
  ]

  said-alike : (said : Said) → AnswersSaid n said one last text → AnswersSaid n said other its more
      → AnsweredAlike n one other last its text more (LineAsksOfFrames said)
  said-alike (Said.a_line number line) answers answer = elim answers [
    | inl answered ↦ elim answer [
      | inl its_answered ↦ line-alike line answered its_answered
      | inr bad ↦ inr (inl (inr (answered-well one last other line text answered
          (λ event. misnamed-back n event one other same) bad.0)))
    ]
    | inr bad ↦ elim answer [
      | inl its_answered ↦ inr (inr (inr (answered-well other its one line more its_answered
          (λ event. misnamed-alike n event one other same) bad.0)))
      | inr its_bad ↦ both-stay n one other last its text more (LineAsksOfFrames (Said.a_line number line)) same
          (inr (its_bad.2 ∙ sym bad.2)) bad.1 its_bad.1
    ]
  ]
  said-alike (Said.too_long number) answers answer =
      both-stay n one other last its text more (LineAsksOfFrames (Said.too_long number)) same
      (inr (answer.1 ∙ sym answers.1)) answers.0 answer.0

-- ---- all that is said

ran-now : (n : ℕ) (style : Style) (said : Said) (later : List Said) (old new last : DatabaseState)
    (answer rest text : List ℕ) → AnswersSaid n said old new answer
    → text ≡ printed style (number_of said) answer ++ rest → Serves n style later new last rest → WasShort new answer
    → RanShort n style (said ∷ later) old last text
ran-now n style said later old new last answer rest text answers text_is goes_on short = record {
  before = [];
  one = said;
  later = later;
  said_is = refl;
  middle = old;
  next = new;
  front = [];
  answer = answer;
  rest = rest;
  text_is = text_is;
  serves = (refl, refl);
  answers = answers;
  goes_on = goes_on;
  short = short;
}

ran-later : (n : ℕ) (style : Style) (said : Said) (later : List Said) (old new last : DatabaseState)
    (answer rest text : List ℕ) → AnswersSaid n said old new answer
    → text ≡ printed style (number_of said) answer ++ rest → RanShort n style later new last rest
    → RanShort n style (said ∷ later) old last text
ran-later n style said later old new last answer rest text answers text_is ran = record {
  before = said ∷ ran.before;
  one = ran.one;
  later = ran.later;
  said_is = ap (λ rest. said ∷ rest) ran.said_is;
  middle = ran.middle;
  next = ran.next;
  front = printed style (number_of said) answer ++ ran.front;
  answer = ran.answer;
  rest = ran.rest;
  text_is = text_is ∙ ap (λ behind. printed style (number_of said) answer ++ behind) ran.text_is
      ∙ sym (append_assoc (printed style (number_of said) answer) ran.front
      (printed style (number_of ran.one) ran.answer ++ ran.rest));
  serves = (new, answer, ran.front, answers, refl, ran.serves);
  answers = ran.answers;
  goes_on = ran.goes_on;
  short = ran.short;
}

pub answers-alike : AnswerAlike
answers-alike n style [] one other same last its text more serves serve =
    inl ((serves.1, serve.1), rw (serves.0, serve.0) same)
answers-alike n style (said ∷ later) one other same last its text more serves serve =
    elim (said-alike n one other serves.0 serve.0 serves.1 serve.1 same said serves.3 serve.3) [
      | inr short ↦ elim short [
        | inl here ↦ inr (inl (ran-now n style said later one serves.0 last serves.1 serves.2 text serves.3 serves.4 serves.5 here))
        | inr here ↦ inr (inr (ran-now n style said later other serve.0 its serve.1 serve.2 more serve.3 serve.4 serve.5 here))
      ]
      | inl both ↦ elim (answers-alike n style later serves.0 serve.0 both.1 last its serves.2 serve.2 serves.5 serve.5) [
        | inl rest ↦ inl (
          (serves.1, serve.1, serves.2, serve.2, both.0, serves.4, serve.4, rest.0),
          rest.1,
        )
        | inr short ↦ elim short [
          | inl there ↦ inr (inl (ran-later n style said later one serves.0 last serves.1 serves.2 text serves.3 serves.4 there))
          | inr there ↦ inr (inr (ran-later n style said later other serve.0 its serve.1 serve.2 more serve.3 serve.4 there))
        ]
      ]
    ]
