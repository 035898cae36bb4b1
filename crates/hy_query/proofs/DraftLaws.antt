-- Drafts that read a text.
use Rattle.std.specs.Prelude.{◌≡◌, ℕ, true, false, List, ◌∷◌, length, fold, Option, None, Some, IfErr, IfOk, IfSome, MatchResult, Result, Ok, Err, refl}
use Rattle.std.proofs.Common.{ap, lit≤, sym, subst, ◌∙◌}
use Rattle.hy_schema.specs.declared.refusal.Refusal.{Refusal}
use Rattle.hy_schema.specs.declared.refusal.Refusal.TheVariants.{BadQuery, NoMemory}
use Rattle.hy_query.specs.declared.draft.Draft.{Draft}
use Rattle.hy_query.specs.declared.parse.Next.{Next}
use Rattle.hy_query.specs.declared.parse.Next.TheVariants as nexts
use Rattle.hy_query.specs.Language.{after, end_text, ended, or_fault, query_of, take_token}
use Rattle.hy_query.specs.Queries.{IsQuery, QueryState, no_query}
use Rattle.hy_query.specs.Tokens.{Token, tokens}
use Rattle.hy_query.specs.inside.Drafts.{Ends, Follows, Reads, StandsFor}
use Rattle.hy_query.specs.inside.Reached.{IsReached}
use Rattle.hy_query.proofs.ReachedLaws.{IsBehind, ended-right, fault-stays, reached_at, reached_behind}

module _ (query : QueryState) (next : Next) (token : Token) (left later : List Token) (draft : Draft) where
  -- a token that can't stand there is the fault of the whole text
  pub Reads-fault : (whole : Result (QueryState × Next) ℕ) → left ≡ token ∷ later
      → fold take_token (Ok (query, next)) left ≡ whole → Follows (after query next token.word) draft None
      → Reads whole draft (Err token.place)
  Reads-fault whole is same follows =
      let fault = by_answer (after query next token.word) refl follows in
      subst (λ whole. Reads whole draft (Err token.place)) (fault ∙ same) refl
    where
      by_answer : (answer : Option (QueryState × Next)) → after query next token.word ≡ answer
          → Follows answer draft None → Err token.place ≡ fold take_token (Ok (query, next)) left
      by_answer None answered follows =
          sym (ap (λ left. fold take_token (Ok (query, next)) left) is
          ∙ ap (λ answer. fold take_token (or_fault token.place answer) later) answered ∙ fault-stays token.place later)
      by_answer (Some behind) answered follows = absurd (cc follows.0)

  -- behind one that can, the rest of the text is read
  pub Reads-more : (behind : Next) (whole : Result (QueryState × Next) ℕ) → left ≡ token ∷ later → IsReached query next
      → fold take_token (Ok (query, next)) left ≡ whole → Follows (after query next token.word) draft (Some behind)
      → (more : QueryState) × StandsFor draft more × IsReached more behind
      × (fold take_token (Ok (more, behind)) later ≡ whole)
  Reads-more behind whole is reached same follows =
      by_answer (after query next token.word) refl (reached_behind query next token.word reached) follows
    where
      by_answer : (answer : Option (QueryState × Next)) → after query next token.word ≡ answer → IfSome answer IsBehind
          → Follows answer draft (Some behind) → (more : QueryState) × StandsFor draft more × IsReached more behind
          × (fold take_token (Ok (more, behind)) later ≡ whole)
      by_answer None answered right follows = absurd (cc follows)
      by_answer (Some read) answered right follows =
          let next_is : read.1 ≡ behind = cc follows.0 in
          let step : fold take_token (Ok (query, next)) left ≡ fold take_token (Ok read) later =
          ap (λ left. fold take_token (Ok (query, next)) left) is
          ∙ ap (λ answer. fold take_token (or_fault token.place answer) later) answered in (
            read.0,
            follows.1,
            subst (IsReached read.0) next_is right,
            ap (λ next. fold take_token (Ok (read.0, next)) later) (sym next_is) ∙ sym step ∙ same,
          )

-- ---- at the end

-- what was read of a text
abbrev read_of : List ℕ → Result (QueryState × Next) ℕ
read_of text = fold take_token (Ok (no_query, nexts.From)) (tokens text)

-- at the begin nothing is wrong
first_reached : IsReached no_query nexts.From
first_reached = (
  record { few_tables = lit≤ tt; different = tt; no_conditions = refl; no_groups = refl; no_items = refl; no_keys = refl },
  refl,
)

-- a fault in the text
pub query_of-fault : (text : List ℕ) (draft : Draft) (place : ℕ) → Reads (read_of text) draft (Err place)
    → query_of text ≡ Err place
query_of-fault text draft place reads = by_answer (read_of text) reads
  where
    by_answer : (answer : Result (QueryState × Next) ℕ) → Reads answer draft (Err place)
        → end_text (length text) answer ≡ Err place
    by_answer (Ok behind) reads = absurd (cc reads.0)
    by_answer (Err fault) reads = cc reads

-- a text that ends too early
pub query_of-early : (text : List ℕ) (draft end : Draft) (next : Next) → Reads (read_of text) draft (Ok next)
    → ((query : QueryState) → StandsFor draft query → Ends (ended (query, next)) end false)
    → query_of text ≡ Err (length text)
query_of-early text draft end next reads ends = by_answer (read_of text) reads
  where
    by_end : (query : Option QueryState) → Ends query end false → or_fault (length text) query ≡ Err (length text)
    by_end None early = refl
    by_end (Some query) early = absurd (cc early.0)

    by_answer : (answer : Result (QueryState × Next) ℕ) → Reads answer draft (Ok next)
        → end_text (length text) answer ≡ Err (length text)
    by_answer (Ok behind) reads =
        let next_is : next ≡ behind.1 = cc reads.0 in
        by_end (ended behind) (subst (λ next. Ends (ended (behind.0, next)) end false) next_is (ends behind.0 reads.1))
    by_answer (Err fault) reads = absurd (cc reads)

-- a query
pub query_of-draft : (text : List ℕ) (draft end : Draft) (next : Next) → Reads (read_of text) draft (Ok next)
    → ((query : QueryState) → StandsFor draft query → Ends (ended (query, next)) end true)
    → (query : QueryState) × StandsFor end query × IsQuery query × (query_of text ≡ Ok query)
query_of-draft text draft end next reads ends = by_answer (read_of text) refl reads
  where
    by_end : (behind : QueryState × Next) (query : Option QueryState) → ended behind ≡ query → IsBehind behind
        → Ends query end true
        → (made : QueryState) × StandsFor end made × IsQuery made × (or_fault (length text) query ≡ Ok made)
    by_end behind None is right stands = absurd (cc stands)
    by_end behind (Some made) is right stands = (made, stands.1, ended-right behind.0 behind.1 made right is, refl)

    by_answer : (answer : Result (QueryState × Next) ℕ) → read_of text ≡ answer → Reads answer draft (Ok next)
        → (made : QueryState) × StandsFor end made × IsQuery made × (end_text (length text) answer ≡ Ok made)
    by_answer (Ok behind) is reads =
        let next_is : next ≡ behind.1 = cc reads.0 in
        by_end behind (ended behind) refl (reached_at (tokens text) no_query nexts.From behind first_reached is)
        (subst (λ next. Ends (ended (behind.0, next)) end true) next_is (ends behind.0 reads.1))
    by_answer (Err fault) is reads = absurd (cc reads)

-- ---- what is answered

-- why a text is refused
abbrev IsWhy : Result QueryState ℕ → Refusal → Type 0
IsWhy read why = MatchResult read (λ query. why ≡ NoMemory) (λ place. why ≡ BadQuery place)

-- where it says none, the fault does
pub IsWhy-fault : (text : List ℕ) (place : ℕ) → query_of text ≡ Err place → IsWhy (query_of text) (BadQuery place)
IsWhy-fault text place is = subst (λ read. IsWhy read (BadQuery place)) (sym is) refl

-- where the text says a query, memory alone refuses it
pub IsWhy-memory : (text : List ℕ) (query : QueryState) (result : Result QueryState Refusal) → query_of text ≡ Ok query
    → IfErr result (λ why. why ≡ NoMemory) → IfErr result (IsWhy (query_of text))
IsWhy-memory text query (Ok made) is lacked = tt
IsWhy-memory text query (Err why) is lacked = subst (λ read. IsWhy read why) (sym is) lacked

-- what is made is the query that the text says
pub query_of-made : (text : List ℕ) (query : QueryState) (draft : Draft) (result : Result QueryState Refusal)
    → StandsFor draft query → query_of text ≡ Ok query
    → IfOk result (λ made. (query : QueryState) → StandsFor draft query → made ≡ query)
    → IfOk result (λ made. query_of text ≡ Ok made)
query_of-made text query draft (Ok made) stands is same = is ∙ ap (λ query. Ok query) (sym (same query stands))
query_of-made text query draft (Err why) stands is same = tt
