-- What a draft in memory stands for, and what a token does to it.
use Rattle.std.specs.Prelude.{◌≡◌, ℕ, ◌<◌, Bool, true, false, length, Option, None, Some, IsSome, Result, Ok, Err, ⊤}
use Rattle.hy_query.specs.declared.draft.Draft.{Draft}
use Rattle.hy_query.specs.declared.parse.Next.{Next}
use Rattle.hy_query.specs.declared.parse.Next.TheVariants as nexts
use Rattle.hy_query.specs.Columns.{kind_of}
use Rattle.hy_query.specs.Queries.{QueryState}
use Rattle.hy_query.specs.inside.Lists.{HasLists}
use Rattle.hy_query.specs.inside.Outlines.{IsOutline}

-- a draft in memory is that of a query: what the language asks is known, and the lists are there if memory has lasted
pub record StandsFor (draft : Draft) (query : QueryState) : Type 0 where
  pub outline : IsOutline draft.outline query
  pub lists : HasLists draft.lists query

-- a draft says what is to come behind a token, and stands for what was read with it; nothing, where the token can't
-- stand there
abbrev pub Follows : Option (QueryState × Next) → Draft → Option Next → Type 0
Follows None draft result = result ≡ None
Follows (Some behind) draft result = (result ≡ Some behind.1) × StandsFor draft behind.0

-- whatever a draft stood for, it follows this answer to a token
abbrev pub Takes : Draft → Draft → Option Next → (QueryState → Option (QueryState × Next)) → Type 0
Takes old new result answer = (query : QueryState) → StandsFor old query → Follows (answer query) new result

-- the same at the end of the text
abbrev pub Ends : Option QueryState → Draft → Bool → Type 0
Ends None draft result = result ≡ false
Ends (Some query) draft result = (result ≡ true) × StandsFor draft query

-- there is room for a table that is to come, and the column of a condition is one
abbrev pub IsReady : Draft → Next → Type 0
IsReady draft nexts.Table = length draft.outline.tables < 4
IsReady draft (nexts.Right left comparison) = IsSome (kind_of left)
IsReady draft next = ⊤

-- what was read of a text, or the place of its fault
abbrev pub Reads : Result (QueryState × Next) ℕ → Draft → Result Next ℕ → Type 0
Reads (Ok behind) draft result = (result ≡ Ok behind.1) × StandsFor draft behind.0
Reads (Err place) draft result = result ≡ Err place
