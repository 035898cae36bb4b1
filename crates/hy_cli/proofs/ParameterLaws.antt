-- Where the parser takes the words, what is given to a command has what its parameters want.
use Rattle.std.proofs.Common.{◌≡◌, ◌==◌, ℕ, suc, Bool, true, false, not, ◌&&◌, ◌||◌, cond, List, [], ◌∷◌, ◌++◌, map, length, Option, Some, None, Result, Ok, Err, IfOk, arith, inl, inr, refl, sym, subst}
use Rattle.std.specs.Prelude.{IfSome, IsSome, IsSomeAnd, ⊤, codes, find, option_map, slice_get}
use Rattle.std.specs.List.{list_all, list_any}
use Rattle.std.specs.Option.{option_and_then, option_map_or}
use Rattle.std.specs.Str.{bytes_eq}
use Rattle.clap.specs.ValueTests.{accepts}
use Rattle.clap.proofs.ValueTestLemmas.{accepts-Accepts}
use Rattle.clap.specs.Facts.{explicit_source}
use Rattle.clap.specs.Kinds.{check_kinds, or_else, range_kinds, value_kinds, values_kinds}
use Rattle.clap.specs.Faults.{defaults_fault, entered_fault, level_fault, repeat_fault, settle_fault, walk_fault}
use Rattle.clap.specs.Simple.{Shape, built, built_leaf, entered, filled, filled_from, help_rule, index_after, inherited, label_of, marked_built, names_of, rows_at, subcommand_of, subcommand_rows_of, with_index, with_leaf_noted}
use Rattle.clap.specs.Takes.{is_given}
use Rattle.clap.specs.Words.{IsUnsignedIn}
use Rattle.std.proofs.lemmas.Bool.{eqb-true}
use Rattle.std.proofs.lemmas.Slice.Eq.{bytes_eq-Decides}
use Rattle.clap.specs.Values.{read_as, refused_kind}
use Rattle.clap.specs.Walk.{Row, Rule, Text, answers_to, at_row, has_row, more_values, nothing_held, row_text, rows_after, settled, values_or_missing, walk, walk_from, with_default, with_values, without}
use Rattle.clap.specs.declared.error.kind.ErrorKind.TheVariants as kind
use Rattle.clap.specs.declared.builder.value_parser.Reading.{Reading}
use Rattle.clap.specs.declared.builder.value_parser.Reading.TheVariants as reading
use Rattle.clap.specs.declared.builder.value_parser.ValueParser.{ValueParser}
use Rattle.clap.specs.declared.builder.value_parser.ValueParser.TheVariants as parser
use Rattle.clap.specs.declared.parser.matches.ArgMatches.{ArgMatches}
use Rattle.clap.specs.declared.parser.matches.ValueSource.{ValueSource}
use Rattle.clap.specs.declared.parser.matches.ValueSource.TheVariants.{CommandLine, DefaultValue}
use Rattle.hy_cli.specs.CommandLine.{AreTaken, IsNumber, Parameter, command_of, commands, flag_rule, program_app, rule_for}
use Rattle.hy_cli.specs.CommandLine.{required_text, optional_text, named_text, required_number, optional_number}
use Rattle.hy_cli.specs.CommandLine.{bounded_number, required_within, flag}
use Rattle.hy_cli.specs.inside.Given.{AreGiven, IsGiven, IsKnown, IsOneOf, IsTruth}
use Rattle.hy_cli.proofs.WalkLaws.{Each, Keeps, KeepsDefault, default-none, either, rows_taken}

-- ---- one parameter

abbrev name_of : Parameter → Text
name_of (required_text name) = name
name_of (optional_text name) = name
name_of (named_text name) = name
name_of (required_number name) = name
name_of (optional_number name) = name
name_of (bounded_number low high name) = name
name_of (required_within low high name) = name
name_of (flag name) = name

-- what a text is tested for: nothing, a number within bounds, or the word of a truth value
data Test : Type 0 where
  any : Test
  within : ℕ → ℕ → Test
  truth : Test

abbrev test_of : Parameter → Test
test_of (required_text name) = any
test_of (optional_text name) = any
test_of (named_text name) = any
test_of (required_number name) = within 0 18446744073709551615
test_of (optional_number name) = within 0 18446744073709551615
test_of (bounded_number low high name) = within low high
test_of (required_within low high name) = within low high
test_of (flag name) = truth

abbrev parser_by : Test → ValueParser
parser_by any = parser.String
parser_by (within low high) = parser.Unsigned low high
parser_by truth = parser.Bool

abbrev parser_for : Parameter → ValueParser
parser_for p = parser_by (test_of p)

-- what a text has that passes
abbrev Passes : Test → Text → Type 0
Passes any text = ⊤
Passes (within low high) text = IsUnsignedIn low high text
Passes truth text = IsTruth text

-- what a text has that its parser takes
abbrev Fits : Parameter → Text → Type 0
Fits p = Passes (test_of p)

accepted : (p : ValueParser) (text : Text) → value_kinds false p text ≡ [] → accepts false p text ≡ true
accepted p text none = at (accepts false p text) none
  where
    at : (taken : Bool) → cond taken [] (refused_kind p ∷ []) ≡ [] → taken ≡ true
    at true none = refl
    at false none = absurd (cc)

-- a flag takes no value
no-value : (more : ℕ) → range_kinds 0 0 (suc more) ≡ [] → ⊥
no-value more none = at (0 == suc more) (eqb-true 0 (suc more)) none
  where
    at : (same : Bool) → (same ≡ true → 0 ≡ suc more) → cond same [] (kind.WrongNumberOfValues ∷ []) ≡ [] → ⊥
    at true is none =
        let bad : 0 ≡ suc more = is refl in
        absurd (omega (arith, bad))
    at false is none = absurd (cc)

-- ---- the row of a name

module _ (name : Text) (Q : Text → Type 0) where
  abbrev StartsWell : List Text → Type 0
  StartsWell [] = ⊥
  StartsWell (text ∷ rest) = Q text

  abbrev IsWell : Row → Type 0
  IsWell row = (row.reading ≡ reading.AsWritten) × StartsWell row.values

  abbrev IsRow : Row → Type 0
  IsRow row = bytes_eq row.id name ≡ true → IsWell row

  -- each row of the name has a first text, and it is one of those
  abbrev Rows : List Row → Type 0
  Rows [] = ⊤
  Rows (row ∷ rest) = IsRow row × Rows rest

  starts-append : (first second : List Text) → StartsWell first → StartsWell (first ++ second)
  starts-append [] second bad = absurd bad
  starts-append (text ∷ rest) second well = well

  rows-append : (first second : List Row) → Rows first → Rows second → Rows (first ++ second)
  rows-append [] second a b = b
  rows-append (row ∷ rest) second a b = (a.0, rows-append rest second a.1 b)

  rows-at : (id : Text) (change : Row → List Row) (missing rows : List Row) → ((row : Row) → IsRow row → Rows (change row)) → Rows missing → Rows rows
      → Rows (at_row id change missing rows)
  rows-at id change missing [] changed added had = added
  rows-at id change missing (row ∷ rest) changed added had = at (bytes_eq row.id id) (rows-at id change missing rest changed added had.1)
    where
      at : (same : Bool) → Rows (at_row id change missing rest) → Rows (cond same (change row ++ rest) (row ∷ at_row id change missing rest))
      at true further = rows-append (change row) rest (changed row had.0) had.1
      at false further = (had.0, further)

  rows-with : (id : Text) (how : Reading) (source : ValueSource) (values : List Text) (rows : List Row)
      → (bytes_eq id name ≡ true → (how ≡ reading.AsWritten) × StartsWell values) → Rows rows → Rows (with_values id how source values rows)
  rows-with id how source values rows well had =
      rows-at id (more_values source values) _ rows
      (λ row was. ((λ same. let h = was same in (h.0, starts-append row.values values h.1)), tt)) (well, tt) had

  rows-without : (id : Text) (rows : List Row) → Rows rows → Rows (without id rows)
  rows-without id rows had = rows-at id (λ _. []) [] rows (λ row was. tt) tt had

  -- the first row of the name
  row-found : (rows : List Row) → Rows rows → IfSome (find (λ r. bytes_eq r.id name) rows) IsWell
  row-found [] had = tt
  row-found (row ∷ rest) had = at (bytes_eq row.id name) had.0 (row-found rest had.1)
    where
      at : (same : Bool) → (same ≡ true → IsWell row) → IfSome (find (λ r. bytes_eq r.id name) rest) IsWell
          → IfSome (cond same (Some row) (find (λ r. bytes_eq r.id name) rest)) IsWell
      at true well further = well refl
      at false well further = further

  -- one use of an option or of a place, with one value
  set-keeps : (id : Text) (p : ValueParser) (rule : Rule) (again : Bool) (values : List Text) (rows : List Row)
      → (bytes_eq id name ≡ true → (text : Text) → accepts false p text ≡ true → Q text)
      → or_else (range_kinds 1 1 (length values)) (or_else (repeat_fault again id rows) (values_kinds false p (values_or_missing rule values))) ≡ [] → Rows rows
      → Rows (with_values id reading.AsWritten CommandLine (values_or_missing rule values) (without id rows))
  set-keeps id p rule again [] rows fits none had = absurd (cc)
  set-keeps id p rule again (text ∷ rest) rows fits none had =
      let tested = either (range_kinds 1 1 (length (text ∷ rest))) _ none in
      let set = either (repeat_fault again id rows) _ tested.1 in
      let first = either (value_kinds false p text) _ set.1 in
      rows-with id reading.AsWritten CommandLine (text ∷ rest) (without id rows) (λ same. (refl, fits same text (accepted p text first.0))) (rows-without id rows had)

  -- one use of a flag, and a flag that isn't used
  flag-keeps : (id : Text) (again : Bool) (values : List Text) (rows : List Row)
      → (bytes_eq id name ≡ true → (text : Text) → accepts false parser.Bool text ≡ true → Q text)
      → or_else (range_kinds 0 0 (length values)) (or_else (repeat_fault again id rows) (values_kinds false parser.Bool (values_or_missing (filled (flag_rule id)) values))) ≡ []
      → Rows rows → Rows (with_values id reading.AsWritten CommandLine (values_or_missing (filled (flag_rule id)) values) (without id rows))
  flag-keeps id again [] rows fits none had =
      rows-with id reading.AsWritten CommandLine (codes "true" ∷ []) (without id rows) (λ same. (refl, fits same (codes "true") refl)) (rows-without id rows had)
  flag-keeps id again (text ∷ rest) rows fits none had = absurd (no-value (length rest) (either (range_kinds 0 0 (suc (length rest))) _ none).0)

  flag-default : (id : Text) (rows : List Row) → (bytes_eq id name ≡ true → (text : Text) → accepts false parser.Bool text ≡ true → Q text) → Rows rows
      → Rows (with_default rows (filled (flag_rule id)))
  flag-default id rows fits had = at (has_row id rows)
    where
      at : (has : Bool) → Rows (cond has rows (with_values id reading.AsWritten DefaultValue (codes "false" ∷ []) rows))
      at true = had
      at false = rows-with id reading.AsWritten DefaultValue (codes "false" ∷ []) rows (λ same. (refl, fits same (codes "false") refl)) had

  -- a text that a parameter of this name takes is one of those
  abbrev Agrees : Parameter → Type 0
  Agrees q = bytes_eq (name_of q) name ≡ true → (text : Text) → accepts false (parser_for q) text ≡ true → Q text

  parameter-keeps : (q : Parameter) (place : ℕ) → Agrees q
      → Keeps Rows (with_index place (filled (rule_for q))) × KeepsDefault Rows (with_index place (filled (rule_for q)))
  parameter-keeps (required_text id) place fits = (
    λ again values rows none had. set-keeps id parser.String (filled (rule_for (required_text id))) again values rows fits none had,
    default-none Rows (with_index place (filled (rule_for (required_text id)))) refl,
  )
  parameter-keeps (optional_text id) place fits = (
    λ again values rows none had. set-keeps id parser.String (filled (rule_for (optional_text id))) again values rows fits none had,
    default-none Rows (with_index place (filled (rule_for (optional_text id)))) refl,
  )
  parameter-keeps (named_text id) place fits = (
    λ again values rows none had. set-keeps id parser.String (filled (rule_for (named_text id))) again values rows fits none had,
    default-none Rows (with_index place (filled (rule_for (named_text id)))) refl,
  )
  parameter-keeps (required_number id) place fits = (
    λ again values rows none had. set-keeps id (parser_for (required_number id)) (filled (rule_for (required_number id))) again values rows fits none had,
    default-none Rows (with_index place (filled (rule_for (required_number id)))) refl,
  )
  parameter-keeps (optional_number id) place fits = (
    λ again values rows none had. set-keeps id (parser_for (required_number id)) (filled (rule_for (optional_number id))) again values rows fits none had,
    default-none Rows (with_index place (filled (rule_for (optional_number id)))) refl,
  )
  parameter-keeps (bounded_number low high id) place fits = (
    λ again values rows none had. set-keeps id (parser.Unsigned low high) (filled (rule_for (bounded_number low high id))) again values rows fits none had,
    default-none Rows (with_index place (filled (rule_for (bounded_number low high id)))) refl,
  )
  parameter-keeps (required_within low high id) place fits = (
    λ again values rows none had. set-keeps id (parser.Unsigned low high) (filled (rule_for (required_within low high id))) again values rows fits none had,
    default-none Rows (with_index place (filled (rule_for (required_within low high id)))) refl,
  )
  parameter-keeps (flag id) place fits =
      (λ again values rows none had. flag-keeps id again values rows fits none had, λ rows had. flag-default id rows fits had)

  abbrev AllAgree : List Parameter → Type 0
  AllAgree [] = ⊤
  AllAgree (q ∷ rest) = Agrees q × AllAgree rest

  rules-keep : (parameters : List Parameter) (place : ℕ) → AllAgree parameters → Each Rows (filled_from place (map rule_for parameters ++ help_rule ∷ []))
  rules-keep [] place agree = ((λ again values rows none had. had, default-none Rows (with_index place (filled help_rule)) refl), tt)
  rules-keep (q ∷ rest) place agree = (parameter-keeps q place agree.0, rules-keep rest (index_after place (rule_for q)) agree.1)

-- ---- the parameters of a command

-- a text that passes the second passes the first
abbrev is_as : Test → Test → Bool
is_as any other = true
is_as (within low high) any = false
is_as (within low high) (within least most) = least == low && most == high
is_as (within low high) truth = false
is_as truth any = false
is_as truth (within least most) = false
is_as truth truth = true

-- a parameter `q` tests its texts as `p` does, or has another name
abbrev agrees : Parameter → Parameter → Bool
agrees p q = not (bytes_eq (name_of q) (name_of p)) || is_as (test_of p) (test_of q)

-- parameters of one name are of one kind
abbrev are_apart : List Parameter → List Parameter → Bool
are_apart all = list_all (λ p. list_all (agrees p) all)

both : (a b : Bool) → (a && b) ≡ true → (a ≡ true) × (b ≡ true)
both true b passed = (refl, passed)
both false b passed = absurd (cc)

is-truth : (text : Text) → (bytes_eq text (codes "true") || bytes_eq text (codes "false")) ≡ true → IsTruth text
is-truth text taken = at (bytes_eq text (codes "true")) (bytes_eq-Decides text (codes "true")).0 taken
  where
    at : (yes : Bool) → (yes ≡ true → text ≡ codes "true") → (yes || bytes_eq text (codes "false")) ≡ true → IsTruth text
    at true is taken = inl (is refl)
    at false is taken = inr ((bytes_eq-Decides text (codes "false")).0 taken)

passes : (p q : Test) → is_as p q ≡ true → (text : Text) → accepts false (parser_by q) text ≡ true → Passes p text
passes any q same text taken = tt
passes (within low high) any same text taken = absurd (cc)
passes (within low high) (within least most) same text taken =
    let parts = both (least == low) (most == high) same in
    let least_is = eqb-true least low parts.0 in
    let most_is = eqb-true most high parts.1 in
    subst (λ (it : ℕ). IsUnsignedIn it high text) least_is (subst (λ (it : ℕ). IsUnsignedIn least it text) most_is
    (accepts-Accepts false (parser.Unsigned least most) text taken))
passes (within low high) truth same text taken = absurd (cc)
passes truth any same text taken = absurd (cc)
passes truth (within least most) same text taken = absurd (cc)
passes truth truth same text taken = is-truth text taken

one-agrees : (p q : Parameter) → agrees p q ≡ true → Agrees (name_of p) (Fits p) q
one-agrees p q apart same text taken =
    let tested : is_as (test_of p) (test_of q) ≡ true = rw same at apart in
    passes (test_of p) (test_of q) tested text taken

all-agree : (p : Parameter) (all : List Parameter) → list_all (agrees p) all ≡ true → AllAgree (name_of p) (Fits p) all
all-agree p [] apart = tt
all-agree p (q ∷ rest) apart =
    let parts = both (agrees p q) _ apart in
    (one-agrees p q parts.0, all-agree p rest parts.1)

-- what is required is there
abbrev IsThere : List Row → Parameter → Type 0
IsThere rows (required_text name) = is_given name rows ≡ true
IsThere rows (required_number name) = is_given name rows ≡ true
IsThere rows (optional_text name) = ⊤
IsThere rows (named_text name) = is_given name rows ≡ true
IsThere rows (optional_number name) = ⊤
IsThere rows (bounded_number low high name) = ⊤
IsThere rows (required_within low high name) = is_given name rows ≡ true
IsThere rows (flag name) = ⊤

abbrev AreThere : List Row → List Parameter → Type 0
AreThere rows [] = ⊤
AreThere rows (p ∷ rest) = IsThere rows p × AreThere rows rest

neither : (given rest : Bool) → (not given || rest) ≡ false → (given ≡ true) × (rest ≡ false)
neither true rest none = (refl, none)
neither false rest none = absurd (cc)

are-there : (rows : List Row) (parameters : List Parameter) (place : ℕ)
    → list_any (λ (a : Rule). a.required && not (is_given a.id rows)) (filled_from place (map rule_for parameters ++ help_rule ∷ [])) ≡ false → AreThere rows parameters
are-there rows [] place none = tt
are-there rows (required_text name ∷ rest) place none =
    let parts = neither (is_given name rows) _ none in
    (parts.0, are-there rows rest (index_after place (rule_for (required_text name))) parts.1)
are-there rows (named_text name ∷ rest) place none =
    let parts = neither (is_given name rows) _ none in
    (parts.0, are-there rows rest (index_after place (rule_for (named_text name))) parts.1)
are-there rows (required_number name ∷ rest) place none =
    let parts = neither (is_given name rows) _ none in
    (parts.0, are-there rows rest (index_after place (rule_for (required_number name))) parts.1)
are-there rows (required_within low high name ∷ rest) place none =
    let parts = neither (is_given name rows) _ none in
    (parts.0, are-there rows rest (index_after place (rule_for (required_within low high name))) parts.1)
are-there rows (optional_text name ∷ rest) place none = (tt, are-there rows rest (index_after place (rule_for (optional_text name))) none)
are-there rows (optional_number name ∷ rest) place none = (tt, are-there rows rest (index_after place (rule_for (optional_number name))) none)
are-there rows (bounded_number low high name ∷ rest) place none = (tt, are-there rows rest (index_after place (rule_for (bounded_number low high name))) none)
are-there rows (flag name ∷ rest) place none = (tt, are-there rows rest (index_after place (rule_for (flag name))) none)

-- the first text of a row
text-read : (Q : Text → Type 0) (values : List Text) (how : Reading) → how ≡ reading.AsWritten → StartsWell [] Q values
    → IsSomeAnd (option_map (read_as how) (slice_get values 0)) Q
text-read Q [] how written well = absurd well
text-read Q (text ∷ rest) reading.AsWritten written well = well
text-read Q (text ∷ rest) reading.WithoutMinus written well = absurd (cc)
text-read Q (text ∷ rest) reading.Boolish written well = absurd (cc)
text-read Q (text ∷ rest) reading.Falsey written well = absurd (cc)

one-given : (Q : Text → Type 0) (o : Option Row) → IfSome o (IsWell [] Q) → option_map_or (λ (r : Row). explicit_source r.source) o false ≡ true
    → IsSomeAnd (option_and_then row_text o) Q
one-given Q None well given = absurd (cc)
one-given Q (Some row) well given = text-read Q row.values row.reading well.0 well.1

one-if-given : (Q : Text → Type 0) (o : Option Row) → IfSome o (IsWell [] Q) → IfSome (option_and_then row_text o) Q
one-if-given Q None well = tt
one-if-given Q (Some row) well = at (row_text row) (text-read Q row.values row.reading well.0 well.1)
  where
    at : (o : Option Text) → IsSomeAnd o Q → IfSome o Q
    at None bad = absurd bad
    at (Some text) fits = fits

first-given : (Q : Text → Type 0) (o : Option Row) → IfSome o (IsWell [] Q) → option_map_or (λ (r : Row). explicit_source r.source) o false ≡ true
    → IsSome (option_and_then (λ (r : Row). slice_get r.values 0) o)
first-given Q None well given = absurd (cc)
first-given Q (Some row) well given = at row.values well.1
  where
    at : (values : List Text) → StartsWell [] Q values → IsSome (slice_get values 0)
    at [] bad = absurd bad
    at (text ∷ rest) fits = refl

parameter-given : (rows : List Row) (p : Parameter) → Rows (name_of p) (Fits p) rows → IsThere rows p → IsGiven rows p
parameter-given rows (required_text name) well there =
    first-given (Fits (required_text name)) (find (λ r. bytes_eq r.id name) rows) (row-found name (Fits (required_text name)) rows well) there
parameter-given rows (named_text name) well there =
    first-given (Fits (named_text name)) (find (λ r. bytes_eq r.id name) rows) (row-found name (Fits (named_text name)) rows well) there
parameter-given rows (required_number name) well there = one-given IsNumber (find (λ r. bytes_eq r.id name) rows) (row-found name IsNumber rows well) there
parameter-given rows (required_within low high name) well there =
    one-given (IsUnsignedIn low high) (find (λ r. bytes_eq r.id name) rows) (row-found name (IsUnsignedIn low high) rows well) there
parameter-given rows (optional_text name) well there = tt
parameter-given rows (optional_number name) well there = one-if-given IsNumber (find (λ r. bytes_eq r.id name) rows) (row-found name IsNumber rows well)
parameter-given rows (bounded_number low high name) well there =
    one-if-given (IsUnsignedIn low high) (find (λ r. bytes_eq r.id name) rows) (row-found name (IsUnsignedIn low high) rows well)
parameter-given rows (flag name) well there = one-if-given IsTruth (find (λ r. bytes_eq r.id name) rows) (row-found name IsTruth rows well)

all-given : (rows : List Row) (all parameters : List Parameter) → are_apart all parameters ≡ true
    → ((name : Text) (Q : Text → Type 0) → AllAgree name Q all → Rows name Q rows) → AreThere rows parameters → AreGiven rows parameters
all-given rows all [] apart well there = tt
all-given rows all (p ∷ rest) apart well there =
    let parts = both (list_all (agrees p) all) _ apart in
    (parameter-given rows p (well (name_of p) (Fits p) (all-agree p all parts.0)) there.0, all-given rows all rest parts.1 well there.1)

-- ---- a command

abbrev leaf : Text × List Parameter → Shape
leaf command = built_leaf (inherited (with_leaf_noted (marked_built program_app.top)) (command_of command.0 command.1))

wanted : (missing : Bool) → check_kinds false false missing ≡ [] → missing ≡ false
wanted false none = refl
wanted true none = absurd (cc)

command-given : (command : Text × List Parameter) → are_apart command.1 command.1 ≡ true → (words : List Text)
    → level_fault (leaf command) [] nothing_held words false [] ≡ [] → AreGiven (rows_after (leaf command).rules [] words) command.1
command-given command apart words none =
    let s = leaf command in
    let end = (walk s.rules [] nothing_held words).held in
    let rows = rows_after s.rules [] words in
    let walked = either (walk_fault s [] (walk_from nothing_held) words) _ none in
    let last = either (settle_fault s.rules s.args_override_self end) _ walked.1 in
    let check = either (defaults_fault (settled s.rules end).rows s.rules) _ last.1 in
    all-given rows command.1 command.1 apart
    (λ name Q agree. rows_taken (Rows name Q) s (rules-keep name Q command.1 1 agree) words tt none)
    (are-there rows command.1 1 (wanted _ check.1))

weaker : {X : Type 0} (P Q : X → Type 0) (o : Option X) → ((x : X) → P x → Q x) → IfSome o P → IfSome o Q
weaker P Q None so holds = tt
weaker P Q (Some x) so holds = so x holds

one-of : (known : List (Text × List Parameter)) → list_all (λ command. are_apart command.1 command.1) known ≡ true → (stop : Text × List Text)
    → option_map_or (λ s. level_fault s [] nothing_held stop.1 false []) (find (λ s. answers_to stop.0 (label_of s)) (map leaf known)) [] ≡ []
    → IfSome (option_map (λ s. rows_at s stop.1) (find (λ s. answers_to stop.0 (label_of s)) (map leaf known))) (IsOneOf known)
one-of [] apart stop none = tt
one-of (command ∷ rest) apart stop none = at (answers_to stop.0 (label_of (leaf command))) none (one-of rest parts.1 stop)
  where
    parts : (are_apart command.1 command.1 ≡ true) × (list_all (λ command. are_apart command.1 command.1) rest ≡ true)
    parts = both (are_apart command.1 command.1) _ apart

    others : Option Shape
    others = find (λ s. answers_to stop.0 (label_of s)) (map leaf rest)

    at : (here : Bool) → option_map_or (λ s. level_fault s [] nothing_held stop.1 false []) (cond here (Some (leaf command)) others) [] ≡ []
        → (option_map_or (λ s. level_fault s [] nothing_held stop.1 false []) others [] ≡ [] → IfSome (option_map (λ s. rows_at s stop.1) others) (IsOneOf rest))
        → IfSome (option_map (λ s. rows_at s stop.1) (cond here (Some (leaf command)) others)) (IsOneOf (command ∷ rest))
    at true none further = inl (refl, command-given command parts.0 stop.1 none)
    at false none further = weaker (IsOneOf rest) (IsOneOf (command ∷ rest)) (option_map (λ s. rows_at s stop.1) others) (λ x holds. inr holds) (further none)

-- ---- the program

-- the command in words that the parser takes is known, and has what its parameters want
pub is_known : (words : List Text) → AreTaken words → IfSome (subcommand_of program_app words) IsKnown
is_known words taken =
    let walked = walk (built program_app).top.rules (names_of (built program_app)) nothing_held words in
    let level = either (walk_fault (built program_app).top (names_of (built program_app)) (walk_from nothing_held) words) _ taken in
    let below = either (entered_fault (built program_app) walked.stopped) _ level.1 in
    at walked.stopped below.0
  where
    at : (stop : Option (Text × List Text)) → entered_fault (built program_app) stop ≡ [] → IfSome (entered (built program_app) stop) IsKnown
    at None none = tt
    at (Some p) none = one-of commands refl p none

-- and so in what the parser finds
pub known_found : {E : Type 0} (words : List Text) (r : Result ArgMatches E) → IfOk r (λ matches. AreTaken words × (subcommand_rows_of matches ≡ subcommand_of program_app words))
    → IfOk r (λ matches. IfSome (subcommand_rows_of matches) IsKnown)
known_found words (Ok matches) given = subst (λ o. IfSome o IsKnown) (sym given.1) (is_known words given.0)
known_found words (Err error) given = tt
