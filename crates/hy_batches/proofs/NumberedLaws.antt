-- Commits that are read in two steps: the number, if there is one, and then the command.
use Rattle.std.proofs.Common.{◌≡◌, ℕ, zero, suc, true, false, List, [], ◌∷◌, Option, None, Some, refl, ap, ◌∙◌}
use Rattle.std.specs.Prelude.{if◌then◌else◌}
use Rattle.hy_commands.specs.declared.command.Command.{Command}
use Rattle.hy_commands.specs.declared.command.Commit.{Commit}
use Rattle.hy_commands.specs.declared.edition.Edition.{Edition}
use Rattle.hy_commands.specs.Commands.{is_in_range}
use Rattle.hy_batches.specs.Grammar.{is_allowed, names}
use Rattle.hy_batches.specs.inside.Reading.{◌>>=◌, any_commit_at, command_at, commit_at, commit_number_at, commit_of, may_have, number_at, numbered_at}

abbrev made : Edition → Option ℕ → Command × List ℕ → Option (Commit × List ℕ)
made edition number command = Some (commit_of edition number command.0, command.1)

abbrev tested : ℕ → Commit × List ℕ → Option (Commit × List ℕ)
tested warehouse commit = if is_allowed warehouse commit.0 then Some commit else None

abbrev numbered : ℕ × List ℕ → Option (Option ℕ × List ℕ)
numbered number = Some (Some number.0, number.1)

-- a command that was read is tested behind its commit or before
regroup : (edition : Edition) (number : Option ℕ) (warehouse : ℕ) (read : Option (Command × List ℕ))
    → ((read >>= made edition number) >>= tested warehouse)
    ≡ (read >>= λ command. tested warehouse (commit_of edition number command.0, command.1))
regroup edition number warehouse (Some command) = refl
regroup edition number warehouse None = refl

behind : (edition : Edition) (warehouse : ℕ) (read : Option (ℕ × List ℕ))
    → ((read >>= λ number. command_at number.1 >>= made edition (Some number.0)) >>= tested warehouse)
    ≡ ((read >>= numbered) >>= λ number. numbered_at edition number.0 warehouse number.1)
unfolding numbered_at
behind edition warehouse (Some number) = regroup edition (Some number.0) warehouse (command_at number.1)
behind edition warehouse None = refl

pub commit-numbered : (edition : Edition) (warehouse : ℕ) (bytes : List ℕ) → commit_at edition warehouse bytes
    ≡ (commit_number_at bytes >>= λ number. numbered_at edition number.0 warehouse number.1)
unfolding commit_at any_commit_at commit_number_at numbered_at
commit-numbered edition warehouse [] = refl
commit-numbered edition warehouse (zero ∷ rest) = regroup edition None warehouse (command_at rest)
commit-numbered edition warehouse (suc zero ∷ rest) = behind edition warehouse (number_at 8 rest)
commit-numbered edition warehouse (suc (suc tag) ∷ rest) = refl

pub number-none : (edition : Edition) (warehouse : ℕ) (bytes : List ℕ) → commit_number_at bytes ≡ None
    → commit_at edition warehouse bytes ≡ None
number-none edition warehouse bytes none =
    commit-numbered edition warehouse bytes
    ∙ ap (λ (read : Option (Option ℕ × List ℕ)). read >>= λ number. numbered_at edition number.0 warehouse number.1) none

pub number-some : (edition : Edition) (warehouse : ℕ) (bytes : List ℕ) (number : Option ℕ) (rest : List ℕ)
    → commit_number_at bytes ≡ Some (number, rest) → commit_at edition warehouse bytes ≡ numbered_at edition number warehouse rest
number-some edition warehouse bytes number rest some =
    commit-numbered edition warehouse bytes
    ∙ ap (λ (read : Option (Option ℕ × List ℕ)). read >>= λ number. numbered_at edition number.0 warehouse number.1) some

-- a commit is allowed by the tests of its command and its number
pub allowed-last : (edition : Edition) (number : Option ℕ) (warehouse : ℕ) (command : Command) → is_in_range command ≡ true
    → names command warehouse ≡ true → is_allowed warehouse (commit_of edition number command) ≡ may_have number command
allowed-last edition None warehouse command within named = rw (within, named) refl
allowed-last edition (Some number) warehouse command within named = rw (within, named) refl

pub allowed-unnamed : (edition : Edition) (number : Option ℕ) (warehouse : ℕ) (command : Command) → is_in_range command ≡ true
    → names command warehouse ≡ false → is_allowed warehouse (commit_of edition number command) ≡ false
allowed-unnamed edition None warehouse command within named = rw (within, named) refl
allowed-unnamed edition (Some number) warehouse command within named = rw (within, named) refl

pub allowed-outside : (edition : Edition) (number : Option ℕ) (warehouse : ℕ) (command : Command) → is_in_range command ≡ false
    → is_allowed warehouse (commit_of edition number command) ≡ false
allowed-outside edition None warehouse command outside = rw outside refl
allowed-outside edition (Some number) warehouse command outside = rw outside refl
