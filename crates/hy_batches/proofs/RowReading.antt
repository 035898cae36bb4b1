-- How the lists of a batch are read, row by row.
use Rattle.std.proofs.Common.{◌≡◌, ℕ, suc, ◌+◌, List, [], ◌∷◌, refl}
use Rattle.std.specs.Prelude.{Option, Some}
use Rattle.hy_commands.specs.declared.command.Commit.{Commit}
use Rattle.hy_commands.specs.declared.command.PurchaseLine.{PurchaseLine}
use Rattle.hy_commands.specs.declared.edition.Edition.{Edition}
use Rattle.hy_batches.specs.inside.Reading.{◌>>=◌, commit_at, commits_at, line_at, lines_at, list_at, lists_at}

-- lines and commits, without their numbers
abbrev pub line_of : ℕ → List ℕ → Option (PurchaseLine × List ℕ)
line_of number = line_at

abbrev pub lines_of : ℕ → ℕ → List ℕ → Option (List PurchaseLine × List ℕ)
lines_of number = lines_at

abbrev pub commit_of : Edition → ℕ → ℕ → List ℕ → Option (Commit × List ℕ)
commit_of edition warehouse number = commit_at edition warehouse

abbrev pub commits_of : Edition → ℕ → ℕ → ℕ → List ℕ → Option (List Commit × List ℕ)
commits_of edition warehouse number = commits_at edition warehouse

pub no_lines : (number : ℕ) (bytes : List ℕ) → lines_of number 0 bytes ≡ Some ([], bytes)
unfolding lines_at
no_lines number bytes = refl

pub more_lines : (number count : ℕ) (bytes : List ℕ) → lines_of number (suc count) bytes
    ≡ (line_of number bytes >>= λ row. lines_of (number + 1) count row.1 >>= λ others. Some (row.0 ∷ others.0, others.1))
unfolding lines_at
more_lines number count bytes = refl

pub no_commits : (edition : Edition) (warehouse number : ℕ) (bytes : List ℕ)
    → commits_of edition warehouse number 0 bytes ≡ Some ([], bytes)
unfolding commits_at
no_commits edition warehouse number bytes = refl

pub more_commits : (edition : Edition) (warehouse number count : ℕ) (bytes : List ℕ)
    → commits_of edition warehouse number (suc count) bytes
    ≡ (commit_of edition warehouse number bytes >>= λ row. commits_of edition warehouse (number + 1) count row.1
    >>= λ others. Some (row.0 ∷ others.0, others.1))
unfolding commits_at
more_commits edition warehouse number count bytes = refl

pub no_lists : (edition : Edition) (number : ℕ) (bytes : List ℕ) → lists_at edition number 0 bytes ≡ Some ([], bytes)
unfolding lists_at
no_lists edition number bytes = refl

pub more_lists : (edition : Edition) (number count : ℕ) (bytes : List ℕ) → lists_at edition number (suc count) bytes
    ≡ (list_at edition number bytes >>= λ row. lists_at edition (number + 1) count row.1
    >>= λ others. Some (row.0 ∷ others.0, others.1))
unfolding lists_at
more_lists edition number count bytes = refl
