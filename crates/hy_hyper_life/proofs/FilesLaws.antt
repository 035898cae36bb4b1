-- What stays of files where others are written.
use Rattle.std.proofs.Common.{◌≡◌, ◌∙◌, ◌+◌, ℕ, List, Option, None, Some, ap, arith, codes, length, length-append, refl, sym}
use Rattle.std.specs.Prelude.{◌≢◌}
use Rattle.hy_files.specs.Files.{FilesByPath, HasFile, KeepsFile, KeepsOthers}
use Rattle.hy_hyper_life.specs.Reading.{KeepsAllBut, sums_path}

-- a path is another one than that of the digests beside it
pub apart : (path : List ℕ) → sums_path path ≢ path
apart path same =
    let longer : length path + 5 ≡ length path = sym (length-append path (codes ".load")) ∙ ap length same in
    absurd (omega (arith, longer))

pub others-same : (files : Option FilesByPath) (path : List ℕ) → KeepsOthers files files path
others-same None path = tt
others-same (Some files) path = λ other is. refl

pub file-same : (files : Option FilesByPath) (path : List ℕ) → KeepsFile files files path
file-same None path = tt
file-same (Some files) path = refl

-- the file at another path
pub file-kept : (old new : Option FilesByPath) (path written : List ℕ) → KeepsOthers old new written → path ≢ written
    → KeepsFile old new path
file-kept None None path written others other = tt
file-kept None (Some new) path written others other = others
file-kept (Some old) None path written others other = others
file-kept (Some old) (Some new) path written others other = others path other

pub has-still : (old new : Option FilesByPath) (path bytes written : List ℕ) → HasFile old path bytes
    → KeepsOthers old new written → path ≢ written → HasFile new path bytes
has-still None None path bytes written has others other = tt
has-still None (Some new) path bytes written has others other = absurd others
has-still (Some old) None path bytes written has others other = tt
has-still (Some old) (Some new) path bytes written has others other = others path other ∙ has

-- a file that stayed has what it had
pub has-kept : (old middle new : Option FilesByPath) (path bytes : List ℕ) → KeepsFile middle new path
    → KeepsFile old middle path → KeepsFile old new path
has-kept None None None path bytes later before = tt
has-kept None None (Some new) path bytes later before = later
has-kept None (Some middle) new path bytes later before = absurd before
has-kept (Some old) None new path bytes later before = absurd before
has-kept (Some old) (Some middle) None path bytes later before = later
has-kept (Some old) (Some middle) (Some new) path bytes later before = later ∙ before

module _ (path beside : List ℕ) where
  pub all-but-same : (files : Option FilesByPath) → KeepsAllBut files files path beside
  all-but-same None = tt
  all-but-same (Some files) = λ other one two. refl

  -- the log was written, and then anything of both
  pub all-but-behind : (old middle new : Option FilesByPath) → KeepsOthers old middle path
      → KeepsAllBut middle new path beside → KeepsAllBut old new path beside
  all-but-behind None None None before later = tt
  all-but-behind None None (Some new) before later = later
  all-but-behind None (Some middle) new before later = absurd before
  all-but-behind (Some old) None new before later = absurd before
  all-but-behind (Some old) (Some middle) None before later = later
  all-but-behind (Some old) (Some middle) (Some new) before later =
      λ other one two. later other one two ∙ before other one

  -- the digests were written, and then the log
  pub all-but-both : (old middle new : Option FilesByPath) → KeepsOthers old middle beside → KeepsOthers middle new path
      → KeepsAllBut old new path beside
  all-but-both None None None before later = tt
  all-but-both None None (Some new) before later = later
  all-but-both None (Some middle) new before later = absurd before
  all-but-both (Some old) None new before later = absurd before
  all-but-both (Some old) (Some middle) None before later = later
  all-but-both (Some old) (Some middle) (Some new) before later =
      λ other one two. later other one ∙ before other two

  -- anything of both was written, and then the log
  pub all-but-more : (old middle new : Option FilesByPath) → KeepsAllBut old middle path beside
      → KeepsOthers middle new path → KeepsAllBut old new path beside
  all-but-more None None None before later = tt
  all-but-more None None (Some new) before later = later
  all-but-more None (Some middle) new before later = absurd before
  all-but-more (Some old) None new before later = absurd before
  all-but-more (Some old) (Some middle) None before later = later
  all-but-more (Some old) (Some middle) (Some new) before later =
      λ other one two. later other one ∙ before other one two
