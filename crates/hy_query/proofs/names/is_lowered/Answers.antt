use Rattle.std.proofs.Common.{ℕ, length, ◌==◌, ◌&&◌, ap, sym, ◌∙◌, rules, tests}
use Rattle.std.specs.Char.{to_ascii_lowercase}
use Rattle.std.specs.List.{list_all, zip}
use Rattle.std.proofs.lemmas.Bool.{eq-eqb}
use Rattle.std.proofs.lemmas.Iterator.{YieldsList-from_slice, YieldsList-from_zip}
use Rattle.std.proofs.lemmas.Iterator.Search.{all_from_yields_List}
use Rattle.hy_query.proofs.WordLaws.{lowered-letters}
use Rattle.hy_query.proofs.names.is_lowered.Goals as goal

pub returns-then-word-name : goal.returns-then-word-name
returns-then-word-name c =
    let word = c.args.word.now in
    let name = c.args.name.now in
    let all = all_from_yields_List (λ (pair : ℕ × ℕ). pair.0 == to_ascii_lowercase pair.1) c.all.new.self _ c.all.result
    c.all.ensures.ran (YieldsList-from_zip (YieldsList-from_slice word cc) (YieldsList-from_slice name cc))
    (λ x b q k. search (rules, tests)) in
    all ∙ ap (λ same. same && list_all (λ (pair : ℕ × ℕ). pair.0 == to_ascii_lowercase pair.1) (zip word name))
    (sym (eq-eqb (length word) (length name) c.if-word-name.true)) ∙ lowered-letters word name
