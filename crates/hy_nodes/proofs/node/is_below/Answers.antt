use Rattle.std.proofs.Common.{◌≡◌, ℕ, ◌+◌, ◌-◌, ◌≤◌, length, drop, take, sym, ap, ap₂, ◌∙◌, arith}
use Rattle.std.proofs.lemmas.List.{length-drop}
use Rattle.hy_trees.specs.Trees.{is_less_bytes}
use Rattle.hy_nodes.specs.Nodes.{item_offset}
use Rattle.hy_nodes.specs.Words.{first_word}
use Rattle.hy_nodes.proofs.WordLaws.{less-behind, less-numbers}
use Rattle.hy_nodes.proofs.node.is_below.Goals as goal

pub returns-then-number-first : goal.returns-then-number-first
returns-then-number-first c =
    let begin : ℕ = c.offset-begin.result in
    let at : begin ≡ item_offset c.args.key_bytes c.args.place = c.offset-begin.ensures in
    let within : length c.args.sought.now ≤ length (drop begin c.args.page.now) = omega (arith, length-drop begin c.args.page.now, at, c.requires.within, c.requires.same) in
    let spelled : c.word-number.result ≡ first_word (take 8 (drop begin c.args.page.now)) =
    c.word-number.ensures.value ∙ ap (λ count. first_word (take count (drop begin c.args.page.now))) (let eight : begin + 8 - begin ≡ 8 = omega arith in eight) in
    less-numbers c.args.page.now c.args.sought.now begin c.word-number.result (λ k. omega (arith, c.type_inv.page k)) (λ k. omega (arith, c.type_inv.sought k)) within spelled c.args.first c.requires.first c.if-number-first.true
    ∙ ap₂ (λ size from. is_less_bytes (take size (drop from c.args.page.now)) c.args.sought.now) c.requires.same at

pub returns : goal.returns
returns c =
    let begin : ℕ = c.offset-begin.result in
    let at : begin ≡ item_offset c.args.key_bytes c.args.place = c.offset-begin.ensures in
    let within : length c.args.sought.now ≤ length (drop begin c.args.page.now) = omega (arith, length-drop begin c.args.page.now, at, c.requires.within, c.requires.same) in
    let spelled : c.word-number.result ≡ first_word (take 8 (drop begin c.args.page.now)) =
    c.word-number.ensures.value ∙ ap (λ count. first_word (take count (drop begin c.args.page.now))) (let eight : begin + 8 - begin ≡ 8 = omega arith in eight) in
    let key : c.key.result.now ≡ take (length c.args.sought.now) (drop begin c.args.page.now) =
    c.key.ensures.bytes ∙ sym (ap₂ (λ size from. take size (drop from c.args.page.now)) c.requires.same at) in
    c.is_less_behind.ensures
    ∙ ap (λ bytes. is_less_bytes (drop 8 bytes) (drop 8 c.args.sought.now)) key
    ∙ less-behind c.args.page.now c.args.sought.now begin c.word-number.result (λ k. omega (arith, c.type_inv.page k)) (λ k. omega (arith, c.type_inv.sought k)) within spelled c.args.first c.requires.first c.if-number-first.false
    ∙ ap₂ (λ size from. is_less_bytes (take size (drop from c.args.page.now)) c.args.sought.now) c.requires.same at
