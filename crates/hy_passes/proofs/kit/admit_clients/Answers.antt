use Rattle.std.proofs.Common.{rules, ◌≡◌, ◌+◌, [], ◌∷◌, ◌++◌, ap, ◌∙◌, arith}
use Rattle.hy_passes.specs.Worlds.{new_client}
use Rattle.hy_passes.proofs.SerialLaws.{numbered-behind}
use Rattle.hy_passes.proofs.kit.admit_clients.Goals as goal

pub loop-client-preserved : goal.loop-client-preserved
loop-client-preserved g c =
    let k = c.loop-client.client in
    let here : k ≡ 0 + k = omega arith in (
      search rules,
      search rules,
      search rules,
      c.push_reserved.ensures.items
          ∙ ap (λ xs. xs ++ c.admit.result ∷ []) c.loop-client.invariant.3
          ∙ numbered-behind new_client 0 k c.admit.result (c.admit.ensures.pass ∙ ap new_client here),
      search rules,
      search rules,
    )
