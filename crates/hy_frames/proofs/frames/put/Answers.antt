use Rattle.std.proofs.Common.{◌≡◌, ℕ, ◌∷◌, ◌++◌, [], eq-eqb, cond, ap, refl, arith}
use Rattle.hy_frames.specs.FrameTable.{occurrences}
use Rattle.hy_frames.proofs.FrameLaws.{occurrences-push}
use Rattle.hy_frames.proofs.frames.put.Goals as goal

-- the last unused number is the number of a slot
pub index_mut-requires : goal.index_mut-requires
index_mut-requires g c =
    let f = c.in-Some.f in
    let items : c.args.unused.now.items ≡ c.pop.new.self.items ++ f ∷ [] = c.in-Some.ensures.items in
    let added = occurrences-push f c.pop.new.self.items f in
    let one = ap {B = ℕ} (λ b. cond b 1 0) (eq-eqb f f refl) in
    omega (arith, c.requires.known f (omega (arith, ap (occurrences f) items)))
