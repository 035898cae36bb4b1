use Rattle.std.proofs.Common.{◌≡◌, ℕ, ◌+◌, ◌/◌, ◌%◌, sym, ap, ◌∙◌, arith}
use Rattle.std.proofs.Math.Nat.{div-le_self}
use Rattle.hy_rows.specs.Spelling.{slot_start}
use Rattle.hy_relation.proofs.AddressLaws.{offset-behind, page-behind}
use Rattle.hy_relation.specs.inside.Addresses.{offset_of_byte}
use Rattle.hy_relation.proofs.address.address_behind.Goals as goal

pub overflow_add-result-2 : goal.overflow_add-result-2
overflow_add-result-2 c =
    omega (arith, c.address_of-at.ensures.small, div-le_self (c.address_of-at.result.offset + c.args.skip) c.args.size, c.address_of-at.ensures.within, c.requires.most, c.requires.skip, c.requires.row)

pub returns-clause-page : goal.returns-clause-page
returns-clause-page c =
    let n : ℕ = c.args.size in
    let start : ℕ = slot_start n c.args.row_bytes c.args.slot in
    let behind : (c.address_of-at.result.offset + c.args.skip) / n ≡ (offset_of_byte n start + c.args.skip) / n =
    ap (λ (offset : ℕ). (offset + c.args.skip) / n) c.address_of-at.ensures.offset in
    omega (arith, c.address_of-at.ensures.page, behind, page-behind n start c.args.skip (omega (arith, c.requires.least)))

pub returns-clause-offset : goal.returns-clause-offset
returns-clause-offset c =
    let n : ℕ = c.args.size in
    ap (λ (offset : ℕ). (offset + c.args.skip) % n) c.address_of-at.ensures.offset
    ∙ sym (offset-behind n (slot_start n c.args.row_bytes c.args.slot) c.args.skip)
