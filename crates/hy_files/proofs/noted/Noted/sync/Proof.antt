-- All that was taken is synced. Memory stays as it is, and what clauses see becomes another value.
use Rattle.std.proofs.Common.{[], ◌∷◌, refl}
use mir.Val.{vunit}
use types.Kit.{‵, ◌⊛◌, ◌$◌, ◌∵◌, !, qed, done, move, keep, use1, split, join, fsplit3, feq_i, suffices, frame, group}
use base.Logic.{id⊢}
use base.Fml.{flft, ftrue}
use mir.Syntax.{named}
use types.Run.{enter, of_opd, unit_lit, returns}
use types.ByLocal.{alloc_all, pass_all, free_all, look_at, sets}
use contract.Running.{tables}
use denote.Ref.{MutRef, mut_vals, mut_Tells}
use denote.Signature.{plain}
use denote.Steps.{opens, closes, nothing}
use denote.Triple.Walked.{Stays, stay_ref, walk_of, says, Goes-ref, ends_at}
use Rattle.std.proofs.raw_atomic.Walks.{proved}
use Rattle.hy_redo.specs.Writers.{with_sync}
use Rattle.hy_files.specs.contracts.noted.Noted.sync as it
use Rattle.hy_files.proofs.noted.Noted.sync.Statement.{statement}
use Rattle.hy_files.proofs.noted.Noted.sync.Code as code
use Rattle.hy_files.specs.contracts.noted.Noted.{the_row as row}

abbrev stayed : Stays it.ended.signature.params it.ended.kept
stayed = (stay_ref (0 ∷ []) tt (plain (λ _. row)), tt)

pub sync_spec : {M : Type 1} → statement M
sync_spec 𝓤 𝓛 𝓜 𝓡 wired =
    let clauses = it.clauses 𝓛 𝓜.mem 𝓡.returns in
    let W = walk_of 𝓛 it.ended stayed clauses in
    let 𝓣 = tables 𝓤 𝓛.H 𝓜 𝓡 𝓡.env in
    proved 𝓛 it.ended stayed clauses 𝓜 𝓡 (Goes-ref 𝓛 1 0 tt (plain (λ _. row)), tt)
    it.Key.name code.function (code.unfolded 𝓤 𝓛.H 𝓜 𝓡 wired)
    (λ κs. (mut_vals, tt)) (λ κs. (mut_Tells (named 0) κs.0 row, tt)) (λ κs qs bounds a _ are.
    let b = a.0.ref_ptr.0 in let o = a.0.ref_ptr.1 in let h = a.0.now in let vs = mut_vals a.0 in
    let next = record h { told = with_sync h.told } in
    let y : W.Ghost = ((κs, qs, bounds, a, (vs, tt)), tt) in
    qed 𝓛 (((‵ (flft κs.0 qs.0) ⊛ ‵ ftrue) ⊛ ‵ ((MutRef (named 0) κs.0 row).own_val a.0 vs) ⊛ ‵ ftrue) ∷ ‵ ftrue ∷ []) ∵
    split ! $ split ! $ move ! (2 ∷ []) $ split ! $ keep ! (0 ∷ 2 ∷ []) $
    enter ! _ _ _ _ _ $ alloc_all ! (λ l. pass_all ! refl ((tt, tt), tt) $
    fsplit3 ! $ move ! (1 ∷ 2 ∷ 3 ∷ []) $ opens ! tt row {h = h} b o (λ us.
    sets ! (of_opd ! (unit_lit !)) refl (tt, tt) $
    move ! (1 ∷ []) $ use1 𝓛 (‵ (row.own_val next us)) (id⊢ 𝓤 _) $ move ! (1 ∷ 0 ∷ []) $ closes ! tt row next us b o $
    returns ! (look_at ! 0 refl) $ free_all ! refl $ move ! (3 ∷ []) $
    suffices ! _ (ends_at 𝓛 it.ended stayed clauses y vunit tt (next, tt) (tt, tt)) $ says ! refl $
    group ! 3 $ nothing ! $ move ! (1 ∷ 0 ∷ []) $ join ! $ nothing ! $ move ! (2 ∷ 0 ∷ []) $ join ! $ frame ! $ frame ! $
    feq_i ! _ (vunit ∷ []) _ refl $ done !)))
