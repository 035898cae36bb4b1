-- Bytes were taken. Memory stays as it is, and what clauses see becomes another value.
use Rattle.std.proofs.Common.{ℕ, List, [], ◌∷◌, ◌<◌, ◌^◌, length, refl, MutBor}
use seplogic.Ra.Ura.{Ura}
use mir.Syntax.{named}
use mir.Val.{Val, vunit, vptr}
use base.Logic.{SProp, ent, sep, emp, via, fst∗, id⊢}
use base.Fml.{Fml, GName, Lft, Share, ftrue, flft, fobs, fbor}
use prog.Memory.{Memory}
use prog.Routine.{Routine}
use prog.Wp.{Calls, Loops, WpFn, Tables}
use types.Logic.{Logic, sem}
use contract.Monad.{Fun}
use contract.Running.{tables, tables_of}
use types.Kit.{‵, ◌⊛◌, ◌$◌, ◌∵◌, !, qed, by, move, keep, drop, use1, split, join, fsplit, fsplit3, fjoin, fjoin3, feq_i, suffices, frame, done}
use types.Run.{unit_lit, of_opd, returns, enter}
use types.SemTy.{Body}
use types.ByLocal.{alloc_all, pass_all, free_all, look_at, sets}
use sound.WpLaws.{WpFn-mono}
use denote.Builtin.{u8}
use denote.Exit.{yes}
use denote.Memory.{mem}
use denote.RattleType.{owns}
use denote.Ref.{Bor, MutRef, mut_vals, mut_Tells}
use denote.Signature.{plain}
use denote.Slice.{ShrSlice, slice_val, shr_slice_vals, shr_slice_Tells}
use denote.Steps.{opens, closes}
use denote.Triple.Entry.{on_entry}
use denote.Triple.Spec.{Meets, triple_of}
use denote.Triple.Table.{entered}
use denote.Triple.Walked.{says, Stays, stay_ref, stay_none_slice, walk_of, AllGo, Goes-ref, Goes-none_slice, Walks, ends_at, walked, walk_Meets}
use Rattle.hy_files.specs.declared.noted.Noted.{Noted}
use Rattle.hy_redo.specs.Writers.{with_more}
use Rattle.hy_files.specs.contracts.noted.Noted.{the_row as row}
use Rattle.hy_files.specs.contracts.noted.Noted.take.Key.{name as key}
use Rattle.hy_files.specs.contracts.noted.Noted.take as it
use Rattle.hy_files.proofs.noted.Noted.take.Statement.{statement}
use Rattle.hy_files.proofs.noted.Noted.take.Code as code

abbrev stayed : Stays it.ended.signature.params it.ended.kept
stayed = (stay_ref (0 ∷ []) tt (plain (λ _. row)), (stay_none_slice (1 ∷ []) tt (plain (λ _. u8)) yes, tt))

module _ {M : Type 1} {𝓤 : Ura M} (𝓛 : Logic 𝓤) (at_mem : Memory → SProp 𝓤) (run : Routine → Fun 𝓤) where
  open 𝓛 use {H, A}

  module _ (here there : Lft) (q r : Share) (b o : ℕ) (γ : GName) (h : Noted) (bytes : Bor (List ℕ)) where
    abbrev given : MutBor Noted × (Bor (List ℕ) × Unit {0})
    given = (record { ref_ptr = (b, o); ghost_name = γ; now = h }, (bytes, tt))

    abbrev next : Noted
    next = record h { told = with_more h.told bytes.now }

    abbrev at : List Val × (List Val × Unit {0})
    at = (vptr b o ∷ [], (slice_val bytes.ref_ptr (length bytes.now) ∷ [], tt))

    abbrev rest : Fml
    rest = owns (ShrSlice (named 1) there u8 ∷ []) given.1 at.1

    abbrev Post : Val → SProp 𝓤
    Post = (walk_of 𝓛 it.ended stayed (it.clauses 𝓛 at_mem run)).post (((here, (there, tt)), (q, (r, tt)), tt, given, at), tt)

    ends : ent 𝓤 (sep 𝓤 (A.obs γ (row.coded.code next)) (sep 𝓤 (A.bor here (Body (mem row) b o γ)) (sep 𝓤 (A.lft here q)
        (sep 𝓤 (sem 𝓛 rest) (sep 𝓤 (A.lft there r) (emp 𝓤)))))) (Post vunit)
    ends =
        qed 𝓛 (‵ (fobs γ (row.coded.code next)) ∷ ‵ (fbor here (Body (mem row) b o γ)) ∷ ‵ (flft here q) ∷ ‵ rest ∷ (‵ (flft there r) ⊛ ‵ ftrue) ∷ []) ∵
        suffices ! _ (ends_at 𝓛 it.ended stayed (it.clauses 𝓛 at_mem run) (((here, (there, tt)), (q, (r, tt)), tt, given, at), tt) vunit tt (next, (tt, tt)) (tt, (tt, tt))) $ says ! refl $ move ! (2 ∷ 4 ∷ []) $ join ! $
        frame ! $ feq_i ! (List Val) (vptr b o ∷ []) (vptr b o ∷ []) refl $ fjoin3 ! $ fjoin ! $
        feq_i ! (List Val) (vunit ∷ []) (vunit ∷ []) refl $ move ! (1 ∷ 0 ∷ []) $ done !

    walk : (C : Calls 𝓤 H) (Λ : Loops 𝓤 H) → length bytes.now < 2 ^ 64
        → ent 𝓤 (on_entry 𝓛 it.signature (here, (there, tt)) (q, (r, tt)) given at) (WpFn 𝓤 H C Λ code.function (vptr b o ∷ slice_val bytes.ref_ptr (length bytes.now) ∷ []) Post)
    walk C Λ fits =
        qed 𝓛 ((‵ (flft here q) ⊛ (‵ (flft there r) ⊛ ‵ ftrue)) ∷ ‵ (owns (MutRef (named 0) here row ∷ ShrSlice (named 1) there u8 ∷ []) given at) ∷ []) ∵ split ! $ move ! (2 ∷ []) $ fsplit ! $ fsplit3 ! $ drop ! $ move ! (0 ∷ 1 ∷ 3 ∷ []) $
        enter ! C Λ code.function (vptr b o ∷ slice_val bytes.ref_ptr (length bytes.now) ∷ []) _ $
        alloc_all ! (λ l. pass_all ! refl ((tt, tt), ((tt, (tt, (record { fits = fits }, tt))), tt)) $
        move ! (0 ∷ 1 ∷ 2 ∷ []) $ opens ! tt row {h = h} b o (λ us.
        sets ! (of_opd ! (unit_lit !)) refl (tt, tt) $
        move ! (1 ∷ []) $ use1 𝓛 (‵ (row.own_val next us)) (id⊢ 𝓤 _) $ move ! (1 ∷ 0 ∷ []) $ closes ! tt row next us b o $
        returns ! (look_at ! 0 refl) $ free_all ! refl $
        keep ! (0 ∷ 1 ∷ 2 ∷ 3 ∷ 4 ∷ []) $ by ! ends))

  walks : (C : Calls 𝓤 H) (Λ : Loops 𝓤 H) → Walks 𝓛 it.ended stayed (WpFn 𝓤 H C Λ code.function) (it.clauses 𝓛 at_mem run)
  walks C Λ = walked 𝓛 it.ended stayed (it.clauses 𝓛 at_mem run) (WpFn 𝓤 H C Λ code.function) (λ κs. (mut_vals, (shr_slice_vals, tt))) (λ κs. (mut_Tells (named 0) κs.0 row, (shr_slice_Tells (named 1) κs.1.0 u8, tt)))
      (λ κs qs bounds a _ are. via 𝓤 _ (fst∗ 𝓤 _ (emp 𝓤)) (walk κs.0 κs.1.0 qs.0 qs.1.0 a.0.ref_ptr.0 a.0.ref_ptr.1 a.0.ghost_name a.0.now a.1.0 C Λ are.1.0.0.1.0))

  goes : AllGo 𝓛 2 it.signature.params it.ended.kept stayed
  goes = (Goes-ref 𝓛 2 0 tt (plain (λ _. row)), (Goes-none_slice 𝓛 2 (1 ∷ []) tt (plain (λ _. u8)) yes, tt))

  meets : (𝓣 : Tables 𝓤 𝓛.H) → Meets 𝓛 it.signature (WpFn 𝓤 𝓛.H 𝓣.C 𝓣.Λ code.function) (it.spec 𝓛 at_mem run)
  meets 𝓣 = walk_Meets 𝓛 it.ended stayed goes (it.clauses 𝓛 at_mem run) (WpFn 𝓤 𝓛.H 𝓣.C 𝓣.Λ code.function) (WpFn-mono 𝓤 𝓛.H 𝓛.laws 𝓣 code.function) (walks 𝓣.C 𝓣.Λ)

pub take_spec : {M : Type 1} → statement M
unfolding tables_of
take_spec 𝓤 𝓛 𝓜 𝓡 wired =
    entered 𝓤 𝓛.H (triple_of 𝓛 it.signature (it.spec 𝓛 𝓜.mem 𝓡.returns))
    (tables 𝓤 𝓛.H 𝓜 𝓡 𝓡.env).C (tables 𝓤 𝓛.H 𝓜 𝓡 𝓡.env).Λ key code.function (code.unfolded 𝓤 𝓛.H 𝓜 𝓡 wired)
    (meets 𝓛 𝓜.mem 𝓡.returns (tables_of 𝓤 𝓛.H 𝓜 (tables 𝓤 𝓛.H 𝓜 𝓡 𝓡.env)))
