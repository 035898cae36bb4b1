-- Each step of a side keeps the rule.
use Rattle.std.proofs.Common.{◌≡◌, ◌≢◌, ℕ, zero, suc, true, false, true≢false, List, [], ◌∷◌, ◌++◌, length, set, sym, refl, ap, ◌∙◌, subst, ⊎_elim, append_assoc}
use mathlib.Core.Option.{some, some-ne-none}
use lib.ListN.{get_elem?}
use Rattle.crossbeam_queue.specs.Fifo.{Pushes, Pops, Forks, Learns}
use Rattle.crossbeam_queue.proofs.Lists.{at_set, at_snoc}
use Rattle.hy_queues.specs.declared.rule.Log.{Log}
use Rattle.hy_queues.specs.Queues.{log, Fits, IsInOrder, HasPut, HasTaken}

module _ {T : Type 0} where
  at_end : (l : List (Log T)) (a b : Log T) (j : ℕ) → get_elem? l j ≢ some b → get_elem? (l ++ a ∷ []) j ≡ some b → j ≡ length l
  at_end [] a b zero n e = refl
  at_end [] a b (suc j) n e = absurd (some-ne-none b (sym e))
  at_end (x ∷ xs) a b zero n e = absurd (n e)
  at_end (x ∷ xs) a b (suc j) n e = ap suc (at_end xs a b j n e)

  abbrev All : (ℕ → Log T → Type 0) → List (Log T) → Type 0
  All F sides = (side : ℕ) (v : Log T) → get_elem? sides side ≡ some v → F side v

  all_set : (F : ℕ → Log T → Type 0) (sides : List (Log T)) (side : ℕ) (w : Log T) → F side w → ((j : ℕ) (u : Log T) → j ≢ side → get_elem? sides j ≡ some u → F j u) → All F (set sides side w)
  all_set F sides side w mine others j u e = ⊎_elim (λ (x : (j ≡ side) × (w ≡ u)). subst (λ (y : ℕ × Log T). F y.0 y.1) (λ i. (sym x.0 i, x.1 i)) mine)
      (λ (x : (j ≢ side) × (get_elem? sides j ≡ some u)). others j u x.0 x.1) (at_set sides side j w u e)

  pub begins : IsInOrder {T = T} [] (log {T = T} true true [] [] ∷ [])
  begins = (0, 0, [], [], refl, all_set (Fits {T = T} 0 0 [] []) (log {T = T} true true [] [] ∷ []) 0 (log {T = T} true true [] []) ((λ _. (refl, refl)), λ _. (refl, refl)) (λ j u other e. absurd (other (at_end [] _ u j (λ x. some-ne-none u (sym x)) e))))

  pub puts : (n side : ℕ) (v : Log T) (x : T) → v.puts ≡ true → Pushes IsInOrder n side v x (λ w. w ≡ log v.puts v.takes (v.put ++ x ∷ []) v.taken)
  puts n side v x may items sides _ h at = let w : Log T = log v.puts v.takes (v.put ++ x ∷ []) v.taken in let mine = h.5 side v at in let put = h.2 ++ x ∷ [] in (
    w,
    (
      h.0,
      h.1,
      put,
      h.3,
      ap (λ l. l ++ x ∷ []) h.4 ∙ append_assoc h.3 items (x ∷ []),
      all_set (Fits h.0 h.1 put h.3) sides side w ((λ _. ((mine.0 may).0, ap (λ l. l ++ x ∷ []) (mine.0 may).1)), mine.1)
          (λ j u other e. ((λ p. absurd (other (((h.5 j u e).0 p).0 ∙ sym (mine.0 may).0))), (h.5 j u e).1)),
    ),
    refl,
  )

  pub takes : (side : ℕ) (v : Log T) → v.takes ≡ true → Pops IsInOrder side v (λ x w. w ≡ log v.puts v.takes v.put (v.taken ++ x ∷ []))
  takes side v may x items sides h at = let w : Log T = log v.puts v.takes v.put (v.taken ++ x ∷ []) in let mine = h.5 side v at in let taken = h.3 ++ x ∷ [] in (
    w,
    (
      h.0,
      h.1,
      h.2,
      taken,
      h.4 ∙ sym (append_assoc h.3 (x ∷ []) items),
      all_set (Fits h.0 h.1 h.2 taken) sides side w (mine.0, λ _. ((mine.1 may).0, ap (λ l. l ++ x ∷ []) (mine.1 may).1))
          (λ j u other e. ((h.5 j u e).0, λ p. absurd (other (((h.5 j u e).1 p).0 ∙ sym (mine.1 may).0)))),
    ),
    refl,
  )

  pub parts : (side : ℕ) (v : Log T) → v.puts ≡ true → v.takes ≡ true → Forks IsInOrder side v (log true false v.put []) (log false true [] v.taken)
  parts side v a b items sides h at = let l : Log T = log true false v.put [] in let r : Log T = log false true [] v.taken in let mine = h.5 side v at in let vs : List (Log T) = set sides side l in
      let Old : ℕ → Log T → Type 0 = λ j u. (u.puts ≡ true → (j ≡ h.0) × (u.put ≡ h.2)) × (u.takes ≢ true) in
      let old : All Old vs = all_set Old sides side l ((λ _. mine.0 a), λ p. true≢false (sym p)) (λ j u other e. ((h.5 j u e).0, λ p. other (((h.5 j u e).1 p).0 ∙ sym (mine.1 b).0))) in (
        h.0,
        length vs,
        h.2,
        h.3,
        h.4,
        λ j u e. ⊎_elim (λ x. ((old j u x).0, λ p. absurd ((old j u x).1 p)))
            (λ (is : r ≡ u). ((λ p. absurd (true≢false (sym (ap (λ (y : Log T). y.puts) is ∙ p)))), λ p. (at_end vs r u j (λ x. (old j u x).1 p) e, ap (λ (y : Log T). y.taken) (sym is) ∙ (mine.1 b).1))) (at_snoc vs r u j e),
      )

  pub learns_put : (side : ℕ) (v : Log T) → v.puts ≡ true → Learns IsInOrder side v (HasPut v)
  learns_put side v may items sides h at = let mine = (h.5 side v at).0 may in (h.3, mine.1 ∙ h.4)

  pub learns_taken : (side : ℕ) (v : Log T) → v.takes ≡ true → Learns IsInOrder side v (HasTaken v)
  learns_taken side v may items sides h at = let mine = (h.5 side v at).1 may in (h.2, h.4 ∙ ap (λ l. l ++ items) (sym mine.1))
