-- What holds of each seen module that is not expanded, and of a head where it holds of its body, holds of every seen module.
use Rattle.std.proofs.Common.{◌≡◌, ℕ, zero, suc, ◌<◌, true, false, IsTrue, length, sym, ap, ◌∙◌, subst, inl, inr, ⊎_elim}
use Rattle.std.proofs.lemmas.Bool.{cases_Bool}
use Rattle.wf_model.specs.Lists.{IsIn}
use Rattle.wf_model.specs.Grammar.{Grammar, head_of, body_of, IsAtomic, IsProductionOf}
use Rattle.wf_model.specs.View.{View, expands, IsSeenModule, in_body}
use Rattle.wf_model.specs.Proper.{RankWithin, IsProper}
use Rattle.wf_model.specs.Finishing.{ExpandsComposites}

module _ (g : Grammar) (u : View) (Holds : ℕ → Type 0)
    (shut : (m : ℕ) → IsSeenModule g u m → expands u m ≡ false → Holds m)
    (head : (p : ℕ) → p < length g.productions → IsSeenModule g u (head_of g p) → IsTrue (expands u (head_of g p)) → ((k : ℕ) → IsIn k (body_of g p) → Holds k) → Holds (head_of g p)) where
  -- one production of a module tells of it
  by_one : (m p : ℕ) → IsProductionOf g p m → IsSeenModule g u m → expands u m ≡ true → ((k : ℕ) → IsIn k (body_of g p) → IsSeenModule g u k → Holds k) → Holds m
  by_one m p q s ex f =
      let seen : IsSeenModule g u (head_of g p) = subst (IsSeenModule g u) (sym q.1) s in
      let opened : IsTrue (expands u (head_of g p)) = ap (expands u) q.1 ∙ ex in
      subst Holds q.1 (head p q.0 seen opened (λ k i. f k i (in_body p q.0 seen opened i)))

  module _ (composites : ExpandsComposites g u) where
    of_atomic : (m : ℕ) → IsAtomic g m → IsSeenModule g u m → Holds m
    of_atomic m atomic s = ⊎_elim (λ ex. let c = composites m ex in absurd (atomic c.0 c.1.0 c.1.1)) (λ ex. shut m s ex) (cases_Bool (expands u m))

    of_ranked : (n m : ℕ) → RankWithin g n m → IsSeenModule g u m → Holds m
    of_ranked zero m atomic s = of_atomic m atomic s
    of_ranked (suc n) m (inl atomic) s = of_atomic m atomic s
    of_ranked (suc n) m (inr r) s = ⊎_elim
        (λ ex. by_one m r.0 r.1 s ex (λ k i t. of_ranked n k (r.2 k i) t))
        (λ ex. shut m s ex)
        (cases_Bool (expands u m))

    pub of_seen : IsProper g → (m : ℕ) → IsSeenModule g u m → Holds m
    of_seen proper m s = ⊎_elim
        (λ ex. let r = proper.ranked m (composites m ex) in of_ranked r.0 m r.1 s)
        (λ ex. shut m s ex)
        (cases_Bool (expands u m))
