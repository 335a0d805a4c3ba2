-- Reachability between addresses, step by step.
use Rattle.std.proofs.Common.{ℕ, ◌↔◌, List, [], ◌∷◌, ◌++◌, IsTrue, refl, sym, subst, inl, ⊎_elim}
use Rattle.wf_model.specs.Grammar.{Grammar, Assignment}
use Rattle.wf_model.specs.Reach.{Step, target_of, module_along, Down, Up, Reaches}
use Rattle.wf_laws.specs.Splits.{IntoAll, OutAll, SplitsLaw}

pub down_rows : (g : Grammar) (d : Assignment) (a : List Step) (m i o : ℕ) → Down g d m a i o ↔ ((j : ℕ) × IntoAll g d a i j × IsTrue (d (module_along g m a) j o))
down_rows g d [] m i o = ((λ h. (i, refl, h)), (λ q. subst (λ z. IsTrue (d m z o)) (sym q.1) q.2))
down_rows g d (s ∷ a) m i o = (
  (λ h. let q = (down_rows g d a (target_of g s) h.0 o).0 h.2 in (q.0, (h.0, h.1, q.1), q.2)),
  (λ q. (q.1.0, q.1.1, (down_rows g d a (target_of g s) q.1.0 o).1 (q.0, q.1.2, q.2))),
)

pub up_columns : (g : Grammar) (d : Assignment) (a : List Step) (m i o : ℕ) → Up g d m a i o ↔ ((j : ℕ) × IsTrue (d (module_along g m a) i j) × OutAll g d a j o)
up_columns g d [] m i o = ((λ h. (o, h, refl)), (λ q. subst (λ z. IsTrue (d m i z)) q.2 q.1))
up_columns g d (s ∷ a) m i o = (
  (λ h. let q = (up_columns g d a (target_of g s) i h.0).0 h.2 in (q.0, q.1, (h.0, h.1, q.2))),
  (λ q. (q.2.0, q.2.1, (up_columns g d a (target_of g s) i q.2.0).1 (q.0, q.1, q.2.2))),
)

-- one list of steps after another, so that a chain of rounds is a power
pub into_both : (g : Grammar) (d : Assignment) (a b : List Step) (i j : ℕ) → IntoAll g d (a ++ b) i j ↔ ((k : ℕ) × IntoAll g d a i k × IntoAll g d b k j)
into_both g d [] b i j = ((λ h. (i, refl, h)), (λ q. subst (λ z. IntoAll g d b z j) (sym q.1) q.2))
into_both g d (s ∷ a) b i j = (
  (λ h. let q = (into_both g d a b h.0 j).0 h.2 in (q.0, (h.0, h.1, q.1), q.2)),
  (λ q. (q.1.0, q.1.1, (into_both g d a b q.1.0 j).1 (q.0, q.1.2, q.2))),
)

pub out_both : (g : Grammar) (d : Assignment) (a b : List Step) (j o : ℕ) → OutAll g d (a ++ b) j o ↔ ((k : ℕ) × OutAll g d a k o × OutAll g d b j k)
out_both g d [] b j o = ((λ h. (o, refl, h)), (λ q. subst (λ z. OutAll g d b j z) q.1 q.2))
out_both g d (s ∷ a) b j o = (
  (λ h. let q = (out_both g d a b j h.0).0 h.2 in (q.0, (h.0, h.1, q.1), q.2)),
  (λ q. (q.1.0, q.1.1, (out_both g d a b j q.1.0).1 (q.0, q.1.2, q.2))),
)

-- the common beginning is passed
pub past_common : (g : Grammar) (d : Assignment) (c a b : List Step) (m i o : ℕ) → Reaches g d m (c ++ a) (c ++ b) i o ↔ Reaches g d (module_along g m c) a b i o
past_common g d [] a b m i o = ((λ h. h), (λ h. h))
past_common g d (s ∷ c) a b m i o = (
  (λ h. ⊎_elim (λ q. (past_common g d c a b (target_of g s) i o).0 q.1) (λ q. absurd (q.0 refl)) h),
  (λ h. inl (refl, (past_common g d c a b (target_of g s) i o).1 h)),
)

pub splits_law : SplitsLaw
splits_law = record { down = down_rows; up = up_columns; into_both = into_both; out_both = out_both; common = past_common }
