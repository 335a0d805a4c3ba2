-- A well-formed grammar is proper, or has a fault; and a proper one has ranks and choices.
use Rattle.std.proofs.Common.{◌≡◌, ◌⊎◌, ℕ, zero, suc, ◌<◌, length, subst, inl, inr, ⊎_elim, arith}
use Rattle.std.proofs.lemmas.Bool.{cases_lt}
use Rattle.wf_model.specs.Grammar.{Grammar, body_of, IsComposite}
use Rattle.wf_model.specs.WellFormed.{IsWellFormed}
use Rattle.wf_model.specs.Proper.{RankWithin, IsRank, IsProper}
use Rattle.wf_model.proofs.Composites.{composite_below}
use Rattle.wf_model.proofs.Deciding.{Either, either_same, either_both, all_in, first_below, first_of_all}
use Rattle.wf_model.proofs.Listing.{listed}
use Rattle.wf_check.specs.declared.fault.CheckFault.{CheckFault}
use Rattle.wf_check.specs.declared.fault.CheckFault.TheVariants.{Unreachable, Unproductive, UnitCycle}
use Rattle.wf_check.specs.Improper.{IsReached, IsProductive, IsLeastWithout, OfAllComposite, IsFaultOf}
use Rattle.wf_check.specs.Proper.{Ranking, Attains, IsChoice, IsRankingOf}
use Rattle.wf_check.proofs.Derived.{derives_either, production_either, composite_either, rank_either, least_or_all, productive_either}
use Rattle.wf_check.proofs.UnitOrNone.{told_or_none}
use Rattle.wf_check.proofs.OneRanking.{one_rank}

module _ (g : Grammar) (formed : IsWellFormed g) where
  -- a well-formed grammar is proper, or has a fault
  pub proper_or_fault : IsProper g ⊎ ((f : CheckFault) × IsFaultOf g f)
  proper_or_fault = by_reach (least_or_all g formed (IsReached g) (λ m. derives_either g g.start m)) (least_or_all g formed (IsProductive g) (productive_either g formed))
    where
      by_reach : OfAllComposite g (IsReached g) ⊎ ((m : ℕ) × IsLeastWithout g (IsReached g) m) → OfAllComposite g (IsProductive g) ⊎ ((m : ℕ) × IsLeastWithout g (IsProductive g) m) → IsProper g ⊎ ((f : CheckFault) × IsFaultOf g f)
      by_reach (inr r) b = inr (Unreachable (record { 0 = r.0 }), r.1)
      by_reach (inl reached) (inr r) = inr (Unproductive (record { 0 = r.0 }), (reached, r.1))
      by_reach (inl reached) (inl ranked) = ⊎_elim
          (λ c. inr (UnitCycle c.0, (reached, ranked, c.1)))
          (λ none. inl (record { reached = reached; ranked = ranked; no_unit_loop = none }))
          (told_or_none g formed)

  -- a module with a rank of at most some number has a least one
  rank_of : (n m : ℕ) → RankWithin g n m → (k : ℕ) × IsRank g m k
  rank_of n m r =
      let f = first_of_all (λ k. RankWithin g k m) (λ k. rank_either g k m) n r in
      (f.0, (f.2.so, λ k h. ⊎_elim (λ l. absurd (f.2.before k l h)) (λ l. l) (cases_lt k f.0)))

  -- a production attains a rank of its head, or not
  attains_either : (m n p : ℕ) → IsRank g m (suc n) → p < length g.productions → Either (Attains g m p)
  attains_either m n p r l = either_same
      (λ h. record { of_module = h.0; below = n; rank = r; body = h.1 })
      (λ a. let e = one_rank g m (suc a.below) (suc n) a.rank r in let same : a.below ≡ n = omega arith in (a.of_module, λ k i. subst (λ j. RankWithin g j k) same (a.body k i)))
      (either_both (production_either g p m l) (all_in (RankWithin g n) (body_of g p) (λ k i. rank_either g n k)))

  -- a composite module with a rank has a choice
  choice_of : (m n : ℕ) → IsComposite g m → IsRank g m n → (p : ℕ) × IsChoice g m p
  choice_of m zero c r = absurd (r.0 c.0 c.1.0 c.1.1)
  choice_of m (suc n) c r = ⊎_elim
      (λ f. (f.0, (f.2.so, λ q a. ⊎_elim (λ l. absurd (f.2.before q l a)) (λ l. l) (cases_lt q f.0))))
      (λ none. absurd (attained none r.0))
      (first_below (Attains g m) (length g.productions) (λ p l. attains_either m n p r l))
    where
      attained : ((p : ℕ) → p < length g.productions → Attains g m p → ⊥) → RankWithin g (suc n) m → ⊥
      attained none (inl atomic) = atomic c.0 c.1.0 c.1.1
      attained none (inr h) = none h.0 h.1.0 (record { of_module = h.1; below = n; rank = r; body = h.2 })

  module _ (proper : IsProper g) where
    -- each module has a rank
    ranked : (m : ℕ) → (k : ℕ) × IsRank g m k
    ranked m = ⊎_elim
        (λ c. let r = proper.ranked m c in rank_of r.0 m r.1)
        (λ none. (0, (λ p l e. none (p, (l, e)), λ k h. omega arith)))
        (composite_either g m)

    chosen : (m : ℕ) → (p : ℕ) × (IsComposite g m → IsChoice g m p)
    chosen m = ⊎_elim
        (λ c. let r = ranked m in let p = choice_of m r.0 c r.1 in (p.0, λ d. p.1))
        (λ none. (0, λ d. absurd (none d)))
        (composite_either g m)

    -- a proper grammar has a ranking
    pub some_ranking : (r : Ranking) × IsRankingOf g r
    some_ranking =
        let ranks = listed (IsRank g) 0 (length g.modules) (λ m l. ranked m) in
        let choices = listed (λ m p. IsComposite g m → IsChoice g m p) 0 (length g.modules) (λ m l. chosen m) in (
          record { ranks = ranks.list; choices = choices.list },
          record {
            one_rank_each = ranks.count;
            one_choice_each = choices.count;
            ranks = ranks.each;
            choices = λ m c. choices.each m (composite_below g formed m c) c;
          },
        )
