-- The bits of a label are those of its marks.
use Rattle.std.proofs.Common.{◌≡◌, ℕ, ◌+◌, Bool, true, false, List, [], ◌∷◌, ◌++◌, flat_map, Option, Some, None, refl, sym, ap, ◌∙◌, subst, arith, append_assoc, append-nil, true≢false}
use Rattle.bit_pack.specs.Gamma.{gamma}
use Rattle.wf_model.specs.Grammar.{Grammar, alternative_of, IsProductionOf}
use Rattle.wf_model.specs.Reach.{Step, target_of}
use Rattle.label_model.specs.Continuing.{continuing}
use Rattle.label_model.specs.Labels.{PlaceStep, Place, chain_bits, step_bits, ending_bits, IsChain, Leaves, IsPlace}
use Rattle.wf_label.specs.Marks.{Mark, AtInput, AtOutput, Chain, Into, End, production_by, passed, chain_marks, step_at, place_marks, mark_bits, AreMarksAt, BeginMarks}
use Rattle.wf_label.proofs.ByAlternative.{at_alternative}

module _ (g : Grammar) where
  chain_passed : (m : ℕ) (c : Option ℕ) (k : ℕ) → IsChain g m c k → passed g m c ≡ k
  chain_passed m None k h = h.1
  chain_passed m (Some c) k h = h.2

  -- the production that an alternative number behind a chain number names
  production_named : (m : ℕ) (c : Option ℕ) (k a p : ℕ) → IsChain g m c k → IsProductionOf g p k → alternative_of g p ≡ a → production_by g (passed g m c) a ≡ p
  production_named m c k a p h of_it e = ap (λ z. production_by g z a) (chain_passed m c k h) ∙ (ap (production_by g k) (sym e) ∙ (at_alternative g p k of_it).1)

  step_named : (m : ℕ) (s : PlaceStep) (t : Step) → Leaves g m s t → step_at g m s ≡ t
  step_named m s t h =
      let p = production_named m s.chain h.from s.alternative t.production h.chain (h.step.in_range, h.step.head) h.alternative in
      λ i. record { production = p i; position = sym h.position i }

  -- at a module on no cycle no chain number need be told
  none_told : (m : ℕ) (ms : List Mark) → continuing g m ≡ None → AreMarksAt g m true ms → AreMarksAt g m false ms
  none_told m [] e a = absurd a
  none_told m (AtInput p ∷ ms) e a = absurd a
  none_told m (AtOutput p ∷ ms) e a = absurd a
  none_told m (Chain c ∷ ms) e a = absurd (true≢false a.0)
  none_told m (Into s ∷ ms) e a = ((λ _. e), a.1, a.2)
  none_told m (End p n ∷ ms) e a = ((λ _. e), a.1, a.2, a.3)

  -- marks behind a chain number
  chain_told : (m : ℕ) (c : Option ℕ) (k : ℕ) (ms : List Mark) → IsChain g m c k → AreMarksAt g k true ms → AreMarksAt g m false (chain_marks c ++ ms)
  chain_told m None k ms h a = none_told m ms h.0 (subst (λ z. AreMarksAt g z true ms) (sym h.1) a)
  chain_told m (Some c) k ms h a = (refl, h.0, omega (arith, h.1), subst (λ z. AreMarksAt g z true ms) (sym h.2) a)

  chain_spelled : (c : Option ℕ) (ms : List Mark) → flat_map (mark_bits g) (chain_marks c ++ ms) ≡ chain_bits c ++ flat_map (mark_bits g) ms
  chain_spelled None ms = refl
  chain_spelled (Some c) ms = refl

  -- these marks are those of a place at the module, and are spelled by these bits
  pub record AreSpelled (m : ℕ) (ms : List Mark) (bits : List Bool) : Type 0 where
    pub of_it : AreMarksAt g m false ms
    pub is : flat_map (mark_bits g) ms ≡ bits

  end_spelled : (m : ℕ) (c : Option ℕ) (k a e p : ℕ) → IsChain g m c k → AreMarksAt g k true (End p e ∷ []) → alternative_of g p ≡ a → AreSpelled m (chain_marks c ++ End p e ∷ []) (ending_bits c a e)
  end_spelled m c k a e p h t q = record {
    of_it = chain_told m c k (End p e ∷ []) h t;
    is = chain_spelled c (End p e ∷ []) ∙ (ap (λ z. chain_bits c ++ z) (append-nil (mark_bits g (End p e))) ∙ ap (λ z. chain_bits c ++ (false ∷ (gamma (z + 1) ++ gamma (e + 1)))) q);
  }

  joined : (x y z w v : List Bool) (b : Bool) → x ++ ((b ∷ (y ++ z)) ++ (w ++ v)) ≡ ((x ++ (b ∷ (y ++ z))) ++ w) ++ v
  joined x y z w v b = simp append_assoc

  step_spelled : (m : ℕ) (s : PlaceStep) (t : Step) (ms : List Mark) (front rest : List Bool) → Leaves g m s t → AreSpelled (target_of g t) ms (front ++ rest) → AreSpelled m (chain_marks s.chain ++ Into t ∷ ms) ((step_bits s ++ front) ++ rest)
  step_spelled m s t ms front rest h next = record {
    of_it = chain_told m s.chain h.from (Into t ∷ ms) h.chain ((λ e. absurd (true≢false e)), h.step, next.of_it);
    is =
        chain_spelled s.chain (Into t ∷ ms) ∙ (ap (λ z. chain_bits s.chain ++ (mark_bits g (Into t) ++ z)) next.is ∙
        (ap (λ z. chain_bits s.chain ++ ((true ∷ (gamma (z + 1) ++ gamma (t.position + 1))) ++ (front ++ rest))) h.alternative ∙
        (ap (λ z. chain_bits s.chain ++ ((true ∷ (gamma (s.alternative + 1) ++ gamma (z + 1))) ++ (front ++ rest))) h.position ∙
        joined (chain_bits s.chain) (gamma (s.alternative + 1)) (gamma (s.position + 1)) front rest true)));
  }

  -- the marks of a place are spelled by the bits of the place
  pub place_spelled : (m : ℕ) (steps : List PlaceStep) (c : Option ℕ) (a e : ℕ) → IsPlace g m (record { steps = steps; chain = c; alternative = a; edge = e }) → AreSpelled m (place_marks g m steps c a e) (flat_map step_bits steps ++ ending_bits c a e)
  place_spelled m [] c a e h =
      let chain : IsChain g m c h.from = subst (λ z. IsChain g z c h.from) (sym h.leads) h.chain in
      let p = production_named m c h.from a h.production chain h.of_it h.alternative in
      subst (λ z. AreSpelled m (chain_marks c ++ End z e ∷ []) (ending_bits c a e)) (sym p)
      (end_spelled m c h.from a e h.production chain ((λ q. absurd (true≢false q)), h.of_it, h.edge, refl) h.alternative)
  place_spelled m (s ∷ steps) c a e h =
      let t = h.leads.0 in
      let l = h.leads.1 in
      let next = place_spelled (target_of g t) steps c a e (record { entered = h.entered; leads = h.leads.2; from = h.from; chain = h.chain; production = h.production; of_it = h.of_it; alternative = h.alternative; edge = h.edge }) in
      subst (λ z. AreSpelled m (chain_marks s.chain ++ Into z ∷ place_marks g (target_of g z) steps c a e) ((step_bits s ++ flat_map step_bits steps) ++ ending_bits c a e)) (sym (step_named m s t l))
      (step_spelled m s t (place_marks g (target_of g t) steps c a e) (flat_map step_bits steps) (ending_bits c a e) l next)

  -- so where the bits of a place are left, those of its marks are
  pub place_begins : (m : ℕ) (p : Place) (bits behind : List Bool) → IsPlace g m p → bits ≡ (flat_map step_bits p.steps ++ ending_bits p.chain p.alternative p.edge) ++ behind → BeginMarks g m false bits (place_marks g m p.steps p.chain p.alternative p.edge)
  place_begins m p bits behind h e =
      let s = place_spelled m p.steps p.chain p.alternative p.edge h in
      record { of_it = s.of_it; behind = behind; is = e ∙ ap (λ z. z ++ behind) (sym s.is) }
