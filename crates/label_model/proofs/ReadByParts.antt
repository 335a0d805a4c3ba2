-- What a reader of a label tests at each part.
use Rattle.std.proofs.Common.{◌≡◌, ◌≢◌, ℕ, ◌+◌, ◌^◌, ◌<◌, ◌≤◌, Bool, true, false, List, ◌∷◌, ◌++◌, length, replicate, Option, Some, None, refl, sym, ap, ◌∙◌, subst, inl, inr, ⊎_elim, arith, true≢false}
use Rattle.wf_model.specs.Grammar.{Grammar, production_at, alternative_of, IsProductionOf}
use Rattle.wf_model.specs.Reach.{Step, target_of}
use Rattle.wf_model.specs.Linear.{IsStepOf}
use Rattle.bit_pack.specs.Gamma.{gamma}
use Rattle.bit_pack.proofs.Codes.{prefix_free_law as gamma_law}
use Rattle.label_model.specs.Continuing.{continuing, after}
use Rattle.label_model.specs.Labels.{chain_bits, IsChain}
use Rattle.label_model.specs.Reading.{IsPlaceLeft, IsPartLeft, IsPadding}
use Rattle.label_model.specs.LabelLaws.{PartsLaw}

-- two gamma codes after one bit
two_codes : (b c : Bool) (m n a i : ℕ) (x y : List Bool) → b ∷ (gamma (m + 1) ++ (gamma (n + 1) ++ x)) ≡ c ∷ (gamma (a + 1) ++ (gamma (i + 1) ++ y)) → (b ≡ c) × (m ≡ a) × (n ≡ i) × (x ≡ y)
two_codes b c m n a i x y e =
    let h : b ≡ c = cc in
    let t : gamma (m + 1) ++ (gamma (n + 1) ++ x) ≡ gamma (a + 1) ++ (gamma (i + 1) ++ y) = cc in
    let r = gamma_law (m + 1) (a + 1) _ _ (omega arith) (omega arith) t in
    let s = gamma_law (n + 1) (i + 1) _ _ (omega arith) (omega arith) r.1 in
    (h, omega (arith, r.0), omega (arith, s.0), s.1)

module _ (g : Grammar) where
  no_chain_gives : (m : ℕ) (bits : List Bool) → continuing g m ≡ None → (c : Option ℕ) (k : ℕ) (rest : List Bool) → IsChain g m c k → bits ≡ chain_bits c ++ rest → IsPartLeft g k rest → IsPartLeft g m bits
  no_chain_gives m bits e None k rest h q next = subst (λ z. IsPartLeft g m z) (sym q) (subst (λ z. IsPartLeft g z rest) (sym h.1) next)
  no_chain_gives m bits e (Some c) k rest h q next = absurd (h.0 e)

  a_chain_gives : (m c : ℕ) (rest : List Bool) → continuing g m ≢ None → (d : Option ℕ) (k : ℕ) (more : List Bool) → IsChain g m d k → gamma (c + 1) ++ rest ≡ chain_bits d ++ more → IsPartLeft g k more → (c + 1 ≤ 2 ^ 24) × IsPartLeft g (after g c m) rest
  a_chain_gives m c rest e None k more h q next = absurd (e h.0)
  a_chain_gives m c rest e (Some d) k more h q next =
      let r = gamma_law (c + 1) (d + 1) rest more (omega arith) (omega arith) q in
      let s : c ≡ d = omega (arith, r.0) in (
        omega (arith, h.1, s),
        subst (λ z. IsPartLeft g (after g c m) z) (sym r.1) (subst (λ z. IsPartLeft g z more) (sym (ap (λ z. after g z m) s ∙ h.2)) next),
      )

  chain_here : (m : ℕ) (bits : List Bool) → continuing g m ≢ None → (d : Option ℕ) (k : ℕ) (more : List Bool) → IsChain g m d k → bits ≡ chain_bits d ++ more → (c : ℕ) × (rest : List Bool) × (bits ≡ gamma (c + 1) ++ rest)
  chain_here m bits e None k more h q = absurd (e h.0)
  chain_here m bits e (Some d) k more h q = (d, more, q)

  step_gives : (k a i : ℕ) (rest : List Bool) → IsPartLeft g k (true ∷ (gamma (a + 1) ++ (gamma (i + 1) ++ rest))) →
      (t : Step) × IsStepOf g k t × (alternative_of g t.production ≡ a) × (t.position ≡ i) × (continuing g k ≢ Some t) × IsPlaceLeft g (target_of g t) rest
  step_gives k a i rest h =
      ⊎_elim
      (λ s. let r = two_codes true true a i (alternative_of g s.step.production) s.step.position rest s.rest s.is in
      (s.step, s.of_it, sym r.1, sym r.2, s.leaves, subst (λ z. IsPlaceLeft g (target_of g s.step) z) (sym r.3) s.next))
      (λ s. let r = two_codes true false a i (alternative_of g s.production) s.edge rest (replicate s.padding false) s.is in absurd (true≢false r.0))
      h

  ending_gives : (k a e : ℕ) (rest : List Bool) → IsPartLeft g k (false ∷ (gamma (a + 1) ++ (gamma (e + 1) ++ rest))) →
      (p : ℕ) × IsProductionOf g p k × (alternative_of g p ≡ a) × (e < length (production_at g p).edges) × IsPadding rest
  ending_gives k a e rest h =
      ⊎_elim
      (λ s. let r = two_codes false true a e (alternative_of g s.step.production) s.step.position rest s.rest s.is in absurd (true≢false (sym r.0)))
      (λ s. let r = two_codes false false a e (alternative_of g s.production) s.edge rest (replicate s.padding false) s.is in
      (s.production, s.of_it, sym r.1, subst (λ z. z < length (production_at g s.production).edges) (sym r.2) s.in_range, (s.padding, s.few, r.3)))
      h

pub parts_law : PartsLaw
parts_law = record {
  no_chain = λ g m bits e. (
    (λ h. no_chain_gives g m bits e h.chain h.to h.rest h.of_it h.is h.next),
    (λ h. record { chain = None; to = m; of_it = (e, refl); rest = bits; is = refl; next = h }),
  );
  a_chain = λ g m c rest e. (
    (λ h. a_chain_gives g m c rest e h.chain h.to h.rest h.of_it h.is h.next),
    (λ h. record { chain = Some c; to = after g c m; of_it = (e, h.0, refl); rest = rest; is = refl; next = h.1 }),
  );
  chain_cut = λ g m bits e h. chain_here g m bits e h.chain h.to h.rest h.of_it h.is;
  a_step = λ g k a i rest. (
    (λ h. step_gives g k a i rest h),
    (λ h. inl (record {
      step = h.0;
      of_it = h.1;
      leaves = h.4;
      rest = rest;
      is = ap (λ z. true ∷ (gamma (z + 1) ++ (gamma (i + 1) ++ rest))) (sym h.2) ∙ ap (λ z. true ∷ (gamma (alternative_of g h.0.production + 1) ++ (gamma (z + 1) ++ rest))) (sym h.3);
      next = h.5;
    })),
  );
  an_ending = λ g k a e rest. (
    (λ h. ending_gives g k a e rest h),
    (λ h. inr (record {
      production = h.0;
      of_it = h.1;
      edge = e;
      in_range = h.3;
      padding = h.4.0;
      few = h.4.1;
      is = ap (λ z. false ∷ (gamma (z + 1) ++ (gamma (e + 1) ++ rest))) (sym h.2) ∙ ap (λ z. false ∷ (gamma (alternative_of g h.0 + 1) ++ (gamma (e + 1) ++ z))) h.4.2;
    })),
  );
  cut = λ g k bits h. ⊎_elim (λ s. (true, alternative_of g s.step.production, s.step.position, s.rest, s.is)) (λ s. (false, alternative_of g s.production, s.edge, replicate s.padding false, s.is)) h;
}
