-- What the numbers of a label tell of what is left of it.
use Rattle.std.proofs.Common.{◌≡◌, ◌≢◌, ◌↔◌, ℕ, ◌+◌, ◌^◌, ◌<◌, Bool, true, false, List, [], ◌∷◌, ◌++◌, length, replicate, Some, None, refl, sym, ap, ◌∙◌, subst, ⊎_elim, arith}
use Rattle.wf_model.specs.Grammar.{Grammar, production_at, head_of, body_of, alternative_of, IsProductionOf}
use Rattle.wf_model.specs.Reach.{Step, target_of}
use Rattle.wf_model.specs.Linear.{IsStepOf}
use Rattle.bit_pack.specs.Gamma.{gamma}
use Rattle.bit_pack.specs.Reading.{Reading}
use Rattle.bit_pack.proofs.Codes.{prefix_free_law as gamma_law}
use Rattle.label_model.specs.Continuing.{continuing, after}
use Rattle.label_model.specs.Reading.{IsPadding, IsPlaceLeft, IsStepLeft, IsEndingLeft, IsPartLeft, IsChainLeft, IsPortLeft}
use Rattle.label_model.proofs.Alternatives.{same_alternative}
use Rattle.label_model.proofs.ReadByParts.{parts_law}
use Rattle.label_model.proofs.ReadFromFront.{reading_law}
use Rattle.wf_label.specs.Parts.{IsPassed, IsNumberRead, HasNoNumber, HasNoAlternative, IsStepByLeft, IsEndingByLeft}
use Rattle.wf_label.proofs.Passes.{passed_front, passed_then}

-- a port is left, and then padding
pub port_left : (ports n : ℕ) → n < ports → (left : List Bool) → IsPortLeft ports (gamma (n + 1) ++ left) ↔ IsPadding left
port_left ports n low left = (
  (λ h. let r = gamma_law (n + 1) (h.port + 1) left (replicate h.padding false) (omega arith) (omega arith) h.is in (h.padding, h.few, r.1)),
  (λ h. record { port = n; in_range = low; padding = h.0; few = h.1; is = ap (λ z. gamma (n + 1) ++ z) h.2 }),
)

-- where no number of a port comes first, no port is left
pub no_port : (ports : ℕ) (bits : List Bool) → HasNoNumber ports bits → ¬ IsPortLeft ports bits
no_port ports bits none h = none h.port (replicate h.padding false) h.in_range h.is

module _ (g : Grammar) where
  -- of a module on no cycle no chain number is left
  pub no_chain_left : (m : ℕ) → continuing g m ≡ None → (bits : List Bool) → IsPlaceLeft g m bits ↔ IsPartLeft g m bits
  no_chain_left m e bits =
      let place = reading_law.place g m bits in
      let chain = parts_law.no_chain g m bits e in
      ((λ h. chain.0 (place.0 h)), (λ h. place.1 (chain.1 h)))

  -- of a module on a cycle one is left, and it leads on
  pub chain_left : (m c : ℕ) → continuing g m ≢ None → c < 2 ^ 24 → (left : List Bool) → IsPlaceLeft g m (gamma (c + 1) ++ left) ↔ IsPartLeft g (after g c m) left
  chain_left m c on low left =
      let place = reading_law.place g m (gamma (c + 1) ++ left) in
      let chain = parts_law.a_chain g m c left on in
      ((λ h. (chain.0 (place.0 h)).1), (λ h. place.1 (chain.1 (omega arith, h))))

  -- where none comes first, no place is left
  pub no_chain_number : (m : ℕ) (bits : List Bool) → continuing g m ≢ None → HasNoNumber (2 ^ 24) bits → ¬ IsPlaceLeft g m bits
  no_chain_number m bits on none h =
      let chain = (reading_law.place g m bits).0 h in
      let cut = parts_law.chain_cut g m bits on chain in
      let few = (parts_law.a_chain g m cut.0 cut.1 on).0 (subst (IsChainLeft g m) cut.2 chain) in
      none cut.0 cut.1 (omega (arith, few.0)) cut.2

  -- where no alternative number comes after the first bit, no step and no ending is left
  pub no_alternative : (k : ℕ) (b : Bool) (bits : List Bool) → HasNoAlternative g k bits → ¬ IsPartLeft g k (b ∷ bits)
  no_alternative k b bits none h = ⊎_elim by_step by_ending h
    where
      by_step : ¬ IsStepLeft g k (b ∷ bits)
      by_step s =
          let e = s.is in
          none s.step.production (gamma (s.step.position + 1) ++ s.rest) (s.of_it.in_range, s.of_it.head) (cc)

      by_ending : ¬ IsEndingLeft g k (b ∷ bits)
      by_ending s =
          let e = s.is in
          none s.production (gamma (s.edge + 1) ++ replicate s.padding false) s.of_it (cc)

  -- the production of a head by an alternative number
  same_production : (p q : ℕ) → p < length g.productions → IsProductionOf g q (head_of g p) → alternative_of g q ≡ alternative_of g p → q ≡ p
  same_production p q low of_it a = same_alternative g q p of_it.0 low of_it.1 a

  -- a step that does not continue leaves a place at its target
  pub step_left : (t : Step) → IsStepOf g (head_of g t.production) t → continuing g (head_of g t.production) ≢ Some t → (left : List Bool) →
      IsStepByLeft g t.production (gamma (t.position + 1) ++ left) ↔ IsPlaceLeft g (target_of g t) left
  step_left t of_it leaves left =
      let law = parts_law.a_step g (head_of g t.production) (alternative_of g t.production) t.position left in (
        (λ h. let r = law.0 h in subst (λ z. IsPlaceLeft g (target_of g z) left) (same_step r.0 r.1 r.2 r.3) r.5),
        (λ h. law.1 (t, of_it, refl, refl, leaves, h)),
      )
    where
      same_step : (u : Step) → IsStepOf g (head_of g t.production) u → alternative_of g u.production ≡ alternative_of g t.production → u.position ≡ t.position → u ≡ t
      same_step u is a e =
          let p = same_production t.production u.production of_it.in_range (is.in_range, is.head) a in
          λ i. record { production = p i; position = e i }

  -- the continuing step is not told
  pub continuing_left : (t : Step) (left : List Bool) → continuing g (head_of g t.production) ≡ Some t → t.production < length g.productions → ¬ IsStepByLeft g t.production (gamma (t.position + 1) ++ left)
  continuing_left t left is low h =
      let r = (parts_law.a_step g (head_of g t.production) (alternative_of g t.production) t.position left).0 h in
      let p = same_production t.production r.0.production low (r.1.in_range, r.1.head) r.2 in
      let e = r.3 in
      let same : ◌≡◌ {A = Step} t r.0 = λ i. record { production = sym p i; position = sym e i } in
      r.4 (is ∙ ap Some same)

  -- where no number of a position comes first, no step is left
  pub no_position : (p : ℕ) (bits : List Bool) → p < length g.productions → HasNoNumber (length (body_of g p)) bits → ¬ IsStepByLeft g p bits
  no_position p bits low none h = ⊎_elim by_step (λ s. let e = s.is in absurd (cc)) h
    where
      by_step : ¬ IsStepLeft g (head_of g p) (true ∷ (gamma (alternative_of g p + 1) ++ bits))
      by_step s =
          let e = s.is in
          let t : gamma (alternative_of g p + 1) ++ bits ≡ gamma (alternative_of g s.step.production + 1) ++ (gamma (s.step.position + 1) ++ s.rest) = cc in
          let r = gamma_law (alternative_of g p + 1) (alternative_of g s.step.production + 1) bits _ (omega arith) (omega arith) t in
          let q = same_production p s.step.production low (s.of_it.in_range, s.of_it.head) (omega (arith, r.0)) in
          none s.step.position s.rest (subst (λ z. s.step.position < length (body_of g z)) q s.of_it.position) r.1

  -- an ending leaves padding
  pub ending_left : (p e : ℕ) → p < length g.productions → e < length (production_at g p).edges → (left : List Bool) → IsEndingByLeft g p (gamma (e + 1) ++ left) ↔ IsPadding left
  ending_left p e low here left =
      let law = parts_law.an_ending g (head_of g p) (alternative_of g p) e left in
      ((λ h. (law.0 h).4), (λ h. law.1 (p, (low, refl), refl, here, h)))

  -- where no number of an edge comes first, no ending is left
  pub no_edge : (p : ℕ) (bits : List Bool) → p < length g.productions → HasNoNumber (length (production_at g p).edges) bits → ¬ IsEndingByLeft g p bits
  no_edge p bits low none h = ⊎_elim (λ s. let e = s.is in absurd (cc)) by_ending h
    where
      by_ending : ¬ IsEndingLeft g (head_of g p) (false ∷ (gamma (alternative_of g p + 1) ++ bits))
      by_ending s =
          let e = s.is in
          let t : gamma (alternative_of g p + 1) ++ bits ≡ gamma (alternative_of g s.production + 1) ++ (gamma (s.edge + 1) ++ replicate s.padding false) = cc in
          let r = gamma_law (alternative_of g p + 1) (alternative_of g s.production + 1) bits _ (omega arith) (omega arith) t in
          let q = same_production p s.production low s.of_it (omega (arith, r.0)) in
          none s.edge (replicate s.padding false) (subst (λ z. s.edge < length (production_at g z).edges) q s.in_range) r.1

  -- a bit and an alternative number are read, and a step or an ending by the production is left
  pub alternative_passed : (k p : ℕ) (b : Bool) (a r n : Reading) → IsProductionOf g p k → a.left ≡ b ∷ r.left → r.at ≡ a.at + 1 → IsNumberRead (alternative_of g p) r n →
      IsPassed (IsPartLeft g k) (λ left. IsPartLeft g (head_of g p) (b ∷ (gamma (alternative_of g p + 1) ++ left))) a n
  alternative_passed k p b a r n of_it is at read =
      subst (λ h. IsPassed (IsPartLeft g k) (λ left. IsPartLeft g h (b ∷ (gamma (alternative_of g p + 1) ++ left))) a n) (sym of_it.1)
      (passed_then (IsPartLeft g k) (λ left. IsPartLeft g k (b ∷ left)) (λ left. IsPartLeft g k (b ∷ (gamma (alternative_of g p + 1) ++ left))) a r n
      (passed_front (IsPartLeft g k) (b ∷ []) a r is at)
      (passed_front (λ left. IsPartLeft g k (b ∷ left)) (gamma (alternative_of g p + 1)) r n read.is read.at))
