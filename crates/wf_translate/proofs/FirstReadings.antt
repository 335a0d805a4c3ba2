-- What comes first where bits tell something at a module.
use Rattle.std.proofs.Common.{◌≡◌, ◌≢◌, ◌⊎◌, ℕ, ◌+◌, ◌^◌, ◌<◌, Bool, true, false, List, [], ◌∷◌, ◌++◌, length, replicate, flat_map, Option, Some, None, refl, sym, ap, ◌∙◌, subst, inl, inr, ⊎_elim, arith, append_assoc}
use Rattle.wf_model.specs.Grammar.{Grammar, production_at, alternative_of, IsProductionOf, IsAtomic, IsComposite}
use Rattle.wf_model.specs.Reach.{Step, target_of, module_along}
use Rattle.wf_model.proofs.Going.{same_step}
use Rattle.bit_pack.specs.Gamma.{gamma}
use Rattle.bit_pack.proofs.Codes.{prefix_free_law as gamma_law}
use Rattle.label_model.specs.Labels.{PlaceStep, chain_bits, step_bits, ending_bits}
use Rattle.label_model.proofs.Alternatives.{same_alternative}
use Rattle.label_model.proofs.Finding.{cases_option}
use Rattle.label_model.proofs.LabelBits.{step_spread, ending_spread}
use Rattle.decode_model.proofs.Rounds.{module_along-append}
use Rattle.package_model.specs.Translating.{Loops, StandsFor, LeadBy, GoesAlong}
use Rattle.package_model.proofs.LoopSteps.{AreSteps}
use Rattle.package_model.proofs.ReadOnce.{chain_once, goes_not}
use Rattle.wf_label.specs.Parts.{HasNoNumber}
use Rattle.wf_translate.specs.Readable.{ReadsPlace, ReadsOut, IsReadable}
use Rattle.wf_translate.specs.Parts.{BeginsByStep, IsEndingBy, HasNoPart}

module _ (g : Grammar) (loop : Loops) where
  -- a step comes first, and what it leads to is told; or an ending does
  abbrev PartLeft : ℕ → List Bool → Type 0
  PartLeft k left = ((s : Step) × (new : List Bool) × BeginsByStep g loop k left s new × IsReadable g loop (target_of g s) new) ⊎ ((q : ℕ) × (e : ℕ) × IsEndingBy g k left q e)

  -- a chain number that may not be there, and a part
  record FirstRead (m : ℕ) (bits : List Bool) : Type 0 where
    chain : Option ℕ
    round : List Step
    stands : StandsFor g loop m chain round
    left : List Bool
    is : bits ≡ chain_bits chain ++ left
    part : PartLeft (module_along g m round) left

  -- or a chain number along which an atomic module comes
  record FirstOut (m : ℕ) (bits : List Bool) : Type 0 where
    chain : Option ℕ
    round : List Step
    goes : GoesAlong g loop m chain round
    atomic : IsAtomic g (module_along g m round)
    left : List Bool
    is : bits ≡ chain_bits chain ++ left

  -- where a step of a place leads
  further : (m : ℕ) (a b d z : List Step) (k : ℕ) → module_along g m b ≡ k → a ≡ b ++ d → module_along g m (a ++ z) ≡ module_along g k (d ++ z)
  further m a b d z k to is = ap (λ y. module_along g m (y ++ z)) is ∙ (ap (module_along g m) (append_assoc b d z) ∙ (module_along-append g m b (d ++ z) ∙ ap (λ y. module_along g y (d ++ z)) to))

  along : (m : ℕ) (a b d : List Step) (k : ℕ) → module_along g m b ≡ k → a ≡ b ++ d → module_along g m a ≡ module_along g k d
  along m a b d k to is = ap (module_along g m) is ∙ (module_along-append g m b d ∙ ap (λ y. module_along g y d) to)

  first_place : (ps : List PlaceStep) (m : ℕ) (a : List Step) (c : Option ℕ) (r : List Step) (q al e z : ℕ) (bits : List Bool) → LeadBy g loop m ps a → StandsFor g loop (module_along g m a) c r →
      IsProductionOf g q (module_along g m (a ++ r)) → alternative_of g q ≡ al → e < length (production_at g q).edges → z < 8 → bits ≡ flat_map step_bits ps ++ (ending_bits c al e ++ replicate z false) → FirstRead m bits
  first_place [] m a c r q al e z bits lead stands of_it alt edge few is = record {
    chain = c;
    round = r;
    stands = subst (λ y. StandsFor g loop (module_along g m y) c r) lead stands;
    left = false ∷ (gamma (al + 1) ++ (gamma (e + 1) ++ replicate z false));
    is = is ∙ ending_spread c al e (replicate z false);
    part = inr (
      q,
      e,
      record {
        of_it = subst (IsProductionOf g q) (ap (λ y. module_along g m (y ++ r)) lead) of_it;
        in_range = edge;
        padding = z;
        few = few;
        is = ap (λ y. false ∷ (gamma (y + 1) ++ (gamma (e + 1) ++ replicate z false))) (sym alt);
      },
    );
  }
  first_place (p ∷ ps) m a c r q al e z bits lead stands of_it alt edge few is =
      let b = lead.0 in
      let d = lead.1 in
      let l = lead.2 in
      let k = target_of g l.step in
      let to : module_along g m b ≡ k = ap (module_along g m) l.is ∙ module_along-append g m l.round (l.step ∷ []) in
      let rest = flat_map step_bits ps ++ (ending_bits c al e ++ replicate z false) in
      let place : ReadsPlace g loop k rest (d ++ r) q e = record {
        place = record { steps = ps; chain = c; alternative = al; edge = e };
        read = record {
          led = d;
          lead = subst (λ y. LeadBy g loop y ps d) to lead.3;
          round = r;
          chain = subst (λ y. StandsFor g loop y c r) (along m a b d k to lead.4) stands;
          is = refl;
          of_it = subst (IsProductionOf g q) (further m a b d r k to lead.4) of_it;
          alternative = alt;
          edge = edge;
        };
        edge_is = refl;
        padding = z;
        few = few;
        is = refl;
      } in
      record {
        chain = p.chain;
        round = l.round;
        stands = l.chain;
        left = true ∷ (gamma (p.alternative + 1) ++ (gamma (p.position + 1) ++ rest));
        is = is ∙ step_spread p (flat_map step_bits ps) (ending_bits c al e ++ replicate z false);
        part = inl (
          l.step,
          rest,
          record {
            of_it = l.of_it;
            leaves = l.leaves;
            is = ap (λ y. true ∷ (gamma (y + 1) ++ (gamma (p.position + 1) ++ rest))) (sym l.alternative) ∙ ap (λ y. true ∷ (gamma (alternative_of g l.step.production + 1) ++ (gamma (y + 1) ++ rest))) (sym l.position);
          },
          inl (d ++ r, q, e, place),
        );
      }

  first_out : (ps : List PlaceStep) (m : ℕ) (a : List Step) (c : Option ℕ) (r : List Step) (bits left : List Bool) → LeadBy g loop m ps a → GoesAlong g loop (module_along g m a) c r →
      IsAtomic g (module_along g m (a ++ r)) → bits ≡ flat_map step_bits ps ++ (chain_bits c ++ left) → FirstRead m bits ⊎ FirstOut m bits
  first_out [] m a c r bits left lead goes atomic is = inr (record {
    chain = c;
    round = r;
    goes = subst (λ y. GoesAlong g loop (module_along g m y) c r) lead goes;
    atomic = subst (λ y. IsAtomic g (module_along g m (y ++ r))) lead atomic;
    left = left;
    is = is;
  })
  first_out (p ∷ ps) m a c r bits left lead goes atomic is =
      let b = lead.0 in
      let d = lead.1 in
      let l = lead.2 in
      let k = target_of g l.step in
      let to : module_along g m b ≡ k = ap (module_along g m) l.is ∙ module_along-append g m l.round (l.step ∷ []) in
      let rest = flat_map step_bits ps ++ (chain_bits c ++ left) in
      let out : ReadsOut g loop k rest = record {
        steps = ps;
        led = d;
        lead = subst (λ y. LeadBy g loop y ps d) to lead.3;
        chain = c;
        round = r;
        goes = subst (λ y. GoesAlong g loop y c r) (along m a b d k to lead.4) goes;
        atomic = subst (IsAtomic g) (further m a b d r k to lead.4) atomic;
        rest = left;
        is = refl;
      } in
      inl (record {
        chain = p.chain;
        round = l.round;
        stands = l.chain;
        left = true ∷ (gamma (p.alternative + 1) ++ (gamma (p.position + 1) ++ rest));
        is = is ∙ step_spread p (flat_map step_bits ps) (chain_bits c ++ left);
        part = inl (
          l.step,
          rest,
          record {
            of_it = l.of_it;
            leaves = l.leaves;
            is = ap (λ y. true ∷ (gamma (y + 1) ++ (gamma (p.position + 1) ++ rest))) (sym l.alternative) ∙ ap (λ y. true ∷ (gamma (alternative_of g l.step.production + 1) ++ (gamma (y + 1) ++ rest))) (sym l.position);
          },
          inr out,
        );
      })

  first : (m : ℕ) (bits : List Bool) → IsReadable g loop m bits → FirstRead m bits ⊎ FirstOut m bits
  first m bits h = ⊎_elim
      (λ x. let r = x.3 in
      inl (first_place r.place.steps m r.read.led r.place.chain r.read.round x.1 r.place.alternative r.place.edge r.padding bits r.read.lead r.read.chain
      (subst (λ y. IsProductionOf g x.1 (module_along g m y)) r.read.is r.read.of_it) r.read.alternative r.read.edge r.few r.is))
      (λ o. first_out o.steps m o.led o.chain o.round bits o.rest o.lead o.goes o.atomic o.is)
      h

  module _ (are : AreSteps g loop) where
    -- behind a chain number that leads to a composite module, a part comes
    behind : (m k : ℕ) (c : Option ℕ) (r : List Step) (bits left : List Bool) → StandsFor g loop m c r → module_along g m r ≡ k → IsComposite g k → bits ≡ chain_bits c ++ left → IsReadable g loop m bits → PartLeft k left
    behind m k c r bits left stands to composite is h = ⊎_elim by_read by_out (first m bits h)
      where
        by_read : FirstRead m bits → PartLeft k left
        by_read f =
            let o = chain_once g loop are m c f.chain r f.round left f.left stands f.stands (sym is ∙ f.is) in
            let there : module_along g m f.round ≡ k = ap (module_along g m) (sym o.1) ∙ to in
            subst (PartLeft k) (sym o.2) (subst (λ y. PartLeft y f.left) there f.part)

        by_out : FirstOut m bits → PartLeft k left
        by_out f = absurd (goes_not g loop are m c f.chain r f.round left f.left stands f.goes (sym is ∙ f.is) (subst (IsComposite g) (sym to) composite) f.atomic)

    -- where a step was read, what it leads to is told
    pub back_step : (m k : ℕ) (c : Option ℕ) (r : List Step) (bits left : List Bool) (s : Step) (new : List Bool) → StandsFor g loop m c r → module_along g m r ≡ k → IsComposite g k → bits ≡ chain_bits c ++ left →
        BeginsByStep g loop k left s new → IsReadable g loop m bits → IsReadable g loop (target_of g s) new
    back_step m k c r bits left s new stands to composite is begins h = ⊎_elim by_step by_ending (behind m k c r bits left stands to composite is h)
      where
        by_step : ((t : Step) × (rest : List Bool) × BeginsByStep g loop k left t rest × IsReadable g loop (target_of g t) rest) → IsReadable g loop (target_of g s) new
        by_step x =
            let t = x.0 in
            let e = sym begins.is ∙ x.2.is in
            let bits1 : gamma (alternative_of g s.production + 1) ++ (gamma (s.position + 1) ++ new) ≡ gamma (alternative_of g t.production + 1) ++ (gamma (t.position + 1) ++ x.1) = cc in
            let r2 = gamma_law (alternative_of g s.production + 1) (alternative_of g t.production + 1) (gamma (s.position + 1) ++ new) (gamma (t.position + 1) ++ x.1) (omega arith) (omega arith) bits1 in
            let r3 = gamma_law (s.position + 1) (t.position + 1) new x.1 (omega arith) (omega arith) r2.1 in
            let ea : alternative_of g s.production ≡ alternative_of g t.production = omega (arith, r2.0) in
            let ep : s.position ≡ t.position = omega (arith, r3.0) in
            let prod = same_alternative g s.production t.production begins.of_it.in_range x.2.of_it.in_range (begins.of_it.head ∙ sym x.2.of_it.head) ea in
            let st : s ≡ t = same_step s t prod ep in
            subst (λ y. IsReadable g loop (target_of g y) new) (sym st) (subst (IsReadable g loop (target_of g t)) (sym r3.1) x.3)

        by_ending : ((q : ℕ) × (e : ℕ) × IsEndingBy g k left q e) → IsReadable g loop (target_of g s) new
        by_ending x = let e = sym begins.is ∙ x.2.is in absurd (cc)

    -- where no part comes, nothing is told
    pub nothing_behind : (m k : ℕ) (c : Option ℕ) (r : List Step) (bits left : List Bool) → StandsFor g loop m c r → module_along g m r ≡ k → IsComposite g k → bits ≡ chain_bits c ++ left → HasNoPart g loop k left → IsReadable g loop m bits → ⊥
    nothing_behind m k c r bits left stands to composite is none h =
        ⊎_elim (λ x. none.no_step x.0 x.1 x.2) (λ x. none.no_ending x.0 x.1 x.2) (behind m k c r bits left stands to composite is h)

    -- where a chain number is to come and none does, nothing is told
    pub nothing_before : (m : ℕ) (bits : List Bool) → loop m ≢ None → HasNoNumber (2 ^ 24) bits → IsReadable g loop m bits → ⊥
    nothing_before m bits on none h = ⊎_elim by_read by_out (first m bits h)
      where
        by_read : FirstRead m bits → ⊥
        by_read f = go f.chain f.stands f.is
          where
            go : (c : Option ℕ) → StandsFor g loop m c f.round → bits ≡ chain_bits c ++ f.left → ⊥
            go None stands is = on stands.0
            go (Some n) stands is = none n f.left (omega (arith, stands.1)) is

        by_out : FirstOut m bits → ⊥
        by_out f = go f.chain f.goes f.is
          where
            go : (c : Option ℕ) → GoesAlong g loop m c f.round → bits ≡ chain_bits c ++ f.left → ⊥
            go None goes is = ⊎_elim on (λ s. let st = are m s.0 s.1 in f.atomic s.0.production st.in_range (st.head ∙ ap (module_along g m) (sym goes))) (cases_option (loop m))
            go (Some n) goes is = none n f.left (omega (arith, goes.1)) is
