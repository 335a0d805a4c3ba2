-- What is told at a module by bits that begin with parts of a place.
use Rattle.std.proofs.Common.{◌≡◌, ℕ, ◌+◌, Bool, true, false, List, [], ◌∷◌, ◌++◌, replicate, flat_map, Option, refl, sym, ap, ◌∙◌, subst, append_assoc}
use Rattle.wf_model.specs.Grammar.{Grammar, alternative_of, IsProductionOf, IsAtomic}
use Rattle.wf_model.specs.Reach.{Step, module_along}
use Rattle.wf_model.specs.Linear.{IsStepOf}
use Rattle.bit_pack.specs.Gamma.{gamma}
use Rattle.label_model.specs.Labels.{PlaceStep, chain_bits, step_bits, ending_bits}
use Rattle.label_model.proofs.LabelBits.{ending_spread}
use Rattle.decode_model.proofs.Rounds.{module_along-append}
use Rattle.package_model.specs.Translating.{Loops, StandsFor, LeavesBy, LeadBy, GoesAlong}
use Rattle.wf_translate.specs.Readable.{ReadsPlace, ReadsOut}
use Rattle.wf_translate.specs.Parts.{BeginsByStep, IsEndingBy}
use Rattle.wf_translate.specs.Chains.{StopsAlong}

-- the bits of a step, part by part
pub step_then : (s : PlaceStep) (r : List Bool) → step_bits s ++ r ≡ chain_bits s.chain ++ (true ∷ (gamma (s.alternative + 1) ++ (gamma (s.position + 1) ++ r)))
step_then s r = simp append_assoc

module _ (g : Grammar) (loop : Loops) where
  -- a step, and then a place
  pub place_more : (m : ℕ) (p : PlaceStep) (b : List Step) (k : ℕ) (bits left : List Bool) → LeavesBy g loop m p b → module_along g m b ≡ k → bits ≡ step_bits p ++ left →
      (a : List Step) (q e : ℕ) → ReadsPlace g loop k left a q e → ReadsPlace g loop m bits (b ++ a) q e
  place_more m p b k bits left l to is a q e h = record {
    place = record { steps = p ∷ h.place.steps; chain = h.place.chain; alternative = h.place.alternative; edge = h.place.edge };
    read = record {
      led = b ++ h.read.led;
      lead = (b, h.read.led, l, subst (λ z. LeadBy g loop z h.place.steps h.read.led) (sym to) h.read.lead, refl);
      round = h.read.round;
      chain = subst (λ z. StandsFor g loop z h.place.chain h.read.round) (sym (module_along-append g m b h.read.led ∙ ap (λ y. module_along g y h.read.led) to)) h.read.chain;
      is = ap (λ z. b ++ z) h.read.is ∙ sym (append_assoc b h.read.led h.read.round);
      of_it = subst (IsProductionOf g q) (sym (module_along-append g m b a ∙ ap (λ y. module_along g y a) to)) h.read.of_it;
      alternative = h.read.alternative;
      edge = h.read.edge;
    };
    edge_is = h.edge_is;
    padding = h.padding;
    few = h.few;
    is = is ∙ (ap (λ z. step_bits p ++ z) h.is ∙
        sym (append_assoc (step_bits p) (flat_map step_bits h.place.steps) (ending_bits h.place.chain h.place.alternative h.place.edge ++ replicate h.padding false)));
  }

  -- a step, and then what comes to an atomic module
  pub out_more : (m : ℕ) (p : PlaceStep) (b : List Step) (k : ℕ) (bits left : List Bool) → LeavesBy g loop m p b → module_along g m b ≡ k → bits ≡ step_bits p ++ left → ReadsOut g loop k left → ReadsOut g loop m bits
  out_more m p b k bits left l to is h = record {
    steps = p ∷ h.steps;
    led = b ++ h.led;
    lead = (b, h.led, l, subst (λ z. LeadBy g loop z h.steps h.led) (sym to) h.lead, refl);
    chain = h.chain;
    round = h.round;
    goes = subst (λ z. GoesAlong g loop z h.chain h.round) (sym (module_along-append g m b h.led ∙ ap (λ y. module_along g y h.led) to)) h.goes;
    atomic = subst (IsAtomic g) (sym (ap (module_along g m) (append_assoc b h.led h.round) ∙ (module_along-append g m b (h.led ++ h.round) ∙ ap (λ y. module_along g y (h.led ++ h.round)) to))) h.atomic;
    rest = h.rest;
    is = is ∙ (ap (λ z. step_bits p ++ z) h.is ∙ sym (append_assoc (step_bits p) (flat_map step_bits h.steps) (chain_bits h.chain ++ h.rest)));
  }

  -- a chain number and an ending
  pub place_here : (m : ℕ) (c : Option ℕ) (r : List Step) (k : ℕ) (bits left : List Bool) (q e : ℕ) → StandsFor g loop m c r → module_along g m r ≡ k → bits ≡ chain_bits c ++ left → IsEndingBy g k left q e → ReadsPlace g loop m bits r q e
  place_here m c r k bits left q e stands to is h = record {
    place = record { steps = []; chain = c; alternative = alternative_of g q; edge = e };
    read = record {
      led = [];
      lead = refl;
      round = r;
      chain = stands;
      is = refl;
      of_it = subst (IsProductionOf g q) (sym to) h.of_it;
      alternative = refl;
      edge = h.in_range;
    };
    edge_is = refl;
    padding = h.padding;
    few = h.few;
    is = is ∙ (ap (λ z. chain_bits c ++ z) h.is ∙ sym (ending_spread c (alternative_of g q) e (replicate h.padding false)));
  }

  -- a chain number that leads to an atomic module
  pub out_here : (m : ℕ) (c : Option ℕ) (bits left : List Bool) → StopsAlong g loop m c → bits ≡ chain_bits c ++ left → ReadsOut g loop m bits
  out_here m c bits left h is = record {
    steps = [];
    led = [];
    lead = refl;
    chain = c;
    round = h.round;
    goes = h.goes;
    atomic = h.atomic;
    rest = left;
    is = is;
  }

  -- the step of a place that a chain number and a step are
  abbrev pub step_by : Option ℕ → Step → PlaceStep
  step_by c s = record { chain = c; alternative = alternative_of g s.production; position = s.position }

  pub leaves_by_step : (m : ℕ) (c : Option ℕ) (r : List Step) (k : ℕ) (left : List Bool) (s : Step) (new : List Bool) → StandsFor g loop m c r → module_along g m r ≡ k → BeginsByStep g loop k left s new → LeavesBy g loop m (step_by c s) (r ++ s ∷ [])
  leaves_by_step m c r k left s new stands to h = record {
    round = r;
    chain = stands;
    step = s;
    of_it = subst (λ z. IsStepOf g z s) (sym to) h.of_it;
    alternative = refl;
    position = refl;
    leaves = λ e. h.leaves (ap loop (sym to) ∙ e);
    is = refl;
  }

  pub step_is : (c : Option ℕ) (k : ℕ) (bits left : List Bool) (s : Step) (new : List Bool) → bits ≡ chain_bits c ++ left → BeginsByStep g loop k left s new → bits ≡ step_bits (step_by c s) ++ new
  step_is c k bits left s new is h = is ∙ (ap (λ z. chain_bits c ++ z) h.is ∙ sym (step_then (step_by c s) new))
