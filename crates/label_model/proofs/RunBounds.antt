-- The labels of the items of a run are within the bound.
use Rattle.std.proofs.Common.{◌≡◌, ℕ, ◌+◌, ◌^◌, ◌<◌, ◌≤◌, Bool, true, false, cond, List, [], ◌∷◌, ◌++◌, length, map, Option, Some, None, refl, sym, ap, ◌∙◌, subst, inl, inr, ⊎_elim, arith}
use Rattle.wf_model.specs.Lists.{IsIn, numbers_from}
use Rattle.wf_model.specs.Grammar.{Grammar, production_at, module_at, inputs_of, outputs_of, alternative_of}
use Rattle.wf_model.specs.WellFormed.{IsWellFormed}
use Rattle.wf_model.specs.declared.event.Event.{Event}
use Rattle.wf_model.specs.declared.event.Event.TheVariants.{Start, Expand}
use Rattle.wf_model.specs.Run.{IsAccepted, made}
use Rattle.wf_model.specs.Linear.{IsLinear}
use Rattle.wf_model.specs.Reach.{Step, target_of}
use Rattle.wf_model.proofs.Lists.{in_append_cases, in_append_right, in_map_from, at_in, is_at}
use Rattle.wf_model.proofs.Runs.{name_in, AllExtend-append}
use Rattle.wf_model.proofs.Level.{in_numbers}
use Rattle.bit_pack.specs.Gamma.{digits, gamma}
use Rattle.label_model.specs.Continuing.{continuing, continues}
use Rattle.label_model.specs.Labels.{PlaceStep, Input, Output, OfEdge, label_bits}
use Rattle.label_model.specs.Places.{chain_by, chain_at, steps_from, chain_from, place_of}
use Rattle.label_model.specs.RunLabels.{address_in}
use Rattle.label_model.specs.Bound.{expand_events, ChainsBelow, bound}
use Rattle.label_model.specs.BoundLaws.{BoundLaw}
use Rattle.label_model.proofs.LabelLengths.{gamma_within, length_law}
use Rattle.label_model.proofs.LookingBack.{address_short, expand_events-append}
use Rattle.label_model.proofs.InstanceAddresses.{kept_in}
use Rattle.label_model.proofs.AcceptedLabels.{place_valid}

-- the chain numbers of an address are below the number of its steps and one
chain_small : (g : Grammar) (m c d n : ℕ) → chain_at g m c ≡ Some d → c < n → d < n
chain_small g m c d n e h = go (continuing g m) e
  where
    go : (o : Option Step) → chain_by o c ≡ Some d → d < n
    go None e = absurd (cc)
    go (Some s) e = let f : c ≡ d = cc in omega arith

-- the last chain number
pub last_small : (g : Grammar) (a : List Step) (m c n d : ℕ) → c + length a < n → chain_from g m c a ≡ Some d → d < n
last_small g [] m c n d h e = chain_small g m c d n e (omega arith)
last_small g (s ∷ a) m c n d h e = go (continues g m s) e (λ k q. last_small g a (target_of g s) k n d q)
  where
    go : (t : Bool) → chain_from g (target_of g s) (cond t (c + 1) 0) a ≡ Some d → ((k : ℕ) → k + length a < n → chain_from g (target_of g s) k a ≡ Some d → d < n) → d < n
    go true e ih = ih (c + 1) (omega arith) e
    go false e ih = ih 0 (omega arith) e

-- the chain numbers of the steps
steps_small : (g : Grammar) (a : List Step) (m c n : ℕ) → c + length a < n → (q : PlaceStep) → IsIn q (steps_from g m c a) → (d : ℕ) → q.chain ≡ Some d → d < n
steps_small g [] m c n h q i d e = absurd i
steps_small g (s ∷ a) m c n h q i d e = go (continues g m s) i (λ k w z. steps_small g a (target_of g s) k n w q z d e)
  where
    go : (t : Bool) → IsIn q (cond t [] (record { chain = chain_at g m c; alternative = alternative_of g s.production; position = s.position } ∷ []) ++ steps_from g (target_of g s) (cond t (c + 1) 0) a) →
        ((k : ℕ) → k + length a < n → IsIn q (steps_from g (target_of g s) k a) → d < n) → d < n
    go true i ih = ih (c + 1) (omega arith) i
    go false (inl w) ih = chain_small g m c d n (sym (ap (λ (z : PlaceStep). z.chain) w) ∙ e) (omega arith)
    go false (inr w) ih = ih 0 (omega arith) w

-- the start module is one of the modules
pub start_module : (g : Grammar) → IsWellFormed g → IsIn (module_at g g.start) g.modules
start_module g wf = at_in (module_at g g.start) g.start g.modules (is_at g.start g.modules (record { name = []; inputs = []; outputs = [] }) wf.start)

-- the code of a port
pub port_bits : (k : ℕ) → k < 64 → length (gamma (k + 1)) ≤ 13
unfolding digits
port_bits k h = gamma_within (k + 1) 64 (omega arith) (omega arith)

-- the label of a port of the root
pub input_within : (g : Grammar) → IsWellFormed g → (k : ℕ) → k < inputs_of g g.start → length (label_bits (Input k)) ≤ 15
unfolding label_bits
input_within g wf k small = let few = (wf.modules (module_at g g.start) (start_module g wf)).few_inputs in omega (arith, port_bits k (omega (arith, small, few)))

pub output_within : (g : Grammar) → IsWellFormed g → (k : ℕ) → k < outputs_of g g.start → length (label_bits (Output k)) ≤ 15
unfolding label_bits
output_within g wf k small = let few = (wf.modules (module_at g g.start) (start_module g wf)).few_outputs in omega (arith, port_bits k (omega (arith, small, few)))

last_in : (before later : List Event) (e : Event) → IsIn e (before ++ e ∷ later)
last_in before later e = in_append_right e before (e ∷ later) (inl refl)

-- the label of an edge that an event of a run makes, where more than so many expand events come before the event
pub edge_within_bound : (g : Grammar) → IsWellFormed g → IsLinear g → (before later : List Event) (i : List ℕ) (p : ℕ) (names : List (List ℕ)) → IsAccepted g (2 ^ 24) (before ++ Expand i p names ∷ later) →
    (k : ℕ) → k < length (production_at g p).edges → (n : ℕ) → expand_events before < n → length (label_bits (OfEdge (place_of g g.start (address_in (before ++ Expand i p names ∷ later) i) p k))) ≤ bound g n
edge_within_bound g wf lin before later i p names acc k small n more =
    let events = before ++ Expand i p names ∷ later in
    let here = last_in before later (Expand i p names) in
    let valid = place_valid g wf events acc i p names here k small in
    let parts = AllExtend-append g g.start [] before (Expand i p names ∷ later) acc.0 in
    let same = kept_in g g.start (Expand i p names ∷ later) before i parts.1 (name_in _ (made g g.start before) parts.1.0.stands) in
    let short : 0 + length (address_in events i) < n = omega (arith, ap length same, address_short before i) in
    let low : ChainsBelow n (place_of g g.start (address_in events i) p k) = record {
      steps = λ s w c e. steps_small g (address_in events i) g.start 0 n short s w c e;
      last = λ c e. last_small g (address_in events i) g.start 0 n c short e;
    } in
    length_law g wf lin (place_of g g.start (address_in events i) p k) n valid low

pub bound_law : BoundLaw
bound_law g wf lin before (Start r) acc l h =
    ⊎_elim
    (λ a. let k = in_map_from Input l (numbers_from 0 (inputs_of g g.start)) a in subst (λ z. length (label_bits z) ≤ 15) (sym k.2) (input_within g wf k.0 (let z = in_numbers k.0 0 (inputs_of g g.start) k.1 in omega arith)))
    (λ a. let k = in_map_from Output l (numbers_from 0 (outputs_of g g.start)) a in subst (λ z. length (label_bits z) ≤ 15) (sym k.2) (output_within g wf k.0 (let z = in_numbers k.0 0 (outputs_of g g.start) k.1 in omega arith)))
    (in_append_cases l (map Input (numbers_from 0 (inputs_of g g.start))) (map Output (numbers_from 0 (outputs_of g g.start))) h)
bound_law g wf lin before (Expand i p names) acc l h =
    let events = before ++ Expand i p names ∷ [] in
    let k = in_map_from (λ e. OfEdge (place_of g g.start (address_in events i) p e)) l (numbers_from 0 (length (production_at g p).edges)) h in
    let small : k.0 < length (production_at g p).edges = let z = in_numbers k.0 0 (length (production_at g p).edges) k.1 in omega arith in
    subst (λ z. length (label_bits z) ≤ bound g (expand_events events)) (sym k.2)
    (edge_within_bound g wf lin before [] i p names acc k.0 small (expand_events events) (omega (arith, expand_events-append before (Expand i p names ∷ []))))
