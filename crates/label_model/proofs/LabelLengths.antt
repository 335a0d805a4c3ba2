-- How long a label is.
use Rattle.std.proofs.Common.{◌≡◌, ℕ, suc, ◌+◌, ◌-◌, ◌*◌, ◌<◌, ◌≤◌, max, true, false, cond, List, [], ◌∷◌, ◌++◌, length, flat_map, count_by, Option, Some, None, is_some, refl, inl, inr, arith, length-append}
use Rattle.std.proofs.lemmas.Nat.{mul-le}
use Rattle.wf_model.specs.Lists.{IsIn}
use Rattle.wf_model.specs.Grammar.{Grammar}
use Rattle.wf_model.specs.WellFormed.{IsWellFormed}
use Rattle.wf_model.specs.Linear.{IsLinear}
use Rattle.wf_model.specs.Reach.{Step, target_of}
use Rattle.bit_pack.specs.Gamma.{digits, gamma}
use Rattle.bit_pack.proofs.Codes.{below_digits, digits_few, length_law as gamma_length_law}
use Rattle.label_model.specs.Labels.{PlaceStep, chain_bits, step_bits, ending_bits, prefix_bits, label_bits, IsChain, Leaves, Leads}
use Rattle.label_model.specs.Bound.{gamma_length, components, cycles, most_alternatives, most_positions, most_edges, bound, chains}
use Rattle.label_model.specs.BoundLaws.{LengthLaw}
use Rattle.label_model.proofs.Visits.{one_visit_law, visits_once, count_cons}
use Rattle.label_model.proofs.GrammarSizes.{alternative_within, position_within, edge_within}
use Rattle.wf_model.specs.Composite.{is_composite}

-- a larger number has no fewer digits
pub digits_grow : (m n : ℕ) → m ≤ n → digits m ≤ digits n
digits_grow m n h = digits_few m (digits n) (omega (arith, below_digits n))

-- a smaller number has no longer code
pub gamma_within : (m n : ℕ) → 0 < m → m ≤ n → length (gamma m) ≤ gamma_length n
gamma_within m n p h = omega (arith, gamma_length_law m p, digits_grow m n h)

-- the bits of a chain number below n
chain_within : (c : Option ℕ) (n : ℕ) → ((d : ℕ) → c ≡ Some d → d < n) → length (chain_bits c) ≤ cond (is_some c) 1 0 * (2 * digits n)
chain_within None n h = omega arith
chain_within (Some d) n h = let q = h d refl in let r = gamma_within (d + 1) n (omega arith) (omega arith) in omega (arith, r)

-- the bits of a step
step_within : (g : Grammar) → IsWellFormed g → (m : ℕ) (s : PlaceStep) (t : Step) (n : ℕ) → Leaves g m s t → ((d : ℕ) → s.chain ≡ Some d → d < n) →
    length (step_bits s) ≤ cond (is_some s.chain) 1 0 * (2 * digits n) + (1 + gamma_length (most_alternatives g) + gamma_length (most_positions g))
step_within g wf m s t n l h =
    let c = chain_within s.chain n h in
    let a = alternative_within g wf t.production l.step.in_range in
    let i = position_within g t l.from l.step in
    let ga = gamma_within (s.alternative + 1) (most_alternatives g) (omega arith) (omega (arith, a, l.alternative)) in
    let gi = gamma_within (s.position + 1) (most_positions g) (omega arith) (omega (arith, i, l.position)) in
    omega (arith, c, ga, gi, length-append (chain_bits s.chain) (true ∷ gamma (s.alternative + 1) ++ gamma (s.position + 1)), length-append (gamma (s.alternative + 1)) (gamma (s.position + 1)))

-- how many of the steps have a chain number
count_chains : List PlaceStep → ℕ
count_chains ss = count_by (λ (s : PlaceStep). is_some s.chain) ss

-- the bits of steps
steps_within : (g : Grammar) → IsWellFormed g → (ss : List PlaceStep) (m k n : ℕ) → Leads g m ss k → ((s : PlaceStep) → IsIn s ss → (d : ℕ) → s.chain ≡ Some d → d < n) →
    length (flat_map step_bits ss) ≤ count_chains ss * (2 * digits n) + length ss * (1 + gamma_length (most_alternatives g) + gamma_length (most_positions g))
unfolding count_chains
steps_within g wf [] m k n h small = omega arith
steps_within g wf (s ∷ ss) m k n h small =
    let a = step_within g wf m s h.0 n h.1 (small s (inl refl)) in
    let r = steps_within g wf ss (target_of g h.0) k n h.2 (λ z i. small z (inr i)) in
    sum (length (step_bits s)) (length (flat_map step_bits ss)) (length (step_bits s ++ flat_map step_bits ss)) (cond (is_some s.chain) 1 0) (count_chains ss) (count_chains (s ∷ ss)) (2 * digits n) (length ss)
    (1 + gamma_length (most_alternatives g) + gamma_length (most_positions g)) a r (length-append (step_bits s) (flat_map step_bits ss)) (count_cons s ss)
  where
    sum : (x y xy c d cd w l z : ℕ) → x ≤ c * w + z → y ≤ d * w + l * z → xy ≡ x + y → cd ≡ c + d → xy ≤ cd * w + suc l * z
    sum x y xy c d cd w l z a b e f = grind (arith)

-- the bits of the steps to a composite module, where the chain numbers are below n
pub prefix_length : (g : Grammar) → IsWellFormed g → IsLinear g → (m : ℕ) (ss : List PlaceStep) (c : Option ℕ) (k j n : ℕ) → m < length g.modules → Leads g m ss k → IsChain g k c j → is_composite g j ≡ true →
    ((s : PlaceStep) → IsIn s ss → (d : ℕ) → s.chain ≡ Some d → d < n) → length (prefix_bits ss) ≤ bound g n
unfolding bound count_chains
prefix_length g wf lin m ss c k j n in_range h hc comp small =
    let v = visits_once g wf lin m ss c k j in_range h hc comp in
    let f = steps_within g wf ss m k n h small in
    let x = 1 + gamma_length (most_alternatives g) + gamma_length (most_positions g) in
    let steps : length ss * x ≤ (components g - 1) * x = mul-le (length ss) x (components g - 1) x (omega (arith, v.0)) (omega arith) in
    let loops : count_chains ss * (2 * digits n) ≤ cycles g * (2 * digits n) = mul-le (count_chains ss) (2 * digits n) (cycles g) (2 * digits n) (omega (arith, v.1)) (omega arith) in
    joined (length (flat_map step_bits ss)) (count_chains ss * (2 * digits n)) (length ss * x) ((components g - 1) * x) (digits n) (cycles g) (gamma_length (most_alternatives g)) (gamma_length (most_edges g)) f steps loops
  where
    joined : (f k s t d q ga ge : ℕ) → f ≤ k + s → s ≤ t → k ≤ q * (2 * d) → suc f ≤ max 15 (2 + ga + ge + t) + 2 * q * d
    joined f k s t d q ga ge h1 h2 h3 = omega arith

pub length_law : LengthLaw
unfolding label_bits bound count_chains
length_law g wf lin p n h small =
    let v = one_visit_law g wf lin g.start p wf.start h in
    let f = steps_within g wf p.steps g.start h.entered n h.leads small.steps in
    let c = chain_within p.chain n small.last in
    let a = alternative_within g wf h.production h.of_it.0 in
    let e = edge_within g h.production p.edge h.of_it.0 h.edge in
    let ga = gamma_within (p.alternative + 1) (most_alternatives g) (omega arith) (omega (arith, a, h.alternative)) in
    let ge = gamma_within (p.edge + 1) (most_edges g) (omega arith) e in
    let x = 1 + gamma_length (most_alternatives g) + gamma_length (most_positions g) in
    let steps : length p.steps * x ≤ (components g - 1) * x = mul-le (length p.steps) x (components g - 1) x (omega (arith, v.0)) (omega arith) in
    let loops : chains p * (2 * digits n) ≤ cycles g * (2 * digits n) = mul-le (chains p) (2 * digits n) (cycles g) (2 * digits n) v.1 (omega arith) in
    let l1 = length-append (flat_map step_bits p.steps) (ending_bits p.chain p.alternative p.edge) in
    let l2 = length-append (chain_bits p.chain) (false ∷ gamma (p.alternative + 1) ++ gamma (p.edge + 1)) in
    let l3 = length-append (gamma (p.alternative + 1)) (gamma (p.edge + 1)) in
    let l4 : length (ending_bits p.chain p.alternative p.edge) ≡ length (chain_bits p.chain) + suc (length (gamma (p.alternative + 1)) + length (gamma (p.edge + 1))) = omega (arith, l2, l3) in
    joined (length (flat_map step_bits p.steps)) (length (chain_bits p.chain)) (length (gamma (p.alternative + 1))) (length (gamma (p.edge + 1))) _ _ (count_chains p.steps) (cond (is_some p.chain) 1 0) (length p.steps * x) ((components g - 1) * x) (digits n) (cycles g)
    (gamma_length (most_alternatives g)) (gamma_length (most_edges g)) f c ga ge steps loops l1 l4
  where
    joined : (f c a e end all k j s t d q ga ge : ℕ) → f ≤ k * (2 * d) + s → c ≤ j * (2 * d) → a ≤ ga → e ≤ ge → s ≤ t → (k + j) * (2 * d) ≤ q * (2 * d) → all ≡ f + end → end ≡ c + suc (a + e) → suc all ≤ max 15 (2 + ga + ge + t) + 2 * q * d
    joined f c a e end all k j s t d q ga ge h1 h2 h3 h4 h5 h6 h7 h8 = omega arith
