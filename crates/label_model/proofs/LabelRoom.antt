-- A label has fewer than 2^17 bits, and so has what comes before its ending.
use Rattle.std.proofs.Common.{◌≡◌, ℕ, suc, ◌+◌, ◌-◌, ◌*◌, ◌^◌, ◌<◌, ◌≤◌, max, true, List, [], ◌∷◌, length, Option, Some, None, sym, ap, ◌∙◌, inl, inr, arith}
use Rattle.std.proofs.lemmas.Nat.{mul-le}
use Rattle.wf_model.specs.Lists.{IsIn}
use Rattle.wf_model.specs.Grammar.{Grammar, module_at}
use Rattle.wf_model.specs.WellFormed.{IsWellFormed}
use Rattle.wf_model.specs.Linear.{IsLinear}
use Rattle.wf_model.specs.Reach.{target_of}
use Rattle.bit_pack.specs.Gamma.{digits, gamma}
use Rattle.bit_pack.proofs.Codes.{digits_few}
use Rattle.label_model.specs.Labels.{PlaceStep, Place, Input, Output, OfEdge, prefix_bits, label_bits, IsChain, Leads, IsPlace}
use Rattle.label_model.specs.Bound.{gamma_length, components, cycles, most_alternatives, most_positions, most_edges, bound, ChainsBelow}
use Rattle.label_model.specs.BoundLaws.{RoomLaw}
use Rattle.label_model.proofs.LabelLengths.{length_law, prefix_length}
use Rattle.label_model.proofs.RunBounds.{start_module, port_bits}
use Rattle.label_model.proofs.GrammarLimits.{few_alternatives, few_positions, few_edges, few_components, few_cycles}
use Rattle.wf_model.specs.Composite.{is_composite}

-- a chain number is below 2^24
chain_low : (g : Grammar) (m : ℕ) (c : Option ℕ) (k d : ℕ) → IsChain g m c k → c ≡ Some d → d < 2 ^ 24
chain_low g m None k d h e = absurd (cc)
chain_low g m (Some c) k d h e = let q : c ≡ d = cc in omega (arith, h.1)

-- so are those of the steps of a place
steps_low : (g : Grammar) (ss : List PlaceStep) (m k : ℕ) → Leads g m ss k → (s : PlaceStep) → IsIn s ss → (c : ℕ) → s.chain ≡ Some c → c < 2 ^ 24
steps_low g [] m k h s i c e = absurd i
steps_low g (t ∷ ss) m k h s (inl q) c e = chain_low g m t.chain h.1.from c h.1.chain (sym (ap (λ (z : PlaceStep). z.chain) q) ∙ e)
steps_low g (t ∷ ss) m k h s (inr i) c e = steps_low g ss (target_of g h.0) k h.2 s i c e

-- and all chain numbers of a place
place_low : (g : Grammar) (m : ℕ) (p : Place) → IsPlace g m p → ChainsBelow (2 ^ 24) p
place_low g m p h = record { steps = λ s i c e. steps_low g p.steps m h.entered h.leads s i c e; last = λ c e. chain_low g h.entered p.chain h.from c h.chain e }

-- the bound for such numbers
bound_low : (g : Grammar) → IsWellFormed g → (n : ℕ) → n < 2 ^ 25 → bound g n < 2 ^ 17
unfolding bound
bound_low g wf n small =
    let a : digits (most_alternatives g) ≤ 11 = digits_few (most_alternatives g) 11 (omega (arith, few_alternatives g wf)) in
    let b : digits (most_positions g) ≤ 7 = digits_few (most_positions g) 7 (omega (arith, few_positions g wf)) in
    let e : digits (most_edges g) ≤ 13 = digits_few (most_edges g) 13 (omega (arith, few_edges g wf)) in
    let d : digits n ≤ 25 = digits_few n 25 small in
    let x = 1 + gamma_length (most_alternatives g) + gamma_length (most_positions g) in
    let steps : (components g - 1) * x ≤ 1023 * 35 = mul-le (components g - 1) x 1023 35 (omega (arith, few_components g wf)) (omega (arith, a, b)) in
    let loops : cycles g * digits n ≤ 1024 * 25 = mul-le (cycles g) (digits n) 1024 25 (few_cycles g wf) d in
    sum (gamma_length (most_alternatives g)) (gamma_length (most_edges g)) ((components g - 1) * x) (cycles g) (digits n) (omega (arith, a)) (omega (arith, e)) steps loops
  where
    sum : (ga ge t q d : ℕ) → ga ≤ 21 → ge ≤ 25 → t ≤ 1023 * 35 → q * d ≤ 1024 * 25 → max 15 (2 + ga + ge + t) + 2 * q * d < 2 ^ 17
    sum ga ge t q d h1 h2 h3 h4 = omega arith

within : {a b : ℕ} → a ≤ b → b < 2 ^ 17 → a < 2 ^ 17
within x y = omega arith

-- the bits of the steps to a composite module
pub prefix_room : (g : Grammar) → IsWellFormed g → IsLinear g → (m : ℕ) (ss : List PlaceStep) (c : Option ℕ) (k j : ℕ) → m < length g.modules → Leads g m ss k → IsChain g k c j → is_composite g j ≡ true → length (prefix_bits ss) < 2 ^ 17
prefix_room g wf lin m ss c k j in_range h hc comp = within (prefix_length g wf lin m ss c k j (2 ^ 24) in_range h hc comp (steps_low g ss m k h)) (bound_low g wf (2 ^ 24) (omega arith))

pub room_law : RoomLaw
unfolding label_bits
room_law g wf lin (Input p) h =
    let few = (wf.modules (module_at g g.start) (start_module g wf)).few_inputs in
    let b = port_bits p (omega (arith, h, few)) in let w : suc (suc (length (gamma (p + 1)))) < 2 ^ 17 = omega (arith, b) in w
room_law g wf lin (Output p) h =
    let few = (wf.modules (module_at g g.start) (start_module g wf)).few_outputs in
    let b = port_bits p (omega (arith, h, few)) in let w : suc (suc (length (gamma (p + 1)))) < 2 ^ 17 = omega (arith, b) in w
room_law g wf lin (OfEdge p) h = within (length_law g wf lin p (2 ^ 24) h (place_low g g.start p h)) (bound_low g wf (2 ^ 24) (omega arith))
