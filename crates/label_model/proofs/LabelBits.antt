-- The bits of labels: none begins another.
use Rattle.std.proofs.Common.{◌≡◌, ℕ, ◌+◌, Bool, true, false, List, [], ◌∷◌, ◌++◌, length, replicate, flat_map, Option, Some, None, refl, sym, ap, ◌∙◌, subst, arith, append_assoc, length-append}
use Rattle.std.proofs.lemmas.List.{length-replicate, nil_from_length}
use Rattle.wf_model.specs.Grammar.{Grammar}
use Rattle.wf_model.specs.Reach.{Step, target_of}
use Rattle.bit_pack.specs.Bits.{bits_of}
use Rattle.bit_pack.specs.Gamma.{gamma}
use Rattle.bit_pack.proofs.Codes.{prefix_free_law as gamma_law}
use Rattle.bit_pack.proofs.Packing.{length-bits_of, bits_of-append}
use Rattle.label_model.specs.Labels.{PlaceStep, Place, Input, Output, OfEdge, chain_bits, step_bits, ending_bits, label_bits, IsChain, Leaves, Leads}
use Rattle.label_model.specs.LabelLaws.{PrefixFreeLaw, WholeLaw}
use Rattle.label_model.proofs.Alternatives.{same_alternative}

-- where a chain number leads is told by it
pub chain_leads : (g : Grammar) (m : ℕ) (c : Option ℕ) (j k : ℕ) → IsChain g m c j → IsChain g m c k → j ≡ k
chain_leads g m None j k h i = sym h.1 ∙ i.1
chain_leads g m (Some c) j k h i = sym h.2 ∙ i.2

-- where both are chain numbers at one module, what begins with two chain numbers tells them
chain_free : (g : Grammar) (m : ℕ) (c d : Option ℕ) (j k : ℕ) (x y : List Bool) → IsChain g m c j → IsChain g m d k → chain_bits c ++ x ≡ chain_bits d ++ y → (c ≡ d) × (x ≡ y)
chain_free g m None None j k x y h i e = (refl, e)
chain_free g m None (Some d) j k x y h i e = absurd (i.0 h.0)
chain_free g m (Some c) None j k x y h i e = absurd (h.0 i.0)
chain_free g m (Some c) (Some d) j k x y h i e =
    let r = gamma_law (c + 1) (d + 1) x y (omega arith) (omega arith) e in
    let s : c ≡ d = omega (arith, r.0) in
    (ap Some s, r.1)

-- a step of a place tells the step by which it leaves
pub leaves_by : (g : Grammar) (m : ℕ) (s : PlaceStep) (t u : Step) → Leaves g m s t → Leaves g m s u → t ≡ u
leaves_by g m s t u h k =
    let f : h.from ≡ k.from = chain_leads g m s.chain h.from k.from h.chain k.chain in
    let p : t.production ≡ u.production = same_alternative g t.production u.production h.step.in_range k.step.in_range (h.step.head ∙ (f ∙ sym k.step.head)) (h.alternative ∙ sym k.alternative) in
    let q : t.position ≡ u.position = h.position ∙ sym k.position in
    λ i. record { production = p i; position = q i }

-- the bits of a step, part by part
pub step_spread : (s : PlaceStep) (f r : List Bool) → (step_bits s ++ f) ++ r ≡ chain_bits s.chain ++ (true ∷ (gamma (s.alternative + 1) ++ (gamma (s.position + 1) ++ (f ++ r))))
step_spread s f r = simp append_assoc

-- the bits of an ending, part by part
pub ending_spread : (c : Option ℕ) (a e : ℕ) (x : List Bool) → ending_bits c a e ++ x ≡ chain_bits c ++ (false ∷ (gamma (a + 1) ++ (gamma (e + 1) ++ x)))
ending_spread c a e x = simp append_assoc

-- what two spellings at one module have in common
record IsSame (ss ts : List PlaceStep) (c d : Option ℕ) (a b e f : ℕ) (x y : List Bool) : Type 0 where
  steps : ss ≡ ts
  chain : c ≡ d
  alternative : a ≡ b
  edge : e ≡ f
  rest : x ≡ y

place_free : (g : Grammar) (ss ts : List PlaceStep) (m k l i j : ℕ) (c d : Option ℕ) (a b e f : ℕ) (x y : List Bool) →
    Leads g m ss k → Leads g m ts l → IsChain g k c i → IsChain g l d j →
    flat_map step_bits ss ++ (ending_bits c a e ++ x) ≡ flat_map step_bits ts ++ (ending_bits d b f ++ y) → IsSame ss ts c d a b e f x y
place_free g [] [] m k l i j c d a b e f x y hs ht hc hd q =
    let hc' : IsChain g m c i = subst (λ z. IsChain g z c i) (sym hs) hc in
    let hd' : IsChain g m d j = subst (λ z. IsChain g z d j) (sym ht) hd in
    let r = chain_free g m c d i j _ _ hc' hd' (sym (ending_spread c a e x) ∙ (q ∙ ending_spread d b f y)) in
    let r1 : gamma (a + 1) ++ (gamma (e + 1) ++ x) ≡ gamma (b + 1) ++ (gamma (f + 1) ++ y) = let t = r.1 in cc in
    let r2 = gamma_law (a + 1) (b + 1) _ _ (omega arith) (omega arith) r1 in
    let r3 = gamma_law (e + 1) (f + 1) _ _ (omega arith) (omega arith) r2.1 in
    record { steps = refl; chain = r.0; alternative = omega (arith, r2.0); edge = omega (arith, r3.0); rest = r3.1 }
place_free g [] (t ∷ ts) m k l i j c d a b e f x y hs ht hc hd q =
    let hc' : IsChain g m c i = subst (λ z. IsChain g z c i) (sym hs) hc in
    let r = chain_free g m c t.chain i ht.1.from _ _ hc' ht.1.chain (sym (ending_spread c a e x) ∙ (q ∙ step_spread t (flat_map step_bits ts) (ending_bits d b f ++ y))) in
    let r1 = r.1 in absurd (cc)
place_free g (s ∷ ss) [] m k l i j c d a b e f x y hs ht hc hd q =
    let hd' : IsChain g m d j = subst (λ z. IsChain g z d j) (sym ht) hd in
    let r = chain_free g m s.chain d hs.1.from j _ _ hs.1.chain hd' (sym (step_spread s (flat_map step_bits ss) (ending_bits c a e ++ x)) ∙ (q ∙ ending_spread d b f y)) in
    let r1 = r.1 in absurd (cc)
place_free g (s ∷ ss) (t ∷ ts) m k l i j c d a b e f x y hs ht hc hd q =
    let r = chain_free g m s.chain t.chain hs.1.from ht.1.from _ _ hs.1.chain ht.1.chain
    (sym (step_spread s (flat_map step_bits ss) (ending_bits c a e ++ x)) ∙ (q ∙ step_spread t (flat_map step_bits ts) (ending_bits d b f ++ y))) in
    let r1 : gamma (s.alternative + 1) ++ (gamma (s.position + 1) ++ (flat_map step_bits ss ++ (ending_bits c a e ++ x))) ≡ gamma (t.alternative + 1) ++ (gamma (t.position + 1) ++ (flat_map step_bits ts ++ (ending_bits d b f ++ y))) = let w = r.1 in cc in
    let r2 = gamma_law (s.alternative + 1) (t.alternative + 1) _ _ (omega arith) (omega arith) r1 in
    let r3 = gamma_law (s.position + 1) (t.position + 1) _ _ (omega arith) (omega arith) r2.1 in
    let ea : s.alternative ≡ t.alternative = omega (arith, r2.0) in
    let ep : s.position ≡ t.position = omega (arith, r3.0) in
    let st : s ≡ t = λ n. record { chain = r.0 n; alternative = ea n; position = ep n } in
    let u : hs.0 ≡ ht.0 = leaves_by g m t hs.0 ht.0 (subst (λ z. Leaves g m z hs.0) st hs.1) ht.1 in
    let hs' : Leads g (target_of g ht.0) ss k = subst (λ z. Leads g (target_of g z) ss k) u hs.2 in
    let rec = place_free g ss ts (target_of g ht.0) k l i j c d a b e f x y hs' ht.2 hc hd r3.1 in
    record { steps = ap (λ z. z ∷ ss) st ∙ ap (λ z. t ∷ z) rec.steps; chain = rec.chain; alternative = rec.alternative; edge = rec.edge; rest = rec.rest }

-- the bits of the label of an edge, part by part
pub label_spread : (p : Place) (x : List Bool) → label_bits (OfEdge p) ++ x ≡ true ∷ (flat_map step_bits p.steps ++ (ending_bits p.chain p.alternative p.edge ++ x))
unfolding label_bits
label_spread p x = simp append_assoc

pub prefix_free_law : PrefixFreeLaw
unfolding label_bits
prefix_free_law g (Input p) (Input q) x y h k e =
    let t : gamma (p + 1) ++ x ≡ gamma (q + 1) ++ y = cc in
    let r = gamma_law (p + 1) (q + 1) x y (omega arith) (omega arith) t in
    let s : p ≡ q = omega (arith, r.0) in (ap Input s, r.1)
prefix_free_law g (Input p) (Output q) x y h k e = absurd (cc)
prefix_free_law g (Input p) (OfEdge q) x y h k e = let t = e ∙ label_spread q y in absurd (cc)
prefix_free_law g (Output p) (Input q) x y h k e = absurd (cc)
prefix_free_law g (Output p) (Output q) x y h k e =
    let t : gamma (p + 1) ++ x ≡ gamma (q + 1) ++ y = cc in
    let r = gamma_law (p + 1) (q + 1) x y (omega arith) (omega arith) t in
    let s : p ≡ q = omega (arith, r.0) in (ap Output s, r.1)
prefix_free_law g (Output p) (OfEdge q) x y h k e = let t = e ∙ label_spread q y in absurd (cc)
prefix_free_law g (OfEdge p) (Input q) x y h k e = let t = sym (label_spread p x) ∙ e in absurd (cc)
prefix_free_law g (OfEdge p) (Output q) x y h k e = let t = sym (label_spread p x) ∙ e in absurd (cc)
prefix_free_law g (OfEdge p) (OfEdge q) x y h k e =
    let t = sym (label_spread p x) ∙ (e ∙ label_spread q y) in
    let w : flat_map step_bits p.steps ++ (ending_bits p.chain p.alternative p.edge ++ x) ≡ flat_map step_bits q.steps ++ (ending_bits q.chain q.alternative q.edge ++ y) = cc in
    let r = place_free g p.steps q.steps g.start h.entered k.entered h.from k.from p.chain q.chain p.alternative q.alternative p.edge q.edge x y h.leads k.leads h.chain k.chain w in
    ((λ n. OfEdge (record { steps = r.steps n; chain = r.chain n; alternative = r.alternative n; edge = r.edge n })), r.rest)

pub whole_law : WholeLaw
whole_law g l k a c hl hk ha hc =
    let e : label_bits l ++ (replicate ha.padding false ++ bits_of c) ≡ label_bits k ++ replicate hc.padding false =
    sym (append_assoc (label_bits l) (replicate ha.padding false) (bits_of c)) ∙ (ap (λ z. z ++ bits_of c) (sym ha.is) ∙ (sym (bits_of-append a c) ∙ hc.is)) in
    let r = prefix_free_law g l k _ _ hl hk e in
    let n = ap length r.1 in
    let none : length c ≡ 0 = omega (arith, n, length-append (replicate ha.padding false) (bits_of c), length-replicate hc.padding false, length-replicate ha.padding false, length-bits_of c, hc.few) in
    (nil_from_length c none, r.0)
