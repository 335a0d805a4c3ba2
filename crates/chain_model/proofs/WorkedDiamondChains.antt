-- The worked chains of the diamond grammar.
use Rattle.std.proofs.Common.{◌≡◌, ◌⊎◌, ◌<◌, ◌≤◌, List, [], ◌∷◌, length, codes, Some, None, refl, sym, ap, ◌∙◌, subst, inl, inr, ⊎_elim, arith, lit<, bytes_eq, false, true≢false}
use Rattle.wf_model.specs.Lists.{IsIn, here, onward}
use Rattle.wf_model.specs.declared.event.Event.TheVariants.{Start, Expand}
use Rattle.wf_model.specs.Run.{Instance, Expanded, IsAccepted}
use Rattle.wf_model.specs.Links.{input, output}
use Rattle.wf_model.specs.Items.{Item, items}
use Rattle.wf_model.proofs.Lists.{bytes_same}
use Rattle.wf_laws.specs.Examples.{into, out}
use Rattle.wf_laws.specs.LineGrammar.{all_pairs, r_a, r_b}
use Rattle.wf_laws.proofs.Accepted.{none_taken, taken}
use Rattle.chain_model.specs.Chains.{entries_in, exits_in, IsEntry, IsExit, LeadsThrough, ChainStep, IsItemChain}
use Rattle.chain_model.specs.Shortest.{items_along, ComesFirst}
use Rattle.chain_model.specs.Examples.{r}
use Rattle.chain_model.specs.DiamondChains.{instance_p, instance_q, instance_k, instance_j, diamond, s_expanded, expanded_run, p_y2, p_y1, q_y, k_y, by_k, by_q, DiamondChainsAreWorked}
use Rattle.chain_model.proofs.OneInstance.{via_law}
use Rattle.chain_model.proofs.WorkedChains.{of_open, leads, not_shown}

accepted : IsAccepted diamond 5 expanded_run
accepted = taken diamond 5 (Start (codes "r") ∷ []) (Expand (codes "r") 0 (codes "p" ∷ codes "q" ∷ codes "k" ∷ codes "j" ∷ [])) (taken diamond 5 [] (Start (codes "r")) (none_taken diamond 5) refl) refl

abbrev children : Expanded
children = record { production = 0; names = codes "p" ∷ codes "q" ∷ codes "k" ∷ codes "j" ∷ [] }

-- x leads through n to y
abbrev Leads : Item → Instance → Item → Type 0
Leads x n y = LeadsThrough diamond s_expanded all_pairs 0 expanded_run x n y

entry : IsEntry diamond s_expanded 0 expanded_run (into "r" 0) (into "p" 0)
entry = of_open diamond s_expanded 0 expanded_run (entries_in diamond) r children (record { from = input None 0; to = input (Some 0) 0 }) (inl refl) refl refl (inl refl) (into "r" 0) (into "p" 0) refl

exit : IsExit diamond s_expanded 0 expanded_run (out "j" 0) (out "r" 0)
exit = of_open diamond s_expanded 0 expanded_run (exits_in diamond) r children (record { from = output (Some 3) 0; to = output None 0 }) (inl refl) refl refl (inl refl) (out "j" 0) (out "r" 0) refl

to_p_y2 : Leads r_a instance_p p_y2
to_p_y2 = leads diamond s_expanded 0 expanded_run all_pairs r_a instance_p p_y2 0 1 (into "r" 0) (out "p" 1) (inr (inl refl)) (not_shown diamond s_expanded 0 expanded_run instance_p refl) refl (onward entry here) (lit< tt, lit< tt) refl here refl

to_p_y1 : Leads r_a instance_p p_y1
to_p_y1 = leads diamond s_expanded 0 expanded_run all_pairs r_a instance_p p_y1 0 0 (into "r" 0) (out "p" 0) (inr (inl refl)) (not_shown diamond s_expanded 0 expanded_run instance_p refl) refl (onward entry here) (lit< tt, lit< tt) refl here refl

to_q_y : Leads p_y1 instance_q q_y
to_q_y = leads diamond s_expanded 0 expanded_run all_pairs p_y1 instance_q q_y 0 0 (into "q" 0) (out "q" 0) (inr (inr (inl refl))) (not_shown diamond s_expanded 0 expanded_run instance_q refl) refl here (lit< tt, lit< tt) refl here refl

to_k_y : Leads p_y2 instance_k k_y
to_k_y = leads diamond s_expanded 0 expanded_run all_pairs p_y2 instance_k k_y 0 0 (into "k" 0) (out "k" 0) (inr (inr (inr (inl refl)))) (not_shown diamond s_expanded 0 expanded_run instance_k refl) refl here (lit< tt, lit< tt) refl here refl

from_q_y : Leads q_y instance_j r_b
from_q_y = leads diamond s_expanded 0 expanded_run all_pairs q_y instance_j r_b 0 0 (into "j" 0) (out "r" 0) (inr (inr (inr (inr (inl refl))))) (not_shown diamond s_expanded 0 expanded_run instance_j refl) refl here (lit< tt, lit< tt) refl (onward exit here) refl

from_k_y : Leads k_y instance_j r_b
from_k_y = leads diamond s_expanded 0 expanded_run all_pairs k_y instance_j r_b 1 0 (into "j" 1) (out "r" 0) (inr (inr (inr (inr (inl refl))))) (not_shown diamond s_expanded 0 expanded_run instance_j refl) refl here (lit< tt, lit< tt) refl (onward exit here) refl

of_k : IsItemChain diamond s_expanded all_pairs 0 expanded_run r_a by_k r_b
of_k = record {
  there = inl refl;
  visible = tt;
  some = lit< tt;
  steps_lead = (
    record { there = inr (inr (inl refl)); visible = refl; through = to_p_y2 },
    (
      record { there = inr (inr (inr (inr (inr (inl refl))))); visible = refl; through = to_k_y },
      (record { there = inr (inl refl); visible = tt; through = from_k_y }, refl),
    ),
  );
}

of_q : IsItemChain diamond s_expanded all_pairs 0 expanded_run r_a by_q r_b
of_q = record {
  there = inl refl;
  visible = tt;
  some = lit< tt;
  steps_lead = (
    record { there = inr (inr (inr (inl refl))); visible = refl; through = to_p_y1 },
    (
      record { there = inr (inr (inr (inr (inl refl)))); visible = refl; through = to_q_y },
      (record { there = inr (inl refl); visible = tt; through = from_q_y }, refl),
    ),
  );
}

-- the instance that consumes an item, and the one that produces it, are one
consumer : (x s t : Item) (n i : Instance) → Leads x n s → Leads x i t → n ≡ i
consumer x s t n i a b = (via_law diamond s_expanded all_pairs 0 expanded_run accepted.0 x x n i).consumed s t a b

producer : (y s t : Item) (n i : Instance) → Leads s n y → Leads t i y → n ≡ i
producer y s t n i a b = (via_law diamond s_expanded all_pairs 0 expanded_run accepted.0 y y n i).produced s t a b

-- two of the four instances are not one
apart : (n i : Instance) → bytes_eq n.name i.name ≡ false → n ≡ i → ⊥
apart n i e h = true≢false (sym (bytes_same n.name i.name (ap (λ (z : Instance). z.name) h)) ∙ e)

-- no item leads to r.a
not_to_r_a : (x : Item) (n : Instance) → Leads x n r_a → ⊥
not_to_r_a x n h = let z : None ≡ Some h.to = h.produced in cc

-- to what r.a, p.y2 and p.y1 lead
after_r_a : (n : Instance) (t : Item) → IsIn t (items diamond 0 expanded_run) → Leads r_a n t → (t ≡ p_y2) ⊎ (t ≡ p_y1)
after_r_a n t h l = go h
  where
    is_p : n ≡ instance_p
    is_p = consumer r_a t p_y2 n instance_p l to_p_y2

    other : (s x : Item) (i : Instance) → bytes_eq (codes "p") i.name ≡ false → Leads x i s → t ≡ s → ⊥
    other s x i e w q = apart instance_p i e (sym is_p ∙ producer s r_a x n i (subst (Leads r_a n) q l) w)

    go : IsIn t (items diamond 0 expanded_run) → (t ≡ p_y2) ⊎ (t ≡ p_y1)
    go (inl q) = absurd (not_to_r_a r_a n (subst (Leads r_a n) q l))
    go (inr (inl q)) = absurd (other r_b q_y instance_j refl from_q_y q)
    go (inr (inr (inl q))) = inl q
    go (inr (inr (inr (inl q)))) = inr q
    go (inr (inr (inr (inr (inl q))))) = absurd (other q_y p_y1 instance_q refl to_q_y q)
    go (inr (inr (inr (inr (inr (inl q)))))) = absurd (other k_y p_y2 instance_k refl to_k_y q)
    go (inr (inr (inr (inr (inr (inr q)))))) = absurd q

after_p_y2 : (n : Instance) (t : Item) → IsIn t (items diamond 0 expanded_run) → Leads p_y2 n t → t ≡ k_y
after_p_y2 n t h l = go h
  where
    is_k : n ≡ instance_k
    is_k = consumer p_y2 t k_y n instance_k l to_k_y

    other : (s x : Item) (i : Instance) → bytes_eq (codes "k") i.name ≡ false → Leads x i s → t ≡ s → ⊥
    other s x i e w q = apart instance_k i e (sym is_k ∙ producer s p_y2 x n i (subst (Leads p_y2 n) q l) w)

    go : IsIn t (items diamond 0 expanded_run) → t ≡ k_y
    go (inl q) = absurd (not_to_r_a p_y2 n (subst (Leads p_y2 n) q l))
    go (inr (inl q)) = absurd (other r_b q_y instance_j refl from_q_y q)
    go (inr (inr (inl q))) = absurd (other p_y2 r_a instance_p refl to_p_y2 q)
    go (inr (inr (inr (inl q)))) = absurd (other p_y1 r_a instance_p refl to_p_y1 q)
    go (inr (inr (inr (inr (inl q))))) = absurd (other q_y p_y1 instance_q refl to_q_y q)
    go (inr (inr (inr (inr (inr (inl q)))))) = q
    go (inr (inr (inr (inr (inr (inr q)))))) = absurd q

-- r.b is produced through j, which consumes none of r.a, p.y2 and p.y1
not_at_once : (x t : Item) (i n : Instance) → bytes_eq i.name (codes "j") ≡ false → Leads x i t → Leads x n r_b → ⊥
not_at_once x t i n e a b = apart i instance_j e (consumer x t r_b i n a b ∙ producer r_b x q_y n instance_j b from_q_y)

fewest : (others : List ChainStep) → IsItemChain diamond s_expanded all_pairs 0 expanded_run r_a others r_b → 3 ≤ length others
fewest [] c = let z : 0 < 0 = c.some in absurd (omega arith)
fewest (s ∷ []) c = absurd (not_at_once r_a p_y2 instance_p s.via refl to_p_y2 (subst (Leads r_a s.via) c.steps_lead.1 c.steps_lead.0.through))
fewest (s ∷ (t ∷ [])) c =
    let l : Leads s.item t.via r_b = subst (Leads s.item t.via) c.steps_lead.1.1 c.steps_lead.1.0.through in
    absurd (⊎_elim
    (λ e. not_at_once p_y2 k_y instance_k t.via refl to_k_y (subst (λ z. Leads z t.via r_b) e l))
    (λ e. not_at_once p_y1 q_y instance_q t.via refl to_q_y (subst (λ z. Leads z t.via r_b) e l))
    (after_r_a s.via s.item c.steps_lead.0.there c.steps_lead.0.through))
fewest (s ∷ (t ∷ (o ∷ others))) c = omega arith

first : (others : List ChainStep) → IsItemChain diamond s_expanded all_pairs 0 expanded_run r_a others r_b → length others ≡ 3 → ComesFirst (items diamond 0 expanded_run) (items_along by_k) (items_along others)
first [] c e = absurd (omega arith)
first (s ∷ []) c e = absurd (omega arith)
first (s ∷ (t ∷ [])) c e = absurd (omega arith)
first (s ∷ (t ∷ (o ∷ []))) c e =
    ⊎_elim
    (λ q. let l : Leads p_y2 t.via t.item = subst (λ z. Leads z t.via t.item) q c.steps_lead.1.0.through in
    inr (sym q, inr (sym (after_p_y2 t.via t.item c.steps_lead.1.0.there l), inr (sym c.steps_lead.1.1.1, tt))))
    (λ q. inl (2, 3, refl, q, lit< tt))
    (after_r_a s.via s.item c.steps_lead.0.there c.steps_lead.0.through)
first (s ∷ (t ∷ (o ∷ (x ∷ others)))) c e = absurd (omega arith)

pub diamond_chains_are_worked : DiamondChainsAreWorked
diamond_chains_are_worked = record { accepted = accepted; of_k = of_k; of_q = of_q; k_first = record { chain = of_k; fewest = fewest; first = first } }
