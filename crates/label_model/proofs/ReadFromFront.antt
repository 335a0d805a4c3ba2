-- A label is read from the front: what is left is told by what comes next and by what is left then.
use Rattle.std.proofs.Common.{◌≡◌, ℕ, ◌+◌, ◌<◌, Bool, true, false, List, [], ◌∷◌, ◌++◌, replicate, flat_map, Option, refl, sym, ap, ◌∙◌, subst, inl, inr, ⊎_elim, append_assoc}
use Rattle.wf_model.specs.Grammar.{Grammar, alternative_of}
use Rattle.bit_pack.specs.Bits.{bits_of}
use Rattle.bit_pack.specs.Gamma.{gamma}
use Rattle.label_model.specs.Labels.{PlaceStep, Label, Input, Output, OfEdge, chain_bits, step_bits, ending_bits, label_bits, IsChain, Leaves, IsPlace, IsLabel}
use Rattle.label_model.specs.Reading.{IsPlaceLeft, IsStepLeft, IsEndingLeft, IsChainLeft, IsLabelLeft}
use Rattle.label_model.specs.LabelLaws.{ReadingLaw}
use Rattle.label_model.proofs.LabelBits.{step_spread, ending_spread}

-- of a place the chain number of its first step, or of its ending, comes first
chain_first : (g : Grammar) (m : ℕ) (bits : List Bool) (ss : List PlaceStep) (c : Option ℕ) (a e : ℕ) → IsPlace g m (record { steps = ss; chain = c; alternative = a; edge = e }) → (z : ℕ) → z < 8 →
    bits ≡ flat_map step_bits ss ++ (ending_bits c a e ++ replicate z false) → IsChainLeft g m bits
chain_first g m bits [] c a e h z few q = record {
  chain = c;
  to = h.from;
  of_it = subst (λ k. IsChain g k c h.from) (sym h.leads) h.chain;
  rest = false ∷ (gamma (a + 1) ++ (gamma (e + 1) ++ replicate z false));
  is = q ∙ ending_spread c a e (replicate z false);
  next = inr (record {
    production = h.production;
    of_it = h.of_it;
    edge = e;
    in_range = h.edge;
    padding = z;
    few = few;
    is = ap (λ n. false ∷ (gamma (n + 1) ++ (gamma (e + 1) ++ replicate z false))) (sym h.alternative);
  });
}
chain_first g m bits (s ∷ ss) c a e h z few q =
    let l = h.leads.1 in
    let t = h.leads.0 in
    let r = flat_map step_bits ss ++ (ending_bits c a e ++ replicate z false) in
    record {
      chain = s.chain;
      to = l.from;
      of_it = l.chain;
      rest = true ∷ (gamma (s.alternative + 1) ++ (gamma (s.position + 1) ++ r));
      is = q ∙ step_spread s (flat_map step_bits ss) (ending_bits c a e ++ replicate z false);
      next = inl (record {
        step = t;
        of_it = l.step;
        leaves = l.leaves;
        rest = r;
        is = ap (λ n. true ∷ (gamma (n + 1) ++ (gamma (s.position + 1) ++ r))) (sym l.alternative) ∙ ap (λ n. true ∷ (gamma (alternative_of g t.production + 1) ++ (gamma (n + 1) ++ r))) (sym l.position);
        next = record {
          place = record { steps = ss; chain = c; alternative = a; edge = e };
          of_it = record { entered = h.entered; leads = h.leads.2; from = h.from; chain = h.chain; production = h.production; of_it = h.of_it; alternative = h.alternative; edge = h.edge };
          padding = z;
          few = few;
          is = refl;
        };
      });
    }

-- a chain number and a step or an ending begin a place
place_first : (g : Grammar) (m : ℕ) (bits : List Bool) → IsChainLeft g m bits → IsPlaceLeft g m bits
place_first g m bits h = ⊎_elim by_step by_ending h.next
  where
    by_step : IsStepLeft g h.to h.rest → IsPlaceLeft g m bits
    by_step s =
        let n = s.next in
        let p = n.place in
        let a = alternative_of g s.step.production in
        let first : PlaceStep = record { chain = h.chain; alternative = a; position = s.step.position } in
        let l : Leaves g m first s.step = record { from = h.to; chain = h.of_it; step = s.of_it; alternative = refl; position = refl; leaves = s.leaves } in
        record {
          place = record { steps = first ∷ p.steps; chain = p.chain; alternative = p.alternative; edge = p.edge };
          of_it = record { entered = n.of_it.entered; leads = (s.step, l, n.of_it.leads); from = n.of_it.from; chain = n.of_it.chain; production = n.of_it.production; of_it = n.of_it.of_it; alternative = n.of_it.alternative; edge = n.of_it.edge };
          padding = n.padding;
          few = n.few;
          is = h.is ∙ (ap (λ z. chain_bits h.chain ++ z) s.is ∙ (ap (λ z. chain_bits h.chain ++ (true ∷ (gamma (a + 1) ++ (gamma (s.step.position + 1) ++ z)))) n.is ∙
              sym (step_spread first (flat_map step_bits p.steps) (ending_bits p.chain p.alternative p.edge ++ replicate n.padding false))));
        }

    by_ending : IsEndingLeft g h.to h.rest → IsPlaceLeft g m bits
    by_ending e = record {
      place = record { steps = []; chain = h.chain; alternative = alternative_of g e.production; edge = e.edge };
      of_it = record { entered = m; leads = refl; from = h.to; chain = h.of_it; production = e.production; of_it = e.of_it; alternative = refl; edge = e.in_range };
      padding = e.padding;
      few = e.few;
      is = h.is ∙ (ap (λ z. chain_bits h.chain ++ z) e.is ∙ sym (ending_spread h.chain (alternative_of g e.production) e.edge (replicate e.padding false)));
    }

-- the bits of a label tell its kind, and leave what this kind leaves
label_left : (g : Grammar) (bits : List Bool) (l : Label) (z : ℕ) → IsLabel g l → z < 8 → bits ≡ label_bits l ++ replicate z false → IsLabelLeft g bits
unfolding label_bits
label_left g bits (Input p) z h few q = subst (λ b. IsLabelLeft g b) (sym q) (record { port = p; in_range = h; padding = z; few = few; is = refl })
label_left g bits (Output p) z h few q = subst (λ b. IsLabelLeft g b) (sym q) (record { port = p; in_range = h; padding = z; few = few; is = refl })
label_left g bits (OfEdge p) z h few q =
    subst (λ b. IsLabelLeft g b) (sym q)
    (record { place = p; of_it = h; padding = z; few = few; is = append_assoc (flat_map step_bits p.steps) (ending_bits p.chain p.alternative p.edge) (replicate z false) })

-- and what is left so is a label
pub left_label : (g : Grammar) (bits : List Bool) → IsLabelLeft g bits → (l : Label) × (z : ℕ) × IsLabel g l × (z < 8) × (bits ≡ label_bits l ++ replicate z false)
unfolding label_bits
left_label g [] h = absurd h
left_label g (true ∷ bits) h = (OfEdge h.place, h.padding, h.of_it, h.few, ap (λ z. true ∷ z) (h.is ∙ sym (append_assoc (flat_map step_bits h.place.steps) (ending_bits h.place.chain h.place.alternative h.place.edge) (replicate h.padding false))))
left_label g (false ∷ []) h = absurd h
left_label g (false ∷ false ∷ bits) h = (Input h.port, h.padding, h.in_range, h.few, ap (λ z. false ∷ false ∷ z) h.is)
left_label g (false ∷ true ∷ bits) h = (Output h.port, h.padding, h.in_range, h.few, ap (λ z. false ∷ true ∷ z) h.is)

pub reading_law : ReadingLaw
reading_law = record {
  label = λ g bytes. (
    (λ h. label_left g (bits_of bytes) h.0 h.2.padding h.1 h.2.few h.2.is),
    (λ h. let r = left_label g (bits_of bytes) h in (r.0, r.2, record { padding = r.1; few = r.3; is = r.4 })),
  );
  place = λ g m bits. (
    (λ h. chain_first g m bits h.place.steps h.place.chain h.place.alternative h.place.edge h.of_it h.padding h.few h.is),
    (λ h. place_first g m bits h),
  );
}
