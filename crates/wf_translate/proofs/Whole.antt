-- Whole labels over a package.
use Rattle.std.proofs.Common.{◌≡◌, ℕ, Bool, true, false, cond, List, [], ◌∷◌, ◌⊎◌, ◌++◌, replicate, refl, sym, ap, ◌∙◌, subst, inl, inr, ⊎_elim, arith}
use Rattle.std.proofs.lemmas.List.{length-map}
use Rattle.wf_model.specs.Grammar.{Grammar, inputs_of, outputs_of}
use Rattle.label_model.specs.Labels.{Place, Label, Input, Output, OfEdge, label_bits, IsLabel}
use Rattle.label_model.specs.Places.{place_of}
use Rattle.label_model.proofs.GrammarLimits.{few_components}
use Rattle.label_model.proofs.LabelBits.{label_spread}
use Rattle.label_model.proofs.Visits.{one_visit_law}
use Rattle.package_model.specs.Translating.{Loops, Malformed, IsTranslatedTo, ReadsInside, ReadsOutside, IsTranslation}
use Rattle.package_model.proofs.InsideLabels.{inside_label_law}
use Rattle.wf_label.specs.declared.label.Label.{Label as LabelHeld}
use Rattle.wf_label.specs.declared.label.Label.TheVariants.{Input as InputHeld, Output as OutputHeld, OfEdge as OfEdgeHeld}
use Rattle.wf_label.specs.Values.{place_step_of, label_of, HasSteps}
use Rattle.wf_spec.specs.Held.{HeldGrammar}
use Rattle.wf_loops.specs.Looped.{LoopedValue, IsLooped, loop_in}
use Rattle.wf_translate.specs.Readable.{ReadsOut, IsReadable}
use Rattle.wf_translate.specs.Parts.{IsLastNumber, HasNoLastNumber}
use Rattle.wf_translate.specs.Translated.{IsPlaceRead}

module _ (g : Grammar) (loop : Loops) where
  -- an edge
  pub edge_inside : (bits : List Bool) (p : Place) → IsPlaceRead g loop g.start bits p → ReadsInside g loop (true ∷ bits) (OfEdge p)
  edge_inside bits p h =
      let r = h.reads in
      record {
        read = OfEdge r.place;
        translated = (h.way, h.production, r.read, ap OfEdge (h.is ∙ ap (place_of g g.start h.way h.production) (sym r.edge_is)));
        padding = r.padding;
        few = r.few;
        is = ap (λ z. true ∷ z) r.is ∙ sym (label_spread r.place (replicate r.padding false));
      }

  pub edge_outside : (bits : List Bool) → ReadsOut g loop g.start bits → ReadsOutside g loop (true ∷ bits)
  edge_outside bits h = record {
    steps = h.steps;
    led = h.led;
    lead = h.lead;
    chain = h.chain;
    round = h.round;
    goes = h.goes;
    atomic = h.atomic;
    rest = h.rest;
    is = ap (λ z. true ∷ z) h.is;
  }

  -- bits that begin with a one are inside only where they tell something
  readable_inside : (bits : List Bool) (l : Label) → ReadsInside g loop (true ∷ bits) l → IsReadable g loop g.start bits
  unfolding label_bits
  readable_inside bits l h = go h.read h.translated h.is
    where
      go : (k : Label) → IsTranslatedTo g loop k l → true ∷ bits ≡ label_bits k ++ replicate h.padding false → IsReadable g loop g.start bits
      go (Input p) t e = absurd (cc)
      go (Output p) t e = absurd (cc)
      go (OfEdge p) t e =
          let w = e ∙ label_spread p (replicate h.padding false) in
          inl (t.0, t.1, p.edge, record { place = p; read = t.2; edge_is = refl; padding = h.padding; few = h.few; is = cc })

  readable_outside : (bits : List Bool) → ReadsOutside g loop (true ∷ bits) → IsReadable g loop g.start bits
  readable_outside bits h = let e = h.is in inr (record {
    steps = h.steps;
    led = h.led;
    lead = h.lead;
    chain = h.chain;
    round = h.round;
    goes = h.goes;
    atomic = h.atomic;
    rest = h.rest;
    is = cc;
  })

  pub edge_malformed : (bits : List Bool) → (IsReadable g loop g.start bits → ⊥) → IsTranslation g loop (true ∷ bits) Malformed
  edge_malformed bits none = ((λ l h. none (readable_inside bits l h)), (λ h. none (readable_outside bits h)))

  -- a port of the root
  pub input_inside : (bits : List Bool) (p : ℕ) → IsLastNumber (inputs_of g g.start) bits p → ReadsInside g loop (false ∷ (false ∷ bits)) (Input p)
  unfolding label_bits
  input_inside bits p h = record { read = Input p; translated = (h.in_range, refl); padding = h.padding; few = h.few; is = ap (λ z. false ∷ (false ∷ z)) h.is }

  pub output_inside : (bits : List Bool) (p : ℕ) → IsLastNumber (outputs_of g g.start) bits p → ReadsInside g loop (false ∷ (true ∷ bits)) (Output p)
  unfolding label_bits
  output_inside bits p h = record { read = Output p; translated = (h.in_range, refl); padding = h.padding; few = h.few; is = ap (λ z. false ∷ (true ∷ z)) h.is }

  -- bits that begin with a zero are not outside
  port_not_outside : (bits : List Bool) → ReadsOutside g loop (false ∷ bits) → ⊥
  port_not_outside bits h = let e = h.is in absurd (cc)

  port_inside : (b : Bool) (bits : List Bool) (l : Label) → ReadsInside g loop (false ∷ (b ∷ bits)) l → ((p : ℕ) × (b ≡ false) × IsLastNumber (inputs_of g g.start) bits p) ⊎ ((p : ℕ) × (b ≡ true) × IsLastNumber (outputs_of g g.start) bits p)
  unfolding label_bits
  port_inside b bits l h = go h.read h.translated h.is
    where
      go : (k : Label) → IsTranslatedTo g loop k l → false ∷ (b ∷ bits) ≡ label_bits k ++ replicate h.padding false → ((p : ℕ) × (b ≡ false) × IsLastNumber (inputs_of g g.start) bits p) ⊎ ((p : ℕ) × (b ≡ true) × IsLastNumber (outputs_of g g.start) bits p)
      go (Input p) t e = inl (p, cc, record { in_range = t.0; padding = h.padding; few = h.few; is = cc })
      go (Output p) t e = inr (p, cc, record { in_range = t.0; padding = h.padding; few = h.few; is = cc })
      go (OfEdge p) t e = let w = e ∙ label_spread p (replicate h.padding false) in absurd (cc)

  pub input_malformed : (bits : List Bool) → HasNoLastNumber (inputs_of g g.start) bits → IsTranslation g loop (false ∷ (false ∷ bits)) Malformed
  input_malformed bits none = (
    (λ l h. ⊎_elim (λ x. none x.0 x.2) (λ x. let e = x.1 in absurd (cc)) (port_inside false bits l h)),
    port_not_outside (false ∷ bits),
  )

  pub output_malformed : (bits : List Bool) → HasNoLastNumber (outputs_of g g.start) bits → IsTranslation g loop (false ∷ (true ∷ bits)) Malformed
  output_malformed bits none = (
    (λ l h. ⊎_elim (λ x. let e = x.1 in absurd (cc)) (λ x. none x.0 x.2) (port_inside true bits l h)),
    port_not_outside (true ∷ bits),
  )

  -- bits that end before that are malformed
  pub zero_malformed : IsTranslation g loop (false ∷ []) Malformed
  unfolding label_bits
  zero_malformed = ((λ l h. go l h h.read h.is), port_not_outside [])
    where
      go : (l : Label) (h : ReadsInside g loop (false ∷ []) l) (k : Label) → false ∷ [] ≡ label_bits k ++ replicate h.padding false → ⊥
      go l h (Input p) e = absurd (cc)
      go l h (Output p) e = absurd (cc)
      go l h (OfEdge p) e = let w = e ∙ label_spread p (replicate h.padding false) in absurd (cc)

  pub nothing_malformed : IsTranslation g loop [] Malformed
  unfolding label_bits
  nothing_malformed = ((λ l h. go l h h.read h.is), (λ h. let e = h.is in absurd (cc)))
    where
      go : (l : Label) (h : ReadsInside g loop [] l) (k : Label) → [] ≡ label_bits k ++ replicate h.padding false → ⊥
      go l h (Input p) e = absurd (cc)
      go l h (Output p) e = absurd (cc)
      go l h (OfEdge p) e = let w = e ∙ label_spread p (replicate h.padding false) in absurd (cc)

  -- so in bits that begin with these two
  pub ports_are : (h : HeldGrammar) → h.core ≡ g → (b : Bool) (n : ℕ) → n ≡ cond b (outputs_of h.core h.core.start) (inputs_of h.core h.core.start) → n ≡ cond b (outputs_of g g.start) (inputs_of g g.start)
  ports_are h same b n is = is ∙ ap (λ (z : Grammar). cond b (outputs_of z z.start) (inputs_of z z.start)) same

  pub output_read : (n p : ℕ) (b : Bool) (old y : List Bool) → n ≡ outputs_of g g.start → old ≡ b ∷ y → b ≡ true → IsLastNumber n y p → ReadsInside g loop (false ∷ old) (Output p)
  output_read n p b old y count bit one h =
      subst (λ z. ReadsInside g loop (false ∷ z) (Output p)) (sym (bit ∙ ap (λ x. x ∷ y) one)) (output_inside y p (subst (λ z. IsLastNumber z y p) count h))

  pub input_read : (n p : ℕ) (b : Bool) (old y : List Bool) → n ≡ inputs_of g g.start → old ≡ b ∷ y → b ≡ false → IsLastNumber n y p → ReadsInside g loop (false ∷ old) (Input p)
  input_read n p b old y count bit zero h =
      subst (λ z. ReadsInside g loop (false ∷ z) (Input p)) (sym (bit ∙ ap (λ x. x ∷ y) zero)) (input_inside y p (subst (λ z. IsLastNumber z y p) count h))

  output_none : (n : ℕ) (b : Bool) (old y : List Bool) → n ≡ outputs_of g g.start → old ≡ b ∷ y → b ≡ true → HasNoLastNumber n y → IsTranslation g loop (false ∷ old) Malformed
  output_none n b old y count bit one h =
      subst (λ z. IsTranslation g loop (false ∷ z) Malformed) (sym (bit ∙ ap (λ x. x ∷ y) one)) (output_malformed y (subst (λ z. HasNoLastNumber z y) count h))

  input_none : (n : ℕ) (b : Bool) (old y : List Bool) → n ≡ inputs_of g g.start → old ≡ b ∷ y → b ≡ false → HasNoLastNumber n y → IsTranslation g loop (false ∷ old) Malformed
  input_none n b old y count bit zero h =
      subst (λ z. IsTranslation g loop (false ∷ z) Malformed) (sym (bit ∙ ap (λ x. x ∷ y) zero)) (input_malformed y (subst (λ z. HasNoLastNumber z y) count h))

  -- no number of a port is left, on the side that the bit tells
  pub port_none : (n : ℕ) (b : Bool) (old y : List Bool) → n ≡ cond b (outputs_of g g.start) (inputs_of g g.start) → old ≡ b ∷ y → HasNoLastNumber n y → IsTranslation g loop (false ∷ old) Malformed
  port_none n true old y count bit h = output_none n true old y count bit refl h
  port_none n false old y count bit h = input_none n false old y count bit refl h

module _ (l : LoopedValue) (f : IsLooped l) where
  abbrev gr : Grammar
  gr = l.accepted.grammar.core

  -- what is inside is a label of the package's grammar
  pub inside_is_label : (bits : List Bool) (k : Label) → ReadsInside gr (loop_in l.steps) bits k → IsLabel gr k
  inside_is_label bits k h = inside_label_law gr f.entries (loop_in l.steps) f.accepted.formed f.accepted.linear f.good f.loops bits k h

  -- and has few steps
  pub label_steps : (k : LabelHeld) → IsLabel gr (label_of k) → HasSteps 1024 k
  label_steps (InputHeld p) h = tt
  label_steps (OutputHeld p) h = tt
  label_steps (OfEdgeHeld p) h =
      let v = one_visit_law gr f.accepted.formed f.accepted.linear gr.start _ f.accepted.formed.start h in
      omega (arith, v.0, few_components gr f.accepted.formed, length-map p.steps place_step_of)
