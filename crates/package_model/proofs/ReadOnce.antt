-- Bits have one translation over a package at most.
use Rattle.std.proofs.Common.{◌≡◌, ℕ, ◌+◌, Bool, false, List, [], ◌∷◌, ◌++◌, replicate, flat_map, Option, Some, None, refl, sym, ap, ◌∙◌, subst, ⊎_elim, arith, append_assoc, append-nil}
use Rattle.wf_model.specs.Grammar.{Grammar, IsAtomic, IsComposite}
use Rattle.wf_model.specs.Reach.{Step, module_along}
use Rattle.wf_model.proofs.Going.{same_step}
use Rattle.bit_pack.specs.Gamma.{gamma}
use Rattle.bit_pack.proofs.Codes.{prefix_free_law as gamma_law}
use Rattle.label_model.specs.Labels.{PlaceStep, Label, Input, Output, OfEdge, chain_bits, step_bits, ending_bits, prefix_bits, label_bits}
use Rattle.label_model.specs.Places.{place_of}
use Rattle.label_model.proofs.Alternatives.{same_alternative}
use Rattle.label_model.proofs.Finding.{cases_option}
use Rattle.label_model.proofs.LabelBits.{step_spread, ending_spread, label_spread}
use Rattle.decode_model.proofs.Rounds.{module_along-append}
use Rattle.package_model.specs.Translating.{Loops, AreLoopSteps, StandsFor, LeavesBy, LeadBy, IsTranslatedTo, ReadsInside, GoesAlong, ReadsOutside, Translation, Inside, Outside, Malformed, IsTranslation}
use Rattle.package_model.specs.TranslationLaws.{OneTranslationLaw}
use Rattle.package_model.proofs.LoopSteps.{AreSteps, good_steps, loops_begin, loops_split, loops_once, atomic_none}

module _ (g : Grammar) (loop : Loops) (are : AreSteps g loop) where
  -- chain numbers at one module, and what they stand for
  pub chain_once : (m : ℕ) (c d : Option ℕ) (a b : List Step) (x y : List Bool) → StandsFor g loop m c a → StandsFor g loop m d b → chain_bits c ++ x ≡ chain_bits d ++ y → (c ≡ d) × (a ≡ b) × (x ≡ y)
  chain_once m None None a b x y h k e = (refl, h.1 ∙ sym k.1, e)
  chain_once m None (Some d) a b x y h k e = absurd (k.0 h.0)
  chain_once m (Some c) None a b x y h k e = absurd (h.0 k.0)
  chain_once m (Some c) (Some d) a b x y h k e =
      let r = gamma_law (c + 1) (d + 1) x y (omega arith) (omega arith) e in
      let s : c ≡ d = omega (arith, r.0) in
      (ap Some s, loops_once g loop m a b h.2 k.2 (omega (arith, h.3, k.3, s)), r.1)

  -- where the module to which a chain number leads is composite, no part of what it stands for leads to an atomic one
  pub goes_not : (m : ℕ) (c d : Option ℕ) (a b : List Step) (x y : List Bool) → StandsFor g loop m c a → GoesAlong g loop m d b → chain_bits c ++ x ≡ chain_bits d ++ y →
      IsComposite g (module_along g m a) → IsAtomic g (module_along g m b) → ⊥
  goes_not m None None a b x y h k e comp atomic =
      atomic comp.0 comp.1.0 (comp.1.1 ∙ (ap (module_along g m) h.1 ∙ ap (module_along g m) (sym k)))
  goes_not m (Some c) None a b x y h k e comp atomic =
      let here : IsAtomic g m = subst (λ z. IsAtomic g (module_along g m z)) k atomic in
      ⊎_elim (λ n. h.0 n) (λ s. let st = are m s.0 s.1 in here s.0.production st.in_range st.head) (cases_option (loop m))
  goes_not m None (Some d) a b x y h k e comp atomic = k.0 h.0
  goes_not m (Some c) (Some d) a b x y h k e comp atomic =
      let r = gamma_law (c + 1) (d + 1) x y (omega arith) (omega arith) e in
      let q = loops_begin g loop m b a k.2 h.2 (omega (arith, h.3, k.3, r.0)) in
      let more = (loops_split g loop m b q.0 (subst (AreLoopSteps g loop m) q.1 h.2)).1 in
      let none = atomic_none g loop are (module_along g m b) q.0 atomic more in
      let same : a ≡ b = q.1 ∙ (ap (λ l. b ++ l) none ∙ append-nil b) in
      atomic comp.0 comp.1.0 (comp.1.1 ∙ ap (module_along g m) same)

  -- two steps of places from one module
  leaves_once : (m : ℕ) (p q : PlaceStep) (a b : List Step) (f h x y : List Bool) → LeavesBy g loop m p a → LeavesBy g loop m q b → (step_bits p ++ f) ++ x ≡ (step_bits q ++ h) ++ y → (p ≡ q) × (a ≡ b) × (f ++ x ≡ h ++ y)
  leaves_once m p q a b f h x y l k e =
      let r = chain_once m p.chain q.chain l.round k.round _ _ l.chain k.chain (sym (step_spread p f x) ∙ (e ∙ step_spread q h y)) in
      let r1 : gamma (p.alternative + 1) ++ (gamma (p.position + 1) ++ (f ++ x)) ≡ gamma (q.alternative + 1) ++ (gamma (q.position + 1) ++ (h ++ y)) = let w = r.2 in cc in
      let r2 = gamma_law (p.alternative + 1) (q.alternative + 1) _ _ (omega arith) (omega arith) r1 in
      let r3 = gamma_law (p.position + 1) (q.position + 1) _ _ (omega arith) (omega arith) r2.1 in
      let ea : p.alternative ≡ q.alternative = omega (arith, r2.0) in
      let ep : p.position ≡ q.position = omega (arith, r3.0) in
      let at : module_along g m l.round ≡ module_along g m k.round = ap (module_along g m) r.1 in
      let prod = same_alternative g l.step.production k.step.production l.of_it.in_range k.of_it.in_range (l.of_it.head ∙ (at ∙ sym k.of_it.head)) (l.alternative ∙ (ea ∙ sym k.alternative)) in
      let st : l.step ≡ k.step = same_step l.step k.step prod (l.position ∙ (ep ∙ sym k.position)) in (
        (λ n. record { chain = r.0 n; alternative = ea n; position = ep n }),
        l.is ∙ (ap (λ z. z ++ l.step ∷ []) r.1 ∙ (ap (λ z. k.round ++ z ∷ []) st ∙ sym k.is)),
        r3.1,
      )

  -- a step of a place and its ending do not begin alike
  leaves_not_ending : {A : Type 0} (m : ℕ) (p : PlaceStep) (c : Option ℕ) (a r : List Step) (al e : ℕ) (f x y : List Bool) → LeavesBy g loop m p a → StandsFor g loop m c r → (step_bits p ++ f) ++ x ≡ ending_bits c al e ++ y → A
  leaves_not_ending m p c a r al e f x y l h q =
      let w = (chain_once m p.chain c l.round r _ _ l.chain h (sym (step_spread p f x) ∙ (q ∙ ending_spread c al e y))).2 in
      absurd (cc)

  -- what two readings of a place have in common
  record IsSame (ps qs : List PlaceStep) (a b : List Step) (c d : Option ℕ) (r t : List Step) (al be e f : ℕ) : Type 0 where
    steps : ps ≡ qs
    led : a ≡ b
    chain : c ≡ d
    round : r ≡ t
    alternative : al ≡ be
    edge : e ≡ f

  place_once : (ps qs : List PlaceStep) (m : ℕ) (a b : List Step) (c d : Option ℕ) (r t : List Step) (al be e f : ℕ) (x y : List Bool) →
      LeadBy g loop m ps a → LeadBy g loop m qs b → StandsFor g loop (module_along g m a) c r → StandsFor g loop (module_along g m b) d t →
      flat_map step_bits ps ++ (ending_bits c al e ++ x) ≡ flat_map step_bits qs ++ (ending_bits d be f ++ y) → IsSame ps qs a b c d r t al be e f
  place_once [] [] m a b c d r t al be e f x y ha hb hc hd q =
      let hc2 : StandsFor g loop m c r = subst (λ z. StandsFor g loop (module_along g m z) c r) ha hc in
      let hd2 : StandsFor g loop m d t = subst (λ z. StandsFor g loop (module_along g m z) d t) hb hd in
      let k = chain_once m c d r t _ _ hc2 hd2 (sym (ending_spread c al e x) ∙ (q ∙ ending_spread d be f y)) in
      let r1 : gamma (al + 1) ++ (gamma (e + 1) ++ x) ≡ gamma (be + 1) ++ (gamma (f + 1) ++ y) = let w = k.2 in cc in
      let r2 = gamma_law (al + 1) (be + 1) _ _ (omega arith) (omega arith) r1 in
      let r3 = gamma_law (e + 1) (f + 1) _ _ (omega arith) (omega arith) r2.1 in
      record { steps = refl; led = ha ∙ sym hb; chain = k.0; round = k.1; alternative = omega (arith, r2.0); edge = omega (arith, r3.0) }
  place_once [] (q ∷ qs) m a b c d r t al be e f x y ha hb hc hd eq =
      let hc2 : StandsFor g loop m c r = subst (λ z. StandsFor g loop (module_along g m z) c r) ha hc in
      leaves_not_ending m q c hb.0 r al e (flat_map step_bits qs) (ending_bits d be f ++ y) x hb.2 hc2 (sym eq)
  place_once (p ∷ ps) [] m a b c d r t al be e f x y ha hb hc hd eq =
      let hd2 : StandsFor g loop m d t = subst (λ z. StandsFor g loop (module_along g m z) d t) hb hd in
      leaves_not_ending m p d ha.0 t be f (flat_map step_bits ps) (ending_bits c al e ++ x) y ha.2 hd2 eq
  place_once (p ∷ ps) (q ∷ qs) m a b c d r t al be e f x y ha hb hc hd eq =
      let k = leaves_once m p q ha.0 hb.0 (flat_map step_bits ps) (flat_map step_bits qs) (ending_bits c al e ++ x) (ending_bits d be f ++ y) ha.2 hb.2 eq in
      let lead : LeadBy g loop (module_along g m ha.0) qs hb.1 = subst (λ z. LeadBy g loop (module_along g m z) qs hb.1) (sym k.1) hb.3 in
      let hc2 : StandsFor g loop (module_along g (module_along g m ha.0) ha.1) c r = subst (λ z. StandsFor g loop z c r) (ap (module_along g m) ha.4 ∙ module_along-append g m ha.0 ha.1) hc in
      let hd2 : StandsFor g loop (module_along g (module_along g m ha.0) hb.1) d t =
      subst (λ z. StandsFor g loop (module_along g (module_along g m z) hb.1) d t) (sym k.1) (subst (λ z. StandsFor g loop z d t) (ap (module_along g m) hb.4 ∙ module_along-append g m hb.0 hb.1) hd) in
      let rec = place_once ps qs (module_along g m ha.0) ha.1 hb.1 c d r t al be e f x y ha.3 lead hc2 hd2 k.2 in
      record {
        steps = ap (λ z. z ∷ ps) k.0 ∙ ap (λ z. q ∷ z) rec.steps;
        led = ha.4 ∙ (ap (λ z. z ++ ha.1) k.1 ∙ (ap (λ z. hb.0 ++ z) rec.led ∙ sym hb.4));
        chain = rec.chain;
        round = rec.round;
        alternative = rec.alternative;
        edge = rec.edge;
      }

  -- a step leaves a composite module
  leaves_composite : (m : ℕ) (p : PlaceStep) (a : List Step) → (l : LeavesBy g loop m p a) → IsComposite g (module_along g m l.round)
  leaves_composite m p a l = (l.step.production, (l.of_it.in_range, l.of_it.head))

  -- a reading to the end of a place does not come to an atomic module
  place_not_out : (ps qs : List PlaceStep) (m : ℕ) (a b : List Step) (c d : Option ℕ) (r t : List Step) (al e : ℕ) (x rest : List Bool) →
      LeadBy g loop m ps a → LeadBy g loop m qs b → StandsFor g loop (module_along g m a) c r → GoesAlong g loop (module_along g m b) d t →
      IsComposite g (module_along g m (a ++ r)) → IsAtomic g (module_along g m (b ++ t)) →
      flat_map step_bits ps ++ (ending_bits c al e ++ x) ≡ flat_map step_bits qs ++ (chain_bits d ++ rest) → ⊥
  place_not_out [] [] m a b c d r t al e x rest ha hb hc hd comp atomic eq =
      goes_not m c d r t _ rest (subst (λ z. StandsFor g loop (module_along g m z) c r) ha hc) (subst (λ z. GoesAlong g loop (module_along g m z) d t) hb hd)
      (sym (ending_spread c al e x) ∙ eq) (subst (λ z. IsComposite g (module_along g m (z ++ r))) ha comp) (subst (λ z. IsAtomic g (module_along g m (z ++ t))) hb atomic)
  place_not_out [] (q ∷ qs) m a b c d r t al e x rest ha hb hc hd comp atomic eq =
      leaves_not_ending m q c hb.0 r al e (flat_map step_bits qs) (chain_bits d ++ rest) x hb.2 (subst (λ z. StandsFor g loop (module_along g m z) c r) ha hc) (sym eq)
  place_not_out (p ∷ ps) [] m a b c d r t al e x rest ha hb hc hd comp atomic eq =
      goes_not m p.chain d ha.2.round t _ rest ha.2.chain (subst (λ z. GoesAlong g loop (module_along g m z) d t) hb hd)
      (sym (step_spread p (flat_map step_bits ps) (ending_bits c al e ++ x)) ∙ eq) (leaves_composite m p ha.0 ha.2) (subst (λ z. IsAtomic g (module_along g m (z ++ t))) hb atomic)
  place_not_out (p ∷ ps) (q ∷ qs) m a b c d r t al e x rest ha hb hc hd comp atomic eq =
      let k = leaves_once m p q ha.0 hb.0 (flat_map step_bits ps) (flat_map step_bits qs) (ending_bits c al e ++ x) (chain_bits d ++ rest) ha.2 hb.2 eq in
      let n = module_along g m ha.0 in
      let from_a : (z : List Step) → module_along g m (a ++ z) ≡ module_along g (module_along g m ha.0) (ha.1 ++ z) =
      λ z. ap (λ w. module_along g m (w ++ z)) ha.4 ∙ (ap (module_along g m) (append_assoc ha.0 ha.1 z) ∙ module_along-append g m ha.0 (ha.1 ++ z)) in
      let from_b : (z : List Step) → module_along g m (b ++ z) ≡ module_along g (module_along g m ha.0) (hb.1 ++ z) =
      λ z. ap (λ w. module_along g m (w ++ z)) hb.4 ∙ (ap (module_along g m) (append_assoc hb.0 hb.1 z) ∙ (module_along-append g m hb.0 (hb.1 ++ z) ∙ ap (λ w. module_along g (module_along g m w) (hb.1 ++ z)) (sym k.1))) in
      place_not_out ps qs (module_along g m ha.0) ha.1 hb.1 c d r t al e x rest ha.3 (subst (λ z. LeadBy g loop (module_along g m z) qs hb.1) (sym k.1) hb.3)
      (subst (λ z. StandsFor g loop z c r) (ap (module_along g m) ha.4 ∙ module_along-append g m ha.0 ha.1) hc)
      (subst (λ z. GoesAlong g loop z d t) (ap (module_along g m) hb.4 ∙ (module_along-append g m hb.0 hb.1 ∙ ap (λ w. module_along g (module_along g m w) hb.1) (sym k.1))) hd)
      (subst (IsComposite g) (from_a r) comp) (subst (IsAtomic g) (from_b t) atomic) k.2

  -- two labels that are read from the same bits are the same, and so are the labels to which they are translated
  labels_once : (k l : Label) (x y : List Bool) (v w : Label) → IsTranslatedTo g loop k v → IsTranslatedTo g loop l w → label_bits k ++ x ≡ label_bits l ++ y → v ≡ w
  unfolding label_bits
  labels_once (Input p) (Input q) x y v w h j e =
      let t : gamma (p + 1) ++ x ≡ gamma (q + 1) ++ y = cc in
      let r = gamma_law (p + 1) (q + 1) x y (omega arith) (omega arith) t in
      let s : p ≡ q = omega (arith, r.0) in
      h.1 ∙ (ap Input s ∙ sym j.1)
  labels_once (Input p) (Output q) x y v w h j e = absurd (cc)
  labels_once (Input p) (OfEdge q) x y v w h j e = let t = e ∙ label_spread q y in absurd (cc)
  labels_once (Output p) (Input q) x y v w h j e = absurd (cc)
  labels_once (Output p) (Output q) x y v w h j e =
      let t : gamma (p + 1) ++ x ≡ gamma (q + 1) ++ y = cc in
      let r = gamma_law (p + 1) (q + 1) x y (omega arith) (omega arith) t in
      let s : p ≡ q = omega (arith, r.0) in
      h.1 ∙ (ap Output s ∙ sym j.1)
  labels_once (Output p) (OfEdge q) x y v w h j e = let t = e ∙ label_spread q y in absurd (cc)
  labels_once (OfEdge p) (Input q) x y v w h j e = let t = sym (label_spread p x) ∙ e in absurd (cc)
  labels_once (OfEdge p) (Output q) x y v w h j e = let t = sym (label_spread p x) ∙ e in absurd (cc)
  labels_once (OfEdge p) (OfEdge q) x y v w h j e =
      let t = sym (label_spread p x) ∙ (e ∙ label_spread q y) in
      let bits : flat_map step_bits p.steps ++ (ending_bits p.chain p.alternative p.edge ++ x) ≡ flat_map step_bits q.steps ++ (ending_bits q.chain q.alternative q.edge ++ y) = cc in
      let rh = h.2 in
      let rj = j.2 in
      let r = place_once p.steps q.steps g.start rh.led rj.led p.chain q.chain rh.round rj.round p.alternative q.alternative p.edge q.edge x y rh.lead rj.lead rh.chain rj.chain bits in
      let a : h.0 ≡ j.0 = rh.is ∙ (ap (λ z. z ++ rh.round) r.led ∙ (ap (λ z. rj.led ++ z) r.round ∙ sym rj.is)) in
      let prod : h.1 ≡ j.1 = same_alternative g h.1 j.1 rh.of_it.0 rj.of_it.0 (rh.of_it.1 ∙ (ap (module_along g g.start) a ∙ sym rj.of_it.1)) (rh.alternative ∙ (r.alternative ∙ sym rj.alternative)) in
      h.3 ∙ ((λ i. OfEdge (place_of g g.start (a i) (prod i) (r.edge i))) ∙ sym j.3)

  -- bits are not both read to their end and to an atomic module
  inside_not_out : (bits : List Bool) (l : Label) → ReadsInside g loop bits l → ReadsOutside g loop bits → ⊥
  unfolding label_bits
  inside_not_out bits l h o = go h.read h.translated (sym h.is ∙ o.is)
    where
      go : (k : Label) → IsTranslatedTo g loop k l → label_bits k ++ replicate h.padding false ≡ prefix_bits o.steps ++ (chain_bits o.chain ++ o.rest) → ⊥
      go (Input p) t e = absurd (cc)
      go (Output p) t e = absurd (cc)
      go (OfEdge p) t e =
          let w = sym (label_spread p (replicate h.padding false)) ∙ e in
          let bits : flat_map step_bits p.steps ++ (ending_bits p.chain p.alternative p.edge ++ replicate h.padding false) ≡ flat_map step_bits o.steps ++ (chain_bits o.chain ++ o.rest) = cc in
          let r = t.2 in
          place_not_out p.steps o.steps g.start r.led o.led p.chain o.chain r.round o.round p.alternative p.edge (replicate h.padding false) o.rest r.lead o.lead r.chain o.goes
          (t.1, (r.of_it.0, r.of_it.1 ∙ ap (module_along g g.start) r.is)) o.atomic bits

  translated_once : (bits : List Bool) (t v : Translation) → IsTranslation g loop bits t → IsTranslation g loop bits v → t ≡ v
  translated_once bits (Inside k) (Inside l) h j = ap Inside (labels_once h.read j.read _ _ k l h.translated j.translated (sym h.is ∙ j.is))
  translated_once bits (Inside k) Outside h j = absurd (inside_not_out bits k h j)
  translated_once bits (Inside k) Malformed h j = absurd (j.0 k h)
  translated_once bits Outside (Inside l) h j = absurd (inside_not_out bits l j h)
  translated_once bits Outside Outside h j = refl
  translated_once bits Outside Malformed h j = absurd (j.1 h)
  translated_once bits Malformed (Inside l) h j = absurd (h.0 l j)
  translated_once bits Malformed Outside h j = absurd (h.1 j)
  translated_once bits Malformed Malformed h j = refl

pub one_translation_law : OneTranslationLaw
one_translation_law g entries loop good are bits t v h j = translated_once g loop (good_steps g entries loop good are) bits t v h j
