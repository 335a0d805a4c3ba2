-- Each label of a grammar, read over the package of a view: outside where it is hidden, and otherwise inside as what tells the same by place.
use Rattle.std.proofs.Common.{◌≡◌, ℕ, ◌+◌, ◌<◌, Bool, true, false, List, ◌∷◌, ◌++◌, replicate, flat_map, refl, sym, ap, ◌∙◌, subst, ⊎_elim}
use Rattle.wf_model.specs.Grammar.{Grammar}
use Rattle.wf_model.specs.WellFormed.{IsWellFormed}
use Rattle.wf_model.specs.Linear.{IsLinear}
use Rattle.wf_model.specs.View.{View, at_start}
use Rattle.wf_model.specs.Finishing.{ExpandsComposites}
use Rattle.wf_model.specs.Reach.{Step}
use Rattle.bit_pack.specs.Bits.{bits_of, Holds}
use Rattle.bit_pack.specs.Gamma.{gamma}
use Rattle.label_model.specs.Continuing.{continuing}
use Rattle.label_model.specs.Labels.{Place, Label, Input, Output, OfEdge, chain_bits, step_bits, label_bits, IsLabel}
use Rattle.label_model.specs.Places.{place_of, IsEnding}
use Rattle.label_model.proofs.LabelBits.{ending_spread, label_spread}
use Rattle.verdict_model.specs.Telling.{Tells}
use Rattle.verdict_model.specs.Verdicts.{IsHidden}
use Rattle.verdict_model.proofs.Clashing.{either_law}
use Rattle.verdict_model.proofs.Hiding.{AllExpanded, shown_expanded, expanded_shown, input_shown, output_shown}
use Rattle.verdict_model.proofs.LabelsTold.{telling_law, same_place}
use Rattle.version_model.specs.Standing.{renumbered}
use Rattle.package_model.specs.Shown.{AreSeen, place_in, shown_of}
use Rattle.package_model.specs.Packages.{loops_of, loop_of}
use Rattle.package_model.specs.Loops.{AreLoopsOf, AreGoodLoops}
use Rattle.package_model.specs.Translating.{Loops, IsReadAs, Translation, Inside, Outside, TranslatesTo}
use Rattle.package_model.specs.Laws.{packaged}
use Rattle.package_model.specs.TranslationLaws.{TellsByPlace, TranslationLaw}
use Rattle.package_model.proofs.LoopSteps.{good_steps}
use Rattle.package_model.proofs.PackageBack.{package_linear}
use Rattle.package_model.proofs.PackageFormed.{package_formed}
use Rattle.package_model.proofs.PackageLoops.{package_loops_law}
use Rattle.package_model.proofs.PackageParts.{ins_same, outs_same}
use Rattle.package_model.proofs.ReadOnce.{one_translation_law}
use Rattle.package_model.proofs.InsideLabels.{inside_label_law, read_route}
use Rattle.package_model.proofs.ReadInGrammar.{read_in_grammar}
use Rattle.package_model.proofs.ReadInPackage.{read_up}
use Rattle.package_model.proofs.OutOfPackage.{IsStopped, all_or_stopped}

module _ (g : Grammar) (u : View) (ms ps : List ℕ) (wf : IsWellFormed g) (linear : IsLinear g) (ec : ExpandsComposites g u) (s : AreSeen g u ms ps) where
  abbrev pack : Grammar
  pack = packaged g u ms ps

  abbrev loops : Loops
  loops = loop_of (shown_of g u ms ps)

  good : AreGoodLoops pack (loops_of (shown_of g u ms ps)) × AreLoopsOf pack (loops_of (shown_of g u ms ps)) loops
  good = package_loops_law g u ms ps wf linear ec s

  pub one_translation : (bytes : List ℕ) (t v : Translation) → TranslatesTo pack loops bytes t → TranslatesTo pack loops bytes v → t ≡ v
  one_translation bytes t v h j = one_translation_law pack (loops_of (shown_of g u ms ps)) loops good.0 good.1 (bits_of bytes) t v h j

  -- a label is inside, as one that tells the same by place
  abbrev pub IsInside : Label → List ℕ → Type 0
  IsInside l bytes = (k : Label) × TellsByPlace g u ms ps l k × IsLabel pack k × TranslatesTo pack loops bytes (Inside k)

  labelled_inside : (l k : Label) (bytes : List ℕ) → TellsByPlace g u ms ps l k → TranslatesTo pack loops bytes (Inside k) → IsInside l bytes
  labelled_inside l k bytes tells h =
      (k, tells, inside_label_law pack (loops_of (shown_of g u ms ps)) loops (package_formed g u ms ps ec s wf) (package_linear g u ms ps ec s linear) good.0 good.1 (bits_of bytes) k h, h)

  -- the label of a port of the root
  input_inside : (p : ℕ) (bytes : List ℕ) → IsLabel g (Input p) → Holds bytes (label_bits (Input p)) → IsInside (Input p) bytes
  input_inside p bytes l h = labelled_inside (Input p) (Input p) bytes refl
      (record { read = Input p; translated = (subst (λ z. p < z) (sym (ins_same g u ms ps ec s g.start (at_start refl))) l, refl); padding = h.padding; few = h.few; is = h.is })

  output_inside : (p : ℕ) (bytes : List ℕ) → IsLabel g (Output p) → Holds bytes (label_bits (Output p)) → IsInside (Output p) bytes
  output_inside p bytes l h = labelled_inside (Output p) (Output p) bytes refl
      (record { read = Output p; translated = (subst (λ z. p < z) (sym (outs_same g u ms ps ec s g.start (at_start refl))) l, refl); padding = h.padding; few = h.few; is = h.is })

  module _ (p : Place) (bytes : List ℕ) (label : IsLabel g (OfEdge p)) (h : Holds bytes (label_bits (OfEdge p))) (a : List Step) (q e : ℕ) (tells : Tells g (OfEdge p) a q e) where
    read : IsReadAs g (continuing g) g.start p a q
    read = read_in_grammar g wf p a q e label tells

    -- that of an edge whose way is all expanded
    edge_inside : AllExpanded g u g.start a → IsInside (OfEdge p) bytes
    edge_inside all =
        let r = read_up g u ms ps ec s wf p a q read all in
        let b = renumbered (place_in ps) a in
        let k = OfEdge (place_of pack pack.start b (place_in ps q) p.edge) in
        let same : p.edge ≡ e = ap (λ (z : Place). z.edge) (same_place p (place_of g g.start a q e) tells.is) in
        let ending : IsEnding pack pack.start b (place_in ps q) p.edge = record { route = read_route pack loops (good_steps pack (loops_of (shown_of g u ms ps)) loops good.0 good.1) p b (place_in ps q) r; of_it = r.of_it; edge = r.edge } in
        labelled_inside (OfEdge p) (OfEdge (place_of pack pack.start b (place_in ps q) p.edge)) bytes
        (a, q, e, tells, subst (λ z. Tells pack (OfEdge (place_of pack pack.start b (place_in ps q) p.edge)) b (place_in ps q) z) same (record { ending = ending; is = refl }))
        (record { read = OfEdge p; translated = (b, place_in ps q, r, refl); padding = h.padding; few = h.few; is = h.is })

    -- the bits behind the last chain number
    abbrev behind : List Bool
    behind = false ∷ (gamma (p.alternative + 1) ++ (gamma (p.edge + 1) ++ replicate h.padding false))

    bits_are : bits_of bytes ≡ true ∷ (flat_map step_bits p.steps ++ (chain_bits p.chain ++ behind))
    bits_are = h.is ∙ (label_spread p (replicate h.padding false) ∙ ap (λ z. true ∷ (flat_map step_bits p.steps ++ z)) (ending_spread p.chain p.alternative p.edge (replicate h.padding false)))

    -- that of one whose way is not
    edge_outside : IsStopped g u ms ps ec s wf g.start (flat_map step_bits p.steps ++ (chain_bits p.chain ++ behind)) → TranslatesTo pack loops bytes Outside
    edge_outside st = record {
      steps = st.steps;
      led = st.led;
      lead = st.lead;
      chain = st.chain;
      round = st.round;
      goes = st.goes;
      atomic = st.atomic;
      rest = st.rest;
      is = bits_are ∙ ap (λ z. true ∷ z) st.is;
    }

    edge_hidden : IsHidden g u (OfEdge p) → TranslatesTo pack loops bytes Outside
    edge_hidden hidden = ⊎_elim
        (λ all. absurd (expanded_shown g wf u (OfEdge p) a q e tells (subst (AllExpanded g u g.start) (sym read.is) all) hidden))
        edge_outside
        (all_or_stopped g u ms ps ec s wf p.steps g.start read.led read.round p.chain behind (at_start refl) read.lead read.chain)

    edge_shown : (IsHidden g u (OfEdge p) → ⊥) → IsInside (OfEdge p) bytes
    edge_shown shown = edge_inside (shown_expanded g wf u (OfEdge p) a q e tells shown)

  pub shown_inside : (l : Label) (bytes : List ℕ) → IsLabel g l → Holds bytes (label_bits l) → (IsHidden g u l → ⊥) → IsInside l bytes
  shown_inside (Input p) bytes l h n = input_inside p bytes l h
  shown_inside (Output p) bytes l h n = output_inside p bytes l h
  shown_inside (OfEdge p) bytes l h n = let t = (telling_law g wf).each p l in edge_shown p bytes l h t.0 t.1 t.2 t.3 n

  pub hidden_outside : (l : Label) (bytes : List ℕ) → IsLabel g l → Holds bytes (label_bits l) → IsHidden g u l → TranslatesTo pack loops bytes Outside
  hidden_outside (Input p) bytes l h n = absurd (input_shown g u p n)
  hidden_outside (Output p) bytes l h n = absurd (output_shown g u p n)
  hidden_outside (OfEdge p) bytes l h n = let t = (telling_law g wf).each p l in edge_hidden p bytes l h t.0 t.1 t.2 t.3 n

inside_outside : (k : Label) → Inside k ≡ Outside → ⊥
inside_outside k e = absurd (cc)

pub translation_law : TranslationLaw
translation_law g u ms ps wf linear ec s l bytes label h = record {
  outside = (
    (λ o. ⊎_elim
        (λ q. q)
        (λ n. let i = shown_inside g u ms ps wf linear ec s l bytes label h n in absurd (inside_outside i.0 (one_translation g u ms ps wf linear ec s bytes (Inside i.0) Outside i.3 o)))
        ((either_law g u wf l l label label).hidden)),
    hidden_outside g u ms ps wf linear ec s l bytes label h,
  );
  inside = shown_inside g u ms ps wf linear ec s l bytes label h;
}
