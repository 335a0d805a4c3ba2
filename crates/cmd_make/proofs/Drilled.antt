-- From what the parts of `drill` make to its summary.
use Rattle.std.proofs.Common.{◌≡◌, ℕ, ◌<◌, Bool, List, [], length, map, Option, sym, ap, ◌∙◌, subst}
use Rattle.std.proofs.lemmas.List.{length-map}
use Rattle.std.proofs.lemmas.Simd.{map-map}
use Rattle.wf_model.specs.Grammar.{Grammar}
use Rattle.wf_model.specs.Items.{Item}
use Rattle.wf_model.specs.View.{View}
use Rattle.wf_model.specs.WellFormed.{IsWellFormed}
use Rattle.wf_model.specs.Run.{made, IsAccepted}
use Rattle.wf_model.proofs.Lists.{in_map_from}
use Rattle.label_model.specs.Labels.{Label, IsLabel, label_bits}
use Rattle.label_model.specs.RunLabels.{labelled}
use Rattle.verdict_model.specs.declared.verdict.Verdict.{Verdict}
use Rattle.wf_gen.specs.Coming.{Coming, all_of}
use Rattle.wf_gen.specs.Turns.{Generated, generated}
use Rattle.wf_labeller.specs.Groups.{bits_of_items}
use Rattle.wf_message.specs.Endings.{End}
use Rattle.wf_stage.specs.Ends.{IsWritten}
use Rattle.wf_stage.specs.Promises.{Writes}
use Rattle.wf_stage.proofs.Writing.{writes_alike}
use Rattle.wf_inputs.specs.Inputs.{instance_most}
use Rattle.cmd_make.specs.declared.labelling.Drawn.{Drawn as DrawnHeld}
use Rattle.cmd_make.specs.DrillText.{labels_of_run, label_no, pair_count, pairs_drawn, pairs_of, AreVerdicts, summary, IsSummary, IsDrilled}
use Rattle.cmd_make.specs.HeldLabels.{AreHeldPairs, IsDrawnOf, firsts_of, seconds_of}
use Rattle.cmd_make.proofs.LabelsHeld.{firsts_held, seconds_held, longest_is}
use Rattle.cmd_make.proofs.OneDrill.{one_summary}
use Rattle.cmd_make.proofs.RunLabels.{generated_accepted, item_no}
use Rattle.cmd_make.proofs.SomeDrill.{pairs_within}

-- a generator of a generated run, and the grammar that it was given
module _ (g h : Grammar) (same : h ≡ g) (formed : IsWellFormed g) (n seed : ℕ) (whole : Coming) (is : whole ≡ all_of (generated h n seed instance_most)) where
  -- the run
  abbrev pub run_of : Generated
  run_of = generated g n seed instance_most

  whole_is : whole ≡ all_of run_of
  whole_is = is ∙ ap (λ x. all_of (generated x n seed instance_most)) same

  pub run_accepted : IsAccepted h instance_most whole.events
  run_accepted =
      subst (λ x. IsAccepted x instance_most whole.events) (sym same)
      (subst (λ (z : Coming). IsAccepted g instance_most z.events) (sym whole_is) (generated_accepted g formed n seed))

  -- its labels
  abbrev pub labels_here : List Label
  labels_here = labels_of_run g run_of.events

  -- the labels of the items of the pairs that are drawn of them
  module _ (d : DrawnHeld) (drawn : IsDrawnOf (bits_of_items (labelled h whole.events)) whole.draws d) where
    bits_are : bits_of_items (labelled h whole.events) ≡ map label_bits labels_here
    bits_are =
        ap (λ (z : Coming). bits_of_items (labelled h z.events)) whole_is ∙ (ap (λ x. bits_of_items (labelled x run_of.events)) same ∙
        sym (map-map label_bits (λ (t : Item × Label). t.1) (labelled g run_of.events)))

    here : IsDrawnOf (map label_bits labels_here) run_of.last.draws d
    here = subst (λ l. IsDrawnOf l run_of.last.draws d) bits_are (subst (λ (z : Coming). IsDrawnOf (bits_of_items (labelled h whole.events)) z.draws d) whole_is drawn)

    many : length (map label_bits labels_here) ≡ length labels_here
    many = length-map labels_here label_bits

    items_are : d.items ≡ length labels_here
    items_are = here.items_are ∙ many

    pairs_are : pairs_drawn (pair_count (length (map label_bits labels_here))) (length (map label_bits labels_here)) run_of.last.draws ≡ pairs_of g run_of
    pairs_are = ap (λ m. pairs_drawn (pair_count m) m run_of.last.draws) many

    its_label : (k : ℕ) → k < length labels_here → IsLabel g (label_no labels_here k)
    its_label k below = (item_no g formed run_of.events (generated_accepted g formed n seed) k below).1.1

    pub pairs_held : AreHeldPairs g labels_here (pairs_of g run_of) d.labels
    pairs_held = record {
      firsts = record {
        is = here.firsts_are ∙ (ap (firsts_of (map label_bits labels_here)) pairs_are ∙ firsts_held labels_here (pairs_of g run_of) (pairs_within g run_of));
        of_it = λ l i.
            let p = in_map_from (λ (p : ℕ × ℕ). label_no labels_here p.0) l (pairs_of g run_of) i in
            subst (IsLabel g) (sym p.2) (its_label p.0.0 (pairs_within g run_of p.0 p.1).0);
      };
      seconds = record {
        is = here.seconds_are ∙ (ap (seconds_of (map label_bits labels_here)) pairs_are ∙ seconds_held labels_here (pairs_of g run_of) (pairs_within g run_of));
        of_it = λ l i.
            let p = in_map_from (λ (p : ℕ × ℕ). label_no labels_here p.1) l (pairs_of g run_of) i in
            subst (IsLabel g) (sym p.2) (its_label p.0.1 (pairs_within g run_of p.0 p.1).1);
      };
    }

    pub summed : (u : View) (vs : List Verdict) (text : List ℕ) → AreVerdicts g u labels_here (pairs_of g run_of) vs → d.instances ≡ length (made h h.start whole.events) → text ≡ summary d.instances d.items d.longest vs → IsSummary g u run_of text
    summed u vs text verdicts all_made wrote = (
      vs,
      verdicts,
      wrote ∙ (ap (λ m. summary m d.items d.longest vs) (all_made ∙ (ap (λ x. length (made x x.start whole.events)) same ∙ ap (λ (z : Coming). length (made g g.start z.events)) whole_is)) ∙
          (ap (λ m. summary (length (made g g.start run_of.events)) m d.longest vs) items_are ∙
          ap (λ m. summary (length (made g g.start run_of.events)) (length labels_here) m vs) (here.longest_is ∙ longest_is labels_here))),
    )

-- the summary was put
pub drill_written : {T : Type 0} {out : T → Option (List ℕ)} {faults : T → ℕ} {last : T → Bool} (g : Grammar) (u : View) (n seed : ℕ) (text held : List ℕ) → IsSummary g u (generated g n seed instance_most) text → held ≡ text → (o p : T) (e : End) → Writes out faults last [] (IsWritten held) o p e →
    Writes out faults last [] (IsDrilled g u n seed) o p e
drill_written g u n seed text held summed is o p e writes =
    let r = generated g n seed instance_most in
    writes_alike [] (IsWritten held) (IsDrilled g u n seed)
    (λ d t h. (h.0, subst (IsSummary g u r) (sym (h.1 ∙ is)) summed))
    (λ d t h. (h.0, one_summary g u r t held h.1 (subst (IsSummary g u r) (sym is) summed))) o p e writes
