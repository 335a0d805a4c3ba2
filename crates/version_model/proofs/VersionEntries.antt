-- The items of a run of a version that keeps its cycles have in the grammar the labels that they have in the version.
use Rattle.std.proofs.Common.{◌≡◌, ℕ, ◌+◌, ◌<◌, List, [], ◌++◌, map, length, flat_map, zip, sym, ap, ◌∙◌, subst, arith}
use Rattle.wf_model.specs.Lists.{IsIn, numbers_from}
use Rattle.wf_model.specs.Grammar.{Grammar, Production, production_at, inputs_of, outputs_of}
use Rattle.wf_model.specs.WellFormed.{IsWellFormed}
use Rattle.wf_model.specs.Linear.{IsLinear}
use Rattle.wf_model.specs.declared.event.Event.{Event}
use Rattle.wf_model.specs.declared.event.Event.TheVariants.{Start, Expand}
use Rattle.wf_model.specs.Run.{IsRun}
use Rattle.wf_model.specs.Items.{items_by}
use Rattle.wf_model.proofs.Level.{in_numbers}
use Rattle.wf_model.proofs.Mapping.{map_same, flat_map_same}
use Rattle.wf_model.proofs.ItemNames.{extends_before}
use Rattle.label_model.specs.Labels.{Input, Output, OfEdge}
use Rattle.label_model.specs.Places.{place_of}
use Rattle.label_model.specs.RunLabels.{address_in, labels_by, labelled_by, labelled}
use Rattle.label_model.specs.Files.{entry_bytes, entry_of, head_bytes}
use Rattle.label_model.proofs.TakenEvents.{expansion_of}
use Rattle.label_model.proofs.ItemLabels.{ending}
use Rattle.wf_model.specs.Versions.{version_of, IsVersion, KeepsCycles}
use Rattle.version_model.specs.Laws.{VersionLabelLaw, VersionEntriesLaw}
use Rattle.version_model.proofs.SameParts.{in_version, production_same, ins_same, outs_same}
use Rattle.version_model.proofs.VersionRuns.{items_by_same}
use Rattle.version_model.proofs.VersionLabels.{label_too, place_same, tells_up, tells_back}

module _ (g : Grammar) (m p : ℕ) (is : IsVersion g m p) (wf : IsWellFormed g) (linear : IsLinear g) (keeps : KeepsCycles g m p) (events : List Event) (run : IsRun (version_of g m p) g.start events) where
  labels_by_same : (e : Event) → IsIn e events → labels_by (version_of g m p) events e ≡ labels_by g events e
  labels_by_same (Start r) here =
      ap (λ n. map Input (numbers_from 0 n) ++ map Output (numbers_from 0 (outputs_of (version_of g m p) g.start))) (ins_same g m p is g.start is.start) ∙
      ap (λ n. map Input (numbers_from 0 (inputs_of g g.start)) ++ map Output (numbers_from 0 n)) (outs_same g m p is g.start is.start)
  labels_by_same (Expand i q names) here =
      let h = in_version g m p is q (expansion_of (version_of g m p) g.start events run i q names here).in_range in
      map_same
      (λ e. OfEdge (place_of (version_of g m p) g.start (address_in events i) q e)) (λ e. OfEdge (place_of g g.start (address_in events i) q e))
      (numbers_from 0 (length (production_at (version_of g m p) q).edges))
      (λ e j. let small : e < 0 + length (production_at (version_of g m p) q).edges = in_numbers e 0 (length (production_at (version_of g m p) q).edges) j in
      ap OfEdge (place_same g m p is wf linear keeps g.start (address_in events i) q e (ending (version_of g m p) events run i q names here e (omega arith)))) ∙
      ap (λ (r : Production). map (λ e. OfEdge (place_of g g.start (address_in events i) q e)) (numbers_from 0 (length r.edges))) (production_same g m p is q h)

  pub labelled_same : labelled (version_of g m p) events ≡ labelled g events
  labelled_same = flat_map_same (labelled_by (version_of g m p) events) (labelled_by g events) events one
    where
      one : (e : Event) → IsIn e events → labelled_by (version_of g m p) events e ≡ labelled_by g events e
      one e here =
          let x = extends_before (version_of g m p) g.start [] events e run here in
          ap (λ l. zip l (labels_by (version_of g m p) events e)) (sym (items_by_same g m p is g.start is.start x.0 e x.1)) ∙
          ap (zip (items_by g g.start e)) (labels_by_same e here)

pub version_label_law : VersionLabelLaw
version_label_law g m p is wf linear keeps l h = record {
  label = label_too g m p is wf linear keeps l h;
  tells = λ a q n. (tells_up g m p is wf linear keeps l a q n, tells_back g m p is wf linear keeps l h a q n);
  has = λ events run t.
      let same = labelled_same g m p is wf linear keeps events run in (
        (λ x. (subst (IsIn (t, l)) same x.0, label_too g m p is wf linear keeps l h)),
        (λ x. (subst (IsIn (t, l)) (sym same) x.0, h)),
      );
}

pub version_entries_law : VersionEntriesLaw
version_entries_law g m p is wf linear keeps events run =
    let same = labelled_same g m p is wf linear keeps events run in
    record {
      entries = ap (map entry_of) same;
      file = λ digest. ap (λ l. head_bytes digest ++ flat_map entry_bytes (map entry_of l)) same;
    }
