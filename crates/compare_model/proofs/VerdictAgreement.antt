-- The agreement of two views on labels.
use Rattle.std.proofs.Common.{◌↔◌, List, ◌++◌}
use Rattle.wf_model.specs.Grammar.{Grammar, Assignment}
use Rattle.wf_model.specs.View.{View}
use Rattle.wf_model.specs.declared.event.Event.{Event}
use Rattle.wf_model.specs.Items.{Item, Depends}
use Rattle.wf_laws.proofs.Growth.{finishing_law}
use Rattle.label_model.specs.Labels.{Label, IsLabel}
use Rattle.verdict_model.specs.declared.verdict.Verdict.{Verdict}
use Rattle.verdict_model.specs.declared.verdict.Verdict.TheVariants.{Hidden1, Hidden2, Clash, Yes, No}
use Rattle.verdict_model.specs.Verdicts.{AreShown, AreClashing, HasBoth, AlwaysDepends, IsVerdict}
use Rattle.verdict_model.proofs.Answering.{one_answer_induced}
use Rattle.verdict_model.proofs.BothLabels.{both_law}
use Rattle.verdict_model.proofs.Keeping.{labelled_item, visible_shown}
use Rattle.wf_laws.proofs.Full.{full_law, safe_full_law}
use Rattle.compare_model.specs.Pairs.{DeniesNone, AddsNone}
use Rattle.compare_model.specs.Laws.{AreCompared, VerdictAgreementLaw}
use Rattle.compare_model.proofs.SeenByBoth.{hidden_too}
use Rattle.compare_model.proofs.Agreement.{fine_induced}
use Rattle.compare_model.proofs.RunAgreement.{run_agreement_law}

module _ (g : Grammar) (c u : View) (d : Assignment) (p : AreCompared g c u d) (x y : Label) (lx : IsLabel g x) (ly : IsLabel g y) (shown : AreShown g c x y) (apart : AreClashing g x y → ⊥) where
  fine_shown : AreShown g u x y
  fine_shown = ((λ h. shown.0 (hidden_too g c u p.coarser x h)), (λ h. shown.1 (hidden_too g c u p.coarser y h)))

  -- some run has both labels, and is finished under either view
  record AreTried : Type 0 where
    events : List Event
    fine_more : List Event
    coarse_more : List Event
    first : Item
    second : Item
    fine : HasBoth g u x y events fine_more first second
    coarse : HasBoth g c x y events coarse_more first second
    kept : DeniesNone g c d → Depends g u (events ++ fine_more) first second → Depends g c (events ++ coarse_more) first second
    no_more : AddsNone g c d → Depends g c (events ++ coarse_more) first second → Depends g u (events ++ fine_more) first second

  tried : AreTried
  tried =
      let r = both_law g p.formed x y lx ly apart in
      let f = finishing_law g u p.proper p.fine_composites g.start r.0 r.1 in
      let k = finishing_law g c p.proper p.coarse_composites g.start r.0 r.1 in
      let law = run_agreement_law g c u d p r.0 r.1 r.2.0 r.3.0
      (labelled_item g r.0 r.2.0 x r.2.1.0) (labelled_item g r.0 r.3.0 y r.3.1.0)
      ((visible_shown g p.formed c r.0 r.1 r.2.0 x r.2.1.0).1 shown.0) ((visible_shown g p.formed c r.0 r.1 r.3.0 y r.3.1.0).1 shown.1)
      f.0 k.0 f.1 k.1 in
      record {
        events = r.0;
        fine_more = f.0;
        coarse_more = k.0;
        first = r.2.0;
        second = r.3.0;
        fine = record { run = r.1; first = r.2.1; second = r.3.1; finishing = f.1 };
        coarse = record { run = r.1; first = r.2.1; second = r.3.1; finishing = k.1 };
        kept = law.kept;
        no_more = law.no_more;
      }

  always_kept : DeniesNone g c d → AlwaysDepends g u x y → AlwaysDepends g c x y
  always_kept none always =
      let t = tried in
      let full = safe_full_law g c p.formed p.proper p.coarse_composites p.safe in
      let ind = (full_law g c full.0 p.formed p.proper p.coarse_composites).0 full.1 in
      one_answer_induced g c full.0 p.formed ind x y shown t.events t.coarse_more t.first t.second t.coarse (t.kept none (always t.events t.fine_more t.first t.second t.fine))

  always_before : AddsNone g c d → AlwaysDepends g c x y → AlwaysDepends g u x y
  always_before none always =
      let t = tried in
      one_answer_induced g u d p.formed (fine_induced g c u d p) x y fine_shown t.events t.fine_more t.first t.second t.fine (t.no_more none (always t.events t.coarse_more t.first t.second t.coarse))

  equal : DeniesNone g c d → AddsNone g c d → (v : Verdict) → IsVerdict g u x y v ↔ IsVerdict g c x y v
  equal denies adds Hidden1 = ((λ h. absurd (fine_shown.0 h)), (λ h. absurd (shown.0 h)))
  equal denies adds Hidden2 = ((λ h. absurd (fine_shown.1 h.1)), (λ h. absurd (shown.1 h.1)))
  equal denies adds Clash = ((λ h. absurd (apart h.1)), (λ h. absurd (apart h.1)))
  equal denies adds Yes = ((λ h. (shown, apart, always_kept denies h.2)), (λ h. (fine_shown, apart, always_before adds h.2)))
  equal denies adds No = ((λ h. (shown, apart, λ z. h.2 (always_before adds z))), (λ h. (fine_shown, apart, λ z. h.2 (always_kept denies z))))

pub verdict_agreement_law : VerdictAgreementLaw
verdict_agreement_law g c u d p x y lx ly shown apart = record {
  kept = λ none h. (shown, apart, always_kept g c u d p x y lx ly shown apart none h.2);
  equal = equal g c u d p x y lx ly shown apart;
}
