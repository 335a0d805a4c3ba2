-- Views that perceive the same are safe both or neither, and give the same verdicts.
use Rattle.std.proofs.Common.{ℕ, List, ◌++◌, Option, Some, None, sym, ◌∙◌, subst}
use Rattle.wf_model.specs.Grammar.{Grammar}
use Rattle.wf_model.specs.View.{View}
use Rattle.wf_model.specs.declared.event.Event.{Event}
use Rattle.wf_model.specs.Links.{Port, Link, Path}
use Rattle.wf_model.specs.Safe.{IsSafe}
use Rattle.wf_model.specs.Items.{Item, PathBetween}
use Rattle.label_model.specs.Labels.{Label}
use Rattle.verdict_model.specs.declared.verdict.Verdict.{Verdict}
use Rattle.verdict_model.specs.declared.verdict.Verdict.TheVariants.{Hidden1, Hidden2, Clash, Yes, No}
use Rattle.verdict_model.specs.Verdicts.{IsHidden, HasBoth, AlwaysDepends, IsVerdict}
use Rattle.wf_lift.specs.Alike.{PerceiveAlike, PerceivedAlikeLaw}
use Rattle.wf_lift.proofs.AlikeViews.{alike_back, seen_module_there, links_same, joins_there, finished_there, expansion_there}

module _ (g : Grammar) (u w : View) (alike : PerceiveAlike u w) where
  between_there : (m : ℕ) (events : List Event) (x y : Option (Port (List ℕ))) → PathBetween g u m events x y → PathBetween g w m events x y
  between_there m events None y h = h
  between_there m events (Some x) None h = h
  between_there m events (Some x) (Some y) h = subst (λ (ls : List (Link (List ℕ))). Path ls x y) (links_same g u w alike m events) h

  hidden_there : (l : Label) → IsHidden g u l → IsHidden g w l
  hidden_there l q = (q.0, q.1, q.2, sym (alike.expanded _) ∙ q.3)

module _ (g : Grammar) (u w : View) (alike : PerceiveAlike u w) where
  abbrev back : PerceiveAlike w u
  back = alike_back u w alike

  both_there : (x y : Label) (events more : List Event) (s t : Item) → HasBoth g u x y events more s t → HasBoth g w x y events more s t
  both_there x y events more s t b = record {
    run = b.run;
    first = b.first;
    second = b.second;
    finishing = record { run = b.finishing.run; finished = finished_there g u w alike g.start (events ++ more) b.finishing.finished };
  }

  unhidden_there : (l : Label) → (IsHidden g u l → ⊥) → IsHidden g w l → ⊥
  unhidden_there l s h = s (hidden_there g w u back l h)

module _ (g : Grammar) (u w : View) (alike : PerceiveAlike u w) where
  abbrev back_again : PerceiveAlike w u
  back_again = alike_back u w alike

  pub safe_there : IsSafe g u → IsSafe g w
  safe_there safe m seen e f x y i o hi ho j =
      joins_there g u w alike m f i o
      (safe m (seen_module_there g w u back_again seen) e f (expansion_there g w u back_again m e x) (expansion_there g w u back_again m f y) i o hi ho (joins_there g w u back_again m e i o j))

  always_there : (x y : Label) → AlwaysDepends g u x y → AlwaysDepends g w x y
  always_there x y always events more s t b =
      between_there g u w alike g.start (events ++ more) s.consumed t.produced (always events more s t (both_there g w u back_again x y events more s t b))

module _ (g : Grammar) (u w : View) (alike : PerceiveAlike u w) where
  pub verdict_there : (x y : Label) (v : Verdict) → IsVerdict g u x y v → IsVerdict g w x y v
  verdict_there x y Hidden1 q = hidden_there g u w alike x q
  verdict_there x y Hidden2 q = (unhidden_there g u w alike x q.0, hidden_there g u w alike y q.1)
  verdict_there x y Clash q = ((unhidden_there g u w alike x q.0.0, unhidden_there g u w alike y q.0.1), q.1)
  verdict_there x y Yes q = ((unhidden_there g u w alike x q.0.0, unhidden_there g u w alike y q.0.1), q.1, always_there g u w alike x y q.2)
  verdict_there x y No q = ((unhidden_there g u w alike x q.0.0, unhidden_there g u w alike y q.0.1), q.1, (λ a. q.2 (always_there g w u (alike_back u w alike) x y a)))

pub perceived_alike_law : PerceivedAlikeLaw
perceived_alike_law g u w alike = record {
  safe = (safe_there g u w alike, safe_there g w u (alike_back u w alike));
  verdict = λ x y v. (verdict_there g u w alike x y v, verdict_there g w u (alike_back u w alike) x y v);
}
