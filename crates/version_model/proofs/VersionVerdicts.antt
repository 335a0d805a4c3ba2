-- Two labels of a version that keeps its cycles have in the grammar the verdict that they have in the version.
use Rattle.std.proofs.Common.{◌≡◌, ◌↔◌, ℕ, List, [], ◌∷◌, ◌++◌, sym, ap, ◌∙◌, subst, ⊎_elim}
use Rattle.wf_model.specs.Grammar.{Grammar}
use Rattle.wf_model.specs.WellFormed.{IsWellFormed}
use Rattle.wf_model.specs.Proper.{IsProper}
use Rattle.wf_model.specs.Linear.{IsLinear}
use Rattle.wf_model.specs.View.{View, expands}
use Rattle.wf_model.specs.Safe.{IsSafe}
use Rattle.wf_model.specs.declared.event.Event.{Event}
use Rattle.wf_model.specs.Finishing.{ExpandsComposites}
use Rattle.wf_model.specs.Items.{Item, Depends}
use Rattle.wf_model.specs.Reach.{Step, target_of, module_along}
use Rattle.wf_model.specs.Routes.{IsRoute}
use Rattle.wf_laws.proofs.Growth.{finishing_law}
use Rattle.wf_laws.proofs.Full.{full_law, safe_full_law}
use Rattle.label_model.specs.Labels.{Label, IsLabel}
use Rattle.verdict_model.specs.declared.verdict.Verdict.{Verdict}
use Rattle.verdict_model.specs.declared.verdict.Verdict.TheVariants.{Hidden1, Hidden2, Clash, Yes, No}
use Rattle.verdict_model.specs.Telling.{Names}
use Rattle.verdict_model.specs.Verdicts.{IsHidden, AreShown, AreClashing, HasBoth, AlwaysDepends, IsVerdict}
use Rattle.verdict_model.proofs.Answering.{one_answer_law}
use Rattle.verdict_model.proofs.BothLabels.{both_law}
use Rattle.verdict_model.proofs.Keeping.{labelled_item, visible_shown}
use Rattle.wf_model.specs.Versions.{version_of, IsVersion, KeepsCycles}
use Rattle.version_model.specs.Versions.{ShowAlike}
use Rattle.version_model.specs.Laws.{VersionVerdictLaw}
use Rattle.version_model.proofs.SameParts.{along_same}
use Rattle.version_model.proofs.VersionRuns.{version_run_law}
use Rattle.version_model.proofs.VersionFormed.{formed}
use Rattle.version_model.proofs.VersionReach.{version_safe_law}
use Rattle.version_model.proofs.VersionSeen.{expands_same}
use Rattle.version_model.proofs.VersionDepends.{version_depends_law}
use Rattle.version_model.proofs.VersionLabels.{tells_up, tells_back}
use Rattle.version_model.proofs.VersionEntries.{version_label_law}

-- what begins a route is a route
route_begins : (g : Grammar) (k : ℕ) (a b : List Step) → IsRoute g k (a ++ b) → IsRoute g k a
route_begins g k [] b x = tt
route_begins g k (s ∷ a) b x = (x.0, x.1, x.2, route_begins g (target_of g s) a b x.3)

-- an address at which a label names a production is a route
names_route : (g : Grammar) (l : Label) (c : List Step) (r : ℕ) → Names g l c r → IsRoute g g.start c
names_route g l c r n = ⊎_elim
    (λ q. subst (IsRoute g g.start) q.0 n.3.ending.route)
    (λ q. route_begins g g.start c (q.0 ∷ q.1) (subst (IsRoute g g.start) q.2 n.3.ending.route))
    n.4

module _ (g : Grammar) (m p : ℕ) (is : IsVersion g m p) (wf : IsWellFormed g) (linear : IsLinear g) (keeps : KeepsCycles g m p) where
  -- a label names the same
  names_up : (l : Label) (c : List Step) (r : ℕ) → Names (version_of g m p) l c r → Names g l c r
  names_up l c r n = (n.0, n.1, n.2, tells_up g m p is wf linear keeps l n.0 n.1 n.2 n.3, n.4)

  names_back : (l : Label) → IsLabel (version_of g m p) l → (c : List Step) (r : ℕ) → Names g l c r → Names (version_of g m p) l c r
  names_back l h c r n = (n.0, n.1, n.2, tells_back g m p is wf linear keeps l h n.0 n.1 n.2 n.3, n.4)

  -- so two labels clash in both or in none
  clash_same : (x y : Label) → IsLabel (version_of g m p) x → IsLabel (version_of g m p) y → AreClashing (version_of g m p) x y ↔ AreClashing g x y
  clash_same x y hx hy = (
    (λ q. (q.0, q.1, q.2, names_up x q.0 q.1 q.3, names_up y q.0 q.2 q.4, q.5)),
    (λ q. (q.0, q.1, q.2, names_back x hx q.0 q.1 q.3, names_back y hy q.0 q.2 q.4, q.5)),
  )

  module _ (u w : View) (alike : ShowAlike (version_of g m p) u w) where
    expands_along : (c : List Step) → IsRoute (version_of g m p) g.start c → expands w (module_along g g.start c) ≡ expands u (module_along (version_of g m p) g.start c)
    expands_along c x =
        let s = along_same g m p is g.start c is.start x in
        expands_same g m p is u w alike (module_along g g.start c) s.1 ∙ ap (expands u) (sym s.0)

    -- and a label is hidden in both or in none
    hidden_same : (l : Label) → IsLabel (version_of g m p) l → IsHidden (version_of g m p) u l ↔ IsHidden g w l
    hidden_same l h = (
      (λ q. (q.0, q.1, names_up l q.0 q.1 q.2, expands_along q.0 (names_route (version_of g m p) l q.0 q.1 q.2) ∙ q.3)),
      (λ q. let n = names_back l h q.0 q.1 q.2 in (q.0, q.1, n, sym (expands_along q.0 (names_route (version_of g m p) l q.0 q.1 n)) ∙ q.3)),
    )

    module _ (x y : Label) (hx : IsLabel (version_of g m p) x) (hy : IsLabel (version_of g m p) y) where
      shown_same : AreShown (version_of g m p) u x y ↔ AreShown g w x y
      shown_same = (
        (λ s. ((λ q. s.0 ((hidden_same x hx).1 q)), (λ q. s.1 ((hidden_same y hy).1 q)))),
        (λ s. ((λ q. s.0 ((hidden_same x hx).0 q)), (λ q. s.1 ((hidden_same y hy).0 q)))),
      )

      apart_same : (AreClashing (version_of g m p) x y → ⊥) ↔ (AreClashing g x y → ⊥)
      apart_same = ((λ n q. n ((clash_same x y hx hy).1 q)), (λ n q. n ((clash_same x y hx hy).0 q)))

      -- one run that has both labels, and a finishing of it by either, in which the items depend or not alike
      record IsTried : Type 0 where
        events : List Event
        more : List Event
        later : List Event
        first : Item
        second : Item
        old : HasBoth (version_of g m p) u x y events more first second
        new : HasBoth g w x y events later first second
        same : Depends (version_of g m p) u (events ++ more) first second ↔ Depends g w (events ++ later) first second

      module _ (proper : IsProper (version_of g m p)) (proper2 : IsProper g) (ec : ExpandsComposites (version_of g m p) u) (ec2 : ExpandsComposites g w)
          (safe2 : IsSafe g w) (shown : AreShown (version_of g m p) u x y) (apart : AreClashing (version_of g m p) x y → ⊥) where
        safe : IsSafe (version_of g m p) u
        safe = version_safe_law g m p is wf proper2 u w ec2 alike safe2

        tried : IsTried
        tried =
            let wfv = formed g m p is wf in
            let r = both_law (version_of g m p) wfv x y hx hy apart in
            let run = ((version_run_law g m p is).each g.start is.start r.0 r.1).run in
            let f = finishing_law (version_of g m p) u proper ec g.start r.0 r.1 in
            let f2 = finishing_law g w proper2 ec2 g.start r.0 run in
            let d = safe_full_law (version_of g m p) u wfv proper ec safe in
            let e = safe_full_law g w wf proper2 ec2 safe2 in
            record {
              events = r.0;
              more = f.0;
              later = f2.0;
              first = r.2.0;
              second = r.3.0;
              old = record { run = r.1; first = r.2.1; second = r.3.1; finishing = f.1 };
              new = record {
                run = run;
                first = ((version_label_law g m p is wf linear keeps x hx).has r.0 r.1 r.2.0).0 r.2.1;
                second = ((version_label_law g m p is wf linear keeps y hy).has r.0 r.1 r.3.0).0 r.3.1;
                finishing = f2.1;
              };
              same = version_depends_law g m p is wf proper u w ec alike d.0 e.0
                  ((full_law (version_of g m p) u d.0 wfv proper ec).0 d.1) ((full_law g w e.0 wf proper2 ec2).0 e.1) r.0 r.1 r.2.0 r.3.0
                  (labelled_item (version_of g m p) r.0 r.2.0 x r.2.1.0) (labelled_item (version_of g m p) r.0 r.3.0 y r.3.1.0)
                  ((visible_shown (version_of g m p) wfv u r.0 r.1 r.2.0 x r.2.1.0).1 shown.0) ((visible_shown (version_of g m p) wfv u r.0 r.1 r.3.0 y r.3.1.0).1 shown.1)
                  f.0 f2.0 f.1 f2.1;
            }

        -- what holds in one finishing of one run that has both holds in all, so it is always so in both or in none
        always_same : AlwaysDepends (version_of g m p) u x y ↔ AlwaysDepends g w x y
        always_same =
            let t = tried in (
              (λ a. (one_answer_law g w wf proper2 ec2 safe2 x y (shown_same.0 shown)).always t.events t.later t.first t.second t.new (t.same.0 (a t.events t.more t.first t.second t.old))),
              (λ a. (one_answer_law (version_of g m p) u (formed g m p is wf) proper ec safe x y shown).always t.events t.more t.first t.second t.old (t.same.1 (a t.events t.later t.first t.second t.new))),
            )

pub version_verdict_law : VersionVerdictLaw
version_verdict_law g m p is wf linear keeps proper proper2 u w ec ec2 safe2 alike x y hx hy = by
  where
    hidden : (l : Label) → IsLabel (version_of g m p) l → IsHidden (version_of g m p) u l ↔ IsHidden g w l
    hidden = hidden_same g m p is wf linear keeps u w alike

    clash : AreClashing (version_of g m p) x y ↔ AreClashing g x y
    clash = clash_same g m p is wf linear keeps x y hx hy

    shown : AreShown (version_of g m p) u x y ↔ AreShown g w x y
    shown = shown_same g m p is wf linear keeps u w alike x y hx hy

    apart : (AreClashing (version_of g m p) x y → ⊥) ↔ (AreClashing g x y → ⊥)
    apart = apart_same g m p is wf linear keeps u w alike x y hx hy

    always : AreShown (version_of g m p) u x y → (AreClashing (version_of g m p) x y → ⊥) → AlwaysDepends (version_of g m p) u x y ↔ AlwaysDepends g w x y
    always s a = always_same g m p is wf linear keeps u w alike x y hx hy proper proper2 ec ec2 safe2 s a

    by : (v : Verdict) → IsVerdict (version_of g m p) u x y v ↔ IsVerdict g w x y v
    by Hidden1 = hidden x hx
    by Hidden2 = ((λ q. ((λ z. q.0 ((hidden x hx).1 z)), (hidden y hy).0 q.1)), (λ q. ((λ z. q.0 ((hidden x hx).0 z)), (hidden y hy).1 q.1)))
    by Clash = ((λ q. (shown.0 q.0, clash.0 q.1)), (λ q. (shown.1 q.0, clash.1 q.1)))
    by Yes = (
      (λ q. (shown.0 q.0, apart.0 q.1, (always q.0 q.1).0 q.2)),
      (λ q. let s = shown.1 q.0 in let a = apart.1 q.1 in (s, a, (always s a).1 q.2)),
    )
    by No = (
      (λ q. (shown.0 q.0, apart.0 q.1, λ z. q.2 ((always q.0 q.1).1 z))),
      (λ q. let s = shown.1 q.0 in let a = apart.1 q.1 in (s, a, λ z. q.2 ((always s a).0 z))),
    )
