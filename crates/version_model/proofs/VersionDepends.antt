-- An item of a run of a version depends on another in the grammar exactly if it does in the version.
use Rattle.std.proofs.Common.{◌≡◌, ◌≢◌, ◌↔◌, ℕ, ◌<◌, List, [], ◌++◌, Option, Some, None, refl, sym, ap, ◌∙◌, subst}
use Rattle.wf_model.specs.Lists.{IsIn}
use Rattle.wf_model.specs.Grammar.{Grammar, Assignment, inputs_of, outputs_of}
use Rattle.wf_model.specs.WellFormed.{IsWellFormed}
use Rattle.wf_model.specs.View.{View, at_start}
use Rattle.wf_model.specs.Proper.{IsProper}
use Rattle.wf_model.specs.Safe.{IsInduced}
use Rattle.wf_model.specs.declared.event.Event.{Event}
use Rattle.wf_model.specs.Run.{IsRun, root_of}
use Rattle.wf_model.specs.Finishing.{ExpandsComposites, IsFinishing}
use Rattle.wf_model.specs.Links.{Port}
use Rattle.wf_model.specs.Items.{Item, items, PathBetween, Depends}
use Rattle.wf_model.specs.Reach.{Step, module_along, IsAlong}
use Rattle.wf_model.specs.Routes.{IsRoute}
use Rattle.wf_model.specs.Depends.{IsConsumedAt, IsProducedAt}
use Rattle.wf_model.proofs.Open.{root_kept}
use Rattle.wf_laws.proofs.Reach.{along_kept, more_started}
use Rattle.wf_laws.proofs.Depends.{items_law, depends_law}
use Rattle.wf_laws.proofs.Agreeing.{agree_law, route_law}
use Rattle.verdict_model.proofs.Hiding.{open_along, along_address}
use Rattle.wf_model.specs.Versions.{version_of, IsVersion}
use Rattle.version_model.specs.Versions.{ShowAlike}
use Rattle.version_model.specs.Laws.{VersionDependsLaw}
use Rattle.version_model.proofs.SameParts.{ins_same, outs_same, along_same}
use Rattle.version_model.proofs.VersionFormed.{formed}
use Rattle.version_model.proofs.VersionReach.{version_reach_law}
use Rattle.version_model.proofs.VersionSeen.{along_too}

-- what is consumed or produced at an address is so as the run goes on
module _ (g : Grammar) (u : View) (m : ℕ) (events more : List Event) (started : events ≢ []) where
  along_later : (a : List Step) (x : List ℕ) → IsAlong g u events (root_of events) a x → IsAlong g u (events ++ more) (root_of (events ++ more)) a x
  along_later a x al = subst (λ z. IsAlong g u (events ++ more) z a x) (sym (root_kept events more started)) (along_kept g u events more a (root_of events) x al)

  consumed_later : (t : Item) (a : List Step) (i : ℕ) → IsConsumedAt g u m events t a i → IsConsumedAt g u m (events ++ more) t a i
  consumed_later t a i c = record { instance = c.instance; along = along_later a c.instance c.along; port = c.port; in_range = c.in_range }

  produced_later : (t : Item) (a : List Step) (o : ℕ) → IsProducedAt g u m events t a o → IsProducedAt g u m (events ++ more) t a o
  produced_later t a o c = record { instance = c.instance; along = along_later a c.instance c.along; port = c.port; in_range = c.in_range }

module _ (g : Grammar) (m p : ℕ) (is : IsVersion g m p) (u w : View) (alike : ShowAlike (version_of g m p) u w) (events : List Event) (run : IsRun (version_of g m p) g.start events) (started : events ≢ []) where
  -- what an address in the run of the version tells
  route_of : (a : List Step) (x : List ℕ) → IsAlong (version_of g m p) u events (root_of events) a x → IsRoute (version_of g m p) g.start a
  route_of a x al = (route_law (version_of g m p) g.start events run started a x (along_address (version_of g m p) u events a (root_of events) x al)).route

  consumed_too : (t : Item) (a : List Step) (i : ℕ) → IsConsumedAt (version_of g m p) u g.start events t a i → IsConsumedAt g w g.start events t a i
  consumed_too t a i c =
      let r = route_of a c.instance c.along in
      let s = along_same g m p is g.start a is.start r in
      record {
        instance = c.instance;
        along = along_too g m p is u w alike events a g.start (root_of events) c.instance r c.along;
        port = c.port;
        in_range = subst (λ z. i < z) (ap (inputs_of (version_of g m p)) s.0 ∙ ins_same g m p is (module_along g g.start a) s.1) c.in_range;
      }

  produced_too : (t : Item) (a : List Step) (o : ℕ) → IsProducedAt (version_of g m p) u g.start events t a o → IsProducedAt g w g.start events t a o
  produced_too t a o c =
      let r = route_of a c.instance c.along in
      let s = along_same g m p is g.start a is.start r in
      record {
        instance = c.instance;
        along = along_too g m p is u w alike events a g.start (root_of events) c.instance r c.along;
        port = c.port;
        in_range = subst (λ z. o < z) (ap (outputs_of (version_of g m p)) s.0 ∙ outs_same g m p is (module_along g g.start a) s.1) c.in_range;
      }

  module _ (d e : Assignment) (wf : IsWellFormed g) (proper : IsProper (version_of g m p)) (ec : ExpandsComposites (version_of g m p) u) (ind : IsInduced (version_of g m p) u d) (ind2 : IsInduced g w e) where
    -- two items that are consumed and produced at these addresses
    depends_at : (s t : Item) (a b : List Step) (i o : ℕ) → IsConsumedAt (version_of g m p) u g.start events s a i → IsProducedAt (version_of g m p) u g.start events t b o →
        (more later : List Event) → IsFinishing (version_of g m p) u g.start events more → IsFinishing g w g.start events later →
        Depends (version_of g m p) u (events ++ more) s t ↔ Depends g w (events ++ later) s t
    depends_at s t a b i o c q more later fin fin2 =
        let oa = open_along (version_of g m p) u events g.start a (root_of events) c.instance (route_of a c.instance c.along) (at_start refl) c.along in
        let ob = open_along (version_of g m p) u events g.start b (root_of events) q.instance (route_of b q.instance q.along) (at_start refl) q.along in
        let agree = agree_law events a b c.instance q.instance (along_address (version_of g m p) u events a (root_of events) c.instance c.along) (along_address (version_of g m p) u events b (root_of events) q.instance q.along) in
        let same = version_reach_law g m p is proper u w ec alike d e ind ind2 a b oa ob agree i o c.in_range q.in_range in
        let one = depends_law (version_of g m p) u d (formed g m p is wf) ind (events ++ more) (record { run = fin.run; started = more_started events more started; finished = fin.finished }) s t a b i o
        (consumed_later (version_of g m p) u g.start events more started s a i c) (produced_later (version_of g m p) u g.start events more started t b o q) in
        let two = depends_law g w e wf ind2 (events ++ later) (record { run = fin2.run; started = more_started events later started; finished = fin2.finished }) s t a b i o
        (consumed_later g w g.start events later started s a i (consumed_too s a i c)) (produced_later g w g.start events later started t b o (produced_too t b o q)) in
        ((λ z. two.1 (same.0 (one.0 z))), (λ z. one.1 (same.1 (two.0 z))))

pub version_depends_law : VersionDependsLaw
version_depends_law g m p is wf proper u w ec alike d e ind ind2 events run s t hs ht vs vt more later fin fin2 = go s.consumed refl t.produced refl
  where
    started : events ≢ []
    started q = subst (λ z. IsIn s (items (version_of g m p) g.start z)) q hs

    go : (c : Option (Port (List ℕ))) → s.consumed ≡ c → (q : Option (Port (List ℕ))) → t.produced ≡ q → Depends (version_of g m p) u (events ++ more) s t ↔ Depends g w (events ++ later) s t
    go None ec q eq = (
      (λ z. absurd (subst (λ y. PathBetween (version_of g m p) u g.start (events ++ more) y t.produced) ec z)),
      (λ z. absurd (subst (λ y. PathBetween g w g.start (events ++ later) y t.produced) ec z)),
    )
    go (Some c) ec None eq = (
      (λ z. absurd (subst (λ y. PathBetween (version_of g m p) u g.start (events ++ more) (Some c) y) eq (subst (λ y. PathBetween (version_of g m p) u g.start (events ++ more) y t.produced) ec z))),
      (λ z. absurd (subst (λ y. PathBetween g w g.start (events ++ later) (Some c) y) eq (subst (λ y. PathBetween g w g.start (events ++ later) y t.produced) ec z))),
    )
    go (Some c) es (Some q) eq =
        let wfv = formed g m p is wf in
        let at = (items_law (version_of g m p) u wfv g.start events run started s hs vs).consumed c es in
        let from = (items_law (version_of g m p) u wfv g.start events run started t ht vt).produced q eq in
        depends_at g m p is u w alike events run started d e wf proper ec ind ind2 s t at.0 from.0 at.1 from.1 at.2 from.2 more later fin fin2
