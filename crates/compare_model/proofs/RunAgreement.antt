-- The agreement of two views on the items of a run.
use Rattle.std.proofs.Common.{◌≡◌, ◌≢◌, ℕ, List, [], ◌++◌, Option, Some, None, refl, sym, subst}
use Rattle.wf_model.specs.Lists.{IsIn}
use Rattle.wf_model.specs.Grammar.{Grammar, Assignment}
use Rattle.wf_model.specs.View.{View, at_start}
use Rattle.wf_model.specs.Safe.{IsExpansion}
use Rattle.wf_model.specs.declared.event.Event.{Event}
use Rattle.wf_model.specs.Run.{IsRun, root_of}
use Rattle.wf_model.specs.Finishing.{IsFinishing}
use Rattle.wf_model.specs.Links.{Port}
use Rattle.wf_model.specs.Items.{Item, items, PathBetween, IsVisible, Depends}
use Rattle.wf_model.specs.Reach.{Step, IsAlong}
use Rattle.wf_model.specs.Depends.{IsConsumedAt, IsProducedAt}
use Rattle.wf_model.proofs.Open.{root_kept}
use Rattle.wf_laws.proofs.Reach.{along_kept, more_started}
use Rattle.wf_laws.proofs.Depends.{items_law, depends_law}
use Rattle.wf_laws.proofs.Agreeing.{agree_law, route_law}
use Rattle.wf_laws.proofs.Full.{full_law, safe_full_law}
use Rattle.verdict_model.proofs.Hiding.{open_along, along_address}
use Rattle.compare_model.specs.Pairs.{DeniesNone, AddsNone}
use Rattle.compare_model.specs.Laws.{AreCompared, RunAgreementLaw}
use Rattle.compare_model.proofs.SeenByBoth.{along_too}
use Rattle.compare_model.proofs.Agreement.{fine_induced, reach_agreement_law}

-- a run with the events that finish it: it is an expansion, and has the addresses of the run
pub record IsWhole (g : Grammar) (u : View) (events more : List Event) : Type 0 where
  pub expansion_of : IsExpansion g u g.start (events ++ more)
  pub along : (a : List Step) (x : List ℕ) → IsAlong g u events (root_of events) a x → IsAlong g u (events ++ more) (root_of (events ++ more)) a x

pub whole : (g : Grammar) (u : View) (events more : List Event) → events ≢ [] → IsFinishing g u g.start events more → IsWhole g u events more
whole g u events more started fin = record {
  expansion_of = record { run = fin.run; started = more_started events more started; finished = fin.finished };
  along = λ a x al. subst (λ z. IsAlong g u (events ++ more) z a x) (sym (root_kept events more started)) (along_kept g u events more a (root_of events) x al);
}

module _ (g : Grammar) (c u : View) (d : Assignment) (x : AreCompared g c u d) (events : List Event) (run : IsRun g g.start events) (started : events ≢ [])
    (fine_more coarse_more : List Event) (fine_end : IsFinishing g u g.start events fine_more) (coarse_end : IsFinishing g c g.start events coarse_more) where
  record Agrees (s t : Item) : Type 0 where
    kept : DeniesNone g c d → Depends g u (events ++ fine_more) s t → Depends g c (events ++ coarse_more) s t
    no_more : AddsNone g c d → Depends g c (events ++ coarse_more) s t → Depends g u (events ++ fine_more) s t

  agrees_at : (s t : Item) (a b : List Step) (i o : ℕ) → IsConsumedAt g c g.start events s a i → IsProducedAt g c g.start events t b o → Agrees s t
  agrees_at s t a b i o p q =
      let full = safe_full_law g c x.formed x.proper x.coarse_composites x.safe in
      let coarse = (full_law g c full.0 x.formed x.proper x.coarse_composites).0 full.1 in
      let pa = along_address g c events a (root_of events) p.instance p.along in
      let qa = along_address g c events b (root_of events) q.instance q.along in
      let oa = open_along g c events g.start a (root_of events) p.instance (route_law g g.start events run started a p.instance pa).route (at_start refl) p.along in
      let ob = open_along g c events g.start b (root_of events) q.instance (route_law g g.start events run started b q.instance qa).route (at_start refl) q.along in
      let law = reach_agreement_law g c u d full.0 x full.1 a b oa ob (agree_law events a b p.instance q.instance pa qa) i o p.in_range q.in_range in
      let fine = whole g u events fine_more started fine_end in
      let end = whole g c events coarse_more started coarse_end in
      let one = depends_law g u d x.formed (fine_induced g c u d x) (events ++ fine_more) fine.expansion_of s t a b i o
      (record { instance = p.instance; along = fine.along a p.instance (along_too g c u x.coarser events a (root_of events) p.instance p.along); port = p.port; in_range = p.in_range })
      (record { instance = q.instance; along = fine.along b q.instance (along_too g c u x.coarser events b (root_of events) q.instance q.along); port = q.port; in_range = q.in_range }) in
      let two = depends_law g c full.0 x.formed coarse (events ++ coarse_more) end.expansion_of s t a b i o
      (record { instance = p.instance; along = end.along a p.instance p.along; port = p.port; in_range = p.in_range })
      (record { instance = q.instance; along = end.along b q.instance q.along; port = q.port; in_range = q.in_range }) in
      record { kept = λ none w. two.1 (law.kept none (one.0 w)); no_more = λ none w. one.1 (law.no_more none (two.0 w)) }

  agrees : (s t : Item) → IsIn s (items g g.start events) → IsIn t (items g g.start events) → IsVisible g c g.start events s → IsVisible g c g.start events t → Agrees s t
  agrees s t hs ht vs vt = go s.consumed refl t.produced refl
    where
      go : (p : Option (Port (List ℕ))) → s.consumed ≡ p → (q : Option (Port (List ℕ))) → t.produced ≡ q → Agrees s t
      go None ep q eq = record {
        kept = λ n w. absurd (subst (λ z. PathBetween g u g.start (events ++ fine_more) z t.produced) ep w);
        no_more = λ n w. absurd (subst (λ z. PathBetween g c g.start (events ++ coarse_more) z t.produced) ep w);
      }
      go (Some p) ep None eq = record {
        kept = λ n w. absurd (subst (λ z. PathBetween g u g.start (events ++ fine_more) (Some p) z) eq (subst (λ z. PathBetween g u g.start (events ++ fine_more) z t.produced) ep w));
        no_more = λ n w. absurd (subst (λ z. PathBetween g c g.start (events ++ coarse_more) (Some p) z) eq (subst (λ z. PathBetween g c g.start (events ++ coarse_more) z t.produced) ep w));
      }
      go (Some p) ep (Some q) eq =
          let at = (items_law g c x.formed g.start events run started s hs vs).consumed p ep in
          let from = (items_law g c x.formed g.start events run started t ht vt).produced q eq in
          agrees_at s t at.0 from.0 at.1 from.1 at.2 from.2

pub run_agreement_law : RunAgreementLaw
run_agreement_law g c u d x events run s t hs ht vs vt fine_more coarse_more fine_end coarse_end =
    let started : events ≢ [] = λ q. subst (λ z. IsIn s (items g g.start z)) q hs in
    let r = agrees g c u d x events run started fine_more coarse_more fine_end coarse_end s t hs ht vs vt in
    record { kept = r.kept; no_more = r.no_more }
