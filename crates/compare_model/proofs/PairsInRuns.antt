-- A denied pair is always joined under the fine view and never under the coarse one, and an added pair the other way round.
use Rattle.std.proofs.Common.{◌≡◌, ◌≢◌, ◌↔◌, ℕ, ◌<◌, IsTrue, List, [], ◌++◌, refl, sym, ◌∙◌, subst, true≢false}
use Rattle.wf_model.specs.Lists.{IsIn}
use Rattle.wf_model.specs.Grammar.{Grammar, Assignment, inputs_of, outputs_of}
use Rattle.wf_model.specs.WellFormed.{IsWellFormed}
use Rattle.wf_model.specs.View.{View, shows, at_start}
use Rattle.wf_model.specs.Safe.{IsInduced}
use Rattle.wf_model.specs.declared.event.Event.{Event}
use Rattle.wf_model.specs.Run.{Instance, IsRun, seen_in}
use Rattle.wf_model.specs.Links.{input, output, links, Path}
use Rattle.wf_model.specs.Finishing.{IsFinishing}
use Rattle.wf_laws.proofs.Address.{seen_law}
use Rattle.wf_laws.proofs.Alike.{own_pairs_law}
use Rattle.wf_laws.proofs.Full.{full_law, safe_full_law}
use Rattle.compare_model.specs.Pairs.{ModulePair, IsBorderPair}
use Rattle.compare_model.specs.Laws.{AreCompared, PairLaw}
use Rattle.compare_model.proofs.SeenByBoth.{instances_too}
use Rattle.compare_model.proofs.Agreement.{fine_induced}
use Rattle.compare_model.proofs.RunAgreement.{whole}

-- in each finishing the ports of a seen instance are joined exactly if the pair is assigned to its module
joined : (g : Grammar) (u : View) (d : Assignment) → IsWellFormed g → IsInduced g u d → (events : List Event) → IsRun g g.start events → (n : Instance) → IsIn n (seen_in g u g.start events) →
    (i o : ℕ) → i < inputs_of g n.module_no → o < outputs_of g n.module_no → (more : List Event) → IsFinishing g u g.start events more →
    Path (links g u g.start (events ++ more)) (input n.name i) (output n.name o) ↔ IsTrue (d n.module_no i o)
joined g u d wf ind events run n h i o hi ho more fin =
    let started : events ≢ [] = λ q. subst (λ z. IsIn n (seen_in g u g.start z)) q h in
    let s = (seen_law g u g.start events n run started).0 h in
    let w = whole g u events more started fin in
    subst (λ m. Path (links g u g.start (events ++ more)) (input n.name i) (output n.name o) ↔ IsTrue (d m i o)) s.2
    (own_pairs_law g u d wf ind g.start (at_start refl) (events ++ more) w.expansion_of s.0 n.name (w.along s.0 n.name s.1) i o
    (subst (λ m. i < inputs_of g m) (sym s.2) hi) (subst (λ m. o < outputs_of g m) (sym s.2) ho))

module _ (g : Grammar) (c u : View) (d : Assignment) (p : AreCompared g c u d) (x : ModulePair) (events : List Event) (run : IsRun g g.start events)
    (n : Instance) (seen : IsIn n (seen_in g c g.start events)) (of_module : n.module_no ≡ x.module_no) (pair : IsBorderPair g c x) where
  hi : x.input < inputs_of g n.module_no
  hi = subst (λ m. x.input < inputs_of g m) (sym of_module) pair.input_there

  ho : x.output < outputs_of g n.module_no
  ho = subst (λ m. x.output < outputs_of g m) (sym of_module) pair.output_there

  fine : (more : List Event) → IsFinishing g u g.start events more → Path (links g u g.start (events ++ more)) (input n.name x.input) (output n.name x.output) ↔ IsTrue (d x.module_no x.input x.output)
  fine more fin = subst (λ m. Path (links g u g.start (events ++ more)) (input n.name x.input) (output n.name x.output) ↔ IsTrue (d m x.input x.output)) of_module
      (joined g u d p.formed (fine_induced g c u d p) events run n (instances_too g c u p.coarser g.start events n seen) x.input x.output hi ho more fin)

  coarse : (more : List Event) → IsFinishing g c g.start events more → Path (links g c g.start (events ++ more)) (input n.name x.input) (output n.name x.output) ↔ IsTrue (shows c x.module_no x.input x.output)
  coarse more fin =
      let full = safe_full_law g c p.formed p.proper p.coarse_composites p.safe in
      let ind = (full_law g c full.0 p.formed p.proper p.coarse_composites).0 full.1 in
      let same = ind.shown x.module_no pair.border.0 pair.border.1 x.input x.output pair.input_there pair.output_there in
      subst (λ b. Path (links g c g.start (events ++ more)) (input n.name x.input) (output n.name x.output) ↔ IsTrue b) same
      (subst (λ m. Path (links g c g.start (events ++ more)) (input n.name x.input) (output n.name x.output) ↔ IsTrue (full.0 m x.input x.output)) of_module
      (joined g c full.0 p.formed ind events run n seen x.input x.output hi ho more fin))

pub pair_law : PairLaw
pair_law g c u d p x events run n seen of_module = record {
  denied = λ q. (
    (λ more fin. (fine g c u d p x events run n seen of_module q.pair more fin).1 q.fine),
    (λ more fin w. true≢false (sym ((coarse g c u d p x events run n seen of_module q.pair more fin).0 w) ∙ q.coarse)),
  );
  added = λ q. (
    (λ more fin w. true≢false (sym ((fine g c u d p x events run n seen of_module q.pair more fin).0 w) ∙ q.fine)),
    (λ more fin. (coarse g c u d p x events run n seen of_module q.pair more fin).1 q.coarse),
  );
}
