-- A chain tells that one item depends on another in every finishing of a run.
use Rattle.std.proofs.Common.{◌≡◌, ℕ, ◌<◌, false, ◌↔◌, ◌≢◌, List, [], ◌++◌, Option, Some, None, refl, sym, ap, ◌∙◌, subst}
use Rattle.std.proofs.lemmas.Option.{same_Some}
use Rattle.wf_model.specs.Lists.{IsIn}
use Rattle.wf_model.specs.Grammar.{Grammar, inputs_of, outputs_of}
use Rattle.wf_model.specs.View.{View, expands, shows, IsSeenModule, at_start}
use Rattle.wf_model.specs.declared.event.Event.{Event}
use Rattle.wf_model.specs.Run.{Instance, IsRun, seen_in, root_of}
use Rattle.wf_model.specs.Links.{Port, input, output, links_with, links, Path}
use Rattle.wf_model.specs.Items.{items, PathBetween, Depends}
use Rattle.wf_model.specs.Safe.{IsInduced}
use Rattle.wf_model.specs.Finishing.{IsFinishing}
use Rattle.wf_model.proofs.OpenRoutes.{route_seen}
use Rattle.wf_laws.proofs.Agreeing.{route_law}
use Rattle.wf_laws.proofs.Address.{seen_law}
use Rattle.wf_laws.proofs.Depends.{items_law}
use Rattle.wf_laws.proofs.Full.{full_law}
use Rattle.wf_laws.proofs.Growth.{finishing_law}
use Rattle.wf_laws.proofs.Reach.{pending_law}
use Rattle.verdict_model.proofs.Hiding.{open_along, along_address}
use Rattle.chain_model.specs.Chains.{HasItemChain}
use Rattle.chain_model.specs.Laws.{ChainLaw}
use Rattle.chain_model.proofs.ChainPaths.{chain_of_path, path_of_chain, chain_consumed, chain_produced}

-- the module of a seen instance is seen
pub seen_module : (g : Grammar) (u : View) (events : List Event) → IsRun g g.start events → (n : Instance) → IsIn n (seen_in g u g.start events) → IsSeenModule g u n.module_no
seen_module g u events run n h =
    let started : events ≢ [] = λ q. subst (λ z. IsIn n (seen_in g u g.start z)) q h in
    let s = (seen_law g u g.start events n run started).0 h in
    let r = route_law g g.start events run started s.0 n.name (along_address g u events s.0 (root_of events) n.name s.1) in
    subst (IsSeenModule g u) s.2 (route_seen g u g.start s.0 (at_start refl) (open_along g u events g.start s.0 (root_of events) n.name r.route (at_start refl) s.1))

none_chain : {A : Type 0} (o : Option (Port (List ℕ))) → o ≡ None → (p : Port (List ℕ)) × (o ≡ Some p) → A
none_chain o e q = let z = sym e ∙ q.1 in absurd (cc)

pub chain_law : ChainLaw
chain_law g u d wf proper ec full events run x y hx hy vx vy =
    record {
      in_any = any;
      in_each = ((λ c more fin. (any more fin).0 c), (λ f. (any some_end.0 some_end.1).1 (f some_end.0 some_end.1)));
      in_one = ((λ c. (some_end.0, some_end.1, (any some_end.0 some_end.1).0 c)), (λ q. (any q.0 q.1).1 q.2));
    }
  where
    some_end : (more : List Event) × IsFinishing g u g.start events more
    some_end = finishing_law g u proper ec g.start events run

    started : events ≢ []
    started q = subst (λ z. IsIn x (items g g.start z)) q hx

    induced : IsInduced g u d
    induced = (full_law g u d wf proper ec).0 full

    known : (n : Instance) → IsIn n (seen_in g u g.start events) → expands u n.module_no ≡ false → (i o : ℕ) → i < inputs_of g n.module_no → o < outputs_of g n.module_no → d n.module_no i o ≡ shows u n.module_no i o
    known n h = induced.shown n.module_no (seen_module g u events run n h)

    any : (more : List Event) → IsFinishing g u g.start events more → HasItemChain g u d g.start events x y ↔ Depends g u (events ++ more) x y
    any more fin = go x.consumed y.produced refl refl
      where
        go : (p q : Option (Port (List ℕ))) → x.consumed ≡ p → y.produced ≡ q → HasItemChain g u d g.start events x y ↔ PathBetween g u g.start (events ++ more) p q
        go None q ep eq = ((λ c. none_chain x.consumed ep (chain_consumed g u g.start events d x y c)), (λ w. absurd w))
        go (Some p) None ep eq = ((λ c. none_chain y.produced eq (chain_produced g u g.start events d x y c)), (λ w. absurd w))
        go (Some p) (Some q) ep eq =
            let cs = (items_law g u wf g.start events run started x hx vx).consumed p ep in
            let pt = (items_law g u wf g.start events run started y hy vy).produced q eq in
            let i : Port (List ℕ) = input cs.2.instance cs.1 in
            let o : Port (List ℕ) = output pt.2.instance pt.1 in
            let sp : p ≡ input cs.2.instance cs.1 = same_Some p i (sym ep ∙ cs.2.port) in
            let sq : q ≡ output pt.2.instance pt.1 = same_Some q o (sym eq ∙ pt.2.port) in
            let law = pending_law g u d wf induced g.start (at_start refl) events more started run fin cs.0 pt.0 cs.2.instance pt.2.instance cs.2.along pt.2.along cs.1 pt.1 cs.2.in_range pt.2.in_range in
            let there : Path (links_with g u d g.start events) p q → Path (links g u g.start (events ++ more)) p q =
            λ w. subst (λ z. Path (links g u g.start (events ++ more)) z q) (sym sp) (subst (λ z. Path (links g u g.start (events ++ more)) (input cs.2.instance cs.1) z) (sym sq)
            (law.0 (subst (λ z. Path (links_with g u d g.start events) z (output pt.2.instance pt.1)) sp (subst (λ z. Path (links_with g u d g.start events) p z) sq w)))) in
            let back : Path (links g u g.start (events ++ more)) p q → Path (links_with g u d g.start events) p q =
            λ w. subst (λ z. Path (links_with g u d g.start events) z q) (sym sp) (subst (λ z. Path (links_with g u d g.start events) (input cs.2.instance cs.1) z) (sym sq)
            (law.1 (subst (λ z. Path (links g u g.start (events ++ more)) z (output pt.2.instance pt.1)) sp (subst (λ z. Path (links g u g.start (events ++ more)) p z) sq w)))) in (
              (λ c. there (path_of_chain g u g.start events d run known x y c p q ep eq)),
              (λ w. chain_of_path g u g.start events d run known x y p q hy vy ep (ap (λ (z : Port (List ℕ)). z.side) sp) eq (ap (λ (z : Port (List ℕ)). z.side) sq) (back w)),
            )
