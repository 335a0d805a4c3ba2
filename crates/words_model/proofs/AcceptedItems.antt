-- Whether a path with an accepted word joins two items is told by their addresses.
use Rattle.std.proofs.Common.{◌≡◌, ◌↔◌, ℕ, ◌<◌, List, [], ◌∷◌, get_or, Option, Some, refl, sym, ap, ◌∙◌, subst}
use Rattle.std.proofs.Math.Arith.{digits_lt}
use Rattle.wf_model.specs.Lists.{IsIn}
use Rattle.wf_model.specs.Grammar.{Grammar, inputs_of, outputs_of}
use Rattle.wf_model.specs.View.{View, expands, at_start}
use Rattle.wf_model.specs.declared.event.Event.{Event}
use Rattle.wf_model.specs.Run.{root_of}
use Rattle.wf_model.specs.Links.{Port, input, output, links, Path}
use Rattle.wf_model.specs.Reach.{Step, module_along, IsAlong, Reaches}
use Rattle.wf_laws.proofs.Reach.{crossing_law}
use Rattle.words_model.specs.Automata.{Automaton, state_after}
use Rattle.words_model.specs.Words.{AcceptsBetween}
use Rattle.words_model.specs.Lifting.{in_state, lift, lift_view}
use Rattle.words_model.specs.Laws.{AcceptedLaw}
use Rattle.words_model.proofs.LiftedParts.{lifted_head, lifted_inputs, lifted_outputs, lifted_along}
use Rattle.words_model.proofs.LiftedRuns.{lifted_run_law}
use Rattle.words_model.proofs.LiftedPaths.{back, lifted_path_law}

along_lifted : (g : Grammar) (u : View) (a : Automaton) (events : List Event) (p : List Step) (n x : List ℕ) → IsAlong g u events n p x → IsAlong (lift g a.states) (lift_view a u) events n p x
along_lifted g u a events [] n x h = h
along_lifted g u a events (s ∷ p) n x h = (h.0, h.1, h.2, ap (expands u) (lifted_head g a.states s.production) ∙ h.3, along_lifted g u a events p (get_or h.0 s.position []) x h.4)

pub accepted_law : AcceptedLaw
accepted_law g u a d ia wf ind events ex x y p q i o cs pt =
    ((λ w. to_reach (ports_there x.consumed y.produced cs.port pt.port w)), (λ r. ports_back x.consumed y.produced cs.port pt.port (from_reach r)))
  where
    ports_there : (c r : Option (Port (List ℕ))) → c ≡ Some (input cs.instance i) → r ≡ Some (output pt.instance o) → AcceptsBetween g u a g.start events c r → AcceptsBetween g u a g.start events (Some (input cs.instance i)) (Some (output pt.instance o))
    ports_there c r ec er w = subst (λ z. AcceptsBetween g u a g.start events (Some (input cs.instance i)) z) er (subst (λ z. AcceptsBetween g u a g.start events z r) ec w)

    ports_back : (c r : Option (Port (List ℕ))) → c ≡ Some (input cs.instance i) → r ≡ Some (output pt.instance o) → AcceptsBetween g u a g.start events (Some (input cs.instance i)) (Some (output pt.instance o)) → AcceptsBetween g u a g.start events c r
    ports_back c r ec er w = subst (λ z. AcceptsBetween g u a g.start events z r) (sym ec) (subst (λ z. AcceptsBetween g u a g.start events (Some (input cs.instance i)) z) (sym er) w)

    law : (t : ℕ) → t < a.states → Path (links (lift g a.states) (lift_view a u) g.start events) (input cs.instance (in_state a.states a.start i)) (output pt.instance (in_state a.states t o)) ↔ Reaches (lift g a.states) d g.start p q (in_state a.states a.start i) (in_state a.states t o)
    law t ht =
        crossing_law (lift g a.states) (lift_view a u) d wf ind g.start (at_start refl) events ((lifted_run_law g u a g.start events).whole.0 ex) p q cs.instance pt.instance
        (along_lifted g u a events p (root_of events) cs.instance cs.along) (along_lifted g u a events q (root_of events) pt.instance pt.along) (in_state a.states a.start i) (in_state a.states t o)
        (subst (λ z. in_state a.states a.start i < z) (sym (lifted_inputs g a.states (module_along (lift g a.states) g.start p))) (digits_lt (subst (λ z. i < inputs_of g z) (sym (lifted_along g a.states g.start p)) cs.in_range) ia.start))
        (subst (λ z. in_state a.states t o < z) (sym (lifted_outputs g a.states (module_along (lift g a.states) g.start q))) (digits_lt (subst (λ z. o < outputs_of g z) (sym (lifted_along g a.states g.start q)) pt.in_range) ht))

    to_reach : AcceptsBetween g u a g.start events (Some (input cs.instance i)) (Some (output pt.instance o)) → (t : ℕ) × IsIn t a.accept × Reaches (lift g a.states) d g.start p q (in_state a.states a.start i) (in_state a.states t o)
    to_reach w = (state_after a a.start w.0, w.2, (law (state_after a a.start w.0) (ia.accept (state_after a a.start w.0) w.2)).0 (back g u a ia g.start events w.1 a.start ia.start))

    from_reach : (t : ℕ) × IsIn t a.accept × Reaches (lift g a.states) d g.start p q (in_state a.states a.start i) (in_state a.states t o) → AcceptsBetween g u a g.start events (Some (input cs.instance i)) (Some (output pt.instance o))
    from_reach r =
        let ht = ia.accept r.0 r.1 in
        let v = (lifted_path_law g u a ia g.start events (input cs.instance i) (output pt.instance o) a.start r.0 ia.start ht).0 ((law r.0 ht).1 r.2) in
        (v.0, v.1, subst (λ z. IsIn z a.accept) (sym v.2) r.1)
