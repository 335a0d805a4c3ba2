-- What a run keeps of its instances for their labels.
use Rattle.std.proofs.Common.{◌≡◌, ℕ, true, List, [], ◌∷◌, ◌++◌, flat_map, refl, sym, ap, ◌∙◌, append-nil}
use Rattle.std.proofs.lemmas.List.Concat.{flat_map-append}
use Rattle.wf_model.specs.Lists.{IsIn}
use Rattle.wf_model.specs.Grammar.{Grammar, head_of, alternative_of}
use Rattle.wf_model.specs.WellFormed.{IsWellFormed}
use Rattle.wf_model.specs.declared.event.Event.{Event}
use Rattle.wf_model.specs.declared.event.Event.TheVariants.{Expand}
use Rattle.wf_model.specs.Run.{made, names_of, CanExpand, IsRun}
use Rattle.wf_model.specs.Reach.{Step, module_along}
use Rattle.wf_model.proofs.Runs.{AllExtend-append}
use Rattle.label_model.specs.Continuing.{continuing}
use Rattle.label_model.specs.Labels.{PlaceStep, step_bits, ending_bits, prefix_bits, label_bits}
use Rattle.label_model.specs.Places.{steps_from, chain_from}
use Rattle.label_model.specs.RunLabels.{address_in}
use Rattle.label_model.specs.RunLaws.{Keeps, PrefixInRunLaw}
use Rattle.label_model.proofs.StepsTold.{prefix_law}
use Rattle.label_model.proofs.LookingBack.{address_child}
use Rattle.label_model.proofs.InstanceAddresses.{kept_in, instance_law}

-- one step more
prefix_bits-more : (steps : List PlaceStep) (s : PlaceStep) → prefix_bits (steps ++ s ∷ []) ≡ prefix_bits steps ++ step_bits s
prefix_bits-more steps s = ap (λ z. true ∷ z) (flat_map-append step_bits steps (s ∷ []) ∙ ap (λ z. flat_map step_bits steps ++ z) (append-nil (step_bits s)))

module _ (g : Grammar) (wf : IsWellFormed g) (events : List Event) (i : List ℕ) (p : ℕ) (names : List (List ℕ)) (run : IsRun g g.start (events ++ Expand i p names ∷ [])) where
  can : CanExpand g g.start events i p names
  can = (AllExtend-append g g.start [] events (Expand i p names ∷ []) run).1.0

  -- the module of the instance that is expanded is the head
  along : module_along g g.start (address_in events i) ≡ head_of g p
  along = (instance_law g g.start events (Expand i p names ∷ []) (record { name = i; module_no = head_of g p }) run can.stands).ends

  -- an instance that is there keeps its address
  kept : (n : List ℕ) → IsIn n (names_of (made g g.start events)) → address_in (events ++ Expand i p names ∷ []) n ≡ address_in events n
  kept n h = kept_in g g.start (Expand i p names ∷ []) events n (AllExtend-append g g.start [] events (Expand i p names ∷ []) run).1 h

  keeps : Keeps g events i p names
  unfolding label_bits
  keeps = record {
    old = λ n bits chain h q. record {
      bits_are = q.bits_are ∙ ap (λ a. prefix_bits (steps_from g g.start 0 a)) (sym (kept n h));
      chain_is = q.chain_is ∙ ap (λ a. chain_from g g.start 0 a) (sym (kept n h));
    };
    goes_on = λ n k bits c at e q.
        let a = address_child events i p names n k can.differ at in
        let l = (prefix_law g wf g.start (address_in events i)).goes_on (record { production = p; position = k }) c (ap (λ z. continuing g z) along ∙ e) (sym q.chain_is) in
        record {
          bits_are = q.bits_are ∙ (ap prefix_bits (sym l.0) ∙ ap (λ a. prefix_bits (steps_from g g.start 0 a)) (sym a));
          chain_is = sym l.1 ∙ ap (λ a. chain_from g g.start 0 a) (sym a);
        };
    leaves = λ n k bits chain at e q.
        let a = address_child events i p names n k can.differ at in
        let s : Step = record { production = p; position = k } in
        let l = (prefix_law g wf g.start (address_in events i)).leaves s (λ w. e (ap (λ z. continuing g z) (sym along) ∙ w)) in
        let t : PlaceStep = record { chain = chain_from g g.start 0 (address_in events i); alternative = alternative_of g p; position = k } in
        record {
          bits_are =
              ap (λ c. bits ++ step_bits (record { chain = c; alternative = alternative_of g p; position = k })) q.chain_is ∙
              (ap (λ b. b ++ step_bits t) q.bits_are ∙ (sym (prefix_bits-more (steps_from g g.start 0 (address_in events i)) t) ∙
              (ap prefix_bits (sym l.0) ∙ ap (λ a. prefix_bits (steps_from g g.start 0 a)) (sym a))));
          chain_is = sym l.1 ∙ ap (λ a. chain_from g g.start 0 a) (sym a);
        };
    label = λ e bits chain q. ap (λ b. b ++ ending_bits (chain_from g g.start 0 (address_in (events ++ Expand i p names ∷ []) i)) (alternative_of g p) e) (sym q.bits_are) ∙ ap (λ c. bits ++ ending_bits c (alternative_of g p) e) (sym q.chain_is);
  }

pub prefix_in_run_law : PrefixInRunLaw
unfolding address_in
prefix_in_run_law g wf = record {
  root = λ r. record { bits_are = refl; chain_is = refl };
  keeps = λ events i p names run. keeps g wf events i p names run;
}
