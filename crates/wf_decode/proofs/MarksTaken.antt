-- Marks of a label that are taken, one after another.
use Rattle.std.proofs.Common.{◌≡◌, ℕ, ◌^◌, ◌<◌, true, false, List, [], ◌∷◌, ◌++◌, length, take, drop, refl, sym, ap, ◌∙◌, subst, inl, inr, arith, append_assoc, append-nil, length-take}
use Rattle.std.proofs.lemmas.List.{take-append-drop}
use Rattle.wf_model.specs.declared.body.Step.{Step as StepHeld}
use Rattle.wf_model.specs.Grammar.{head_of, body_of}
use Rattle.wf_model.specs.View.{View, expands, IsSeenModule, at_start}
use Rattle.wf_model.specs.Reach.{Step, target_of, module_along}
use Rattle.wf_model.specs.Linear.{IsStepOf}
use Rattle.label_model.specs.Continuing.{after}
use Rattle.label_model.specs.Labels.{Label}
use Rattle.wf_recur.specs.Cycles.{step_of}
use Rattle.wf_label.specs.Marks.{Mark, Chain, Into, End}
use Rattle.wf_model.specs.OpenRoutes.{IsOpenStep, IsOpenRoute}
use Rattle.decode_model.specs.Legs.{leg_steps}
use Rattle.decode_model.proofs.Rounds.{along_after, continuing_take, module_along-append}
use Rattle.wf_model.proofs.OpenRoutes.{route_seen, open_append}
use Rattle.verdict_model.specs.Telling.{Tells}
use Rattle.verdict_model.specs.Verdicts.{IsHidden}
use Rattle.verdict_model.proofs.Naming.{Passes, names_passed}
use Rattle.verdict_model.proofs.Hiding.{AllExpanded, expanded_shown}
use Rattle.wf_vlabel.specs.Seen.{ViewLabelSeen, IsViewLabel, IsLabelOfView, is_expanded}
use Rattle.wf_decode.specs.declared.leg.Leg.{Leg as LegHeld}
use Rattle.wf_decode.specs.declared.leg.Leg.TheVariants.{Into as IntoHeld, Chain as ChainHeld}
use Rattle.wf_decode.specs.HeldLegs.{module_on, chain_from, is_whole, leg_of, held_steps, AreHeld}
use Rattle.wf_decode.specs.Reading.{IsEdgeTold}
use Rattle.wf_decode.specs.Marking.{AreMarksTo, IsReadTo, IsCutWithin, IsChainHeld}
use Rattle.wf_decode.proofs.Chains.{open_chain}
use Rattle.wf_decode.proofs.HeldRounds.{chain_steps}
use Rattle.wf_decode.proofs.LegsHeld.{either_steps}

-- a way passes each of its beginnings
passes : (front back : List Step) (p : ℕ) → (r : ℕ) × Passes (front ++ back) p front r
passes front [] p = (p, inl (append-nil front, refl))
passes front (s ∷ back) p = (s.production, inr (s, back, refl, refl))

-- the steps of a leg more
held_more : (l : ViewLabelSeen) (legs : List LegHeld) (leg : LegHeld) → held_steps l (legs ++ leg ∷ []) ≡ held_steps l legs ++ leg_steps (leg_of l leg)
held_more l [] leg = append-nil (leg_steps (leg_of l leg))
held_more l (first ∷ legs) leg = ap (λ z. leg_steps (leg_of l first) ++ z) (held_more l legs leg) ∙ sym (append_assoc (leg_steps (leg_of l first)) (held_steps l legs) (leg_steps (leg_of l leg)))

split_at : (front chain rest : List Step) (n : ℕ) → front ++ (chain ++ rest) ≡ (front ++ take n chain) ++ (drop n chain ++ rest)
split_at front chain rest n =
    ap (λ z. front ++ (z ++ rest)) (sym (take-append-drop n chain)) ∙
    (ap (λ z. front ++ z) (append_assoc (take n chain) (drop n chain) rest) ∙ sym (append_assoc front (take n chain) (drop n chain ++ rest)))

module _ (l : ViewLabelSeen) (u : View) (label : IsViewLabel l) (of_view : IsLabelOfView l u) where
  -- a label is hidden where the view does not expand a module that its address passes
  hidden_at : (x : Label) (a : List Step) (p e : ℕ) → Tells l.grammar x a p e → (front back : List Step) → a ≡ front ++ back → is_expanded l (module_along l.grammar l.grammar.start front) ≡ false → IsHidden l.grammar u x
  hidden_at x a p e tells front back is h =
      let q = passes front back p in
      (front, q.0, names_passed l.grammar label.formed x a p e tells front q.0 (subst (λ z. Passes z p front q.0) (sym is) q.1), of_view.expanded (module_along l.grammar l.grammar.start front) ∙ h)

  module _ (x : Label) (legs : List LegHeld) (m : ℕ) where
    seen : (marks : List Mark) → IsReadTo l u x legs m marks → IsSeenModule l.grammar u m
    seen marks r = subst (IsSeenModule l.grammar u) r.at (route_seen l.grammar u l.grammar.start r.gone (at_start refl) r.open_route)

    pub hidden_here : (marks : List Mark) → IsReadTo l u x legs m marks → is_expanded l m ≡ false → IsHidden l.grammar u x
    hidden_here marks r h = hidden_at x r.address r.production r.edge r.tells r.gone r.rest r.parts (ap (is_expanded l) r.at ∙ h)

    pub hidden_within : (c : ℕ) (marks : List Mark) → IsReadTo l u x legs m (Chain c ∷ marks) → IsCutWithin l m c → IsHidden l.grammar u x
    hidden_within c marks r cut =
        let g = l.grammar in
        let n = cut.0 in
        let chain = r.ahead.2.0 in
        let rest = r.ahead.2.1 in
        let part = take n chain in
        let many : length part ≡ n = omega (arith, length-take n chain, r.ahead.2.4, cut.1) in
        let goes = continuing_take g m n chain r.ahead.2.3 in
        let to : module_along g g.start (r.gone ++ part) ≡ after g n m =
        module_along-append g g.start r.gone part ∙ (ap (λ z. module_along g z part) r.at ∙ ((along_after g label.formed label.linear m part goes) ∙ ap (λ z. after g z m) many)) in
        hidden_at x r.address r.production r.edge r.tells (r.gone ++ part) (drop n chain ++ rest) (r.parts ∙ (ap (λ z. r.gone ++ z) r.ahead.2.2 ∙ split_at r.gone chain rest n)) (ap (is_expanded l) to ∙ cut.2)

    -- continuing steps are taken
    pub chain_taken : (c : ℕ) (marks : List Mark) (leg : LegHeld) (k : ℕ) → c < 2 ^ 24 → IsReadTo l u x legs m (Chain c ∷ marks) → IsChainHeld l m c leg k → IsReadTo l u x (legs ++ leg ∷ []) k marks
    chain_taken c marks (IntoHeld s) k low r h = absurd h
    chain_taken c marks (ChainHeld o j n) k low r h =
        let g = l.grammar in
        let leg = ChainHeld o j n in
        let chain = r.ahead.2.0 in
        let rest = r.ahead.2.1 in
        let goes = r.ahead.2.3 in
        let same = chain_steps g l.cycles label.formed label.linear label.cycles_are o.0 j h.0.cycle h.0.place m n chain h.0.is goes (r.ahead.2.4 ∙ sym h.1) in
        let to : module_along g m chain ≡ k = (along_after g label.formed label.linear m chain goes) ∙ (ap (λ z. after g z m) r.ahead.2.4 ∙ sym h.2.to) in
        let few : n < 2 ^ 24 = subst (λ z. z < 2 ^ 24) (sym h.1) low in
        let open_steps = open_chain g label.formed label.linear u m chain goes (seen (Chain c ∷ marks) r) (λ i small. of_view.expanded (after g i m) ∙ h.2.expanded i (omega (arith, r.ahead.2.4, small))) in
        record {
          address = r.address;
          production = r.production;
          edge = r.edge;
          tells = r.tells;
          gone = r.gone ++ chain;
          rest = rest;
          parts = r.parts ∙ (ap (λ z. r.gone ++ z) r.ahead.2.2 ∙ sym (append_assoc r.gone chain rest));
          told = true;
          ahead = subst (λ z. AreMarksTo g z true rest r.production r.edge marks) to r.ahead.2.5;
          at = module_along-append g g.start r.gone chain ∙ (ap (λ z. module_along g z chain) r.at ∙ to);
          open_route = open_append g u g.start r.gone chain r.open_route (subst (λ z. IsOpenRoute g u z chain) (sym r.at) open_steps);
          held = λ more w. subst (AreHeld l g.start false) (sym (append_assoc legs (leg ∷ []) more))
              (r.held (leg ∷ more) (r.ahead.0, h.0, few, subst (λ z. AreHeld l z true more) (sym to ∙ ap (module_along g m) same) w));
          steps = held_more l legs leg ∙ (ap (λ z. z ++ leg_steps (leg_of l leg)) r.steps ∙ ap (λ z. r.gone ++ z) (either_steps (is_whole l o.0) (module_on l.cycles o.0 j) (chain_from l.cycles o.0 j n) ∙ sym same));
        }

    -- a step of the module is open where the module is expanded
    step_open : (marks : List Mark) (s : Step) → IsReadTo l u x legs m marks → is_expanded l m ≡ true → IsStepOf l.grammar m s → IsOpenStep l.grammar u s
    step_open marks s r h of_it = record {
      in_range = of_it.in_range;
      seen = subst (IsSeenModule l.grammar u) (sym of_it.head) (seen marks r);
      expanded = ap (expands u) of_it.head ∙ (of_view.expanded m ∙ h);
      position = of_it.position;
    }

    -- a step is taken
    pub step_taken : (s : StepHeld) (marks : List Mark) → IsReadTo l u x legs m (Into (step_of s) ∷ marks) → is_expanded l (head_of l.grammar s.production.0) ≡ true → IsReadTo l u x (legs ++ IntoHeld s ∷ []) (target_of l.grammar (step_of s)) marks
    step_taken s marks r h =
        let g = l.grammar in
        let leg = IntoHeld s in
        let t = step_of s in
        let of_it = r.ahead.1 in
        let rest = r.ahead.3.0 in
        let open_step = step_open (Into t ∷ marks) t r (ap (is_expanded l) (sym of_it.head) ∙ h) of_it in
        record {
          address = r.address;
          production = r.production;
          edge = r.edge;
          tells = r.tells;
          gone = r.gone ++ t ∷ [];
          rest = rest;
          parts = r.parts ∙ (ap (λ z. r.gone ++ z) r.ahead.3.1 ∙ sym (append_assoc r.gone (t ∷ []) rest));
          told = false;
          ahead = r.ahead.3.2;
          at = module_along-append g g.start r.gone (t ∷ []);
          open_route = open_append g u g.start r.gone (t ∷ []) r.open_route (open_step, of_it.head ∙ sym r.at, tt);
          held = λ more w. subst (AreHeld l g.start false) (sym (append_assoc legs (leg ∷ []) more)) (r.held (leg ∷ more) (r.ahead.0, of_it, (λ _. r.ahead.2), w));
          steps = held_more l legs leg ∙ ap (λ z. z ++ t ∷ []) r.steps;
        }

    -- the end is taken
    pub end_taken : (q f : ℕ) (marks : List Mark) (all : List LegHeld) (n : ℕ) → take n all ≡ legs → n < length all → IsReadTo l u x legs m (End q f ∷ marks) → is_expanded l (head_of l.grammar q) ≡ true → IsEdgeTold l u x n q f all
    end_taken q f marks all n are low r h =
        let g = l.grammar in
        let of_it = r.ahead.1 in
        let whole : r.address ≡ r.gone = r.parts ∙ (ap (λ z. r.gone ++ z) r.ahead.2 ∙ append-nil r.gone) in
        let here : is_expanded l m ≡ true = ap (is_expanded l) (sym of_it.1 ∙ ap (head_of g) (sym r.ahead.3)) ∙ h in
        let last : expands u (module_along g g.start r.gone) ≡ true = ap (expands u) r.at ∙ (of_view.expanded m ∙ here) in
        let told : IsEdgeTold l u x n r.production r.edge all = record {
          address = r.address;
          tells = r.tells;
          shown = expanded_shown g label.formed u x r.address r.production r.edge r.tells (subst (AllExpanded g u g.start) (sym whole) (r.open_route, last));
          room = low;
          legs_to = λ s by_it position.
              let t = step_of s in
              let is : IsStepOf g m t = record {
                in_range = subst (λ z. z < length g.productions) (sym by_it) of_it.0;
                head = ap (head_of g) by_it ∙ of_it.1;
                position = subst (λ z. s.position.0 < length (body_of g z)) (sym by_it) position;
              } in
              let open_step = step_open (End q f ∷ marks) t r here is in
              record {
                held = subst (λ z. AreHeld l g.start false (z ++ IntoHeld s ∷ [])) (sym are) (r.held (IntoHeld s ∷ []) (r.ahead.0, is, (λ some. absurd (some refl)), refl));
                steps = ap (λ z. held_steps l (z ++ IntoHeld s ∷ [])) are ∙ (held_more l legs (IntoHeld s) ∙ (ap (λ z. z ++ t ∷ []) (r.steps ∙ sym whole)));
                open_route = subst (λ z. IsOpenRoute g u g.start (z ++ t ∷ [])) (sym whole) (open_append g u g.start r.gone (t ∷ []) r.open_route (open_step, is.head ∙ sym r.at, tt));
              };
        } in
        subst (λ z. IsEdgeTold l u x n z f all) (sym r.ahead.3) (subst (λ z. IsEdgeTold l u x n r.production z all) (sym r.ahead.4) told)
