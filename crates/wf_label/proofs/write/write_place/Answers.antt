use Rattle.std.proofs.Common.{◌≡◌, true, [], ◌∷◌, ◌++◌, Bool, List, OnOk, map, take, flat_map, ap, ◌∙◌, subst, append_assoc}
use Rattle.std.proofs.lemmas.List.{take_all}
use Rattle.label_model.specs.Labels.{step_bits, ending_bits, label_bits}
use Rattle.wf_label.specs.Values.{place_step_of}
use Rattle.wf_label.proofs.write.write_place.Goals as goal

-- a one, some bits and some more stand behind the first
behind : (w x y : List Bool) → ((w ++ true ∷ []) ++ x) ++ y ≡ w ++ ((true ∷ x) ++ y)
behind w x y = ap (λ z. z ++ y) (append_assoc w (true ∷ []) x) ∙ append_assoc w (true ∷ x) y

pub returns-clause-ok : goal.returns-clause-ok
unfolding label_bits
returns-clause-ok c =
    let p = c.args.place.now in
    let e = ending_bits p.chain p.alternative p.edge.0 in
    let all : take c.loop-step.step-index c.items-step-items.result.now ≡ p.steps = take_all c.loop-step.step-index c.items-step-items.result.now c.loop-step-test.false ∙ c.items-step-items.ensures in
    let same = ap (λ z. z ++ e) (c.loop-step.invariant.bits ∙ ap (λ z. (c.args.w.now ++ true ∷ []) ++ flat_map step_bits (map place_step_of z)) all) ∙ behind c.args.w.now (flat_map step_bits (map place_step_of p.steps)) e in
    subst (λ z. OnOk c.write_ending.result (c.write_ending.new.w ≡ z)) same c.write_ending.ensures.ok
