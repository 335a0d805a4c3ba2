use Rattle.std.proofs.Common.{◌<◌, ◌≤◌, ◌++◌, List, length, get_or, take, flat_map, sym, ap, subst, ◌∙◌, append_assoc, append-nil}
use Rattle.std.proofs.lemmas.List.{take_all}
use Rattle.std.specs.Prelude.{codes, None}
use Rattle.wf_spec.specs.Held.{HeldGrammar}
use Rattle.wf_flat.specs.Item.{IsItemWithin}
use Rattle.chain_model.specs.ChainText.{name_line, step_lines}
use Rattle.wf_chain.specs.declared.chain.ChainStep.{ChainStep}
use Rattle.wf_chain.specs.ViewedRuns.{ViewedRunValue, grammar_in, item_in}
use Rattle.wf_chain.specs.HeldItems.{item_name}
use Rattle.wf_chain.specs.Steps.{step_in, step_of}
use Rattle.wf_chain.proofs.ReadLists.{read_in, flat_map_read}
use Rattle.wf_chain.proofs.Texts.{lines_of_steps}
use Rattle.wf_chain.proofs.viewed_run.ViewedRun.text_of.Goals as goal

abbrev no_step : ChainStep
no_step = record { via = 0; item = record { maker = None; from = None; to = None } }

pub loop-step-init : goal.loop-step-init
loop-step-init c =
    let i = c.args.c.now.first in
    let name = ap (λ (h : HeldGrammar). item_name h.core c.self.inside.run.now i ++ codes "\n") c.grammar.ensures.grammar ∙ ap (λ (w : ViewedRunValue). item_name (grammar_in w) w.run i ++ codes "\n") c.self.view_is in
    c.in_ok-add_item.ensures ∙ (ap (λ l. l ++ (item_name c.grammar.result.now.core c.self.inside.run.now i ++ codes "\n")) c.new-text.ensures.items ∙ (name ∙ sym (append-nil (name_line (item_in c.args.self.now i)))))

pub add_step-requires-clause-via : goal.add_step-requires-clause-via
add_step-requires-clause-via c =
    let there = read_in c.deref-step-items.result.now c.args.c.now.steps.items c.loop-step.step-index no_step c.deref-step-items.ensures.value c.loop-step-test.true in
    let s = get_or c.deref-step-items.result.now c.loop-step.step-index no_step in
    subst (λ (w : ViewedRunValue). s.via < length w.run.instances) (sym c.self.view_is) (c.requires.steps s there).via

pub add_step-requires-clause-within : goal.add_step-requires-clause-within
add_step-requires-clause-within c =
    let there = read_in c.deref-step-items.result.now c.args.c.now.steps.items c.loop-step.step-index no_step c.deref-step-items.ensures.value c.loop-step-test.true in
    let s = get_or c.deref-step-items.result.now c.loop-step.step-index no_step in
    subst (λ (w : ViewedRunValue). IsItemWithin (length w.run.instances) s.item) (sym c.self.view_is) (c.requires.steps s there).item.within

pub loop-step-preserved : goal.loop-step-preserved
loop-step-preserved c =
    let v = c.args.self.now in
    let items = c.args.c.now.steps.items in
    let s = get_or c.deref-step-items.result.now c.loop-step.step-index no_step in
    let first = name_line (item_in v c.args.c.now.first) in
    let lines = λ (s : ChainStep). step_lines (step_in v s) in
    let same = λ (s : ChainStep). ap (λ (h : HeldGrammar). step_of h.core c.self.inside.run.now s) c.grammar-in-loop-step.ensures.grammar ∙ ap (λ (w : ViewedRunValue). step_of (grammar_in w) w.run s) c.self.view_is in
    c.in_ok-add_step.ensures ∙ ((λ z. c.loop-step.invariant z ++ step_lines (same s z))
    ∙ (append_assoc first (flat_map lines (take c.loop-step.step-index items)) (lines s)
    ∙ ap (λ l. first ++ l) (sym (flat_map_read c.deref-step-items.result.now items c.loop-step.step-index no_step c.deref-step-items.ensures.value c.loop-step-test.true lines))))

pub returns : goal.returns
returns c =
    let v = c.args.self.now in
    let items = c.args.c.now.steps.items in
    let past = subst (λ (l : List ChainStep). length l ≤ c.loop-step.step-index) c.deref-step-items.ensures.value c.loop-step-test.false in
    c.loop-step.invariant ∙ ap (λ l. name_line (item_in v c.args.c.now.first) ++ l)
    (ap (λ (l : List ChainStep). flat_map (λ s. step_lines (step_in v s)) l) (take_all c.loop-step.step-index items past) ∙ lines_of_steps v items)
