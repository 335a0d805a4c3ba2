use Rattle.std.proofs.Common.{◌≡◌, ◌++◌, take, flat_map}
use Rattle.chain_model.specs.ChainText.{name_line, step_lines}
use Rattle.wf_chain.specs.ViewedRuns.{item_in}
use Rattle.wf_chain.specs.Steps.{step_in}
use Rattle.wf_chain.proofs.viewed_run.ViewedRun.text_of.Given as goal

-- the lines of the steps so far stand behind that of the first item
abbrev pub invariant-loop-step : goal.invariant-loop-step
invariant-loop-step l = l.text.items ≡ name_line (item_in l.self l.c.first) ++ flat_map (λ s. step_lines (step_in l.self s)) (take l.step-index l.c.steps.items)
