-- A module of a well-formed grammar has few ports.
use Rattle.std.proofs.Common.{◌≡◌, ℕ, ◌<◌, ◌≤◌, length, get_or, ap, ◌∙◌, arith}
use Rattle.std.proofs.lemmas.List.{get_or_default}
use Rattle.wf_model.specs.Grammar.{Grammar, Module, module_at, inputs_of, outputs_of}
use Rattle.wf_model.specs.WellFormed.{IsWellFormed}
use Rattle.wf_model.proofs.Lists.{at_in, is_at}

-- the ports of a module are few
pub few_ports : (g : Grammar) (m : ℕ) (q : Module) → IsWellFormed g → m < length g.modules → q ≡ get_or g.modules m q → (length q.inputs ≡ inputs_of g m) × (length q.inputs ≤ 64) × (length q.outputs ≡ outputs_of g m) × (length q.outputs ≤ 64)
few_ports g m q wf h e =
    let same : q ≡ module_at g m = e ∙ get_or_default g.modules m q _ h in
    let w = wf.modules (module_at g m) (at_in (module_at g m) m g.modules (is_at m g.modules _ h)) in
    let wi = w.few_inputs in
    let wo = w.few_outputs in
    let i : length q.inputs ≡ inputs_of g m = ap (λ (z : Module). length z.inputs) same in
    let o : length q.outputs ≡ outputs_of g m = ap (λ (z : Module). length z.outputs) same in
    (i, omega arith, o, omega arith)
