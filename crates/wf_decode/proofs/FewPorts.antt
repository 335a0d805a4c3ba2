-- No module has more than 64 ports on a side.
use Rattle.std.proofs.Common.{ℕ, zero, suc, ◌≤◌, List, [], ◌∷◌, length, get_or, refl, inl, inr, arith}
use Rattle.wf_model.specs.Lists.{IsIn}
use Rattle.wf_model.specs.Grammar.{Grammar, Module, inputs_of, outputs_of}
use Rattle.wf_model.specs.WellFormed.{IsWellFormed, IsWellFormedModule}

few_at : (ms : List Module) (k : ℕ) → ((m : Module) → IsIn m ms → IsWellFormedModule m) → (length (get_or ms k (record { name = []; inputs = []; outputs = [] })).inputs ≤ 64) × (length (get_or ms k (record { name = []; inputs = []; outputs = [] })).outputs ≤ 64)
few_at [] k h = (omega arith, omega arith)
few_at (m ∷ ms) zero h = let f = h m (inl refl) in (f.few_inputs, f.few_outputs)
few_at (m ∷ ms) (suc k) h = few_at ms k (λ n i. h n (inr i))

pub few_ports : (g : Grammar) → IsWellFormed g → (m : ℕ) → (inputs_of g m ≤ 64) × (outputs_of g m ≤ 64)
few_ports g wf m = few_at g.modules m wf.modules
