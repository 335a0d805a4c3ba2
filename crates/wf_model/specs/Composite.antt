-- Composite modules, as a test.
use Rattle.std.specs.Prelude.{ℕ, Bool, ◌==◌}
use Rattle.wf_model.specs.Lists.{some}
use Rattle.wf_model.specs.Grammar.{Grammar, Production}

-- some production has the module as its head
abbrev pub is_composite : Grammar → ℕ → Bool
is_composite g m = some (λ (r : Production). r.head == m) g.productions
