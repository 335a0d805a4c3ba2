-- The modules that stand in a body.
use Rattle.std.specs.Prelude.{ℕ, List, map}
use Rattle.wf_model.specs.Grammar.{Position}

-- the modules at positions
abbrev pub modules_at : List Position → List ℕ
modules_at = map (λ (q : Position). q.module_no)
