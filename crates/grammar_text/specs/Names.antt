-- The names of the parts of a grammar, by their numbers, and none past the end.
use Rattle.std.specs.Prelude.{ℕ, List, [], get_or}
use Rattle.wf_model.specs.Grammar.{Grammar, module_at, production_at}
use Rattle.wf_model.specs.Reach.{Step}

-- the name of a module, and those of its ports
abbrev pub name_of : Grammar → ℕ → List ℕ
name_of g m = (module_at g m).name

abbrev pub input_name : Grammar → ℕ → ℕ → List ℕ
input_name g m i = get_or (module_at g m).inputs i []

abbrev pub output_name : Grammar → ℕ → ℕ → List ℕ
output_name g m o = get_or (module_at g m).outputs o []

-- the name of the position to which a step leads
abbrev pub position_name : Grammar → Step → List ℕ
position_name g s = (get_or (production_at g s.production).positions s.position (record { name = []; module_no = 0 })).name
