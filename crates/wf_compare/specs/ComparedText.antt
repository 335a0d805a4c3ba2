-- The text of what is told of two views.
use Rattle.std.specs.Prelude.{ℕ, List, ◌++◌, flat_map, codes}
use Rattle.wf_model.specs.Grammar.{Grammar}
use Rattle.grammar_text.specs.Names.{name_of, input_name, output_name}
use Rattle.wf_gen.specs.Lines.{event_line}
use Rattle.compare_model.specs.declared.compared.Compared.{Compared}
use Rattle.compare_model.specs.declared.compared.Compared.TheVariants.{Denied, Extra, Exact}

-- the names of a module, an input and an output of it, each behind a space
abbrev pub pair_text : Grammar → ℕ → ℕ → ℕ → List ℕ
pair_text g m i o = (codes " " ++ name_of g m) ++ ((codes " " ++ input_name g m i) ++ (codes " " ++ output_name g m o))

-- the line of a pair that is denied, and of the instance that shows it
abbrev pub denied_line : Grammar → ℕ → ℕ → ℕ → List ℕ → List ℕ
denied_line g m i o n = codes "no" ++ (pair_text g m i o ++ ((codes " " ++ n) ++ codes "\n"))

-- the lines of a pair that is added
abbrev pub extra_text : Grammar → ℕ → ℕ → ℕ → List ℕ
extra_text g m i o = codes "yes\nextra" ++ (pair_text g m i o ++ codes "\n")

-- what is told of two views: `no` with the pair and the instance, and the lines of the run, as those of a generated run are written; or `yes`, and `extra` with the pair, or `exact`
abbrev pub compared_text : Grammar → Compared → List ℕ
compared_text g (Denied m i o n run) = denied_line g m.0 i.0 o.0 n ++ flat_map event_line run
compared_text g (Extra m i o) = extra_text g m.0 i.0 o.0
compared_text g Exact = codes "yes\nexact\n"
