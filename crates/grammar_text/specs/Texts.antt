-- Pieces of texts about a grammar.
use Rattle.std.specs.Prelude.{ℕ, List, ◌++◌, flat_map, codes, decimal}
use Rattle.wf_model.specs.Grammar.{Grammar}
use Rattle.wf_model.specs.Reach.{Step}
use Rattle.grammar_text.specs.Names.{position_name}

-- numbers, each behind a space
abbrev pub numbers_text : List ℕ → List ℕ
numbers_text = flat_map (λ n. codes " " ++ decimal n)

-- a word, and behind it a step: the number of its production, and the name of its position
abbrev pub step_text : List ℕ → Grammar → Step → List ℕ
step_text word g s = (word ++ decimal s.production) ++ (codes " " ++ position_name g s)
