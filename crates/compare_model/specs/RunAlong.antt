-- The run along a list of steps: it has the instances on the way and what is made beside them, numbered as they are made.
use Rattle.std.specs.Prelude.{ℕ, ◌+◌, List, [], ◌∷◌, length}
use Rattle.wf_model.specs.Grammar.{Grammar, body_of}
use Rattle.wf_model.specs.declared.event.Event.{Event}
use Rattle.wf_model.specs.declared.event.Event.TheVariants.{Start, Expand}
use Rattle.wf_model.specs.Reach.{Step}
use Rattle.numbered_names.specs.Names.{numbered_name, numbered_names}

-- the events by which the steps are gone from the instance of number `here`, where `next` instances were made before
abbrev pub expand_along : Grammar → ℕ → ℕ → List Step → List Event
expand_along g next here [] = []
expand_along g next here (s ∷ steps) =
    Expand (numbered_name here) s.production (numbered_names next (length (body_of g s.production))) ∷
    expand_along g (next + length (body_of g s.production)) (next + s.position) steps

-- the number of the instance to which they lead
abbrev pub number_along : Grammar → ℕ → ℕ → List Step → ℕ
number_along g next here [] = here
number_along g next here (s ∷ steps) = number_along g (next + length (body_of g s.production)) (next + s.position) steps

-- the run along the steps, from the root, which has the number 0
abbrev pub run_along : Grammar → List Step → List Event
run_along g steps = Start (numbered_name 0) ∷ expand_along g 1 0 steps

-- the name of the instance to which the steps lead in it
abbrev pub name_along : Grammar → List Step → List ℕ
name_along g steps = numbered_name (number_along g 1 0 steps)
