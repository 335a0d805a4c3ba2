-- The place of an address and an ending: which steps are told of an address, and with which chain numbers.
use Rattle.std.specs.Prelude.{ℕ, ◌+◌, ◌<◌, length, cond, List, [], ◌∷◌, ◌++◌, Option, Some, None}
use Rattle.wf_model.specs.Grammar.{Grammar, production_at, alternative_of, IsProductionOf}
use Rattle.wf_model.specs.Reach.{Step, target_of, module_along}
use Rattle.wf_model.specs.Routes.{IsRoute}
use Rattle.label_model.specs.Continuing.{continuing, continues}
use Rattle.label_model.specs.Labels.{PlaceStep, Place}

-- a number of continuing steps is told where there is a continuing step
abbrev pub chain_by : Option Step → ℕ → Option ℕ
chain_by None c = None
chain_by (Some s) c = Some c

-- the chain number at the module m after c continuing steps: none where m is on no cycle
abbrev pub chain_at : Grammar → ℕ → ℕ → Option ℕ
chain_at g m c = chain_by (continuing g m) c

-- a continuing step is counted, and after any other step the count begins anew
abbrev pub count_after : Grammar → ℕ → ℕ → Step → ℕ
count_after g m c s = cond (continues g m s) (c + 1) 0

-- a step that is not the continuing one is told, with the chain number before it
abbrev pub told : Grammar → ℕ → ℕ → Step → List PlaceStep
told g m c s =
    cond (continues g m s) [] (record { chain = chain_at g m c; alternative = alternative_of g s.production; position = s.position } ∷ [])

-- the steps of the place of an address, from the module m on, after c continuing steps
abbrev pub steps_from : Grammar → ℕ → ℕ → List Step → List PlaceStep
steps_from g m c [] = []
steps_from g m c (s ∷ a) = told g m c s ++ steps_from g (target_of g s) (count_after g m c s) a

-- the chain number where the address ends
abbrev pub chain_from : Grammar → ℕ → ℕ → List Step → Option ℕ
chain_from g m c [] = chain_at g m c
chain_from g m c (s ∷ a) = chain_from g (target_of g s) (count_after g m c s) a

-- the place at the module m of an address and an ending, which is a production and one of its edges
abbrev pub place_of : Grammar → ℕ → List Step → ℕ → ℕ → Place
place_of g m a p e = record { steps = steps_from g m 0 a; chain = chain_from g m 0 a; alternative = alternative_of g p; edge = e }

-- an instance of m could be left by the steps, and the instance to which they lead could be expanded by the production, which has the edge
pub record IsEnding (g : Grammar) (m : ℕ) (a : List Step) (p e : ℕ) : Type 0 where
  pub route : IsRoute g m a
  pub of_it : IsProductionOf g p (module_along g m a)
  pub edge : e < length (production_at g p).edges
