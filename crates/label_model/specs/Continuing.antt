-- What a module derives, and its continuing step, as they are computed from a grammar.
use Rattle.std.specs.Prelude.{ℕ, zero, suc, Bool, false, cond, not, ◌||◌, ◌&&◌, ◌==◌, List, [], map, length, flat_map, find, Option, Some, None}
use Rattle.wf_model.specs.Lists.{some, numbers_from}
use Rattle.wf_model.specs.Grammar.{Grammar, head_of, body_of}
use Rattle.wf_model.specs.Reach.{Step, target_of}

-- the modules in the bodies of a module
abbrev pub makes : Grammar → ℕ → List ℕ
makes g m = flat_map (λ p. cond (head_of g p == m) (body_of g p) []) (numbers_from 0 (length g.productions))

-- at most n steps lead from a to b
unfoldable pub derives_within : Grammar → ℕ → ℕ → ℕ → Bool
derives_within g zero a b = a == b
derives_within g (suc n) a b = (a == b) || some (λ k. derives_within g n k b) (makes g a)

-- steps lead from a to b; no more are needed than there are modules
unfoldable pub derives : Grammar → ℕ → ℕ → Bool
derives g a b = derives_within g (length g.modules) a b

-- the steps of a module, by production and then by position
abbrev pub steps_of : Grammar → ℕ → List Step
steps_of g m =
    flat_map (λ p. cond (head_of g p == m) (map (λ k. record { production = p; position = k }) (numbers_from 0 (length (body_of g p)))) [])
    (numbers_from 0 (length g.productions))

-- the first step of a module whose target derives the module: in a strictly linear grammar the only one
unfoldable pub continuing : Grammar → ℕ → Option Step
continuing g m = find (λ s. derives g (target_of g s) m) (steps_of g m)

-- the step is there, and is this one
abbrev pub is_step : Option Step → Step → Bool
is_step None s = false
is_step (Some t) s = (t.production == s.production) && (t.position == s.position)

-- s is the continuing step of m
abbrev pub continues : Grammar → ℕ → Step → Bool
continues g m s = is_step (continuing g m) s

-- the target of a step, and m itself where there is none
abbrev pub next_by : Grammar → ℕ → Option Step → ℕ
next_by g m None = m
next_by g m (Some s) = target_of g s

-- the module to which n continuing steps lead from m
abbrev pub after : Grammar → ℕ → ℕ → ℕ
after g zero m = m
after g (suc n) m = after g n (next_by g m (continuing g m))

-- no lower module derives m and is derived by it
abbrev pub is_least : Grammar → ℕ → Bool
is_least g m = not (some (λ k. derives g k m && derives g m k) (numbers_from 0 m))
