-- How many bits a label has at most.
use Rattle.std.specs.Prelude.{◌≡◌, ℕ, suc, ◌+◌, ◌-◌, ◌*◌, ◌<◌, max, cond, ◌&&◌, ◌==◌, List, [], ◌∷◌, length, map, count_by, Some, is_some}
use Rattle.wf_model.specs.Lists.{IsIn, numbers_from}
use Rattle.wf_model.specs.Grammar.{Grammar, Production}
use Rattle.wf_model.specs.declared.event.Event.{Event}
use Rattle.wf_model.specs.declared.event.Event.TheVariants.{Start, Expand}
use Rattle.bit_pack.specs.Gamma.{digits}
use Rattle.label_model.specs.Continuing.{continuing, is_least}
use Rattle.label_model.specs.Labels.{PlaceStep, Place}
use Rattle.wf_model.specs.Composite.{is_composite}

-- how many bits the gamma code of a number has
abbrev pub gamma_length : ℕ → ℕ
gamma_length n = 2 * digits n - 1

-- how many strong components the composite modules have: each component has one least module
abbrev pub components : Grammar → ℕ
components g = count_by (λ m. is_composite g m && is_least g m) (numbers_from 0 (length g.modules))

-- how many cycles there are
abbrev pub cycles : Grammar → ℕ
cycles g = count_by (λ m. is_some (continuing g m) && is_least g m) (numbers_from 0 (length g.modules))

-- the largest number of a list, and at least 1
abbrev pub largest : List ℕ → ℕ
largest [] = 1
largest (n ∷ ns) = max n (largest ns)

-- the largest number of productions of one head
abbrev pub most_alternatives : Grammar → ℕ
most_alternatives g = largest (map (λ m. count_by (λ (r : Production). r.head == m) g.productions) (numbers_from 0 (length g.modules)))

-- the largest number of positions of one body
abbrev pub most_positions : Grammar → ℕ
most_positions g = largest (map (λ (r : Production). length r.positions) g.productions)

-- the largest number of edges of one body
abbrev pub most_edges : Grammar → ℕ
most_edges g = largest (map (λ (r : Production). length r.edges) g.productions)

-- the part of the bound that does not depend on the run: the bits of an ending and of a step for each component but one, without chain numbers, and at least 15
abbrev pub constant_bits : Grammar → ℕ
constant_bits g =
    max 15 (2 + gamma_length (most_alternatives g) + gamma_length (most_edges g) + (components g - 1) * (1 + gamma_length (most_alternatives g) + gamma_length (most_positions g)))

-- the most bits of a label that is made at the n-th expand event: for each cycle a chain number below n comes in addition
unfoldable pub bound : Grammar → ℕ → ℕ
bound g n = constant_bits g + 2 * cycles g * digits n

-- how many bits a label has at most for each binary digit of the length of its run
abbrev pub bits_per_digit : Grammar → ℕ
bits_per_digit g = constant_bits g + 2 * cycles g

-- how many expand events there are
abbrev pub expand_events : List Event → ℕ
expand_events [] = 0
expand_events (Start r ∷ events) = expand_events events
expand_events (Expand i p names ∷ events) = suc (expand_events events)

-- how many chain numbers a place has
abbrev pub chains : Place → ℕ
chains p = count_by (λ (s : PlaceStep). is_some s.chain) p.steps + cond (is_some p.chain) 1 0

-- each chain number of a place is below n
pub record ChainsBelow (n : ℕ) (p : Place) : Type 0 where
  pub steps : (s : PlaceStep) → IsIn s p.steps → (c : ℕ) → s.chain ≡ Some c → c < n
  pub last : (c : ℕ) → p.chain ≡ Some c → c < n

-- the most bits of a label that an event makes, where n is the number of the expand events up to it
abbrev pub most_bits : Grammar → Event → ℕ → ℕ
most_bits g (Start r) n = 15
most_bits g (Expand i p names) n = bound g n
