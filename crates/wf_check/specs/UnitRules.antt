-- The unit productions of a grammar.
use Rattle.std.specs.Prelude.{ℕ, ◌<◌, List, [], ◌∷◌, length, Option, Some, None}
use Rattle.std.specs.List.{filter_map}
use Rattle.wf_model.specs.Lists.{IsIn, numbers_from}
use Rattle.wf_model.specs.Grammar.{Grammar, body_of, head_of}
use Rattle.wf_check.specs.declared.unit.rule.UnitRule.{UnitRule}

-- a production from its number, its head and its body, where the body has one position
abbrev pub unit_rule_of : ℕ → ℕ → List ℕ → Option UnitRule
unit_rule_of p head [] = None
unit_rule_of p head (m ∷ []) = Some (record { number = record { 0 = p }; head = record { 0 = head }; target = record { 0 = m } })
unit_rule_of p head (m ∷ n ∷ ms) = None

-- the production of this number, where it is a unit production
abbrev pub unit_rule_at : Grammar → ℕ → Option UnitRule
unit_rule_at g p = unit_rule_of p (head_of g p) (body_of g p)

-- the unit productions of a grammar, by number
abbrev pub unit_rules_of : Grammar → List UnitRule
unit_rules_of g = filter_map (unit_rule_at g) (numbers_from 0 (length g.productions))

-- each has a lesser number than those after it
abbrev pub AreInOrder : List UnitRule → Type 0
AreInOrder [] = Unit {0}
AreInOrder (u ∷ us) = ((v : UnitRule) → IsIn v us → u.number.0 < v.number.0) × AreInOrder us

-- their heads and targets are below this number
abbrev pub AreBelow : ℕ → List UnitRule → Type 0
AreBelow n units = (u : UnitRule) → IsIn u units → (u.head.0 < n) × (u.target.0 < n)
