-- Reachability between addresses, step by step: rows along a list of steps, and the common beginning of two lists.
use Rattle.std.specs.Prelude.{◌≡◌, ◌↔◌, ℕ, List, [], ◌∷◌, ◌++◌, IsTrue}
use Rattle.wf_model.specs.Grammar.{Grammar, Assignment}
use Rattle.wf_model.specs.Reach.{Step, module_along, Into, OutOf, Down, Up, Reaches}

-- input i reaches input j after all the steps
abbrev pub IntoAll : Grammar → Assignment → List Step → ℕ → ℕ → Type 0
IntoAll g d [] i j = i ≡ j
IntoAll g d (s ∷ a) i j = (k : ℕ) × Into g d s i k × IntoAll g d a k j

-- output j after all the steps reaches output o before them
abbrev pub OutAll : Grammar → Assignment → List Step → ℕ → ℕ → Type 0
OutAll g d [] j o = j ≡ o
OutAll g d (s ∷ a) j o = (k : ℕ) × OutOf g d s k o × OutAll g d a j k

-- Going down is to follow the inputs through all the steps and then a pair of the last module; going up is a pair of the last module and then the outputs back.
-- One list of steps after another is one after the other, and what two lists have in common at their beginning is passed by both
pub record SplitsLaw : Type 0 where
  pub down : (g : Grammar) (d : Assignment) (a : List Step) (m i o : ℕ) → Down g d m a i o ↔ ((j : ℕ) × IntoAll g d a i j × IsTrue (d (module_along g m a) j o))
  pub up : (g : Grammar) (d : Assignment) (a : List Step) (m i o : ℕ) → Up g d m a i o ↔ ((j : ℕ) × IsTrue (d (module_along g m a) i j) × OutAll g d a j o)
  pub into_both : (g : Grammar) (d : Assignment) (a b : List Step) (i j : ℕ) → IntoAll g d (a ++ b) i j ↔ ((k : ℕ) × IntoAll g d a i k × IntoAll g d b k j)
  pub out_both : (g : Grammar) (d : Assignment) (a b : List Step) (j o : ℕ) → OutAll g d (a ++ b) j o ↔ ((k : ℕ) × OutAll g d a k o × OutAll g d b j k)
  pub common : (g : Grammar) (d : Assignment) (c a b : List Step) (m i o : ℕ) → Reaches g d m (c ++ a) (c ++ b) i o ↔ Reaches g d (module_along g m c) a b i o
