-- Laws of ways between addresses.
use Rattle.std.specs.Prelude.{◌≡◌, ◌≢◌, ℕ, ◌+◌, ◌*◌, ◌<◌, ◌↔◌, List, ◌∷◌, ◌++◌, length, take}
use Rattle.wf_model.specs.Grammar.{Grammar, Assignment}
use Rattle.wf_model.specs.Linear.{IsLinear}
use Rattle.wf_model.specs.Reach.{Step, module_along, Reaches}
use Rattle.decode_model.specs.Ways.{Crosses}
use Rattle.decode_model.specs.Rounds.{AreContinuing, IsRound, IsPowers}
use Rattle.decode_model.specs.Legs.{Chain, leg_steps}

-- where two addresses part after a common beginning, one body is crossed
abbrev pub CrossesLaw : Type 0
CrossesLaw =
    (g : Grammar) (d : Assignment) (m : ℕ) (p : List Step) (s t : Step) (a b : List Step) (i o : ℕ) → s.position ≢ t.position →
    Reaches g d m (p ++ s ∷ a) (p ++ t ∷ b) i o ↔ Crosses g d s a t b i o

-- continuing steps are q rounds and a rest of r steps, if they are q times as many as those of a round and r
abbrev pub ChainLaw : Type 0
ChainLaw =
    (g : Grammar) (d : Assignment) → IsLinear g → (m : ℕ) (round steps : List Step) → IsRound g m round → AreContinuing g m steps →
    (q r : ℕ) → r < length round → length steps ≡ q * length round + r → IsPowers g d steps round (take r round) q

-- A chain of c steps has c continuing steps, and in a strictly linear grammar these are the only ones from its module. Then a chain of c + k steps is one of c steps, and after it one of k steps from the module to which it leads
abbrev pub ChainLegLaw : Type 0
ChainLegLaw =
    (g : Grammar) (m c : ℕ) (round : List Step) → IsRound g m round → 0 < length round →
    record {
      continuing : AreContinuing g m (leg_steps (Chain m round c));
      many : length (leg_steps (Chain m round c)) ≡ c;
      only : IsLinear g → (steps : List Step) → AreContinuing g m steps → length steps ≡ c → steps ≡ leg_steps (Chain m round c);
      parts : IsLinear g → (n k : ℕ) (turned : List Step) → module_along g m (leg_steps (Chain m round c)) ≡ n → IsRound g n turned → 0 < length turned →
          leg_steps (Chain m round (c + k)) ≡ leg_steps (Chain m round c) ++ leg_steps (Chain n turned k);
    }
