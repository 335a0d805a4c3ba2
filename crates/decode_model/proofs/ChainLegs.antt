-- The steps of a chain are as many continuing steps as it counts.
use Rattle.std.proofs.Common.{◌≡◌, ℕ, ◌+◌, ◌*◌, ◌/◌, ◌%◌, ◌<◌, List, ◌++◌, length, take, sym, ◌∙◌, subst, arith, length-append, length-take}
use Rattle.std.proofs.Math.Nat.{mod-lt, div-add-mod}
use Rattle.wf_model.specs.Grammar.{Grammar}
use Rattle.wf_model.specs.Reach.{Step, module_along}
use Rattle.wf_model.specs.Linear.{IsLinear}
use Rattle.decode_model.specs.Rounds.{AreContinuing, IsRound, times}
use Rattle.decode_model.specs.Legs.{Chain, leg_steps}
use Rattle.decode_model.specs.WayLaws.{ChainLegLaw}
use Rattle.decode_model.proofs.Rounds.{continuing_append, continuing_take, continuing_same, times_continuing, length-times}

module _ (g : Grammar) (m c : ℕ) (round : List Step) (is : IsRound g m round) where
  chain_continues : AreContinuing g m (leg_steps (Chain m round c))
  chain_continues =
      let n = c / length round in
      let rest = take (c % length round) round in
      let t = times_continuing g m round is n in
      continuing_append g m (times n round) rest t.0 (subst (λ z. AreContinuing g z rest) (sym t.1) (continuing_take g m (c % length round) round is.continuing))

  length-chain : 0 < length round → length (leg_steps (Chain m round c)) ≡ c
  length-chain some =
      let n = c / length round in
      let r = c % length round in
      let low = mod-lt c some in
      let a = length-append (times n round) (take r round) in
      let t = length-times n round in
      let k = length-take r round in
      let e : length (times n round ++ take r round) ≡ n * length round + r = omega arith in
      let d : n * length round + r ≡ length round * n + r = turned n (length round) r in
      e ∙ (d ∙ div-add-mod c (length round))
    where
      turned : (n l r : ℕ) → n * l + r ≡ l * n + r
      turned n l r = grind arith

  only : 0 < length round → IsLinear g → (steps : List Step) → AreContinuing g m steps → length steps ≡ c → steps ≡ leg_steps (Chain m round c)
  only some lin steps h e = continuing_same g lin m steps (leg_steps (Chain m round c)) h chain_continues (e ∙ sym (length-chain some))

parts : (g : Grammar) (m c : ℕ) (round : List Step) → IsRound g m round → 0 < length round → IsLinear g → (n k : ℕ) (turned : List Step) →
    module_along g m (leg_steps (Chain m round c)) ≡ n → IsRound g n turned → 0 < length turned → leg_steps (Chain m round (c + k)) ≡ leg_steps (Chain m round c) ++ leg_steps (Chain n turned k)
parts g m c round is some lin n k turned at again more =
    let a = leg_steps (Chain m round c) in
    let b = leg_steps (Chain n turned k) in
    let all = continuing_append g m a b (chain_continues g m c round is) (subst (λ z. AreContinuing g z b) (sym at) (chain_continues g n k turned again)) in
    let la = length-chain g m c round is some in
    let lb = length-chain g n k turned again more in
    let l = length-append a b in
    sym (only g m (c + k) round is some lin (a ++ b) all (omega arith))

pub chain_leg_law : ChainLegLaw
chain_leg_law g m c round is some =
    record {
      continuing = chain_continues g m c round is;
      many = length-chain g m c round is some;
      only = only g m c round is some;
      parts = parts g m c round is some;
    }
