-- A strictly linear grammar has one table of cycles, so that a table of which it is known that it is one can be read as one.
use Rattle.std.proofs.Common.{◌≡◌, ℕ, ◌<◌, [], length, get_or, map, None, ap, ◌∙◌, sym, subst, arith}
use Rattle.std.proofs.lemmas.List.{get_or-map, length-map, ext_get_or}
use Rattle.std.proofs.Math.Logic.{∥∥₁_elim}
use Rattle.std.proofs.Props.{props}
use Rattle.wf_model.specs.Grammar.{Grammar}
use Rattle.wf_model.specs.WellFormed.{IsWellFormed}
use Rattle.wf_model.specs.Linear.{IsLinear, GoesOnBy}
use Rattle.wf_recur.specs.Cycles.{CyclesSeen, round_at, least_of, AreCyclesOf}
use Rattle.wf_recur.proofs.Going.{by_same}
use Rattle.wf_recur.proofs.OneCycles.{same_leasts, one_told}
use Rattle.wf_recur.proofs.SomeCycles.{some_cycles}

module _ (g : Grammar) (linear : IsLinear g) (c d : CyclesSeen) (p : AreCyclesOf g c) (q : AreCyclesOf g d) where
  leasts : map least_of c.rounds ≡ map least_of d.rounds
  leasts = same_leasts g linear c d p q

  count : length c.rounds ≡ length d.rounds
  count = sym (length-map c.rounds least_of) ∙ (ap length leasts ∙ length-map d.rounds least_of)

  module _ (k : ℕ) (low : k < length c.rounds) where
    low_too : k < length d.rounds
    low_too = subst (λ n. k < n) count low

    least : least_of (round_at c k) ≡ least_of (round_at d k)
    least = sym (get_or-map least_of c.rounds k [] 0 low) ∙ (ap (λ l. get_or l k 0) leasts ∙ get_or-map least_of d.rounds k [] 0 low_too)

    size : length (round_at c k) ≡ length (round_at d k)
    size =
        let a = (p.rounds k low).whole in
        let b = (q.rounds k low_too).whole in
        let r = a.2 (length (round_at d k)) b.0 (subst (λ l. GoesOnBy g (length (round_at d k)) l l) (sym least) b.1) in
        let s = b.2 (length (round_at c k)) a.0 (subst (λ l. GoesOnBy g (length (round_at c k)) l l) least a.1) in
        omega arith

    place : (j : ℕ) → j < length (round_at c k) → get_or (round_at c k) j 0 ≡ get_or (round_at d k) j 0
    place j h =
        by_same g linear j (least_of (round_at d k)) (get_or (round_at c k) j 0) (get_or (round_at d k) j 0)
        (subst (λ l. GoesOnBy g j l (get_or (round_at c k) j 0)) least ((p.rounds k low).places j h).0)
        ((q.rounds k low_too).places j (subst (λ n. j < n) size h)).0

    round : round_at c k ≡ round_at d k
    round = ext_get_or 0 (round_at c k) (round_at d k) size place

  rounds : c.rounds ≡ d.rounds
  rounds = ext_get_or [] c.rounds d.rounds count round

  on : c.on ≡ d.on
  on = ext_get_or None c.on d.on (p.one_each ∙ sym q.one_each) (λ m h. one_told g linear c d p q m (subst (λ n. m < n) p.one_each h))

  -- two tables of the cycles of a strictly linear grammar are the same
  pub one_table : c ≡ d
  one_table = ap (λ r. record { rounds = r; on = c.on }) rounds ∙ ap (λ o. record { rounds = d.rounds; on = o }) on

-- a table is that of the cycles where there is a proof of it
pub cycled : (g : Grammar) → IsWellFormed g → IsLinear g → (c : CyclesSeen) → ∥ AreCyclesOf g c ∥₁ → AreCyclesOf g c
cycled g formed linear c t =
    let d = some_cycles g formed linear in
    subst (AreCyclesOf g) (sym (∥∥₁_elim t (Prim.hlevel props) (λ p. one_table g linear c d.0 p d.1))) d.1
