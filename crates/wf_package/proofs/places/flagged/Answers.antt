use Rattle.std.proofs.Common.{◌+◌, ◌≤◌, ◌++◌, ◌∷◌, [], ◌∙◌, ℕ, Bool, false, cond, length, get_or, sym, ap, subst, arith, List}
use Rattle.wf_package.proofs.FlaggedPlaces.{count_passing, numbers_passing-more, few_passing, value_added, are_places}
use Rattle.wf_package.proofs.places.flagged.Goals as goal

pub loop-k-preserved : goal.loop-k-preserved
loop-k-preserved c =
    let t : ℕ → Bool = λ m. get_or c.args.flags.now m false in
    let k = c.loop-k.k in
    let numbers = c.in_ok-add_number.ensures.numbers ∙ ap (λ (l : List ℕ). l ++ cond {A = List ℕ} (t k) (k ∷ []) []) c.loop-k.invariant.numbers ∙ sym (numbers_passing-more t k) in
    let len = ap length c.loop-k.invariant.numbers in
    record {
      numbers = numbers;
      few = subst (λ (l : List ℕ). length l ≤ k + 1) (sym numbers) (few_passing t 0 (k + 1));
      places = value_added (count_passing t) k _ _ _ c.loop-k.invariant.places len c.in_ok-add_number.ensures.places;
    }

pub returns : goal.returns
returns c =
    let over = c.loop-k-test.false in
    let upto = c.loop-k.auto.k-end in
    are_places c.args.flags.now _ c.loop-k.k (omega arith) c.loop-k.invariant.numbers c.loop-k.invariant.places
