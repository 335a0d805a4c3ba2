use Rattle.std.proofs.Common.{◌≡◌, ◌≤◌, ◌+◌, ◌++◌, ◌∙◌, ℕ, List, length, take, drop, sym, ap, subst, arith}
use Rattle.std.proofs.lemmas.List.{take-append-le, take_all}
use Rattle.wf_check.specs.Ranks.{AreRanks, AreRanksBelow}
use Rattle.wf_check.proofs.Rounds.{ranks_done}
use Rattle.wf_check.proofs.ranks.ranks.Goals as goal

written : {A : Type 0} (xs ys : List A) (n : ℕ) → xs ≡ ys → n ≡ length ys → take n (xs ++ drop (length xs) ys) ≡ ys
written xs ys n e h =
    let s = ap length e in
    let l : n ≤ length xs = omega arith in
    let m : length xs ≤ n = omega arith in
    take-append-le n xs (drop (length xs) ys) l ∙ (take_all n xs m ∙ e)

pub overflow_add-n : goal.overflow_add-n
overflow_add-n c = let h = c.round.ensures.formed.few_modules in omega arith

pub returns : goal.returns
returns c =
    let g = c.args.g.now.core in
    let new = c.round.new.ranks in
    let same = c.round.ensures.more.same c.loop-n-test.false ∙ c.deref_mut.ensures.value in
    subst (AreRanks g) (sym (written new c.loop-n.ranks.items c.loop-n.ranks.len same c.loop-n.ranks.ok.0))
    (ranks_done g c.loop-n.n c.loop-n.ranks.items c.round.ensures.formed c.loop-n.invariant.positive c.loop-n.invariant.below (subst (AreRanksBelow g (c.loop-n.n + 1)) same c.round.ensures.below))
