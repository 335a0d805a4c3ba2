-- The modules that flags tell a view to expand.
use Rattle.std.proofs.Common.{◌≡◌, ℕ, ◌==◌, Bool, true, false, List, length, get_or, refl, subst, arith}
use Rattle.std.proofs.lemmas.Bool.{eqb-true, eq-eqb}
use Rattle.std.specs.Cmp.Derive.{one_truth}
use Rattle.wf_model.specs.Lists.{some, numbers_from}
use Rattle.wf_model.proofs.Lists.{some_from, some_gives, in_filter, in_filter_from}
use Rattle.wf_model.proofs.Level.{numbers_in}
use Rattle.wf_model.proofs.Tests.{marked_below}
use Rattle.wf_view.specs.Held.{flagged}

-- a number is among those that are flagged exactly if its flag is set
pub flagged_is : (flags : List Bool) (m : ℕ) → some (λ k. k == m) (flagged flags) ≡ get_or flags m false
flagged_is flags m = one_truth (some (λ k. k == m) (flagged flags)) (get_or flags m false) there back
  where
    there : some (λ k. k == m) (flagged flags) ≡ true → get_or flags m false ≡ true
    there h =
        let r = some_gives (λ k. k == m) (flagged flags) h in
        let q = in_filter_from (λ k. get_or flags k false) r.0 (numbers_from 0 (length flags)) r.1 in
        subst (λ k. get_or flags k false ≡ true) (eqb-true r.0 m r.2) q.1

    back : get_or flags m false ≡ true → some (λ k. k == m) (flagged flags) ≡ true
    back h =
        let l = marked_below flags m h in
        some_from (λ k. k == m) m (flagged flags)
        (in_filter (λ k. get_or flags k false) m (numbers_from 0 (length flags)) (numbers_in m 0 (length flags) (omega arith) (omega arith)) h)
        (eq-eqb m m refl)
