use Rattle.std.proofs.Common.{◌≡◌, ◌↔◌, ◌∙◌, Bool, List, true, false, get_or, sym, subst}
use Rattle.wf_check.specs.Improper.{IsProductive}
use Rattle.wf_check.proofs.Least.{least_same}
use Rattle.wf_check.proofs.Rounds.{productive_told}
use Rattle.wf_check.proofs.ranks.unproductive.Goals as goal

pub returns : goal.returns
returns c =
    let g = c.args.g.now.core in
    let marks = c.deref.ensures.value ∙ c.in_ok-marks.ensures in
    least_same g (λ k. get_or c.deref.result.now k false ≡ true) (IsProductive g) c.least_unmarked.result
    (λ k h. subst (λ (l : List Bool). (get_or l k false ≡ true) ↔ IsProductive g k) (sym marks) (productive_told g c.args.ranks.now c.least_unmarked.ensures.formed c.requires k h))
    c.least_unmarked.ensures.least
