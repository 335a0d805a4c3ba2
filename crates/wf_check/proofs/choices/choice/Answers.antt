use Rattle.std.proofs.Common.{subst, sym}
use Rattle.wf_model.specs.declared.numbers.ProdNo.{ProdNo}
use Rattle.wf_check.specs.Ranks.{TellsRank}
use Rattle.wf_check.proofs.Choosing.{IsChosen, chosen_some}
use Rattle.wf_check.proofs.choices.choice.Goals as goal

pub returns-in-Some : goal.returns-in-Some
returns-in-Some c =
    let g = c.args.g.now.core in
    let m = c.args.m.0 in
    let rank = subst (TellsRank g m) c.in-Some.is (c.requires.ranks.told m c.requires.module_no) in
    subst (λ (p : ProdNo). IsChosen g m p.0) (sym c.unwrap_or.ensures) (chosen_some g c.in-Some.rank m c.args.ranks.now c.least_lower.result c.requires.formed c.requires.ranks rank c.least_lower.ensures)
