use Rattle.std.proofs.Common.{◌∙◌, sym, ap, not}
use Rattle.wf_model.proofs.Options.{match_some, match_none}
use Rattle.wf_check.proofs.Rounds.{round_old, round_none, round_some}
use Rattle.wf_check.proofs.ranks.try_module.Goals as goal
use Rattle.wf_check.proofs.ranks.try_module.Goals.{then-is_some-via-then-is_some, then-is_some-via-else-is_some+then-is_none}

pub returns-then-is_some-clause-round : goal.returns-then-is_some-clause-round
returns-then-is_some-clause-round c =
    let g = c.args.g.now.core in
    let ranks = c.args.ranks.now in
    elim c.then-is_some.branch [
      | then-is_some-via-then-is_some w ↦ round_old g c.args.n c.args.m.0 ranks c.requires.module_no c.requires.round (sym c.is_some.ensures ∙ w.if-is_some.true)
      | then-is_some-via-else-is_some+then-is_none w ↦ round_none g c.args.n c.args.m.0 ranks c.requires.formed c.requires.positive c.requires.module_no c.requires.round (sym c.is_some.ensures ∙ w.if-is_some.false)
          (match_none w.least_lower.result _ _ w.least_lower.ensures (w.is_none.ensures ∙ ap not w.if-is_none.true))
    ]

pub returns-clause-round : goal.returns-clause-round
returns-clause-round c =
    let lower = match_some c.least_lower.result _ _ c.least_lower.ensures (c.is_none.ensures ∙ ap not c.if-is_none.false) in
    round_some c.args.g.now.core c.args.n c.args.m.0 c.args.ranks.now c.requires.formed c.requires.positive c.requires.module_no c.requires.round (sym c.is_some.ensures ∙ c.if-is_some.false) lower.0.0 lower.1.0
