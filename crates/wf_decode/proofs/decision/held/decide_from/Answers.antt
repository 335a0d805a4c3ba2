use Rattle.wf_decode.proofs.decision.held.decide_from.Goals as goal

pub returns-clause-verdict : goal.returns-clause-verdict
returns-clause-verdict g c u x y of lx ly ex ey = (c.decide_from_in.ensures.decision u x y of lx ly ex ey).verdict
