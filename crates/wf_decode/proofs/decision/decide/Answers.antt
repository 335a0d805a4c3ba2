use Rattle.wf_decode.proofs.decision.decide.Goals as goal

pub returns-clause-verdict : goal.returns-clause-verdict
returns-clause-verdict g c u x y of lx ly ex ey = (c.decide_in.ensures.decision u x y of lx ly ex ey).verdict

pub returns-clause-no : goal.returns-clause-no
returns-clause-no g c u x y of lx ly ex ey = (c.decide_in.ensures.decision u x y of lx ly ex ey).never
