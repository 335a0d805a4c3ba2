use Rattle.wf_compare.proofs.comparing.compared.Goals as goal

pub shown_by-requires : goal.shown_by-requires
shown_by-requires c = c.in-Some.ensures.0.pair.border.0

pub compared_extra-requires-clause-denies : goal.compared_extra-requires-clause-denies
compared_extra-requires-clause-denies c = c.in-None.ensures
