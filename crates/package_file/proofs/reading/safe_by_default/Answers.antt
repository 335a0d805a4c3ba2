use Rattle.package_file.proofs.reading.safe_by_default.Goals as goal

pub returns-then-branch-clause-safe : goal.returns-then-branch-clause-safe
returns-then-branch-clause-safe c = c.in_ok-is_safe_by_default.ensures.0 c.if-branch.true
