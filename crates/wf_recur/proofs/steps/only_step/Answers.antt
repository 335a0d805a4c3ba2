use Rattle.std.proofs.Common.{◌∙◌, map, ap, arith, refl, inr}
use Rattle.wf_recur.specs.Cycles.{step_of}
use Rattle.wf_recur.specs.Reaching.{rows_in}
use Rattle.wf_recur.proofs.Stepping.{back_listed, none_listed, one_listed, two_listed}
use Rattle.wf_recur.proofs.steps.only_step.Goals as goal

pub returns-in-empty-clause-only : goal.returns-in-empty-clause-only
returns-in-empty-clause-only c =
    let g = c.args.g.now.core in
    let xs = c.as_slice.result.now in
    let l = back_listed g (rows_in c.args.rows.now) c.args.m.0 c.requires.formed c.requires.derived xs (ap (map step_of) c.as_slice.ensures.value ∙ c.in_ok-steps.ensures) in
    none_listed g c.args.m.0 xs l.0 (omega arith)

pub returns-in-len1-clause-only : goal.returns-in-len1-clause-only
returns-in-len1-clause-only c =
    let g = c.args.g.now.core in
    let xs = c.as_slice.result.now in
    let l = back_listed g (rows_in c.args.rows.now) c.args.m.0 c.requires.formed c.requires.derived xs (ap (map step_of) c.as_slice.ensures.value ∙ c.in_ok-steps.ensures) in
    one_listed g c.args.m.0 xs _ l.0 (omega arith)

pub returns-clause-refused : goal.returns-clause-refused
returns-clause-refused c =
    let g = c.args.g.now.core in
    let xs = c.as_slice.result.now in
    let l = back_listed g (rows_in c.args.rows.now) c.args.m.0 c.requires.formed c.requires.derived xs (ap (map step_of) c.as_slice.ensures.value ∙ c.in_ok-steps.ensures) in
    inr (refl, two_listed g c.args.m.0 xs _ _ l.0 l.1 (omega arith))
