use Rattle.wf_decode.proofs.Digits.{none_left, zeros_before, one_there}
use Rattle.wf_decode.proofs.rows.rounds.next_digit.Goals as goal

pub returns-clause-zeros : goal.returns-clause-zeros
returns-clause-zeros c = zeros_before c.args.number c.args.k c.min.result c.args.end c.requires.order c.ranges.number.fits c.if-left-eq0.false c.min.ensures

pub returns-clause-one : goal.returns-clause-one
returns-clause-one c = one_there c.args.number c.args.k c.min.result c.args.end c.requires.order c.ranges.number.fits c.if-left-eq0.false c.min.ensures

pub returns-then-left-eq0-clause-zeros : goal.returns-then-left-eq0-clause-zeros
returns-then-left-eq0-clause-zeros c = λ j low high. none_left c.args.number c.args.k c.if-left-eq0.true j low
