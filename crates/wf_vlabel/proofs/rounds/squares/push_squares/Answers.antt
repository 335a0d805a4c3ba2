use Rattle.std.proofs.Common.{sym, ◌∙◌, subst, arith}
use Rattle.label_model.specs.Continuing.{after}
use Rattle.wf_recur.proofs.Places.{back_along}
use Rattle.wf_vlabel.specs.declared.rounds.way.Way.TheVariants.{Down, Up}
use Rattle.wf_vlabel.specs.ChainMatrices.{IsChain}
use Rattle.wf_vlabel.proofs.Squares.{square_down, square_up, squares_made, copied}
use Rattle.wf_vlabel.proofs.rounds.squares.push_squares.Goals as goal

pub power_table-requires-clause-square : goal.power_table-requires-clause-square
power_table-requires-clause-square c =
    let p = c.requires.parts in
    let m = after p.0 c.args.place p.2 in
    let one = c.in_ok-round.ensures.round p.0 p.1 p.2 p.3 p.4 in
    square_down p.0 p.1 m c.args.size _ (back_along p.0 p.2 c.args.size c.args.place p.3) (copied Down p.0 p.1 m c.args.size _ _ _ _ _ _ c.in_ok-into.ensures.added c.in_ok-out.ensures.added c.in_ok-into.ensures.same one)

pub power_table-requires-2-clause-square : goal.power_table-requires-2-clause-square
power_table-requires-2-clause-square c =
    let p = c.requires.parts in
    let m = after p.0 c.args.place p.2 in
    let one = c.in_ok-turned.ensures.round p.0 p.1 p.2 p.3 p.5 in
    let n = c.in_ok-out.ensures.added.number in
    let t = c.in_ok-out.ensures.added.total in
    square_up p.0 p.1 m c.args.size _ (back_along p.0 p.2 c.args.size c.args.place p.3)
    (subst (IsChain Up p.0 p.1 m c.args.size) (sym (c.in_ok-first.ensures.added.kept c.in_ok-out.out.0 (omega arith) ∙ c.in_ok-out.ensures.same)) one)

pub returns-clause-squares : goal.returns-clause-squares
returns-clause-squares c = λ g d first back down up.
    let m = after g c.args.place first in
    let one = c.in_ok-round.ensures.round g d first back down in
    let turned = c.in_ok-turned.ensures.round g d first back up in
    let n = c.in_ok-out.ensures.added.number in
    let t = c.in_ok-out.ensures.added.total in
    squares_made g d m c.args.size _ _ _ _ c.in_ok-out.out.0 _ _ (back_along g first c.args.size c.args.place back) (omega arith)
    (copied Down g d m c.args.size _ _ _ _ _ _ c.in_ok-into.ensures.added c.in_ok-out.ensures.added c.in_ok-into.ensures.same one)
    (subst (IsChain Up g d m c.args.size) (sym c.in_ok-out.ensures.same) turned)
    c.in_ok-first.ensures.added c.in_ok-first.ensures.powers c.in_ok-power_table.ensures.added c.in_ok-power_table.ensures.powers
