use Rattle.std.proofs.Common.{◌+◌, ◌∷◌, ◌/◌, ◌^◌, ◌<◌, ◌∙◌, refl, ap, sym, arith}
use Rattle.wf_flat.specs.Leading.{led_by_row}
use Rattle.wf_flat.proofs.RowSteps.{led_nothing, led_to_lowest, led_lowest, led_ended}
use Rattle.wf_flat.proofs.module_rows.next_output.Goals as goal

pub returns-in_default : goal.returns-in_default
returns-in_default c = led_nothing c.args.input c.args.row c.args.from (c.args.row.bits / 2 ^ c.args.from) refl c.in_default.ensures.none c.requires.narrow

pub returns-then-o-row : goal.returns-then-o-row
returns-then-o-row c =
    led_to_lowest c.args.input c.args.row c.args.from (c.args.row.bits / 2 ^ c.args.from) refl c.in-Some.lowest c.in-Some.ensures.lowest
    ∙ led_ended c.args.input c.args.row (c.args.from + c.in-Some.lowest) c.if-o-row.true

pub returns : goal.returns
returns c =
    let o = c.args.from + c.in-Some.lowest in
    let there : o < c.args.row.outputs = omega (arith, c.if-o-row.false) in
    led_lowest c.args.input c.args.row c.args.from (c.args.row.bits / 2 ^ c.args.from) refl c.in-Some.lowest c.in-Some.ensures.lowest there
    ∙ ap (λ d. (c.args.input + d + o) ∷ led_by_row c.args.input c.args.row (o + 1)) (sym c.from.ensures)
