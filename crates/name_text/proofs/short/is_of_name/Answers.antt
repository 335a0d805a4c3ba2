use Rattle.std.proofs.Common.{◌≡◌, ◌+◌, ◌-◌, ◌∙◌, ap, arith}
use Rattle.wf_model.specs.Faults.{is_name_byte}
use Rattle.name_text.proofs.NameBytes.{low_told, high_told, none_told}
use Rattle.name_text.proofs.short.is_of_name.Goals as goal

pub returns-then-b-lt64 : goal.returns-then-b-lt64
returns-then-b-lt64 c = c.has_digit.ensures ∙ low_told c.args.b c.if-b-lt64.true

pub returns-then-b-lt128 : goal.returns-then-b-lt128
returns-then-b-lt128 c =
    let low = c.if-b-lt64.false in
    let high = c.if-b-lt128.true in
    let whole : 64 + (c.args.b - 64) ≡ c.args.b = omega (arith, low) in
    c.has_digit-then-b-lt128.ensures ∙ (high_told (c.args.b - 64) (omega (arith, low, high)) ∙ ap is_name_byte whole)

pub returns : goal.returns
returns c =
    let low = c.if-b-lt128.false in
    let fits = c.ranges.b.fits in
    let whole : 128 + (c.args.b - 128) ≡ c.args.b = omega (arith, low) in
    none_told (c.args.b - 128) (omega (arith, low, fits)) ∙ ap is_name_byte whole
