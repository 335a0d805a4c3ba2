use Rattle.std.proofs.Common.{rules, ◌+◌, ◌-◌, ◌*◌, ◌%◌, ◌^◌, ◌<◌, sym, subst, take, ◌++◌}
use Rattle.bit_pack.specs.Bits.{low_bits}
use Rattle.bit_pack.specs.Reading.{IsWordOf}
use Rattle.bit_pack.proofs.WordsHeld.{digits_fit, word_more}
use Rattle.bit_pack.proofs.short.with_digits.Goals as goal

pub overflow_add-result : goal.overflow_add-result
overflow_add-result c =
    let more = c.args.digits * 2 ^ (64 - c.args.begun - c.args.count) % 2 ^ 64 in
    let fits : c.first_of.result + more < 2 ^ 64 =
    subst (λ z. z + more < 2 ^ 64) (sym c.first_of.ensures) (digits_fit c.args.word c.args.begun c.args.digits c.args.count c.requires.some c.requires.short c.requires.fits (search rules)) in
    search (rules, fits)

pub returns : goal.returns
returns c = λ bits w order.
    let more = c.args.digits * 2 ^ (64 - c.args.begun - c.args.count) % 2 ^ 64 in
    subst (λ z. IsWordOf (take c.args.begun bits ++ low_bits c.args.count c.args.digits) (z + more)) (sym c.first_of.ensures)
    (word_more c.args.word c.args.begun c.args.digits c.args.count c.requires.some c.requires.short c.requires.fits bits w order)
