use Rattle.std.proofs.Common.{◌<◌, length, subst}
use Rattle.wf_safe.proofs.check.numbers.has_numbers.Goals as goal

pub has_ports-requires : goal.has_ports-requires
has_ports-requires c =
    let g = c.args.g.now.core in
    let of = c.is_production_of.ensures.told.0 c.if-not-is_production_of.false in
    subst (λ m. m < length c.args.g.now.core.modules) of.1 (c.is_production_of.ensures.formed.heads c.args.w.now.other.0 of.0)
