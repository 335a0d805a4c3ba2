use Rattle.std.proofs.Common.{◌∙◌, codes, get_or, None}
use Rattle.cmd_describe.specs.CheckText.{cycle_text}
use Rattle.cmd_describe.proofs.CompositeLines.{line_made}
use Rattle.cmd_describe.proofs.check_text.add_line.Goals as goal

pub returns : goal.returns
returns c =
    rw (← c.grammar-g.ensures.grammar, ← c.ranking-ranking.ensures.ranking, ← c.cycles.ensures.cycles)
    (line_made _ _ _ _ _ _ _ _ (codes " rank ") (codes " production ") (cycle_text c.grammar-g.result.now.core (get_or c.cycles.result.now.on c.args.m.0 None)) (codes "\n") _ _ _ _ c.module_name.ensures (c.from.ensures ∙ c.rank.ensures) (c.from-2.ensures ∙ c.choice.ensures)
    c.in_ok-extend_from_slice.ensures.items c.in_ok-add_numbered.ensures c.in_ok-add_numbered-2.ensures c.in_ok-add_cycle.ensures c.in_ok-extend_from_slice-2.ensures.items)
