use Rattle.std.proofs.Common.{ap, ◌∙◌}
use Rattle.cmd_explain.specs.Words.{is_item_name}
use Rattle.cmd_explain.proofs.ItemWords.{item_told}
use Rattle.cmd_explain.proofs.item.is_item.Goals as goal

pub returns : goal.returns
returns c = c.is_some.ensures ∙ (item_told c.as_bytes.result.now c.split_item.result c.split_item.ensures.some c.split_item.ensures.none ∙ ap is_item_name c.as_bytes.ensures.value)
