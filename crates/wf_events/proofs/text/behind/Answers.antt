use Rattle.std.proofs.lemmas.Bool.Decides.{Decides-eqb}
use Rattle.std.proofs.lemmas.Slice.Eq.{strip_prefix_is}
use Rattle.wf_events.proofs.Cuts.{if_some}
use Rattle.wf_events.proofs.text.behind.Goals as goal

pub returns : goal.returns
returns c = if_some c.strip_prefix.result _ _ (strip_prefix_is Decides-eqb c.args.bytes.now c.args.piece.now c.strip_prefix.result c.strip_prefix.ensures.cases)
