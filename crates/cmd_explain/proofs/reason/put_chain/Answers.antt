use Rattle.std.proofs.Common.{refl, ap, subst, ◌∙◌}
use Rattle.std.specs.Prelude.{MatchOption}
use Rattle.chain_model.specs.ChainText.{chain_text}
use Rattle.wf_chain.specs.ViewedRuns.{item_in}
use Rattle.wf_chain.specs.Chains.{steps_in, HasNoChain, IsExplained}
use Rattle.cmd_explain.proofs.PutListings.{writes_only}
use Rattle.cmd_explain.proofs.Told.{only, none_told, chain_told}
use Rattle.cmd_explain.proofs.reason.put_chain.Goals as goal

pub explain-requires : goal.explain-requires
explain-requires g c = record { first = c.requires.first; second = c.requires.second }

pub returns-in_default-told : goal.returns-in_default-told
returns-in_default-told g c =
    let v = c.args.run.now in
    let i = c.args.first.now in
    let j = c.args.second.now in
    let first = (item_in v i).name in
    let second = (item_in v j).name in
    let is = none_told v c.run-run.ensures.safe c.run-run.ensures.table first second i j c.requires.first.held refl c.requires.second.held refl (c.requires.first.visible, c.requires.second.visible)
    (subst (λ o. MatchOption o (HasNoChain v i j) (IsExplained v i j)) c.in_default-told.is c.in-Ok.ensures) in
    record { writes = writes_only _ _ is (only v c.run-run.ensures.safe c.run-run.ensures.table first second _ is) _ _ _ c.put_text.ensures.writes }

pub text_of-requires : goal.text_of-requires
text_of-requires g c =
    let v = c.args.run.now in
    (subst (λ o. MatchOption o (HasNoChain v c.args.first.now c.args.second.now) (IsExplained v c.args.first.now c.args.second.now)) c.in-Some.is c.in-Ok.ensures).held

pub returns : goal.returns
returns g c =
    let v = c.args.run.now in
    let i = c.args.first.now in
    let j = c.args.second.now in
    let first = (item_in v i).name in
    let second = (item_in v j).name in
    let told = subst (λ o. MatchOption o (HasNoChain v i j) (IsExplained v i j)) c.in-Some.is c.in-Ok.ensures in
    let from = c.deref.ensures.value ∙ (c.in-Ok-text_of.ensures ∙ ap (λ z. chain_text (item_in v z) (steps_in v c.in-Some.chain.steps.items)) told.from) in
    let is = chain_told v c.run-run.ensures.safe c.run-run.ensures.table first second i j c.requires.first.held refl c.requires.second.held refl (c.requires.first.visible, c.requires.second.visible) _ told.first _ from in
    record { writes = writes_only _ _ is (only v c.run-run.ensures.safe c.run-run.ensures.table first second _ is) _ _ _ c.put_text-2.ensures.writes }
