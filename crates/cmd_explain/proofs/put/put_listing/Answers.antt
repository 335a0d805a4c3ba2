use Rattle.std.proofs.Common.{[], refl, sym, subst}
use Rattle.wf_model.specs.Grammar.{Grammar}
use Rattle.wf_label.specs.Values.{AreLabelBits}
use Rattle.label_file.specs.Stored.{IsStoreFor}
use Rattle.wf_stage.proofs.Ends.{begins_nothing}
use Rattle.wf_stage.proofs.Writing.{writes_wanting}
use Rattle.cmd_explain.proofs.PutListings.{none_held, item_put}
use Rattle.cmd_explain.proofs.put.put_listing.Goals as goal

pub returns-in_default : goal.returns-in_default
returns-in_default g c = record {
  writes = λ es held.
      none_held c.args.v.now.accepted.grammar.core c.args.v.now.view.core c.args.direction es c.args.store.now c.requires.store held c.args.item.now _ _ _ c.in_default.ensures.none _ refl c.put_text.ensures.writes;
}

pub returns-in_default-build : goal.returns-in_default-build
returns-in_default-build g c = record { writes = λ es held. writes_wanting [] _ (begins_nothing _) _ }

-- the label of the view is of the same grammar
pub put_label-ended-requires : goal.put_label-ended-requires
put_label-ended-requires g c = record {
  store = subst (λ (x : Grammar). IsStoreFor x c.args.store.now) (sym c.in-Ok.ensures.grammar) c.requires.store;
  label = subst (λ (x : Grammar). AreLabelBits x c.in-Some.bits) (sym c.in-Ok.ensures.grammar) (c.requires.store.labels _ c.in-Some.ensures.found);
}

pub returns : goal.returns
returns g c = record {
  writes = λ es held.
      item_put c.args.v.now.accepted.grammar.core c.args.v.now.view.core c.args.direction es c.args.store.now c.requires.store held c.args.item.now _ _ _
      c.in-Ok.label c.in-Ok.ensures.grammar c.in-Ok.ensures.label c.in-Some.bits c.in-Some.bits c.in-Some.ensures.found
      refl c.put_label-ended.ensures.writes;
}
