-- What the names of items and instances of a run tell.
use Rattle.std.proofs.Common.{◌≡◌, ℕ, ◌<◌, length, sym, ap, ◌∙◌, subst}
use Rattle.wf_model.specs.Lists.{IsIn}
use Rattle.wf_model.specs.Run.{Instance, made, seen_in}
use Rattle.wf_model.specs.Items.{Item, items}
use Rattle.wf_model.proofs.Lists.{in_map_from, in_at, at_is, at_below}
use Rattle.wf_model.proofs.Runs.{run_state}
use Rattle.wf_model.proofs.ItemNames.{item_of_name}
use Rattle.wf_safe.specs.SafeViews.{IsSafeView}
use Rattle.wf_flat.specs.declared.item.Item.{Item as ItemHeld}
use Rattle.wf_flat.specs.Table.{IsTableOf, instance_of, no_instance}
use Rattle.wf_flat.specs.Graph.{inst_at}
use Rattle.wf_chain.specs.ViewedRuns.{ViewedRunValue, grammar_in, view_in, events_in, item_in, IsItemIn}

module _ (v : ViewedRunValue) (safe : IsSafeView v.viewed) (run : IsTableOf (grammar_in v) v.run) where
  -- an item with the name of a held one is the held one
  pub item_is : (i : ItemHeld) (t : Item) → IsItemIn v i → IsIn t (items (grammar_in v) (grammar_in v).start (events_in v)) → t.name ≡ (item_in v i).name → t ≡ item_in v i
  item_is i t h there e = item_of_name (grammar_in v) (grammar_in v).start (events_in v) safe.accepted.formed run.accepted.0 t (item_in v i) there h.there e

  -- a seen instance has a number
  pub number_of : (n : Instance) → IsIn n (seen_in (grammar_in v) (view_in v) (grammar_in v).start (events_in v)) → (k : ℕ) × (k < length v.run.instances) × (inst_at v.run.instances k ≡ n)
  number_of n h =
      let there : IsIn n (made (grammar_in v) (grammar_in v).start (events_in v)) = (run_state (grammar_in v) (view_in v) (grammar_in v).start (events_in v) run.accepted.0).seen_made n h in
      let x = in_map_from instance_of n v.run.instances (subst (IsIn n) (sym run.made) there) in
      let k = in_at x.0 v.run.instances x.1 in
      (k.0, at_below x.0 k.0 v.run.instances k.1, ap instance_of (at_is x.0 k.0 v.run.instances no_instance k.1) ∙ sym x.2)
