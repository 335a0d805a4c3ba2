-- The names of the items and of the instances of an accepted run are short names.
use Rattle.std.proofs.Common.{ℕ, List, []}
use Rattle.wf_model.specs.declared.event.Event.{Event}
use Rattle.wf_model.specs.Lists.{IsIn}
use Rattle.wf_model.specs.Grammar.{Grammar}
use Rattle.wf_model.specs.WellFormed.{IsWellFormed, IsShortName}
use Rattle.wf_model.specs.View.{View}
use Rattle.wf_model.specs.Run.{Instance, made, names_of, IsAccepted, seen_in}
use Rattle.wf_model.specs.Items.{Item, items_by, items, IsItemName}
use Rattle.wf_model.proofs.Lists.{in_map, in_flat_map_from}
use Rattle.wf_model.proofs.Runs.{run_state}
use Rattle.wf_model.proofs.ItemNames.{name_made}
use Rattle.label_model.proofs.TakenEvents.{taken}
use Rattle.label_model.proofs.NamesDiffer.{owned}
use Rattle.wf_flat.proofs.Givers.{made_name}

module _ (g : Grammar) (limit : ℕ) (events : List Event) (run : IsAccepted g limit events) where
  made_short : (n : List ℕ) → IsIn n (names_of (made g g.start events)) → IsShortName n
  made_short n h = (made_name g g.start [] events n run.0 h, run.2 n h)

  pub instance_short : (u : View) (n : Instance) → IsIn n (seen_in g u g.start events) → IsShortName n.name
  instance_short u n h = made_short n.name (in_map (λ (i : Instance). i.name) n (made g g.start events) ((run_state g u g.start events run.0).seen_made n h))

  pub item_short : IsWellFormed g → (t : Item) → IsIn t (items g g.start events) → IsItemName t.name
  item_short wf t h =
      let r = in_flat_map_from (items_by g g.start) t events h in
      let k = taken g g.start events [] r.0 run.0 r.1 in
      let o = owned g wf k.before r.0 k.extends t.name (in_map (λ (z : Item). z.name) t (items_by g g.start r.0) r.2) in
      (o.owner, o.port, (o.dots, made_short o.owner (name_made g g.start o.owner r.0 events r.1 o.made), o.short))
