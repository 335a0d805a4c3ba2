use Rattle.std.proofs.Common.{false, get_or, ap, sym, ◌∙◌}
use Rattle.wf_model.specs.Meaning.{pairs_of}
use Rattle.wf_recur.proofs.OneTable.{cycled}
use Rattle.wf_vlabel.specs.Seen.{ViewLabelSeen}
use Rattle.wf_vlabel.proofs.LabelKept.{AreMade, label_of_view, label_kept}
use Rattle.wf_view.proofs.KnownViews.{held}
use Rattle.wf_vlabel.proofs.view_label.ViewLabel.of_sight.Goals as goal
use Rattle.wf_vlabel.proofs.view_label.ViewLabel.of_sight.Goals.{After-result-1}

abbrev label : After-result-1 → ViewLabelSeen
label c = record { grammar = c.args.s.linear.grammar.now.core; cycles = c.args.s.linear.cycles.now; flags = c.in_ok-expanded.expanded.items; full = c.in_ok-pairs.pairs; bodies = c.in_ok-bodies.bodies; squares = c.in-Ok.tables.squares }

-- the parts were made for the view
made : (c : After-result-1) → AreMade (label c) c.in-Ok.tables.stills.items c.in-Ok.tables.cuts.items c.args.s.view.now.core (pairs_of c.args.full.now)
made c =
    record {
      formed = c.modules-modules.ensures.formed;
      proper = c.requires.proper;
      linear = c.args.s.linear.linear;
      cycles_are = cycled c.args.s.linear.grammar.now.core c.modules-modules.ensures.formed c.args.s.linear.linear c.args.s.linear.cycles.now c.args.s.linear.cycled;
      is_view = (held c.args.s.linear.grammar.now.core c.args.s.view.now c.args.s.held).is_view;
      induced = c.requires.full.induced;
      expanded = λ m. c.marks.ensures m ∙ ap (λ l. get_or l m false) (sym c.in_ok-expanded.ensures.items);
      pairs = c.in_ok-pairs.ensures.pairs;
      full_groups = c.in_ok-pairs.ensures.groups c.args.s.view.now.core c.requires.full;
      body_groups = c.in_ok-bodies.ensures;
      square_groups = c.in-Ok.ensures.squares;
      stills_are = c.in-Ok.ensures.stills;
      cut_each = c.in-Ok.ensures.count;
      cuts_are = c.in-Ok.ensures.cuts;
    }

pub invariant_of-result : goal.invariant_of-result
invariant_of-result c = label_kept (label c) c.in-Ok.tables.stills.items c.in-Ok.tables.cuts.items c.args.s.view.now.core (pairs_of c.args.full.now) (made c)

pub returns-in-Ok-clause-label : goal.returns-in-Ok-clause-label
returns-in-Ok-clause-label c = label_of_view (label c) c.in-Ok.tables.stills.items c.in-Ok.tables.cuts.items c.args.s.view.now.core (pairs_of c.args.full.now) (made c)
