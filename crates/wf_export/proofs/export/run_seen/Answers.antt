use Rattle.std.proofs.Common.{Bool, List, length, ◌∙◌, ap, sym, subst}
use Rattle.wf_flat.specs.Table.{events_of, names_in}
use Rattle.wf_flat.specs.Graph.{named_links, links_among}
use Rattle.wf_flat.specs.Flat.{AreWithin}
use Rattle.wf_view.proofs.KnownViews.{held}
use Rattle.wf_export.proofs.Perceiving.{made_for, perceived_links}
use Rattle.wf_export.proofs.export.run_seen.Goals as goal

pub returns-clause-seen : goal.returns-clause-seen
returns-clause-seen c =
    let u = c.args.v.view.now.core in
    record {
      grammar = c.start-formed.ensures.formed;
      run = c.requires.run;
      seen = c.in_ok-shown.ensures.seen u c.marks.ensures;
      there = c.in_ok-shown.ensures.there;
      opened = c.instances-there.ensures.opened;
      opens = c.in_ok-shown.ensures.opens u c.marks.ensures;
    }

pub returns-clause-links : goal.returns-clause-links
returns-clause-links c =
    let h = c.args.v.grammar.now.core in
    let u = c.args.v.view.now.core in
    let rows = c.in_ok-rows.rows in
    let xs = c.args.run.now.instances in
    let shown = c.in_ok-shown.shown in
    let marks = c.in_ok-shown.ensures.marks in
    record {
      made_for = made_for h c.args.v.view.now (held h c.args.v.view.now c.args.v.held) rows c.in_ok-rows.ensures.shown;
      links = ap (λ (m : List Bool). named_links (names_in xs) (links_among h m rows xs shown.numbers)) marks
          ∙ (c.in_ok-shown.ensures.links rows u c.marks.ensures ∙ perceived_links h c.args.v.view.now (held h c.args.v.view.now c.args.v.held) rows c.in_ok-rows.ensures.shown h.start (events_of c.args.run.now));
      within = subst (λ (m : List Bool). AreWithin (length xs) (links_among h m rows xs shown.numbers)) (sym marks) (c.in_ok-shown.ensures.within rows);
    }
