use Rattle.std.proofs.Common.{Vec, List, ℕ, map, sym, subst}
use Rattle.std.specs.declared.alloc.Global.{Global}
use Rattle.wf_view.specs.FitRows.{IsViewOfRows}
use Rattle.wf_view.specs.Held.{HeldView, IsHeldFor}
use Rattle.wf_view.specs.Tables.{AreSeen}
use Rattle.wf_view.proofs.FitRows.{held_is, in_words}
use Rattle.wf_view.proofs.view.View.of_rows.Goals as goal
use Rattle.wf_view.proofs.view.View.of_rows.Goals.{After-of_tables}

-- the rows, as lists
abbrev rows : After-of_tables → List (List ℕ)
rows c = map (λ (r : Vec ℕ Global). r.items) c.args.rows.items

pub returns-clause-in_words : goal.returns-clause-in_words
returns-clause-in_words c =
    let made = (goal.at.returns-clause-in_words c).After-of_tables in
    subst (λ (v : HeldView). IsViewOfRows c.args.expanded.items (rows made) v.core) (sym c.of_tables.ensures)
    (in_words c.args.g.now.core c.start-formed.ensures.formed c.args.expanded.items (rows made) c.requires)

pub returns-clause-held : goal.returns-clause-held
returns-clause-held c =
    let made = (goal.at.returns-clause-held c).After-of_tables in
    subst (IsHeldFor c.args.g.now.core) (sym c.of_tables.ensures)
    (held_is c.args.g.now.core c.start-formed.ensures.formed c.args.expanded.items (rows made) c.requires c.in_ok-seen.seen.items c.in_ok-seen.ensures.one_each
    (subst (λ l. AreSeen c.args.g.now.core l c.in_ok-seen.seen.items) c.deref.ensures.value c.in_ok-seen.ensures.seen))
