use Rattle.std.proofs.Common.{◌≡◌, ◌∙◌, ℕ, List, Vec, ap, sym, length, subst}
use Rattle.std.specs.declared.alloc.Global.{Global}
use Rattle.std.proofs.lemmas.List.{length-map, with_items_is}
use Rattle.wf_model.specs.Grammar.{Grammar}
use Rattle.wf_spec.specs.GivenRows.{table_of, HavePlaces, AreAllAdded}
use Rattle.wf_spec.specs.Tables.{AreRows}
use Rattle.wf_spec.proofs.GivenRows.{first_places, rows_all}
use Rattle.wf_spec.proofs.lists.rows.rows_from.Goals as goal

pub add_given-requires : goal.add_given-requires
add_given-requires c =
    subst (λ t. HavePlaces c.args.given.now (table_of t)) (sym c.deref_mut.ensures.value)
    (first_places c.args.modules.now c.deref.result.now c.args.given.now (table_of c.in_ok-table.table.items) c.requires.few_ports c.requires.given c.in_ok-table.ensures)

pub returns : goal.returns
returns c =
    let kept : length c.add_given.new.table ≡ length c.deref_mut.result.now = c.add_given.auto.table in
    subst (λ (t : List (Vec ℕ Global)). (g : Grammar) → g.modules ≡ c.args.modules.now → g.given ≡ c.args.given.now → AreRows g (table_of t))
    (sym (with_items_is c.in_ok-table.table c.add_given.new.table (kept ∙ c.deref_mut.ensures.len)))
    (rows_all c.args.modules.now c.args.given.now c.in_ok-named.named.items c.deref.result.now (table_of c.in_ok-table.table.items) (table_of c.add_given.new.table) c.requires.given c.in_ok-named.ensures
    c.deref.ensures.value c.in_ok-table.ensures
    (subst (λ (t : List (Vec ℕ Global)). AreAllAdded c.args.given.now (table_of t) (table_of c.add_given.new.table)) c.deref_mut.ensures.value c.add_given.ensures)
    (length-map c.add_given.new.table (λ (v : Vec ℕ Global). v.items)
    ∙ (kept ∙ (ap length c.deref_mut.ensures.value ∙ sym (length-map c.in_ok-table.table.items (λ (v : Vec ℕ Global). v.items))))))
