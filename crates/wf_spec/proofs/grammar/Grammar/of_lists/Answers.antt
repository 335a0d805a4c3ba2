use Rattle.std.proofs.Common.{◌<◌, ◌∙◌, ap, sym, subst, length, map, List}
use Rattle.wf_model.specs.Grammar.{Production}
use Rattle.wf_model.specs.Lists.{IsIn}
use Rattle.wf_spec.specs.GivenRows.{AreGivenIn, table_of}
use Rattle.wf_spec.specs.Held.{HeldProduction, grammar_of_lists}
use Rattle.wf_spec.specs.Naming.{names_of}
use Rattle.wf_spec.specs.Tables.{numbers_in, places, AreByHead}
use Rattle.wf_spec.proofs.ByHead.{heads_within, places_all}
use Rattle.wf_spec.proofs.OfLists.{AreMade, given_within, made_kept, no_versions}
use Rattle.wf_spec.proofs.grammar.Grammar.of_lists.Goals as goal
use Rattle.wf_spec.proofs.grammar.Grammar.of_lists.Goals.{After-from_vec-4}

pub rows_from-requires-clause-given : goal.rows_from-requires-clause-given
rows_from-requires-clause-given c =
    subst (λ ms. AreGivenIn ms c.deref-3.result.now) (sym c.deref-2.ensures.value)
    (subst (AreGivenIn c.args.modules.items) (sym c.deref-3.ensures.value)
    (given_within (grammar_of_lists c.args.start.0 c.args.modules.items c.args.rules.items c.args.given.items) c.requires))

pub by_head-requires-clause-heads : goal.by_head-requires-clause-heads
by_head-requires-clause-heads c = λ r h.
    subst (λ n. r.head < n) (sym (c.len.ensures ∙ c.args.modules.ok.0))
    (heads_within (grammar_of_lists c.args.start.0 c.args.modules.items c.args.rules.items c.args.given.items) c.requires r (subst (IsIn r) c.deref-4.ensures.value h))

pub numbered-requires : goal.numbered-requires
numbered-requires c =
    sym
    (ap length c.deref-5.ensures.value
    ∙ (places_all c.deref-4.result.now c.in_ok-lists.field-0.places.items c.in_ok-lists.ensures.places ∙ ap length c.deref-4.ensures.value))

the_tables : (c : After-from_vec-4) → AreMade (grammar_of_lists c.args.start.0 c.args.modules.items c.args.rules.items c.args.given.items) c.from_vec-2.result c.in_ok-names.names
    (numbers_in c.in_ok-lists.field-0.lists.items) (table_of c.in_ok-rows.rows.items)
the_tables c = record {
  names_are = c.in_ok-names.ensures ∙ ap names_of c.deref.ensures.value;
  cores = ap (map (λ (p : HeldProduction). p.core)) c.from_vec-2.ensures ∙ c.in_ok-productions.ensures.cores;
  by_head = subst (λ n. AreByHead n c.args.rules.items (length c.args.rules.items) (numbers_in c.in_ok-lists.field-0.lists.items)) (c.len.ensures ∙ c.args.modules.ok.0)
      (subst (λ rs. AreByHead c.len.result rs (length rs) (numbers_in c.in_ok-lists.field-0.lists.items)) c.deref-4.ensures.value c.in_ok-lists.ensures.lists);
  rows = c.in_ok-rows.ensures (grammar_of_lists c.args.start.0 c.args.modules.items c.args.rules.items c.args.given.items) (sym c.deref-2.ensures.value) (sym c.deref-3.ensures.value);
  places = ap (map (λ (p : HeldProduction). p.alternative)) c.from_vec-2.ensures ∙ (c.in_ok-productions.ensures.alternatives ∙ (c.deref-5.ensures.value ∙ (c.in_ok-lists.ensures.places
      ∙ ap (λ (rs : List Production). places rs (length rs)) c.deref-4.ensures.value)));
}

pub invariant_of-result : goal.invariant_of-result
invariant_of-result c = (
  rw c.from_vec.ensures (rw c.from_vec-3.ensures
      (made_kept c.args.start.0 c.args.modules.items c.args.rules.items c.args.given.items c.from_vec-2.result c.in_ok-names.names (numbers_in c.in_ok-lists.field-0.lists.items) (table_of c.in_ok-rows.rows.items)
      c.requires (the_tables (goal.at.invariant_of-result c).After-from_vec-4))),
  no_versions _ c.from_vec-4.result (c.from_vec-4.ensures ∙ c.new.ensures.items),
)
