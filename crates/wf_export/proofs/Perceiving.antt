-- The perceived pairs as rows, and the links by them.
use Rattle.std.proofs.Common.{◌≡◌, ℕ, ◌<◌, Bool, true, false, cond, List, [], Option, Some, None, length, get_or, refl, sym, ap, ◌∙◌, inl, inr, arith}
use Rattle.std.proofs.lemmas.Bool.{cases_lt}
use Rattle.std.proofs.lemmas.List.{get_or_past}
use Rattle.wf_model.specs.Grammar.{Grammar, inputs_of, outputs_of}
use Rattle.wf_model.specs.View.{expands, shows}
use Rattle.wf_model.specs.declared.event.Event.{Event}
use Rattle.wf_model.specs.Run.{Instance, Expanded, expanded_by, seen_in}
use Rattle.wf_model.specs.Links.{pair_links, opened_links, links_with, links, perceived}
use Rattle.wf_model.specs.Meaning.{bit_of, pairs_of}
use Rattle.wf_model.proofs.Mapping.{flat_map_same}
use Rattle.wf_model.proofs.SameLinks.{pair_links_same}
use Rattle.wf_view.specs.Held.{HeldView, IsHeldFor}
use Rattle.wf_view.specs.ShownTable.{AreOnlyShownBelow}
use Rattle.wf_flat.specs.Graph.{IsMadeFor}

module _ (g : Grammar) (v : HeldView) (held : IsHeldFor g v) (rows : List (Option (List ℕ))) (all : AreOnlyShownBelow g v (length g.modules) rows) where
  -- what rows a module has, by whether the view expands it
  rows_if : (m : ℕ) → m < length g.modules → (b : Bool) → expands v.core m ≡ b → get_or rows m None ≡ cond b None (Some (get_or v.rows m []))
  rows_if m l b e = all.below m l ∙ ap (λ b. cond b None (Some (get_or v.rows m []))) e

  -- the rows are made for the modules
  pub made_for : IsMadeFor g rows
  made_for = record {
    each = all.each;
    rows = λ m list h. elim (cases_lt m (length g.modules)) [
      | inl l ↦ by m list h l (expands v.core m) refl
      | inr l ↦ absurd (none_some list (sym (all.none m l) ∙ h))
    ];
  }
    where
      none_some : (list : List ℕ) → None ≡ Some list → ⊥
      none_some list h = cc

      by : (m : ℕ) (list : List ℕ) → get_or rows m None ≡ Some list → m < length g.modules → (b : Bool) → expands v.core m ≡ b → length list ≡ inputs_of g m
      by m list h l true e = absurd (none_some list (sym (rows_if m l true e) ∙ h))
      by m list h l false e =
          let s = sym (rows_if m l false e) ∙ h in
          let same : get_or v.rows m [] ≡ list = cc in
          ap (λ x. length x) (sym same) ∙ (held.rows m l e).one_each

  -- they have the perceived pairs
  pairs_below : (m i o : ℕ) → m < length g.modules → i < inputs_of g m → o < outputs_of g m → pairs_of rows m i o ≡ perceived v.core m i o
  pairs_below m i o l hi ho = by (expands v.core m) refl
    where
      by : (b : Bool) → expands v.core m ≡ b → pairs_of rows m i o ≡ perceived v.core m i o
      by true e = ap (λ z. bit_of z i o) (rows_if m l true e) ∙ sym (ap (λ b. cond b false (shows v.core m i o)) e)
      by false e = ap (λ z. bit_of z i o) (rows_if m l false e) ∙ ((held.rows m l e).bits i o hi ho ∙ sym (ap (λ b. cond b false (shows v.core m i o)) e))

  same_pairs : (m i o : ℕ) → i < inputs_of g m → o < outputs_of g m → pairs_of rows m i o ≡ perceived v.core m i o
  same_pairs m i o hi ho = elim (cases_lt m (length g.modules)) [
    | inl l ↦ pairs_below m i o l hi ho
    | inr l ↦ absurd (let e : inputs_of g m ≡ 0 = ap (λ z. length z.inputs) (get_or_past g.modules m (record { name = []; inputs = []; outputs = [] }) l) in omega arith)
  ]

  -- the links by these rows are those by the perceived pairs
  pub perceived_links : (m : ℕ) (e : List Event) → links_with g v.core (pairs_of rows) m e ≡ links g v.core m e
  perceived_links m e = flat_map_same _ _ (seen_in g v.core m e) (λ i h. one i (expands v.core i.module_no) (expanded_by e i.name))
    where
      one : (i : Instance) (b : Bool) (x : Option Expanded) →
          cond b (opened_links g (pairs_of rows) i x) (pair_links g (pairs_of rows) i.module_no i.name) ≡ cond b (opened_links g (perceived v.core) i x) (pair_links g (perceived v.core) i.module_no i.name)
      one i true None = pair_links_same g (pairs_of rows) (perceived v.core) i.module_no i.name (same_pairs i.module_no)
      one i true (Some x) = refl
      one i false x = pair_links_same g (pairs_of rows) (perceived v.core) i.module_no i.name (same_pairs i.module_no)
