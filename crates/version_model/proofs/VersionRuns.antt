-- A run of a version is a run of the grammar.
use Rattle.std.proofs.Common.{◌≡◌, ℕ, ◌<◌, ◌≤◌, List, [], ◌∷◌, ◌++◌, map, length, get_or, Some, refl, sym, ap, ◌∙◌, subst}
use Rattle.wf_model.specs.Lists.{IsIn}
use Rattle.wf_model.specs.Grammar.{Grammar, Module, Edge, Production, production_at, module_at, head_of, body_of}
use Rattle.wf_model.specs.declared.event.Event.{Event}
use Rattle.wf_model.specs.declared.event.Event.TheVariants.{Start, Expand}
use Rattle.wf_model.specs.Run.{named, made, made_by, names_of, Extends, AllExtend}
use Rattle.wf_model.specs.Links.{input, output}
use Rattle.wf_model.specs.Items.{dotted, input_items, output_items, edge_item, items_by, items}
use Rattle.wf_model.proofs.Mapping.{map_same}
use Rattle.wf_model.proofs.Runs.{made-append}
use Rattle.wf_model.specs.Versions.{version_of, IsVersion}
use Rattle.version_model.specs.Laws.{VersionRunLaw}
use Rattle.version_model.proofs.SameParts.{in_version, in_grammar, production_same, head_same, body_same, module_same, place_below}

module _ (g : Grammar) (m p : ℕ) (is : IsVersion g m p) where
  made_by_same : (k : ℕ) (b : List Event) (e : Event) → Extends (version_of g m p) k b e → made_by g k e ≡ made_by (version_of g m p) k e
  made_by_same k b (Start r) x = refl
  made_by_same k b (Expand i q names) x = ap (named names) (sym (body_same g m p is q (in_version g m p is q x.in_range)))

  pub made_same : (k : ℕ) (b a : List Event) → AllExtend (version_of g m p) k b a → made g k a ≡ made (version_of g m p) k a
  made_same k b [] x = refl
  made_same k b (e ∷ a) x = ap (λ l. l ++ made g k a) (made_by_same k b e x.0) ∙ ap (λ l. made_by (version_of g m p) k e ++ l) (made_same k (b ++ e ∷ []) a x.1)

  extends_up : (k : ℕ) (b : List Event) (e : Event) → made g k b ≡ made (version_of g m p) k b → Extends (version_of g m p) k b e → Extends g k b e
  extends_up k b (Start r) s x = x
  extends_up k b (Expand i q names) s x =
      let h = in_version g m p is q x.in_range in
      let stands : IsIn (record { name = i; module_no = head_of g q }) (made (version_of g m p) k b) =
      subst (λ z. IsIn (record { name = i; module_no = z }) (made (version_of g m p) k b)) (head_same g m p is q h) x.stands in
      record {
        in_range = in_grammar g m p is q h;
        stands = subst (λ l. IsIn (record { name = i; module_no = head_of g q }) l) (sym s) stands;
        open_end = x.open_end;
        one_each = x.one_each ∙ ap length (body_same g m p is q h);
        good = x.good;
        differ = x.differ;
        new = λ n i h. x.new n i (subst (λ l. IsIn n (names_of l)) s h);
      }

  pub all_up : (k : ℕ) (b a : List Event) → made g k b ≡ made (version_of g m p) k b → AllExtend (version_of g m p) k b a → AllExtend g k b a
  all_up k b [] s x = tt
  all_up k b (e ∷ a) s x = (extends_up k b e s x.0, all_up k (b ++ e ∷ []) a both x.1)
    where
      both : made g k (b ++ e ∷ []) ≡ made (version_of g m p) k (b ++ e ∷ [])
      both =
          made-append g k b (e ∷ []) ∙
          (ap (λ l. l ++ made g k (e ∷ [])) s ∙
          (ap (λ l. made (version_of g m p) k b ++ (l ++ [])) (made_by_same k b e x.0) ∙
          sym (made-append (version_of g m p) k b (e ∷ []))))

  -- an edge of a production of the version makes the same item
  edge_item_same : (i : List ℕ) (q : ℕ) (names : List (List ℕ)) (e : Edge) → q < p → edge_item g i q names e ≡ edge_item (version_of g m p) i q names e
  edge_item_same i q names e h =
      let from = get_or names e.from.position [] in
      let to = get_or names e.to.position [] in
      let place : get_or (body_of g q) e.from.position 0 ≡ get_or (body_of (version_of g m p) q) e.from.position 0 = ap (λ ms. get_or ms e.from.position 0) (sym (body_same g m p is q h)) in
      let there : module_at g (get_or (body_of g q) e.from.position 0) ≡ module_at (version_of g m p) (get_or (body_of (version_of g m p) q) e.from.position 0) =
      sym (module_same g m p is (get_or (body_of g q) e.from.position 0) (place_below g m p is q e.from.position h)) ∙ ap (module_at (version_of g m p)) place in
      ap (λ (w : Module). record {
        name = dotted from (get_or w.outputs e.from.port []);
        maker = Some i;
        produced = Some (output from e.from.port);
        consumed = Some (input to e.to.port);
      }) there

  pub items_by_same : (k : ℕ) → k < m → (b : List Event) (e : Event) → Extends (version_of g m p) k b e → items_by g k e ≡ items_by (version_of g m p) k e
  items_by_same k hk b (Start r) x = ap (λ (z : Module). input_items r 0 z.inputs ++ output_items r 0 z.outputs) (sym (module_same g m p is k hk))
  items_by_same k hk b (Expand i q names) x =
      let h = in_version g m p is q x.in_range in
      map_same (edge_item g i q names) (edge_item (version_of g m p) i q names) (production_at g q).edges (λ e j. edge_item_same i q names e h) ∙
      ap (λ (r : Production). map (edge_item (version_of g m p) i q names) r.edges) (sym (production_same g m p is q h))

  items_same : (k : ℕ) → k < m → (b a : List Event) → AllExtend (version_of g m p) k b a → items g k a ≡ items (version_of g m p) k a
  items_same k hk b [] x = refl
  items_same k hk b (e ∷ a) x =
      ap (λ l. l ++ items g k a) (items_by_same k hk b e x.0) ∙ ap (λ l. items_by (version_of g m p) k e ++ l) (items_same k hk (b ++ e ∷ []) a x.1)

pub version_run_law : VersionRunLaw
version_run_law g m p is = record {
  each = λ k hk events x. record {
    run = all_up g m p is k [] events refl x;
    instances = made_same g m p is k [] events x;
    items = items_same g m p is k hk [] events x;
  };
  accepted = λ limit events x.
      let s = sym (made_same g m p is g.start [] events x.0) in (
        all_up g m p is g.start [] events refl x.0,
        subst (λ l. length l ≤ limit) s x.1,
        λ n h. x.2 n (subst (λ l. IsIn n (names_of l)) (sym s) h),
      );
}
