-- Runs with the same events in another order have the same instances, links and items.
use Rattle.std.proofs.Common.{◌≡◌, ◌≢◌, ℕ, ◌↔◌, ◌&&◌, cond, IsTrue, List, [], ◌∷◌, ◌++◌, get_or, bytes_eq, Option, Some, None, refl, sym, ap, ◌∙◌, subst, inl, inr, append_assoc}
use Rattle.wf_model.specs.Lists.{IsIn}
use Rattle.wf_model.specs.Grammar.{Grammar, Assignment}
use Rattle.wf_model.specs.View.{View, expands}
use Rattle.wf_model.specs.declared.event.Event.{Event}
use Rattle.wf_model.specs.declared.event.Event.TheVariants.{Start, Expand}
use Rattle.wf_model.specs.Run.{Instance, Expanded, made_by, made, expanded_by, Extends, AllExtend, IsRun, opens, seen_in, IsPending, root_of}
use Rattle.wf_model.specs.Links.{Port, Link, pair_links, opened_links, links_of, links_with, IsLinked, Path}
use Rattle.wf_model.specs.Reach.{Step, IsAlong}
use Rattle.wf_model.specs.Items.{Item, items_by, items, IsMadeOpen}
use Rattle.wf_model.proofs.Lists.{in_flat_map, in_flat_map_from, some_from, some_gives, bytes_same}
use Rattle.wf_model.proofs.Runs.{expansion_kept, expansion_later}
use Rattle.wf_model.proofs.Walks.{walk_through, walk_one}
use Rattle.wf_model.proofs.Expanding.{expanded_from}
use Rattle.wf_laws.specs.Order.{OrderLaw}
use Rattle.wf_laws.proofs.Address.{seen_law}

-- an expand event of a run tells how its instance is expanded
expanded_to : (g : Grammar) (m : ℕ) (b a : List Event) (n : List ℕ) (p : ℕ) (names : List (List ℕ)) → AllExtend g m b a → IsIn (Expand n p names) a → expanded_by (b ++ a) n ≡ Some (record { production = p; names = names })
expanded_to g m b [] n p names h i = absurd i
expanded_to g m b (e ∷ a) n p names h (inr i) =
    subst (λ l. expanded_by l n ≡ Some (record { production = p; names = names })) (append_assoc b (e ∷ []) a) (expanded_to g m (b ++ e ∷ []) a n p names h.1 i)
expanded_to g m b (e ∷ a) n p names h (inl q) =
    let can = subst (Extends g m b) (sym q) h.0 in
    let told : expanded_by (b ++ Expand n p names ∷ []) n ≡ Some (record { production = p; names = names }) =
    expansion_later b (Expand n p names ∷ []) n can.open_end ∙ ap (λ t. cond {A = Option Expanded} t (Some (record { production = p; names = names })) None) (bytes_same n n refl) in
    subst (λ l. expanded_by l n ≡ Some (record { production = p; names = names })) (append_assoc b (e ∷ []) a)
    (expansion_kept (b ++ e ∷ []) a n _ (subst (λ z. expanded_by (b ++ z ∷ []) n ≡ Some (record { production = p; names = names })) q told))

-- a run that is not empty has its start event at its head
root_in : (g : Grammar) (m : ℕ) (a : List Event) → IsRun g m a → a ≢ [] → IsIn (Start (root_of a)) a
root_in g m [] run n = absurd (n refl)
root_in g m (Start r ∷ a) run n = inl refl
root_in g m (Expand i p names ∷ a) run n = absurd run.0.stands

-- and no other start event
only_root : (g : Grammar) (m : ℕ) (a : List Event) (r : List ℕ) → IsRun g m a → IsIn (Start r) a → r ≡ root_of a
only_root g m [] r run i = absurd i
only_root g m (Expand j p names ∷ a) r run i = absurd run.0.stands
only_root g m (Start q ∷ a) r run (inl e) = let f : Start r ≡ Start q = e in cc
only_root g m (Start q ∷ a) r run (inr i) = absurd (none (Start q ∷ []) a (λ z. absurd (cc)) run.1 i)
  where
    none : (b a : List Event) → b ≢ [] → AllExtend g m b a → IsIn (Start r) a → ⊥
    none b [] n h i = i
    none b (e ∷ a) n h (inl q) = n (subst (Extends g m b) (sym q) h.0).0
    none b (e ∷ a) n h (inr i) = none (b ++ e ∷ []) a (λ z. more b z) h.1 i
      where
        more : (b : List Event) → b ++ e ∷ [] ≡ [] → ⊥
        more [] z = absurd (cc)
        more (y ∷ b) z = absurd (cc)

module _ (g : Grammar) (u : View) (m : ℕ) (a b : List Event) (run_a : IsRun g m a) (run_b : IsRun g m b) (sub : (e : Event) → IsIn e a → IsIn e b) where
  instances_in : (i : Instance) → IsIn i (made g m a) → IsIn i (made g m b)
  instances_in i h = let r = in_flat_map_from (made_by g m) i a h in in_flat_map (made_by g m) r.0 i b (sub r.0 r.1) r.2

  items_in : (t : Item) → IsIn t (items g m a) → IsIn t (items g m b)
  items_in t h = let r = in_flat_map_from (items_by g m) t a h in in_flat_map (items_by g m) r.0 t b (sub r.0 r.1) r.2

  expansion_in : (n : List ℕ) (x : Expanded) → expanded_by a n ≡ Some x → expanded_by b n ≡ Some x
  expansion_in n x h = expanded_to g m [] b n x.production x.names run_b (sub _ (expanded_from a n x h))

  started_in : a ≢ [] → b ≢ []
  started_in n e = subst (IsIn (Start (root_of a))) e (sub _ (root_in g m a run_a n))

  root_same : a ≢ [] → root_of a ≡ root_of b
  root_same n = only_root g m b (root_of a) run_b (sub _ (root_in g m a run_a n))

  along_in : (n : List ℕ) (steps : List Step) (c : List ℕ) → IsAlong g u a n steps c → IsAlong g u b n steps c
  along_in n [] c h = h
  along_in n (s ∷ steps) c h = (h.0, expansion_in n _ h.1, h.2, h.3, along_in (get_or h.0 s.position []) steps c h.4)

  started : (i : Instance) → IsIn i (seen_in g u m a) → a ≢ []
  started i h e = subst (λ l. IsIn i (seen_in g u m l)) e h

  seen_in_both : (i : Instance) → IsIn i (seen_in g u m a) → IsIn i (seen_in g u m b)
  seen_in_both i h =
      let n = started i h in
      let r = (seen_law g u m a i run_a n).0 h in
      (seen_law g u m b i run_b (started_in n)).1 (r.0, subst (λ z. IsAlong g u b z r.0 i.name) (root_same n) (along_in (root_of a) r.0 i.name r.1), r.2)

  opens_in : (n : List ℕ) → IsTrue (opens u (seen_in g u m a) n) → IsTrue (opens u (seen_in g u m b) n)
  opens_in n h =
      let r = some_gives (λ (z : Instance). bytes_eq z.name n && expands u z.module_no) (seen_in g u m a) h in
      some_from (λ (z : Instance). bytes_eq z.name n && expands u z.module_no) r.0 (seen_in g u m b) (seen_in_both r.0 r.1) r.2

  visible_in : (o : Option (List ℕ)) → IsMadeOpen g u m a o → IsMadeOpen g u m b o
  visible_in None h = h
  visible_in (Some i) h = opens_in i h

module _ (g : Grammar) (u : View) (m : ℕ) (a b : List Event) (run_a : IsRun g m a) (run_b : IsRun g m b) (same : (e : Event) → IsIn e a ↔ IsIn e b) where
  expansion_same : (n : List ℕ) → expanded_by a n ≡ expanded_by b n
  expansion_same n = go (expanded_by a n) refl (expanded_by b n) refl
    where
      go : (x : Option Expanded) → expanded_by a n ≡ x → (y : Option Expanded) → expanded_by b n ≡ y → expanded_by a n ≡ expanded_by b n
      go None e None f = e ∙ sym f
      go None e (Some y) f = expansion_in g u m b a run_b run_a (λ e. (same e).1) n y f ∙ sym f
      go (Some x) e y f = e ∙ sym (expansion_in g u m a b run_a run_b (λ e. (same e).0) n x e)

  pending_in : (i : Instance) → IsPending g u m a i → IsPending g u m b i
  pending_in i h = (seen_in_both g u m a b run_a run_b (λ e. (same e).0) i h.0, h.1, sym (expansion_same i.name) ∙ h.2)

  links_of_same : (leaf : Assignment) (i : Instance) → links_of g u leaf a i ≡ links_of g u leaf b i
  links_of_same leaf i = ap (λ o. cond {A = List (Link (List ℕ))} (expands u i.module_no) (opened_links g leaf i o) (pair_links g leaf i.module_no i.name)) (expansion_same i.name)

  links_in : (leaf : Assignment) (l : Link (List ℕ)) → IsIn l (links_with g u leaf m a) → IsIn l (links_with g u leaf m b)
  links_in leaf l h =
      let r = in_flat_map_from (links_of g u leaf a) l (seen_in g u m a) h in
      in_flat_map (links_of g u leaf b) r.0 l (seen_in g u m b) (seen_in_both g u m a b run_a run_b (λ e. (same e).0) r.0 r.1) (subst (IsIn l) (links_of_same leaf r.0) r.2)

  paths_in : (leaf : Assignment) (x y : Port (List ℕ)) → Path (links_with g u leaf m a) x y → Path (links_with g u leaf m b) x y
  paths_in leaf x y w = walk_through {S = IsLinked (links_with g u leaf m b)} (λ z. z) (λ p q l. walk_one (links_in leaf (record { from = p; to = q }) l)) w

pub order_law : OrderLaw
order_law g u m a b run_a run_b same =
    let back : (e : Event) → IsIn e b ↔ IsIn e a = λ e. ((same e).1, (same e).0) in
    record {
      instances = λ i. (instances_in g u m a b run_a run_b (λ e. (same e).0) i, instances_in g u m b a run_b run_a (λ e. (same e).1) i);
      seen = λ i. (seen_in_both g u m a b run_a run_b (λ e. (same e).0) i, seen_in_both g u m b a run_b run_a (λ e. (same e).1) i);
      pending = λ i. (pending_in g u m a b run_a run_b same i, pending_in g u m b a run_b run_a back i);
      links = λ leaf l. (links_in g u m a b run_a run_b same leaf l, links_in g u m b a run_b run_a back leaf l);
      paths = λ leaf x y. (paths_in g u m a b run_a run_b same leaf x y, paths_in g u m b a run_b run_a back leaf x y);
      items = λ t. (items_in g u m a b run_a run_b (λ e. (same e).0) t, items_in g u m b a run_b run_a (λ e. (same e).1) t);
      visible = λ t. (visible_in g u m a b run_a run_b (λ e. (same e).0) t.maker, visible_in g u m b a run_b run_a (λ e. (same e).1) t.maker);
    }
