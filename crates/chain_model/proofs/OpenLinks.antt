-- The links of a run: those of open instances, which are edges, entries and exits, and the pairs of instances that are not open.
use Rattle.std.proofs.Common.{◌≡◌, ℕ, ◌<◌, ◌⊎◌, Bool, true, false, cond, IsTrue, List, map, ◌++◌, Option, Some, None, refl, sym, ◌∙◌, subst, inl, inr, ⊎_elim, true≢false}
use Rattle.wf_model.specs.Lists.{IsIn}
use Rattle.wf_model.specs.Grammar.{Grammar, Assignment, production_at, inputs_of, outputs_of}
use Rattle.wf_model.specs.View.{View, expands}
use Rattle.wf_model.specs.declared.event.Event.{Event}
use Rattle.wf_model.specs.Run.{Instance, Expanded, expanded_by, seen_in, IsOpen}
use Rattle.wf_model.specs.Links.{Port, Link, input, output, edge_link, wiring, pair_links, instance_at, move_link, opened_links, links_of, links_with, IsLinked}
use Rattle.wf_model.proofs.Lists.{in_append_left, in_append_right, in_append_cases, in_map, in_map_from, in_flat_map, in_flat_map_from}
use Rattle.wf_model.proofs.Level.{pair_links_from, pair_links_in}
use Rattle.chain_model.specs.Chains.{entries_in, exits_in, IsOfOpen, IsEntry, IsExit}

-- the edges of a production, as links of its body
abbrev pub edges_in : Grammar → ℕ → List (Link (Option ℕ))
edges_in g p = map edge_link (production_at g p).edges

-- a link of an open instance that stands in one list stands in a list with more
pub with_more : (g : Grammar) (u : View) (m : ℕ) (events : List Event) (some all : ℕ → List (Link (Option ℕ))) → ((p : ℕ) (l : Link (Option ℕ)) → IsIn l (some p) → IsIn l (all p)) →
    (x y : Port (List ℕ)) → IsOfOpen g u m events some x y → IsOfOpen g u m events all x y
with_more g u m events some all more x y h = record { owner = h.owner; is_open = h.is_open; by = h.by; told = h.told; inner = h.inner; in_body = more h.by.production h.inner h.in_body; is = h.is }

-- a pair of an instance that is seen and not open
pub record IsOfUnopened (g : Grammar) (u : View) (leaf : Assignment) (m : ℕ) (events : List Event) (x y : Port (List ℕ)) : Type 0 where
  pub owner : Instance
  pub seen : IsIn owner (seen_in g u m events)
  pub not_open : ¬ IsOpen g u m events owner
  pub i : ℕ
  pub o : ℕ
  pub input_there : i < inputs_of g owner.module_no
  pub output_there : o < outputs_of g owner.module_no
  pub pair : IsTrue (leaf owner.module_no i o)
  pub is : ◌≡◌ {A = Link (List ℕ)} (record { from = x; to = y }) (record { from = input owner.name i; to = output owner.name o })

module _ (g : Grammar) (u : View) (m : ℕ) (events : List Event) where
  -- a link of the wiring is an edge, an entry or an exit
  pub wiring_cases : (x y : Port (List ℕ)) → IsOfOpen g u m events (wiring g) x y → IsOfOpen g u m events (edges_in g) x y ⊎ (IsEntry g u m events x y ⊎ IsExit g u m events x y)
  wiring_cases x y h =
      ⊎_elim (λ a. inl (listed_in (edges_in g) a))
      (λ b. ⊎_elim (λ a. inr (inl (listed_in (entries_in g) a))) (λ a. inr (inr (listed_in (exits_in g) a))) (in_append_cases h.inner (entries_in g h.by.production) (exits_in g h.by.production) b))
      (in_append_cases h.inner (edges_in g h.by.production) (entries_in g h.by.production ++ exits_in g h.by.production) h.in_body)
    where
      listed_in : (listed : ℕ → List (Link (Option ℕ))) → IsIn h.inner (listed h.by.production) → IsOfOpen g u m events listed x y
      listed_in listed q = record { owner = h.owner; is_open = h.is_open; by = h.by; told = h.told; inner = h.inner; in_body = q; is = h.is }

  pub edge_wired : (x y : Port (List ℕ)) → IsOfOpen g u m events (edges_in g) x y → IsOfOpen g u m events (wiring g) x y
  edge_wired = with_more g u m events (edges_in g) (wiring g) (λ p l h. in_append_left l (edges_in g p) (entries_in g p ++ exits_in g p) h)

  pub entry_wired : (x y : Port (List ℕ)) → IsEntry g u m events x y → IsOfOpen g u m events (wiring g) x y
  entry_wired = with_more g u m events (entries_in g) (wiring g) (λ p l h. in_append_right l (edges_in g p) (entries_in g p ++ exits_in g p) (in_append_left l (entries_in g p) (exits_in g p) h))

  pub exit_wired : (x y : Port (List ℕ)) → IsExit g u m events x y → IsOfOpen g u m events (wiring g) x y
  exit_wired = with_more g u m events (exits_in g) (wiring g) (λ p l h. in_append_right l (edges_in g p) (entries_in g p ++ exits_in g p) (in_append_right l (entries_in g p) (exits_in g p) h))

  module _ (leaf : Assignment) where
    -- each link of the run is one of an open instance, or a pair of one that is not open
    pub link_cases : (x y : Port (List ℕ)) → IsLinked (links_with g u leaf m events) x y → IsOfOpen g u m events (wiring g) x y ⊎ IsOfUnopened g u leaf m events x y
    link_cases x y h =
        let r = in_flat_map_from (links_of g u leaf events) (record { from = x; to = y }) (seen_in g u m events) h in
        by_view r.0 r.1 (expands u r.0.module_no) refl r.2
      where
        pairs : (j : Instance) → IsIn j (seen_in g u m events) → ¬ IsOpen g u m events j → IsIn (record { from = x; to = y }) (pair_links g leaf j.module_no j.name) → IsOfUnopened g u leaf m events x y
        pairs j s n q =
            let w = pair_links_from g leaf j.module_no j.name (record { from = x; to = y }) q in
            record { owner = j; seen = s; not_open = n; i = w.0; o = w.1; input_there = w.2; output_there = w.3; pair = w.4; is = w.5 }

        by_run : (j : Instance) → IsIn j (seen_in g u m events) → expands u j.module_no ≡ true → (o : Option Expanded) → expanded_by events j.name ≡ o → IsIn (record { from = x; to = y }) (opened_links g leaf j o) →
            IsOfOpen g u m events (wiring g) x y ⊎ IsOfUnopened g u leaf m events x y
        by_run j s ex None t q = inr (pairs j s (λ w. let z = sym t ∙ w.2.1 in (cc)) q)
        by_run j s ex (Some e) t q =
            let w = in_map_from (move_link (instance_at j.name e.names)) (record { from = x; to = y }) (wiring g e.production) q in
            inl (record { owner = j; is_open = (s, ex, (e, t)); by = e; told = t; inner = w.0; in_body = w.1; is = w.2 })

        by_view : (j : Instance) → IsIn j (seen_in g u m events) → (b : Bool) → expands u j.module_no ≡ b →
            IsIn (record { from = x; to = y }) (cond b (opened_links g leaf j (expanded_by events j.name)) (pair_links g leaf j.module_no j.name)) → IsOfOpen g u m events (wiring g) x y ⊎ IsOfUnopened g u leaf m events x y
        by_view j s true ex q = by_run j s ex (expanded_by events j.name) refl q
        by_view j s false ex q = inr (pairs j s (λ w. true≢false (sym w.1 ∙ ex)) q)

    pub open_linked : (x y : Port (List ℕ)) → IsOfOpen g u m events (wiring g) x y → IsLinked (links_with g u leaf m events) x y
    open_linked x y w =
        let moved = move_link (instance_at w.owner.name w.by.names) in
        let at : IsIn (record { from = x; to = y }) (map moved (wiring g w.by.production)) = subst (λ z. IsIn z (map moved (wiring g w.by.production))) (sym w.is) (in_map moved w.inner (wiring g w.by.production) w.in_body) in
        in_flat_map (links_of g u leaf events) w.owner (record { from = x; to = y }) (seen_in g u m events) w.is_open.0
        (subst (λ b. IsIn (record { from = x; to = y }) (cond b (opened_links g leaf w.owner (expanded_by events w.owner.name)) (pair_links g leaf w.owner.module_no w.owner.name))) (sym w.is_open.1)
        (subst (λ o. IsIn (record { from = x; to = y }) (opened_links g leaf w.owner o)) (sym w.told) at))

    pub unopened_linked : (x y : Port (List ℕ)) → IsOfUnopened g u leaf m events x y → IsLinked (links_with g u leaf m events) x y
    unopened_linked x y w =
        let pairs = pair_links g leaf w.owner.module_no w.owner.name in
        let at : IsIn (record { from = x; to = y }) pairs = subst (λ z. IsIn z pairs) (sym w.is) (pair_links_in g leaf w.owner.module_no w.owner.name w.i w.o w.input_there w.output_there w.pair) in
        in_flat_map (links_of g u leaf events) w.owner (record { from = x; to = y }) (seen_in g u m events) w.seen (by_view (expands u w.owner.module_no) refl at)
      where
        by_run : (o : Option Expanded) → expanded_by events w.owner.name ≡ o → expands u w.owner.module_no ≡ true → IsIn (record { from = x; to = y }) (pair_links g leaf w.owner.module_no w.owner.name) → IsIn (record { from = x; to = y }) (opened_links g leaf w.owner o)
        by_run None t ex q = q
        by_run (Some e) t ex q = absurd (w.not_open (w.seen, ex, (e, t)))

        by_view : (b : Bool) → expands u w.owner.module_no ≡ b → IsIn (record { from = x; to = y }) (pair_links g leaf w.owner.module_no w.owner.name) →
            IsIn (record { from = x; to = y }) (cond b (opened_links g leaf w.owner (expanded_by events w.owner.name)) (pair_links g leaf w.owner.module_no w.owner.name))
        by_view true ex q = by_run (expanded_by events w.owner.name) refl ex q
        by_view false ex q = q
