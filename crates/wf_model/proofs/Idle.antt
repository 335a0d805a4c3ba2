-- Events that open nothing: they change no link and no visible item. Further events of a finished run are such.
use Rattle.std.proofs.Common.{◌≡◌, ◌≢◌, ℕ, ◌↔◌, ◌&&◌, Bool, true, false, cond, IsTrue, List, [], ◌∷◌, ◌++◌, flat_map, bytes_eq, Option, Some, None, refl, sym, ap, ◌∙◌, subst, ⊎_elim, append_assoc, append-nil, true≢false}
use Rattle.std.proofs.lemmas.List.Concat.{flat_map-append}
use Rattle.std.proofs.lemmas.Bool.{and_parts}
use Rattle.wf_model.specs.Lists.{IsIn}
use Rattle.wf_model.specs.Grammar.{Grammar, Assignment, body_of, production_at}
use Rattle.wf_model.specs.View.{View, expands}
use Rattle.wf_model.specs.declared.event.Event.{Event}
use Rattle.wf_model.specs.declared.event.Event.TheVariants.{Start, Expand}
use Rattle.wf_model.specs.Run.{Instance, named, CanExpand, AllExtend, opens, seen_in, IsPending, IsFinished, expanded_by}
use Rattle.wf_model.specs.Links.{pair_links, opened_links, links_of, links_with, Link}
use Rattle.wf_model.specs.Items.{Item, items_by, items, edge_item, IsVisible, IsMadeOpen}
use Rattle.wf_model.specs.Finishing.{IsFinishing}
use Rattle.wf_model.specs.Idle.{IsIdle, ShowsTheSame}
use Rattle.wf_model.proofs.Lists.{in_append_left, in_append_cases, in_map_from, some_gives, same_bytes}
use Rattle.wf_model.proofs.Runs.{see_all-append, expansion_other, AllExtend-append}
use Rattle.wf_model.proofs.Mapping.{flat_map_same}

module _ (g : Grammar) (u : View) (m : ℕ) where
  shut : (events : List Event) (i : List ℕ) → IsIdle g u m events i → (b : Bool) → opens u (seen_in g u m events) i ≡ b → opens u (seen_in g u m events) i ≡ false
  shut events i idle false e = e
  shut events i idle true e =
      let r = some_gives (λ (j : Instance). bytes_eq j.name i && expands u j.module_no) (seen_in g u m events) e in
      let both = and_parts (bytes_eq r.0.name i) (expands u r.0.module_no) r.2 in
      absurd (true≢false (sym both.1 ∙ idle r.0 r.1 (same_bytes r.0.name i both.0)))

  module _ (events : List Event) (i : List ℕ) (p : ℕ) (names : List (List ℕ)) (idle : IsIdle g u m events i) where
    abbrev after : List Event
    after = events ++ Expand i p names ∷ []

    same_seen : seen_in g u m after ≡ seen_in g u m events
    same_seen =
        see_all-append g u m [] events (Expand i p names ∷ []) ∙
        (ap (λ t. seen_in g u m events ++ cond {A = List Instance} t (named names (body_of g p)) []) (shut events i idle (opens u (seen_in g u m events) i) refl) ∙ append-nil (seen_in g u m events))

    same_links_of : (leaf : Assignment) (j : Instance) → IsIn j (seen_in g u m events) → links_of g u leaf after j ≡ links_of g u leaf events j
    same_links_of leaf j h = go (expands u j.module_no) refl
      where
        go : (b : Bool) → expands u j.module_no ≡ b → links_of g u leaf after j ≡ links_of g u leaf events j
        go true e = ap (λ o. cond {A = List (Link (List ℕ))} (expands u j.module_no) (opened_links g leaf j o) (pair_links g leaf j.module_no j.name)) (expansion_other events i p names j.name (λ z. true≢false (sym e ∙ idle j h (sym z))))
        go false e =
            ap (λ b. cond {A = List (Link (List ℕ))} b (opened_links g leaf j (expanded_by after j.name)) (pair_links g leaf j.module_no j.name)) e ∙
            sym (ap (λ b. cond {A = List (Link (List ℕ))} b (opened_links g leaf j (expanded_by events j.name)) (pair_links g leaf j.module_no j.name)) e)

    same_links : (leaf : Assignment) → links_with g u leaf m after ≡ links_with g u leaf m events
    same_links leaf = ap (flat_map (links_of g u leaf after)) same_seen ∙ flat_map_same (links_of g u leaf after) (links_of g u leaf events) (seen_in g u m events) (same_links_of leaf)

    same_maker : (o : Option (List ℕ)) → IsMadeOpen g u m after o ↔ IsMadeOpen g u m events o
    same_maker None = ((λ h. h), (λ h. h))
    same_maker (Some k) = (subst (λ s. IsTrue (opens u s k)) same_seen, subst (λ s. IsTrue (opens u s k)) (sym same_seen))

    same_items : (t : Item) → (IsIn t (items g m after) × IsVisible g u m after t) ↔ (IsIn t (items g m events) × IsVisible g u m events t)
    same_items t = (
      (λ h. ⊎_elim (λ a. (a, (same_maker t.maker).0 h.1)) (λ b. absurd (unseen (in_map_from (edge_item g i p names) t (production_at g p).edges (subst (IsIn t) (append-nil (items_by g m (Expand i p names))) b)) ((same_maker t.maker).0 h.1)))
          (in_append_cases t (items g m events) (items g m (Expand i p names ∷ [])) (subst (IsIn t) (flat_map-append (items_by g m) events (Expand i p names ∷ [])) h.0))),
      (λ h. (subst (IsIn t) (sym (flat_map-append (items_by g m) events (Expand i p names ∷ []))) (in_append_left t (items g m events) _ h.0), (same_maker t.maker).1 h.1)),
    )
      where
        unseen : (e : Rattle.wf_model.specs.Grammar.Edge) × IsIn e (production_at g p).edges × (t ≡ edge_item g i p names e) → IsVisible g u m events t → ⊥
        unseen q v = true≢false (sym (subst (λ (z : Item). IsVisible g u m events z) q.2 v) ∙ shut events i idle (opens u (seen_in g u m events) i) refl)

    same_pending : (j : Instance) → IsPending g u m after j ↔ IsPending g u m events j
    same_pending j = (
      (λ h. let s = subst (IsIn j) same_seen h.0 in (s, h.1, sym (other s h.1) ∙ h.2)),
      (λ h. (subst (IsIn j) (sym same_seen) h.0, h.1, other h.0 h.1 ∙ h.2)),
    )
      where
        other : IsIn j (seen_in g u m events) → IsTrue (expands u j.module_no) → expanded_by after j.name ≡ expanded_by events j.name
        other s e = expansion_other events i p names j.name (λ z. true≢false (sym e ∙ idle j s (sym z)))

    -- expanding an instance that is not seen, or that the view does not expand, changes nothing that is seen
    pub idle_shows_the_same : ShowsTheSame g u m events after
    idle_shows_the_same = record { seen = same_seen; links = same_links; items = same_items; pending = same_pending }

  -- an event of a finished run opens nothing
  finished_is_idle : (events : List Event) (i : List ℕ) (p : ℕ) (names : List (List ℕ)) → IsFinished g u m events → CanExpand g m events i p names → IsIdle g u m events i
  finished_is_idle events i p names finished can j h e = go (expands u j.module_no) refl
    where
      go : (b : Bool) → expands u j.module_no ≡ b → expands u j.module_no ≡ false
      go false x = x
      go true x = absurd (finished j (h, x, ap (expanded_by events) e ∙ can.open_end))

  after_both : (a b c : List Event) → ShowsTheSame g u m a b → ShowsTheSame g u m b c → ShowsTheSame g u m a c
  after_both a b c x y = record {
    seen = y.seen ∙ x.seen;
    links = λ leaf. y.links leaf ∙ x.links leaf;
    items = λ t. ((λ h. (x.items t).0 ((y.items t).0 h)), (λ h. (y.items t).1 ((x.items t).1 h)));
    pending = λ i. ((λ h. (x.pending i).0 ((y.pending i).0 h)), (λ h. (y.pending i).1 ((x.pending i).1 h)));
  }

  more_shows_the_same : (events more : List Event) → events ≢ [] → IsFinished g u m events → AllExtend g m events more → ShowsTheSame g u m events (events ++ more)
  more_shows_the_same events [] started finished x =
      subst (ShowsTheSame g u m events) (sym (append-nil events)) (record { seen = refl; links = λ leaf. refl; items = λ t. ((λ h. h), (λ h. h)); pending = λ i. ((λ h. h), (λ h. h)) })
  more_shows_the_same events (Start r ∷ more) started finished x = absurd (started x.0.0)
  more_shows_the_same events (Expand i p names ∷ more) started finished x =
      let e = Expand i p names in
      let one = idle_shows_the_same events i p names (finished_is_idle events i p names finished x.0) in
      let rest = more_shows_the_same (events ++ e ∷ []) more (not_none events) (λ j h. finished j ((one.pending j).0 h)) x.1 in
      after_both events (events ++ e ∷ []) (events ++ e ∷ more) one (subst (ShowsTheSame g u m (events ++ e ∷ [])) (append_assoc events (e ∷ []) more) rest)
    where
      not_none : (a : List Event) → a ++ Expand i p names ∷ [] ≡ [] → ⊥
      not_none [] q = absurd (cc)
      not_none (y ∷ a) q = absurd (cc)

  -- every finishing of a finished run shows what the run shows
  pub finishing_shows_the_same : (events more : List Event) → events ≢ [] → IsFinished g u m events → IsFinishing g u m events more → ShowsTheSame g u m events (events ++ more)
  finishing_shows_the_same events more started finished f = more_shows_the_same events more started finished (AllExtend-append g m [] events more f.run).1
