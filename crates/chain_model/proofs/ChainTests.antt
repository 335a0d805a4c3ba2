-- Of two items of a run it can be told whether one leads on to the other, and whether so many steps lead from one to the other.
use Rattle.std.proofs.Common.{◌≡◌, ℕ, zero, suc, ◌<◌, Bool, true, false, cond, IsTrue, List, [], ◌∷◌, map, flat_map, length, Option, Some, None, refl, sym, ap, ◌∙◌, subst, inl, inr}
use Rattle.wf_model.specs.Lists.{IsIn, Walk}
use Rattle.wf_model.specs.Grammar.{Grammar, Assignment, inputs_of, outputs_of}
use Rattle.wf_model.specs.WellFormed.{IsWellFormed}
use Rattle.wf_model.specs.View.{View, expands}
use Rattle.wf_model.specs.declared.event.Event.{Event}
use Rattle.wf_model.specs.Run.{Instance, Expanded, expanded_by, IsRun, IsOpen, opens, seen_in}
use Rattle.wf_model.specs.Links.{Port, Link, input, output, instance_at, move_link, IsLinked}
use Rattle.wf_model.specs.Items.{Item, items, IsMadeOpen}
use Rattle.wf_model.proofs.Lists.{in_map, in_map_from, in_flat_map, in_flat_map_from}
use Rattle.wf_model.proofs.Deciding.{Either, either_same, either_both, either_not, test_either, bytes_either, some_below, some_in}
use Rattle.wf_model.proofs.ItemNames.{item_of_name}
use Rattle.wf_laws.proofs.Safe.{walk_same}
use Rattle.wf_laws.proofs.PathTests.{path_either}
use Rattle.chain_model.specs.Chains.{entries_in, exits_in, IsOfOpen, IsEntry, IsExit, unopened_pairs, LeadsThrough, ChainStep, LeadsOn, StepsLead}

module _ (g : Grammar) (u : View) (m : ℕ) (events : List Event) where
  pub open_either : (n : Instance) → IsIn n (seen_in g u m events) → Either (IsOpen g u m events n)
  open_either n h = either_same (λ q. (h, q.0, q.1)) (λ q. (q.1, q.2)) (either_both (test_either (expands u n.module_no)) (by_run (expanded_by events n.name)))
    where
      by_run : (o : Option Expanded) → Either ((x : Expanded) × (o ≡ Some x))
      by_run None = inr (λ q. let z = q.1 in cc)
      by_run (Some x) = inl (x, refl)

  module _ (listed : ℕ → List (Link (Option ℕ))) where
    -- all such links of open instances
    abbrev when_expanded : Instance → Option Expanded → List (Link (List ℕ))
    when_expanded j None = []
    when_expanded j (Some x) = map (move_link (instance_at j.name x.names)) (listed x.production)

    abbrev of_one : Instance → List (Link (List ℕ))
    of_one j = cond (expands u j.module_no) (when_expanded j (expanded_by events j.name)) []

    abbrev of_all : List (Link (List ℕ))
    of_all = flat_map of_one (seen_in g u m events)

    listed_open : (x y : Port (List ℕ)) → IsLinked of_all x y → IsOfOpen g u m events listed x y
    listed_open x y h = let r = in_flat_map_from of_one (record { from = x; to = y }) (seen_in g u m events) h in by_view r.0 r.1 (expands u r.0.module_no) refl r.2
      where
        by_run : (j : Instance) → IsIn j (seen_in g u m events) → expands u j.module_no ≡ true → (o : Option Expanded) → expanded_by events j.name ≡ o → IsIn (record { from = x; to = y }) (when_expanded j o) → IsOfOpen g u m events listed x y
        by_run j s ex None t q = absurd q
        by_run j s ex (Some e) t q =
            let w = in_map_from (move_link (instance_at j.name e.names)) (record { from = x; to = y }) (listed e.production) q in
            record { owner = j; is_open = (s, ex, (e, t)); by = e; told = t; inner = w.0; in_body = w.1; is = w.2 }

        by_view : (j : Instance) → IsIn j (seen_in g u m events) → (b : Bool) → expands u j.module_no ≡ b → IsIn (record { from = x; to = y }) (cond b (when_expanded j (expanded_by events j.name)) []) → IsOfOpen g u m events listed x y
        by_view j s true ex q = by_run j s ex (expanded_by events j.name) refl q
        by_view j s false ex q = absurd q

    open_listed : (x y : Port (List ℕ)) → IsOfOpen g u m events listed x y → IsLinked of_all x y
    open_listed x y w =
        let moved = move_link (instance_at w.owner.name w.by.names) in
        let at : IsIn (record { from = x; to = y }) (map moved (listed w.by.production)) = subst (λ z. IsIn z (map moved (listed w.by.production))) (sym w.is) (in_map moved w.inner (listed w.by.production) w.in_body) in
        in_flat_map of_one w.owner (record { from = x; to = y }) (seen_in g u m events) w.is_open.0
        (subst (λ b. IsIn (record { from = x; to = y }) (cond b (when_expanded w.owner (expanded_by events w.owner.name)) [])) (sym w.is_open.1)
        (subst (λ o. IsIn (record { from = x; to = y }) (when_expanded w.owner o)) (sym w.told) at))

    pub walk_open_either : (x y : Port (List ℕ)) → Either (Walk (IsOfOpen g u m events listed) x y)
    walk_open_either x y = either_same (walk_same listed_open) (walk_same open_listed) (path_either bytes_either of_all x y)

  pub visible_either : (o : Option (List ℕ)) → Either (IsMadeOpen g u m events o)
  visible_either None = inl tt
  visible_either (Some i) = test_either (opens u (seen_in g u m events) i)

  module _ (d : Assignment) where
    -- an input and an output of the instance, between which x leads on to y
    abbrev Passes : Port (List ℕ) → Port (List ℕ) → Instance → ℕ → ℕ → Type 0
    Passes from to n i o = Walk (IsEntry g u m events) from (input n.name i) × (IsTrue (unopened_pairs u d n.module_no i o) × Walk (IsExit g u m events) (output n.name o) to)

    passes_either : (from to : Port (List ℕ)) (n : Instance) (i o : ℕ) → Either (Passes from to n i o)
    passes_either from to n i o = either_both (walk_open_either (entries_in g) from (input n.name i)) (either_both (test_either (unopened_pairs u d n.module_no i o)) (walk_open_either (exits_in g) (output n.name o) to))

    pub through_either : (x y : Item) (n : Instance) → IsIn n (seen_in g u m events) → Either (LeadsThrough g u d m events x n y)
    through_either x y n h = go x.consumed y.produced refl refl
      where
        go : (c p : Option (Port (List ℕ))) → x.consumed ≡ c → y.produced ≡ p → Either (LeadsThrough g u d m events x n y)
        go None p ec ep = inr (λ t. let z = sym ec ∙ t.consumed in cc)
        go (Some from) None ec ep = inr (λ t. let z = sym ep ∙ t.produced in cc)
        go (Some from) (Some to) ec ep =
            either_same
            (λ q. record {
              seen = h;
              not_open = q.0;
              from = from;
              to = to;
              i = q.1.0;
              o = q.1.2.0;
              consumed = ec;
              entries = q.1.2.2.0;
              input_there = q.1.1;
              output_there = q.1.2.1;
              pair = q.1.2.2.1.0;
              exits = q.1.2.2.1.1;
              produced = ep;
            })
            (λ t.
            let ef : t.from ≡ from = same (sym t.consumed ∙ ec) in
            let et : t.to ≡ to = same (sym t.produced ∙ ep) in
            (t.not_open, (t.i, t.input_there, (t.o, t.output_there, (subst (λ z. Walk (IsEntry g u m events) z (input n.name t.i)) ef t.entries, (t.pair, subst (Walk (IsExit g u m events) (output n.name t.o)) et t.exits))))))
            (either_both (either_not (open_either n h))
            (some_below (λ i. (o : ℕ) × (o < outputs_of g n.module_no) × Passes from to n i o) (inputs_of g n.module_no) (λ i hi.
            some_below (λ o. Passes from to n i o) (outputs_of g n.module_no) (λ o ho. passes_either from to n i o))))
          where
            same : {a b : Port (List ℕ)} → Some a ≡ Some b → a ≡ b
            same e = cc

    -- an item leads on to an item of the run, or it does not
    pub leads_either : (x y : Item) → IsIn y (items g m events) → Either (LeadsOn g u d m events x y)
    leads_either x y h =
        either_same (λ q. (q.1.0, record { there = h; visible = q.0; through = q.1.2 })) (λ q. (q.1.visible, (q.0, q.1.through.seen, q.1.through)))
        (either_both (visible_either y.maker) (some_in (λ n. LeadsThrough g u d m events x n y) (seen_in g u m events) (λ n i. through_either x y n i)))

    -- so many steps lead from x to y
    abbrev pub ByMany : ℕ → Item → Item → Type 0
    ByMany zero x y = x ≡ y
    ByMany (suc n) x y = (t : Item) × IsIn t (items g m events) × (LeadsOn g u d m events x t × ByMany n t y)

    pub many_either : IsWellFormed g → IsRun g m events → (n : ℕ) (x y : Item) → IsIn x (items g m events) → IsIn y (items g m events) → Either (ByMany n x y)
    many_either wf run zero x y hx hy = either_same (λ e. item_of_name g m events wf run x y hx hy e) (λ e. ap (λ (t : Item). t.name) e) (bytes_either x.name y.name)
    many_either wf run (suc n) x y hx hy = some_in (λ t. LeadsOn g u d m events x t × ByMany n t y) (items g m events) (λ t h. either_both (leads_either x t h) (many_either wf run n t y h hy))

    pub counted : (x y : Item) (steps : List ChainStep) → StepsLead g u d m events x steps y → ByMany (length steps) x y
    counted x y [] h = h
    counted x y (s ∷ steps) h = (s.item, h.0.there, ((s.via, h.0), counted s.item y steps h.1))

    -- the last item of steps is one of the run
    pub ends_there : (x y : Item) (steps : List ChainStep) → IsIn x (items g m events) → StepsLead g u d m events x steps y → IsIn y (items g m events)
    ends_there x y [] hx h = subst (λ z. IsIn z (items g m events)) h hx
    ends_there x y (s ∷ steps) hx h = ends_there s.item y steps h.0.there h.1
