-- One test per production suffices: each finished expansion of a seen module joins the pairs assigned.
use Rattle.wf_laws.specs.Graft.{place_module}
use Rattle.std.proofs.Common.{◌≡◌, ℕ, zero, suc, ◌+◌, ◌<◌, ◌≤◌, ◌≢◌, ◌↔◌, Bool, true, false, cond, ◌||◌, ◌&&◌, List, [], ◌∷◌, ◌++◌, length, flat_map, bytes_eq, Option, Some, None, IsTrue, refl, sym, ap, ◌∙◌, subst, inl, inr, ⊎_elim, arith}
use Rattle.wf_model.specs.Lists.{Walk, here, onward}
use Rattle.wf_model.specs.Grammar.{Grammar, Assignment, inputs_of, outputs_of, head_of, body_of}
use Rattle.wf_model.specs.WellFormed.{IsWellFormed}
use Rattle.wf_model.specs.View.{View, expands, shows, IsSeenModule, in_body}
use Rattle.wf_model.specs.declared.event.Event.{Event}
use Rattle.wf_model.specs.declared.event.Event.TheVariants.{Start, Expand}
use Rattle.wf_model.specs.Run.{Instance, named, expanded_by, AllExtend, IsRun, opens, see_all, root_of}
use Rattle.wf_model.specs.declared.numbers.Side.TheVariants.{Input, Output}
use Rattle.wf_model.specs.Links.{Port, Link, input, output, wiring, pair_links, place_links, body_links, opened_links, links_of, links_with, perceived, IsLinked, Path}
use Rattle.wf_model.specs.Safe.{IsExpansion, BodyJoins, IsInduced, IsBy, IsInducedBy, IsFilled, Passes, OneTestSuffices}
use Rattle.wf_model.proofs.Lists.{in_append_left, in_append_right, in_append_cases, at_below, at_is, is_at, at_in}
use Rattle.wf_model.proofs.Walks.{Short, walk_one, shortened, lengthened}
use Rattle.wf_laws.proofs.Expansions.{root_told, kid_shorter, own_by}
use Rattle.wf_laws.proofs.Parts.{child, opened_run}
use Rattle.wf_model.proofs.Level.{pair_links_from, pair_links_in, place_links_from, place_links_in}
use Rattle.wf_laws.proofs.Root.{kid_run, kid, kid_seen, Wired, put, Inner, Own, In, Out, Point, root_apart, kid_law, seen_kept, level, to_level, from_level}
use Rattle.wf_laws.proofs.Growth.{AnyProduction}

-- a root whose module is not expanded is all that is seen
pub unopened : (g : Grammar) (u : View) (m : ℕ) (r : List ℕ) (b rest : List Event) → expands u m ≡ false → (b ≢ []) → AllExtend g m b rest → see_all g u m (record { name = r; module_no = m } ∷ []) rest ≡ record { name = r; module_no = m } ∷ []
unopened g u m r b [] ex ne h = refl
unopened g u m r b (Start s ∷ rest) ex ne h = absurd (ne h.0.0)
unopened g u m r b (Expand i p new ∷ rest) ex ne h =
    let e : opens u (record { name = r; module_no = m } ∷ []) i ≡ false = closed (bytes_eq r i) in
    ap (λ o. see_all g u m (record { name = r; module_no = m } ∷ cond o (named new (body_of g p)) []) rest) e ∙ unopened g u m r (b ++ Expand i p new ∷ []) rest ex longer h.1
  where
    closed : (t : Bool) → (t && expands u m) || false ≡ false
    closed true = ap (λ z. z || false) ex
    closed false = refl

    longer : b ++ Expand i p new ∷ [] ≢ []
    longer = go b
      where
        go : (b : List Event) → b ++ Expand i p new ∷ [] ≢ []
        go [] e = cc
        go (x ∷ b) e = cc

-- the links of a run whose root is not opened
pub shut_links : (g : Grammar) (u : View) (leaf : Assignment) (m : ℕ) (r : List ℕ) (rest : List Event) → expands u m ≡ false → IsRun g m (Start r ∷ rest) → links_with g u leaf m (Start r ∷ rest) ≡ pair_links g leaf m r ++ []
shut_links g u leaf m r rest ex run =
    ap (flat_map (links_of g u leaf (Start r ∷ rest))) (unopened g u m r (Start r ∷ []) rest ex (λ e. (cc)) run.1) ∙
    ap (λ b. cond b (opened_links g leaf (record { name = r; module_no = m }) (expanded_by (Start r ∷ rest) r)) (pair_links g leaf m r) ++ []) ex

pub bare_links : (g : Grammar) (u : View) (leaf : Assignment) (m : ℕ) (r : List ℕ) → links_with g u leaf m (Start r ∷ []) ≡ pair_links g leaf m r ++ []
bare_links g u leaf m r = go (expands u m)
  where
    go : (b : Bool) → cond b (pair_links g leaf m r) (pair_links g leaf m r) ++ [] ≡ pair_links g leaf m r ++ []
    go true = refl
    go false = refl

-- two relations that hold of the same points have the same walks
pub walk_same : {A : Type 0} {R S : A → A → Type 0} → ((x y : A) → R x y → S x y) → {x y : A} → Walk R x y → Walk S x y
walk_same h here = here
walk_same h (onward {x = x} {y = y} r w) = onward (h x y r) (walk_same h w)

-- an open root: the run joins what the body joins, if the children's runs join what is assigned to their modules
module _ (g : Grammar) (u : View) (leaf d : Assignment) (r : List ℕ) (p : ℕ) (names : List (List ℕ)) (rest : List Event) (wf : IsWellFormed g) (run : IsRun g (head_of g p) (opened_run r p names rest)) (ex : expands u (head_of g p) ≡ true) where
  -- what is known of the children's runs
  abbrev pub KidsJoin : Type 0
  KidsJoin = (k : ℕ) → k < length names → (i o : ℕ) → i < inputs_of g (place_module g p k) → o < outputs_of g (place_module g p k) → IsTrue (d (place_module g p k) i o) ↔ Path (links_with g u leaf (place_module g p k) (kid_run names (opened_run r p names rest) k)) (input (child names k) i) (output (child names k) o)

  pub short_to_body : KidsJoin → (x y : Port (Option ℕ)) → Short (Wired g p) (put r names) (Inner g u leaf p names (opened_run r p names rest)) (In g p) (Out g p) x y → IsLinked (body_links g d p) x y
  short_to_body kj x y (inl w) = in_append_left _ (wiring g p) (place_links g d 0 (body_of g p)) w
  short_to_body kj x y (inr c) =
      let k = c.0 in
      let i = c.1 in
      let o = c.2 in
      let hk : k < length names = omega (arith, run.1.0.one_each, i.2) in
      let w : Walk (Inner g u leaf p names (opened_run r p names rest) k) (input (child names k) i.0) (output (child names k) o.0) =
      subst (λ (z : Port (Option ℕ)). Walk (Inner g u leaf p names (opened_run r p names rest) k) (input (child names k) i.0) (put r names z)) o.1
      (subst (λ (z : Port (Option ℕ)). Walk (Inner g u leaf p names (opened_run r p names rest) k) (put r names z) (put r names y)) i.1 c.3) in
      let t = (kj k hk i.0 o.0 i.3 o.3).1 (walk_same (λ a b q. q.1) w) in
      let l : IsLinked (place_links g d 0 (body_of g p)) (input (Some k) i.0) (output (Some k) o.0) =
      place_links_in g d _ 0 (body_of g p) k (place_module g p k) (is_at k (body_of g p) 0 i.2)
      (let e : k ≡ 0 + k = omega arith in subst (λ z. IsLinked (pair_links g d (place_module g p k) (Some z)) (input (Some k) i.0) (output (Some k) o.0)) e (pair_links_in g d (place_module g p k) (Some k) i.0 o.0 i.3 o.3 t)) in
      in_append_right _ (wiring g p) (place_links g d 0 (body_of g p))
      (subst (λ z. IsLinked (place_links g d 0 (body_of g p)) z y) (sym i.1) (subst (λ z. IsLinked (place_links g d 0 (body_of g p)) (input (Some k) i.0) z) (sym o.1) l))

  pub body_to_short : KidsJoin → (x y : Port (Option ℕ)) → IsLinked (body_links g d p) x y → Short (Wired g p) (put r names) (Inner g u leaf p names (opened_run r p names rest)) (In g p) (Out g p) x y
  body_to_short kj x y l =
      ⊎_elim (λ a. inl a)
      (λ a.
      let q = place_links_from g d (record { from = x; to = y }) 0 (body_of g p) a in
      let w = pair_links_from g d q.1 (Some (0 + q.0)) (record { from = x; to = y }) q.3 in
      let hb = at_below q.1 q.0 (body_of g p) q.2 in
      let hk : q.0 < length names = omega (arith, run.1.0.one_each) in
      let m : place_module g p q.0 ≡ q.1 = at_is q.1 q.0 (body_of g p) 0 q.2 in
      let z : 0 + q.0 ≡ q.0 = omega arith in
      let hi : w.0 < inputs_of g (place_module g p q.0) = subst (λ n. w.0 < inputs_of g n) (sym m) w.2 in
      let ho : w.1 < outputs_of g (place_module g p q.0) = subst (λ n. w.1 < outputs_of g n) (sym m) w.3 in
      let t : IsTrue (d (place_module g p q.0) w.0 w.1) = subst (λ n. IsTrue (d n w.0 w.1)) (sym m) w.4 in
      let ex : x ≡ input (Some q.0) w.0 = ap (λ (l : Link (Option ℕ)). l.from) w.5 ∙ ap (λ n. input (Some n) w.0) z in
      let ey : y ≡ output (Some q.0) w.1 = ap (λ (l : Link (Option ℕ)). l.to) w.5 ∙ ap (λ n. output (Some n) w.1) z in
      let v : Walk (Inner g u leaf p names (opened_run r p names rest) q.0) (input (child names q.0) w.0) (output (child names q.0) w.1) = walk_same (λ a b c. (hk, c)) ((kj q.0 hk w.0 w.1 hi ho).0 t) in
      inr (
        q.0,
        (w.0, ex, hb, hi),
        (w.1, ey, hb, ho),
        subst (λ (n : Port (Option ℕ)). Walk (Inner g u leaf p names (opened_run r p names rest) q.0) (put r names n) (put r names y)) (sym ex)
            (subst (λ (n : Port (Option ℕ)). Walk (Inner g u leaf p names (opened_run r p names rest) q.0) (input (child names q.0) w.0) (put r names n)) (sym ey) v),
      ))
      (in_append_cases (record { from = x; to = y }) (wiring g p) (place_links g d 0 (body_of g p)) l)

  pub open_joins : KidsJoin → (i o : ℕ) → BodyJoins g d p i o ↔ Path (links_with g u leaf (head_of g p) (opened_run r p names rest)) (input r i) (output r o)
  open_joins kj i o = (
    (λ w. walk_same (from_level g u leaf r p names rest wf run ex)
        (lengthened (Wired g p) (put r names) (Inner g u leaf p names (opened_run r p names rest)) (Point g p) (Own names (opened_run r p names rest)) (In g p) (Out g p) (level g u leaf r p names rest wf run ex) (input None i) (output None o)
        (walk_same (body_to_short kj) w))),
    (λ w. walk_same (short_to_body kj)
        (shortened (Wired g p) (put r names) (Inner g u leaf p names (opened_run r p names rest)) (Point g p) (Own names (opened_run r p names rest)) (In g p) (Out g p) (level g u leaf r p names rest wf run ex) (input None i) (output None o) tt tt
        (λ k z c. let q = (level g u leaf r p names rest wf run ex).from_own k (input r i) z c in absurd (root_apart g u leaf r p names rest wf run ex k q.0 q.1))
        (λ k z c. let q = (level g u leaf r p names rest wf run ex).to_own k z (output r o) c in absurd (root_apart g u leaf r p names rest wf run ex k q.0 q.1))
        (walk_same (to_level g u leaf r p names rest wf run ex) w))),
  )

-- the links of pairs alone: a path from an input to an output is one pair
pub pairs_join : (g : Grammar) (s : Assignment) (m : ℕ) (r : List ℕ) (i o : ℕ) → i < inputs_of g m → o < outputs_of g m → IsTrue (s m i o) ↔ Path (pair_links g s m r ++ []) (input r i) (output r o)
pairs_join g s m r i o hi ho = (
  (λ t. walk_one (in_append_left _ (pair_links g s m r) [] (pair_links_in g s m r i o hi ho t))),
  (λ w. first w refl refl),
)
  where
    link_of : (x y : Port (List ℕ)) → IsLinked (pair_links g s m r ++ []) x y → IsLinked (pair_links g s m r) x y
    link_of x y h = ⊎_elim (λ a. a) (λ a. absurd a) (in_append_cases (record { from = x; to = y }) (pair_links g s m r) [] h)

    second : {x y : Port (List ℕ)} → Walk (IsLinked (pair_links g s m r ++ [])) x y → (q : ℕ) → x ≡ output r q → y ≡ output r o → q ≡ o
    second here q ex ey = ap (λ (z : Port (List ℕ)). z.number) (sym ex ∙ ey)
    second (onward {x = x} {y = y} l w) q ex ey =
        let c = pair_links_from g s m r (record { from = x; to = y }) (link_of x y l) in
        let e : Output ≡ Input = ap (λ (z : Port (List ℕ)). z.side) (sym ex ∙ ap (λ (z : Link (List ℕ)). z.from) c.5) in
        absurd (cc)

    first : {x y : Port (List ℕ)} → Walk (IsLinked (pair_links g s m r ++ [])) x y → x ≡ input r i → y ≡ output r o → IsTrue (s m i o)
    first here ex ey = let e : Input ≡ Output = ap (λ (z : Port (List ℕ)). z.side) (sym ex ∙ ey) in absurd (cc)
    first (onward {x = x} {y = y} l w) ex ey =
        let c = pair_links_from g s m r (record { from = x; to = y }) (link_of x y l) in
        let ei : c.0 ≡ i = ap (λ (z : Port (List ℕ)). z.number) (sym (ap (λ (z : Link (List ℕ)). z.from) c.5) ∙ ex) in
        let eo : c.1 ≡ o = second w c.1 (ap (λ (z : Link (List ℕ)). z.to) c.5) ey in
        subst (λ z. IsTrue (s m z o)) ei (subst (λ z. IsTrue (s m c.0 z)) eo c.4)

-- what a run with these leaves joins is what is assigned
abbrev pub JoinsWith : Grammar → View → Assignment → ℕ → List Event → ℕ → ℕ → Type 0
JoinsWith g u leaf m e i o = Path (links_with g u leaf m e) (input (root_of e) i) (output (root_of e) o)

abbrev pub Agrees : Grammar → View → Assignment → Assignment → ℕ → List Event → Type 0
Agrees g u leaf d m e = (i o : ℕ) → i < inputs_of g m → o < outputs_of g m → IsTrue (d m i o) ↔ JoinsWith g u leaf m e i o

module _ (g : Grammar) (u : View) (leaf : Assignment) (Chosen : ℕ → ℕ → Type 0) (d : Assignment) (wf : IsWellFormed g) (ind : Passes g u leaf Chosen d) where
  -- the root's module is not expanded
  leaf_agrees : (m : ℕ) (r : List ℕ) (e : List Event) → links_with g u leaf m e ≡ pair_links g leaf m r ++ [] → root_of e ≡ r → ((i o : ℕ) → i < inputs_of g m → o < outputs_of g m → d m i o ≡ leaf m i o) → Agrees g u leaf d m e
  leaf_agrees m r e ls rt same i o hi ho =
      let pj = pairs_join g leaf m r i o hi ho in
      let eq = same i o hi ho in (
        (λ t. subst (λ l. Path l (input (root_of e) i) (output (root_of e) o)) (sym ls) (subst (λ z. Path (pair_links g leaf m r ++ []) (input z i) (output z o)) (sym rt) (pj.0 (sym eq ∙ t)))),
        (λ w. eq ∙ pj.1 (subst (λ z. Path (pair_links g leaf m r ++ []) (input z i) (output z o)) rt (subst (λ l. Path l (input (root_of e) i) (output (root_of e) o)) ls w))),
      )

  -- the root is open, and the children's runs agree
  open_agrees : (r : List ℕ) (p : ℕ) (names : List (List ℕ)) (rest : List Event) → IsSeenModule g u (head_of g p) → expands u (head_of g p) ≡ true → IsFilled g u leaf d (head_of g p) (opened_run r p names rest) → Chosen (head_of g p) p →
      ((k : ℕ) → k < length names → IsBy g u (place_module g p k) Chosen (kid_run names (opened_run r p names rest) k)) →
      ((m : ℕ) → IsSeenModule g u m → (e : List Event) → length e ≤ suc (length rest) → IsFilled g u leaf d m e → IsBy g u m Chosen e → Agrees g u leaf d m e) → Agrees g u leaf d (head_of g p) (opened_run r p names rest)
  open_agrees r p names rest seen ex x ch by ih i o hi ho =
      let run = x.run in
      let can = run.1.0 in
      let kids : KidsJoin g u leaf d r p names rest wf run ex =
      (λ k hk. let law = kid_law g u leaf r p names rest wf run ex k hk in
      let hb : k < length (body_of g p) = omega (arith, can.one_each) in
      ih (place_module g p k) (in_body p can.in_range seen ex (at_in _ k (body_of g p) (is_at k (body_of g p) 0 hb))) (kid_run names (opened_run r p names rest) k)
      (kid_shorter g (head_of g p) r p names rest run k hk)
      (record { run = law.run; started = λ e. (cc); filled = ⊎_elim (λ a. inl (law.finished a)) (λ a. inr a) x.filled }) (by k hk)) in
      let oj = open_joins g u leaf d r p names rest wf run ex kids i o in
      let ip = ind.induced p can.in_range ch seen ex i o hi ho in
      ((λ t. oj.0 (ip.0 t)), (λ w. ip.1 (oj.1 w)))

  -- the children's runs are expanded as chosen where the whole is
  kids_by : (r : List ℕ) (p : ℕ) (names : List (List ℕ)) (rest : List Event) (ex : expands u (head_of g p) ≡ true) (run : IsRun g (head_of g p) (opened_run r p names rest)) → IsBy g u (head_of g p) Chosen (opened_run r p names rest) →
      (k : ℕ) → k < length names → IsBy g u (place_module g p k) Chosen (kid_run names (opened_run r p names rest) k)
  kids_by r p names rest ex run by k hk =
      own_by g u (head_of g p) (opened_run r p names rest) (kid g p names k) Chosen run (kid_seen g u leaf r p names rest wf run ex k hk) (λ j s n. by j s)

  pub agrees : (fuel m : ℕ) → IsSeenModule g u m → (e : List Event) → length e ≤ fuel → IsFilled g u leaf d m e → IsBy g u m Chosen e → Agrees g u leaf d m e
  agrees zero m seen [] h x by = absurd (x.started refl)
  agrees zero m seen (e ∷ es) h x by = absurd (omega arith)
  agrees (suc fuel) m seen [] h x by = absurd (x.started refl)
  agrees (suc fuel) m seen (Expand i p names ∷ rest) h x by = absurd x.run.0.stands
  agrees (suc fuel) m seen (Start r ∷ []) h x by = by_view (expands u m) refl
    where
      by_view : (b : Bool) → expands u m ≡ b → Agrees g u leaf d m (Start r ∷ [])
      by_view false ex = leaf_agrees m r (Start r ∷ []) (bare_links g u leaf m r) refl (ind.shown m seen ex)
      by_view true ex = leaf_agrees m r (Start r ∷ []) (bare_links g u leaf m r) refl (⊎_elim (λ a. absurd (a (record { name = r; module_no = m }) (inl refl, ex, refl))) (λ a. a m seen ex) x.filled)
  agrees (suc fuel) m seen (Start r ∷ Start s ∷ rest) h x by = let e = x.run.1.0.0 in absurd (cc)
  agrees (suc fuel) m seen (Start r ∷ Expand i p names ∷ rest) h x by = by_view (agrees fuel) (expands u m) refl
    where
      stands : ◌≡◌ {A = Instance} (record { name = i; module_no = head_of g p }) (record { name = r; module_no = m })
      stands = ⊎_elim (λ a. a) (λ a. absurd a) x.run.1.0.stands

      at_r : i ≡ r
      at_r = ap (λ (z : Instance). z.name) stands

      at_m : head_of g p ≡ m
      at_m = ap (λ (z : Instance). z.module_no) stands

      x' : IsFilled g u leaf d (head_of g p) (opened_run r p names rest)
      x' = subst (λ z. IsFilled g u leaf d z (opened_run r p names rest)) (sym at_m) (subst (λ z. IsFilled g u leaf d m (Start r ∷ Expand z p names ∷ rest)) at_r x)

      by' : IsBy g u (head_of g p) Chosen (opened_run r p names rest)
      by' = subst (λ z. IsBy g u z Chosen (opened_run r p names rest)) (sym at_m) (subst (λ z. IsBy g u m Chosen (Start r ∷ Expand z p names ∷ rest)) at_r by)

      by_view : ((m : ℕ) → IsSeenModule g u m → (e : List Event) → length e ≤ fuel → IsFilled g u leaf d m e → IsBy g u m Chosen e → Agrees g u leaf d m e) → (b : Bool) → expands u m ≡ b → Agrees g u leaf d m (Start r ∷ Expand i p names ∷ rest)
      by_view ih false ex = leaf_agrees m r (Start r ∷ Expand i p names ∷ rest) (shut_links g u leaf m r (Expand i p names ∷ rest) ex x.run) refl (ind.shown m seen ex)
      by_view ih true ex =
          let ex' : expands u (head_of g p) ≡ true = ap (expands u) at_m ∙ ex in
          let ch : Chosen (head_of g p) p = by' (record { name = r; module_no = head_of g p }) (seen_kept g u (head_of g p) _ _ rest (inl refl)) ex' _ (root_told r p names rest) in
          let a = open_agrees r p names rest (subst (IsSeenModule g u) (sym at_m) seen) ex' x' ch (kids_by r p names rest ex' x'.run by')
          (λ k s e l. ih k s e (omega arith)) in
          subst (λ z. Agrees g u leaf d m (Start r ∷ Expand z p names ∷ rest)) (sym at_r) (subst (λ z. Agrees g u leaf d z (opened_run r p names rest)) at_m a)

-- the perceived pairs are those shown, where a module is not expanded
pub perceived_shown : (u : View) (m i o : ℕ) → expands u m ≡ false → perceived u m i o ≡ shows u m i o
perceived_shown u m i o ex = ap (λ b. cond b false (shows u m i o)) ex

pub passes_by : (g : Grammar) (u : View) (Chosen : ℕ → ℕ → Type 0) (d : Assignment) → IsInducedBy g u Chosen d → Passes g u (perceived u) Chosen d
passes_by g u Chosen d ind = record { shown = λ m s ex i o hi ho. ind.shown m s ex i o hi ho ∙ sym (perceived_shown u m i o ex); induced = ind.induced }

pub passes_all : (g : Grammar) (u : View) (d : Assignment) → IsInduced g u d → Passes g u (perceived u) AnyProduction d
passes_all g u d ind = record { shown = λ m s ex i o hi ho. ind.shown m s ex i o hi ho ∙ sym (perceived_shown u m i o ex); induced = λ p r c. ind.induced p r }

pub filled_expansion : (g : Grammar) (u : View) (d : Assignment) (m : ℕ) (e : List Event) → IsExpansion g u m e → IsFilled g u (perceived u) d m e
filled_expansion g u d m e x = record { run = x.run; started = x.started; filled = inl x.finished }

pub one_test_suffices : OneTestSuffices
one_test_suffices g u d wf ind m seen e x i o hi ho =
    agrees g u (perceived u) AnyProduction d wf (passes_all g u d ind) (length e) m seen e (omega arith) (filled_expansion g u d m e x) (λ j s t y h. tt) i o hi ho
