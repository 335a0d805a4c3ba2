-- A path between ports far apart splits along their addresses.
use Rattle.wf_laws.specs.Graft.{place_module}
use Rattle.std.proofs.Common.{◌≡◌, ℕ, ◌<◌, ◌⊎◌, ◌≢◌, ◌↔◌, Bool, true, false, cond, List, [], ◌∷◌, ◌++◌, length, get_or, bytes_eq, Option, Some, None, refl, sym, ap, ◌∙◌, subst, inl, inr, ⊎_elim, arith, true≢false}
use Rattle.wf_model.specs.Lists.{IsIn, Walk}
use Rattle.wf_model.specs.Grammar.{Grammar, Assignment, inputs_of, outputs_of, head_of, body_of}
use Rattle.wf_model.specs.WellFormed.{IsWellFormed, IsWellFormedBody}
use Rattle.wf_model.specs.View.{View, expands, IsSeenModule, in_body}
use Rattle.wf_model.specs.declared.event.Event.{Event}
use Rattle.wf_model.specs.declared.event.Event.TheVariants.{Start, Expand}
use Rattle.wf_model.specs.Run.{Instance, Expanded, expanded_by, IsRun, family, root_of}
use Rattle.wf_model.specs.declared.numbers.Side.TheVariants.{Input, Output}
use Rattle.wf_model.specs.declared.numbers.Side.{Side}
use Rattle.wf_model.specs.Links.{Port, Link, input, output, pair_links, body_links, links_with, perceived, IsLinked, Path}
use Rattle.wf_model.specs.Safe.{IsExpansion, IsFilled, Passes}
use Rattle.wf_model.proofs.Runs.{expansion_kept}
use Rattle.wf_model.specs.Reach.{Step, module_along, IsAlong, Into, OutOf, Between, Down, Up, Reaches, CrossingLaw, PendingLaw}
use Rattle.wf_model.proofs.Lists.{in_append_cases, at_below, is_at, at_in, bytes_same}
use Rattle.wf_model.proofs.Walks.{IsLevel, Whole, walk-append, shortened, lengthened, left_by, entered_by, stays}
use Rattle.wf_laws.proofs.Parts.{child, opened_run}
use Rattle.wf_model.proofs.Level.{wiring_from, wiring_to, pair_links_from}
use Rattle.wf_laws.proofs.Root.{kid_run, Wired, put, Inner, Own, In, Out, Point, root_apart, child_own, along_own, kid_law, level, to_level, from_level}
use Rattle.wf_laws.proofs.Safe.{walk_same, KidsJoin, short_to_body, body_to_short, shut_links, bare_links, Agrees, agrees, passes_all, filled_expansion}
use Rattle.wf_laws.proofs.Bodies.{no_return}
use Rattle.wf_laws.proofs.Growth.{AnyProduction}

-- a root whose module the view does not expand is left by no step of an address
shut_no_step : (g : Grammar) (u : View) (m : ℕ) (r : List ℕ) (rest : List Event) (y : Expanded) → expands u m ≡ false → IsRun g m (Start r ∷ rest) → expanded_by (Start r ∷ rest) r ≡ Some y → expands u (head_of g y.production) ≡ true → ⊥
shut_no_step g u m r [] y ex run e t = cc
shut_no_step g u m r (Start s ∷ rest) y ex run e t = let q = run.1.0.0 in (cc)
shut_no_step g u m r (Expand i p names ∷ rest) y ex run e t =
    let stands : ◌≡◌ {A = Instance} (record { name = i; module_no = head_of g p }) (record { name = r; module_no = m }) = ⊎_elim (λ a. a) (λ a. absurd a) run.1.0.stands in
    let same : bytes_eq i r ≡ true = bytes_same i r (ap (λ (z : Instance). z.name) stands) in
    let q : Some (record { production = p; names = names }) ≡ Some y = sym (ap (λ b. cond {A = Option Expanded} b (Some (record { production = p; names = names })) (expanded_by rest r)) same) ∙ e in
    let q' : ◌≡◌ {A = Expanded} (record { production = p; names = names }) y = cc in
    true≢false (sym t ∙ (ap (λ (z : Expanded). expands u (head_of g z.production)) (sym q') ∙ (ap (λ (z : Instance). expands u z.module_no) stands ∙ ex)))

-- a root that is not open: its links are the pairs of its module, and no step leads on
record IsLeafRoot (g : Grammar) (u : View) (leaf : Assignment) (m : ℕ) (r : List ℕ) (rest : List Event) : Type 0 where
  pairs : links_with g u leaf m (Start r ∷ rest) ≡ pair_links g leaf m r ++ []
  no_step : (y : Expanded) → expanded_by (Start r ∷ rest) r ≡ Some y → expands u (head_of g y.production) ≡ true → ⊥

-- a run begins with a root that is not open, or with one that is opened
by_root : (g : Grammar) (u : View) (leaf d : Assignment) (P : ℕ → List Event → Type 0) →
    ((m : ℕ) (r : List ℕ) (rest : List Event) → IsLeafRoot g u leaf m r rest → P m (Start r ∷ rest)) →
    ((r : List ℕ) (p : ℕ) (names : List (List ℕ)) (rest : List Event) → expands u (head_of g p) ≡ true → IsFilled g u leaf d (head_of g p) (opened_run r p names rest) → P (head_of g p) (opened_run r p names rest)) →
    (m : ℕ) (e : List Event) → IsFilled g u leaf d m e → P m e
by_root g u leaf d P shut open' m [] x = absurd (x.started refl)
by_root g u leaf d P shut open' m (Expand i p names ∷ rest) x = absurd x.run.0.stands
by_root g u leaf d P shut open' m (Start r ∷ rest) x = go (expands u m) refl
  where
    opened : (rest : List Event) → expands u m ≡ true → IsFilled g u leaf d m (Start r ∷ rest) → P m (Start r ∷ rest)
    opened [] ex x = shut m r [] (record { pairs = bare_links g u leaf m r; no_step = λ y e t. cc })
    opened (Start s ∷ rest) ex x = let e = x.run.1.0.0 in absurd (cc)
    opened (Expand i p names ∷ rest) ex x =
        let stands : ◌≡◌ {A = Instance} (record { name = i; module_no = head_of g p }) (record { name = r; module_no = m }) = ⊎_elim (λ a. a) (λ a. absurd a) x.run.1.0.stands in
        let at_r : i ≡ r = ap (λ (z : Instance). z.name) stands in
        let at_m : head_of g p ≡ m = ap (λ (z : Instance). z.module_no) stands in
        let x' : IsFilled g u leaf d (head_of g p) (opened_run r p names rest) = subst (λ z. IsFilled g u leaf d z (opened_run r p names rest)) (sym at_m) (subst (λ z. IsFilled g u leaf d m (Start r ∷ Expand z p names ∷ rest)) at_r x) in
        subst (λ z. P m (Start r ∷ Expand z p names ∷ rest)) (sym at_r) (subst (λ z. P z (opened_run r p names rest)) at_m (open' r p names rest (ap (expands u) at_m ∙ ex) x'))

    go : (b : Bool) → expands u m ≡ b → P m (Start r ∷ rest)
    go false ex = shut m r rest (record { pairs = shut_links g u leaf m r rest ex x.run; no_step = λ y e t. shut_no_step g u m r rest y ex x.run e t })
    go true ex = opened rest ex x

-- no link leads to an input of the root, and none from an output of it
record IsQuiet (g : Grammar) (u : View) (leaf : Assignment) (m : ℕ) (e : List Event) : Type 0 where
  no_in : (z : Port (List ℕ)) (i : ℕ) → IsLinked (links_with g u leaf m e) z (input (root_of e) i) → ⊥
  no_out : (z : Port (List ℕ)) (o : ℕ) → IsLinked (links_with g u leaf m e) (output (root_of e) o) z → ⊥

quiet : (g : Grammar) (u : View) (leaf d : Assignment) → IsWellFormed g → (m : ℕ) (e : List Event) → IsFilled g u leaf d m e → IsQuiet g u leaf m e
quiet g u leaf d wf = by_root g u leaf d (IsQuiet g u leaf) shut opened
  where
    shut : (m : ℕ) (r : List ℕ) (rest : List Event) → IsLeafRoot g u leaf m r rest → IsQuiet g u leaf m (Start r ∷ rest)
    shut m r rest lr =
        let pair : (l : Link (List ℕ)) → IsIn l (links_with g u leaf m (Start r ∷ rest)) → IsIn l (pair_links g leaf m r) =
        λ l h. ⊎_elim (λ a. a) (λ a. absurd a) (in_append_cases l (pair_links g leaf m r) [] (subst (IsIn l) lr.pairs h)) in
        record {
          no_in = λ z i h. let c = pair_links_from g leaf m r (record { from = z; to = input r i }) (pair _ h) in
              let e : Input ≡ Output = ap (λ (l : Link (List ℕ)). l.to.side) c.5 in (cc);
          no_out = λ z o h. let c = pair_links_from g leaf m r (record { from = output r o; to = z }) (pair _ h) in
              let e : Output ≡ Input = ap (λ (l : Link (List ℕ)). l.from.side) c.5 in (cc);
        }

    opened : (r : List ℕ) (p : ℕ) (names : List (List ℕ)) (rest : List Event) → expands u (head_of g p) ≡ true → IsFilled g u leaf d (head_of g p) (opened_run r p names rest) → IsQuiet g u leaf (head_of g p) (opened_run r p names rest)
    opened r p names rest ex x =
        let run = x.run in
        let body = wf.bodies p run.1.0.in_range in
        let kid_is : (k : ℕ) → k < length (body_of g p) → child names k ≡ r → ⊥ = λ k hk e.
        let hn : k < length names = omega (arith, run.1.0.one_each) in
        root_apart g u leaf r p names rest wf run ex k hn (subst (λ z. IsIn z (family (child names k ∷ []) (opened_run r p names rest))) e (child_own g u leaf r p names rest wf run ex k)) in
        let lev = level g u leaf r p names rest wf run ex in
        record {
          no_in = λ z i h. ⊎_elim
              (λ a. ⊎_elim
              (λ c. kid_is c.0 (at_below c.2 c.0 (body_of g p) c.4) (ap (λ (y : Port (List ℕ)). y.owner) (sym (ap (put r names) c.3) ∙ a.3)))
              (λ c. let e : Output ≡ Input = ap (λ (y : Port (List ℕ)). y.side) (sym (ap (put r names) c.1) ∙ a.3) in (cc))
              (wiring_to g p body (record { from = a.0; to = a.1 }) a.4))
              (λ a. let q = lev.to_own a.0 z (input r i) a.1 in root_apart g u leaf r p names rest wf run ex a.0 q.0 q.1)
              (to_level g u leaf r p names rest wf run ex z (input r i) h);
          no_out = λ z o h. ⊎_elim
              (λ a. ⊎_elim
              (λ c. kid_is c.0 (at_below c.2 c.0 (body_of g p) c.4) (ap (λ (y : Port (List ℕ)). y.owner) (sym (ap (put r names) c.3) ∙ a.2)))
              (λ c. let e : Input ≡ Output = ap (λ (y : Port (List ℕ)). y.side) (sym (ap (put r names) c.1) ∙ a.2) in (cc))
              (wiring_from g p body (record { from = a.0; to = a.1 }) a.4))
              (λ a. let q = lev.from_own a.0 (output r o) z a.1 in root_apart g u leaf r p names rest wf run ex a.0 q.0 q.1)
              (to_level g u leaf r p names rest wf run ex (output r o) z h);
        }

fill_agrees : (g : Grammar) (u : View) (leaf d : Assignment) → IsWellFormed g → Passes g u leaf AnyProduction d → (m : ℕ) → IsSeenModule g u m → (e : List Event) → IsFilled g u leaf d m e → Agrees g u leaf d m e
fill_agrees g u leaf d wf ind m seen e x = agrees g u leaf AnyProduction d wf ind (length e) m seen e (omega arith) x (λ j s t y h. tt)

-- a step by this production to its k-th position
abbrev pub step_to : ℕ → ℕ → Step
step_to p k = record { production = p; position = k }

module _ (g : Grammar) (u : View) (leaf d : Assignment) (wf : IsWellFormed g) (ind : Passes g u leaf AnyProduction d) (r : List ℕ) (p : ℕ) (names : List (List ℕ)) (rest : List Event) (seen : IsSeenModule g u (head_of g p)) (ex : expands u (head_of g p) ≡ true) (x : IsFilled g u leaf d (head_of g p) (opened_run r p names rest)) where
  run : IsRun g (head_of g p) (opened_run r p names rest)
  run = x.run

  body : IsWellFormedBody g p
  body = wf.bodies p run.1.0.in_range

  lev : IsLevel (Wired g p) (put r names) (Inner g u leaf p names (opened_run r p names rest)) (Point g p) (Own names (opened_run r p names rest)) (In g p) (Out g p)
  lev = level g u leaf r p names rest wf run ex

  in_body_of : (k : ℕ) → k < length names → k < length (body_of g p)
  in_body_of k hk = omega (arith, run.1.0.one_each)

  kid_expansion : (k : ℕ) → k < length names → IsFilled g u leaf d (place_module g p k) (kid_run names (opened_run r p names rest) k)
  kid_expansion k hk =
      let law = kid_law g u leaf r p names rest wf run ex k hk in
      record { run = law.run; started = λ e. (cc); filled = ⊎_elim (λ a. inl (law.finished a)) (λ a. inr a) x.filled }

  place_module_seen : (k : ℕ) → k < length names → IsSeenModule g u (place_module g p k)
  place_module_seen k hk = in_body p run.1.0.in_range seen ex (at_in _ k (body_of g p) (is_at k (body_of g p) 0 (in_body_of k hk)))

  kids : KidsJoin g u leaf d r p names rest wf run ex
  kids = λ k hk i o hi ho. fill_agrees g u leaf d wf ind (place_module g p k) (place_module_seen k hk) (kid_run names (opened_run r p names rest) k) (kid_expansion k hk) i o hi ho

  -- what no link within a child does
  into_child : (k j q : ℕ) (z : Port (List ℕ)) → k < length names → Inner g u leaf p names (opened_run r p names rest) q z (input (child names k) j) → ⊥
  into_child k j q z hk c =
      let o = lev.to_own q z (input (child names k) j) c in
      let e : q ≡ k = lev.apart q k (input (child names k) j) o (hk, child_own g u leaf r p names rest wf run ex k) in
      let c' : Inner g u leaf p names (opened_run r p names rest) k z (input (child names k) j) = subst (λ n. Inner g u leaf p names (opened_run r p names rest) n z (input (child names k) j)) e c in
      (quiet g u leaf d wf (place_module g p k) (kid_run names (opened_run r p names rest) k) (kid_expansion k hk)).no_in z j c'.1

  out_of_child : (k j q : ℕ) (z : Port (List ℕ)) → k < length names → Inner g u leaf p names (opened_run r p names rest) q (output (child names k) j) z → ⊥
  out_of_child k j q z hk c =
      let o = lev.from_own q (output (child names k) j) z c in
      let e : q ≡ k = lev.apart q k (output (child names k) j) o (hk, child_own g u leaf r p names rest wf run ex k) in
      let c' : Inner g u leaf p names (opened_run r p names rest) k (output (child names k) j) z = subst (λ n. Inner g u leaf p names (opened_run r p names rest) n (output (child names k) j) z) e c in
      (quiet g u leaf d wf (place_module g p k) (kid_run names (opened_run r p names rest) k) (kid_expansion k hk)).no_out z j c'.1

  from_root : (q : ℕ) (s : Side) (i : ℕ) (z : Port (List ℕ)) → Inner g u leaf p names (opened_run r p names rest) q (record { owner = r; side = s; number = i }) z → ⊥
  from_root q s i z c = let o = lev.from_own q (record { owner = r; side = s; number = i }) z c in root_apart g u leaf r p names rest wf run ex q o.0 o.1

  to_root : (q : ℕ) (s : Side) (i : ℕ) (z : Port (List ℕ)) → Inner g u leaf p names (opened_run r p names rest) q z (record { owner = r; side = s; number = i }) → ⊥
  to_root q s i z c = let o = lev.to_own q z (record { owner = r; side = s; number = i }) c in root_apart g u leaf r p names rest wf run ex q o.0 o.1

  -- between two places where no passage begins and ends, the run's walks are those of the body
  across_level : (a b : Port (Option ℕ)) → Point g p a → Point g p b → ((q : ℕ) (z : Port (List ℕ)) → Inner g u leaf p names (opened_run r p names rest) q (put r names a) z → ⊥) → ((q : ℕ) (z : Port (List ℕ)) → Inner g u leaf p names (opened_run r p names rest) q z (put r names b) → ⊥) →
      Walk (Whole (Wired g p) (put r names) (Inner g u leaf p names (opened_run r p names rest))) (put r names a) (put r names b) ↔ Path (body_links g d p) a b
  across_level a b pa pb s e = (
    (λ w. walk_same (short_to_body g u leaf d r p names rest wf run ex kids)
        (shortened (Wired g p) (put r names) (Inner g u leaf p names (opened_run r p names rest)) (Point g p) (Own names (opened_run r p names rest)) (In g p) (Out g p) lev a b pa pb (λ q z c. absurd (s q z c)) (λ q z c. absurd (e q z c)) w)),
    (λ w. lengthened (Wired g p) (put r names) (Inner g u leaf p names (opened_run r p names rest)) (Point g p) (Own names (opened_run r p names rest)) (In g p) (Out g p) lev a b
        (walk_same (body_to_short g u leaf d r p names rest wf run ex kids) w)),
  )

  -- walks of the k-th child's run are paths of it
  within_kid : (k : ℕ) → k < length names → {y z : Port (List ℕ)} → Walk (Inner g u leaf p names (opened_run r p names rest) k) y z ↔ Path (links_with g u leaf (place_module g p k) (kid_run names (opened_run r p names rest) k)) y z
  within_kid k hk = ((λ w. walk_same (λ a b q. q.1) w), (λ w. walk_same (λ a b q. (hk, q)) w))

  part_of_whole : (k : ℕ) {y z : Port (List ℕ)} → Walk (Inner g u leaf p names (opened_run r p names rest) k) y z → Walk (Whole (Wired g p) (put r names) (Inner g u leaf p names (opened_run r p names rest))) y z
  part_of_whole k w = walk_same (λ a b c. inr (k, c)) w

  -- down: from an input of the root to a port of a child's family
  down : (k : ℕ) → k < length names → (i : ℕ) (y : Port (List ℕ)) → Own names (opened_run r p names rest) k y →
      Path (links_with g u leaf (head_of g p) (opened_run r p names rest)) (input r i) y ↔ ((j : ℕ) × Into g d (step_to p k) i j × Path (links_with g u leaf (place_module g p k) (kid_run names (opened_run r p names rest) k)) (input (child names k) j) y)
  down k hk i y o = (there, back)
    where
      there : Path (links_with g u leaf (head_of g p) (opened_run r p names rest)) (input r i) y → (j : ℕ) × Into g d (step_to p k) i j × Path (links_with g u leaf (place_module g p k) (kid_run names (opened_run r p names rest) k)) (input (child names k) j) y
      there w =
          ⊎_elim
          (λ a. absurd (root_apart g u leaf r p names rest wf run ex k a.0.0 a.0.1))
          (λ a.
          let c = a.1 in
          let w1 = subst (λ (z : Port (Option ℕ)). Walk (Whole (Wired g p) (put r names) (Inner g u leaf p names (opened_run r p names rest))) (input r i) (put r names z)) c.1 a.2 in
          let w2 = subst (λ (z : Port (Option ℕ)). Walk (Inner g u leaf p names (opened_run r p names rest) k) (put r names z) y) c.1 a.3 in
          (c.0, (c.3, (across_level (input None i) (input (Some k) c.0) tt (in_body_of k hk) (λ q z l. from_root q Input i z l) (λ q z l. into_child k c.0 q z hk l)).0 w1), (within_kid k hk).0 w2))
          (entered_by (Wired g p) (put r names) (Inner g u leaf p names (opened_run r p names rest)) (Point g p) (Own names (opened_run r p names rest)) (In g p) (Out g p) lev k (walk_same (to_level g u leaf r p names rest wf run ex) w) o)

      back : ((j : ℕ) × Into g d (step_to p k) i j × Path (links_with g u leaf (place_module g p k) (kid_run names (opened_run r p names rest) k)) (input (child names k) j) y) → Path (links_with g u leaf (head_of g p) (opened_run r p names rest)) (input r i) y
      back a =
          let w1 = (across_level (input None i) (input (Some k) a.0) tt (in_body_of k hk) (λ q z l. from_root q Input i z l) (λ q z l. into_child k a.0 q z hk l)).1 a.1.1 in
          walk_same (from_level g u leaf r p names rest wf run ex) (walk-append w1 (part_of_whole k ((within_kid k hk).1 a.2)))

  -- up: from a port of a child's family to an output of the root
  up : (k : ℕ) → k < length names → (y : Port (List ℕ)) (i : ℕ) → Own names (opened_run r p names rest) k y →
      Path (links_with g u leaf (head_of g p) (opened_run r p names rest)) y (output r i) ↔ ((j : ℕ) × OutOf g d (step_to p k) j i × Path (links_with g u leaf (place_module g p k) (kid_run names (opened_run r p names rest) k)) y (output (child names k) j))
  up k hk y i o = (there, back)
    where
      there : Path (links_with g u leaf (head_of g p) (opened_run r p names rest)) y (output r i) → (j : ℕ) × OutOf g d (step_to p k) j i × Path (links_with g u leaf (place_module g p k) (kid_run names (opened_run r p names rest) k)) y (output (child names k) j)
      there w =
          ⊎_elim
          (λ a. let q = stays (Wired g p) (put r names) (Inner g u leaf p names (opened_run r p names rest)) (Point g p) (Own names (opened_run r p names rest)) (In g p) (Out g p) lev k a o in
          absurd (root_apart g u leaf r p names rest wf run ex k q.0 q.1))
          (λ a.
          let c = a.1 in
          let w1 = subst (λ (z : Port (Option ℕ)). Walk (Inner g u leaf p names (opened_run r p names rest) k) y (put r names z)) c.1 a.2 in
          let w2 = subst (λ (z : Port (Option ℕ)). Walk (Whole (Wired g p) (put r names) (Inner g u leaf p names (opened_run r p names rest))) (put r names z) (output r i)) c.1 a.3 in
          (c.0, (c.3, (across_level (output (Some k) c.0) (output None i) (in_body_of k hk) tt (λ q z l. out_of_child k c.0 q z hk l) (λ q z l. to_root q Output i z l)).0 w2), (within_kid k hk).0 w1))
          (left_by (Wired g p) (put r names) (Inner g u leaf p names (opened_run r p names rest)) (Point g p) (Own names (opened_run r p names rest)) (In g p) (Out g p) lev k (walk_same (to_level g u leaf r p names rest wf run ex) w) o)

      back : ((j : ℕ) × OutOf g d (step_to p k) j i × Path (links_with g u leaf (place_module g p k) (kid_run names (opened_run r p names rest) k)) y (output (child names k) j)) → Path (links_with g u leaf (head_of g p) (opened_run r p names rest)) y (output r i)
      back a =
          let w2 = (across_level (output (Some k) a.0) (output None i) (in_body_of k hk) tt (λ q z l. out_of_child k a.0 q z hk l) (λ q z l. to_root q Output i z l)).1 a.1.1 in
          walk_same (from_level g u leaf r p names rest wf run ex) (walk-append (part_of_whole k ((within_kid k hk).1 a.2)) w2)

  -- from a family on: out of it, and either back into the same one or into another
  out_and_in : (k l : ℕ) → k < length names → l < length names → (y z : Port (List ℕ)) → Own names (opened_run r p names rest) k y → Own names (opened_run r p names rest) l z →
      Path (links_with g u leaf (head_of g p) (opened_run r p names rest)) y z →
      ((k ≡ l) × Path (links_with g u leaf (place_module g p k) (kid_run names (opened_run r p names rest) k)) y z) ⊎
      ((k ≢ l) × ((j : ℕ) × (i : ℕ) × (j < outputs_of g (place_module g p k)) × (i < inputs_of g (place_module g p l)) × Path (links_with g u leaf (place_module g p k) (kid_run names (opened_run r p names rest) k)) y (output (child names k) j) × Between g d (step_to p k) l j i × Path (links_with g u leaf (place_module g p l) (kid_run names (opened_run r p names rest) l)) (input (child names l) i) z))
  out_and_in k l hk hl y z oy oz w =
      ⊎_elim
      (λ a. let q = stays (Wired g p) (put r names) (Inner g u leaf p names (opened_run r p names rest)) (Point g p) (Own names (opened_run r p names rest)) (In g p) (Out g p) lev k a oy in
      inl (lev.apart k l z q oz, (within_kid k hk).0 a))
      (λ a.
      let c = a.1 in
      let w1 = subst (λ (n : Port (Option ℕ)). Walk (Inner g u leaf p names (opened_run r p names rest) k) y (put r names n)) c.1 a.2 in
      let w2 = subst (λ (n : Port (Option ℕ)). Walk (Whole (Wired g p) (put r names) (Inner g u leaf p names (opened_run r p names rest))) (put r names n) z) c.1 a.3 in
      ⊎_elim
      (λ b.
      let e : k ≡ l = lev.apart k l (output (child names k) c.0) (hk, child_own g u leaf r p names rest wf run ex k) b.0 in
      inl (e, (within_kid k hk).0 (walk-append w1 (subst (λ n. Walk (Inner g u leaf p names (opened_run r p names rest) n) (output (child names k) c.0) z) (sym e) b.1))))
      (λ b.
      let f = b.1 in
      let v1 = subst (λ (n : Port (Option ℕ)). Walk (Whole (Wired g p) (put r names) (Inner g u leaf p names (opened_run r p names rest))) (output (child names k) c.0) (put r names n)) f.1 b.2 in
      let v2 = subst (λ (n : Port (Option ℕ)). Walk (Inner g u leaf p names (opened_run r p names rest) l) (put r names n) z) f.1 b.3 in
      let m : Path (body_links g d p) (output (Some k) c.0) (input (Some l) f.0) = (across_level (output (Some k) c.0) (input (Some l) f.0) (in_body_of k hk) (in_body_of l hl) (λ q n t. out_of_child k c.0 q n hk t) (λ q n t. into_child l f.0 q n hl t)).0 v1 in
      inr (
        (λ e. no_return g d p body l c.0 f.0 (subst (λ n. Path (body_links g d p) (output (Some n) c.0) (input (Some l) f.0)) e m)),
        (c.0, f.0, c.3, f.3, (within_kid k hk).0 w1, m, (within_kid l hl).0 v2),
      ))
      (entered_by (Wired g p) (put r names) (Inner g u leaf p names (opened_run r p names rest)) (Point g p) (Own names (opened_run r p names rest)) (In g p) (Out g p) lev l w2 oz))
      (left_by (Wired g p) (put r names) (Inner g u leaf p names (opened_run r p names rest)) (Point g p) (Own names (opened_run r p names rest)) (In g p) (Out g p) lev k (walk_same (to_level g u leaf r p names rest wf run ex) w) oy)

  -- and back
  kid_path : (k : ℕ) → k < length names → (y z : Port (List ℕ)) → Path (links_with g u leaf (place_module g p k) (kid_run names (opened_run r p names rest) k)) y z → Path (links_with g u leaf (head_of g p) (opened_run r p names rest)) y z
  kid_path k hk y z w = walk_same (from_level g u leaf r p names rest wf run ex) (part_of_whole k ((within_kid k hk).1 w))

  cross_path : (k l : ℕ) → k < length names → l < length names → (y z : Port (List ℕ)) (j i : ℕ) → Path (links_with g u leaf (place_module g p k) (kid_run names (opened_run r p names rest) k)) y (output (child names k) j) → Between g d (step_to p k) l j i → Path (links_with g u leaf (place_module g p l) (kid_run names (opened_run r p names rest) l)) (input (child names l) i) z → Path (links_with g u leaf (head_of g p) (opened_run r p names rest)) y z
  cross_path k l hk hl y z j i a m b =
      walk_same (from_level g u leaf r p names rest wf run ex)
      (walk-append (part_of_whole k ((within_kid k hk).1 a))
      (walk-append ((across_level (output (Some k) j) (input (Some l) i) (in_body_of k hk) (in_body_of l hl) (λ q n t. out_of_child k j q n hk t) (λ q n t. into_child l i q n hl t)).1 m)
      (part_of_whole l ((within_kid l hl).1 b))))

-- the first step of an address is by the production that opens the root
pub record IsFirst (g : Grammar) (u : View) (r : List ℕ) (p : ℕ) (names : List (List ℕ)) (rest : List Event) (s : Step) (a : List Step) (x : List ℕ) : Type 0 where
  pub same : step_to p s.position ≡ s
  pub within : s.position < length names
  pub on : IsAlong g u (opened_run r p names rest) (child names s.position) a x

pub first_step : (g : Grammar) (u : View) (r : List ℕ) (p : ℕ) (names : List (List ℕ)) (rest : List Event) (s : Step) (a : List Step) (x : List ℕ) → IsAlong g u (opened_run r p names rest) r (s ∷ a) x → IsFirst g u r p names rest s a x
first_step g u r p names rest s a x al =
    let here : expanded_by (opened_run r p names rest) r ≡ Some (record { production = p; names = names }) = ap (λ b. cond {A = Option Expanded} b (Some (record { production = p; names = names })) (expanded_by rest r)) (bytes_same r r refl) in
    let q : ◌≡◌ {A = Option Expanded} (Some (record { production = p; names = names })) (Some (record { production = s.production; names = al.0 })) = sym here ∙ al.1 in
    let e : ◌≡◌ {A = Expanded} (record { production = p; names = names }) (record { production = s.production; names = al.0 }) = cc in
    let ep : p ≡ s.production = ap (λ (z : Expanded). z.production) e in
    let en : al.0 ≡ names = ap (λ (z : Expanded). z.names) (sym e) in
    record {
      same = λ t. record { production = ep t; position = s.position };
      within = subst (λ z. s.position < length z) en al.2;
      on = subst (λ z. IsAlong g u (opened_run r p names rest) (get_or z s.position []) a x) en al.4;
    }

module _ (g : Grammar) (u : View) (leaf d : Assignment) (wf : IsWellFormed g) (ind : Passes g u leaf AnyProduction d) where
  -- the claim of the law for a run and two addresses, and its parts where one of the addresses is empty
  abbrev DownClaim : List Step → ℕ → List Event → Type 0
  DownClaim b m e = IsSeenModule g u m → (y : List ℕ) → IsAlong g u e (root_of e) b y → (i o : ℕ) → i < inputs_of g m → o < outputs_of g (module_along g m b) → Path (links_with g u leaf m e) (input (root_of e) i) (output y o) ↔ Down g d m b i o

  abbrev UpClaim : List Step → ℕ → List Event → Type 0
  UpClaim a m e = IsSeenModule g u m → (x : List ℕ) → IsAlong g u e (root_of e) a x → (i o : ℕ) → i < inputs_of g (module_along g m a) → o < outputs_of g m → Path (links_with g u leaf m e) (input x i) (output (root_of e) o) ↔ Up g d m a i o

  abbrev Claim : List Step → List Step → ℕ → List Event → Type 0
  Claim a b m e = IsSeenModule g u m → (x y : List ℕ) → IsAlong g u e (root_of e) a x → IsAlong g u e (root_of e) b y → (i o : ℕ) → i < inputs_of g (module_along g m a) → o < outputs_of g (module_along g m b) → Path (links_with g u leaf m e) (input x i) (output y o) ↔ Reaches g d m a b i o

  down_law : (b : List Step) (m : ℕ) (e : List Event) → IsFilled g u leaf d m e → DownClaim b m e
  down_law [] m e x = λ seen y al i o hi ho.
      let j = fill_agrees g u leaf d wf ind m seen e x i o hi ho in
      ((λ w. j.1 (subst (λ z. Path (links_with g u leaf m e) (input (root_of e) i) (output z o)) (sym al) w)), (λ t. subst (λ z. Path (links_with g u leaf m e) (input (root_of e) i) (output z o)) al (j.0 t)))
  down_law (t ∷ b) m e x = by_root g u leaf d (DownClaim (t ∷ b)) shut (opened (down_law b)) m e x
    where
      shut : (m : ℕ) (r : List ℕ) (rest : List Event) → IsLeafRoot g u leaf m r rest → DownClaim (t ∷ b) m (Start r ∷ rest)
      shut m r rest lr seen y al i o hi ho = absurd (lr.no_step (record { production = t.production; names = al.0 }) al.1 al.3)

      opened : ((m : ℕ) (e : List Event) → IsFilled g u leaf d m e → DownClaim b m e) → (r : List ℕ) (p : ℕ) (names : List (List ℕ)) (rest : List Event) → expands u (head_of g p) ≡ true → IsFilled g u leaf d (head_of g p) (opened_run r p names rest) → DownClaim (t ∷ b) (head_of g p) (opened_run r p names rest)
      opened ih r p names rest ex x seen y al i o hi =
          let f = first_step g u r p names rest t b y al in
          let k = t.position in
          let own = along_own g u leaf r p names rest wf x.run ex k f.within b (child names k) y (child_own g u leaf r p names rest wf x.run ex k) f.on in
          subst (λ s. o < outputs_of g (module_along g (head_of g p) (s ∷ b)) → Path (links_with g u leaf (head_of g p) (opened_run r p names rest)) (input r i) (output y o) ↔ Down g d (head_of g p) (s ∷ b) i o) f.same
          (λ ho.
          let one = down g u leaf d wf ind r p names rest seen ex x k f.within i (output y o) (f.within, own.1) in
          let rec : (j : ℕ) → j < inputs_of g (place_module g p k) → Path (links_with g u leaf (place_module g p k) (kid_run names (opened_run r p names rest) k)) (input (child names k) j) (output y o) ↔ Down g d (place_module g p k) b j o =
          λ j hj. ih (place_module g p k) (kid_run names (opened_run r p names rest) k) (kid_expansion g u leaf d wf ind r p names rest seen ex x k f.within) (place_module_seen g u leaf d wf ind r p names rest seen ex x k f.within) y own.0 j o hj ho in
          ((λ w. let q = one.0 w in (q.0, q.1, (rec q.0 q.1.0).0 q.2)), (λ q. one.1 (q.0, q.1, (rec q.0 q.1.0).1 q.2))))

  up_law : (a : List Step) (m : ℕ) (e : List Event) → IsFilled g u leaf d m e → UpClaim a m e
  up_law [] m e x = λ seen y al i o hi ho.
      let j = fill_agrees g u leaf d wf ind m seen e x i o hi ho in
      ((λ w. j.1 (subst (λ z. Path (links_with g u leaf m e) (input z i) (output (root_of e) o)) (sym al) w)), (λ t. subst (λ z. Path (links_with g u leaf m e) (input z i) (output (root_of e) o)) al (j.0 t)))
  up_law (t ∷ a) m e x = by_root g u leaf d (UpClaim (t ∷ a)) shut (opened (up_law a)) m e x
    where
      shut : (m : ℕ) (r : List ℕ) (rest : List Event) → IsLeafRoot g u leaf m r rest → UpClaim (t ∷ a) m (Start r ∷ rest)
      shut m r rest lr seen y al i o hi ho = absurd (lr.no_step (record { production = t.production; names = al.0 }) al.1 al.3)

      opened : ((m : ℕ) (e : List Event) → IsFilled g u leaf d m e → UpClaim a m e) → (r : List ℕ) (p : ℕ) (names : List (List ℕ)) (rest : List Event) → expands u (head_of g p) ≡ true → IsFilled g u leaf d (head_of g p) (opened_run r p names rest) → UpClaim (t ∷ a) (head_of g p) (opened_run r p names rest)
      opened ih r p names rest ex x seen y al i o =
          let f = first_step g u r p names rest t a y al in
          let k = t.position in
          let own = along_own g u leaf r p names rest wf x.run ex k f.within a (child names k) y (child_own g u leaf r p names rest wf x.run ex k) f.on in
          subst (λ s. i < inputs_of g (module_along g (head_of g p) (s ∷ a)) → o < outputs_of g (head_of g p) → Path (links_with g u leaf (head_of g p) (opened_run r p names rest)) (input y i) (output r o) ↔ Up g d (head_of g p) (s ∷ a) i o) f.same
          (λ hi ho.
          let one = up g u leaf d wf ind r p names rest seen ex x k f.within (input y i) o (f.within, own.1) in
          let rec : (j : ℕ) → j < outputs_of g (place_module g p k) → Path (links_with g u leaf (place_module g p k) (kid_run names (opened_run r p names rest) k)) (input y i) (output (child names k) j) ↔ Up g d (place_module g p k) a i j =
          λ j hj. ih (place_module g p k) (kid_run names (opened_run r p names rest) k) (kid_expansion g u leaf d wf ind r p names rest seen ex x k f.within) (place_module_seen g u leaf d wf ind r p names rest seen ex x k f.within) y own.0 i j hi hj in
          ((λ w. let q = one.0 w in (q.0, q.1, (rec q.0 q.1.0).0 q.2)), (λ q. one.1 (q.0, q.1, (rec q.0 q.1.0).1 q.2))))

  crossing : (a b : List Step) (m : ℕ) (e : List Event) → IsFilled g u leaf d m e → Claim a b m e
  crossing [] b m e x = λ seen y z aly alz i o hi ho.
      let q = down_law b m e x seen z alz i o hi ho in
      ((λ w. q.0 (subst (λ n. Path (links_with g u leaf m e) (input n i) (output z o)) (sym aly) w)), (λ t. subst (λ n. Path (links_with g u leaf m e) (input n i) (output z o)) aly (q.1 t)))
  crossing (s ∷ a) [] m e x = λ seen y z aly alz i o hi ho.
      let q = up_law (s ∷ a) m e x seen y aly i o hi ho in
      ((λ w. q.0 (subst (λ n. Path (links_with g u leaf m e) (input y i) (output n o)) (sym alz) w)), (λ t. subst (λ n. Path (links_with g u leaf m e) (input y i) (output n o)) alz (q.1 t)))
  crossing (s ∷ a) (t ∷ b) m e x = by_root g u leaf d (Claim (s ∷ a) (t ∷ b)) shut (opened (crossing a b)) m e x
    where
      shut : (m : ℕ) (r : List ℕ) (rest : List Event) → IsLeafRoot g u leaf m r rest → Claim (s ∷ a) (t ∷ b) m (Start r ∷ rest)
      shut m r rest lr seen y z aly alz i o hi ho = absurd (lr.no_step (record { production = s.production; names = aly.0 }) aly.1 aly.3)

      opened : ((m : ℕ) (e : List Event) → IsFilled g u leaf d m e → Claim a b m e) → (r : List ℕ) (p : ℕ) (names : List (List ℕ)) (rest : List Event) → expands u (head_of g p) ≡ true → IsFilled g u leaf d (head_of g p) (opened_run r p names rest) → Claim (s ∷ a) (t ∷ b) (head_of g p) (opened_run r p names rest)
      opened ih r p names rest ex x seen y z aly alz i o =
          let fs = first_step g u r p names rest s a y aly in
          let ft = first_step g u r p names rest t b z alz in
          let k = s.position in
          let l = t.position in
          let owny = along_own g u leaf r p names rest wf x.run ex k fs.within a (child names k) y (child_own g u leaf r p names rest wf x.run ex k) fs.on in
          let ownz = along_own g u leaf r p names rest wf x.run ex l ft.within b (child names l) z (child_own g u leaf r p names rest wf x.run ex l) ft.on in
          subst (λ n. i < inputs_of g (module_along g (head_of g p) (n ∷ a)) → o < outputs_of g (module_along g (head_of g p) (t ∷ b)) → Path (links_with g u leaf (head_of g p) (opened_run r p names rest)) (input y i) (output z o) ↔ Reaches g d (head_of g p) (n ∷ a) (t ∷ b) i o) fs.same
          (subst (λ n. i < inputs_of g (module_along g (place_module g p k) a) → o < outputs_of g (module_along g (head_of g p) (n ∷ b)) → Path (links_with g u leaf (head_of g p) (opened_run r p names rest)) (input y i) (output z o) ↔ Reaches g d (head_of g p) (step_to p k ∷ a) (n ∷ b) i o) ft.same
          (λ hi ho.
          let kx = kid_expansion g u leaf d wf ind r p names rest seen ex x in
          let ks = place_module_seen g u leaf d wf ind r p names rest seen ex x in
          let upk : (j : ℕ) → j < outputs_of g (place_module g p k) → Path (links_with g u leaf (place_module g p k) (kid_run names (opened_run r p names rest) k)) (input y i) (output (child names k) j) ↔ Up g d (place_module g p k) a i j =
          λ j hj. up_law a (place_module g p k) (kid_run names (opened_run r p names rest) k) (kx k fs.within) (ks k fs.within) y owny.0 i j hi hj in
          let downl : (j : ℕ) → j < inputs_of g (place_module g p l) → Path (links_with g u leaf (place_module g p l) (kid_run names (opened_run r p names rest) l)) (input (child names l) j) (output z o) ↔ Down g d (place_module g p l) b j o =
          λ j hj. down_law b (place_module g p l) (kid_run names (opened_run r p names rest) l) (kx l ft.within) (ks l ft.within) z ownz.0 j o hj ho in
          let same : k ≡ l → Path (links_with g u leaf (place_module g p k) (kid_run names (opened_run r p names rest) k)) (input y i) (output z o) ↔ Reaches g d (place_module g p k) a b i o =
          λ q. ih (place_module g p k) (kid_run names (opened_run r p names rest) k) (kx k fs.within) (ks k fs.within) y z owny.0
          (subst (λ n. IsAlong g u (kid_run names (opened_run r p names rest) n) (child names n) b z) (sym q) ownz.0) i o hi
          (subst (λ n. o < outputs_of g (module_along g (place_module g p n) b)) (sym q) ho) in (
            (λ w. ⊎_elim
                (λ c. inl (c.0, (same c.0).0 c.1))
                (λ c. let v = c.1 in inr (c.0, (v.0, v.1, v.2, v.3, (upk v.0 v.2).0 v.4, v.5, (downl v.1 v.3).0 v.6)))
                (out_and_in g u leaf d wf ind r p names rest seen ex x k l fs.within ft.within (input y i) (output z o) (fs.within, owny.1) (ft.within, ownz.1) w)),
            (λ w. ⊎_elim
                (λ c. kid_path g u leaf d wf ind r p names rest seen ex x k fs.within (input y i) (output z o) ((same c.0).1 c.1))
                (λ c. let v = c.1 in cross_path g u leaf d wf ind r p names rest seen ex x k l fs.within ft.within (input y i) (output z o) v.0 v.1 ((upk v.0 v.2).1 v.4) v.5 ((downl v.1 v.3).1 v.6))
                w),
          )))

pub crossing_law : CrossingLaw
crossing_law g u d wf ind m seen e x a b y z aly alz i o hi ho =
    crossing g u (perceived u) d wf (passes_all g u d ind) a b m e (filled_expansion g u d m e x) seen y z aly alz i o hi ho

pub along_kept : (g : Grammar) (u : View) (e more : List Event) (a : List Step) (n x : List ℕ) → IsAlong g u e n a x → IsAlong g u (e ++ more) n a x
along_kept g u e more [] n x h = h
along_kept g u e more (s ∷ a) n x h = (h.0, expansion_kept e more n _ h.1, h.2, h.3, along_kept g u e more a (get_or h.0 s.position []) x h.4)

pub same_root : (g : Grammar) (m : ℕ) (e more : List Event) → e ≢ [] → IsRun g m e → root_of (e ++ more) ≡ root_of e
same_root g m [] more ne _ = absurd (ne refl)
same_root g m (Start r ∷ e) more ne _ = refl
same_root g m (Expand i p names ∷ e) more ne _ = refl

pub more_started : (e more : List Event) → e ≢ [] → e ++ more ≢ []
more_started [] more ne = absurd (ne refl)
more_started (x ∷ e) more ne = λ q. (cc)

pub pending_law : PendingLaw
pending_law g u d wf ind m seen e more ne run fin a b x y alx aly i o hi ho =
    let filled : IsFilled g u d d m e = record { run = run; started = ne; filled = inr (λ m s ex i o hi ho. refl) } in
    let whole : IsExpansion g u m (e ++ more) = record { run = fin.run; started = more_started e more ne; finished = fin.finished } in
    let rt = same_root g m e more ne run in
    let p = crossing g u d d wf (record { shown = λ m s ex i o hi ho. refl; induced = λ p r c. ind.induced p r }) a b m e filled seen x y alx aly i o hi ho in
    let q = crossing_law g u d wf ind m seen (e ++ more) whole a b x y
    (subst (λ n. IsAlong g u (e ++ more) n a x) (sym rt) (along_kept g u e more a (root_of e) x alx))
    (subst (λ n. IsAlong g u (e ++ more) n b y) (sym rt) (along_kept g u e more b (root_of e) y aly)) i o hi ho in
    ((λ w. q.1 (p.0 w)), (λ w. p.1 (q.0 w)))
